-- Where a limit is passed, the first fault is at that token or before it.
use Rattle.std.proofs.Common.{◌≡◌, ◌≢◌, Result, Ok, Err, subst, ◌⊎◌, inl, inr, ℕ, zero, suc, ◌+◌, ◌-◌, ◌≤◌, ◌<◌, Bool, true, false, ◌&&◌, ◌||◌, ◌==◌, List, [], ◌∷◌, ◌++◌, length, get_or, take, drop, Option, Some, None, refl, sym, ap, ◌∙◌, length-append, arith, codes}
use Rattle.std.proofs.lemmas.List.{append-nil, take-append-drop}
use Rattle.std.specs.Prelude.{nat_le, if◌then◌else◌, option_to_list}
use Rattle.cob_lex.specs.declared.fault.SourceFault.{SourceFault}
use Rattle.cob_lex.specs.declared.fault.SourceKind.TheVariants as faults
use Rattle.cob_lex.specs.declared.token.Token.{Token}
use Rattle.cob_lex.specs.Order.{AreInOrder, StandsBeforeAll}
use Rattle.std.proofs.lemmas.Bool.Decides.{nat_tests}
use Rattle.cob_lex.specs.declared.token.TokenKind.TheVariants as tokens
use Rattle.cob_forms.specs.Sorts.{is, name, of_kind, reserved}
use Rattle.cob_forms.proofs.Only.{apart, none_starts}
use Rattle.cob_forms.specs.Forms.{Reading, ends, wanted, reading}
use Rattle.cob_forms.specs.Faults.{at_first, counting, earlier, fault, first, is_before, noted, wanted_word}
use Rattle.cob_forms.proofs.Order.{AreBehind, behind_all, first-append, grouped, not_first, not_later, paired, swapped}
use Rattle.cob_forms.proofs.Prefixes.{Passed, Within, passes, stops, within}
use Rattle.cob_proc.specs.Forms as forms
use Rattle.cob_proc.specs.Forms.{constant_alternatives, procedure_division, relation_alternatives, alternatives_of}
use Rattle.cob_proc.specs.declared.limits.TheConstants.{MAX_IFS, MAX_PARAGRAPHS}
use Rattle.cob_proc.specs.Faults.{bad_columns, deep_ifs, faults_by, named_again, names_paragraph, paragraph_names, procedure_fault, read_faults, too_many, without_identifier}
use Rattle.cob_proc.specs.DivisionReaders.{read_procedure}
use Rattle.cob_proc.specs.Limits.{ifs_behind, last_or, left_of, limit_place}
use Rattle.cob_proc.proofs.LimitPlaces.{PassesAt, passes_at}
use Rattle.cob_proc.proofs.DivisionAgrees.{ended, procedure_agrees}
use Rattle.cob_proc.proofs.Families.{first_of_all, length_more, take_front}
use Rattle.cob_proc.proofs.Cuts.{IsNoPart, again_apart, again_later, columns_apart, columns_later, constants_apart, constants_later, ifs_apart, ifs_later, names_apart, names_later, noted_behind, surplus_apart}

-- faults that come to nothing beside one that is no later than a fault
abbrev Yields : SourceFault → Option SourceFault → Type 0
Yields f o = (g : SourceFault) → is_before f g ≡ false → earlier o (Some g) ≡ Some g

yields_list : (f : SourceFault) (ys : List SourceFault) → AreBehind f ys → Yields f (first ys)
yields_list f ys h g k = not_first g ys (behind_all f g ys k h)

yields_both : (f : SourceFault) (a b : Option SourceFault) → Yields f a → Yields f b → Yields f (earlier a b)
yields_both f a b h k g n = sym (grouped a b (Some g)) ∙ ap (earlier a) (k g n) ∙ h g n

-- a family of faults, of some tokens and of those behind
record Split (f : SourceFault) (all here : List SourceFault) : Type 0 where
  others : Option SourceFault
  both : first all ≡ earlier (first here) others
  yields : Yields f others

split_by : (f : SourceFault) (all here others : List SourceFault) → all ≡ here ++ others → AreBehind f others → Split f all here
split_by f all here others e h = record { others = first others; both = ap first e ∙ first-append here others; yields = yields_list f others h }

five_paired : (a1 g1 a2 g2 a3 g3 a4 g4 a5 g5 : Option SourceFault)
    → earlier (earlier (earlier (earlier (earlier a1 g1) (earlier a2 g2)) (earlier a3 g3)) (earlier a4 g4)) (earlier a5 g5)
    ≡ earlier (earlier (earlier (earlier (earlier a1 a2) a3) a4) a5) (earlier (earlier (earlier (earlier g1 g2) g3) g4) g5)
five_paired a1 g1 a2 g2 a3 g3 a4 g4 a5 g5 =
    ap (λ o. earlier o (earlier a5 g5)) (ap (λ o. earlier o (earlier a4 g4)) (ap (λ o. earlier o (earlier a3 g3)) (paired a1 g1 a2 g2) ∙ paired (earlier a1 a2) (earlier g1 g2) a3 g3)
    ∙ paired (earlier (earlier a1 a2) a3) (earlier (earlier g1 g2) g3) a4 g4)
    ∙ paired (earlier (earlier (earlier a1 a2) a3) a4) (earlier (earlier (earlier g1 g2) g3) g4) a5 g5

module _ (ts us : List Token) (x : Token) (later : StandsBeforeAll x us) (no_part : IsNoPart x) where
  abbrev up_to_x : List Token
  up_to_x = ts ++ x ∷ []

  abbrev at_x : SourceFault
  at_x = fault x.line x.column faults.OverLimit

  columns : Split at_x (bad_columns None (up_to_x ++ us)) (bad_columns None up_to_x)
  columns = split_by at_x _ _ (bad_columns (last_or None up_to_x) us) (columns_apart None up_to_x us) (columns_later faults.OverLimit x (last_or None up_to_x) us later)

  again : Split at_x (named_again [] (paragraph_names None (up_to_x ++ us))) (named_again [] (paragraph_names None up_to_x))
  again = split_by at_x _ _ _ (ap (named_again []) (names_apart None up_to_x us) ∙ again_apart [] (paragraph_names None up_to_x) (paragraph_names (last_or None up_to_x) us))
      (again_later faults.OverLimit x _ (paragraph_names (last_or None up_to_x) us) (names_later x (last_or None up_to_x) us later))

  surplus : Split at_x (too_many MAX_PARAGRAPHS (paragraph_names None (up_to_x ++ us))) (too_many MAX_PARAGRAPHS (paragraph_names None up_to_x))
  surplus =
      let s = surplus_apart faults.OverLimit x MAX_PARAGRAPHS (paragraph_names None up_to_x) (paragraph_names (last_or None up_to_x) us) (names_later x (last_or None up_to_x) us later) in
      split_by at_x _ _ s.others (ap (too_many MAX_PARAGRAPHS) (names_apart None up_to_x us) ∙ s.both) s.behind

  deep : Split at_x (deep_ifs MAX_IFS [] (up_to_x ++ us)) (deep_ifs MAX_IFS [] up_to_x)
  deep = split_by at_x _ _ _ (ifs_apart MAX_IFS [] up_to_x us) (ifs_later faults.OverLimit x MAX_IFS _ us later)

  constants : Split at_x (without_identifier (up_to_x ++ us)) (without_identifier up_to_x)
  constants = split_by at_x _ _ (without_identifier us) (constants_apart ts x us no_part ∙ ap (λ r. without_identifier r ++ without_identifier us) (append-nil up_to_x)) (constants_later faults.OverLimit x us later)

  -- all of them
  all_others : Option SourceFault
  all_others = earlier (earlier (earlier (earlier columns.others again.others) surplus.others) deep.others) constants.others

  all_yield : Yields at_x all_others
  unfolding all_others
  all_yield = yields_both at_x _ _ (yields_both at_x _ _ (yields_both at_x _ _ (yields_both at_x _ _ columns.yields again.yields) surplus.yields) deep.yields) constants.yields

  all_both : first (read_faults (up_to_x ++ us)) ≡ earlier (first (read_faults up_to_x)) all_others
  unfolding all_others
  all_both =
      first_of_all (up_to_x ++ us)
      ∙ rw (columns.both, again.both, surplus.both, deep.both, constants.both) (five_paired _ columns.others _ again.others _ surplus.others _ deep.others _ constants.others)
      ∙ ap (λ a. earlier a all_others) (sym (first_of_all up_to_x))

-- the tokens that count, and the stop
next_place : (n k : ℕ) → suc n + k ≡ suc (n + k)
next_place n k = omega arith

take_more : (ts us : List Token) (k : ℕ) → take (length ts + k) (ts ++ us) ≡ ts ++ take k us
take_more [] us k = let same : 0 + k ≡ k = omega arith in ap (λ n. take n us) same
take_more (t ∷ ts) us k = ap (λ n. take n (t ∷ (ts ++ us))) (next_place (length ts) k) ∙ ap (λ vs. t ∷ vs) (take_more ts us k)

drop_more : (ts us : List Token) (k : ℕ) → drop (length ts + k) (ts ++ us) ≡ drop k us
drop_more [] us k = let same : 0 + k ≡ k = omega arith in ap (λ n. drop n us) same
drop_more (t ∷ ts) us k = ap (λ n. drop n (t ∷ (ts ++ us))) (next_place (length ts) k) ∙ drop_more ts us k

less_more : (n m l k : ℕ) → n ≡ m + l → k ≤ l → n - k ≡ m + (l - k)
less_more n m l k e h = omega (arith, e, h)

place_of : (ts us : List Token) (k : ℕ) → k ≤ length us → length (ts ++ us) - k ≡ length ts + (length us - k)
place_of ts us k h = less_more (length (ts ++ us)) (length ts) (length us) k (length-append ts us) h

later_taken : (x : Token) (k : ℕ) (us : List Token) → StandsBeforeAll x us → StandsBeforeAll x (take k us)
later_taken x zero us h = tt
later_taken x (suc k) [] h = tt
later_taken x (suc k) (u ∷ us) h = (h.0, later_taken x k us h.1)

-- where reading stops behind the cut, that is at a token behind it
first_stop : (x : Token) (k : ℕ) (us : List Token) → k < length us → StandsBeforeAll x us → AreBehind (fault x.line x.column faults.OverLimit) (at_first faults.WantedWord (drop k us) ∷ [])
first_stop x k [] lt h = absurd (omega (arith, lt))
first_stop x zero (u ∷ us) lt h = noted_behind faults.OverLimit x u true faults.WantedWord h.0
first_stop x (suc k) (u ∷ us) lt h = first_stop x k us (omega (arith, lt)) h.1

-- the tokens that count, and the stop
record Counted (x : Token) (ts us : List Token) (read : Reading) : Type 0 where
  others : List Token
  both : counting (ts ++ us) read ≡ ts ++ others
  later : StandsBeforeAll x others
  stop : AreBehind (fault x.line x.column faults.OverLimit) (option_to_list (wanted_word (ts ++ us) read))

stopped : (x : Token) (ts us : List Token) (m : ℕ) → 0 < m → m ≤ length us → StandsBeforeAll x us → AreBehind (fault x.line x.column faults.OverLimit) (at_first faults.WantedWord (drop (length (ts ++ us) - m) (ts ++ us)) ∷ [])
stopped x ts us m some le h =
    let same : drop (length (ts ++ us) - m) (ts ++ us) ≡ drop (length us - m) us = ap (λ n. drop n (ts ++ us)) (place_of ts us m le) ∙ drop_more ts us (length us - m) in
    rw same (first_stop x (length us - m) us (omega (arith, some, le)) h)

taken : (ts us : List Token) (m : ℕ) → m ≤ length us → take (length (ts ++ us) - m) (ts ++ us) ≡ ts ++ take (length us - m) us
taken ts us m le = ap (λ n. take n (ts ++ us)) (place_of ts us m le) ∙ take_more ts us (length us - m)

counted : (x : Token) (ts us : List Token) (read : Reading) → 0 < length us → Within (length us) read → StandsBeforeAll x us → Counted x ts us read
counted x ts us (ends rest) some h later = record { others = take (length us - length rest) us; both = taken ts us (length rest) h; later = later_taken x (length us - length rest) us later; stop = tt }
counted x ts us (wanted zero) some h later =
    record { others = take (length us - 1) us; both = taken ts us 1 (omega (arith, some)); later = later_taken x (length us - 1) us later; stop = stopped x ts us 1 (omega arith) (omega (arith, some)) later }
counted x ts us (wanted (suc left)) some h later =
    record { others = take (length us - suc left) us; both = taken ts us (suc left) h; later = later_taken x (length us - suc left) us later; stop = stopped x ts us (suc left) (omega arith) h later }

-- a fault among others
abbrev Has : SourceFault → List SourceFault → Type 0
Has f [] = ⊥
Has f (y ∷ ys) = (y ≡ f) ⊎ Has f ys

has_left : (f : SourceFault) (xs ys : List SourceFault) → Has f xs → Has f (xs ++ ys)
has_left f [] ys h = absurd h
has_left f (x ∷ xs) ys (inl e) = inl e
has_left f (x ∷ xs) ys (inr h) = inr (has_left f xs ys h)

has_right : (f : SourceFault) (xs ys : List SourceFault) → Has f ys → Has f (xs ++ ys)
has_right f [] ys h = h
has_right f (x ∷ xs) ys h = inr (has_right f xs ys h)

same_twice : (f : SourceFault) (b : Bool) → (if b then Some f else Some f) ≡ Some f
same_twice f true = refl
same_twice f false = refl

twice : (f : SourceFault) (o : Option SourceFault) → earlier (Some f) (earlier (Some f) o) ≡ earlier (Some f) o
twice f o = grouped (Some f) (Some f) o ∙ ap (λ a. earlier a o) (same_twice f (is_before f f))

kept : (f : SourceFault) (ys : List SourceFault) → Has f ys → earlier (Some f) (first ys) ≡ first ys
kept f [] h = absurd h
kept f (y ∷ ys) (inl e) = rw e (twice f (first ys))
kept f (y ∷ ys) (inr h) =
    grouped (Some f) (Some y) (first ys) ∙ ap (λ a. earlier a (first ys)) (swapped (Some f) (Some y)) ∙ sym (grouped (Some y) (Some f) (first ys)) ∙ ap (earlier (Some y)) (kept f ys h)

-- a limit is passed at the last token
over_at : (ns : List Token) (x : Token) (n : ℕ) → length ns ≡ n → too_many n (ns ++ x ∷ []) ≡ noted true faults.OverLimit x
over_at [] x zero e = refl
over_at [] x (suc n) e = let no : ⊥ = cc in absurd no
over_at (t ∷ ts) x zero e = let no : ⊥ = cc in absurd no
over_at (t ∷ ts) x (suc n) e = over_at ts x n (omega (arith, e))

abbrev Over : List Token → Token → Type 0
Over ts x = Has (fault x.line x.column faults.OverLimit) (read_faults (ts ++ x ∷ []))

over_deep : (ts : List Token) (x : Token) → is (reserved (codes "IF")) x ≡ true → nat_le MAX_IFS (length (ifs_behind [] ts)) ≡ true → Over ts x
over_deep ts x h k =
    let f = fault x.line x.column faults.OverLimit in
    let one : Has f (deep_ifs MAX_IFS [] (ts ++ x ∷ [])) = rw (ifs_apart MAX_IFS [] ts (x ∷ [])) (has_right f (deep_ifs MAX_IFS [] ts) _ (rw (h, k) (inl refl))) in
    has_left f (((bad_columns None (ts ++ x ∷ []) ++ named_again [] (paragraph_names None (ts ++ x ∷ []))) ++ too_many MAX_PARAGRAPHS (paragraph_names None (ts ++ x ∷ []))) ++ deep_ifs MAX_IFS [] (ts ++ x ∷ [])) _
    (has_right f ((bad_columns None (ts ++ x ∷ []) ++ named_again [] (paragraph_names None (ts ++ x ∷ []))) ++ too_many MAX_PARAGRAPHS (paragraph_names None (ts ++ x ∷ []))) _ one)

over_surplus : (ts : List Token) (x : Token) → names_paragraph (last_or None ts) x ≡ true → length (paragraph_names None ts) ≡ MAX_PARAGRAPHS → Over ts x
over_surplus ts x h e =
    let f = fault x.line x.column faults.OverLimit in
    let names : paragraph_names None (ts ++ x ∷ []) ≡ paragraph_names None ts ++ x ∷ [] = names_apart None ts (x ∷ []) ∙ rw h refl in
    let one : Has f (too_many MAX_PARAGRAPHS (paragraph_names None (ts ++ x ∷ []))) = rw (ap (too_many MAX_PARAGRAPHS) names ∙ over_at (paragraph_names None ts) x MAX_PARAGRAPHS e) (inl refl) in
    has_left f (((bad_columns None (ts ++ x ∷ []) ++ named_again [] (paragraph_names None (ts ++ x ∷ []))) ++ too_many MAX_PARAGRAPHS (paragraph_names None (ts ++ x ∷ []))) ++ deep_ifs MAX_IFS [] (ts ++ x ∷ [])) _
    (has_left f ((bad_columns None (ts ++ x ∷ []) ++ named_again [] (paragraph_names None (ts ++ x ∷ []))) ++ too_many MAX_PARAGRAPHS (paragraph_names None (ts ++ x ∷ []))) _
    (has_right f (bad_columns None (ts ++ x ∷ []) ++ named_again [] (paragraph_names None (ts ++ x ∷ []))) _ one))

-- The first fault is that of the tokens up to the cut.
cut_fault : (ts us : List Token) (x : Token) (g : SourceFault) → StandsBeforeAll x us → 0 < length us → IsNoPart x → Over ts x → Passed (reading alternatives_of procedure_division (ts ++ x ∷ []))
    → earlier (Some (fault x.line x.column faults.OverLimit)) (first (read_faults (ts ++ x ∷ []))) ≡ Some g → procedure_fault ((ts ++ x ∷ []) ++ us) ≡ Some g
cut_fault ts us x g later some no_part over passed e =
    let f = fault x.line x.column faults.OverLimit in
    let all = (ts ++ x ∷ []) ++ us in
    let read = reading alternatives_of procedure_division all in
    let c = counted x (ts ++ x ∷ []) us read some (passes alternatives_of procedure_division (ts ++ x ∷ []) us passed) later in
    let here : first (read_faults (ts ++ x ∷ [])) ≡ Some g = sym (kept f (read_faults (ts ++ x ∷ [])) over) ∙ e in
    let none : is_before f g ≡ false = not_later f g (first (read_faults (ts ++ x ∷ []))) e in
    first-append (option_to_list (wanted_word all read)) (read_faults (counting all read))
    ∙ ap (earlier (first (option_to_list (wanted_word all read))))
    (ap (λ v. first (read_faults v)) c.both ∙ all_both ts c.others x c.later no_part ∙ ap (λ a. earlier a (all_others ts c.others x c.later no_part)) here
    ∙ swapped (Some g) (all_others ts c.others x c.later no_part) ∙ all_yield ts c.others x c.later no_part g none)
    ∙ yields_list f (option_to_list (wanted_word all read)) c.stop g none

-- Where reading stops before the cut, what stands behind it does not matter.
take_less : (ts us : List Token) (k : ℕ) → k ≤ length ts → take k (ts ++ us) ≡ take k ts
take_less ts us zero le = refl
take_less [] us (suc k) le = absurd (omega (arith, le))
take_less (t ∷ ts) us (suc k) le = ap (λ vs. t ∷ vs) (take_less ts us k (omega (arith, le)))

first_less : (ts us : List Token) (k : ℕ) → k < length ts → at_first faults.WantedWord (drop k (ts ++ us)) ≡ at_first faults.WantedWord (drop k ts)
first_less [] us k lt = absurd (omega (arith, lt))
first_less (t ∷ ts) us zero lt = refl
first_less (t ∷ ts) us (suc k) lt = first_less ts us k (omega (arith, lt))

stop_before : (ts us : List Token) (left : ℕ) → suc left ≤ length ts → reading alternatives_of procedure_division ts ≡ wanted (suc left) → procedure_fault (ts ++ us) ≡ first (faults_by ts (wanted (suc left)))
stop_before ts us left le e =
    let m : ℕ = left + length us in
    let all : List Token = ts ++ us in
    let read : reading alternatives_of procedure_division all ≡ wanted (suc m) = stops alternatives_of procedure_division ts us left e ∙ ap wanted (next_place left (length us)) in
    let place : length all - suc m ≡ length ts - suc left = omega (arith, length-append ts us) in
    let front : take (length all - suc m) all ≡ take (length ts - suc left) ts = ap (λ n. take n all) place ∙ take_less ts us (length ts - suc left) (omega arith) in
    let stop : at_first faults.WantedWord (drop (length all - suc m) all) ≡ at_first faults.WantedWord (drop (length ts - suc left) ts) =
    ap (λ n. at_first faults.WantedWord (drop n all)) place ∙ first_less ts us (length ts - suc left) (omega (arith, le)) in
    ap (λ r. first (faults_by all r)) read ∙ ap (λ v. first (at_first faults.WantedWord (drop (length all - suc m) all) ∷ read_faults v)) front ∙ ap (λ s. first (s ∷ read_faults (take (length ts - suc left) ts))) stop

-- what passes a limit is no part of a comparison
if_no_part : (x : Token) → is (reserved (codes "IF")) x ≡ true → IsNoPart x
if_no_part x h = record {
  constant = none_starts constant_alternatives (x ∷ []) (apart (reserved (codes "IF")) (of_kind tokens.Literal) x h refl, (apart (reserved (codes "IF")) (of_kind tokens.Number) x h refl, (apart (reserved (codes "IF")) (reserved (codes "SPACE")) x h refl, (apart (reserved (codes "IF")) (reserved (codes "SPACES")) x h refl, (apart (reserved (codes "IF")) (reserved (codes "ZERO")) x h refl, (apart (reserved (codes "IF")) (reserved (codes "ZEROS")) x h refl, (apart (reserved (codes "IF")) (reserved (codes "ZEROES")) x h refl, tt)))))));
  relation = none_starts relation_alternatives (x ∷ []) (apart (reserved (codes "IF")) (of_kind tokens.Equal) x h refl, (apart (reserved (codes "IF")) (reserved (codes "EQUAL")) x h refl, (apart (reserved (codes "IF")) (of_kind tokens.Greater) x h refl, (apart (reserved (codes "IF")) (reserved (codes "GREATER")) x h refl, (apart (reserved (codes "IF")) (of_kind tokens.Less) x h refl, (apart (reserved (codes "IF")) (reserved (codes "LESS")) x h refl, tt))))));
  is_word = apart (reserved (codes "IF")) (reserved (codes "IS")) x h refl;
  not_word = apart (reserved (codes "IF")) (reserved (codes "NOT")) x h refl;
  than_word = apart (reserved (codes "IF")) (reserved (codes "THAN")) x h refl;
  to_word = apart (reserved (codes "IF")) (reserved (codes "TO")) x h refl;
}

title_no_part : (x : Token) → is name x ≡ true → IsNoPart x
title_no_part x h = record {
  constant = none_starts constant_alternatives (x ∷ []) (apart name (of_kind tokens.Literal) x h refl, (apart name (of_kind tokens.Number) x h refl, (apart name (reserved (codes "SPACE")) x h refl, (apart name (reserved (codes "SPACES")) x h refl, (apart name (reserved (codes "ZERO")) x h refl, (apart name (reserved (codes "ZEROS")) x h refl, (apart name (reserved (codes "ZEROES")) x h refl, tt)))))));
  relation = none_starts relation_alternatives (x ∷ []) (apart name (of_kind tokens.Equal) x h refl, (apart name (reserved (codes "EQUAL")) x h refl, (apart name (of_kind tokens.Greater) x h refl, (apart name (reserved (codes "GREATER")) x h refl, (apart name (of_kind tokens.Less) x h refl, (apart name (reserved (codes "LESS")) x h refl, tt))))));
  is_word = apart name (reserved (codes "IS")) x h refl;
  not_word = apart name (reserved (codes "NOT")) x h refl;
  than_word = apart name (reserved (codes "THAN")) x h refl;
  to_word = apart name (reserved (codes "TO")) x h refl;
}

-- a test by cases
one_of_two : (a b : Bool) → (a || b) ≡ true → (a ≡ true) ⊎ (b ≡ true)
one_of_two true b h = inl refl
one_of_two false b h = inr h

both_first : (a b : Bool) → (a && b) ≡ true → a ≡ true
both_first true b h = refl
both_first false b h = h

both_second : (a b : Bool) → (a && b) ≡ true → b ≡ true
both_second true b h = h
both_second false b h = let no : ⊥ = cc in absurd no

same_count : (most n : ℕ) → (n == most) ≡ true → n ≡ most
same_count most n h = grind (arith, nat_tests)

named_title : (before : Option Token) (x : Token) → names_paragraph before x ≡ true → is name x ≡ true
named_title None x h = let no : ⊥ = cc in absurd no
named_title (Some before) x h = both_second (is forms.period before) (is name x) h

over_by : (ts : List Token) (x : Token) → (is (reserved (codes "IF")) x && nat_le MAX_IFS (length (ifs_behind [] ts))) ≡ true ⊎ (names_paragraph (last_or None ts) x && length (paragraph_names None ts) == MAX_PARAGRAPHS) ≡ true
    → Over ts x × IsNoPart x
over_by ts x (inl h) = (over_deep ts x (both_first _ _ h) (both_second _ _ h), if_no_part x (both_first _ _ h))
over_by ts x (inr h) = (over_surplus ts x (both_first _ _ h) (same_count MAX_PARAGRAPHS (length (paragraph_names None ts)) (both_second _ _ h)), title_no_part x (named_title (last_or None ts) x (both_first _ _ h)))

later_of : (front : List Token) (x : Token) (us : List Token) → AreInOrder ((front ++ x ∷ []) ++ us) → StandsBeforeAll x us
later_of [] x us h = h.0
later_of (t ∷ ts) x us h = later_of ts x us h.1

there_at : (front : List Token) (x d : Token) (us : List Token) → get_or ((front ++ x ∷ []) ++ us) (length front) d ≡ x
there_at [] x d us = refl
there_at (t ∷ ts) x d us = there_at ts x d us

-- what is known of tokens where a limit is passed
record Cut (tokens : List Token) (at : ℕ) : Type 0 where
  pub front : List Token
  pub token : Token
  pub behind : List Token
  pub split : tokens ≡ (front ++ token ∷ []) ++ behind
  pub reach : take (at + 1) tokens ≡ front ++ token ∷ []
  pub there : (d : Token) → get_or tokens at d ≡ token
  pub some : at + 1 < length tokens → 0 < length behind
  pub over : Over front token
  pub no_part : IsNoPart token

cut_at : (tokens : List Token) (at : ℕ) → PassesAt tokens at → Cut tokens at
cut_at tokens at p =
    let more : at + 1 ≡ length (p.front ++ p.token ∷ []) = ap (λ n. n + 1) p.place ∙ sym (length_more p.front p.token) in
    let both : length tokens ≡ length (p.front ++ p.token ∷ []) + length p.behind = ap length p.split ∙ length-append (p.front ++ p.token ∷ []) p.behind in
    let o = over_by p.front p.token (one_of_two _ _ p.passes) in
    record {
      front = p.front;
      token = p.token;
      behind = p.behind;
      split = p.split;
      reach = ap (λ n. take n tokens) more ∙ ap (take (length (p.front ++ p.token ∷ []))) p.split ∙ take_front (p.front ++ p.token ∷ []) p.behind;
      there = λ d. ap (λ n. get_or tokens n d) p.place ∙ ap (λ ts. get_or ts (length p.front) d) p.split ∙ there_at p.front p.token d p.behind;
      some = λ lt. omega (arith, more, both, lt);
      over = o.0;
      no_part = o.1;
    }

-- reading by what was read
passed_end : {A : Type 0} (read : Result A ℕ) → left_of read ≡ 0 → Passed (ended read)
passed_end (Ok x) none = tt
passed_end (Err zero) none = tt
passed_end (Err (suc left)) none = let no : ⊥ = cc in absurd no

stopped_end : {A : Type 0} (read : Result A ℕ) (left : ℕ) → left_of read ≡ suc left → ended read ≡ wanted (suc left)
stopped_end (Ok x) left some = let no : ⊥ = cc in absurd no
stopped_end (Err m) left some = ap wanted some

within_by : (ts : List Token) (left : ℕ) → reading alternatives_of procedure_division ts ≡ wanted left → left ≤ length ts
within_by ts left read = let h : Within (length ts) (wanted left) = rw read at (within alternatives_of procedure_division ts) in h

passed_by : (ts : List Token) → left_of (read_procedure ts) ≡ 0 → Passed (reading alternatives_of procedure_division ts)
passed_by ts none = rw (procedure_agrees ts) (passed_end (read_procedure ts) none)

stopped_by : (ts : List Token) (left : ℕ) → left_of (read_procedure ts) ≡ suc left → reading alternatives_of procedure_division ts ≡ wanted (suc left)
stopped_by ts left some = procedure_agrees ts ∙ stopped_end (read_procedure ts) left some

-- where all tokens up to the limit are read
pub passed_fault : (tokens reach : List Token) (at : ℕ) (x : Token) (g : SourceFault) → limit_place tokens ≡ Some at → AreInOrder tokens → at + 1 < length tokens → reach ≡ take (at + 1) tokens → x ≡ get_or tokens at x
    → left_of (read_procedure reach) ≡ 0 → earlier (Some (fault x.line x.column faults.OverLimit)) (first (read_faults reach)) ≡ Some g → procedure_fault tokens ≡ Some g
passed_fault tokens reach at x g p order lt e is none found =
    let c = cut_at tokens at (passes_at tokens at p) in
    let all : reach ≡ c.front ++ c.token ∷ [] = e ∙ c.reach in
    let one : x ≡ c.token = is ∙ c.there x in
    let Found : Token → List Token → Type 0 = λ t ts. earlier (Some (fault t.line t.column faults.OverLimit)) (first (read_faults ts)) ≡ Some g in
    let found2 : Found c.token (c.front ++ c.token ∷ []) = subst (Found c.token) all (subst (λ (t : Token). Found t reach) one found) in
    let passed : Passed (reading alternatives_of procedure_division (c.front ++ c.token ∷ [])) = passed_by (c.front ++ c.token ∷ []) (rw (← all) none) in
    ap procedure_fault c.split ∙ cut_fault c.front c.behind c.token g (later_of c.front c.token c.behind (rw c.split at order)) (c.some lt) c.no_part c.over passed found2

-- where reading stops before it
pub stopped_fault : (tokens reach : List Token) (at left : ℕ) → reach ≡ take (at + 1) tokens → left ≢ 0 → left ≡ left_of (read_procedure reach) → procedure_fault tokens ≡ first (faults_by reach (wanted left))
stopped_fault tokens reach at zero e some h = absurd (some refl)
stopped_fault tokens reach at (suc left) e some h =
    let all : tokens ≡ reach ++ drop (at + 1) tokens = sym (take-append-drop (at + 1) tokens) ∙ ap (λ r. r ++ drop (at + 1) tokens) (sym e) in
    let read : reading alternatives_of procedure_division reach ≡ wanted (suc left) = stopped_by reach left (sym h) in
    ap procedure_fault all ∙ stop_before reach (drop (at + 1) tokens) left (within_by reach (suc left) read) read
