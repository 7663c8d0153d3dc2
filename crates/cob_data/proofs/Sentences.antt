-- Sentences: tokens of some sorts, closed by one of another sort. Whether parts read a sentence is
-- computed from their sorts alone.
use Rattle.std.proofs.Common.{◌≡◌, ℕ, zero, suc, Bool, true, false, ◌&&◌, ◌||◌, List, [], ◌∷◌, ◌++◌, length, Option, Some, None, refl, sym, ap, ◌∙◌, inl, inr, append_assoc}
use Rattle.std.specs.Prelude.{◌⊎◌, if◌then◌else◌}
use Rattle.std.specs.List.{list_all}
use Rattle.cob_lex.specs.declared.token.Token.{Token}
use Rattle.cob_forms.specs.Sorts.{Sort, is}
use Rattle.cob_forms.specs.Forms.{Alternatives, Part, token, form, maybe, more, never, behind, ends, entered, goes_on, may_end, next, reading, wanted}
use Rattle.cob_data.specs.Forms.{Form, alternatives_of}
use Rattle.cob_data.proofs.NumeralLaws.{both, joined}
use Rattle.cob_data.proofs.ReadSteps.{Reads, Taken, Here, There, alternative, form_step, no_alternative, some_left, token_step}
use Rattle.cob_data.proofs.Tests.{either}

-- The tokens are a prefix with some property, and others, which the parts below read.
pub record Parted (Q : List Token → Type 0) (below : List (Part Form)) (ts rest : List Token) : Type 0 where
  pub front : List Token
  pub back : List Token
  pub whole : ts ≡ front ++ back
  pub here : Q front
  pub read : Reads below back rest

-- there is no part
abbrev pub empty : List (Part Form) → Bool
empty [] = true
empty (p ∷ ps) = false

is_empty : (ps : List (Part Form)) → empty ps ≡ true → ps ≡ []
is_empty [] h = refl
is_empty (p ∷ ps) h = cc

no_end : (left : ℕ) (rest : List Token) → wanted left ≡ ends rest → ⊥
no_end left rest h = cc

-- all alternatives read tokens of these sorts alone
abbrev pub quiet_alternatives : (Sort → Bool) → (List (Part Form) → Bool) → Alternatives Form → Bool
quiet_alternatives plain q [] = true
quiet_alternatives plain q (a ∷ others) = (plain a.0 && q a.1) && quiet_alternatives plain q others

-- the parts read tokens of these sorts alone, by a test of the forms inside
abbrev pub quiet_by : (Sort → Bool) → (List (Part Form) → Bool) → List (Part Form) → Bool
quiet_by plain q [] = true
quiet_by plain q (token s ∷ ps) = plain s && quiet_by plain q ps
quiet_by plain q (form f ∷ ps) = quiet_alternatives plain q (alternatives_of f) && quiet_by plain q ps
quiet_by plain q (maybe f ∷ ps) = quiet_alternatives plain q (alternatives_of f) && quiet_by plain q ps
quiet_by plain q (more f ∷ ps) = quiet_alternatives plain q (alternatives_of f) && quiet_by plain q ps
quiet_by plain q (never s ∷ ps) = quiet_by plain q ps

-- the parts read tokens of these sorts alone, as far as so many forms inside one another show
abbrev pub quiet : (Sort → Bool) → ℕ → List (Part Form) → Bool
quiet plain zero ps = quiet_by plain (λ qs. false) ps
quiet plain (suc n) ps = quiet_by plain (quiet plain n) ps

-- each alternative reads tokens of the plain sorts, and then one of the last sort
abbrev pub closing_alternatives : (plain last : Sort → Bool) → (List (Part Form) → Bool) → Alternatives Form → Bool
closing_alternatives plain last c [] = true
closing_alternatives plain last c (a ∷ others) = ((last a.0 && empty a.1) || (plain a.0 && c a.1)) && closing_alternatives plain last c others

-- the part reads such tokens, by a test of the forms inside
abbrev pub closes_with : (plain last : Sort → Bool) → (List (Part Form) → Bool) → Part Form → Bool
closes_with plain last c (token s) = last s
closes_with plain last c (form f) = closing_alternatives plain last c (alternatives_of f)
closes_with plain last c other = false

-- the last part closes, and all before it are quiet
abbrev pub closes_by : (plain last : Sort → Bool) → (q c : List (Part Form) → Bool) → List (Part Form) → Bool
closes_by plain last q c [] = false
closes_by plain last q c (p ∷ []) = closes_with plain last c p
closes_by plain last q c (p ∷ r ∷ ps) = q (p ∷ []) && closes_by plain last q c (r ∷ ps)

-- the parts read a sentence
abbrev pub closes : (plain last : Sort → Bool) → ℕ → List (Part Form) → Bool
closes plain last zero ps = false
closes plain last (suc n) ps = closes_by plain last (quiet plain (suc n)) (closes plain last n) ps

-- all tokens pass a test
abbrev pub AllPass : (Token → Bool) → List Token → Type 0
AllPass test ts = list_all test ts ≡ true

-- tokens that pass a test, and a last one that passes another
pub record Closed (test closing : Token → Bool) (front : List Token) : Type 0 where
  pub body : List Token
  pub end : Token
  pub whole : front ≡ body ++ end ∷ []
  pub passes : AllPass test body
  pub closed : closing end ≡ true

module _ (plain : Sort → Bool) (test : Token → Bool) (sound : (s : Sort) (t : Token) → plain s ≡ true → is s t ≡ true → test t ≡ true) where
  -- what is shown by some depth is shown by one more
  more_alternatives : (q r : List (Part Form) → Bool) → ((ps : List (Part Form)) → q ps ≡ true → r ps ≡ true) → (list : Alternatives Form) → quiet_alternatives plain q list ≡ true → quiet_alternatives plain r list ≡ true
  more_alternatives q r le [] h = refl
  more_alternatives q r le (a ∷ list) h =
      let all = both (plain a.0 && q a.1) (quiet_alternatives plain q list) h in
      let one = both (plain a.0) (q a.1) all.0 in
      joined (plain a.0 && r a.1) (quiet_alternatives plain r list) (joined (plain a.0) (r a.1) one.0 (le a.1 one.1)) (more_alternatives q r le list all.1)

  more_by : (q r : List (Part Form) → Bool) → ((ps : List (Part Form)) → q ps ≡ true → r ps ≡ true) → (ps : List (Part Form)) → quiet_by plain q ps ≡ true → quiet_by plain r ps ≡ true
  more_by q r le [] h = refl
  more_by q r le (token s ∷ ps) h = let all = both (plain s) (quiet_by plain q ps) h in joined (plain s) (quiet_by plain r ps) all.0 (more_by q r le ps all.1)
  more_by q r le (form f ∷ ps) h = let all = both (quiet_alternatives plain q (alternatives_of f)) (quiet_by plain q ps) h in
      joined (quiet_alternatives plain r (alternatives_of f)) (quiet_by plain r ps) (more_alternatives q r le (alternatives_of f) all.0) (more_by q r le ps all.1)
  more_by q r le (maybe f ∷ ps) h = let all = both (quiet_alternatives plain q (alternatives_of f)) (quiet_by plain q ps) h in
      joined (quiet_alternatives plain r (alternatives_of f)) (quiet_by plain r ps) (more_alternatives q r le (alternatives_of f) all.0) (more_by q r le ps all.1)
  more_by q r le (more f ∷ ps) h = let all = both (quiet_alternatives plain q (alternatives_of f)) (quiet_by plain q ps) h in
      joined (quiet_alternatives plain r (alternatives_of f)) (quiet_by plain r ps) (more_alternatives q r le (alternatives_of f) all.0) (more_by q r le ps all.1)
  more_by q r le (never s ∷ ps) h = more_by q r le ps h

  nothing_quiet : (ps : List (Part Form)) → false ≡ true → quiet plain zero ps ≡ true
  nothing_quiet ps h = cc

  deeper : (n : ℕ) (ps : List (Part Form)) → quiet plain n ps ≡ true → quiet plain (suc n) ps ≡ true
  deeper zero ps h = more_by (λ qs. false) (quiet plain zero) nothing_quiet ps h
  deeper (suc n) ps h = more_by (quiet plain n) (quiet plain (suc n)) (deeper n) ps h

  append_by : (q : List (Part Form) → Bool) (ps qs : List (Part Form)) → quiet_by plain q ps ≡ true → quiet_by plain q qs ≡ true → quiet_by plain q (ps ++ qs) ≡ true
  append_by q [] qs h k = k
  append_by q (token s ∷ ps) qs h k = let all = both (plain s) (quiet_by plain q ps) h in joined (plain s) (quiet_by plain q (ps ++ qs)) all.0 (append_by q ps qs all.1 k)
  append_by q (form f ∷ ps) qs h k = let all = both (quiet_alternatives plain q (alternatives_of f)) (quiet_by plain q ps) h in
      joined (quiet_alternatives plain q (alternatives_of f)) (quiet_by plain q (ps ++ qs)) all.0 (append_by q ps qs all.1 k)
  append_by q (maybe f ∷ ps) qs h k = let all = both (quiet_alternatives plain q (alternatives_of f)) (quiet_by plain q ps) h in
      joined (quiet_alternatives plain q (alternatives_of f)) (quiet_by plain q (ps ++ qs)) all.0 (append_by q ps qs all.1 k)
  append_by q (more f ∷ ps) qs h k = let all = both (quiet_alternatives plain q (alternatives_of f)) (quiet_by plain q ps) h in
      joined (quiet_alternatives plain q (alternatives_of f)) (quiet_by plain q (ps ++ qs)) all.0 (append_by q ps qs all.1 k)
  append_by q (never s ∷ ps) qs h k = append_by q ps qs h k

  -- a token with which a quiet form begins passes the test, and the parts after it are quiet
  record Quiet (q : List (Part Form) → Bool) (parts : List (Part Form)) (t : Token) : Type 0 where
    passes : test t ≡ true
    quiet : q parts ≡ true

  entered_quiet : (q : List (Part Form) → Bool) (list : Alternatives Form) (parts : List (Part Form)) (t : Token) → quiet_alternatives plain q list ≡ true → behind list t ≡ Some parts → Quiet q parts t
  entered_quiet q [] parts t h e = absurd (no_alternative t parts e)
  entered_quiet q (a ∷ list) parts t h e =
      let all = both (plain a.0 && q a.1) (quiet_alternatives plain q list) h in
      by (alternative a.0 a.1 list parts t e) (both (plain a.0) (q a.1) all.0).0 (both (plain a.0) (q a.1) all.0).1 (λ k. entered_quiet q list parts t all.1 k)
    where
      by : Here a.0 a.1 parts t ⊎ There a.0 list parts t → plain a.0 ≡ true → q a.1 ≡ true → (behind list t ≡ Some parts → Quiet q parts t) → Quiet q parts t
      by (inl here) p k g = record { passes = sound a.0 t p here.test; quiet = ap q (sym here.same) ∙ k }
      by (inr there) p k g = g there.found

  -- A token was read by quiet parts: it passes the test, and what is left of the parts is quiet.
  record Went (n : ℕ) (below left : List (Part Form)) (t : Token) : Type 0 where
    parts : List (Part Form)
    passes : test t ≡ true
    same : left ≡ parts ++ below
    quiet : quiet plain (suc n) parts ≡ true

  went_in : (n : ℕ) (parts ps below left : List (Part Form)) (t : Token) → quiet plain n parts ≡ true → quiet plain (suc n) ps ≡ true → test t ≡ true → Some (parts ++ (ps ++ below)) ≡ Some left → Went n below left t
  went_in n parts ps below left t h k passes e =
      let whole : left ≡ parts ++ (ps ++ below) = cc in
      record { parts = parts ++ ps; passes = passes; same = whole ∙ sym (append_assoc parts ps below); quiet = append_by (quiet plain n) parts ps (deeper n parts h) k }

  went_turn : (n : ℕ) (f : Form) (parts ps below left : List (Part Form)) (t : Token) → quiet plain n parts ≡ true → quiet plain (suc n) (more f ∷ ps) ≡ true → test t ≡ true → Some (parts ++ more f ∷ (ps ++ below)) ≡ Some left → Went n below left t
  went_turn n f parts ps below left t h k passes e =
      let whole : left ≡ parts ++ more f ∷ (ps ++ below) = cc in
      record { parts = parts ++ more f ∷ ps; passes = passes; same = whole ∙ sym (append_assoc parts (more f ∷ ps) below); quiet = append_by (quiet plain n) parts (more f ∷ ps) (deeper n parts h) k }

  went_on : (n : ℕ) (sort : Sort) (ps below left : List (Part Form)) (t : Token) (b : Bool) → is sort t ≡ b → plain sort ≡ true → quiet plain (suc n) ps ≡ true → (if b then Some (ps ++ below) else None) ≡ Some left → Went n below left t
  went_on n sort ps below left t true e p k h = let whole : left ≡ ps ++ below = cc in record { parts = ps; passes = sound sort t p e; same = whole; quiet = k }
  went_on n sort ps below left t false e p k h = let no : ⊥ = cc in absurd no

  never_by : (b : Bool) (o : Option (List (Part Form))) (left : List (Part Form)) → (if b then None else o) ≡ Some left → o ≡ Some left
  never_by true o left h = let no : ⊥ = cc in absurd no
  never_by false o left h = h

  form_went : (n : ℕ) (f : Form) (ps below left : List (Part Form)) (t : Token) (o : Option (List (Part Form))) → behind (alternatives_of f) t ≡ o → quiet_alternatives plain (quiet plain n) (alternatives_of f) ≡ true → quiet plain (suc n) ps ≡ true
      → entered o (ps ++ below) None ≡ Some left → Went n below left t
  form_went n f ps below left t None e q k h = let no : ⊥ = cc in absurd no
  form_went n f ps below left t (Some parts) e q k h = let here = entered_quiet (quiet plain n) (alternatives_of f) parts t q e in went_in n parts ps below left t here.quiet k here.passes h

  maybe_went : (n : ℕ) (f : Form) (ps below left : List (Part Form)) (t : Token) (o skipped : Option (List (Part Form))) → behind (alternatives_of f) t ≡ o → quiet_alternatives plain (quiet plain n) (alternatives_of f) ≡ true → quiet plain (suc n) ps ≡ true
      → entered o (ps ++ below) skipped ≡ Some left → (skipped ≡ Some left → Went n below left t ⊎ (next alternatives_of below t ≡ Some left)) → Went n below left t ⊎ (next alternatives_of below t ≡ Some left)
  maybe_went n f ps below left t None skipped e q k h g = g h
  maybe_went n f ps below left t (Some parts) skipped e q k h g = let here = entered_quiet (quiet plain n) (alternatives_of f) parts t q e in inl (went_in n parts ps below left t here.quiet k here.passes h)

  turn_went : (n : ℕ) (f : Form) (ps below left : List (Part Form)) (t : Token) (o skipped : Option (List (Part Form))) → behind (alternatives_of f) t ≡ o → quiet_alternatives plain (quiet plain n) (alternatives_of f) ≡ true → quiet plain (suc n) (more f ∷ ps) ≡ true
      → entered o (more f ∷ (ps ++ below)) skipped ≡ Some left → (skipped ≡ Some left → Went n below left t ⊎ (next alternatives_of below t ≡ Some left)) → Went n below left t ⊎ (next alternatives_of below t ≡ Some left)
  turn_went n f ps below left t None skipped e q k h g = g h
  turn_went n f ps below left t (Some parts) skipped e q k h g = let here = entered_quiet (quiet plain n) (alternatives_of f) parts t q e in inl (went_turn n f parts ps below left t here.quiet k here.passes h)

  went : (n : ℕ) (ps below left : List (Part Form)) (t : Token) → quiet plain (suc n) ps ≡ true → next alternatives_of (ps ++ below) t ≡ Some left → Went n below left t ⊎ (next alternatives_of below t ≡ Some left)
  unfolding next
  went n [] below left t q h = inr h
  went n (token s ∷ ps) below left t q h = let all = both (plain s) (quiet plain (suc n) ps) q in inl (went_on n s ps below left t (is s t) refl all.0 all.1 h)
  went n (form f ∷ ps) below left t q h =
      let all = both (quiet_alternatives plain (quiet plain n) (alternatives_of f)) (quiet plain (suc n) ps) q in inl (form_went n f ps below left t (behind (alternatives_of f) t) refl all.0 all.1 h)
  went n (maybe f ∷ ps) below left t q h =
      let all = both (quiet_alternatives plain (quiet plain n) (alternatives_of f)) (quiet plain (suc n) ps) q in
      maybe_went n f ps below left t (behind (alternatives_of f) t) (next alternatives_of (ps ++ below) t) refl all.0 all.1 h (went n ps below left t all.1)
  went n (more f ∷ ps) below left t q h =
      let all = both (quiet_alternatives plain (quiet plain n) (alternatives_of f)) (quiet plain (suc n) ps) q in
      turn_went n f ps below left t (behind (alternatives_of f) t) (next alternatives_of (ps ++ below) t) refl all.0 q h (went n ps below left t all.1)
  went n (never s ∷ ps) below left t q h = went n ps below left t q (never_by (is s t) (next alternatives_of (ps ++ below) t) left h)

  -- ALL TOKENS OF QUIET PARTS

  may_end_behind : (ps below : List (Part Form)) → may_end below ≡ false → may_end (ps ++ below) ≡ false
  may_end_behind [] below e = e
  may_end_behind (token s ∷ ps) below e = refl
  may_end_behind (form f ∷ ps) below e = refl
  may_end_behind (maybe f ∷ ps) below e = may_end_behind ps below e
  may_end_behind (more f ∷ ps) below e = may_end_behind ps below e
  may_end_behind (never s ∷ ps) below e = may_end_behind ps below e

  -- the parts that are left after one token
  on : (o : Option (List (Part Form))) (t : Token) (ts rest : List Token) → goes_on o (λ left. reading alternatives_of left ts) (length (t ∷ ts)) ≡ ends rest → (left : List (Part Form)) × (o ≡ Some left) × Reads left ts rest
  on None t ts rest h = absurd (no_end (length (t ∷ ts)) rest h)
  on (Some left) t ts rest h = (left, refl, h)

  off : (below left : List (Part Form)) (t : Token) (ts rest : List Token) → next alternatives_of below t ≡ Some left → Reads left ts rest → Reads below (t ∷ ts) rest
  unfolding next reading
  off [] left t ts rest e h = let no : ⊥ = cc in absurd no
  off (p ∷ below) left t ts rest e h = rw e h

  with_one : (t : Token) (below : List (Part Form)) (ts rest : List Token) → test t ≡ true → Parted (AllPass test) below ts rest → Parted (AllPass test) below (t ∷ ts) rest
  with_one t below ts rest passes p = record { front = t ∷ p.front; back = p.back; whole = ap (λ us. t ∷ us) p.whole; here = joined (test t) (list_all test p.front) passes p.here; read = p.read }

  pub walk : (n : ℕ) (ts : List Token) (ps below : List (Part Form)) (rest : List Token) → quiet plain (suc n) ps ≡ true → may_end below ≡ false → Reads (ps ++ below) ts rest → Parted (AllPass test) below ts rest
  unfolding reading
  walk n ts [] below rest q e h = record { front = []; back = ts; whole = refl; here = refl; read = h }
  walk n [] (p ∷ ps) below rest q e h = absurd (some_left (p ∷ ps ++ below) rest (may_end_behind (p ∷ ps) below e) h)
  walk n (t ∷ ts) (p ∷ ps) below rest q e h =
      let o = on (next alternatives_of (p ∷ ps ++ below) t) t ts rest h in
      by o.0 (went n (p ∷ ps) below o.0 t q o.1) o.2 (λ parts k r. walk n ts parts below rest k e r)
    where
      by : (left : List (Part Form)) → Went n below left t ⊎ (next alternatives_of below t ≡ Some left) → Reads left ts rest
          → ((parts : List (Part Form)) → quiet plain (suc n) parts ≡ true → Reads (parts ++ below) ts rest → Parted (AllPass test) below ts rest) → Parted (AllPass test) below (t ∷ ts) rest
      by left (inl w) r g = with_one t below ts rest w.passes (g w.parts w.quiet (ap (λ ps. reading alternatives_of ps ts) (sym w.same) ∙ r))
      by left (inr k) r g = record { front = []; back = t ∷ ts; whole = refl; here = refl; read = off below left t ts rest k r }

  -- SENTENCES

  module _ (last : Sort → Bool) (last_test : Token → Bool) (last_sound : (s : Sort) (t : Token) → last s ≡ true → is s t ≡ true → last_test t ≡ true) where
    only_end : (t : Token) → last_test t ≡ true → Closed test last_test (t ∷ [])
    only_end t h = record { body = []; end = t; whole = refl; passes = refl; closed = h }

    longer : (t : Token) (front : List Token) → test t ≡ true → Closed test last_test front → Closed test last_test (t ∷ front)
    longer t front h c = record { body = t ∷ c.body; end = c.end; whole = ap (λ us. t ∷ us) c.whole; passes = joined (test t) (list_all test c.body) h c.passes; closed = c.closed }

    behind_body : (body front : List Token) → AllPass test body → Closed test last_test front → Closed test last_test (body ++ front)
    behind_body [] front h c = c
    behind_body (t ∷ body) front h c = let all = both (test t) (list_all test body) h in longer t (body ++ front) all.0 (behind_body body front all.1 c)

    -- the token is the last one, or it is plain and closing parts come after it
    closing_entered : (c : List (Part Form) → Bool) (list : Alternatives Form) (parts : List (Part Form)) (t : Token) → closing_alternatives plain last c list ≡ true → behind list t ≡ Some parts
        → ((last_test t ≡ true) × (parts ≡ [])) ⊎ ((test t ≡ true) × (c parts ≡ true))
    closing_entered c [] parts t h e = absurd (no_alternative t parts e)
    closing_entered c (a ∷ list) parts t h e =
        let all = both ((last a.0 && empty a.1) || (plain a.0 && c a.1)) (closing_alternatives plain last c list) h in
        by (alternative a.0 a.1 list parts t e) (either (last a.0 && empty a.1) (plain a.0 && c a.1) all.0) (λ k. closing_entered c list parts t all.1 k)
      where
        by : Here a.0 a.1 parts t ⊎ There a.0 list parts t → ((last a.0 && empty a.1) ≡ true) ⊎ ((plain a.0 && c a.1) ≡ true)
            → (behind list t ≡ Some parts → ((last_test t ≡ true) × (parts ≡ [])) ⊎ ((test t ≡ true) × (c parts ≡ true))) → ((last_test t ≡ true) × (parts ≡ [])) ⊎ ((test t ≡ true) × (c parts ≡ true))
        by (inl here) (inl k) g = let k2 = both (last a.0) (empty a.1) k in inl (last_sound a.0 t k2.0 here.test, sym here.same ∙ is_empty a.1 k2.1)
        by (inl here) (inr k) g = let k2 = both (plain a.0) (c a.1) k in inr (sound a.0 t k2.0 here.test, ap c (sym here.same) ∙ k2.1)
        by (inr there) k g = g there.found

    with_end : (t : Token) (below : List (Part Form)) (ts us rest : List Token) → ts ≡ t ∷ us → last_test t ≡ true → Reads below us rest → Parted (Closed test last_test) below ts rest
    with_end t below ts us rest e h r = record { front = t ∷ []; back = us; whole = e; here = only_end t h; read = r }

    with_front : (t : Token) (below : List (Part Form)) (ts us rest : List Token) → ts ≡ t ∷ us → test t ≡ true → Parted (Closed test last_test) below us rest → Parted (Closed test last_test) below ts rest
    with_front t below ts us rest e h p = record { front = t ∷ p.front; back = p.back; whole = e ∙ ap (λ vs. t ∷ vs) p.whole; here = longer t p.front h p.here; read = p.read }

    behind_front : (below : List (Part Form)) (ts front back rest : List Token) → ts ≡ front ++ back → AllPass test front → Parted (Closed test last_test) below back rest → Parted (Closed test last_test) below ts rest
    behind_front below ts front back rest e h p = record { front = front ++ p.front; back = p.back; whole = e ∙ ap (λ vs. front ++ vs) p.whole ∙ sym (append_assoc front p.front p.back); here = behind_body front p.front h p.here; read = p.read }

    last_by : (c : List (Part Form) → Bool) (p : Part Form) (below : List (Part Form)) (ts rest : List Token) → closes_with plain last c p ≡ true → may_end below ≡ false
        → ((ps : List (Part Form)) (us : List Token) → c ps ≡ true → Reads (ps ++ below) us rest → Parted (Closed test last_test) below us rest) → Reads (p ∷ below) ts rest → Parted (Closed test last_test) below ts rest
    last_by c (token s) below ts rest k e g h = let t = token_step s below ts rest h in with_end t.one below ts t.others rest t.whole (last_sound s t.one k t.here) t.read
    last_by c (form f) below ts rest k e g h =
        let t = form_step f below ts rest h in
        by t.parts t.taken (closing_entered c (alternatives_of f) t.parts t.taken.one k t.taken.here)
      where
        by : (parts : List (Part Form)) (t : Taken (λ t. behind (alternatives_of f) t ≡ Some parts) (parts ++ below) ts rest) → ((last_test t.one ≡ true) × (parts ≡ [])) ⊎ ((test t.one ≡ true) × (c parts ≡ true)) → Parted (Closed test last_test) below ts rest
        by parts t (inl z) = with_end t.one below ts t.others rest t.whole z.0 (ap (λ ps. reading alternatives_of (ps ++ below) t.others) (sym z.1) ∙ t.read)
        by parts t (inr z) = with_front t.one below ts t.others rest t.whole z.0 (g parts t.others z.1 t.read)
    last_by c (maybe f) below ts rest k e g h = let no : ⊥ = cc in absurd no
    last_by c (more f) below ts rest k e g h = let no : ⊥ = cc in absurd no
    last_by c (never s) below ts rest k e g h = let no : ⊥ = cc in absurd no

    closes_at : (n : ℕ) (c : List (Part Form) → Bool) (ps below : List (Part Form)) (ts rest : List Token) → closes_by plain last (quiet plain (suc n)) c ps ≡ true → may_end below ≡ false
        → ((qs : List (Part Form)) (us : List Token) → c qs ≡ true → Reads (qs ++ below) us rest → Parted (Closed test last_test) below us rest) → Reads (ps ++ below) ts rest → Parted (Closed test last_test) below ts rest
    closes_at n c [] below ts rest k e g h = let no : ⊥ = cc in absurd no
    closes_at n c (p ∷ []) below ts rest k e g h = last_by c p below ts rest k e g h
    closes_at n c (p ∷ r ∷ ps) below ts rest k e g h =
        let all = both (quiet plain (suc n) (p ∷ [])) (closes_by plain last (quiet plain (suc n)) c (r ∷ ps)) k in
        let w = walk n ts (p ∷ []) (r ∷ ps ++ below) rest all.0 (may_end_behind (r ∷ ps) below e) h in
        behind_front below ts w.front w.back rest w.whole w.here (closes_at n c (r ∷ ps) below w.back rest all.1 e g w.read)

    pub sentence : (n : ℕ) (ps below : List (Part Form)) (ts rest : List Token) → closes plain last n ps ≡ true → may_end below ≡ false → Reads (ps ++ below) ts rest → Parted (Closed test last_test) below ts rest
    sentence zero ps below ts rest k e h = let no : ⊥ = cc in absurd no
    sentence (suc n) ps below ts rest k e h = closes_at n (closes plain last n) ps below ts rest k e (λ qs us c r. sentence n qs below us rest c e r) h
