-- The first fault of lists that are gone over from the front.
use Rattle.std.proofs.Common.{◌≡◌, ◌<◌, ◌+◌, ℕ, Bool, true, false, not, ◌&&◌, ◌||◌, List, [], ◌∷◌, ◌++◌, length, drop, get_or, filter, codes, Option, None, Some, refl, sym, ap, ◌∙◌}
use Rattle.std.specs.Prelude.{cond, is_none, nat_le, if◌then◌else◌, flat_map}
use Rattle.std.proofs.lemmas.List.{drop_more, map-append}
use Rattle.std.proofs.lemmas.List.Elements.{filter-append}
use Rattle.cob_lex.specs.declared.fault.SourceFault.{SourceFault}
use Rattle.cob_lex.specs.declared.fault.SourceKind.{SourceKind}
use Rattle.cob_lex.specs.declared.fault.SourceKind.TheVariants as faults
use Rattle.cob_lex.specs.declared.token.Token.{Token}
use Rattle.cob_lex.specs.declared.token.TokenKind.TheVariants as tokens
use Rattle.cob_forms.specs.Faults.{earlier, first, noted}
use Rattle.cob_forms.specs.Sorts.{is, of_kind, reserved}
use Rattle.cob_forms.proofs.Order.{first-append, grouped}
use Rattle.cob_data.specs.Entries.{behind, has, is_cd}
use Rattle.cob_data.specs.Faults.{at_any}
use Rattle.com_cd.specs.declared.output_area.TheConstants.{MAX_OCCURRENCES}
use Rattle.cob_data.specs.Numerals.{numeral}
use Rattle.cob_data.specs.Pictures.{size_of}

-- what is found so far, what is found here, and what stands behind
pub one_more : (found : Option SourceFault) (here others : List SourceFault) → earlier (earlier found (first here)) (first others) ≡ earlier found (first (here ++ others))
one_more found here others = sym (ap (earlier found) (first-append here others) ∙ grouped found (first here) (first others))

pub no_other : (found : Option SourceFault) → earlier found None ≡ found
no_other None = refl
no_other (Some x) = refl

-- the element at a place, by a function that tells its faults and those behind it
pub step_at : {A : Type 0} (faults_of : List A → List SourceFault) (here : List SourceFault) (found : Option SourceFault) (xs : List A) (i : ℕ) (x : A) → i < length xs → x ≡ get_or xs i x
    → faults_of (x ∷ drop (i + 1) xs) ≡ here ++ faults_of (drop (i + 1) xs)
    → earlier (earlier found (first here)) (first (faults_of (drop (i + 1) xs))) ≡ earlier found (first (faults_of (drop i xs)))
step_at faults_of here found xs i x within at_place front =
    let split : drop i xs ≡ x ∷ drop (i + 1) xs = drop_more xs i x within ∙ ap (λ y. y ∷ drop (i + 1) xs) (sym at_place) in
    one_more found here (faults_of (drop (i + 1) xs)) ∙ ap (λ ys. earlier found (first ys)) (sym front ∙ ap faults_of (sym split))

-- TOKENS THAT PASS A TEST

front_by : (b : Bool) (kind : SourceKind) (t : Token) (ts : List Token) → at_any kind (cond b (t ∷ ts) ts) ≡ noted b kind t ++ at_any kind ts
front_by true kind t ts = refl
front_by false kind t ts = refl

pub one_test : (test : Token → Bool) (kind : SourceKind) (t : Token) (ts : List Token) → at_any kind (filter test (t ∷ ts)) ≡ noted (test t) kind t ++ at_any kind (filter test ts)
one_test test kind t ts = front_by (test t) kind t (filter test ts)

pub test_at : (test : Token → Bool) (kind : SourceKind) (found : Option SourceFault) (ts : List Token) (i : ℕ) (t : Token) → i < length ts → t ≡ get_or ts i t
    → earlier (earlier found (first (noted (test t) kind t))) (first (at_any kind (filter test (drop (i + 1) ts)))) ≡ earlier found (first (at_any kind (filter test (drop i ts))))
test_at test kind found ts i t within at_place =
    step_at (λ xs. at_any kind (filter test xs)) (noted (test t) kind t) found ts i t within at_place (one_test test kind t (drop (i + 1) ts))

abbrev pub bad_picture : Token → Bool
bad_picture t = is (of_kind tokens.Picture) t && is_none (size_of t.text)

abbrev pub bad_number : Token → Bool
bad_number t = is (of_kind tokens.Number) t && not (nat_le 1 (numeral t.text) && nat_le (numeral t.text) MAX_OCCURRENCES)

-- TOKENS OF CDS

abbrev pub cd_tokens : List (List Token) → List Token
cd_tokens entries = flat_map (λ e. e) (filter is_cd entries)

abbrev pub own_tokens : List Token → List Token
own_tokens entry = if is_cd entry then entry else []

tokens_by : (b : Bool) (e : List Token) (others : List (List Token)) → flat_map (λ e. e) (cond b (e ∷ others) others) ≡ (if b then e else []) ++ flat_map (λ e. e) others
tokens_by true e others = refl
tokens_by false e others = refl

pub one_entry : (e : List Token) (others : List (List Token)) → cd_tokens (e ∷ others) ≡ own_tokens e ++ cd_tokens others
one_entry e others = tokens_by (is_cd e) e (filter is_cd others)

pub tests_front : (test : Token → Bool) (kind : SourceKind) (xs ys : List Token) → at_any kind (filter test (xs ++ ys)) ≡ at_any kind (filter test xs) ++ at_any kind (filter test ys)
tests_front test kind xs ys = ap (at_any kind) (filter-append test xs ys) ∙ map-append _ (filter test xs) (filter test ys)

pub tests_at : (test : Token → Bool) (kind : SourceKind) (found : Option SourceFault) (entries : List (List Token)) (i : ℕ) (e : List Token) → i < length entries → e ≡ get_or entries i e
    → earlier (earlier found (first (at_any kind (filter test (own_tokens e))))) (first (at_any kind (filter test (cd_tokens (drop (i + 1) entries))))) ≡ earlier found (first (at_any kind (filter test (cd_tokens (drop i entries)))))
tests_at test kind found entries i e within at_place =
    step_at (λ xs. at_any kind (filter test (cd_tokens xs))) (at_any kind (filter test (own_tokens e))) found entries i e within at_place
    (ap (λ ts. at_any kind (filter test ts)) (one_entry e (drop (i + 1) entries)) ∙ tests_front test kind (own_tokens e) (cd_tokens (drop (i + 1) entries)))

-- THE SECOND INITIAL

abbrev pub is_initial : Token → Bool
is_initial t = is (reserved (codes "INITIAL")) t

-- tokens in which each INITIAL but the first is a fault, or each
abbrev pub past_first : Bool → List Token → List Token
past_first is_second ts = if is_second then ts else behind is_initial ts

pub past : (is_second : Bool) (xs ys : List Token)
    → filter is_initial (past_first is_second (xs ++ ys)) ≡ filter is_initial (past_first is_second xs) ++ filter is_initial (past_first (is_second || has (codes "INITIAL") xs) ys)
past true xs ys = filter-append is_initial xs ys
past false [] ys = refl
past false (x ∷ xs) ys = past_by (is_initial x) xs ys (past false xs ys)
  where
    past_by : (b : Bool) (xs ys : List Token) → filter is_initial (behind is_initial (xs ++ ys)) ≡ filter is_initial (behind is_initial xs) ++ filter is_initial (past_first (has (codes "INITIAL") xs) ys)
        → filter is_initial (if b then xs ++ ys else behind is_initial (xs ++ ys)) ≡ filter is_initial (if b then xs else behind is_initial xs) ++ filter is_initial (past_first (b || has (codes "INITIAL") xs) ys)
    past_by true xs ys h = filter-append is_initial xs ys
    past_by false xs ys h = h

drop_by : (b : Bool) (t : Token) (ts : List Token) → drop 1 (filter is_initial ts) ≡ filter is_initial (behind is_initial ts) → drop 1 (cond b (t ∷ filter is_initial ts) (filter is_initial ts)) ≡ filter is_initial (if b then ts else behind is_initial ts)
drop_by true t ts h = refl
drop_by false t ts h = h

pub but_first : (ts : List Token) → drop 1 (filter is_initial ts) ≡ filter is_initial (past_first false ts)
but_first [] = refl
but_first (t ∷ ts) = drop_by (is_initial t) t ts (but_first ts)

pub initials_at : (is_second : Bool) (found : Option SourceFault) (entries : List (List Token)) (i : ℕ) (e : List Token) → i < length entries → e ≡ get_or entries i e
    → earlier (earlier found (first (at_any faults.TwoInitial (filter is_initial (past_first is_second (own_tokens e)))))) (first (at_any faults.TwoInitial (filter is_initial (past_first (is_second || has (codes "INITIAL") (own_tokens e)) (cd_tokens (drop (i + 1) entries))))))
    ≡ earlier found (first (at_any faults.TwoInitial (filter is_initial (past_first is_second (cd_tokens (drop i entries))))))
initials_at is_second found entries i e within at_place =
    let split : drop i entries ≡ e ∷ drop (i + 1) entries = drop_more entries i e within ∙ ap (λ y. y ∷ drop (i + 1) entries) (sym at_place) in
    let here = at_any faults.TwoInitial (filter is_initial (past_first is_second (own_tokens e))) in
    let others = at_any faults.TwoInitial (filter is_initial (past_first (is_second || has (codes "INITIAL") (own_tokens e)) (cd_tokens (drop (i + 1) entries)))) in
    one_more found here others
    ∙ ap (λ ys. earlier found (first ys))
    (sym (ap (at_any faults.TwoInitial) (past is_second (own_tokens e) (cd_tokens (drop (i + 1) entries))) ∙ map-append _ (filter is_initial (past_first is_second (own_tokens e))) (filter is_initial (past_first (is_second || has (codes "INITIAL") (own_tokens e)) (cd_tokens (drop (i + 1) entries)))))
    ∙ ap (λ ts. at_any faults.TwoInitial (filter is_initial (past_first is_second ts))) (sym (one_entry e (drop (i + 1) entries)) ∙ ap cd_tokens (sym split)))
