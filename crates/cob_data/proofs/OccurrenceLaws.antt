-- The tables of a division without a fault have 1 to 8 destinations.
use Rattle.std.proofs.Common.{◌≡◌, ℕ, zero, suc, ◌+◌, ◌-◌, Bool, true, false, not, ◌&&◌, ◌||◌, List, [], ◌∷◌, ◌++◌, length, take, filter, flat_map, codes, Option, Some, None, refl, sym, ap, ◌∙◌}
use Rattle.std.specs.Prelude.{cond, if◌then◌else◌, nat_le}
use Rattle.std.specs.List.{list_all}
use Rattle.std.proofs.lemmas.List.Folds.{list_all-append}
use Rattle.com_cd.specs.declared.output_area.TheConstants.{MAX_OCCURRENCES}
use Rattle.com_cd.specs.declared.output_area.OutField.{OutField}
use Rattle.cob_lex.specs.declared.fault.SourceKind.TheVariants as faults
use Rattle.cob_lex.specs.declared.token.Token.{Token}
use Rattle.cob_lex.specs.declared.token.TokenKind.TheVariants as tokens
use Rattle.cob_forms.specs.Sorts.{is, of_kind, reserved}
use Rattle.cob_forms.specs.Faults.{first}
use Rattle.cob_data.specs.declared.tree.DataDivision.{DataDivision}
use Rattle.cob_data.specs.Clauses.{all_clauses, body_of, clauses_of, ends_clause, is_input, lists_names, number_in, output_field_of}
use Rattle.cob_data.specs.Divisions.{IsDivisionOf, body_by, cd_named, cds_from, output_clause, output_clause_by, output_clauses, storage_records}
use Rattle.cob_data.specs.Entries.{Run, behind, cd_runs, described, first_token, put_in_runs, is_cd, is_item, last_token, split_runs, pieces, put, runs_of, second_token, word_flags}
use Rattle.cob_data.specs.Faults.{Limits, at_any, bad_tables, data_fault, limits, other_faults}
use Rattle.cob_data.specs.Numerals.{numeral}
use Rattle.cob_data.specs.Occurrences.{HasOccurrences, is_body_right, is_table_right}
use Rattle.cob_data.proofs.Firsts.{cd_tokens}
use Rattle.cob_data.proofs.NoFaults.{behind_none, front_none, no_other_fault}
use Rattle.cob_data.proofs.NumeralLaws.{both, joined}

-- LISTS THAT PASS A TEST

module _ {A : Type 0} (test : A → Bool) where
  pub all_front : (xs ys : List A) → list_all test (xs ++ ys) ≡ true → list_all test xs ≡ true
  all_front xs ys h = (both (list_all test xs) (list_all test ys) (sym (list_all-append test xs ys) ∙ h)).0

  pub all_behind : (xs ys : List A) → list_all test (xs ++ ys) ≡ true → list_all test ys ≡ true
  all_behind xs ys h = (both (list_all test xs) (list_all test ys) (sym (list_all-append test xs ys) ∙ h)).1

  pub all_of_both : (xs ys : List A) → list_all test xs ≡ true → list_all test ys ≡ true → list_all test (xs ++ ys) ≡ true
  all_of_both xs ys h k = list_all-append test xs ys ∙ joined (list_all test xs) (list_all test ys) h k

  pub all_taken : (n : ℕ) (xs : List A) → list_all test xs ≡ true → list_all test (take n xs) ≡ true
  all_taken zero xs h = refl
  all_taken (suc n) [] h = refl
  all_taken (suc n) (x ∷ xs) h =
      let parts = both (test x) (list_all test xs) h in
      joined (test x) (list_all test (take n xs)) parts.0 (all_taken n xs parts.1)

-- NUMBERS OF OCCURRENCES

abbrev within : Token → Bool
within t = nat_le 1 (numeral t.text) && nat_le (numeral t.text) MAX_OCCURRENCES

abbrev is_bad : Token → Bool
is_bad t = is (of_kind tokens.Number) t && not (within t)

abbrev are_good : List Token → Bool
are_good ts = list_all (λ t. not (is_bad t)) ts

good_by : (b : Bool) (t : Token) (ts : List Token) → at_any faults.OverLimit (cond b (t ∷ filter is_bad ts) (filter is_bad ts)) ≡ [] → (at_any faults.OverLimit (filter is_bad ts) ≡ [] → are_good ts ≡ true)
    → (not b && are_good ts) ≡ true
good_by true t ts h k = cc
good_by false t ts h k = k h

none_bad : (ts : List Token) → at_any faults.OverLimit (filter is_bad ts) ≡ [] → are_good ts ≡ true
none_bad [] h = refl
none_bad (t ∷ ts) h = good_by (is_bad t) t ts h (none_bad ts)

was_within : (w : Bool) (others : Bool) → (not (true && not w) && others) ≡ true → w ≡ true
was_within true others h = refl
was_within false others h = h

number_by : (b : Bool) (x t : Token) (xs : List Token) → is (of_kind tokens.Number) x ≡ b → cond b (Some x) (number_in xs) ≡ Some t → (not (b && not (within x)) && are_good xs) ≡ true
    → (number_in xs ≡ Some t → are_good xs ≡ true → within t ≡ true) → within t ≡ true
number_by true x t xs test found good k =
    let same : x ≡ t = cc in
    ap within (sym same) ∙ was_within (within x) (are_good xs) good
number_by false x t xs test found good k = k found (both true (are_good xs) good).1

number_within : (clause : List Token) (t : Token) → number_in clause ≡ Some t → are_good clause ≡ true → within t ≡ true
number_within [] t found good = cc
number_within (x ∷ xs) t found good = number_by (is (of_kind tokens.Number) x) x t xs refl found good (number_within xs t)

-- CLAUSES

clause_right : (field : Option OutField) (first named : Token) (occurs : Option Token) → ((t : Token) → occurs ≡ Some t → within t ≡ true) → list_all is_table_right (output_clause_by field first named occurs) ≡ true
clause_right (Some field) first named occurs h = refl
clause_right None first named (Some t) h = joined (within t) true (h t refl) refl
clause_right None first named None h = refl

told_right : (field : Option (Option OutField)) (first named occurs : Option Token) → ((t : Token) → occurs ≡ Some t → within t ≡ true) → list_all is_table_right (output_clause field first named occurs) ≡ true
told_right (Some field) (Some first) (Some named) occurs h = clause_right field first named occurs h
told_right (Some field) (Some first) None occurs h = refl
told_right (Some field) None named occurs h = refl
told_right None first named occurs h = refl

clauses_right : (list : List (List Token)) → list_all are_good list ≡ true → list_all is_table_right (output_clauses list) ≡ true
clauses_right [] h = refl
clauses_right (clause ∷ list) h =
    let parts = both (are_good clause) (list_all are_good list) h in
    all_of_both is_table_right (output_clause (output_field_of clause) (first_token clause) (last_token clause) (number_in clause)) (output_clauses list)
    (told_right (output_field_of clause) (first_token clause) (last_token clause) (number_in clause) (λ t found. number_within clause t found parts.0)) (clauses_right list parts.1)

behind_by : (b : Bool) (test : Token → Bool) (ts : List Token) → are_good ts ≡ true → are_good (behind test ts) ≡ true → are_good (if b then ts else behind test ts) ≡ true
behind_by true test ts h k = h
behind_by false test ts h k = k

behind_good : (test : Token → Bool) (ts : List Token) → are_good ts ≡ true → are_good (behind test ts) ≡ true
behind_good test [] h = refl
behind_good test (t ∷ ts) h =
    let parts = both (not (is_bad t)) (are_good ts) h in
    behind_by (test t) test ts parts.1 (behind_good test ts parts.1)

put_good : (b : Bool) (t : Token) (lists : List (List Token)) → not (is_bad t) ≡ true → list_all are_good lists ≡ true → list_all are_good (put b t lists) ≡ true
put_good true t lists h k = joined (not (is_bad t) && true) (list_all are_good lists) (joined (not (is_bad t)) true h refl) k
put_good false t [] h k = joined (not (is_bad t) && true) true (joined (not (is_bad t)) true h refl) refl
put_good false t (ts ∷ lists) h k =
    let parts = both (are_good ts) (list_all are_good lists) k in
    joined (not (is_bad t) && are_good ts) (list_all are_good lists) (joined (not (is_bad t)) (are_good ts) h parts.0) parts.1

pieces_good : (stop : Token → List Token → Bool) (ts : List Token) → are_good ts ≡ true → list_all are_good (pieces stop ts) ≡ true
pieces_good stop [] h = refl
pieces_good stop (t ∷ ts) h =
    let parts = both (not (is_bad t)) (are_good ts) h in
    put_good (stop t ts) t (pieces stop ts) parts.0 (pieces_good stop ts parts.1)

list_by : (b : Bool) (body : List Token) → are_good body ≡ true → list_all are_good (if b then [] else all_clauses body) ≡ true
list_by true body h = refl
list_by false body h = all_taken are_good (length (pieces ends_clause body) - 1) (pieces ends_clause body) (pieces_good ends_clause body h)

entry_clauses : (head : List Token) → are_good head ≡ true → list_all are_good (clauses_of head) ≡ true
entry_clauses head h = list_by (lists_names (body_of head)) (body_of head) (behind_good (λ t. is (reserved (codes "INPUT")) t || is (reserved (codes "OUTPUT")) t) head h)

-- CD ENTRIES

body_right : (input lists : Bool) (head : List Token) → are_good head ≡ true → is_body_right (body_by input lists head) ≡ true
body_right true true head h = refl
body_right true false head h = refl
body_right false lists head h = clauses_right (clauses_of head) (entry_clauses head h)

named_right : (named : Option Token) (area : ℕ) (cd : Run) → are_good cd.head ≡ true → list_all (λ entry. is_body_right entry.body) (cd_named named area cd) ≡ true
named_right None area cd h = refl
named_right (Some named) area cd h = joined (is_body_right (body_by (is_input cd.head) (lists_names (body_of cd.head)) cd.head)) true (body_right (is_input cd.head) (lists_names (body_of cd.head)) cd.head h) refl

cds_right : (area : ℕ) (runs : List Run) → list_all (λ r. are_good r.head) runs ≡ true → list_all (λ entry. is_body_right entry.body) (cds_from area runs) ≡ true
cds_right area [] h = refl
cds_right area (cd ∷ others) h =
    let parts = both (are_good cd.head) (list_all (λ r. are_good r.head) others) h in
    all_of_both (λ entry. is_body_right entry.body) (cd_named (second_token cd.head) area cd) (cds_from (area + 1) others) (named_right (second_token cd.head) area cd parts.0) (cds_right (area + 1) others parts.1)

-- RUNS

abbrev is_good : List Token → Bool
is_good entry = not (is_cd entry) || are_good entry

kept_by : (b : Bool) (r : Run) (runs : List Run) → (not b || are_good r.head) ≡ true → list_all (λ r. are_good r.head) (cd_runs runs) ≡ true → list_all (λ r. are_good r.head) (cond b (r ∷ cd_runs runs) (cd_runs runs)) ≡ true
kept_by true r runs h k = joined (are_good r.head) (list_all (λ r. are_good r.head) (cd_runs runs)) h k
kept_by false r runs h k = k

kept_good : (runs : List Run) → list_all (λ r. is_good r.head) runs ≡ true → list_all (λ r. are_good r.head) (cd_runs runs) ≡ true
kept_good [] h = refl
kept_good (r ∷ runs) h =
    let parts = both (is_good r.head) (list_all (λ r. is_good r.head) runs) h in
    kept_by (is_cd r.head) r runs parts.0 (kept_good runs parts.1)

heads_by : (b : Bool) (entry : List Token) (others : List (List Token) × List Run) → is_good entry ≡ true → list_all (λ r. is_good r.head) others.1 ≡ true → list_all (λ r. is_good r.head) (put_in_runs b entry others).1 ≡ true
heads_by true entry others h k = k
heads_by false entry others h k = joined (is_good entry) (list_all (λ r. is_good r.head) others.1) h k

heads_good : (entries : List (List Token)) → list_all is_good entries ≡ true → list_all (λ r. is_good r.head) (split_runs entries).1 ≡ true
heads_good [] h = refl
heads_good (entry ∷ entries) h =
    let parts = both (is_good entry) (list_all is_good entries) h in
    heads_by (is_item entry) entry (split_runs entries) parts.0 (heads_good entries parts.1)

-- ENTRIES

own_by : (b : Bool) (entry : List Token) (entries : List (List Token)) → are_good (flat_map (λ e. e) (cond b (entry ∷ filter is_cd entries) (filter is_cd entries))) ≡ true
    → (are_good (cd_tokens entries) ≡ true → list_all is_good entries ≡ true) → ((not b || are_good entry) && list_all is_good entries) ≡ true
own_by true entry entries h k =
    joined (are_good entry) (list_all is_good entries) (all_front (λ t. not (is_bad t)) entry (cd_tokens entries) h) (k (all_behind (λ t. not (is_bad t)) entry (cd_tokens entries) h))
own_by false entry entries h k = k h

each_good : (entries : List (List Token)) → are_good (cd_tokens entries) ≡ true → list_all is_good entries ≡ true
each_good [] h = refl
each_good (entry ∷ entries) h = own_by (is_cd entry) entry entries h (each_good entries)

-- NO FAULT

no_bad_table : (l : Limits) (f : Bool) (lined ts : List Token) → other_faults l f lined ts ≡ [] → bad_tables (described ts) ≡ []
no_bad_table l f lined ts h = behind_none _ _ (front_none _ _ (front_none _ _ (front_none _ _ h)))

pub has_occurrences : (ts : List Token) (place : ℕ) (d : DataDivision) → data_fault ts ≡ None → IsDivisionOf ts place d → HasOccurrences d
has_occurrences ts place d none word_flags =
    let entries = described (take place ts) in
    let good : list_all is_good entries ≡ true =
    each_good entries (none_bad (cd_tokens entries) (no_bad_table limits true (take (place + 1) ts) (take place ts) (no_other_fault ts place word_flags.within word_flags.complete none))) in
    let runs = runs_of (take place ts) in
    ap (λ list. list_all (λ entry. is_body_right entry.body) list) (sym word_flags.communication)
    ∙ cds_right (length (storage_records runs)) (cd_runs runs) (kept_good runs (heads_good entries good))
