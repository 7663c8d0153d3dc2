-- How long the area of a CD is: the tree and the tokens of an output CD say the same of how often its
-- table occurs.
use Rattle.std.proofs.Common.{◌≡◌, ◌≤◌, ℕ, ◌+◌, ◌-◌, ◌*◌, Bool, true, false, ◌&&◌, nat_le, List, [], ◌∷◌, ◌++◌, length, Option, Some, None, refl, sym, ap, ◌∙◌, arith}
use Rattle.std.specs.Prelude.{if◌then◌else◌, option_map, slice_get}
use Rattle.std.specs.Option.{option_or}
use Rattle.std.specs.List.{list_all}
use Rattle.std.proofs.lemmas.Grind.{common_steps}
use Rattle.std.proofs.lemmas.Bool.Decides.{nat_tests}
use Rattle.com_text.specs.Digits.{number}
use Rattle.com_cd.specs.declared.output_area.OutField.{OutField}
use Rattle.com_cd.specs.declared.output_area.TheConstants.{MAX_OCCURRENCES}
use Rattle.com_cd.proofs.Outputs.{length-opening_output}
use Rattle.cob_lex.specs.Fronts.{is_number}
use Rattle.cob_lex.specs.declared.token.Token.{Token}
use Rattle.cob_forms.specs.Written.{number_of, position_of}
use Rattle.cob_data.specs.declared.tree.OutputClause.{OutputClause}
use Rattle.cob_data.specs.declared.tree.OutputClause.TheVariants as clauses
use Rattle.cob_data.specs.Clauses.{area_length, clauses_of, is_input, number_in, occurrences, or_one, output_field_of}
use Rattle.cob_data.specs.Divisions.{body_by, output_clause, output_clauses}
use Rattle.cob_data.specs.Entries.{first_token, last_token}
use Rattle.cob_data.specs.Layout.{opening_cd, table_of}
use Rattle.cob_data.specs.Numerals.{numeral}
use Rattle.cob_data.specs.Occurrences.{is_body_right, is_table_right}
use Rattle.cob_data.proofs.NumeralLaws.{both}
use Rattle.cob_data.proofs.OccurrenceLaws.{all_behind}
use Rattle.cob_data.proofs.OutputClauses.{clause_token, table_token}

-- A RIGHT NUMBER

-- digits that write a number from 1 to 8
record IsRightNumber (digits : List ℕ) : Type 0 where
  some : 1 ≤ numeral digits
  few : numeral digits ≤ 8
  same : numeral digits ≡ number digits

at_least : (n : ℕ) → nat_le 1 n ≡ true → 1 ≤ n
at_least n h = grind (arith, common_steps, nat_tests)

at_most : (n : ℕ) → nat_le n MAX_OCCURRENCES ≡ true → n ≤ 8
at_most n h = grind (arith, common_steps, nat_tests)

same_by : (b : Bool) (digits : List ℕ) → 1 ≤ (if b then number digits else 0) → (if b then number digits else 0) ≡ number digits
same_by true digits h = refl
same_by false digits h = absurd (omega (arith, h))

right_number : (digits : List ℕ) → (nat_le 1 (numeral digits) && nat_le (numeral digits) MAX_OCCURRENCES) ≡ true → IsRightNumber digits
right_number digits h =
    let all = both (nat_le 1 (numeral digits)) (nat_le (numeral digits) MAX_OCCURRENCES) h in
    let some = at_least (numeral digits) all.0 in
    record { some = some; few = at_most (numeral digits) all.1; same = same_by (is_number digits) digits some }

-- TABLES

-- 1 to 8 occurrences, and 1 without a table
pub record IsRightTable (o : Option ℕ) : Type 0 where
  pub some : 1 ≤ or_one o
  pub few : or_one o ≤ 8

one_table : (o : Option ℕ) (digits : List ℕ) → o ≡ Some (number digits) → IsRightNumber digits → IsRightTable o
one_table o digits e h = rw e (record { some = omega (arith, h.some, h.same); few = omega (arith, h.few, h.same) })

pub right_table : (list : List OutputClause) → list_all is_table_right list ≡ true → IsRightTable (table_of list)
right_table [] h = record { some = omega arith; few = omega arith }
right_table (clauses.Field position field name ∷ list) h = right_table list h
right_table (clauses.Table position occurs ∷ list) h =
    one_table (table_of (clauses.Table position occurs ∷ list)) occurs.digits refl
    (right_number occurs.digits (both (is_table_right (clauses.Table position occurs)) (list_all is_table_right list) h).0)

-- THE TOKEN OF A TABLE

-- a clause with a first token has a last one
last_some : (t : Token) (ts : List Token) → slice_get (t ∷ ts) (length ts) ≡ None → ⊥
last_some t [] h = let no : ⊥ = cc in no
last_some t (u ∷ us) h = last_some u us h

-- the number that a token writes
abbrev told : Option Token → Option ℕ
told o = option_map (λ t. numeral t.text) o

module _ (others : List OutputClause) (behind : Option Token) (same : told behind ≡ table_of others) where
  table_here : (first m : Token) → (list_all is_table_right (clauses.Table (position_of first) (number_of m) ∷ others)) ≡ true → Some (numeral m.text) ≡ Some (number m.text)
  table_here first m h = ap Some (right_number m.text (both (is_table_right (clauses.Table (position_of first) (number_of m))) (list_all is_table_right others) h).0).same

  by_tokens : (field : Option (Option OutField)) (clause : List Token) (first named occurs : Option Token) → number_in clause ≡ occurs → (first ≡ None → occurs ≡ None) → (named ≡ None → first ≡ None)
      → list_all is_table_right (output_clause field first named occurs ++ others) ≡ true → told (option_or (clause_token field clause) behind) ≡ table_of (output_clause field first named occurs ++ others)
  by_tokens None clause first named occurs e k m h = same
  by_tokens (Some (Some f)) clause None named occurs e k m h = same
  by_tokens (Some (Some f)) clause (Some t) None occurs e k m h = same
  by_tokens (Some (Some f)) clause (Some t) (Some n) occurs e k m h = same
  by_tokens (Some None) clause None named occurs e k m h = ap (λ o. told (option_or o behind)) (e ∙ k refl) ∙ same
  by_tokens (Some None) clause (Some t) None occurs e k m h = let no : ⊥ = some_none t (m refl) in absurd no
    where
      some_none : (t : Token) → Some t ≡ None → ⊥
      some_none t e = cc
  by_tokens (Some None) clause (Some t) (Some n) None e k m h = ap (λ o. told (option_or o behind)) e ∙ same
  by_tokens (Some None) clause (Some t) (Some n) (Some u) e k m h = ap (λ o. told (option_or o behind)) e ∙ table_here t u h

none_without : (clause : List Token) → first_token clause ≡ None → number_in clause ≡ None
none_without [] h = refl
none_without (t ∷ ts) h = let no : ⊥ = cc in absurd no

last_there : (clause : List Token) → last_token clause ≡ None → first_token clause ≡ None
last_there [] h = refl
last_there (t ∷ ts) h =
    let n : length (t ∷ ts) - 1 ≡ length ts = omega arith in
    absurd (last_some t ts (ap (slice_get (t ∷ ts)) (sym n) ∙ h))

pub table_numeral : (list : List (List Token)) → list_all is_table_right (output_clauses list) ≡ true → told (table_token list) ≡ table_of (output_clauses list)
table_numeral [] h = refl
table_numeral (clause ∷ list) h =
    let own = output_clause (output_field_of clause) (first_token clause) (last_token clause) (number_in clause) in
    by_tokens (output_clauses list) (table_token list) (table_numeral list (all_behind is_table_right own (output_clauses list) h)) (output_field_of clause) clause (first_token clause) (last_token clause) (number_in clause) refl
    (none_without clause) (last_there clause) h

-- AREAS

-- the area of a CD begins with as many characters as its entry says
pub area_size : (head : List Token) (lists : Bool) → (is_input head ≡ false → number_in head ≡ table_token (clauses_of head)) → is_body_right (body_by (is_input head) lists head) ≡ true → length (opening_cd (body_by (is_input head) lists head)) ≡ area_length head
area_size head lists same right = by (is_input head) lists same right
  where
    by : (input lists : Bool) → (input ≡ false → number_in head ≡ table_token (clauses_of head)) → is_body_right (body_by input lists head) ≡ true
        → length (opening_cd (body_by input lists head)) ≡ (if input then 87 else 10 + 13 * or_one (occurrences head))
    by true true e h = refl
    by true false e h = refl
    by false lists e h =
        let n : or_one (occurrences head) ≡ or_one (table_of (output_clauses (clauses_of head))) = ap or_one (ap told (e refl) ∙ table_numeral (clauses_of head) h) in
        length-opening_output (or_one (table_of (output_clauses (clauses_of head)))) ∙ ap (λ m. 10 + 13 * m) (sym n)
