-- What the names of items, CDs and their fields stand for is within the areas, if each area is as
-- long as its record or CD.
use Rattle.std.proofs.Common.{◌≡◌, ◌≤◌, ℕ, ◌+◌, ◌*◌, Bool, true, false, ◌==◌, List, [], ◌∷◌, ◌++◌, length, filter, map, Option, Some, None, refl, sym, ap, ◌∙◌, arith, append_assoc, length-append}
use Rattle.std.specs.Prelude.{IfSome, cond, find, flat_map, option_map, zip}
use Rattle.std.specs.List.{AllByRecursion, list_all}
use Rattle.std.proofs.Math.Seq.{get_or-append_seam}
use Rattle.std.proofs.lemmas.Bool.{and_parts}
use Rattle.std.proofs.lemmas.Grind.{common_steps}
use Rattle.std.proofs.lemmas.Bool.Decides.{nat_tests}
use Rattle.com_text.specs.Text.{IsText}
use Rattle.com_cd.specs.InputArea.{IsInputArea, opening_area, start_of, width_of}
use Rattle.com_cd.specs.OutputArea.{IsOutputArea, opening_output, out_start, out_width}
use Rattle.com_cd.specs.declared.input_area.InField.{InField}
use Rattle.com_cd.specs.declared.input_area.InField.TheVariants as cd
use Rattle.com_cd.specs.declared.output_area.OutField.{OutField}
use Rattle.com_cd.specs.declared.output_area.OutField.TheVariants as out
use Rattle.com_cd.proofs.Outputs.{IsText-opening_output, is_area, length-opening_output}
use Rattle.cob_lex.specs.declared.token.Token.{Token}
use Rattle.cob_forms.specs.declared.written.Name.{Name}
use Rattle.cob_forms.specs.declared.written.Position.{Position}
use Rattle.cob_data.specs.declared.tree.CdBody.{CdBody}
use Rattle.cob_data.specs.declared.tree.InputClause.{InputClause}
use Rattle.cob_data.specs.declared.tree.Item.{Item}
use Rattle.cob_data.specs.declared.tree.ItemPlace.{ItemPlace}
use Rattle.cob_data.specs.declared.tree.OutputClause.{OutputClause}
use Rattle.cob_data.specs.declared.tree.OutputClause.TheVariants as clauses
use Rattle.cob_data.specs.Clauses.{body_of, clauses_of, first_pair, is_name_or_filler, number_in, or_one, output_field_of, output_words}
use Rattle.cob_data.specs.Divisions.{body_by, initial_of, input_clauses, items_by_area, items_from, name_if, output_clause, output_clause_by, output_clauses}
use Rattle.cob_data.specs.Entries.{first_token, has, last_token}
use Rattle.cob_data.specs.Faults.{record_size}
use Rattle.cob_data.specs.Layout.{Declared, body_names, cd_referent, field_occurs, for_data, initial_by, input_fields, input_place, item_names, opening_cd, output_name, output_place, table_of}
use Rattle.cob_data.specs.Occurrences.{is_body_right}
use Rattle.cob_data.proofs.OccurrenceLaws.{all_of_both}
use Rattle.cob_meaning.specs.Sound.{IsItemIn, IsReferentIn}
use Rattle.cob_meaning.specs.Storage.{area_in}
use Rattle.cob_data.proofs.OpeningAreas.{AreAreasOf}
use Rattle.cob_data.proofs.RightPlaces.{IsPlace, places_from}
use Rattle.cob_data.proofs.RightRecords.{IsItemOf, IsMeasuredRecord, IsRecord}
use Rattle.cob_data.proofs.TableNumbers.{IsRightTable, right_table}
use Rattle.cob_data.proofs.Tests.{each_of_both}

-- LISTS

-- what holds of all elements that each element gives
flat_each : {A B : Type 0} (P : B → Type 0) (f : A → List B) → ((x : A) → AllByRecursion P (f x)) → (xs : List A) → AllByRecursion P (flat_map f xs)
flat_each P f h [] = tt
flat_each P f h (x ∷ xs) = each_of_both P (f x) (flat_map f xs) (h x) (flat_each P f h xs)

-- the area after so many others
pub area_at : (opening front others : List (List ℕ)) (here : List ℕ) (area : ℕ) → opening ≡ front ++ here ∷ others → length front ≡ area → area_in opening area ≡ here
area_at opening front others here area w e = ap (λ o. area_in o area) w ∙ ap (area_in (front ++ here ∷ others)) (sym e) ∙ get_or-append_seam front here others []

-- NAMES

module _ (opening : List (List ℕ)) where
  abbrev pub Holds : Declared → Type 0
  Holds entry = IsReferentIn opening entry.1

  one_name : (name : Option Name) (place : ItemPlace) (occurs : Option ℕ) → IsItemIn opening place occurs → AllByRecursion Holds (for_data name place occurs)
  one_name None place occurs h = tt
  one_name (Some name) place occurs h = (h, tt)

  pub items_hold : (items : List Item) → AllByRecursion (λ i. IsItemIn opening i.place None) items → AllByRecursion Holds (item_names items)
  items_hold [] h = tt
  items_hold (item ∷ items) h = each_of_both Holds (for_data item.name item.place None) (item_names items) (one_name item.name item.place None h.0) (items_hold items h.1)

  -- ITEMS

  placed : (area size : ℕ) → length (area_in opening area) ≡ size → (place : ItemPlace) → IsPlace area size place → IsItemIn opening place None
  placed area size e place p = record {
    some = p.some;
    few = p.few;
    few_digits = p.few_digits;
    within = rw (p.in_area, e) p.within;
  }

  all_placed : (area size : ℕ) → length (area_in opening area) ≡ size → (items : List Item) → AllByRecursion (λ i. IsPlace area size i.place) items → AllByRecursion (λ i. IsItemIn opening i.place None) items
  all_placed area size e [] h = tt
  all_placed area size e (item ∷ items) h = (placed area size e item.place h.0, all_placed area size e items h.1)

  -- the items of a record, if its area is as long
  pub record_placed : (over_cd : Bool) (Q : Token → Type 0) (area : ℕ) (items : List (List Token)) → IsRecord over_cd (IsItemOf Q) items → record_size items ≤ 2000 → length (area_in opening area) ≡ record_size items
      → AllByRecursion (λ i. IsItemIn opening i.place None) (items_from area 0 items)
  record_placed over_cd Q area items r few e = all_placed area (record_size items) e (items_from area 0 items) (places_from over_cd Q area (record_size items) few 0 items r.right r.each (omega arith))

  -- the items of Working-Storage
  pub storage_placed : (Q : Token → Type 0) (area : ℕ) (front others areas : List (List ℕ)) (records : List (List (List Token))) → opening ≡ front ++ (areas ++ others) → length front ≡ area
      → AllByRecursion (IsRecord false (IsItemOf Q)) records → AllByRecursion (IsMeasuredRecord None) records → AreAreasOf records areas → AllByRecursion (λ i. IsItemIn opening i.place None) (items_by_area area records)
  storage_placed Q area front others areas [] w e r m a = tt
  storage_placed Q area front others [] (items ∷ records) w e r m a = absurd a
  storage_placed Q area front others (here ∷ areas) (items ∷ records) w e r m a =
      let at : area_in opening area ≡ here = area_at opening front (areas ++ others) here area w e in
      let next : opening ≡ (front ++ here ∷ []) ++ (areas ++ others) = w ∙ sym (append_assoc front (here ∷ []) (areas ++ others)) in
      let size : length (front ++ here ∷ []) ≡ area + 1 = omega (arith, length-append front (here ∷ []), e) in
      each_of_both (λ i. IsItemIn opening i.place None) (items_from area 0 items) (items_by_area (area + 1) records)
      (record_placed false Q area items r.0 m.0.few (ap length at ∙ a.0.size_is))
      (storage_placed Q (area + 1) (front ++ here ∷ []) others areas records next size r.1 m.1 a.1)

-- FIELDS OF INPUT CDS

record IsInField (field : InField) : Type 0 where
  some : 1 ≤ width_of field
  few : width_of field ≤ 12
  within : start_of field + width_of field ≤ 87

in_field : (field : InField) → IsInField field
in_field cd.Queue = record { some = omega arith; few = omega arith; within = omega arith }
in_field cd.Sub1 = record { some = omega arith; few = omega arith; within = omega arith }
in_field cd.Sub2 = record { some = omega arith; few = omega arith; within = omega arith }
in_field cd.Sub3 = record { some = omega arith; few = omega arith; within = omega arith }
in_field cd.Date = record { some = omega arith; few = omega arith; within = omega arith }
in_field cd.Time = record { some = omega arith; few = omega arith; within = omega arith }
in_field cd.Source = record { some = omega arith; few = omega arith; within = omega arith }
in_field cd.Length = record { some = omega arith; few = omega arith; within = omega arith }
in_field cd.EndKey = record { some = omega arith; few = omega arith; within = omega arith }
in_field cd.Status = record { some = omega arith; few = omega arith; within = omega arith }
in_field cd.Count = record { some = omega arith; few = omega arith; within = omega arith }

input_item : (opening : List (List ℕ)) (area : ℕ) (field : InField) → length (area_in opening area) ≡ 87 → IsItemIn opening (input_place area field) None
input_item opening area field e = let f = in_field field in record {
  some = f.some;
  few = omega (arith, f.few);
  few_digits = λ h. omega (arith, f.few);
  within = rw e f.within;
}

-- FIELDS OF OUTPUT CDS

-- a field of the first destination, or of none
abbrev pub is_first : OutField → Bool
is_first out.Count = true
is_first out.Length = true
is_first out.Status = true
is_first (out.Error at) = at == 0
is_first (out.Destination at) = at == 0

is_zero : (n : ℕ) → (n == 0) ≡ true → n ≡ 0
is_zero n h = grind (arith, common_steps, nat_tests)

once : (opening : List (List ℕ)) (area start width : ℕ) (field : OutField) → 1 ≤ width → width ≤ 12 → start + width ≤ 10 → 10 ≤ length (area_in opening area) → start ≡ out_start field → width ≡ out_width field → IsItemIn opening (output_place area field) None
once opening area start width field some few fits long a b = record {
  some = omega (arith, some, b);
  few = omega (arith, few, b);
  few_digits = λ h. omega (arith, few, b);
  within = omega (arith, fits, long, a, b);
}

-- a field that occurs as often as the table
often : (opening : List (List ℕ)) (area : ℕ) (occurs : Option ℕ) (field : OutField) → IsRightTable occurs → length (area_in opening area) ≡ 10 + 13 * or_one occurs → 1 ≤ out_width field → out_width field ≤ 12 → out_start field + out_width field ≤ 23
    → IsItemIn opening (output_place area field) occurs
often opening area None field t long some few fits = record {
  some = some;
  few = omega (arith, few);
  few_digits = λ h. omega (arith, few);
  within = omega (arith, fits, long);
}
often opening area (Some n) field t long some few fits =
    let one : 1 ≤ n = t.some in
    record {
      some = some;
      few = omega (arith, few);
      few_digits = λ h. omega (arith, few);
      within = omega (arith, fits, long, one);
    }

output_item : (opening : List (List ℕ)) (area : ℕ) (occurs : Option ℕ) (field : OutField) → is_first field ≡ true → IsRightTable occurs → length (area_in opening area) ≡ 10 + 13 * or_one occurs → IsItemIn opening (output_place area field) (field_occurs occurs field)
output_item opening area occurs out.Count h t long = once opening area 0 4 out.Count (omega arith) (omega arith) (omega arith) (omega (arith, long)) refl refl
output_item opening area occurs out.Length h t long = once opening area 4 4 out.Length (omega arith) (omega arith) (omega arith) (omega (arith, long)) refl refl
output_item opening area occurs out.Status h t long = once opening area 8 2 out.Status (omega arith) (omega arith) (omega arith) (omega (arith, long)) refl refl
output_item opening area occurs (out.Error at) h t long = let z = is_zero at h in often opening area occurs (out.Error at) t long (omega arith) (omega arith) (omega (arith, z))
output_item opening area occurs (out.Destination at) h t long = let z = is_zero at h in often opening area occurs (out.Destination at) t long (omega arith) (omega arith) (omega (arith, z))

-- the field of a clause is never one of a later destination
abbrev is_first_some : Option OutField → Bool
is_first_some None = true
is_first_some (Some field) = is_first field

abbrev first_in : Option (List ℕ × Option OutField) → Bool
first_in None = true
first_in (Some pair) = is_first_some pair.1

found_first : (test : List ℕ × Option OutField → Bool) (pairs : List (List ℕ × Option OutField)) → list_all (λ pair. is_first_some pair.1) pairs ≡ true → first_in (find test pairs) ≡ true
found_first test [] h = refl
found_first test (pair ∷ pairs) h =
    let all = and_parts (is_first_some pair.1) (list_all (λ p. is_first_some p.1) pairs) h in
    by (test pair) all.0 (found_first test pairs all.1)
  where
    by : (b : Bool) → is_first_some pair.1 ≡ true → first_in (find test pairs) ≡ true → first_in (cond b (Some pair) (find test pairs)) ≡ true
    by true h k = h
    by false h k = k

abbrev first_field : Option (Option OutField) → Bool
first_field None = true
first_field (Some o) = is_first_some o

field_by : (o : Option (List ℕ × Option OutField)) → first_in o ≡ true → first_field (option_map (λ pair. pair.1) o) ≡ true
field_by None h = refl
field_by (Some pair) h = h

first_of_clause : (clause : List Token) → first_field (output_field_of clause) ≡ true
unfolding output_field_of
first_of_clause clause = field_by (first_pair output_words clause) (found_first (λ pair. has pair.0 clause) output_words refl)

abbrev is_first_clause : OutputClause → Bool
is_first_clause (clauses.Field position field name) = is_first field
is_first_clause (clauses.Table position occurs) = true

clause_by : (field : Option OutField) (first named : Token) (occurs : Option Token) → is_first_some field ≡ true → list_all is_first_clause (output_clause_by field first named occurs) ≡ true
clause_by (Some field) first named occurs h = rw h refl
clause_by None first named (Some occurs) h = refl
clause_by None first named None h = refl

clause_first : (field : Option (Option OutField)) (first named occurs : Option Token) → first_field field ≡ true → list_all is_first_clause (output_clause field first named occurs) ≡ true
clause_first (Some field) (Some first) (Some named) occurs h = clause_by field first named occurs h
clause_first (Some field) (Some first) None occurs h = refl
clause_first (Some field) None named occurs h = refl
clause_first None first named occurs h = refl

clauses_first : (list : List (List Token)) → list_all is_first_clause (output_clauses list) ≡ true
clauses_first [] = refl
clauses_first (clause ∷ list) =
    all_of_both is_first_clause (output_clause (output_field_of clause) (first_token clause) (last_token clause) (number_in clause)) (output_clauses list)
    (clause_first (output_field_of clause) (first_token clause) (last_token clause) (number_in clause) (first_of_clause clause)) (clauses_first list)

-- NAMES OF FIELDS

module _ (opening : List (List ℕ)) (area : ℕ) where
  output_clause_names : (occurs : Option ℕ) (clause : OutputClause) → is_first_clause clause ≡ true → IsRightTable occurs → length (area_in opening area) ≡ 10 + 13 * or_one occurs → AllByRecursion (Holds opening) (output_name area occurs clause)
  output_clause_names occurs (clauses.Field position field name) h t long = one_name opening (Some name) (output_place area field) (field_occurs occurs field) (output_item opening area occurs field h t long)
  output_clause_names occurs (clauses.Table position number) h t long = tt

  output_names : (occurs : Option ℕ) (list : List OutputClause) → list_all is_first_clause list ≡ true → IsRightTable occurs → length (area_in opening area) ≡ 10 + 13 * or_one occurs → AllByRecursion (Holds opening) (flat_map (output_name area occurs) list)
  output_names occurs [] h t long = tt
  output_names occurs (clause ∷ list) h t long =
      let all = and_parts (is_first_clause clause) (list_all is_first_clause list) h in
      each_of_both (Holds opening) (output_name area occurs clause) (flat_map (output_name area occurs) list) (output_clause_names occurs clause all.0 t long) (output_names occurs list all.1 t long)

  abbrev clause_names : InputClause → List Declared
  clause_names clause = for_data (Some clause.name) (input_place area clause.field) None

  input_names : (list : List InputClause) → length (area_in opening area) ≡ 87 → AllByRecursion (Holds opening) (flat_map clause_names list)
  input_names list e = flat_each (Holds opening) clause_names (λ clause. one_name opening (Some clause.name) (input_place area clause.field) None (input_item opening area clause.field e)) list

  abbrev pair_names : Option Name × InField → List Declared
  pair_names pair = for_data pair.0 (input_place area pair.1) None

  listed_names : (pairs : List (Option Name × InField)) → length (area_in opening area) ≡ 87 → AllByRecursion (Holds opening) (flat_map pair_names pairs)
  listed_names pairs e = flat_each (Holds opening) pair_names (λ pair. one_name opening pair.0 (input_place area pair.1) None (input_item opening area pair.1 e)) pairs

-- BODIES OF CDS

-- A CD whose area is that of its body: its name and those of its fields stand for the area and parts
-- of it.
pub record IsSoundBody (opening : List (List ℕ)) (area : ℕ) (body : CdBody) : Type 0 where
  pub referent : IsReferentIn opening (cd_referent area body)
  pub names : AllByRecursion (Holds opening) (body_names area body)
  pub text : IsText (opening_cd body)
  pub initial : IfSome (initial_by body) (λ p. 48 ≤ length (area_in opening area))

input_area : (here : List ℕ) → here ≡ opening_area → IsInputArea here
input_area here e = rw e (record { length = refl; text = refl })

any_initial : (o : Option Position) (n : ℕ) → n ≡ 87 → IfSome o (λ p. 48 ≤ n)
any_initial None n e = tt
any_initial (Some p) n e = omega (arith, e)

output_area : (here : List ℕ) (occurs : Option ℕ) → here ≡ opening_output (or_one occurs) → IsRightTable occurs → IsOutputArea here
output_area here occurs e t = rw e (is_area (opening_output (or_one occurs)) (or_one occurs) (length-opening_output (or_one occurs)) t.some t.few (IsText-opening_output (or_one occurs)))

module _ (opening : List (List ℕ)) (area : ℕ) (head : List Token) where
  pub body_sound : (input lists : Bool) → area_in opening area ≡ opening_cd (body_by input lists head) → is_body_right (body_by input lists head) ≡ true → IsSoundBody opening area (body_by input lists head)
  body_sound true true e h = record {
    referent = input_area (area_in opening area) e;
    names = listed_names opening area (zip (map name_if (filter is_name_or_filler (body_of head))) input_fields) (ap length e);
    text = refl;
    initial = any_initial (initial_of head) (length (area_in opening area)) (ap length e);
  }
  body_sound true false e h = record {
    referent = input_area (area_in opening area) e;
    names = input_names opening area (input_clauses (clauses_of head)) (ap length e);
    text = refl;
    initial = any_initial (initial_of head) (length (area_in opening area)) (ap length e);
  }
  body_sound false lists e h =
      let list = output_clauses (clauses_of head) in
      let table = right_table list h in
      record {
        referent = output_area (area_in opening area) (table_of list) e table;
        names = output_names opening area (table_of list) list (clauses_first (clauses_of head)) table (ap length e ∙ length-opening_output (or_one (table_of list)));
        text = IsText-opening_output (or_one (table_of list));
        initial = tt;
      }
