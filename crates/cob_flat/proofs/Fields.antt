-- The fields of output CDs begin within the longest area.
use Rattle.std.proofs.Common.{◌≡◌, ℕ, ◌+◌, ◌*◌, ◌≤◌, arith, List, [], ◌∷◌, ◌++◌, length, flat_map, Option, Some, None}
use Rattle.std.specs.List.{AllByRecursion}
use Rattle.com_cd.specs.OutputArea.{IsOutputArea, out_start}
use Rattle.com_cd.specs.declared.output_area.OutField.{OutField}
use Rattle.com_cd.specs.declared.output_area.TheConstants.{MAX_OCCURRENCES}
use Rattle.cob_data.specs.declared.tree.CdBody.{CdBody}
use Rattle.cob_data.specs.declared.tree.CdBody.TheVariants as bodies
use Rattle.cob_data.specs.declared.tree.CdEntry.{CdEntry}
use Rattle.cob_data.specs.declared.tree.DataDivision.{DataDivision}
use Rattle.cob_data.specs.declared.tree.Item.{Item}
use Rattle.cob_data.specs.declared.tree.OutputClause.{OutputClause}
use Rattle.cob_data.specs.declared.tree.OutputClause.TheVariants as clauses
use Rattle.cob_data.specs.Layout.{Declared, body_names, cd_names, cd_referent, declared, field_occurs, item_names, output_name, output_place, table_of}
use Rattle.cob_meaning.specs.Sound.{IsItemIn, IsReferentIn}
use Rattle.cob_meaning.specs.Storage.{area_in}
use Rattle.cob_flat.specs.inner.Referents.{AreFieldsIn, IsFieldIn}

last_all : {A : Type 0} (P : A → Type 0) (xs ys : List A) → AllByRecursion P (xs ++ ys) → AllByRecursion P ys
last_all P [] ys h = h
last_all P (x ∷ xs) ys h = last_all P xs ys h.1

first_all : {A : Type 0} (P : A → Type 0) (xs ys : List A) → AllByRecursion P (xs ++ ys) → AllByRecursion P xs
first_all P [] ys h = tt
first_all P (x ∷ xs) ys h = (h.0, first_all P xs ys h.1)

module _ (opening : List (List ℕ)) where
  abbrev Within : Declared → Type 0
  Within entry = IsReferentIn opening entry.1

  -- a field of an output CD that is in its area
  starts_in : (area : ℕ) (field : OutField) (occurs : Option ℕ) → IsOutputArea (area_in opening area) → IsItemIn opening (output_place area field) occurs → out_start field ≤ 114
  starts_in area field occurs cd item = omega (arith, cd.few, cd.whole, item.within)

  -- the fields of an output CD
  clauses_in : (area : ℕ) (occurs : Option ℕ) (list : List OutputClause) → IsOutputArea (area_in opening area) → AllByRecursion Within (flat_map (output_name area occurs) list) → AllByRecursion IsFieldIn list
  clauses_in area occurs [] cd h = tt
  clauses_in area occurs (clauses.Field position field name ∷ list) cd h =
      (starts_in area field (field_occurs occurs field) cd h.0, clauses_in area occurs list cd h.1)
  clauses_in area occurs (clauses.Table position number ∷ list) cd h = (tt, clauses_in area occurs list cd h)

  -- those of a CD
  body_in : (area : ℕ) (name : List ℕ) (body : CdBody) (records : List Item) → AllByRecursion Within ((name, cd_referent area body) ∷ body_names area body ++ item_names records) → AreFieldsIn body
  body_in area name (bodies.Input initial list) records h = tt
  body_in area name (bodies.InputNames initial names) records h = tt
  body_in area name (bodies.Output list) records h =
      clauses_in area (table_of list) list h.0 (first_all Within (flat_map (output_name area (table_of list)) list) (item_names records) h.1)

  -- those of all CDs
  cds_in : (cds : List CdEntry) → AllByRecursion Within (flat_map cd_names cds) → AllByRecursion (λ cd. AreFieldsIn cd.body) cds
  cds_in [] h = tt
  cds_in (cd ∷ cds) h =
      (body_in cd.area cd.name.text cd.body cd.records (first_all Within (cd_names cd) (flat_map cd_names cds) h), cds_in cds (last_all Within (cd_names cd) (flat_map cd_names cds) h))

-- those of a program whose layout is sound
pub fields_in : (opening : List (List ℕ)) (division : DataDivision) → AllByRecursion (λ entry. IsReferentIn opening entry.1) (declared division) → AllByRecursion (λ cd. AreFieldsIn cd.body) division.communication
fields_in opening division h = cds_in opening division.communication (last_all (λ entry. IsReferentIn opening entry.1) (item_names division.working_storage) (flat_map cd_names division.communication) h)
