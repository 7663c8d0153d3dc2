-- What names stand for, as it is kept.
use Rattle.std.specs.Prelude.{ℕ, ◌≤◌, List, [], ◌∷◌, ◌++◌, map, flat_map, find, bytes_eq, Option, Some, None, option_map}
use Rattle.std.specs.List.{AllByRecursion}
use Rattle.com_cd.specs.OutputArea.{out_start}
use Rattle.com_cd.specs.declared.input_area.InField.{InField}
use Rattle.cob_forms.specs.declared.written.Name.{Name}
use Rattle.cob_data.specs.declared.tree.CdBody.{CdBody}
use Rattle.cob_data.specs.declared.tree.CdBody.TheVariants as bodies
use Rattle.cob_data.specs.declared.tree.InputClause.{InputClause}
use Rattle.cob_data.specs.declared.tree.OutputClause.{OutputClause}
use Rattle.cob_data.specs.declared.tree.OutputClause.TheVariants as clauses
use Rattle.cob_data.specs.Layout as layout
use Rattle.cob_flat.specs.declared.names.Entry.{Entry}
use Rattle.cob_flat.specs.declared.referent.Referent.{Referent}
use Rattle.cob_flat.specs.declared.referent.Referent.TheVariants.{Data, InputCd, OutputCd}

-- what a name stands for
abbrev pub meant : Referent → layout.Referent
meant (Data place occurs) = layout.data_at place occurs
meant (InputCd area) = layout.input_cd area
meant (OutputCd area occurrences) = layout.output_cd area occurrences

-- names with what they stand for
abbrev pub listed : List Entry → List layout.Declared
listed entries = map (λ entry. (entry.name.now, meant entry.referent)) entries

-- what the first of these with a name stands for
abbrev pub named_in : List layout.Declared → List ℕ → Option layout.Referent
named_in entries name = option_map (λ entry. entry.1) (find (λ entry. bytes_eq entry.0 name) entries)

-- the names of an input CD by its clauses
abbrev pub clause_names : ℕ → List InputClause → List layout.Declared
clause_names area list =
    flat_map (λ clause. layout.for_data (Some clause.name) (layout.input_place area clause.field) None) list

-- the names of an input CD by its fields in order
abbrev pub names_in_order : ℕ → List (Option Name) → List InField → List layout.Declared
names_in_order area [] fields = []
names_in_order area (name ∷ names) [] = []
names_in_order area (name ∷ names) (field ∷ fields) =
    layout.for_data name (layout.input_place area field) None ++ names_in_order area names fields

-- a field of an output CD begins within the longest area
abbrev pub IsFieldIn : OutputClause → Type 0
IsFieldIn (clauses.Field position field name) = out_start field ≤ 114
IsFieldIn (clauses.Table position occurs) = Unit {0}

-- so does each field of a CD
abbrev pub AreFieldsIn : CdBody → Type 0
AreFieldsIn (bodies.Output list) = AllByRecursion IsFieldIn list
AreFieldsIn _ = Unit {0}
