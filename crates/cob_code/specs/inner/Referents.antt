-- What names stand for, as far as statements look at it.
use Rattle.std.specs.Prelude.{ℕ, List, [], ◌∷◌, ◌++◌, Option, Some, None, flat_map, map}
use Rattle.com_cd.specs.InputArea.{width_of}
use Rattle.com_cd.specs.declared.input_area.InField.{InField}
use Rattle.com_cd.specs.OutputArea.{out_width}
use Rattle.com_cd.specs.declared.output_area.OutField.{OutField}
use Rattle.cob_forms.specs.declared.written.Name.{Name}
use Rattle.cob_data.specs.Layout as layout
use Rattle.cob_data.specs.declared.tree.CdBody.{CdBody}
use Rattle.cob_data.specs.declared.tree.CdBody.TheVariants as bodies
use Rattle.cob_data.specs.declared.tree.CdEntry.{CdEntry}
use Rattle.cob_data.specs.declared.tree.DataDivision.{DataDivision}
use Rattle.cob_data.specs.declared.tree.InputClause.{InputClause}
use Rattle.cob_data.specs.declared.tree.Item.{Item as DataItem}
use Rattle.cob_data.specs.declared.tree.OutputClause.{OutputClause}
use Rattle.cob_data.specs.declared.tree.OutputClause.TheVariants as clauses
use Rattle.cob_code.specs.declared.names.Entry.{Entry}
use Rattle.cob_code.specs.declared.referent.Shape.{Shape}
use Rattle.cob_code.specs.declared.referent.Referent.{Referent}
use Rattle.cob_code.specs.declared.referent.Referent.TheVariants.{Item, InputCd, OutputCd}

-- what is looked at of what a name stands for
abbrev pub seen : layout.Referent → Referent
seen (layout.data_at place occurs) = Item (record { length = place.length; sort = place.sort; occurs = occurs })
seen (layout.input_cd area) = InputCd
seen (layout.output_cd area occurrences) = OutputCd

-- names with what is looked at of what they stand for
abbrev pub looked_at : List layout.Declared → List (List ℕ × Referent)
looked_at declared = map (λ entry. (entry.0, seen entry.1)) declared

-- the same, as they are kept
abbrev pub listed : List Entry → List (List ℕ × Referent)
listed entries = map (λ entry. (entry.name.now, entry.referent)) entries

-- a name, if there is one, of data
abbrev pub named : Option Name → Shape → List (List ℕ × Referent)
named None shape = []
named (Some name) shape = (name.text, Item shape) ∷ []

-- the names of items
abbrev pub item_entries : List DataItem → List (List ℕ × Referent)
item_entries items = flat_map (λ item. named item.name (record { length = item.place.length; sort = item.place.sort; occurs = None })) items

-- a field of an input CD
abbrev pub input_item : InField → Shape
input_item field = record { length = width_of field; sort = layout.input_sort field; occurs = None }

-- the names of an input CD by clauses
abbrev pub input_entries : List InputClause → List (List ℕ × Referent)
input_entries list = map (λ clause. (clause.name.text, Item (input_item clause.field))) list

-- the names of an input CD in order
abbrev pub names_entries : List (Option Name) → List InField → List (List ℕ × Referent)
names_entries [] fields = []
names_entries (name ∷ names) [] = []
names_entries (name ∷ names) (field ∷ fields) = named name (input_item field) ++ names_entries names fields

-- a field of an output CD
abbrev pub output_item : OutField → Option ℕ → Shape
output_item field occurs = record { length = out_width field; sort = layout.output_sort field; occurs = layout.field_occurs occurs field }

-- the name of a clause of an output CD
abbrev pub output_entry : Option ℕ → OutputClause → List (List ℕ × Referent)
output_entry occurs (clauses.Field position field name) = (name.text, Item (output_item field occurs)) ∷ []
output_entry occurs (clauses.Table position number) = []

-- the names of an output CD
abbrev pub output_entries : Option ℕ → List OutputClause → List (List ℕ × Referent)
output_entries occurs list = flat_map (output_entry occurs) list

-- what a CD is
abbrev pub cd_referent : CdBody → Referent
cd_referent (bodies.Input initial list) = InputCd
cd_referent (bodies.InputNames initial names) = InputCd
cd_referent (bodies.Output list) = OutputCd

-- the names of the fields of a CD
abbrev pub body_entries : CdBody → List (List ℕ × Referent)
body_entries (bodies.Input initial list) = input_entries list
body_entries (bodies.InputNames initial names) = names_entries names layout.input_fields
body_entries (bodies.Output list) = output_entries (layout.table_of list) list

-- the names of a CD, of its fields and of its records
abbrev pub cd_entries : CdEntry → List (List ℕ × Referent)
cd_entries cd = ((cd.name.text, cd_referent cd.body) ∷ body_entries cd.body) ++ item_entries cd.records

-- the names of divisions
abbrev pub division_entries : DataDivision → List (List ℕ × Referent)
division_entries d = item_entries d.working_storage ++ flat_map cd_entries d.communication
