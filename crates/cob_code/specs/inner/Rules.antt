-- What statements ask of items.
use Rattle.std.specs.Prelude.{ℕ, Bool, false, List, [], ◌&&◌, nat_le, Option, Some, None, Result, Ok, Err}
use Rattle.cob_lex.specs.declared.fault.SourceFault.{SourceFault}
use Rattle.cob_lex.specs.declared.fault.SourceKind.TheVariants as faults
use Rattle.cob_forms.specs.declared.written.Name.{Name}
use Rattle.cob_forms.specs.declared.written.Position.{Position}
use Rattle.cob_meaning.specs.Layouts.{Layout}
use Rattle.cob_data.specs.declared.tree.ItemSort.{ItemSort}
use Rattle.cob_meaning.specs.Names.{data_faults, fault_at, fault_unless, is_numeric, is_single, ItemRule as Rule}
use Rattle.cob_code.specs.declared.referent.Referent.{Referent}
use Rattle.cob_code.specs.declared.referent.Referent.TheVariants.{Item, InputCd, OutputCd}
use Rattle.cob_code.specs.declared.referent.Shape.{Shape}
use Rattle.cob_code.specs.declared.referent.ItemRule.{ItemRule}
use Rattle.cob_code.specs.declared.referent.ItemRule.TheVariants.{Any, Numeric, OfLength}

-- the faults of an item of a length and a sort by a rule
abbrev pub rule_by : ItemRule → Position → ℕ → ItemSort → List SourceFault
rule_by Any position length sort = []
rule_by Numeric position length sort = fault_unless (is_numeric sort) position faults.WrongKind
rule_by (OfLength least most) position length sort = fault_unless (nat_le least length && nat_le length most) position faults.WrongLength

-- a rule, by its variant
abbrev pub rule_of : ItemRule → Rule
rule_of rule position item = rule_by rule position item.length item.sort

-- the faults of the name of an item that holds a subscript
abbrev pub subscript_item_faults : Layout → Name → List SourceFault
subscript_item_faults layout name = data_faults layout name (λ item times. fault_unless (is_single times && is_numeric item.sort) name.position faults.WrongKind)

-- WHAT A NAME IS SEEN AS

-- the shape of data, or the fault of a name that is wanted for data
abbrev pub shape_by : Option Referent → Position → Result Shape SourceFault
shape_by None position = Err (fault_at position faults.UnknownName)
shape_by (Some (Item shape)) position = Ok shape
shape_by (Some InputCd) position = Err (fault_at position faults.WrongKind)
shape_by (Some OutputCd) position = Err (fault_at position faults.WrongKind)

-- whether it is a numeric item
abbrev pub number_by : Option Referent → Bool
number_by None = false
number_by (Some (Item shape)) = is_numeric shape.sort
number_by (Some InputCd) = false
number_by (Some OutputCd) = false

-- the fault of a name that is wanted for an input CD
abbrev pub input_by : Option Referent → Position → Option SourceFault
input_by None position = Some (fault_at position faults.UnknownName)
input_by (Some InputCd) position = None
input_by (Some OutputCd) position = Some (fault_at position faults.WrongKind)
input_by (Some (Item shape)) position = Some (fault_at position faults.WrongKind)

-- the fault of a name that is wanted for an output CD
abbrev pub output_by : Option Referent → Position → Option SourceFault
output_by None position = Some (fault_at position faults.UnknownName)
output_by (Some OutputCd) position = None
output_by (Some InputCd) position = Some (fault_at position faults.WrongKind)
output_by (Some (Item shape)) position = Some (fault_at position faults.WrongKind)
