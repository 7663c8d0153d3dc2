-- The faults of ranges, by the numbers of paragraphs and a table of what leads to what.
use Rattle.std.specs.Prelude.{Bool, not, nat_le, List}
use Rattle.std.specs.List.{list_all}
use Rattle.cob_lex.specs.declared.fault.SourceFault.{SourceFault}
use Rattle.cob_lex.specs.declared.fault.SourceKind.TheVariants as faults
use Rattle.cob_meaning.specs.Names.{fault_unless}
use Rattle.cob_code.specs.declared.bounds.Bounds.{Bounds}
use Rattle.cob_code.specs.declared.ranges.Jump.{Jump}
use Rattle.cob_code.specs.declared.ranges.Range.{Range}
use Rattle.cob_code.specs.inner.Bounds.{keeps, stays_in}
use Rattle.cob_code.specs.inner.Sets.{set_at, any_between}

-- a THRU that ends before it begins
abbrev pub backward : Range → List SourceFault
backward range = fault_unless (nat_le range.first range.last) range.end faults.LeavesRange

-- a GO out of a range that its paragraph is in
abbrev pub leaving : List Range → Jump → List SourceFault
leaving ranges jump = fault_unless (list_all (stays_in jump.from jump.to) ranges) jump.place faults.LeavesRange

-- the same, by the bounds of its paragraph
abbrev pub leaving_by : List Bounds → Jump → List SourceFault
leaving_by bounds jump = fault_unless (keeps bounds jump.from jump.to) jump.place faults.LeavesRange

-- a PERFORM of whose range a paragraph leads to its own
abbrev pub circling : List (List Bool) → Range → List SourceFault
circling table range = fault_unless (not (any_between (set_at table range.from) range.first range.last)) range.begin faults.PerformsItself
