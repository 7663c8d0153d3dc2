use Rattle.cob_flat.proofs.Staying.{paragraph_stays}
use Rattle.cob_flat.proofs.laws.programs_stay_in_ranges.Goals as goal

pub returns : goal.returns
returns c source program k p is at =
    paragraph_stays program.layout program.text is.no_fault.ranges (c.programs_are_checked.ensures source program is) k p at
