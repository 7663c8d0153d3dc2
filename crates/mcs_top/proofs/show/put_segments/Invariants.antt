use Rattle.std.proofs.Common.{◌≡◌, ◌++◌, take}
use Rattle.mcs_top.specs.Show.{segment_fields}
use Rattle.mcs_top.proofs.show.put_segments.Given as goal

-- the fields so far
abbrev pub invariant-loop-segment : goal.invariant-loop-segment
invariant-loop-segment l = l.out ≡ l.fn.out ++ segment_fields (take l.segment-index l.segments)
