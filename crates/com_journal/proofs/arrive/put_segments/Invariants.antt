use Rattle.std.proofs.Common.{◌≡◌, ◌∷◌, length, map, take}
use Rattle.std.specs.Fmt.{decimal}
use Rattle.com_text.specs.Counted.{counted_field}
use Rattle.com_journal.specs.inner.Writing.{written}
use Rattle.com_journal.proofs.arrive.put_segments.Given as goal

-- the number and the fields so far
abbrev pub invariant-loop-segment : goal.invariant-loop-segment
invariant-loop-segment l =
    l.out ≡ written l.fn.out (decimal (length l.segments) ∷ map counted_field (take l.segment-index l.segments))
