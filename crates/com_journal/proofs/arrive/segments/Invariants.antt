use Rattle.std.proofs.Common.{◌≡◌, ◌-◌, ℕ, List, ◌++◌, option_map}
use Rattle.com_journal.specs.inner.Reading.{segments_at}
use Rattle.com_journal.proofs.arrive.segments.Given as goal

-- the segments so far, and those that are left to read after them
abbrev pub invariant-loop : goal.invariant-loop
invariant-loop l =
    option_map (λ (tail : List (List ℕ) × List ℕ). (l.segments ++ tail.0, tail.1)) (segments_at (l.count - l.counter) l.line)
    ≡ segments_at l.count l.fn.line
