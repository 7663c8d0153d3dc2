use Rattle.std.proofs.Common.{◌≡◌, ◌++◌, take}
use Rattle.std.specs.Prelude.{codes}
use Rattle.std.specs.List.{flat_map}
use Rattle.com_journal.proofs.Histories.{ended_line}
use Rattle.com_journal.proofs.journal.write.Given as goal

-- the header and the lines so far
abbrev pub invariant-loop-entry : goal.invariant-loop-entry
invariant-loop-entry l = l.out ≡ codes "MCS-JOURNAL 1\n" ++ flat_map ended_line (take l.entry-index l.entries)
