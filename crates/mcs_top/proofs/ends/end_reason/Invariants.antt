use Rattle.std.proofs.Common.{◌≡◌, drop}
use Rattle.mcs_top.specs.Histories.{end_reason}
use Rattle.mcs_top.proofs.ends.end_reason.Given as goal

-- what is left decides
abbrev pub invariant-loop-entry : goal.invariant-loop-entry
invariant-loop-entry l = end_reason l.name (drop l.entry-index l.entries) ≡ end_reason l.name l.entries
