use Rattle.std.proofs.Common.{◌≡◌, drop}
use Rattle.mcs_top.specs.Histories.{stop_reason}
use Rattle.mcs_top.proofs.ends.stop_reason.Given as goal

-- what is left decides
abbrev pub invariant-loop-entry : goal.invariant-loop-entry
invariant-loop-entry l = stop_reason l.name (drop l.entry-index l.entries) ≡ stop_reason l.name l.entries
