use Rattle.std.proofs.Common.{◌≡◌, drop, map}
use Rattle.com_net.specs.inner.Seen.{seen}
use Rattle.com_net.specs.KeyFaults.{first_of}
use Rattle.com_net.specs.inner.Checks.{fault_at}
use Rattle.com_net.proofs.key_faults.first_fault.Given as goal

-- what is left decides
abbrev pub invariant-loop-at : goal.invariant-loop-at
invariant-loop-at l = first_of (fault_at l.check) (map seen (drop l.at-index l.places)) ≡ first_of (fault_at l.check) (map seen l.places)
