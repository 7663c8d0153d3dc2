use Rattle.std.proofs.Common.{◌≡◌, drop}
use Rattle.com_net.specs.inner.Seen.{seen}
use Rattle.com_net.specs.KeyFaults.{first_of, bad_value_at, bad_password_in}
use Rattle.com_net.proofs.key_faults.bad_password.Given as goal

-- what is left decides
abbrev pub invariant-loop-key : goal.invariant-loop-key
invariant-loop-key l = first_of (bad_value_at bad_password_in (seen l.at)) (drop l.key-index l.key-items) ≡ first_of (bad_value_at bad_password_in (seen l.at)) l.key-items
