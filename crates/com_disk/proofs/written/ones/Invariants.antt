use Rattle.std.proofs.Common.{◌≡◌, take, map}
use Rattle.com_disk.proofs.written.ones.Given as goal

abbrev pub invariant-loop : goal.invariant-loop
invariant-loop l = l.ones.items ≡ map (λ _. 1) (take l.index l.bytes)
