use Rattle.std.proofs.Common.{◌≡◌, ◌++◌, replicate}
use Rattle.cob_data.proofs.opening.put_many.Given as goal

abbrev pub invariant-characters : goal.invariant-characters
invariant-characters l = l.area.items ≡ l.initial.area.items ++ replicate l.counter l.byte
