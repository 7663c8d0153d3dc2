use Rattle.std.proofs.Common.{◌≡◌, take}
use Rattle.com_net.proofs.net.copies_of.Given as goal

-- so many were copied
abbrev pub invariant-loop-item : goal.invariant-loop-item
invariant-loop-item g l = l.copies.items ≡ take l.item-index l.items
