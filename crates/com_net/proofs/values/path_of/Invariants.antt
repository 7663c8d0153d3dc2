use Rattle.std.proofs.Common.{◌≡◌, ◌+◌, take}
use Rattle.com_net.specs.inner.Seen.{texts_in}
use Rattle.com_net.proofs.values.path_of.Given as goal

-- the path so far
abbrev pub invariant-loop-name : goal.invariant-loop-name
invariant-loop-name l = l.path ≡ take (l.name-index + 1) (texts_in l.names)
