use Rattle.std.proofs.Common.{◌≡◌, [], drop}
use Rattle.std.specs.Str.{bytes_eq}
use Rattle.indexmap.specs.IndexSet.{insert_all}
use Rattle.com_net.proofs.net.set_of.Given as goal

-- with those that are left the set has all
abbrev pub invariant-loop-name : goal.invariant-loop-name
invariant-loop-name l = insert_all bytes_eq l.set.keys (drop l.name-index l.names) ≡ insert_all bytes_eq [] l.names
