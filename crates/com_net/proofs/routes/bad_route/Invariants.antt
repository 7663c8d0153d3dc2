use Rattle.std.proofs.Common.{◌≡◌, true, drop, map}
use Rattle.std.specs.List.{list_all}
use Rattle.com_net.specs.inner.Seen.{seen}
use Rattle.com_net.specs.KeyFaults.{first_of}
use Rattle.com_net.specs.TreeFaults.{bad_route}
use Rattle.com_net.specs.inner.Sound.{has_names}
use Rattle.com_net.proofs.routes.bad_route.Given as goal

-- what is left decides
abbrev pub invariant-loop-at : goal.invariant-loop-at
invariant-loop-at l = record {
  found : first_of (bad_route l.tree) (map seen (drop l.at-index l.places)) ≡ first_of (bad_route l.tree) (map seen l.places);
  names : list_all has_names (map seen (drop l.at-index l.places)) ≡ true;
}
