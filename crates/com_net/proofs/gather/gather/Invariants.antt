use Rattle.std.proofs.Common.{◌≡◌, ◌++◌, true, drop, map}
use Rattle.std.specs.List.{list_all, flat_map}
use Rattle.com_net.specs.inner.Seen.{seen}
use Rattle.com_net.specs.Description.{leaf_flags}
use Rattle.com_net.specs.inner.Lists.{terminals_of, passwords_of, units_of}
use Rattle.com_net.specs.inner.Sound.{has_names, has_password}
use Rattle.com_net.proofs.gather.gather.Given as goal

-- with what the tables that are left give, all is there
abbrev pub invariant-loop-at : goal.invariant-loop-at
invariant-loop-at l =
    let left = map seen (drop l.at-index l.places) in
    record {
      terminals : l.gathered.terminals.items ++ flat_map (terminals_of l.tree) left ≡ flat_map (terminals_of l.tree) (map seen l.places);
      passwords : l.gathered.queue_passwords.items ++ flat_map passwords_of left ≡ flat_map passwords_of (map seen l.places);
      flags : l.gathered.leaf_on.items ++ flat_map leaf_flags left ≡ flat_map leaf_flags (map seen l.places);
      units : l.gathered.units.items ++ flat_map (units_of l.tree) left ≡ flat_map (units_of l.tree) (map seen l.places);
      names : list_all has_names left ≡ true;
      has : list_all has_password left ≡ true;
    }
