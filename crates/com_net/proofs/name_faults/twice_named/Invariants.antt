use Rattle.std.proofs.Common.{◌≡◌, map, take, drop}
use Rattle.com_net.specs.inner.Seen.{seen}
use Rattle.com_net.specs.NameFaults.{is_terminal, is_unit, names_of, clash_behind, twice_named}
use Rattle.com_net.proofs.NameSets.{known}
use Rattle.com_net.proofs.name_faults.twice_named.Given as goal

-- the names so far, and the tables that are left
abbrev pub invariant-loop-at : goal.invariant-loop-at
invariant-loop-at l =
    let before = map seen (take l.at-index l.places) in
    record {
      left : clash_behind before (map seen (drop l.at-index l.places)) ≡ twice_named (map seen l.places);
      terminals : known l.terminals.keys ≡ names_of is_terminal before;
      units : known l.units.keys ≡ names_of is_unit before;
    }
