use Rattle.std.proofs.Common.{◌≡◌, ◌≤◌, ◌+◌, ◌*◌, drop, map, sum}
use Rattle.cob_data.specs.Levels.{below, length_of, own_size, rank}
use Rattle.cob_data.proofs.items.length_of.Given as goal

abbrev pub invariant-others : goal.invariant-others
invariant-others l = record {
  left : l.length + sum (map own_size (below (rank l.item) (drop l.other-index l.others))) ≡ length_of l.item l.others;
  most : l.length ≤ 2000 * (l.other-index + 1);
}
