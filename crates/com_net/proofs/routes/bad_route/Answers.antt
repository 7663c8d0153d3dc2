use Rattle.std.proofs.Common.{◌≡◌, ◌+◌, None, Some, map, drop, sym, ap, ◌∙◌, arith}
use Rattle.std.specs.List.{list_all}
use Rattle.std.proofs.lemmas.Bool.{and_parts}
use Rattle.com_net.specs.inner.Seen.{seen}
use Rattle.com_net.specs.KeyFaults.{first_of}
use Rattle.com_net.specs.TreeFaults.{bad_route}
use Rattle.com_net.specs.inner.Sound.{has_names}
use Rattle.com_net.proofs.FaultOrder.{first_here, first_behind}
use Rattle.com_net.proofs.NameSets.{from_here}
use Rattle.com_net.proofs.routes.bad_route.Goals as goal

pub returns-in-Some : goal.returns-in-Some
returns-in-Some c =
    let places = c.args.places.now in
    let at = c.loop-at.at-index in
    let item = c.at-item.result in
    let rows = c.args.tree.now in
    let left = from_here places at item (omega arith) c.at-item.is in
    let found : bad_route rows (seen item) ≡ Some c.in-Some.path = sym c.lost_key.ensures ∙ (sym c.in_ok-path.ensures ∙ c.in-Some.is) in
    sym (first_here (bad_route rows) (seen item) (map seen (drop (at + 1) places)) c.in-Some.path found) ∙ (ap (first_of (bad_route rows)) (sym left) ∙ c.loop-at.invariant.found)

pub loop-at-preserved : goal.loop-at-preserved
loop-at-preserved c =
    let places = c.args.places.now in
    let at = c.loop-at.at-index in
    let item = c.at-item.result in
    let rows = c.args.tree.now in
    let left = from_here places at item (omega arith) c.at-item.is in
    let none : bad_route rows (seen item) ≡ None = sym c.lost_key.ensures ∙ (sym c.in_ok-path.ensures ∙ c.in_default.is) in
    let named = rw left at c.loop-at.invariant.names in
    record {
      found = sym (first_behind (bad_route rows) (seen item) (map seen (drop (at + 1) places)) none) ∙ (ap (first_of (bad_route rows)) (sym left) ∙ c.loop-at.invariant.found);
      names = (and_parts (has_names (seen item)) (list_all has_names (map seen (drop (at + 1) places))) named).1;
    }
