use Rattle.std.proofs.Common.{◌≡◌, ◌∙◌, ◌+◌, ◌++◌, [], ◌∷◌, false, map, take, drop, sym, ap, arith}
use Rattle.com_net.specs.inner.Seen.{seen}
use Rattle.com_net.specs.NameFaults.{is_terminal, is_unit, clashes, clash_behind}
use Rattle.com_net.proofs.NameSets.{names_of_more, one_more, from_here, goes_on}
use Rattle.com_net.proofs.name_faults.twice_named.Goals as goal

pub loop-at-preserved : goal.loop-at-preserved
loop-at-preserved c =
    let at = c.loop-at.at-index in
    let places = c.args.places.now in
    let item = c.at-item.result in
    let place = seen item in
    let before = map seen (take at places) in
    let rest = map seen (drop (at + 1) places) in
    let held = c.loop-at.invariant in
    let more : map seen (take (at + 1) places) ≡ before ++ place ∷ [] = rw (← c.at-item.is) at (one_more places at item (omega arith)) in
    let clash = rw (c.string_at.ensures, held.terminals, held.units) at c.in_ok-clashes.ensures.clash in
    let other : clashes place before ≡ false = sym clash ∙ c.if-branch.false in
    let terminals = rw (held.terminals, c.string_at.ensures) at (c.in_ok-clashes.ensures.terminals c.if-branch.false) in
    let units = rw (held.units, c.string_at.ensures) at (c.in_ok-clashes.ensures.units c.if-branch.false) in
    rw more record {
      left = sym (goes_on before rest place other) ∙ (ap (clash_behind before) (sym (from_here places at item (omega arith) c.at-item.is)) ∙ held.left);
      terminals = terminals ∙ sym (names_of_more is_terminal before place);
      units = units ∙ sym (names_of_more is_unit before place);
    }
