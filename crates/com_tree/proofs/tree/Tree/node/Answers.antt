use Rattle.std.proofs.Common.{◌≡◌, ◌+◌, ◌-◌, false, ◌∷◌, length, take, drop, set, refl, sym, ap, ◌∙◌, arith}
use Rattle.std.specs.Cmp.Lexicographic.{pointwise}
use Rattle.std.specs.Str.{bytes_eq}
use Rattle.std.proofs.lemmas.List.{drop_more, length-set}
use Rattle.com_tree.proofs.Walks.{IsStep, found_in, found_at_first, found_here, all_left, step_of, at_most_256}
use Rattle.com_tree.proofs.tree.Tree.node.Goals as goal

pub loop-at-init : goal.loop-at-init
loop-at-init c =
    let rows = c.args.self.now in
    let written = c.rows-rows.ensures.written in
    rw c.rows-rows.ensures.rows record {
      found = found_at_first c.args.path.now _ rows written;
      rest = all_left rows written;
      four = refl;
    }

pub overflow_cast-result : goal.overflow_cast-result
overflow_cast-result c = omega (arith, at_most_256 c.args.self.now c.rows-rows.ensures.written, ap length c.rows-rows.ensures.rows)

pub loop-at-preserved : goal.loop-at-preserved
loop-at-preserved c =
    let rows = c.rows-rows.result.now in
    let at = c.loop-at.at in
    let names = c.loop-at.names in
    let path = c.args.path.now in
    let row = c.index-rows-at.result in
    let h = c.loop-at.invariant in
    let left : drop at rows ≡ row ∷ drop (at + 1) rows = rw (← c.index-rows-at.is) at (drop_more rows at row (omega arith)) in
    let step : IsStep row (drop (at + 1) rows) = step_of row (drop (at + 1) rows) (rw left at h.rest) in
    let other : pointwise bytes_eq (take row.depth (set names (row.depth - 1) row.name)) path ≡ false = rw c.names.ensures.names at (sym c.eq.ensures ∙ c.if-eq.false) in
    let here = found_here path names at row (drop (at + 1) rows) h.four step in
    let on : found_in path names at (row ∷ drop (at + 1) rows) ≡ found_in path (set names (row.depth - 1) row.name) (at + 1) (drop (at + 1) rows) = here ∙ rw other refl in
    record {
      found = sym on ∙ (ap (found_in path names at) (sym left) ∙ h.found);
      rest = step.rest;
      four = length-set names (row.depth - 1) row.name ∙ h.four;
    }
