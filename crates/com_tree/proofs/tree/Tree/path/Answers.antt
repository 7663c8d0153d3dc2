use Rattle.std.proofs.Common.{◌≡◌, ◌<◌, ◌+◌, ◌-◌, true, false, [], ◌∷◌, length, drop, sym, ap, ◌∙◌, arith}
use Rattle.std.specs.Prelude.{slice_get}
use Rattle.std.proofs.lemmas.List.{drop_more, drop_all, length-set}
use Rattle.std.proofs.lemmas.Option.{none-some, slice_get-get_or}
use Rattle.com_tree.specs.Written.{is_leaf}
use Rattle.com_tree.specs.Places.{leaf_paths_behind, leaf_paths}
use Rattle.com_tree.proofs.Walks.{IsStep, step_of, leaf_passed, leaf_counted, length-leaf_paths_behind}
use Rattle.com_tree.proofs.tree.Tree.path.Goals.{then-is_leaf+else-before-eq0, else-is_leaf}
use Rattle.com_tree.proofs.tree.Tree.path.Goals as goal

pub loop-row-preserved : goal.loop-row-preserved
loop-row-preserved c =
    let rows = c.rows-rows.result.now in
    let at = c.loop-row.row-index in
    let names = c.loop-row.names in
    let row = c.row-item.result in
    let h = c.loop-row.invariant in
    let left : drop at rows ≡ row ∷ drop (at + 1) rows = rw (← c.row-item.is) at (drop_more rows at row (omega arith)) in
    let step : IsStep row (drop (at + 1) rows) = step_of row (drop (at + 1) rows) (rw left at h.rest) in
    let found = ap (λ front. slice_get (leaf_paths_behind names front) c.loop-row.before) (sym left) ∙ h.found in
    record {
      found = elim c.if-is_leaf.branch [
        | then-is_leaf+else-before-eq0 w ↦
            let leaf : is_leaf row ≡ true = sym c.is_leaf.ensures ∙ w.if-is_leaf.true in
            let one : c.loop-row.before ≡ c.if-is_leaf.before + 1 = omega (arith, w.before-is, w.if-before-eq0.false) in
            sym (leaf_counted names row (drop (at + 1) rows) c.if-is_leaf.before h.four step leaf) ∙ rw one at found
        | else-is_leaf w ↦
            let inner : is_leaf row ≡ false = sym c.is_leaf.ensures ∙ w.if-is_leaf.false in
            rw w.before-is (sym (leaf_passed names row (drop (at + 1) rows) c.loop-row.before h.four step inner) ∙ found)
      ];
      rest = step.rest;
      four = length-set names (row.depth - 1) row.name ∙ h.four;
    }

pub returns : goal.returns
returns c =
    let rows = c.rows-rows.result.now in
    let all = leaf_paths c.args.self.now in
    let nothing : drop c.loop-row.row-index rows ≡ [] = drop_all c.loop-row.row-index rows c.loop-row-test.false in
    let none : slice_get (leaf_paths_behind c.loop-row.names []) c.loop-row.before ≡ slice_get all c.args.leaf.number = rw nothing at c.loop-row.invariant.found in
    let within : c.args.leaf.number < length all = omega (arith, c.requires, length-leaf_paths_behind [] c.args.self.now) in
    let some = slice_get-get_or all c.args.leaf.number [] within in
    absurd (none-some _ (none ∙ some))
