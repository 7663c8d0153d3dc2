use Rattle.std.proofs.Common.{◌≡◌, ◌-◌, ◌<◌, true, false, List, [], ◌∷◌, length, drop, sym, refl, ◌∙◌, arith}
use Rattle.std.proofs.lemmas.Bool.Decides.{nat_tests}
use Rattle.com_tree.specs.declared.tree.TreeRow.{TreeRow}
use Rattle.com_tree.specs.Faults.{empty, is_childless}
use Rattle.com_tree.proofs.Searching.{found_from, here, not_here, nowhere, to-the-end}
use Rattle.com_tree.proofs.build.empty.Goals as goal

-- of some rows the search begins at the first
begun : (rows : List TreeRow) → 0 < length rows → found_from (λ at. is_childless (drop at rows)) rows 0 ≡ empty rows
begun [] some = absurd (omega (arith, some))
begun (row ∷ rows) some =
    let same : length (row ∷ rows) - 0 ≡ length (row ∷ rows) = omega arith in
    rw same refl

pub loop-at-init : goal.loop-at-init
loop-at-init c =
    let some : 0 < length c.args.rows.now = grind (arith, nat_tests, c.if-is_empty.false, c.is_empty.ensures) in
    begun c.args.rows.now some

pub returns-then-is_childless : goal.returns-then-is_childless
returns-then-is_childless c =
    let rows = c.args.rows.now in
    let at = c.loop-at.at in
    let holds : is_childless (drop at rows) ≡ true = rw (to-the-end at rows) at (sym c.is_childless.ensures ∙ c.if-is_childless.true) in
    sym (here (λ place. is_childless (drop place rows)) rows at (omega arith) holds) ∙ c.loop-at.invariant

pub loop-at-preserved : goal.loop-at-preserved
loop-at-preserved c =
    let rows = c.args.rows.now in
    let at = c.loop-at.at in
    let fails : is_childless (drop at rows) ≡ false = rw (to-the-end at rows) at (sym c.is_childless.ensures ∙ c.if-is_childless.false) in
    sym (not_here (λ place. is_childless (drop place rows)) rows at (omega arith) fails) ∙ c.loop-at.invariant

pub returns : goal.returns
returns c =
    let rows = c.args.rows.now in
    let at = c.loop-at.at in
    sym (nowhere (λ place. is_childless (drop place rows)) rows at (omega arith)) ∙ c.loop-at.invariant
