use Rattle.std.proofs.Common.{◌≡◌, ℕ, Bool, List, get_or, ◌<◌, ◌≤◌, ◌+◌, ◌-◌, ◌++◌, [], ◌∷◌, length, take, drop, sym, refl, ap, ◌∙◌, arith}
use Rattle.std.specs.List.{list_any}
use Rattle.std.specs.Str.{bytes_eq}
use Rattle.std.proofs.lemmas.Option.{slice_get_read}
use Rattle.std.proofs.lemmas.List.{drop_more, take_more, length-map}
use Rattle.std.proofs.lemmas.List.Folds.{list_all_more}
use Rattle.com_text.specs.Name.{is_name}
use Rattle.com_tree.specs.declared.tree.TreeRow.{TreeRow}
use Rattle.com_tree.specs.Faults.{is_twice_named, holds_at}
use Rattle.com_tree.specs.Siblings.{taken_names, names_at}
use Rattle.com_tree.proofs.Searching.{here, not_here, nowhere, holds_of}
use Rattle.com_tree.proofs.LevelNames.{Takes, IsOutlineBehind, none_taken, all_behind, next_behind, takes_more, as_many_levels}
use Rattle.com_tree.proofs.build.twice_named.Goals as goal

pub loop-at-init : goal.loop-at-init
loop-at-init c =
    let whole : length c.args.rows.now - 0 ≡ length c.args.rows.now = omega arith in
    rw c.new-levels.ensures.items (record {
      found = rw whole refl;
      taken = none_taken;
      left = all_behind c.args.rows.now c.requires.outline;
      names = refl;
    })

-- where the row at a place stands
stands : (rows : List TreeRow) (level at : ℕ) (row : TreeRow) → at < length rows → row ≡ get_or rows at row → IsOutlineBehind level (drop at rows) → IsOutlineBehind level (row ∷ drop (at + 1) rows)
stands rows level at row within is left =
    let here : drop at rows ≡ row ∷ drop (at + 1) rows = rw (← is) at (drop_more rows at row within) in
    rw here at left

pub is_taken-requires-clause-top : goal.is_taken-requires-clause-top
is_taken-requires-clause-top c = (stands c.args.rows.now (length c.loop-at.levels.items) c.loop-at.at c.index-rows-at.result (omega arith) c.index-rows-at.is c.loop-at.invariant.left).0

pub is_taken-requires-clause-next : goal.is_taken-requires-clause-next
is_taken-requires-clause-next c = (stands c.args.rows.now (length c.loop-at.levels.items) c.loop-at.at c.index-rows-at.result (omega arith) c.index-rows-at.is c.loop-at.invariant.left).1

-- a row's name is that of a sibling before where it is taken at its level
test_at : (rows : List TreeRow) (levels : List (List (List ℕ))) (at : ℕ) (row : TreeRow) (found : Bool) → at < length rows → row ≡ get_or rows at row → Takes (take at rows) levels → 1 ≤ row.depth
    → found ≡ list_any (bytes_eq row.name) (names_at row.depth levels) → holds_at (is_twice_named (take at rows)) rows at ≡ found
test_at rows levels at row found within is takes top told =
    holds_of (is_twice_named (take at rows)) rows at row (slice_get_read rows (length rows) at row refl within is) ∙ (sym (takes.taken row.depth row.name top) ∙ sym told)

pub returns-then-branch-clause-row : goal.returns-then-branch-clause-row
returns-then-branch-clause-row c =
    let rows = c.args.rows.now in
    let at = c.loop-at.at in
    let within : at < length rows = omega arith in
    let row = c.index-rows-at.result in
    let stand = stands rows (length c.loop-at.levels.items) at row within c.index-rows-at.is c.loop-at.invariant.left in
    let test = test_at rows (taken_names c.loop-at.levels.items) at row c.in_ok-is_taken.field-0 within c.index-rows-at.is c.loop-at.invariant.taken stand.0 c.in_ok-is_taken.ensures.taken in
    sym (here (λ place. holds_at (is_twice_named (take place rows)) rows place) rows at within (test ∙ c.if-branch.true)) ∙ c.loop-at.invariant.found

pub loop-at-preserved : goal.loop-at-preserved
loop-at-preserved c =
    let rows = c.args.rows.now in
    let at = c.loop-at.at in
    let row = c.index-rows-at.result in
    let old = c.loop-at.levels.items in
    let new = c.is_taken.new.levels.items in
    let h = c.loop-at.invariant in
    let within : at < length rows = omega arith in
    let stand = stands rows (length old) at row within c.index-rows-at.is h.left in
    let test = test_at rows (taken_names old) at row c.in_ok-is_taken.field-0 within c.index-rows-at.is h.taken stand.0 c.in_ok-is_taken.ensures.taken in
    let levels = c.in_ok-is_taken.ensures.levels c.if-branch.false in
    let many : length (taken_names old) ≡ length old = length-map old _ in
    let next : row.depth ≤ length (taken_names old) + 1 = omega (arith, many, stand.1) in
    let size : length new ≡ row.depth = sym (length-map new _) ∙ (ap length levels ∙ as_many_levels (taken_names old) row.depth row.name stand.0 next) in
    let one : take (at + 1) rows ≡ take at rows ++ row ∷ [] = rw (← c.index-rows-at.is) at (take_more rows at row within) in
    let named = list_all_more (λ r. is_name r.name) rows at row within in
    record {
      found = sym (not_here (λ place. holds_at (is_twice_named (take place rows)) rows place) rows at within (test ∙ c.if-branch.false)) ∙ h.found;
      taken = rw (one, levels) (takes_more (take at rows) (taken_names old) row h.taken stand.0 next);
      left = rw size (next_behind (length old) row (drop (at + 1) rows) stand);
      names = rw (named, h.names, ← c.index-rows-at.is, c.in_ok-is_taken.ensures.name) refl;
    }

pub returns-clause-row : goal.returns-clause-row
returns-clause-row c =
    let rows = c.args.rows.now in
    sym (nowhere (λ place. holds_at (is_twice_named (take place rows)) rows place) rows c.loop-at.at (omega arith)) ∙ c.loop-at.invariant.found
