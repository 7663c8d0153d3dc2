-- Looking for the first place where something holds, place by place.
use Rattle.std.proofs.Common.{◌≡◌, ℕ, suc, ◌+◌, ◌-◌, ◌<◌, ◌≤◌, Bool, true, false, List, ◌∷◌, length, take, drop, Some, None, refl, arith, length-drop}
use Rattle.std.specs.Prelude.{Option, slice_get}
use Rattle.std.specs.List.{find, range_with_len}
use Rattle.std.proofs.lemmas.List.{take_all}
use Rattle.com_tree.specs.declared.tree.TreeRow.{TreeRow}
use Rattle.com_tree.specs.Faults.{holds_at}

-- what is found from a place on
abbrev pub found_from : (ℕ → Bool) → List TreeRow → ℕ → Option ℕ
found_from test rows at = find test (range_with_len at (length rows - at))

one_more : (n at : ℕ) → at < n → range_with_len at (n - at) ≡ at ∷ range_with_len (at + 1) (n - (at + 1))
one_more n at within =
    let same : n - at ≡ suc (n - (at + 1)) = omega (arith, within) in
    rw same refl

-- where it does not hold, the search goes on behind
pub not_here : (test : ℕ → Bool) (rows : List TreeRow) (at : ℕ) → at < length rows → test at ≡ false → found_from test rows at ≡ found_from test rows (at + 1)
not_here test rows at within fails = rw (one_more (length rows) at within, fails) refl

-- where it holds, it is found
pub here : (test : ℕ → Bool) (rows : List TreeRow) (at : ℕ) → at < length rows → test at ≡ true → found_from test rows at ≡ Some at
here test rows at within holds = rw (one_more (length rows) at within, holds) refl

-- behind the last row nothing is found
pub nowhere : (test : ℕ → Bool) (rows : List TreeRow) (at : ℕ) → length rows ≤ at → found_from test rows at ≡ None
nowhere test rows at past =
    let none : length rows - at ≡ 0 = omega (arith, past) in
    rw none refl

-- a test of the row at a place
pub holds_of : (test : TreeRow → Bool) (rows : List TreeRow) (at : ℕ) (row : TreeRow) → slice_get rows at ≡ Some row → holds_at test rows at ≡ test row
holds_of test rows at row is = rw (is, holds_at) refl

-- the rows from a place on
pub to-the-end : (at : ℕ) (rows : List TreeRow) → take (length rows - at) (drop at rows) ≡ drop at rows
to-the-end at rows = take_all (length rows - at) (drop at rows) (omega (arith, length-drop at rows))
