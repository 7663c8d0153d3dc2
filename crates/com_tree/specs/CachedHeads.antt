-- The first message of each leaf, and the choices that are kept of the nodes.
use Rattle.std.specs.Prelude.{◌≡◌, ℕ, ◌<◌, List, length, get_or, Option, None}
use Rattle.com_tree.specs.declared.tree.TreeRow.{TreeRow}
use Rattle.com_tree.specs.declared.tree.TheConstants.{MAX_DEPTH}
use Rattle.com_tree.specs.Written.{leaf_count}
use Rattle.com_tree.specs.NextLeaf.{node_at, choice, head_on}

-- for each leaf the arrival number of its first message, and for each node its choice
pub record HeadLists : Type 0 where
  pub numbers : List (Option ℕ)
  pub choices : List (Option ℕ)

-- the choice that is kept of a node is its choice by the numbers
abbrev pub IsRight : List TreeRow → List (Option ℕ) → List (Option ℕ) → ℕ → Type 0
IsRight rows numbers choices row =
    get_or choices row None ≡ choice MAX_DEPTH rows (head_on numbers) (node_at row)

-- A number or none for each leaf of the tree, and for each node the leaf that it chooses by these.
pub record IsHeadsOf (rows : List TreeRow) (heads : HeadLists) : Type 0 where
  pub leaves : length heads.numbers ≡ leaf_count rows
  pub nodes : length heads.choices ≡ length rows
  pub right : (row : ℕ) → row < length rows → IsRight rows heads.numbers heads.choices row
