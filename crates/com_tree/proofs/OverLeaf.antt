-- Which nodes are over a leaf.
use Rattle.std.proofs.Common.{◌≡◌, ℕ, zero, suc, ◌+◌, ◌<◌, ◌≤◌, ◌⊎◌, Bool, true, false, List, [], ◌∷◌, length, get_or, set, refl, ◌∙◌, arith, inl, inr}
use Rattle.std.specs.Prelude.{◌&&◌, ◌==◌, nat_le, nat_lt}
use Rattle.std.proofs.lemmas.Bool.{and_from, cases_Bool}
use Rattle.std.proofs.lemmas.Bool.Decides.{nat_tests}
use Rattle.std.proofs.lemmas.List.{get_or-set_same, get_or-set_other}
use Rattle.com_tree.specs.declared.tree.TreeRow.{TreeRow}
use Rattle.com_tree.specs.declared.index.Place.{Place}
use Rattle.com_tree.specs.Places.{first_leaf, past_leaf}
use Rattle.com_tree.specs.NextLeaf.{node_at}
use Rattle.com_tree.specs.UnderNodes.{is_over}
use Rattle.com_tree.specs.inner.Index.{IsPlace, IsLeafRow}
use Rattle.com_tree.proofs.Underneath.{counted_less}

and_none : (a b : Bool) → b ≡ false → (a && b) ≡ false
and_none true b none = none
and_none false b none = refl

-- a node whose leaves all come after a leaf is not over it
after : (rows : List TreeRow) (leaf row : ℕ) → leaf < first_leaf rows (node_at row) → is_over rows leaf row ≡ false
after rows leaf row later =
    let none : nat_le (first_leaf rows (node_at row)) leaf ≡ false = grind (arith, nat_tests, later) in
    rw none refl

-- and one whose leaves all come before it is not
pub before : (rows : List TreeRow) (leaf row : ℕ) → past_leaf rows (node_at row) ≤ leaf → is_over rows leaf row ≡ false
before rows leaf row sooner =
    let none : nat_lt leaf (past_leaf rows (node_at row)) ≡ false = grind (arith, nat_tests, sooner) in
    and_none (nat_le (first_leaf rows (node_at row)) leaf) (nat_lt leaf (past_leaf rows (node_at row))) none

-- a node that has the leaf is over it
pub over : (rows : List TreeRow) (leaf row : ℕ) → first_leaf rows (node_at row) ≤ leaf → leaf < past_leaf rows (node_at row) → is_over rows leaf row ≡ true
over rows leaf row least most =
    and_from (nat_le (first_leaf rows (node_at row)) leaf) (nat_lt leaf (past_leaf rows (node_at row))) (grind (arith, nat_tests, least)) (grind (arith, nat_tests, most))

-- no node after that of a leaf is over it
pub none_after : (rows : List TreeRow) (leaf at row : ℕ) → IsLeafRow rows leaf at → at + 1 ≤ row → is_over rows leaf row ≡ false
none_after rows leaf at row own later = after rows leaf row (omega (arith, own.past, counted_less rows (at + 1) row later))

-- of the nodes between one at or before the leaf's and that from which on all are apart, none is
pub none_between : (rows : List TreeRow) (leaf own at row : ℕ) (place : Place) → IsLeafRow rows leaf own → at ≤ own → IsPlace rows at place → place.apart ≤ row → row < at → is_over rows leaf row ≡ false
none_between rows leaf own at row place leaf_row up is least less =
    before rows leaf row (omega (arith, is.apart row least less, counted_less rows at own up, leaf_row.number))

-- a node at or before the row of a leaf is over it where it reaches past it
pub over_at : (rows : List TreeRow) (leaf own at : ℕ) (place : Place) → IsLeafRow rows leaf own → at ≤ own → IsPlace rows at place → is_over rows leaf at ≡ nat_lt leaf place.past
over_at rows leaf own at place leaf_row up is =
    let sooner : first_leaf rows (node_at at) ≤ leaf = omega (arith, counted_less rows at own up, leaf_row.number) in
    let some : nat_le (first_leaf rows (node_at at)) leaf ≡ true = grind (arith, nat_tests, sooner) in
    rw (some, is.past) refl

-- what is read after a write, at the place and elsewhere
pub written : {X : Type 0} (xs : List X) (at other : ℕ) (new is d : X) → at < length xs → (other ≡ at → new ≡ is) → ((other ≡ at → ⊥) → get_or xs other d ≡ is) → get_or (set xs at new) other d ≡ is
written xs at other new is d within here there = elim (cases_Bool (other == at)) [
  | inl same ↦
      let at_it : other ≡ at = grind (arith, nat_tests, same) in
      rw at_it (get_or-set_same xs at new d within) ∙ here at_it
  | inr other_one ↦
      let apart : other ≡ at → ⊥ = λ is. grind (arith, nat_tests, other_one, is) in
      get_or-set_other xs at other new d apart ∙ there apart
]

-- within a list any default is read alike
pub same_read : {X : Type 0} (xs : List X) (at : ℕ) (d e : X) → at < length xs → get_or xs at d ≡ get_or xs at e
same_read [] at d e within = absurd (omega (arith, within))
same_read (x ∷ xs) zero d e within = refl
same_read (x ∷ xs) (suc at) d e within = same_read xs at d e (omega (arith, within))

pub below_or_not : (a b : ℕ) → (a < b) ⊎ (b ≤ a)
below_or_not a b = elim (cases_Bool (nat_lt a b)) [
  | inl less ↦ inl (grind (arith, nat_tests, less))
  | inr more ↦ inr (grind (arith, nat_tests, more))
]
