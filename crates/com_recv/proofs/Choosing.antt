-- The first messages of the leaves, for the choice of a node.
use Rattle.std.proofs.Common.{◌≡◌, ℕ, zero, suc, ◌<◌, ◌≤◌, false, List, [], ◌∷◌, take, Some, None, refl, ap, arith, inl, inr}
use Rattle.std.specs.Prelude.{Option, slice_get, option_map, ◌==◌, nat_lt}
use Rattle.std.specs.List.{All, find}
use Rattle.std.proofs.Math.Path.{fun_ext}
use Rattle.std.proofs.lemmas.Bool.{cases_Bool}
use Rattle.std.proofs.lemmas.Bool.Decides.{nat_tests}
use Rattle.std.proofs.lemmas.List.{length-take}
use Rattle.std.proofs.lemmas.Option.{slice_get_past}
use Rattle.com_tree.specs.declared.tree.TreeRow.{TreeRow}
use Rattle.com_tree.specs.declared.tree.Node.{Node}
use Rattle.com_tree.specs.declared.tree.Leaf.{Leaf}
use Rattle.com_tree.specs.NextLeaf.{head_on, next_leaf}
use Rattle.com_recv.specs.declared.lists.Waiting.{Waiting}
use Rattle.com_recv.specs.Incoming.{is_on, first_number, chosen_leaf}
use Rattle.com_recv.proofs.Places.{AreHeads}

get_take : {X : Type 0} → (xs : List X) (n i : ℕ) → i < n → slice_get (take n xs) i ≡ slice_get xs i
get_take [] zero i within = refl
get_take [] (suc n) i within = refl
get_take (x ∷ xs) zero i within = absurd (omega (arith, within))
get_take (x ∷ xs) (suc n) zero within = refl
get_take (x ∷ xs) (suc n) (suc i) within = get_take xs n i (omega (arith, within))

-- no message waits beyond the leaves
pub none_beyond : (waiting : List Waiting) (leaves leaf : ℕ) → All (λ w. w.leaf.number < leaves) waiting → leaves ≤ leaf → find (is_on leaf) waiting ≡ None
none_beyond [] leaves leaf all beyond = refl
none_beyond (w ∷ waiting) leaves leaf all beyond =
    let here : w.leaf.number < leaves = all 0 w (omega arith) in
    let apart : (w.leaf.number == leaf) ≡ false = grind (arith, nat_tests, here, beyond) in
    rw apart (none_beyond waiting leaves leaf (λ k d within. all (suc k) d (omega (arith, within))) beyond)

head_of : (heads : List (Option ℕ)) (waiting : List Waiting) (leaves : ℕ) → AreHeads heads waiting → leaves ≤ 64 → All (λ w. w.leaf.number < leaves) waiting
    → (leaf : ℕ) → head_on (take leaves heads) leaf ≡ first_number waiting leaf
head_of heads waiting leaves are few all leaf = elim (cases_Bool (nat_lt leaf leaves)) [
  | inl less ↦
      let within : leaf < leaves = grind (arith, nat_tests, less) in
      rw (get_take heads leaves leaf within, are leaf (omega (arith, within, few))) refl
  | inr past ↦
      let beyond : leaves ≤ leaf = grind (arith, nat_tests, past) in
      rw (slice_get_past (take leaves heads) leaf (omega (arith, length-take leaves heads, beyond)), none_beyond waiting leaves leaf all beyond) refl
]

numbers : (o : Option ℕ) → option_map (λ leaf. leaf.number) (option_map {U = Leaf} (λ number. record { number = number }) o) ≡ o
numbers None = refl
numbers (Some n) = refl

-- what a node chooses by the heads of the leaves is what it chooses by what waits
pub chosen_by_heads : (tree : List TreeRow) (waiting : List Waiting) (node : Node) (heads : List (Option ℕ)) (leaves : ℕ) → AreHeads heads waiting → leaves ≤ 64 → All (λ w. w.leaf.number < leaves) waiting
    → option_map (λ leaf. leaf.number) (next_leaf tree node (head_on (take leaves heads))) ≡ chosen_leaf tree waiting node
chosen_by_heads tree waiting node heads leaves are few all =
    ap (λ first. option_map (λ leaf. leaf.number) (next_leaf tree node first)) (fun_ext (head_of heads waiting leaves are few all))
