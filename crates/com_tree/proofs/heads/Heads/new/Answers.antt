use Rattle.std.proofs.Common.{◌≡◌, ℕ, zero, suc, ◌<◌, List, [], ◌∷◌, Some, None, length, get_or, refl, sym, ap, ◌∙◌, rules}
use Rattle.std.specs.Prelude.{Option, replicate, option_map, unwrap_or, slice_get, map, option_and_then}
use Rattle.com_tree.specs.declared.tree.TreeRow.{TreeRow}
use Rattle.com_tree.specs.declared.tree.Node.{Node}
use Rattle.com_tree.specs.declared.tree.Choose.{Choose}
use Rattle.com_tree.specs.declared.tree.Choose.TheVariants.{Ordered, Oldest}
use Rattle.com_tree.specs.Places.{first_leaf}
use Rattle.com_tree.specs.Written.{leaf_count}
use Rattle.com_tree.specs.NextLeaf.{node_at, head_on, choice, choice_by, first_found, oldest, children}
use Rattle.com_tree.specs.CachedHeads.{IsHeadsOf}
use Rattle.com_tree.proofs.heads.Heads.new.Goals as goal

no_head : (n leaf : ℕ) → head_on (replicate n None) leaf ≡ None
no_head zero leaf = refl
no_head (suc n) zero = refl
no_head (suc n) (suc leaf) = no_head n leaf

length-same : (n : ℕ) (x : Option ℕ) → length (replicate n x) ≡ n
length-same zero x = refl
length-same (suc n) x = ap suc (length-same n x)

same_kept : (n row : ℕ) (x : Option ℕ) → get_or (replicate n x) row x ≡ x
same_kept zero row x = refl
same_kept (suc n) zero x = refl
same_kept (suc n) (suc row) x = same_kept n row x

abbrev AllNone : List (Option ℕ) → Type 0
AllNone [] = Unit {0}
AllNone (found ∷ choices) = (found ≡ None) × AllNone choices

none_first : (choices : List (Option ℕ)) → AllNone choices → first_found choices ≡ None
none_first [] all = refl
none_first (None ∷ choices) all = none_first choices all.1
none_first (Some leaf ∷ choices) all = all.0

none_oldest : (first : ℕ → Option ℕ) (choices : List (Option ℕ)) → AllNone choices → oldest first choices ≡ None
none_oldest first [] all = refl
none_oldest first (None ∷ choices) all = none_oldest first choices all.1
none_oldest first (Some leaf ∷ choices) all = absurd (never all.0)
  where
    never : Some leaf ≡ None → ⊥
    never = cc

none_by : (leaf : ℕ) (choose : Option Choose) (first : ℕ → Option ℕ) (choices : List (Option ℕ)) → ((l : ℕ) → first l ≡ None) → AllNone choices → choice_by leaf choose first choices ≡ None
none_by leaf None first choices none all = ap (option_map (λ arrival. leaf)) (none leaf)
none_by leaf (Some Ordered) first choices none all = none_first choices all
none_by leaf (Some Oldest) first choices none all = none_oldest first choices all

all_none : (choose : Node → Option ℕ) → ((node : Node) → choose node ≡ None) → (nodes : List Node) → AllNone (map choose nodes)
all_none choose none [] = tt
all_none choose none (node ∷ nodes) = (none node, all_none choose none nodes)

none_at : (leaf : ℕ) (first : ℕ → Option ℕ) (choices : List (Option ℕ)) (o : Option TreeRow) → ((l : ℕ) → first l ≡ None) → AllNone choices → option_and_then (λ (row : TreeRow). choice_by leaf row.choose first choices) o ≡ None
none_at leaf first choices None none all = refl
none_at leaf first choices (Some row) none all = none_by leaf row.choose first choices none all

-- where no message waits, no node chooses a leaf
no_choice : (levels : ℕ) (rows : List TreeRow) (first : ℕ → Option ℕ) (node : Node) → ((l : ℕ) → first l ≡ None) → choice levels rows first node ≡ None
no_choice zero rows first node none = refl
no_choice (suc levels) rows first node none =
    none_at (first_leaf rows node) first (map (choice levels rows first) (children rows node)) (slice_get rows node.row) none
    (all_none (choice levels rows first) (λ other. no_choice levels rows first other none) (children rows node))

heads_of_none : (rows : List TreeRow) (leaves nodes : ℕ) (numbers choices : List (Option ℕ)) → leaves ≡ leaf_count rows → nodes ≡ length rows → numbers ≡ replicate leaves None → choices ≡ replicate nodes None
    → IsHeadsOf rows (record { numbers = numbers; choices = choices })
heads_of_none rows leaves nodes numbers choices few size none nothing = record {
  leaves = ap length none ∙ (length-same leaves None ∙ few);
  nodes = ap length nothing ∙ (length-same nodes None ∙ size);
  right = λ row within. rw (none, nothing) (same_kept nodes row None ∙ sym (no_choice 4 rows (head_on (replicate leaves None)) (node_at row) (no_head leaves)));
}

pub returns-clause-heads : goal.returns-clause-heads
returns-clause-heads c =
    heads_of_none c.args.tree.now c.leaves.result (length c.rows.result.now) c.in_ok-numbers.numbers.items c.in_ok-choices.choices.items c.leaves.ensures.leaves (ap length c.rows.ensures.rows)
    (search rules) (search rules)
