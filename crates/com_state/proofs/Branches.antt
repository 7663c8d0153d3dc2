-- A node's branch lies within the branch of each node above it.
use Rattle.std.proofs.Common.{◌≡◌, ℕ, ◌-◌, ◌+◌, ◌≤◌, ◌<◌, Bool, true, cond, zero, suc, List, [], ◌∷◌, ◌++◌, Some, None, Option, length, take, drop, refl, sym, ap, ◌∙◌, inl, inr, arith, one-add, take-take}
use Rattle.std.specs.Prelude.{slice_get, map, option_map}
use Rattle.std.specs.List.{prefix_len, range_with_len}
use Rattle.std.proofs.lemmas.Bool.{cases_Bool, false≢true, eqb-true, lt-ltb, ltb-true}
use Rattle.std.proofs.lemmas.Option.{slice_get_within, get_or_from_slice_get}
use Rattle.std.proofs.lemmas.List.Sums.{sum_by-take-le, sum_by-append, sum_by-cons}
use Rattle.std.proofs.lemmas.List.Folds.{length-prefix_len}
use Rattle.std.proofs.lemmas.List.{drop-drop, drop_more}
use Rattle.std.proofs.Math.Seq.{take-add}
use Rattle.com_tree.specs.declared.tree.TreeRow.{TreeRow}
use Rattle.com_tree.specs.declared.tree.Node.{Node}
use Rattle.com_tree.specs.Written.{is_leaf, is_leaf_choice, is_deeper, leaf_count, rows_below}
use Rattle.com_tree.specs.Places.{branch_of, first_leaf, past_leaf}
use Rattle.com_tree.specs.NextLeaf.{node_at, below, level, children, is_next_level}
use Rattle.com_recv.proofs.Members.{Among, filter_among, map_among, range_among}

-- from within the front that passes, the rest of it passes
prefix_behind : {X : Type 0} (p : X → Bool) (n : ℕ) (xs : List X) → n ≤ prefix_len p xs → prefix_len p xs ≡ n + prefix_len p (drop n xs)
prefix_behind {X} p zero xs h = omega arith
prefix_behind {X} p (suc n) [] h = absurd (omega arith)
prefix_behind {X} p (suc n) (x ∷ xs) h = elim (cases_Bool (p x)) [
  | inl passes ↦
      let within : suc n ≤ 1 + prefix_len p xs = rw passes at h in
      let behind : prefix_len p xs ≡ n + prefix_len p (drop n xs) = prefix_behind p n xs (omega arith) in
      rw passes (omega arith)
  | inr fails ↦
      let within : suc n ≤ 0 = rw fails at h in
      absurd (omega arith)
]

-- what passes the harder test passes the easier one
prefix_easier : {X : Type 0} (p q : X → Bool) (xs : List X) → ((x : X) → p x ≡ true → q x ≡ true) → prefix_len p xs ≤ prefix_len q xs
prefix_easier {X} p q [] h = omega arith
prefix_easier {X} p q (x ∷ xs) h = elim (cases_Bool (p x)) [
  | inl passes ↦ let also : q x ≡ true = h x passes in rw (passes, also) (omega (arith, prefix_easier p q xs h))
  | inr fails ↦ rw fails (omega arith)
]

-- a node that stands deeper, among those below another, has its branch among them
prefix_within : {X : Type 0} (p q : X → Bool) (n : ℕ) (xs : List X) → ((x : X) → q x ≡ true → p x ≡ true) → n < prefix_len p xs
    → suc n + prefix_len q (drop (suc n) xs) ≤ prefix_len p xs
prefix_within {X} p q n xs h within =
    let split : prefix_len p xs ≡ suc n + prefix_len p (drop (suc n) xs) = prefix_behind p (suc n) xs (omega arith) in
    let easier : prefix_len q (drop (suc n) xs) ≤ prefix_len p (drop (suc n) xs) = prefix_easier q p (drop (suc n) xs) h in
    omega arith

-- there are no fewer leaves among more rows
leaves_more : (n m : ℕ) (rows : List TreeRow) → n ≤ m → leaf_count (take n rows) ≤ leaf_count (take m rows)
leaves_more n m rows h =
    let same : take n (take m rows) ≡ take n rows = take-take n m rows h in
    rw same at (sum_by-take-le (λ row. cond (is_leaf row) 1 0) (take m rows) n)

-- how many rows are in the branch of a row
abbrev below_count : ℕ → List TreeRow → ℕ → ℕ
below_count depth rows place = prefix_len (is_deeper depth) (drop (place + 1) rows)

-- the leaves up to the end of a branch are those of so many rows
past_rows : (rows : List TreeRow) (node : Node) (row : TreeRow) → slice_get rows node.row ≡ Some row
    → past_leaf rows node ≡ leaf_count (take (node.row + (1 + below_count row.depth rows node.row)) rows)
past_rows rows node row here =
    let below = drop (node.row + 1) rows in
    let size = below_count row.depth rows node.row in
    let first : drop node.row rows ≡ row ∷ below =
    drop_more rows node.row row (slice_get_within rows node.row row here) ∙ ap (λ r. r ∷ below) (get_or_from_slice_get rows node.row row row here) in
    let branch : branch_of (drop node.row rows) ≡ take (1 + size) (drop node.row rows) =
    ap branch_of first ∙ (ap (λ n. take n (row ∷ below)) (sym (one-add size)) ∙ ap (take (1 + size)) (sym first)) in
    let inside : leaf_count (branch_of (drop node.row rows)) ≡ leaf_count (take (1 + size) (drop node.row rows)) = ap leaf_count branch in
    let all : leaf_count (take (node.row + (1 + size)) rows) ≡ leaf_count (take node.row rows ++ take (1 + size) (drop node.row rows)) = ap leaf_count (take-add node.row (1 + size) rows) in
    let sum = sum_by-append (λ (row : TreeRow). cond (is_leaf row) 1 0) (take node.row rows) (take (1 + size) (drop node.row rows)) in
    omega (arith, inside, all, sum)

-- a child's leaves are among those of the node
child_within : (rows : List TreeRow) (node child : Node) (row child_row : TreeRow) → slice_get rows node.row ≡ Some row → slice_get rows child.row ≡ Some child_row
    → child_row.depth ≡ row.depth + 1 → node.row + 1 ≤ child.row → child.row < node.row + 1 + below_count row.depth rows node.row
    → (first_leaf rows node ≤ first_leaf rows child) × (past_leaf rows child ≤ past_leaf rows node)
child_within rows node child row child_row here there deeper behind within =
    let n = child.row - (node.row + 1) in
    let below = drop (node.row + 1) rows in
    let place : node.row + 1 + suc n ≡ child.row + 1 = omega arith in
    let same : drop (suc n) below ≡ drop (child.row + 1) rows = drop-drop (suc n) (node.row + 1) rows ∙ ap (λ m. drop m rows) place in
    let fits : suc n + prefix_len (is_deeper child_row.depth) (drop (suc n) below) ≤ prefix_len (is_deeper row.depth) below =
    prefix_within (is_deeper row.depth) (is_deeper child_row.depth) n below
    (λ r h. let low : child_row.depth < r.depth = ltb-true child_row.depth r.depth h in lt-ltb row.depth r.depth (omega arith)) (omega arith) in
    let inner : suc n + below_count child_row.depth rows child.row ≤ below_count row.depth rows node.row = rw same at fits in
    let ends = leaves_more (child.row + (1 + below_count child_row.depth rows child.row)) (node.row + (1 + below_count row.depth rows node.row)) rows (omega arith) in
    (leaves_more node.row child.row rows (omega arith), omega (arith, past_rows rows node row here, past_rows rows child child_row there, ends))

-- a row that is a child's stands one level lower
next_level : (upper : TreeRow) (lower : Option TreeRow) → is_next_level (Some upper.depth) (option_map (λ row. row.depth) lower) ≡ true → (row : TreeRow) × (lower ≡ Some row) × (row.depth ≡ upper.depth + 1)
next_level upper None h = absurd (false≢true h)
next_level upper (Some row) h = (row, refl, eqb-true row.depth (upper.depth + 1) h)

-- the leaves of each child of a node are among those of the node
pub children_within : (rows : List TreeRow) (node child : Node) (row : TreeRow) → slice_get rows node.row ≡ Some row → Among child (children rows node)
    → (first_leaf rows node ≤ first_leaf rows child) × (past_leaf rows child ≤ past_leaf rows node)
children_within rows node child row here h =
    let found = filter_among (λ other. is_next_level (level rows node) (level rows other)) child (below rows node) h in
    let passes : is_next_level (Some row.depth) (level rows child) ≡ true = rw here at found.1 in
    let lower = next_level row (slice_get rows child.row) passes in
    let all = rows_below row.depth (drop (node.row + 1) rows) in
    let among : Among child (map node_at (range_with_len (node.row + 1) (length all))) = rw (here, below) at found.0 in
    let at = map_among node_at child (range_with_len (node.row + 1) (length all)) among in
    let same : at.0 ≡ child.row = ap (λ (n : Node). n.row) at.2 in
    let bounds = range_among (node.row + 1) (length all) at.0 at.1 in
    let count : length all ≡ below_count row.depth rows node.row = length-prefix_len (is_deeper row.depth) (drop (node.row + 1) rows) in
    child_within rows node child row lower.0 here lower.1 lower.2 (omega (arith, bounds, same)) (omega (arith, bounds, same, count))

-- a leaf is itself the last under it
pub leaf_within : (rows : List TreeRow) (node : Node) (row : TreeRow) → slice_get rows node.row ≡ Some row → row.choose ≡ None → first_leaf rows node < past_leaf rows node
leaf_within rows node row here leaf =
    let below = drop (node.row + 1) rows in
    let first : drop node.row rows ≡ row ∷ below =
    drop_more rows node.row row (slice_get_within rows node.row row here) ∙ ap (λ r. r ∷ below) (get_or_from_slice_get rows node.row row row here) in
    let is_one : is_leaf row ≡ true = ap is_leaf_choice leaf in
    let count : leaf_count (row ∷ rows_below row.depth below) ≡ cond (is_leaf row) 1 0 + leaf_count (rows_below row.depth below) = sum_by-cons (λ (row : TreeRow). cond (is_leaf row) 1 0) row (rows_below row.depth below) in
    let one : ◌≡◌ {A = ℕ} (cond (is_leaf row) 1 0) 1 = ap (λ b. cond b 1 0) is_one in
    let branch : leaf_count (branch_of (drop node.row rows)) ≡ leaf_count (row ∷ rows_below row.depth below) = ap (λ rs. leaf_count (branch_of rs)) first in
    omega (arith, count, one, branch)
