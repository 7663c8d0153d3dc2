-- What is the same of trees that differ in names alone.
use Rattle.std.proofs.Common.{◌≡◌, ℕ, zero, suc, ◌+◌, ◌<◌, Bool, true, false, List, [], ◌∷◌, length, take, drop, map, get_or, Some, None, refl, sym, ap, ◌∙◌, arith, inl, inr}
use Rattle.std.specs.Prelude.{Option, slice_get, option_map, option_and_then, ◌==◌}
use Rattle.std.specs.List.{filter, range_with_len, take_while}
use Rattle.std.proofs.Math.Path.{fun_ext}
use mathlib.Core.Bool.{cond}
use Rattle.std.proofs.lemmas.Bool.{cases_Bool}
use Rattle.std.proofs.lemmas.List.Sums.{take_while-cons}
use Rattle.com_tree.specs.declared.tree.TreeRow.{TreeRow}
use Rattle.com_tree.specs.declared.tree.Node.{Node}
use Rattle.com_tree.specs.declared.tree.Leaf.{Leaf}
use Rattle.com_tree.specs.Written.{is_leaf, is_deeper, rows_below, leaf_count}
use Rattle.com_tree.specs.Places.{branch_of, first_leaf, past_leaf}
use Rattle.com_tree.specs.NextLeaf.{node_at, below, level, is_next_level, children, choice_by, choice, next_leaf}
use Rattle.com_tree.specs.Shapes.{nameless, shape}
use Rattle.com_tree.proofs.OverLeaf.{below_or_not, same_read}
use Rattle.com_tree.proofs.Walks.{one_leaf, no_leaf}

pub length-shape : (rows : List TreeRow) → length (shape rows) ≡ length rows
length-shape [] = refl
length-shape (row ∷ rows) = ap suc (length-shape rows)

take-shape : (n : ℕ) (rows : List TreeRow) → take n (shape rows) ≡ shape (take n rows)
take-shape zero [] = refl
take-shape zero (row ∷ rows) = refl
take-shape (suc n) [] = refl
take-shape (suc n) (row ∷ rows) = ap (λ rest. nameless row ∷ rest) (take-shape n rows)

drop-shape : (n : ℕ) (rows : List TreeRow) → drop n (shape rows) ≡ shape (drop n rows)
drop-shape zero rows = refl
drop-shape (suc n) [] = refl
drop-shape (suc n) (row ∷ rows) = drop-shape n rows

get-shape : (rows : List TreeRow) (n : ℕ) → slice_get (shape rows) n ≡ option_map nameless (slice_get rows n)
get-shape [] n = refl
get-shape (row ∷ rows) zero = refl
get-shape (row ∷ rows) (suc n) = get-shape rows n

leaves-shape : (rows : List TreeRow) → leaf_count (shape rows) ≡ leaf_count rows
leaves-shape [] = refl
leaves-shape (row ∷ rows) = elim (cases_Bool (is_leaf row)) [
  | inl leaf ↦ one_leaf (nameless row) (shape rows) leaf ∙ (ap (λ n. 1 + n) (leaves-shape rows) ∙ sym (one_leaf row rows leaf))
  | inr inner ↦ no_leaf (nameless row) (shape rows) inner ∙ (leaves-shape rows ∙ sym (no_leaf row rows inner))
]

below-shape : (depth : ℕ) (rows : List TreeRow) → rows_below depth (shape rows) ≡ shape (rows_below depth rows)
below-shape depth [] = refl
below-shape depth (row ∷ rows) = elim (cases_Bool (is_deeper depth row)) [
  | inl deeper ↦
      rw (take_while-cons (is_deeper depth) (nameless row) (shape rows), take_while-cons (is_deeper depth) row rows, deeper) (ap (λ rest. nameless row ∷ rest) (below-shape depth rows))
  | inr other ↦ rw (take_while-cons (is_deeper depth) (nameless row) (shape rows), take_while-cons (is_deeper depth) row rows, other) refl
]

branch-shape : (rows : List TreeRow) → branch_of (shape rows) ≡ shape (branch_of rows)
branch-shape [] = refl
branch-shape (row ∷ rows) = ap (λ rest. nameless row ∷ rest) (below-shape row.depth rows)

first-shape : (rows : List TreeRow) (node : Node) → first_leaf (shape rows) node ≡ first_leaf rows node
first-shape rows node = ap leaf_count (take-shape node.row rows) ∙ leaves-shape (take node.row rows)

past-shape : (rows : List TreeRow) (node : Node) → past_leaf (shape rows) node ≡ past_leaf rows node
past-shape rows node =
    let branch : leaf_count (branch_of (drop node.row (shape rows))) ≡ leaf_count (branch_of (drop node.row rows)) =
    ap (λ r. leaf_count (branch_of r)) (drop-shape node.row rows) ∙ (ap leaf_count (branch-shape (drop node.row rows)) ∙ leaves-shape (branch_of (drop node.row rows))) in
    omega (arith, first-shape rows node, branch)

level-of : (o : Option TreeRow) → option_map (λ row. row.depth) (option_map nameless o) ≡ option_map (λ row. row.depth) o
level-of None = refl
level-of (Some row) = refl

level-shape : (rows : List TreeRow) (node : Node) → level (shape rows) node ≡ level rows node
level-shape rows node = ap (option_map (λ row. row.depth)) (get-shape rows node.row) ∙ level-of (slice_get rows node.row)

abbrev below_of : List TreeRow → Node → Option TreeRow → List Node
below_of rows node o = elim o [
  | None ↦ []
  | Some row ↦ map node_at (range_with_len (node.row + 1) (length (rows_below row.depth (drop (node.row + 1) rows))))
]

below-of : (rows : List TreeRow) (node : Node) (o : Option TreeRow) → below_of (shape rows) node (option_map nameless o) ≡ below_of rows node o
below-of rows node None = refl
below-of rows node (Some row) =
    ap (λ n. map node_at (range_with_len (node.row + 1) n)) (ap (λ r. length (rows_below row.depth r)) (drop-shape (node.row + 1) rows) ∙ (ap length (below-shape row.depth (drop (node.row + 1) rows)) ∙ length-shape (rows_below row.depth (drop (node.row + 1) rows))))

nodes-shape : (rows : List TreeRow) (node : Node) → below (shape rows) node ≡ below rows node
nodes-shape rows node = ap (below_of (shape rows) node) (get-shape rows node.row) ∙ below-of rows node (slice_get rows node.row)

children-shape : (rows : List TreeRow) (node : Node) → children (shape rows) node ≡ children rows node
children-shape rows node =
    let levels : level (shape rows) ≡ level rows = fun_ext (level-shape rows) in
    ap (λ l. filter (λ other. is_next_level (l node) (l other)) (below (shape rows) node)) levels
    ∙ ap (filter (λ other. is_next_level (level rows node) (level rows other))) (nodes-shape rows node)

abbrev choice_here : ℕ → (ℕ → Option ℕ) → List (Option ℕ) → Option TreeRow → Option ℕ
choice_here leaf first choices o = option_and_then (λ (row : TreeRow). choice_by leaf row.choose first choices) o

choice-of : (leaf : ℕ) (first : ℕ → Option ℕ) (choices : List (Option ℕ)) (o : Option TreeRow) → choice_here leaf first choices (option_map nameless o) ≡ choice_here leaf first choices o
choice-of leaf first choices None = refl
choice-of leaf first choices (Some row) = refl

choice-shape : (levels : ℕ) (rows : List TreeRow) (first : ℕ → Option ℕ) (node : Node) → choice levels (shape rows) first node ≡ choice levels rows first node
choice-shape zero rows first node = refl
choice-shape (suc levels) rows first node =
    let lower : choice levels (shape rows) first ≡ choice levels rows first = fun_ext (choice-shape levels rows first) in
    ap (λ leaf. choice_here leaf first (map (choice levels (shape rows) first) (children (shape rows) node)) (slice_get (shape rows) node.row)) (first-shape rows node)
    ∙ (ap (λ f. choice_here (first_leaf rows node) first (map f (children (shape rows) node)) (slice_get (shape rows) node.row)) lower
    ∙ (ap (λ nodes. choice_here (first_leaf rows node) first (map (choice levels rows first) nodes) (slice_get (shape rows) node.row)) (children-shape rows node)
    ∙ (ap (choice_here (first_leaf rows node) first (map (choice levels rows first) (children rows node))) (get-shape rows node.row)
    ∙ choice-of (first_leaf rows node) first (map (choice levels rows first) (children rows node)) (slice_get rows node.row))))

-- trees that differ in names alone have as many nodes, the same leaves under each, and choose alike
pub same_size : (rows others : List TreeRow) → shape rows ≡ shape others → length rows ≡ length others
same_size rows others same = sym (length-shape rows) ∙ (ap length same ∙ length-shape others)

pub same_first : (rows others : List TreeRow) (node : Node) → shape rows ≡ shape others → first_leaf rows node ≡ first_leaf others node
same_first rows others node same = sym (first-shape rows node) ∙ (ap (λ r. first_leaf r node) same ∙ first-shape others node)

pub same_past : (rows others : List TreeRow) (node : Node) → shape rows ≡ shape others → past_leaf rows node ≡ past_leaf others node
same_past rows others node same = sym (past-shape rows node) ∙ (ap (λ r. past_leaf r node) same ∙ past-shape others node)

pub same_next : (rows others : List TreeRow) (node : Node) (first : ℕ → Option ℕ) → shape rows ≡ shape others → next_leaf rows node first ≡ next_leaf others node first
same_next rows others node first same =
    let chosen : choice 4 rows first node ≡ choice 4 others first node = sym (choice-shape 4 rows first node) ∙ (ap (λ r. choice 4 r first node) same ∙ choice-shape 4 others first node) in
    ap (option_map {U = Leaf} (λ number. record { number = number })) chosen

-- nodes that have the same levels and ways to choose, place by place
abbrev pub SameAt : List TreeRow → List TreeRow → ℕ → Type 0
SameAt rows others at = (d e : TreeRow) → ((get_or rows at d).depth ≡ (get_or others at e).depth) × ((get_or rows at d).choose ≡ (get_or others at e).choose)

some_row : TreeRow
some_row = record { depth = 0; name = []; choose = None }

pub same_shapes : (rows others : List TreeRow) → length rows ≡ length others → ((at : ℕ) → at < length rows → SameAt rows others at) → shape rows ≡ shape others
same_shapes [] [] size each = refl
same_shapes [] (other ∷ others) size each = absurd (omega (arith, size))
same_shapes (row ∷ rows) [] size each = absurd (omega (arith, size))
same_shapes (row ∷ rows) (other ∷ others) size each =
    let here = each 0 (omega arith) some_row some_row in
    let one : nameless row ≡ nameless other = rw (here.0, here.1) refl in
    ap (λ x. x ∷ shape rows) one ∙ ap (λ rest. nameless other ∷ rest) (same_shapes rows others (omega (arith, size)) (λ at within. each (suc at) (omega (arith, within))))

-- one place more
pub one_more : (rows others : List TreeRow) (at : ℕ) (row other : TreeRow) → at < length rows → at < length others → row ≡ get_or rows at row → other ≡ get_or others at other
    → (row.depth ≡ other.depth) × (row.choose ≡ other.choose) → ((before : ℕ) → before < at → SameAt rows others before) → (before : ℕ) → before < at + 1 → SameAt rows others before
one_more rows others at row other within inside is there same each before less = elim (below_or_not before at) [
  | inl sooner ↦ each before sooner
  | inr here ↦ λ d e.
      let at_it : before ≡ at = omega (arith, here, less) in
      let one : get_or rows at d ≡ row = same_read rows at d row within ∙ sym is in
      let two : get_or others at e ≡ other = same_read others at e other inside ∙ sym there in
      rw (at_it, one, two) same
]

-- and as many leaves
pub same_leaves : (rows others : List TreeRow) → shape rows ≡ shape others → leaf_count rows ≡ leaf_count others
same_leaves rows others same = sym (leaves-shape rows) ∙ (ap leaf_count same ∙ leaves-shape others)
