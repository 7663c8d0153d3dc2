-- The trees of statements, by the lists in them.
use Rattle.std.proofs.Common.{◌≡◌, ℕ, zero, suc, arith, ◌+◌, ◌<◌, Bool, List, [], ◌∷◌, length, drop, get_or, map, refl, sym, ap, ◌∙◌, subst}
use Rattle.std.specs.Prelude.{Vec, ◌==◌, false, not}
use Rattle.std.specs.Global.{Global}
use Rattle.std.specs.List.{AllByRecursion}
use Rattle.std.proofs.lemmas.List.{drop_more, get_or-map, length-map}
use Rattle.cob_forms.specs.declared.written.Name.{Name}
use Rattle.cob_forms.specs.declared.written.Position.{Position}
use Rattle.cob_proc.specs.declared.tree.Condition.{Condition}
use Rattle.cob_proc.specs.declared.tree.Identifier.{Identifier}
use Rattle.cob_proc.specs.declared.tree.Statement.{Statement, Move, Add, Subtract, If', Perform, Go, Exit, Stop, Receive', Send, SwitchInput, SwitchOutput, Accept, Row_of-Statement, end_of-Statement, more_of-Statement, items-the_row-Statement, items_shown-the_row-Statement-0, items_hidden-the_row-Statement-0, map-Statement}
use Rattle.cob_proc.specs.declared.tree.Statement.TheBlock.{hidden-the_row-Statement-0}
use Rattle.cob_proc.specs.declared.tree.Statement.TheVariants.{If, Receive, outs-If', outs-Receive'}
use Rattle.cob_proc.specs.declared.tree.Statement.TheViews.{out-Statement}
use Rattle.cob_proc.specs.declared.tree.Statement.TheFolds.{fold_out-Statement}
use Rattle.cob_proc.specs.Trees.{Tree, branches, receives, Block, lead, ParagraphTree, block_of, tree_step, tree_of, trees_of}
use Rattle.cob_meaning.specs.Checked.{AreChecked, IsCheckedStatement}
use Rattle.cob_meaning.specs.Layouts.{Layout}
use Rattle.cob_meaning.specs.Meaning.{are_written}
use Rattle.cob_flat.specs.inner.Written.{written, block, block_by, IsSound, AreSound}

both_rows : (p : Position) (c : Condition) (a b x y : List Statement) (u v : Block) → a ≡ x → b ≡ y → block_of (map tree_of x) ≡ u → block_of (map tree_of y) ≡ v
    → branches p c (block_of (map tree_of a)) (block_of (map tree_of b)) ≡ branches p c u v
both_rows p c a b x y u v e f g h =
    ap (λ l. branches p c (block_of (map tree_of l)) (block_of (map tree_of b))) e ∙ ap (λ l. branches p c (block_of (map tree_of x)) (block_of (map tree_of l))) f
    ∙ ap (λ l. branches p c l (block_of (map tree_of y))) g ∙ ap (λ l. branches p c u l) h

mutual
  unfolding out-Statement denote.Hole.Carrier.out

  pub same_tree : (x : Statement) → tree_of x ≡ written x
  same_tree (Move source targets) = fold_out-Statement Tree tree_step (Move source targets)
  same_tree (Add addend target) = fold_out-Statement Tree tree_step (Add addend target)
  same_tree (Subtract addend target) = fold_out-Statement Tree tree_step (Subtract addend target)
  same_tree (Perform first last often) = fold_out-Statement Tree tree_step (Perform first last often)
  same_tree (Go target) = fold_out-Statement Tree tree_step (Go target)
  same_tree Exit = fold_out-Statement Tree tree_step Exit
  same_tree Stop = fold_out-Statement Tree tree_step Stop
  same_tree (Send cd from ending) = fold_out-Statement Tree tree_step (Send cd from ending)
  same_tree (SwitchInput on terminal cd key) = fold_out-Statement Tree tree_step (SwitchInput on terminal cd key)
  same_tree (SwitchOutput on cd key) = fold_out-Statement Tree tree_step (SwitchOutput on cd key)
  same_tree (Accept cd) = fold_out-Statement Tree tree_step (Accept cd)
  same_tree (If' position condition s one t other) =
      fold_out-Statement Tree tree_step (If' position condition s one t other)
      ∙ ap (λ x. tree_step (map-Statement Statement Tree tree_of x)) (outs-If' position condition s one t other)
      ∙ both_rows position condition _ _ _ _ _ _ (items_shown-the_row-Statement-0 s one) (items_shown-the_row-Statement-0 t other) (same_row _ one) (same_row _ other)
  same_tree (Receive' cd segment into s no_data) =
      fold_out-Statement Tree tree_step (Receive' cd segment into s no_data)
      ∙ ap (λ x. tree_step (map-Statement Statement Tree tree_of x)) (outs-Receive' cd segment into s no_data)
      ∙ ap (λ l. receives cd segment into (block_of (map tree_of l))) (items_shown-the_row-Statement-0 s no_data)
      ∙ ap (λ b. receives cd segment into b) (same_row _ no_data)

  same_row : (n : _) (row : Row_of-Statement n) → block_of (map tree_of (items-the_row-Statement n row)) ≡ block row
  same_row n end_of-Statement = refl
  same_row n (more_of-Statement one others) =
      ap (λ t. lead t (block_of (map tree_of (items-the_row-Statement _ others)))) (same_tree one) ∙ ap (lead (written one)) (same_row _ others)

-- statements, by the trees of the definitions
pub same_block : (statements : List Statement) → block_of (trees_of statements) ≡ block_by statements
same_block [] = refl
same_block (one ∷ others) = ap (λ t. lead t (block_of (trees_of others))) (same_tree one) ∙ ap (lead (written one)) (same_block others)

row_block : (n : _) (row : Row_of-Statement n) → block row ≡ block_by (items-the_row-Statement n row)
row_block n end_of-Statement = refl
row_block n (more_of-Statement one others) = ap (lead (written one)) (row_block _ others)

vec_block : (v : Vec Statement Global) → block (hidden-the_row-Statement-0 v) ≡ block_by v.items
vec_block v = row_block _ (hidden-the_row-Statement-0 v) ∙ ap block_by (items_hidden-the_row-Statement-0 v)

-- the tree of an IF, by its lists
pub if_tree : (s : Statement) (p : Position) (c : Condition) (a b : Vec Statement Global) (la lb : List Statement) → s ≡ If p c a b → la ≡ a.items → lb ≡ b.items → branches p c (block_by la) (block_by lb) ≡ written s
if_tree s p c a b la lb e ea eb =
    ap (λ l. branches p c (block_by l) (block_by lb)) ea ∙ ap (λ l. branches p c (block_by a.items) (block_by l)) eb
    ∙ ap (λ l. branches p c l (block_by b.items)) (sym (vec_block a)) ∙ ap (λ l. branches p c (block (hidden-the_row-Statement-0 a)) l) (sym (vec_block b))
    ∙ ap written (sym e)

-- the tree of a RECEIVE, by its list
pub receive_tree : (s : Statement) (cd : Name) (segment : Bool) (into : Identifier) (a : Vec Statement Global) (la : List Statement) → s ≡ Receive cd segment into a → la ≡ a.items → receives cd segment into (block_by la) ≡ written s
receive_tree s cd segment into a la e ea =
    ap (λ l. receives cd segment into (block_by l)) ea ∙ ap (λ l. receives cd segment into l) (sym (vec_block a)) ∙ ap written (sym e)

-- the statements of an IF that was checked, where it holds
pub holds_checked : (layout : Layout) (text : List ParagraphTree) (s : Statement) (p : Position) (c : Condition) (a b : Vec Statement Global) (list : List Statement) → s ≡ If p c a b → list ≡ a.items → IsSound layout text s → AreSound layout text list
holds_checked layout text s p c a b list e same h =
    let both = subst (IsCheckedStatement layout text) (sym (if_tree s p c a b list b.items e same refl)) h.checked in
    record { checked = both.1 }

-- those where it does not
pub otherwise_checked : (layout : Layout) (text : List ParagraphTree) (s : Statement) (p : Position) (c : Condition) (a b : Vec Statement Global) (list : List Statement) → s ≡ If p c a b → list ≡ b.items → IsSound layout text s → AreSound layout text list
otherwise_checked layout text s p c a b list e same h =
    let both = subst (IsCheckedStatement layout text) (sym (if_tree s p c a b a.items list e refl same)) h.checked in
    record { checked = both.2 }

-- those of a RECEIVE that was checked
pub no_data_checked : (layout : Layout) (text : List ParagraphTree) (s : Statement) (cd : Name) (segment : Bool) (into : Identifier) (a : Vec Statement Global) (list : List Statement) → s ≡ Receive cd segment into a → list ≡ a.items → IsSound layout text s → AreSound layout text list
no_data_checked layout text s cd segment into a list e same h =
    let all = subst (IsCheckedStatement layout text) (sym (receive_tree s cd segment into a list e same)) h.checked in
    record { checked = all.2 }

-- each of some statements that were checked
each_checked : (layout : Layout) (text : List ParagraphTree) (all : List Statement) (i : ℕ) (d : Statement) → i < length all → AreChecked layout text (block_by all) → IsCheckedStatement layout text (written (get_or all i d))
each_checked layout text [] i d lt h = let never : ⊥ = omega arith in absurd never
each_checked layout text (one ∷ others) zero d lt h = h.0
each_checked layout text (one ∷ others) (suc i) d lt h = each_checked layout text others i d (omega (arith, lt)) h.1

pub checked_at : (layout : Layout) (text : List ParagraphTree) (all : List Statement) (i : ℕ) (d : Statement) → i < length all → AreSound layout text all → IsSound layout text (get_or all i d)
checked_at layout text all i d lt h = record { checked = each_checked layout text all i d lt h.checked }

-- one statement and those after it
pub next_block : (all : List Statement) (i : ℕ) (d : Statement) → i < length all → block_by (drop i all) ≡ lead (written (get_or all i d)) (block_by (drop (i + 1) all))
next_block all i d lt = ap block_by (drop_more all i d lt)

not_empty : (n : ℕ) → (suc n == 0) ≡ false
not_empty n = search arith

-- NO DATA is written if there are statements in it
pub written_if_some : (list : List Statement) (n : ℕ) (empty : Bool) → length list ≡ n → empty ≡ (n == 0) → not empty ≡ are_written (block_by list)
written_if_some [] n empty same e = ap not (e ∙ ap (λ m. m == 0) (sym same))
written_if_some (one ∷ others) n empty same e = ap not (e ∙ ap (λ m. m == 0) (sym same) ∙ not_empty (length others))

-- a sentence as a block
abbrev pub sentence_block : Vec Statement Global → Block
sentence_block sentence = block_of (trees_of sentence.items)

-- a sentence of a paragraph that was checked
pub sound_sentence : (layout : Layout) (text : List ParagraphTree) (all : List (Vec Statement Global)) (i : ℕ) (d : Vec Statement Global) (list : List Statement) → i < length all → list ≡ (get_or all i d).items → AllByRecursion (AreChecked layout text) (map sentence_block all) → AreSound layout text list
sound_sentence layout text [] i d list lt same h = let never : ⊥ = omega arith in absurd never
sound_sentence layout text (one ∷ others) zero d list lt same h =
    record { checked = subst (AreChecked layout text) (same_block one.items ∙ ap block_by (sym same)) h.0 }
sound_sentence layout text (one ∷ others) (suc i) d list lt same h = sound_sentence layout text others i d list (omega (arith, lt)) same h.1

-- one sentence and those after it
pub next_sentence : (all : List (Vec Statement Global)) (i j : ℕ) (d : Vec Statement Global) (list : List Statement) → i < length all → i + 1 ≡ j → list ≡ (get_or all i d).items → drop i (map sentence_block all) ≡ block_by list ∷ drop j (map sentence_block all)
next_sentence all i j d list lt next same =
    drop_more (map sentence_block all) i (sentence_block d) (omega (arith, lt, length-map all sentence_block))
    ∙ ap (λ b. b ∷ drop (i + 1) (map sentence_block all)) (get_or-map sentence_block all i d (sentence_block d) lt ∙ same_block (get_or all i d).items ∙ ap block_by (sym same))
    ∙ ap (λ n. block_by list ∷ drop n (map sentence_block all)) next
