-- The statements in a statement, by the lists in it.
use Rattle.std.proofs.Common.{◌≡◌, Bool, List, [], ◌∷◌, ◌++◌, map, append_assoc, Result, Ok, Err, OnOk, refl, sym, ap, ◌∙◌}
use Rattle.std.specs.Prelude.{flat_map, Vec}
use Rattle.std.specs.Global.{Global}
use Rattle.cob_forms.specs.declared.written.Name.{Name}
use Rattle.cob_forms.specs.declared.written.Position.{Position}
use Rattle.cob_proc.specs.declared.tree.Condition.{Condition}
use Rattle.cob_proc.specs.declared.tree.Identifier.{Identifier}
use Rattle.cob_proc.specs.declared.tree.Statement.{Statement, Move, Add, Subtract, If', Perform, Go, Exit, Stop, Receive', Send, SwitchInput, SwitchOutput, Accept, Row_of-Statement, end_of-Statement, more_of-Statement, items-the_row-Statement, items_shown-the_row-Statement-0, items_hidden-the_row-Statement-0, map-Statement}
use Rattle.cob_proc.specs.declared.tree.Statement.TheBlock.{hidden-the_row-Statement-0}
use Rattle.cob_proc.specs.declared.tree.Statement.TheVariants.{If, Receive, outs-If', outs-Receive'}
use Rattle.cob_proc.specs.declared.tree.Statement.TheViews.{out-Statement}
use Rattle.cob_proc.specs.declared.tree.Statement.TheFolds.{fold_out-Statement}
use Rattle.cob_proc.specs.Trees.{Tree, branches, receives, Block, lead, block_of, tree_step, tree_of}
use Rattle.cob_code.specs.inner.Statements.{trees_in, block_trees}
use Rattle.cob_code.specs.inner.Written.{written, block}

both_rows : (p : Position) (c : Condition) (a b x y : List Statement) (u v : Block) → a ≡ x → b ≡ y → block_of (map tree_of x) ≡ u → block_of (map tree_of y) ≡ v
    → branches p c (block_of (map tree_of a)) (block_of (map tree_of b)) ≡ branches p c u v
both_rows p c a b x y u v e f g h =
    ap (λ l. branches p c (block_of (map tree_of l)) (block_of (map tree_of b))) e ∙ ap (λ l. branches p c (block_of (map tree_of x)) (block_of (map tree_of l))) f
    ∙ ap (λ l. branches p c l (block_of (map tree_of y))) g ∙ ap (λ l. branches p c u l) h

mutual
  unfolding out-Statement denote.Hole.Carrier.out

  pub same_tree : (x : Statement) → tree_of x ≡ written x
  same_tree (Move source targets) = fold_out-Statement Tree tree_step (Move source targets)
  same_tree (Add addend target) = fold_out-Statement Tree tree_step (Add addend target)
  same_tree (Subtract addend target) = fold_out-Statement Tree tree_step (Subtract addend target)
  same_tree (Perform first last often) = fold_out-Statement Tree tree_step (Perform first last often)
  same_tree (Go target) = fold_out-Statement Tree tree_step (Go target)
  same_tree Exit = fold_out-Statement Tree tree_step Exit
  same_tree Stop = fold_out-Statement Tree tree_step Stop
  same_tree (Send cd from ending) = fold_out-Statement Tree tree_step (Send cd from ending)
  same_tree (SwitchInput on terminal cd key) = fold_out-Statement Tree tree_step (SwitchInput on terminal cd key)
  same_tree (SwitchOutput on cd key) = fold_out-Statement Tree tree_step (SwitchOutput on cd key)
  same_tree (Accept cd) = fold_out-Statement Tree tree_step (Accept cd)
  same_tree (If' position condition s one t other) =
      fold_out-Statement Tree tree_step (If' position condition s one t other)
      ∙ ap (λ x. tree_step (map-Statement Statement Tree tree_of x)) (outs-If' position condition s one t other)
      ∙ both_rows position condition _ _ _ _ _ _ (items_shown-the_row-Statement-0 s one) (items_shown-the_row-Statement-0 t other) (same_row _ one) (same_row _ other)
  same_tree (Receive' cd segment into s no_data) =
      fold_out-Statement Tree tree_step (Receive' cd segment into s no_data)
      ∙ ap (λ x. tree_step (map-Statement Statement Tree tree_of x)) (outs-Receive' cd segment into s no_data)
      ∙ ap (λ l. receives cd segment into (block_of (map tree_of l))) (items_shown-the_row-Statement-0 s no_data)
      ∙ ap (λ b. receives cd segment into b) (same_row _ no_data)

  same_row : (n : _) (row : Row_of-Statement n) → block_of (map tree_of (items-the_row-Statement n row)) ≡ block row
  same_row n end_of-Statement = refl
  same_row n (more_of-Statement one others) =
      ap (λ t. lead t (block_of (map tree_of (items-the_row-Statement _ others)))) (same_tree one) ∙ ap (lead (written one)) (same_row _ others)

-- the statements in some, by their list
abbrev pub in_list : List Statement → List Tree
in_list statements = flat_map (λ statement. trees_in (written statement)) statements

row_list : (n : _) (row : Row_of-Statement n) → block_trees (block row) ≡ in_list (items-the_row-Statement n row)
row_list n end_of-Statement = refl
row_list n (more_of-Statement one others) = ap (λ l. trees_in (written one) ++ l) (row_list _ others)

pub vec_list : (v : Vec Statement Global) → block_trees (block (hidden-the_row-Statement-0 v)) ≡ in_list v.items
vec_list v = row_list _ (hidden-the_row-Statement-0 v) ∙ ap in_list (items_hidden-the_row-Statement-0 v)

-- the statements of a sentence
pub sentence_list : (statements : List Statement) → block_trees (block_of (map tree_of statements)) ≡ in_list statements
sentence_list [] = refl
sentence_list (one ∷ others) = ap (λ t. trees_in t ++ block_trees (block_of (map tree_of others))) (same_tree one) ∙ ap (λ l. trees_in (written one) ++ l) (sentence_list others)

pub on_ok : {A E : Type 0} (r : Result A E) (X Y : Type 0) → (X → Y) → OnOk r X → OnOk r Y
on_ok (Ok a) X Y f x = f x
on_ok (Err e) X Y f x = tt

-- a statement, and then those in its lists
pub if_list : (l0 l1 l2 l3 : List Tree) (s : Statement) (p : Position) (q : Condition) (a b : Vec Statement Global) (la lb : List Statement) → s ≡ If p q a b → la ≡ a.items → lb ≡ b.items
    → l1 ≡ l0 ++ written s ∷ [] → l2 ≡ l1 ++ in_list la → l3 ≡ l2 ++ in_list lb → l3 ≡ l0 ++ trees_in (written s)
if_list l0 l1 l2 l3 s p q a b la lb e ea eb h g f =
    f ∙ ap (λ l. l ++ in_list lb) g ∙ ap (λ l. (l ++ in_list la) ++ in_list lb) h
    ∙ ap (λ l. l ++ in_list lb) (append_assoc l0 (written s ∷ []) (in_list la)) ∙ append_assoc l0 (written s ∷ in_list la) (in_list lb)
    ∙ ap (λ l. l0 ++ written s ∷ (in_list l ++ in_list lb)) ea ∙ ap (λ l. l0 ++ written s ∷ (in_list a.items ++ in_list l)) eb
    ∙ ap (λ l. l0 ++ written s ∷ (l ++ in_list b.items)) (sym (vec_list a)) ∙ ap (λ l. l0 ++ written s ∷ (block_trees (block (hidden-the_row-Statement-0 a)) ++ l)) (sym (vec_list b))
    ∙ ap (λ t. l0 ++ written t ∷ (block_trees (block (hidden-the_row-Statement-0 a)) ++ block_trees (block (hidden-the_row-Statement-0 b)))) e
    ∙ ap (λ t. l0 ++ trees_in (written t)) (sym e)

pub receive_list : (l0 l1 l2 : List Tree) (s : Statement) (cd : Name) (segment : Bool) (into : Identifier) (a : Vec Statement Global) (la : List Statement) → s ≡ Receive cd segment into a → la ≡ a.items
    → l1 ≡ l0 ++ written s ∷ [] → l2 ≡ l1 ++ in_list la → l2 ≡ l0 ++ trees_in (written s)
receive_list l0 l1 l2 s cd segment into a la e ea h g =
    g ∙ ap (λ l. l ++ in_list la) h ∙ append_assoc l0 (written s ∷ []) (in_list la)
    ∙ ap (λ l. l0 ++ written s ∷ in_list l) ea ∙ ap (λ l. l0 ++ written s ∷ l) (sym (vec_list a))
    ∙ ap (λ t. l0 ++ written t ∷ block_trees (block (hidden-the_row-Statement-0 a))) e
    ∙ ap (λ t. l0 ++ trees_in (written t)) (sym e)

-- the sentences of a paragraph
pub paragraph_list : (sentences : List (Vec Statement Global)) → flat_map block_trees (map (λ sentence. block_of (map tree_of sentence.items)) sentences) ≡ flat_map (λ sentence. in_list sentence.items) sentences
paragraph_list [] = refl
paragraph_list (one ∷ others) = ap (λ l. l ++ flat_map block_trees (map (λ sentence. block_of (map tree_of sentence.items)) others)) (sentence_list one.items) ∙ ap (λ l. in_list one.items ++ l) (paragraph_list others)
