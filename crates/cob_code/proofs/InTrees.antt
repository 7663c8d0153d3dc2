-- What statements have, statement by statement.
use Rattle.std.proofs.Common.{◌≡◌, ℕ, suc, ◌+◌, ◌<◌, arith, Bor, List, [], ◌∷◌, ◌++◌, length, map, drop, get_or, append_assoc, Option, refl, sym, ap, ◌∙◌}
use Rattle.std.specs.Prelude.{flat_map}
use Rattle.std.proofs.lemmas.Grind.{flat_map-append}
use Rattle.std.proofs.lemmas.List.{append-nil, drop_more, map-append}
use Rattle.cob_lex.specs.declared.fault.SourceFault.{SourceFault}
use Rattle.cob_forms.specs.Faults.{earlier, first}
use Rattle.cob_forms.proofs.Order.{first-append, grouped}
use Rattle.cob_proc.specs.declared.tree.Statement.{Statement}
use Rattle.cob_proc.specs.declared.tree.Paragraph.{Paragraph}
use Rattle.cob_proc.specs.Trees.{Tree, plain, branches, receives, Block, none, lead, ParagraphTree, paragraph_tree}
use Rattle.cob_meaning.specs.Layouts.{Layout}
use Rattle.cob_meaning.specs.Names.{all_faults, condition_faults, statement_faults, sentences_faults}
use Rattle.cob_meaning.specs.Ranges.{all_goes, all_performs, goes_in, performs_in}
use Rattle.cob_code.specs.inner.Statements.{all_trees, block_trees, own_faults, own_goes, own_performs, trees_in}
use Rattle.cob_code.specs.inner.Written.{shown, written}

-- lists of two parts
both : {X : Type 0} (own : Tree → List X) (xs ys : List Tree) (a b : List X) → a ≡ flat_map own xs → b ≡ flat_map own ys → a ++ b ≡ flat_map own (xs ++ ys)
both own xs ys a b e f = ap (λ l. l ++ b) e ∙ ap (λ l. flat_map own xs ++ l) f ∙ sym (flat_map-append own xs ys)

mutual
  tree_performs : (k : ℕ) (tree : Tree) → performs_in k tree ≡ flat_map (own_performs k) (trees_in tree)
  tree_performs k (plain statement) = sym (append-nil _)
  tree_performs k (branches position condition one other) =
      both (own_performs k) (block_trees one) (block_trees other) _ _ (block_performs k one) (block_performs k other)
  tree_performs k (receives cd segment into no_data) = block_performs k no_data

  block_performs : (k : ℕ) (block : Block) → all_performs k block ≡ flat_map (own_performs k) (block_trees block)
  block_performs k none = refl
  block_performs k (lead tree others) = both (own_performs k) (trees_in tree) (block_trees others) _ _ (tree_performs k tree) (block_performs k others)

mutual
  tree_goes : (k : ℕ) (tree : Tree) → goes_in k tree ≡ flat_map (own_goes k) (trees_in tree)
  tree_goes k (plain statement) = sym (append-nil _)
  tree_goes k (branches position condition one other) =
      both (own_goes k) (block_trees one) (block_trees other) _ _ (block_goes k one) (block_goes k other)
  tree_goes k (receives cd segment into no_data) = block_goes k no_data

  block_goes : (k : ℕ) (block : Block) → all_goes k block ≡ flat_map (own_goes k) (block_trees block)
  block_goes k none = refl
  block_goes k (lead tree others) = both (own_goes k) (trees_in tree) (block_trees others) _ _ (tree_goes k tree) (block_goes k others)

mutual
  tree_faults : (layout : Layout) (text : List ParagraphTree) (tree : Tree) → statement_faults layout text tree ≡ flat_map (own_faults layout text) (trees_in tree)
  tree_faults layout text (plain statement) = sym (append-nil _)
  tree_faults layout text (branches position condition one other) =
      append_assoc (condition_faults layout condition) (all_faults layout text one) (all_faults layout text other)
      ∙ ap (λ l. condition_faults layout condition ++ l) (both (own_faults layout text) (block_trees one) (block_trees other) _ _ (block_faults layout text one) (block_faults layout text other))
  tree_faults layout text (receives cd segment into no_data) =
      ap (λ l. own_faults layout text (receives cd segment into no_data) ++ l) (block_faults layout text no_data)

  block_faults : (layout : Layout) (text : List ParagraphTree) (block : Block) → all_faults layout text block ≡ flat_map (own_faults layout text) (block_trees block)
  block_faults layout text none = refl
  block_faults layout text (lead tree others) =
      both (own_faults layout text) (trees_in tree) (block_trees others) _ _ (tree_faults layout text tree) (block_faults layout text others)

-- all sentences
sentences : {X : Type 0} (own : Tree → List X) (total : Block → List X) → ((block : Block) → total block ≡ flat_map own (block_trees block)) → (blocks : List Block)
    → flat_map total blocks ≡ flat_map own (flat_map block_trees blocks)
sentences own total each [] = refl
sentences own total each (block ∷ blocks) = both own (block_trees block) (flat_map block_trees blocks) _ _ (each block) (sentences own total each blocks)

pub paragraph_performs : (k : ℕ) (paragraph : ParagraphTree) → flat_map (all_performs k) paragraph.sentences ≡ flat_map (own_performs k) (all_trees paragraph)
paragraph_performs k paragraph = sentences (own_performs k) (all_performs k) (block_performs k) paragraph.sentences

pub paragraph_goes : (k : ℕ) (paragraph : ParagraphTree) → flat_map (all_goes k) paragraph.sentences ≡ flat_map (own_goes k) (all_trees paragraph)
paragraph_goes k paragraph = sentences (own_goes k) (all_goes k) (block_goes k) paragraph.sentences

pub paragraph_faults : (layout : Layout) (text : List ParagraphTree) (paragraph : ParagraphTree) → sentences_faults layout text paragraph ≡ flat_map (own_faults layout text) (all_trees paragraph)
paragraph_faults layout text paragraph = sentences (own_faults layout text) (all_faults layout text) (block_faults layout text) paragraph.sentences

-- one statement and those after it
pub next_shown : (list : List (Bor Statement)) (at : ℕ) (d : Bor Statement) → at < length list → shown (drop at list) ≡ written (get_or list at d).now ∷ shown (drop (at + 1) list)
next_shown list at d lt = ap shown (drop_more list at d lt)

-- the first fault of one more
pub one_more : (found o : Option SourceFault) (here others : List SourceFault) → o ≡ first here → earlier (earlier found o) (first others) ≡ earlier found (first (here ++ others))
one_more found o here others e = ap (λ x. earlier (earlier found x) (first others)) e ∙ sym (grouped found (first here) (first others)) ∙ ap (earlier found) (sym (first-append here others))

pub next_fault : (layout : Layout) (text : List ParagraphTree) (list : List (Bor Statement)) (at : ℕ) (d : Bor Statement) (found o : Option SourceFault) → at < length list
    → o ≡ first (own_faults layout text (written (get_or list at d).now))
    → earlier (earlier found o) (first (flat_map (own_faults layout text) (shown (drop (at + 1) list)))) ≡ earlier found (first (flat_map (own_faults layout text) (shown (drop at list))))
next_fault layout text list at d found o lt e =
    one_more found o (own_faults layout text (written (get_or list at d).now)) (flat_map (own_faults layout text) (shown (drop (at + 1) list))) e
    ∙ ap (λ l. earlier found (first (flat_map (own_faults layout text) l))) (sym (next_shown list at d lt))

-- one more statement, and what it has
pub next_part : {X Y : Type 0} (f : X → Y) (own : Tree → List X) (list : List (Bor Statement)) (at : ℕ) (d : Bor Statement) (front before : List Y) → at < length list
    → front ≡ before ++ map f (own (written (get_or list at d).now))
    → front ++ map f (flat_map own (shown (drop (at + 1) list))) ≡ before ++ map f (flat_map own (shown (drop at list)))
next_part f own list at d front before lt e =
    let here = own (written (get_or list at d).now) in
    let others = flat_map own (shown (drop (at + 1) list)) in
    ap (λ l. l ++ map f others) e ∙ append_assoc before (map f here) (map f others) ∙ ap (λ l. before ++ l) (sym (map-append f here others))
    ∙ ap (λ l. before ++ map f (flat_map own l)) (sym (next_shown list at d lt))

-- one more paragraph
pub next_paragraph : {X Y : Type 0} (f : X → Y) (of : ℕ → ParagraphTree → List X) (from_on : ℕ → List ParagraphTree → List X)
    → ((k : ℕ) (p : ParagraphTree) (ps : List ParagraphTree) → from_on k (p ∷ ps) ≡ of k p ++ from_on (suc k) ps)
    → (text : List Paragraph) (at : ℕ) (d : Paragraph) (front before : List Y) → at < length text → front ≡ before ++ map f (of at (paragraph_tree (get_or text at d)))
    → front ++ map f (from_on (at + 1) (map paragraph_tree (drop (at + 1) text))) ≡ before ++ map f (from_on at (map paragraph_tree (drop at text)))
next_paragraph f of from_on splits text at d front before lt e =
    let here = of at (paragraph_tree (get_or text at d)) in
    let others = from_on (at + 1) (map paragraph_tree (drop (at + 1) text)) in
    let next : at + 1 ≡ suc at = omega arith in
    ap (λ l. l ++ map f others) e ∙ append_assoc before (map f here) (map f others) ∙ ap (λ l. before ++ l) (sym (map-append f here others))
    ∙ ap (λ k. before ++ map f (here ++ from_on k (map paragraph_tree (drop (at + 1) text)))) next
    ∙ ap (λ l. before ++ map f l) (sym (splits at (paragraph_tree (get_or text at d)) (map paragraph_tree (drop (at + 1) text))))
    ∙ ap (λ l. before ++ map f (from_on at (map paragraph_tree l))) (sym (drop_more text at d lt))
