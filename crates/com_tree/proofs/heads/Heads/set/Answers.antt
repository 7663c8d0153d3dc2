use Rattle.std.proofs.Common.{◌≡◌, ℕ, ◌<◌, ◌≤◌, false, List, None, length, get_or, set, refl, sym, ap, ◌∙◌, arith}
use Rattle.std.specs.Prelude.{Option}
use Rattle.std.proofs.lemmas.Bool.{false≢true}
use Rattle.std.proofs.lemmas.List.{get_or-set_other, length-set}
use Rattle.std.proofs.lemmas.Option.{unwrap_or-slice_get}
use Rattle.com_tree.specs.declared.tree.TreeRow.{TreeRow}
use Rattle.com_tree.specs.Written.{leaf_count, IsWritten}
use Rattle.com_tree.specs.NextLeaf.{head_on}
use Rattle.com_tree.specs.CachedHeads.{HeadLists, IsRight, IsHeadsOf}
use Rattle.com_tree.specs.UnderNodes.{is_over}
use Rattle.com_tree.proofs.Levels.{choice_under}
use Rattle.com_tree.proofs.OverLeaf.{over}
use Rattle.com_tree.proofs.Underneath.{row_at}
use Rattle.com_tree.proofs.heads.Heads.set.Goals as goal

-- the numbers of the other leaves stay
head_elsewhere : (numbers : List (Option ℕ)) (leaf other : ℕ) (first : Option ℕ) → (other ≡ leaf → ⊥) → head_on numbers other ≡ head_on (set numbers leaf first) other
head_elsewhere numbers leaf other first apart =
    unwrap_or-slice_get numbers other None ∙ (sym (get_or-set_other numbers leaf other first None apart) ∙ sym (unwrap_or-slice_get (set numbers leaf first) other None))

-- the choices of the nodes that are not over the leaf stay right
others_right : (rows : List TreeRow) (numbers choices : List (Option ℕ)) (leaf : ℕ) (first : Option ℕ) (other : ℕ) → IsWritten rows → IsRight rows numbers choices other → other < length rows → is_over rows leaf other ≡ false
    → IsRight rows (set numbers leaf first) choices other
others_right rows numbers choices leaf first other written right within none =
    let row = row_at rows other within in
    right ∙ choice_under 4 rows (head_on numbers) (head_on (set numbers leaf first)) other row.0 written row.1 (λ one least most.
    head_elsewhere numbers leaf one first (λ same. absurd (false≢true (sym none ∙ over rows leaf other (omega (arith, least, same)) (omega (arith, most, same))))))

pub mend_above-requires-clause-others : goal.mend_above-requires-clause-others
mend_above-requires-clause-others c = λ other within none.
    let tree = c.args.tree.now in
    let inside = c.self.inside in
    let number = c.args.leaf.number in
    let own = c.leaf_rows.ensures.leaves.each number (omega (arith, c.requires.leaf, c.leaf_rows.ensures.leaves.size)) in
    let heads : IsHeadsOf tree (record { numbers = inside.numbers.items; choices = inside.choices.items }) = rw c.self.view_is c.requires.heads in
    rw c.deref.ensures.value (others_right tree inside.numbers.items inside.choices.items number c.args.first other c.leaf_rows.ensures.written (heads.right other within) within (rw own.number at none))

pub returns-clause-heads : goal.returns-clause-heads
returns-clause-heads c =
    let tree = c.args.tree.now in
    let inside = c.self.inside in
    let heads : IsHeadsOf tree (record { numbers = inside.numbers.items; choices = inside.choices.items }) = rw c.self.view_is c.requires.heads in
    record {
      leaves = length-set inside.numbers.items c.args.leaf.number c.args.first ∙ heads.leaves;
      nodes = c.mend_above.ensures.size;
      right = rw c.deref.ensures.value at c.mend_above.ensures.right;
    }
