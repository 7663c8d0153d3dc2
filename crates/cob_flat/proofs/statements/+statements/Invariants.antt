use Rattle.std.proofs.Common.{◌+◌, ◌*◌, ◌≤◌, drop, length, map}
use Rattle.cob_proc.specs.Trees.{paragraph_tree}
use Rattle.cob_flat.specs.inner.Emitted.{AreEmitted, Extends}
use Rattle.cob_flat.specs.inner.Written.{block_by, written}
use Rattle.cob_flat.proofs.Sizes.{block_size, tree_size}
use Rattle.cob_flat.proofs.statements.+statements.Given as goal

abbrev pub decreases-emit_statement : goal.decreases-emit_statement
decreases-emit_statement l = 2 * tree_size (written l.statement.now)

abbrev pub decreases-emit_statements : goal.decreases-emit_statements
decreases-emit_statements l = 2 * block_size (block_by l.statements.now) + 1

abbrev pub invariant-emit_statements-statements : goal.invariant-emit_statements-statements
invariant-emit_statements-statements l = record {
  within : l.left ≤ length l.statements;
  extends : Extends l.initial.code.items l.code.items;
  does : AreEmitted l.names (map paragraph_tree l.text) l.code.items (block_by (drop l.left l.statements)) l.place l.next;
}

abbrev pub decreases-emit_statements-statements : goal.decreases-emit_statements-statements
decreases-emit_statements-statements l = l.left
