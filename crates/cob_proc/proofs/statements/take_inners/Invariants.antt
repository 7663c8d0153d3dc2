use Rattle.std.proofs.Common.{◌<◌, length}
use Rattle.cob_forms.proofs.Lists.{Left}
use Rattle.cob_proc.specs.Forms as forms
use Rattle.cob_proc.specs.Spelled.{begins_form}
use Rattle.cob_proc.specs.Trees.{trees_of}
use Rattle.cob_proc.specs.DivisionReaders.{inner, inners}
use Rattle.cob_proc.proofs.statements.take_inners.Given as goal

abbrev pub invariant-turns : goal.invariant-turns
invariant-turns l = record {
  read : Left (begins_form forms.inner) inner (trees_of l.list.items) l.rest (inners l.tokens);
  fewer : length l.rest < length l.tokens;
}

abbrev pub decreases-turns : goal.decreases-turns
decreases-turns l = length l.rest
