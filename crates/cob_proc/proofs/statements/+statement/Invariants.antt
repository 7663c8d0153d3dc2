use Rattle.std.proofs.Common.{◌+◌, ◌*◌, ◌<◌, length}
use Rattle.cob_forms.proofs.Lists.{Left}
use Rattle.cob_proc.specs.Forms as forms
use Rattle.cob_proc.specs.Spelled.{begins_form}
use Rattle.cob_proc.specs.Trees.{trees_of}
use Rattle.cob_proc.specs.DivisionReaders.{read_statement, read_statements}
use Rattle.cob_proc.proofs.statements.+statement.Given as goal

abbrev pub decreases-take_statement : goal.decreases-take_statement
decreases-take_statement l = 4 * l.depth

abbrev pub decreases-take_statements : goal.decreases-take_statements
decreases-take_statements l = 4 * l.depth + 1

abbrev pub decreases-take_otherwise : goal.decreases-take_otherwise
decreases-take_otherwise l = 4 * l.depth + 2

abbrev pub decreases-take_branch : goal.decreases-take_branch
decreases-take_branch l = 4 * l.depth + 3

abbrev pub invariant-take_statements-turns : goal.invariant-take_statements-turns
invariant-take_statements-turns l = record {
  read : Left (begins_form forms.statement) (read_statement l.depth) (trees_of l.list.items) l.rest (read_statements l.depth l.tokens);
  fewer : length l.rest < length l.tokens;
}

abbrev pub decreases-take_statements-turns : goal.decreases-take_statements-turns
decreases-take_statements-turns l = length l.rest
