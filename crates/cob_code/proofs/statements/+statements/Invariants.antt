use Rattle.std.proofs.Common.{◌≡◌, ◌++◌, drop}
use Rattle.cob_code.specs.inner.Written.{shown}
use Rattle.cob_code.proofs.Rows.{in_list}
use Rattle.cob_code.proofs.statements.+statements.Given as goal

abbrev pub invariant-push_statements-statements : goal.invariant-push_statements-statements
invariant-push_statements-statements l = shown l.list.items ++ in_list (drop l.statement-index l.statements) ≡ shown l.initial.list.items ++ in_list l.statements
