use Rattle.std.proofs.Common.{◌≡◌, length}
use Rattle.std.specs.Prelude.{flat_map}
use Rattle.cob_forms.specs.Faults.{first}
use Rattle.cob_data.specs.Faults.{bad_columns, begin_flags}
use Rattle.cob_data.proofs.ColumnSteps.{Looks}
use Rattle.cob_data.proofs.columns.first_bad_column.Given as goal

abbrev pub invariant-entries : goal.invariant-entries
invariant-entries l = Looks l.columns.found l.columns.line (flat_map (λ x. begin_flags x.0 x.1) l.entries) ≡ first (bad_columns l.fn.tokens)

abbrev pub decreases-entries : goal.decreases-entries
decreases-entries l = length l.entries
