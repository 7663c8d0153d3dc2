use Rattle.std.proofs.Common.{◌≡◌, drop, filter}
use Rattle.cob_lex.specs.declared.fault.SourceKind.TheVariants as faults
use Rattle.cob_forms.specs.Faults.{earlier, first}
use Rattle.cob_data.specs.Faults.{at_any, second_initials}
use Rattle.cob_data.proofs.Firsts.{cd_tokens, is_initial, past_first}
use Rattle.cob_data.proofs.cd_faults.first_second_initial.Given as goal

abbrev pub invariant-entries : goal.invariant-entries
invariant-entries l = earlier l.found (first (at_any faults.TwoInitial (filter is_initial (past_first l.had_initial (cd_tokens (drop l.entry-index l.entries)))))) ≡ first (second_initials l.entries)
