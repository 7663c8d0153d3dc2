use Rattle.std.proofs.Common.{◌≡◌, drop, filter}
use Rattle.cob_lex.specs.declared.fault.SourceKind.TheVariants as faults
use Rattle.cob_forms.specs.Faults.{earlier, first}
use Rattle.cob_data.specs.Faults.{at_any}
use Rattle.cob_data.proofs.Firsts.{is_initial}
use Rattle.cob_data.proofs.cd_faults.first_initial.Given as goal

abbrev pub invariant-tokens : goal.invariant-tokens
invariant-tokens l = earlier l.found (first (at_any faults.TwoInitial (filter is_initial (drop l.token-index l.tokens)))) ≡ first (at_any faults.TwoInitial (filter is_initial l.tokens))
