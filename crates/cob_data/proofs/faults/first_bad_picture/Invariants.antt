use Rattle.std.proofs.Common.{◌≡◌, drop, filter}
use Rattle.cob_lex.specs.declared.fault.SourceKind.TheVariants as faults
use Rattle.cob_forms.specs.Faults.{earlier, first}
use Rattle.cob_data.specs.Faults.{at_any}
use Rattle.cob_data.proofs.Firsts.{bad_picture}
use Rattle.cob_data.proofs.faults.first_bad_picture.Given as goal

abbrev pub invariant-tokens : goal.invariant-tokens
invariant-tokens l = earlier l.found (first (at_any faults.BadPicture (filter bad_picture (drop l.token-index l.tokens)))) ≡ first (at_any faults.BadPicture (filter bad_picture l.tokens))
