use Rattle.std.proofs.Common.{◌≡◌, [], ◌-◌, drop, length}
use Rattle.cob_forms.specs.Faults.{earlier, first}
use Rattle.cob_data.specs.Faults.{name_faults}
use Rattle.cob_data.proofs.NamePasses.{shown}
use Rattle.cob_data.proofs.SeenTexts.{known}
use Rattle.cob_data.proofs.names.first_named_again.Given as goal

abbrev pub invariant-names : goal.invariant-names
invariant-names l = earlier l.found (first (name_faults (known l.texts.keys) (shown (drop l.at l.names)))) ≡ first (name_faults [] (shown l.names))

abbrev pub decreases-names : goal.decreases-names
decreases-names l = length l.names - l.at
