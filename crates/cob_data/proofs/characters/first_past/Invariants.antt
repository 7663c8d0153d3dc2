use Rattle.std.proofs.Common.{◌≡◌, ◌≤◌, drop, filter}
use Rattle.cob_forms.specs.Faults.{first}
use Rattle.cob_data.specs.Entries.{is_item}
use Rattle.cob_data.specs.Faults.{characters_past}
use Rattle.cob_data.specs.declared.characters.TheConstants.{MAX_CHARACTERS}
use Rattle.cob_data.proofs.characters.first_past.Given as goal

abbrev pub invariant-entries : goal.invariant-entries
invariant-entries l = record {
  left : first (characters_past MAX_CHARACTERS l.total (filter is_item (drop l.entry-index l.entries))) ≡ first (characters_past MAX_CHARACTERS 0 (filter is_item l.entries));
  most : l.total ≤ MAX_CHARACTERS;
}
