use Rattle.com_state.proofs.Telling.{told_by_entries}
use Rattle.com_state.proofs.laws.entries_tell_of_their_party.Goals as goal

pub returns : goal.returns
returns c = told_by_entries
