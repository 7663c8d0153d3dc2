use Rattle.std.proofs.Common.{ap, ◌∙◌}
use Rattle.com_events.specs.declared.call.Party.TheVariants as party
use Rattle.com_net.specs.Numbers.{unit_number, terminal_number}
use Rattle.com_state.specs.Parties.{entries_of, unit_by, terminal_by}
use Rattle.com_state.proofs.Telling.{told_by_entries}
use Rattle.com_state.proofs.Settled.{settled_by_unit, settled_by_terminal}
use Rattle.com_state.proofs.laws.entries_tell_what_their_party_may_do.Goals as goal

pub returns-clause-unit : goal.returns-clause-unit
returns-clause-unit c = λ net history last name unit call may leads found settled.
    let told = told_by_entries net history last leads in
    settled_by_unit last name unit (unit_by (entries_of (party.Unit name) history)) call may (ap (λ n. unit_number n name) told.net ∙ found) (told.units name unit found) settled

pub returns-clause-terminal : goal.returns-clause-terminal
returns-clause-terminal c = λ net history last name terminal call may leads found settled.
    let told = told_by_entries net history last leads in
    settled_by_terminal last name terminal (terminal_by (entries_of (party.Terminal name) history)) call may (ap (λ n. terminal_number n name) told.net ∙ found) (told.terminals name terminal found) settled
