use Rattle.com_events.specs.declared.call.Party.TheVariants as party
use Rattle.com_state.specs.Parties.{entries_of, unit_by, terminal_by}
use Rattle.com_state.proofs.Awaiting.{start_is, receive_is, arrive_is, held_is, unit_here, terminal_here}
use Rattle.com_state.proofs.call_laws.a_call_is_refused_where_it_has_to_wait.Goals as goal

pub returns-clause-start : goal.returns-clause-start
returns-clause-start c = λ net history last name unit leads found mode.
    let here = unit_here net history last name unit leads found in
    start_is last name unit (unit_by (entries_of (party.Unit name) history)) here.0 here.1 mode

pub returns-clause-receive : goal.returns-clause-receive
returns-clause-receive c = λ net history last name unit area kind size leads found mode few.
    let here = unit_here net history last name unit leads found in
    receive_is last name unit (unit_by (entries_of (party.Unit name) history)) area kind size here.0 here.1 mode few

pub returns-clause-arrive : goal.returns-clause-arrive
returns-clause-arrive c = λ net history last name terminal stamp message leads found mode few.
    let here = terminal_here net history last name terminal leads found in
    arrive_is last name terminal (terminal_by (entries_of (party.Terminal name) history)) stamp message here.0 here.1 mode few

pub returns-clause-held : goal.returns-clause-held
returns-clause-held c = λ net history last name terminal leads found mode few fed.
    let here = terminal_here net history last name terminal leads found in
    held_is last name terminal (terminal_by (entries_of (party.Terminal name) history)) here.0 here.1 mode few fed
