use Rattle.com_events.specs.declared.call.Party.TheVariants as party
use Rattle.com_state.specs.Parties.{entries_of, unit_by, terminal_by}
use Rattle.com_state.proofs.Awaiting.{stop_idle_is, end_idle_is, unit_here, terminal_here}
use Rattle.com_state.proofs.call_laws.idle_calls_need_an_idle_system.Goals as goal

pub returns-clause-stop : goal.returns-clause-stop
returns-clause-stop c = λ net history last name unit leads found.
    let here = unit_here net history last name unit leads found in
    stop_idle_is last name unit (unit_by (entries_of (party.Unit name) history)) here.0 here.1

pub returns-clause-finish : goal.returns-clause-finish
returns-clause-finish c = λ net history last name terminal leads found.
    let here = terminal_here net history last name terminal leads found in
    end_idle_is last name terminal (terminal_by (entries_of (party.Terminal name) history)) here.0 here.1
