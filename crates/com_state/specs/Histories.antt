-- Histories of the system: which are legal, and what holds of them.
use Rattle.std.specs.Prelude.{◌≡◌, List, [], ◌∷◌, map, Option, Some, option_map, option_and_then}
use Rattle.com_net.specs.declared.net.Net.{Net}
use Rattle.com_events.specs.declared.call.Party.{Party}
use Rattle.com_events.specs.declared.call.Call.{Call}
use Rattle.com_events.specs.declared.reply.Reply.{Reply}
use Rattle.com_events.specs.declared.entry.Entry.{Entry}
use Rattle.com_state.specs.State.{State, opening}
use Rattle.com_state.specs.Steps.{step}

-- each entry's reply is that of the step from the state that the entries before it leave
abbrev pub LeadsTo : State → List Entry → State → Type 0
LeadsTo S [] last = last ≡ S
LeadsTo S (entry ∷ entries) last =
    (next : State) × (step S entry.party entry.call ≡ Some (entry.reply, next))
    × LeadsTo next entries last

-- a history of the system from its opening on
abbrev pub Legal : Net → List Entry → Type 0
Legal net history = (last : State) × LeadsTo (opening net) history last

-- the entry that a step makes, and those of the calls after it
abbrev pub entry_before : Party × Call → Reply → List Entry × State → List Entry × State
entry_before made reply behind =
    (record { party = made.0; call = made.1; reply = reply } ∷ behind.0, behind.1)

-- the entries of these calls, one after another, and the state that they leave; undefined where a
-- step is
abbrev pub run_from : State → List (Party × Call) → Option (List Entry × State)
run_from S [] = Some ([], S)
run_from S (made ∷ calls) =
    option_and_then (λ next. option_map (entry_before made next.0) (run_from next.1 calls))
    (step S made.0 made.1)

-- the legal history with just these calls
abbrev pub run : Net → List (Party × Call) → Option (List Entry × State)
run net calls = run_from (opening net) calls

-- the call of an entry, and who made it
abbrev pub call_made : Entry → Party × Call
call_made entry = (entry.party, entry.call)

-- the state that a history leaves, where its calls can be done
abbrev pub state_after : Net → List Entry → Option State
state_after net history = option_map (λ r. r.1) (run net (map call_made history))

-- a run of the history's calls gives the history
abbrev pub IsRun : Net → List Entry → Type 0
IsRun net history = option_map (λ r. r.0) (run net (map call_made history)) ≡ Some history
