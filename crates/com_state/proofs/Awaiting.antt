-- When the call of a party that has to wait is refused, by the party's mode and count.
use Rattle.std.proofs.Common.{◌≡◌, ℕ, Bool, true, false, not, ◌&&◌, nat_lt, List, Some, None, Option, refl, sym, ap, ◌∙◌, inl, inr, arith}
use Rattle.std.specs.Prelude.{◌||◌, ◌==◌, ◌⊎◌, is_some, option_map, slice_get}
use Rattle.std.specs.Str.{bytes_eq}
use Rattle.std.proofs.lemmas.Bool.Decides.{Decides-eqb}
use Rattle.std.proofs.lemmas.Slice.Eq.{bytes_eq-Decides}
use Rattle.com_msg.specs.Stamp.{Moment}
use Rattle.com_msg.specs.declared.message.RawMessage.{RawMessage}
use Rattle.com_msg.specs.declared.rest.Kind.{Kind}
use Rattle.com_msg.specs.declared.rest.Kind.TheVariants.{Message as message_kind, Segment as segment_kind}
use Rattle.com_tree.specs.declared.tree.Node.{Node}
use Rattle.com_net.specs.declared.net.Net.{Net}
use Rattle.com_net.specs.Numbers.{unit_number, terminal_number}
use Rattle.com_events.specs.declared.call.Party.TheVariants as party
use Rattle.com_events.specs.declared.call.Call.{Call}
use Rattle.com_events.specs.declared.call.Call.TheVariants as made
use Rattle.com_events.specs.declared.call.StopReason.TheVariants as stop
use Rattle.com_events.specs.declared.call.EndReason.TheVariants as finish
use Rattle.com_events.specs.declared.entry.Entry.{Entry}
use Rattle.com_state.specs.declared.parties.TheConstants.{MAX_VERBS, MAX_ARRIVALS}
use Rattle.com_state.specs.declared.parties.UnitMode.{UnitMode}
use Rattle.com_state.specs.declared.parties.UnitMode.TheVariants.{Dormant, Running, WaitingFor, Stopped}
use Rattle.com_state.specs.declared.parties.UnitState.{UnitState}
use Rattle.com_state.specs.declared.parties.TerminalMode.{TerminalMode}
use Rattle.com_state.specs.declared.parties.TerminalMode.TheVariants.{Feeding, Holding, Ended}
use Rattle.com_state.specs.declared.parties.TerminalState.{TerminalState}
use Rattle.com_state.specs.State.{State, opening, unit_mode, terminal_mode}
use Rattle.com_state.specs.Answers.{is_ready}
use Rattle.com_state.specs.Histories.{LeadsTo}
use Rattle.com_state.specs.Parties.{entries_of, unit_by, terminal_by}
use Rattle.com_state.specs.Steps.{step, start, schedule_of, feed_of, same_kind, is_dormant, is_running, is_waiting_for, is_feeding, is_holding, is_feeding_or_holding, is_path_open, is_idle, waits_or_sleeps, may_do_verb, may_arrive, may_stop, may_finish, stop_unit, with_terminal_mode}
use Rattle.com_events.specs.declared.reply.Reply.TheVariants.{Done}
use Rattle.com_state.specs.Waits.{has_start, is_scheduled_now}
use Rattle.com_state.proofs.StepCases.{unit_steps, terminal_steps}
use Rattle.com_state.proofs.Doing.{start_allowed, start_chosen, receive_allowed, arrive_allowed, some_if}
use Rattle.com_state.specs.Parties.{may_by_unit, may_by_terminal, after_unit_call, after_terminal_call}
use Rattle.com_state.proofs.Telling.{told_by_entries}
use Rattle.com_state.proofs.Settled.{settled_by_unit, settled_by_terminal}
use Rattle.std.proofs.lemmas.List.Sums.{fold-append}
use Rattle.std.proofs.Common.{[], ◌∷◌, ◌++◌}
use Rattle.com_state.specs.State.{opening_unit, opening_terminal}

mode_at : (S : State) (unit : ℕ) (u : UnitState) → slice_get S.units unit ≡ Some u → unit_mode S unit ≡ Some u.mode
mode_at S unit u at = ap (option_map (λ (v : UnitState). v.mode)) at

phase_at : (S : State) (terminal : ℕ) (t : TerminalState) → slice_get S.terminals terminal ≡ Some t → terminal_mode S terminal ≡ Some t.mode
phase_at S terminal t at = ap (option_map (λ (v : TerminalState). v.mode)) at

verbs_left : (S : State) (unit : ℕ) (u : UnitState) → slice_get S.units unit ≡ Some u → nat_lt u.verbs MAX_VERBS ≡ true → may_do_verb S unit ≡ true
verbs_left S unit u at few = rw (at, may_do_verb) few

arrivals_left : (S : State) (terminal : ℕ) (t : TerminalState) → slice_get S.terminals terminal ≡ Some t → nat_lt t.arrivals MAX_ARRIVALS ≡ true → may_arrive S terminal ≡ true
arrivals_left S terminal t at few = rw (at, may_arrive) few

and_true : (b : Bool) → (b && true) ≡ b
and_true true = refl
and_true false = refl

-- START
start_some : (S : State) (unit : ℕ) (schedule : Option Node) → is_some (start S unit schedule) ≡ is_scheduled_now S schedule
start_some S unit None = refl
start_some S unit (Some node) = (let same : S ≡ S = refl in sym (start_chosen same unit node))

pub start_is : (S : State) (name : List ℕ) (unit : ℕ) (u : UnitState) → unit_number S.net name ≡ Some unit → slice_get S.units unit ≡ Some u → u.mode ≡ Dormant → is_some (step S (party.Unit name) made.Start) ≡ has_start S unit
start_is S name unit u found at mode =
    let sleeps : is_dormant (unit_mode S unit) ≡ true = ap is_dormant (mode_at S unit u at ∙ ap (λ m. Some m) mode) in
    ap is_some (unit_steps S name unit made.Start found) ∙ (start_allowed S unit ∙ (ap (λ b. b && is_some (start S unit (schedule_of S.net unit))) sleeps ∙ start_some S unit (schedule_of S.net unit)))

-- RECEIVE
same_kinds : (kind : Kind) → same_kind kind kind ≡ true
same_kinds message_kind = refl
same_kinds segment_kind = refl

waits_with : (area : List ℕ) (kind : Kind) (size : ℕ) → is_waiting_for (Some (WaitingFor area kind size)) area kind size false ≡ true
waits_with area kind size =
    let bytes : bytes_eq area area ≡ true = (let e : area ≡ area = refl in grind (arith, bytes_eq-Decides area area, e)) in
    let sizes : (size == size) ≡ true = (Decides-eqb size size).1 refl in
    rw (bytes, same_kinds kind, sizes) refl

pub receive_is : (S : State) (name : List ℕ) (unit : ℕ) (u : UnitState) (area : List ℕ) (kind : Kind) (size : ℕ) → unit_number S.net name ≡ Some unit → slice_get S.units unit ≡ Some u → u.mode ≡ WaitingFor area kind size → nat_lt u.verbs MAX_VERBS ≡ true
    → is_some (step S (party.Unit name) (made.Receive area kind size false)) ≡ is_ready S unit area
receive_is S name unit u area kind size found at mode few =
    let waits : unit_mode S unit ≡ Some (WaitingFor area kind size) = mode_at S unit u at ∙ ap (λ m. Some m) mode in
    ap is_some (unit_steps S name unit (made.Receive area kind size false) found)
    ∙ (receive_allowed S unit area kind size false
    ∙ (ap (λ b. b && (is_running (unit_mode S unit) || (is_waiting_for (unit_mode S unit) area kind size false && is_ready S unit area))) (verbs_left S unit u at few)
    ∙ (ap (λ (m : Option UnitMode). is_running m || (is_waiting_for m area kind size false && is_ready S unit area)) waits
    ∙ ap (λ b. b && is_ready S unit area) (waits_with area kind size))))

-- ARRIVE
pub arrive_is : (S : State) (name : List ℕ) (terminal : ℕ) (t : TerminalState) (stamp : Moment) (message : RawMessage) → terminal_number S.net name ≡ Some terminal → slice_get S.terminals terminal ≡ Some t → is_feeding_or_holding (Some t.mode) ≡ true → nat_lt t.arrivals MAX_ARRIVALS ≡ true
    → is_some (step S (party.Terminal name) (made.Arrive stamp message)) ≡ is_path_open S terminal
arrive_is S name terminal t stamp message found at mode few =
    let goes : is_feeding_or_holding (terminal_mode S terminal) ≡ true = ap is_feeding_or_holding (phase_at S terminal t at) ∙ mode in
    ap is_some (terminal_steps S name terminal (made.Arrive stamp message) found)
    ∙ (arrive_allowed S terminal name stamp message
    ∙ (ap (λ b. (is_path_open S terminal && b) && may_arrive S terminal) goes
    ∙ (ap (λ b. (is_path_open S terminal && true) && b) (arrivals_left S terminal t at few)
    ∙ (and_true (is_path_open S terminal && true) ∙ and_true (is_path_open S terminal)))))

-- HELD
pub held_is : (S : State) (name : List ℕ) (terminal : ℕ) (t : TerminalState) → terminal_number S.net name ≡ Some terminal → slice_get S.terminals terminal ≡ Some t → t.mode ≡ Feeding → nat_lt t.arrivals MAX_ARRIVALS ≡ true → is_some (feed_of S.net terminal) ≡ true
    → is_some (step S (party.Terminal name) made.Held) ≡ not (is_path_open S terminal)
held_is S name terminal t found at mode few fed =
    let feeds : is_feeding (terminal_mode S terminal) ≡ true = ap is_feeding (phase_at S terminal t at ∙ ap (λ m. Some m) mode) in
    ap is_some (terminal_steps S name terminal made.Held found)
    ∙ (some_if (((is_some (feed_of S.net terminal) && is_feeding (terminal_mode S terminal)) && not (is_path_open S terminal)) && may_arrive S terminal) (Done, with_terminal_mode terminal Holding S)
    ∙ (ap (λ b. ((b && is_feeding (terminal_mode S terminal)) && not (is_path_open S terminal)) && may_arrive S terminal) fed
    ∙ (ap (λ b. (b && not (is_path_open S terminal)) && may_arrive S terminal) feeds
    ∙ (ap (λ b. not (is_path_open S terminal) && b) (arrivals_left S terminal t at few)
    ∙ and_true (not (is_path_open S terminal))))))

-- STOP IDLE and END IDLE
pub stop_idle_is : (S : State) (name : List ℕ) (unit : ℕ) (u : UnitState) → unit_number S.net name ≡ Some unit → slice_get S.units unit ≡ Some u → is_some (step S (party.Unit name) (made.Stop stop.Idle)) ≡ (is_idle S && waits_or_sleeps (Some u.mode))
stop_idle_is S name unit u found at =
    ap is_some (unit_steps S name unit (made.Stop stop.Idle) found)
    ∙ (some_if (may_stop S unit stop.Idle) (Done, stop_unit S unit)
    ∙ ap (λ (m : Option UnitMode). is_idle S && waits_or_sleeps m) (mode_at S unit u at))

pub end_idle_is : (S : State) (name : List ℕ) (terminal : ℕ) (t : TerminalState) → terminal_number S.net name ≡ Some terminal → slice_get S.terminals terminal ≡ Some t → is_some (step S (party.Terminal name) (made.Finish finish.Idle)) ≡ (is_idle S && is_holding (Some t.mode))
end_idle_is S name terminal t found at =
    ap is_some (terminal_steps S name terminal (made.Finish finish.Idle) found)
    ∙ (some_if (may_finish S terminal finish.Idle) (Done, with_terminal_mode terminal Ended S)
    ∙ ap (λ (m : Option TerminalMode). is_idle S && is_holding m) (phase_at S terminal t at))

-- what a history tells of a unit and of a terminal, in the state that it leaves
pub unit_here : (net : Net) (history : List Entry) (S : State) (name : List ℕ) (unit : ℕ) → LeadsTo (opening net) history S → unit_number net name ≡ Some unit
    → (unit_number S.net name ≡ Some unit) × (slice_get S.units unit ≡ Some (unit_by (entries_of (party.Unit name) history)))
unit_here net history S name unit leads found =
    let told = told_by_entries net history S leads in
    (ap (λ n. unit_number n name) told.net ∙ found, told.units name unit found)

pub terminal_here : (net : Net) (history : List Entry) (S : State) (name : List ℕ) (terminal : ℕ) → LeadsTo (opening net) history S → terminal_number net name ≡ Some terminal
    → (terminal_number S.net name ≡ Some terminal) × (slice_get S.terminals terminal ≡ Some (terminal_by (entries_of (party.Terminal name) history)))
terminal_here net history S name terminal leads found =
    let told = told_by_entries net history S leads in
    (ap (λ n. terminal_number n name) told.net ∙ found, told.terminals name terminal found)

-- what a party may do, where its own entries settle that
pub unit_may : (net : Net) (history : List Entry) (S : State) (name : List ℕ) (unit : ℕ) (call : Call) (may : Bool) → LeadsTo (opening net) history S → unit_number net name ≡ Some unit
    → may_by_unit call (unit_by (entries_of (party.Unit name) history)).mode (unit_by (entries_of (party.Unit name) history)).verbs ≡ Some may → is_some (step S (party.Unit name) call) ≡ may
unit_may net history S name unit call may leads found settled =
    let here = unit_here net history S name unit leads found in
    settled_by_unit S name unit (unit_by (entries_of (party.Unit name) history)) call may here.0 here.1 settled

pub terminal_may : (net : Net) (history : List Entry) (S : State) (name : List ℕ) (terminal : ℕ) (call : Call) (may : Bool) → LeadsTo (opening net) history S → terminal_number net name ≡ Some terminal
    → may_by_terminal call (terminal_by (entries_of (party.Terminal name) history)).mode (terminal_by (entries_of (party.Terminal name) history)).arrivals ≡ Some may → is_some (step S (party.Terminal name) call) ≡ may
terminal_may net history S name terminal call may leads found settled =
    let here = terminal_here net history S name terminal leads found in
    settled_by_terminal S name terminal (terminal_by (entries_of (party.Terminal name) history)) call may here.0 here.1 settled

-- what one entry more tells of its party
pub unit_with : (entries : List Entry) (entry : Entry) → unit_by (entries ++ entry ∷ []) ≡ after_unit_call (unit_by entries) entry.call entry.reply
unit_with entries entry = fold-append (λ (u : UnitState) (e : Entry). after_unit_call u e.call e.reply) opening_unit entries (entry ∷ [])

pub terminal_with : (entries : List Entry) (entry : Entry) → terminal_by (entries ++ entry ∷ []) ≡ after_terminal_call (terminal_by entries) entry.call
terminal_with entries entry = fold-append (λ (t : TerminalState) (e : Entry). after_terminal_call t e.call) opening_terminal entries (entry ∷ [])
