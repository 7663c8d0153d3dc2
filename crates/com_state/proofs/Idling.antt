-- In an idle system no call is possible but STOP IDLE and END IDLE; a party that has stopped or
-- ended has no call.
use Rattle.std.proofs.Common.{◌≡◌, ℕ, ◌<◌, ◌≤◌, Bool, true, false, ◌&&◌, List, [], ◌∷◌, length, Some, None, Option, refl, sym, ap, ◌∙◌, inl, inr, arith, nat_lt}
use Rattle.std.specs.Prelude.{◌⊎◌, is_some, is_none}
use Rattle.std.specs.List.{list_all, range_with_len}
use Rattle.std.specs.Str.{bytes_eq}
use Rattle.std.proofs.lemmas.Bool.{cases_Bool, false≢true, and_parts, not-true}
use Rattle.std.proofs.lemmas.Bool.Decides.{nat_tests}
use Rattle.std.proofs.lemmas.Option.{none-some, slice_get_past}
use Rattle.std.proofs.lemmas.Slice.Eq.{bytes_eq-Decides}
use Rattle.com_msg.specs.declared.rest.Kind.{Kind}
use Rattle.com_tree.specs.declared.tree.Node.{Node}
use Rattle.com_events.specs.declared.call.Party.{Party}
use Rattle.com_events.specs.declared.call.Party.TheVariants as party
use Rattle.com_events.specs.declared.call.StopReason.{StopReason}
use Rattle.com_events.specs.declared.call.StopReason.TheVariants as stop
use Rattle.com_events.specs.declared.call.EndReason.{EndReason}
use Rattle.com_events.specs.declared.call.EndReason.TheVariants as finish
use Rattle.com_events.specs.declared.call.Call.{Call}
use Rattle.com_events.specs.declared.call.Call.TheVariants as made
use Rattle.com_events.specs.declared.reply.Reply.{Reply}
use Rattle.com_net.specs.Numbers.{unit_number, terminal_number}
use Rattle.com_recv.proofs.Members.{Among, among_range}
use Rattle.com_recv.specs.Incoming.{chosen_leaf}
use Rattle.com_state.specs.declared.parties.UnitMode.{UnitMode}
use Rattle.com_state.specs.declared.parties.UnitMode.TheVariants.{Dormant, Running, WaitingFor, Stopped}
use Rattle.com_state.specs.declared.parties.TerminalMode.{TerminalMode}
use Rattle.com_state.specs.declared.parties.TerminalMode.TheVariants.{Feeding, Holding, Ended}
use Rattle.com_state.specs.State.{State, unit_mode, terminal_mode}
use Rattle.com_state.specs.Answers.{is_ready}
use Rattle.com_state.specs.Steps.{step, unit_step, terminal_step, verb, start, schedule_of, is_dormant, is_running, is_waiting_for, is_feeding, is_holding, is_feeding_or_holding, may_do_verb, waits_or_sleeps, is_idle, is_unit_idle, is_terminal_idle, is_path_open, feed_of}
use Rattle.com_state.specs.Laws.{is_idle_call}
use Rattle.com_events.specs.declared.reply.Reply.TheVariants.{AreaIn}
use Rattle.com_recv.specs.Receiving.{count}
use Rattle.com_state.specs.Switches.{switch_input}
use Rattle.com_state.proofs.Verbs.{send_in, switch_output_in}
use Rattle.com_state.proofs.Frames.{option_cases}
use Rattle.com_state.proofs.StepCases.{step_of_unit, step_of_terminal, unit_steps, terminal_steps}

-- what passes for all passes for each
each_of : {X : Type 0} (p : X → Bool) (x : X) (xs : List X) → list_all p xs ≡ true → Among x xs → p x ≡ true
each_of {X} p x [] all among = absurd among
each_of {X} p x (y ∷ xs) all (inl e) = ap p e ∙ (and_parts (p y) (list_all p xs) all).0
each_of {X} p x (y ∷ xs) all (inr there) = each_of p x xs (and_parts (p y) (list_all p xs) all).1 there

within_or_past : (a b : ℕ) → (a < b) ⊎ (b ≤ a)
within_or_past a b = elim (cases_Bool (nat_lt a b)) [
  | inl less ↦ inl (grind (arith, nat_tests, less))
  | inr more ↦ inr (grind (arith, nat_tests, more))
]

-- each unit of an idle system is idle
idle_unit : (S : State) (unit : ℕ) → is_idle S ≡ true → is_unit_idle S unit (unit_mode S unit) ≡ true
idle_unit S unit idle =
    let test = λ (unit : ℕ). is_unit_idle S unit (unit_mode S unit) in
    let all = (and_parts (list_all test (range_with_len 0 (length S.units))) (list_all (λ terminal. is_terminal_idle S terminal (terminal_mode S terminal)) (range_with_len 0 (length S.terminals))) idle).0 in
    elim (within_or_past unit (length S.units)) [
      | inl within ↦ each_of test unit (range_with_len 0 (length S.units)) all (among_range 0 (length S.units) unit (omega arith) (omega (arith, within)))
      | inr past ↦ rw (slice_get_past S.units unit past) refl
    ]

idle_terminal : (S : State) (terminal : ℕ) → is_idle S ≡ true → is_terminal_idle S terminal (terminal_mode S terminal) ≡ true
idle_terminal S terminal idle =
    let test = λ (terminal : ℕ). is_terminal_idle S terminal (terminal_mode S terminal) in
    let all = (and_parts (list_all (λ unit. is_unit_idle S unit (unit_mode S unit)) (range_with_len 0 (length S.units))) (list_all test (range_with_len 0 (length S.terminals))) idle).1 in
    elim (within_or_past terminal (length S.terminals)) [
      | inl within ↦ each_of test terminal (range_with_len 0 (length S.terminals)) all (among_range 0 (length S.terminals) terminal (omega arith) (omega (arith, within)))
      | inr past ↦ rw (slice_get_past S.terminals terminal past) refl
    ]

-- an idle unit does not run
idle_rests : (S : State) (unit : ℕ) (mode : Option UnitMode) → is_unit_idle S unit mode ≡ true → is_running mode ≡ false
idle_rests S unit None h = refl
idle_rests S unit (Some Dormant) h = refl
idle_rests S unit (Some Running) h = absurd (false≢true h)
idle_rests S unit (Some (WaitingFor area kind size)) h = refl
idle_rests S unit (Some Stopped) h = refl

-- nor does an idle terminal feed
idle_feeds_not : (S : State) (terminal : ℕ) (mode : Option TerminalMode) → is_terminal_idle S terminal mode ≡ true → is_feeding mode ≡ false
idle_feeds_not S terminal None h = refl
idle_feeds_not S terminal (Some Feeding) h = absurd (false≢true h)
idle_feeds_not S terminal (Some Holding) h = refl
idle_feeds_not S terminal (Some Ended) h = refl

-- what is dormant in an idle system is not started
no_start : (S : State) (unit : ℕ) (schedule : Option Node) → is_unit_idle S unit (Some Dormant) ≡ true → schedule_of S.net unit ≡ schedule → start S unit schedule ≡ None
no_start S unit None idle e = absurd (false≢true (rw (e, is_unit_idle) at idle))
no_start S unit (Some node) idle e =
    let none : is_none (chosen_leaf S.net.tree S.incoming.waiting node) ≡ true = rw (e, is_unit_idle) at idle in
    elim (option_cases (chosen_leaf S.net.tree S.incoming.waiting node)) [
      | inl absent ↦ rw absent refl
      | inr some ↦ absurd (false≢true (rw some.1 at none))
    ]

starts_not : (S : State) (unit : ℕ) (mode : Option UnitMode) → unit_mode S unit ≡ mode → is_unit_idle S unit mode ≡ true → unit_step S unit made.Start ≡ None
starts_not S unit None e idle = let off : is_dormant (unit_mode S unit) ≡ false = ap is_dormant e in rw off refl
starts_not S unit (Some Dormant) e idle = let on : is_dormant (unit_mode S unit) ≡ true = ap is_dormant e in rw on (no_start S unit (schedule_of S.net unit) idle refl)
starts_not S unit (Some Running) e idle = let off : is_dormant (unit_mode S unit) ≡ false = ap is_dormant e in rw off refl
starts_not S unit (Some (WaitingFor area kind size)) e idle = let off : is_dormant (unit_mode S unit) ≡ false = ap is_dormant e in rw off refl
starts_not S unit (Some Stopped) e idle = let off : is_dormant (unit_mode S unit) ≡ false = ap is_dormant e in rw off refl

-- a RECEIVE that waits in an idle system goes on with nothing
goes_not : (S : State) (unit : ℕ) (mode : Option UnitMode) (area : List ℕ) (kind : Kind) (size : ℕ) (no_data : Bool) → is_unit_idle S unit mode ≡ true
    → (is_waiting_for mode area kind size no_data && is_ready S unit area) ≡ false
goes_not S unit None area kind size no_data idle = refl
goes_not S unit (Some Dormant) area kind size no_data idle = refl
goes_not S unit (Some Running) area kind size no_data idle = refl
goes_not S unit (Some Stopped) area kind size no_data idle = refl
goes_not S unit (Some (WaitingFor own own_kind own_size)) area kind size no_data idle = elim (cases_Bool (bytes_eq own area)) [
  | inl same ↦
      let is : own ≡ area = grind (arith, bytes_eq-Decides own area, same) in
      let unready : is_ready S unit area ≡ false = ap (is_ready S unit) (sym is) ∙ not-true (is_ready S unit own) idle in
      elim (cases_Bool (is_waiting_for (Some (WaitingFor own own_kind own_size)) area kind size no_data)) [
        | inl waits ↦ rw (waits, unready) refl
        | inr other ↦ rw other refl
      ]
  | inr apart ↦ rw apart refl
]

receives_not : (S : State) (unit : ℕ) (area : List ℕ) (kind : Kind) (size : ℕ) (no_data : Bool) → is_running (unit_mode S unit) ≡ false
    → (is_waiting_for (unit_mode S unit) area kind size no_data && is_ready S unit area) ≡ false → unit_step S unit (made.Receive area kind size no_data) ≡ None
receives_not S unit area kind size no_data rests waits = elim (cases_Bool (may_do_verb S unit)) [
  | inl may ↦ rw (may, rests, waits) refl
  | inr done ↦ rw done refl
]

-- no verb of a unit that does not run
does_not : (S : State) (unit : ℕ) (done : Reply × State) → is_running (unit_mode S unit) ≡ false → verb S unit done ≡ None
does_not S unit done rests = rw rests refl

verb_rests : (S : State) (unit : ℕ) (done : Reply × State) (reply : Reply) (next : State) → is_running (unit_mode S unit) ≡ false → verb S unit done ≡ Some (reply, next) → ⊥
verb_rests S unit done reply next rests h = none-some (reply, next) (sym (does_not S unit done rests) ∙ h)

nothing_of : (o : Option (Reply × State)) (reply : Reply) (next : State) → o ≡ None → o ≡ Some (reply, next) → ⊥
nothing_of o reply next none some = none-some (reply, next) (sym none ∙ some)

idle_stop : (S : State) (unit : ℕ) (reason : StopReason) → is_running (unit_mode S unit) ≡ false → (is_idle_call (made.Stop reason) ≡ true) ⊎ (unit_step S unit (made.Stop reason) ≡ None)
idle_stop S unit stop.Idle rests = inl refl
idle_stop S unit stop.Run rests = inr (rw rests refl)
idle_stop S unit stop.Limit rests = inr (rw rests refl)
idle_stop S unit stop.DataFault rests = inr (rw rests refl)

-- a call of a unit in an idle system
unit_in_idle : (S : State) (unit : ℕ) (call : Call) (reply : Reply) (next : State) → is_idle S ≡ true → unit_step S unit call ≡ Some (reply, next) → is_idle_call call ≡ true
unit_in_idle S unit made.Start reply next idle h = absurd (nothing_of _ reply next (starts_not S unit (unit_mode S unit) refl (idle_unit S unit idle)) h)
unit_in_idle S unit (made.Receive area kind size no_data) reply next idle h =
    let own = idle_unit S unit idle in
    absurd (nothing_of _ reply next (receives_not S unit area kind size no_data (idle_rests S unit (unit_mode S unit) own) (goes_not S unit (unit_mode S unit) area kind size no_data own)) h)
unit_in_idle S unit (made.Count area) reply next idle h = absurd (verb_rests S unit (AreaIn (count S.net.tree S.incoming area), S) reply next (idle_rests S unit (unit_mode S unit) (idle_unit S unit idle)) h)
unit_in_idle S unit (made.Send area part item) reply next idle h = absurd (verb_rests S unit (send_in S unit area part item) reply next (idle_rests S unit (unit_mode S unit) (idle_unit S unit idle)) h)
unit_in_idle S unit (made.SwitchInput on terminal area key) reply next idle h = absurd (verb_rests S unit (switch_input S on terminal area key) reply next (idle_rests S unit (unit_mode S unit) (idle_unit S unit idle)) h)
unit_in_idle S unit (made.SwitchOutput on area key) reply next idle h = absurd (verb_rests S unit (switch_output_in S on area key) reply next (idle_rests S unit (unit_mode S unit) (idle_unit S unit idle)) h)
unit_in_idle S unit (made.Stop reason) reply next idle h = elim (idle_stop S unit reason (idle_rests S unit (unit_mode S unit) (idle_unit S unit idle))) [
  | inl is ↦ is
  | inr none ↦ absurd (nothing_of _ reply next none h)
]
unit_in_idle S unit (made.Arrive stamp message) reply next idle h = absurd (none-some (reply, next) h)
unit_in_idle S unit made.Held reply next idle h = absurd (none-some (reply, next) h)
unit_in_idle S unit (made.Finish reason) reply next idle h = absurd (none-some (reply, next) h)

-- a message of an idle system cannot come in
comes_not : (S : State) (terminal : ℕ) (mode : Option TerminalMode) → terminal_mode S terminal ≡ mode → is_terminal_idle S terminal mode ≡ true
    → (is_path_open S terminal && is_feeding_or_holding (terminal_mode S terminal)) ≡ false
comes_not S terminal None e idle = elim (cases_Bool (is_path_open S terminal)) [
  | inl on ↦ rw (on, ap is_feeding_or_holding e) refl
  | inr off ↦ rw off refl
]
comes_not S terminal (Some Feeding) e idle = absurd (false≢true idle)
comes_not S terminal (Some Holding) e idle = let off : is_path_open S terminal ≡ false = not-true (is_path_open S terminal) idle in rw off refl
comes_not S terminal (Some Ended) e idle = elim (cases_Bool (is_path_open S terminal)) [
  | inl on ↦ rw (on, ap is_feeding_or_holding e) refl
  | inr off ↦ rw off refl
]

idle_finish : (S : State) (terminal : ℕ) (name : List ℕ) (reason : EndReason) → is_feeding (terminal_mode S terminal) ≡ false
    → (is_idle_call (made.Finish reason) ≡ true) ⊎ (terminal_step S terminal name (made.Finish reason) ≡ None)
idle_finish S terminal name finish.Idle off = inl refl
idle_finish S terminal name finish.End off = inr (rw off refl)
idle_finish S terminal name (finish.Frame fault) off = inr (rw off refl)
idle_finish S terminal name finish.Fault off = inr (rw off refl)
idle_finish S terminal name finish.Long off = inr (rw off refl)

-- HELD needs a terminal that feeds
holds_not : (S : State) (terminal : ℕ) (name : List ℕ) → is_feeding (terminal_mode S terminal) ≡ false → terminal_step S terminal name made.Held ≡ None
holds_not S terminal name off = elim (cases_Bool (is_some (feed_of S.net terminal))) [
  | inl fed ↦ rw (fed, off) refl
  | inr unfed ↦ rw unfed refl
]

terminal_in_idle : (S : State) (terminal : ℕ) (name : List ℕ) (call : Call) (reply : Reply) (next : State) → is_idle S ≡ true → terminal_step S terminal name call ≡ Some (reply, next) → is_idle_call call ≡ true
terminal_in_idle S terminal name (made.Arrive stamp message) reply next idle h = elim (option_cases (feed_of S.net terminal)) [
  | inl none ↦ absurd (none-some (reply, next) (rw (none, terminal_step) at h))
  | inr some ↦
      let here = rw (some.1, terminal_step) at h in
      let off = comes_not S terminal (terminal_mode S terminal) refl (idle_terminal S terminal idle) in
      absurd (none-some (reply, next) (rw off at here))
]
terminal_in_idle S terminal name made.Held reply next idle h =
    absurd (nothing_of _ reply next (holds_not S terminal name (idle_feeds_not S terminal (terminal_mode S terminal) (idle_terminal S terminal idle))) h)
terminal_in_idle S terminal name (made.Finish reason) reply next idle h = elim (idle_finish S terminal name reason (idle_feeds_not S terminal (terminal_mode S terminal) (idle_terminal S terminal idle))) [
  | inl is ↦ is
  | inr none ↦ absurd (nothing_of _ reply next none h)
]
terminal_in_idle S terminal name made.Start reply next idle h = absurd (none-some (reply, next) h)
terminal_in_idle S terminal name (made.Receive area kind size no_data) reply next idle h = absurd (none-some (reply, next) h)
terminal_in_idle S terminal name (made.Count area) reply next idle h = absurd (none-some (reply, next) h)
terminal_in_idle S terminal name (made.Send area part item) reply next idle h = absurd (none-some (reply, next) h)
terminal_in_idle S terminal name (made.SwitchInput on is_terminal area key) reply next idle h = absurd (none-some (reply, next) h)
terminal_in_idle S terminal name (made.SwitchOutput on area key) reply next idle h = absurd (none-some (reply, next) h)
terminal_in_idle S terminal name (made.Stop reason) reply next idle h = absurd (none-some (reply, next) h)

-- the only calls of an idle system
pub only_idle_calls : (S next : State) (who : Party) (call : Call) (reply : Reply) → is_idle S ≡ true → step S who call ≡ Some (reply, next) → is_idle_call call ≡ true
only_idle_calls S next (party.Unit name) call reply idle h = let its = step_of_unit S name call reply next h in unit_in_idle S its.0 call reply next idle its.2
only_idle_calls S next (party.Terminal name) call reply idle h = let its = step_of_terminal S name call reply next h in terminal_in_idle S its.0 name call reply next idle its.2

-- a unit that has stopped
stopped_stop : (S : State) (unit : ℕ) (reason : StopReason) → unit_mode S unit ≡ Some Stopped → unit_step S unit (made.Stop reason) ≡ None
stopped_stop S unit stop.Run e = let off : is_running (unit_mode S unit) ≡ false = ap is_running e in rw off refl
stopped_stop S unit stop.Limit e = let off : is_running (unit_mode S unit) ≡ false = ap is_running e in rw off refl
stopped_stop S unit stop.DataFault e = let off : is_running (unit_mode S unit) ≡ false = ap is_running e in rw off refl
stopped_stop S unit stop.Idle e = elim (cases_Bool (is_idle S)) [
  | inl idle ↦ let off : waits_or_sleeps (unit_mode S unit) ≡ false = ap waits_or_sleeps e in rw (idle, off) refl
  | inr busy ↦ rw busy refl
]

stopped_calls : (S : State) (unit : ℕ) (call : Call) → unit_mode S unit ≡ Some Stopped → unit_step S unit call ≡ None
stopped_calls S unit made.Start e = let off : is_dormant (unit_mode S unit) ≡ false = ap is_dormant e in rw off refl
stopped_calls S unit (made.Receive area kind size no_data) e =
    let off : is_running (unit_mode S unit) ≡ false = ap is_running e in
    let waits : is_waiting_for (unit_mode S unit) area kind size no_data ≡ false = ap (λ m. is_waiting_for m area kind size no_data) e in
    receives_not S unit area kind size no_data off (ap (λ w. w && is_ready S unit area) waits)
stopped_calls S unit (made.Count area) e = does_not S unit (AreaIn (count S.net.tree S.incoming area), S) (ap is_running e)
stopped_calls S unit (made.Send area part item) e = does_not S unit (send_in S unit area part item) (ap is_running e)
stopped_calls S unit (made.SwitchInput on terminal area key) e = does_not S unit (switch_input S on terminal area key) (ap is_running e)
stopped_calls S unit (made.SwitchOutput on area key) e = does_not S unit (switch_output_in S on area key) (ap is_running e)
stopped_calls S unit (made.Stop reason) e = stopped_stop S unit reason e
stopped_calls S unit (made.Arrive stamp message) e = refl
stopped_calls S unit made.Held e = refl
stopped_calls S unit (made.Finish reason) e = refl

pub no_call_when_stopped : (S : State) (name : List ℕ) (unit : ℕ) (call : Call) → unit_number S.net name ≡ Some unit → unit_mode S unit ≡ Some Stopped → step S (party.Unit name) call ≡ None
no_call_when_stopped S name unit call found e = unit_steps S name unit call found ∙ stopped_calls S unit call e

-- a terminal that has ended
ended_finish : (S : State) (terminal : ℕ) (name : List ℕ) (reason : EndReason) → terminal_mode S terminal ≡ Some Ended → terminal_step S terminal name (made.Finish reason) ≡ None
ended_finish S terminal name finish.End e = let off : is_feeding (terminal_mode S terminal) ≡ false = ap is_feeding e in rw off refl
ended_finish S terminal name (finish.Frame fault) e = let off : is_feeding (terminal_mode S terminal) ≡ false = ap is_feeding e in rw off refl
ended_finish S terminal name finish.Fault e = let off : is_feeding (terminal_mode S terminal) ≡ false = ap is_feeding e in rw off refl
ended_finish S terminal name finish.Long e = let off : is_feeding (terminal_mode S terminal) ≡ false = ap is_feeding e in rw off refl
ended_finish S terminal name finish.Idle e = elim (cases_Bool (is_idle S)) [
  | inl idle ↦ let off : is_holding (terminal_mode S terminal) ≡ false = ap is_holding e in rw (idle, off) refl
  | inr busy ↦ rw busy refl
]

ended_arrive : (S : State) (terminal : ℕ) → terminal_mode S terminal ≡ Some Ended → (is_path_open S terminal && is_feeding_or_holding (terminal_mode S terminal)) ≡ false
ended_arrive S terminal e = elim (cases_Bool (is_path_open S terminal)) [
  | inl on ↦ rw (on, ap is_feeding_or_holding e) refl
  | inr off ↦ rw off refl
]

pub ended_calls : (S : State) (terminal : ℕ) (name : List ℕ) (call : Call) → terminal_mode S terminal ≡ Some Ended → terminal_step S terminal name call ≡ None
ended_calls S terminal name (made.Arrive stamp message) e = elim (option_cases (feed_of S.net terminal)) [
  | inl none ↦ rw (none, terminal_step) refl
  | inr some ↦ rw (some.1, ended_arrive S terminal e, terminal_step) refl
]
ended_calls S terminal name made.Held e = holds_not S terminal name (ap is_feeding e)
ended_calls S terminal name (made.Finish reason) e = ended_finish S terminal name reason e
ended_calls S terminal name made.Start e = refl
ended_calls S terminal name (made.Receive area kind size no_data) e = refl
ended_calls S terminal name (made.Count area) e = refl
ended_calls S terminal name (made.Send area part item) e = refl
ended_calls S terminal name (made.SwitchInput on is_terminal area key) e = refl
ended_calls S terminal name (made.SwitchOutput on area key) e = refl
ended_calls S terminal name (made.Stop reason) e = refl

pub no_call_when_ended : (S : State) (name : List ℕ) (terminal : ℕ) (call : Call) → terminal_number S.net name ≡ Some terminal → terminal_mode S terminal ≡ Some Ended → step S (party.Terminal name) call ≡ None
no_call_when_ended S name terminal call found e = terminal_steps S name terminal call found ∙ ended_calls S terminal name call e
