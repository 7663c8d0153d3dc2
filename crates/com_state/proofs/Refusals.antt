-- What a refused call writes.
use Rattle.std.proofs.Common.{◌≡◌, ℕ, ◌+◌, ◌-◌, ◌*◌, ◌≤◌, Bool, true, false, ◌&&◌, Some, None, Option, List, [], ◌∷◌, ◌++◌, length, take, drop, refl, sym, ap, ◌∙◌, arith, inl, inr, subst, length-append, append_assoc}
use Rattle.std.specs.Prelude.{◌||◌, is_none, min, IsTrue, if◌then◌else◌, codes, option_map, slice_get, slice_range}
use Rattle.std.specs.List.{fold, list_any, enumerate_from}
use Rattle.std.specs.Str.{bytes_eq}
use Rattle.std.proofs.lemmas.Bool.{cases_Bool, false≢true}
use Rattle.std.proofs.lemmas.Option.{none-some, same_Some}
use Rattle.std.proofs.lemmas.List.{take_at, drop_at, length-take, length-take-le}
use Rattle.com_text.specs.Digits.{in_digits}
use Rattle.com_msg.specs.declared.rest.Kind.{Kind}
use Rattle.com_msg.specs.declared.sending.Part.{Part}
use Rattle.com_cd.specs.InputArea.{set_in, in_field}
use Rattle.com_cd.specs.OutputArea.{out_field}
use Rattle.com_cd.specs.Status.{status_bytes}
use Rattle.com_cd.specs.declared.status.Status.{Status}
use Rattle.com_cd.specs.declared.status.Status.TheVariants.{S00, S10, S20, S30, S40, S50, S60}
use Rattle.com_cd.specs.declared.input_area.InField.TheVariants as field
use Rattle.com_cd.specs.declared.output_area.OutField.TheVariants as out
use Rattle.com_tree.specs.declared.tree.Node.{Node}
use Rattle.com_tree.specs.Places.{top_of}
use Rattle.com_events.specs.declared.call.Party.{Party}
use Rattle.com_events.specs.declared.call.Party.TheVariants as party
use Rattle.com_events.specs.declared.call.Call.{Call}
use Rattle.com_events.specs.declared.call.Call.TheVariants as made
use Rattle.com_events.specs.declared.reply.Reply.{Reply}
use Rattle.com_events.specs.declared.reply.Reply.TheVariants.{Refused, AreaIn, AreaOut}
use Rattle.com_events.specs.Calls.{IsWellFormed}
use Rattle.com_state.specs.Laws.{is_refusal, Tells, with_status_alone, ChangesStatusAlone}
use Rattle.com_state.proofs.Frames.{option_cases, next_if-Some}
use Rattle.com_state.specs.State.{State, destinations_of, unit_mode}
use Rattle.com_state.specs.Answers.{is_ready, answered}
use Rattle.com_state.specs.Switches.{is_key, switch_leaves, switch_terminal, switch_input}
use Rattle.com_state.specs.Steps.{is_running, with_verb, may_do_verb, with_reply, receive_running, is_waiting_for, step_receive, verb, unit_step, terminal_step, step}
use Rattle.com_recv.specs.Incoming.{designated, waiting_under}
use Rattle.com_recv.specs.Receiving.{Next, count}
use Rattle.com_cd.specs.Status.{with_input_status, with_output_status}
use Rattle.com_cd.proofs.StatusKeys.{input_status, output_status}
use Rattle.com_state.proofs.Verbs.{receive_in, receive_next_in, next_in, send_in, switch_output_in}
use Rattle.com_send.specs.Outgoing.{Outgoing}
use Rattle.com_send.specs.Found.{Found, destination_with, find_destinations, is_unknown, error_key, keyed, with_error_keys}
use Rattle.com_send.specs.Sending.{is_nothing, sent_text, send_found, send_status, has_disabled}
use Rattle.com_send.specs.Switching.{is_key_of_each, switch_found, switch_status}
use Rattle.com_state.proofs.StepCases.{step_of_unit, step_of_terminal}
use Rattle.com_recv.specs.declared.areas.TheConstants.{MAX_COUNT}

-- what a verb is answered and leaves, where that is a refusal, before it is counted
abbrev Alone : State → Call → Status → Reply × State → Type 0
Alone S call status done = IsTrue (is_refusal call status) → Tells done.0 status → (with_status_alone call status ≡ Some done.0) × (done.1 ≡ S)

-- the call's own area with a refusal's key
refused_in : (S : State) (call : Call) (area : List ℕ) (own status : Status) → ((s : Status) → with_status_alone call s ≡ Some (AreaIn (with_input_status s area))) → 79 ≤ length area
    → Alone S call status (AreaIn (with_input_status own area), S)
refused_in S call area own status alone within refusal tells =
    let same = input_status area own status within tells in
    (alone status ∙ ap (λ s. Some (AreaIn (with_input_status s area))) (sym same), refl)

refused_out : (S : State) (call : Call) (area : List ℕ) (own status : Status) → ((s : Status) → with_status_alone call s ≡ Some (AreaOut (with_output_status s area))) → 8 ≤ length area
    → Alone S call status (AreaOut (with_output_status own area), S)
refused_out S call area own status alone within refusal tells =
    let same = output_status area own status within tells in
    (alone status ∙ ap (λ s. Some (AreaOut (with_output_status s area))) (sym same), refl)

-- a key that is none of the call's refusals tells no refusal
other_key : (call : Call) (own status : Status) → is_refusal call own ≡ false → IsTrue (is_refusal call status) → own ≡ status → ⊥
other_key call own status other refusal same =
    let own_refusal : IsTrue (is_refusal call own) = rw same refusal in
    false≢true (rw other at own_refusal)

done_in : (S next : State) (call : Call) (area : List ℕ) (own status : Status) → is_refusal call own ≡ false → 79 ≤ length area → Alone S call status (AreaIn (with_input_status own area), next)
done_in S next call area own status other within refusal tells = absurd (other_key call own status other refusal (input_status area own status within tells))

done_out : (S next : State) (call : Call) (area : List ℕ) (own status : Status) → is_refusal call own ≡ false → 8 ≤ length area → Alone S call status (AreaOut (with_output_status own area), next)
done_out S next call area own status other within refusal tells = absurd (other_key call own status other refusal (output_status area own status within tells))

-- error keys leave the beginning of an area
long_key : (area : List ℕ) (at : ℕ) (destination : Option ℕ) → 8 ≤ length area → 8 ≤ length (keyed area (at, destination))
long_key area at destination h =
    let front = take (10 + 13 * at) area in
    let key = error_key destination in
    let behind = drop (10 + 13 * at + 1) area in
    omega (arith, h, length-append (front ++ key) behind, length-append front key, length-take (10 + 13 * at) area)

long_keys : (found : List (ℕ × Option ℕ)) (area : List ℕ) → 8 ≤ length area → 8 ≤ length (fold keyed area found)
long_keys [] area h = h
long_keys ((at, destination) ∷ found) area h = long_keys found (keyed area (at, destination)) (long_key area at destination h)

-- COUNT
alone_count : (S : State) (area : List ℕ) (status : Status) → length area ≡ 87 → Alone S (made.Count area) status (AreaIn (count S.net.tree S.incoming area), S)
alone_count S area status whole = elim (option_cases (designated S.net.tree area)) [
  | inl none ↦ rw (none, count) (refused_in S (made.Count area) area S20 status (λ s. refl) (omega (arith, whole)))
  | inr some ↦
      let digits = in_digits (min (waiting_under S.net.tree S.incoming.waiting some.0) MAX_COUNT) 6 in
      let long : 79 ≤ length (set_in field.Count area digits) =
      omega (arith, whole, length-append (take 81 area ++ digits) (drop 87 area), length-append (take 81 area) digits, length-take-le 81 area (omega (arith, whole))) in
      rw (some.1, count) (done_in S S (made.Count area) (set_in field.Count area digits) S00 status refl long)
]

-- ENABLE and DISABLE of input
alone_leaves : (S : State) (on : Bool) (area key : List ℕ) (node : Node) (status : Status) → length area ≡ 87
    → Alone S (made.SwitchInput on false area key) status (switch_leaves S on area key node)
alone_leaves S on area key node status whole = elim (cases_Bool (is_key key (slice_get S.net.queue_passwords (top_of S.net.tree node)))) [
  | inl right ↦ rw (right, switch_leaves) (done_in S _ (made.SwitchInput on false area key) area S00 status refl (omega (arith, whole)))
  | inr wrong ↦ rw (wrong, switch_leaves) (refused_in S (made.SwitchInput on false area key) area S40 status (λ s. refl) (omega (arith, whole)))
]

alone_terminal : (S : State) (on : Bool) (area key : List ℕ) (terminal : ℕ) (status : Status) → length area ≡ 87
    → Alone S (made.SwitchInput on true area key) status (switch_terminal S on area key terminal)
alone_terminal S on area key terminal status whole = elim (cases_Bool (is_key key (option_map (λ t. t.password) (slice_get S.net.terminals terminal)))) [
  | inl right ↦ rw (right, switch_terminal) (done_in S _ (made.SwitchInput on true area key) area S00 status refl (omega (arith, whole)))
  | inr wrong ↦ rw (wrong, switch_terminal) (refused_in S (made.SwitchInput on true area key) area S40 status (λ s. refl) (omega (arith, whole)))
]

alone_switch_input : (S : State) (on terminal : Bool) (area key : List ℕ) (status : Status) → length area ≡ 87
    → Alone S (made.SwitchInput on terminal area key) status (switch_input S on terminal area key)
alone_switch_input S on false area key status whole = elim (option_cases (designated S.net.tree area)) [
  | inl none ↦ rw (none, switch_input) (refused_in S (made.SwitchInput on false area key) area S20 status (λ s. refl) (omega (arith, whole)))
  | inr some ↦ rw (some.1, switch_input) (alone_leaves S on area key some.0 status whole)
]
alone_switch_input S on true area key status whole = elim (option_cases (destination_with (destinations_of S.net) (in_field field.Source area))) [
  | inl none ↦ rw (none, switch_input) (refused_in S (made.SwitchInput on true area key) area S20 status (λ s. refl) (omega (arith, whole)))
  | inr some ↦ rw (some.1, switch_input) (alone_terminal S on area key some.0 status whole)
]

-- ENABLE and DISABLE of output
no_switch_refusal : (on : Bool) (area key : List ℕ) (found : Found) → is_refusal (made.SwitchOutput on area key) (switch_status found) ≡ false
no_switch_refusal on area key found = elim (cases_Bool (list_any is_unknown found)) [
  | inl some ↦ rw (some, switch_status) refl
  | inr none ↦ rw (none, switch_status) refl
]

alone_found : (S : State) (on : Bool) (area key : List ℕ) (found : Option Found) (status : Status) → 8 ≤ length area
    → Alone S (made.SwitchOutput on area key) status (answered S (switch_found (destinations_of S.net) S.outgoing on area key found))
alone_found S on area key None status within = refused_out S (made.SwitchOutput on area key) area S30 status (λ s. refl) within
alone_found S on area key (Some found) status within = elim (cases_Bool (is_key_of_each found key (destinations_of S.net))) [
  | inl right ↦ rw (right, switch_found) (done_out S _ (made.SwitchOutput on area key) (with_error_keys found area) (switch_status found) status (no_switch_refusal on area key found)
      (long_keys (enumerate_from 0 found) area within))
  | inr wrong ↦ rw (wrong, switch_found) (refused_out S (made.SwitchOutput on area key) area S40 status (λ s. refl) within)
]

alone_switch_output : (S : State) (on : Bool) (area key : List ℕ) (status : Status) → 8 ≤ length area → Alone S (made.SwitchOutput on area key) status (switch_output_in S on area key)
alone_switch_output S on area key status within = alone_found S on area key (find_destinations (destinations_of S.net) area) status within

-- SEND
no_send_refusal : (outgoing : Outgoing) (area : List ℕ) (part : Part) (item : Option (List ℕ)) (found : Found) → is_refusal (made.Send area part item) (send_status found outgoing) ≡ false
no_send_refusal outgoing area part item found = elim (cases_Bool (list_any is_unknown found)) [
  | inl some ↦ rw (some, send_status) refl
  | inr none ↦ elim (cases_Bool (has_disabled found outgoing)) [
    | inl off ↦ rw (none, off, send_status) refl
    | inr on ↦ rw (none, on, send_status) refl
  ]
]

alone_sent : (S : State) (unit : ℕ) (area : List ℕ) (part : Part) (item : Option (List ℕ)) (found : Option Found) (text : Option (List ℕ)) (status : Status) → 8 ≤ length area
    → Alone S (made.Send area part item) status (answered S (send_found S.outgoing unit area part found text))
alone_sent S unit area part item None text status within = refused_out S (made.Send area part item) area S30 status (λ s. refl) within
alone_sent S unit area part item (Some found) None status within = refused_out S (made.Send area part item) area S50 status (λ s. refl) within
alone_sent S unit area part item (Some found) (Some text) status within = elim (cases_Bool (is_nothing part text)) [
  | inl nothing ↦ rw (nothing, send_found) (refused_out S (made.Send area part item) area S60 status (λ s. refl) within)
  | inr something ↦
      rw (something, send_found) (done_out S _ (made.Send area part item) (with_error_keys found area) (send_status found S.outgoing) status (no_send_refusal S.outgoing area part item found)
      (long_keys (enumerate_from 0 found) area within))
]

alone_send : (S : State) (unit : ℕ) (area : List ℕ) (part : Part) (item : Option (List ℕ)) (status : Status) → 8 ≤ length area → Alone S (made.Send area part item) status (send_in S unit area part item)
alone_send S unit area part item status within = alone_sent S unit area part item (find_destinations (destinations_of S.net) area) (sent_text area item) status within

-- RECEIVE
alone_next : (S : State) (unit : ℕ) (area : List ℕ) (kind : Kind) (size : ℕ) (no_data : Bool) (found : Option Next) (status : Status)
    → Alone S (made.Receive area kind size no_data) status (receive_next_in S unit area kind size found)
alone_next S unit area kind size no_data None status refusal tells = absurd tells
alone_next S unit area kind size no_data (Some next) status refusal tells = absurd tells

alone_receive : (S : State) (unit : ℕ) (area : List ℕ) (kind : Kind) (size : ℕ) (no_data : Bool) (status : Status) → 79 ≤ length area
    → Alone S (made.Receive area kind size no_data) status (receive_in S unit area kind size)
alone_receive S unit area kind size no_data status within = elim (option_cases (designated S.net.tree area)) [
  | inl none ↦ rw (none, receive_in) (λ refusal tells.
      let same = input_status area S20 status within tells in
      (ap (λ s. Some (Refused (with_input_status s area))) (sym same), refl))
  | inr some ↦ rw (some.1, receive_in) (alone_next S unit area kind size no_data (next_in S unit some.0) status)
]

-- a verb more changes what is known of the units alone
only_units : (unit : ℕ) (S : State) → with_verb unit S ≡ record S { units = (with_verb unit S).units }
only_units unit S = elim (option_cases (slice_get S.units unit)) [
  | inl none ↦ rw (none, with_verb) refl
  | inr some ↦ rw (some.1, with_verb) refl
]

after_verb : (S : State) (unit : ℕ) (call : Call) (status : Status) (done : Reply × State) (reply : Reply) (next : State) → IsTrue (is_refusal call status)
    → with_reply unit done ≡ (reply, next) → Tells reply status → Alone S call status done → ChangesStatusAlone S call status reply next
after_verb S unit call status done reply next refusal e tells alone =
    let told : Tells done.0 status = subst (λ (p : Reply × State). Tells p.0 status) (sym e) tells in
    let held = alone refusal told in
    let here : ChangesStatusAlone S call status done.0 (with_verb unit done.1) =
    record { area = held.0; state = rw held.1 (only_units unit S) } in
    subst (λ (p : Reply × State). ChangesStatusAlone S call status p.0 p.1) e here

by_verb : (S : State) (unit : ℕ) (call : Call) (status : Status) (done : Reply × State) (reply : Reply) (next : State) → IsTrue (is_refusal call status)
    → verb S unit done ≡ Some (reply, next) → Tells reply status → Alone S call status done → ChangesStatusAlone S call status reply next
by_verb S unit call status done reply next refusal h tells alone =
    after_verb S unit call status done reply next refusal (next_if-Some (is_running (unit_mode S unit) && may_do_verb S unit) (with_reply unit done) (reply, next) h) tells alone

by_running : (S : State) (unit : ℕ) (area : List ℕ) (kind : Kind) (size : ℕ) (no_data : Bool) (status : Status) (reply : Reply) (next : State) → 79 ≤ length area
    → IsTrue (is_refusal (made.Receive area kind size no_data) status) → receive_running S unit area kind size no_data ≡ (reply, next) → Tells reply status
    → ChangesStatusAlone S (made.Receive area kind size no_data) status reply next
by_running S unit area kind size no_data status reply next within refusal h tells = elim (cases_Bool ((no_data || is_none (designated S.net.tree area)) || is_ready S unit area)) [
  | inl now ↦ after_verb S unit (made.Receive area kind size no_data) status (receive_in S unit area kind size) reply next refusal (rw (now, receive_running) at h) tells (alone_receive S unit area kind size no_data status within)
  | inr later ↦
      let waits = rw (later, receive_running) at h in
      absurd (subst (λ (p : Reply × State). Tells p.0 status) (sym waits) tells)
]

by_receive : (S : State) (unit : ℕ) (area : List ℕ) (kind : Kind) (size : ℕ) (no_data : Bool) (status : Status) (reply : Reply) (next : State) → 79 ≤ length area
    → IsTrue (is_refusal (made.Receive area kind size no_data) status) → step_receive S unit area kind size no_data ≡ Some (reply, next) → Tells reply status
    → ChangesStatusAlone S (made.Receive area kind size no_data) status reply next
by_receive S unit area kind size no_data status reply next within refusal h tells = elim (cases_Bool (is_running (unit_mode S unit))) [
  | inl runs ↦ by_running S unit area kind size no_data status reply next within refusal (same_Some _ _ (rw (runs, step_receive) at h)) tells
  | inr waits ↦
      let resumed = rw (waits, step_receive) at h in
      after_verb S unit (made.Receive area kind size no_data) status (receive_in S unit area kind size) reply next refusal
      (next_if-Some (is_waiting_for (unit_mode S unit) area kind size no_data && is_ready S unit area) _ _ resumed) tells (alone_receive S unit area kind size no_data status within)
]

by_unit : (S : State) (unit : ℕ) (call : Call) (status : Status) (reply : Reply) (next : State) → IsWellFormed call → IsTrue (is_refusal call status) → unit_step S unit call ≡ Some (reply, next)
    → Tells reply status → ChangesStatusAlone S call status reply next
by_unit S unit (made.Receive area kind size no_data) status reply next formed refusal h tells = elim (cases_Bool (may_do_verb S unit)) [
  | inl may ↦ by_receive S unit area kind size no_data status reply next (omega (arith, formed.0.length)) refusal (rw (may, unit_step) at h) tells
  | inr done ↦ absurd (none-some (reply, next) (rw (done, unit_step) at h))
]
by_unit S unit (made.Count area) status reply next formed refusal h tells =
    by_verb S unit (made.Count area) status (AreaIn (count S.net.tree S.incoming area), S) reply next refusal h tells (alone_count S area status formed.length)
by_unit S unit (made.Send area part item) status reply next formed refusal h tells =
    by_verb S unit (made.Send area part item) status (send_in S unit area part item) reply next refusal h tells (alone_send S unit area part item status (omega (arith, formed.0.whole)))
by_unit S unit (made.SwitchInput on terminal area key) status reply next formed refusal h tells =
    by_verb S unit (made.SwitchInput on terminal area key) status (switch_input S on terminal area key) reply next refusal h tells (alone_switch_input S on terminal area key status formed.0.length)
by_unit S unit (made.SwitchOutput on area key) status reply next formed refusal h tells =
    by_verb S unit (made.SwitchOutput on area key) status (switch_output_in S on area key) reply next refusal h tells (alone_switch_output S on area key status (omega (arith, formed.0.whole)))
by_unit S unit made.Start status reply next formed refusal h tells = absurd (false≢true refusal)
by_unit S unit (made.Stop reason) status reply next formed refusal h tells = absurd (false≢true refusal)
by_unit S unit (made.Arrive stamp message) status reply next formed refusal h tells = absurd (false≢true refusal)
by_unit S unit made.Held status reply next formed refusal h tells = absurd (false≢true refusal)
by_unit S unit (made.Finish reason) status reply next formed refusal h tells = absurd (false≢true refusal)

-- no terminal is refused
no_terminal : (S : State) (terminal : ℕ) (name : List ℕ) (call : Call) (status : Status) (reply : Reply) (next : State) → IsTrue (is_refusal call status)
    → terminal_step S terminal name call ≡ Some (reply, next) → ⊥
no_terminal S terminal name (made.Receive area kind size no_data) status reply next refusal h = none-some (reply, next) h
no_terminal S terminal name (made.Count area) status reply next refusal h = none-some (reply, next) h
no_terminal S terminal name (made.Send area part item) status reply next refusal h = none-some (reply, next) h
no_terminal S terminal name (made.SwitchInput on is_terminal area key) status reply next refusal h = none-some (reply, next) h
no_terminal S terminal name (made.SwitchOutput on area key) status reply next refusal h = none-some (reply, next) h
no_terminal S terminal name made.Start status reply next refusal h = absurd (false≢true refusal)
no_terminal S terminal name (made.Stop reason) status reply next refusal h = absurd (false≢true refusal)
no_terminal S terminal name (made.Arrive stamp message) status reply next refusal h = absurd (false≢true refusal)
no_terminal S terminal name made.Held status reply next refusal h = absurd (false≢true refusal)
no_terminal S terminal name (made.Finish reason) status reply next refusal h = absurd (false≢true refusal)

-- a refused call changes the status key alone
pub status_alone : (S next : State) (who : Party) (call : Call) (reply : Reply) (status : Status) → IsWellFormed call → IsTrue (is_refusal call status)
    → step S who call ≡ Some (reply, next) → Tells reply status → ChangesStatusAlone S call status reply next
status_alone S next (party.Unit name) call reply status formed refusal h tells =
    let its = step_of_unit S name call reply next h in
    by_unit S its.0 call status reply next formed refusal its.2 tells
status_alone S next (party.Terminal name) call reply status formed refusal h tells =
    let its = step_of_terminal S name call reply next h in
    absurd (no_terminal S its.0 name call status reply next refusal its.2)
