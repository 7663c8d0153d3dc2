-- Every step keeps a flag for each leaf and terminal, and a place for each destination and unit.
use Rattle.std.proofs.Common.{◌≡◌, ℕ, ◌+◌, ◌-◌, ◌≤◌, Bool, true, false, ◌&&◌, List, [], ◌∷◌, ◌++◌, Some, None, Option, length, take, drop, refl, sym, ap, subst, ◌∙◌, inl, inr, arith, length-append}
use Rattle.std.specs.Prelude.{◌||◌, IfSome, is_none, slice_get, option_map, replicate}
use Rattle.std.proofs.lemmas.Bool.{cases_Bool}
use Rattle.std.proofs.lemmas.Option.{none-some, same_Some}
use Rattle.std.proofs.lemmas.List.{length-take-le, length-drop, length-replicate}
use Rattle.std.proofs.Math.ListN.{length-set}
use Rattle.com_msg.specs.Stamp.{Moment}
use Rattle.com_msg.specs.declared.message.RawMessage.{RawMessage}
use Rattle.com_msg.specs.declared.rest.Kind.{Kind}
use Rattle.com_msg.specs.declared.sending.Part.{Part}
use Rattle.com_msg.specs.declared.sending.Part.TheVariants as part
use Rattle.com_msg.specs.Rendering.{IsAdvance}
use Rattle.com_cd.specs.Designation.{path_fields}
use Rattle.com_cd.specs.InputArea.{in_field}
use Rattle.com_cd.specs.declared.input_area.InField.TheVariants as field
use Rattle.com_tree.specs.declared.tree.Node.{Node}
use Rattle.com_tree.specs.Written.{leaf_count}
use Rattle.com_tree.specs.Places.{first_leaf, past_leaf, top_of}
use Rattle.com_tree.proofs.Branches.{leaves_of_branch}
use Rattle.com_net.specs.declared.net.Net.{Net}
use Rattle.com_net.specs.declared.net.Feed.{Feed}
use Rattle.com_net.specs.Network.{IsNet}
use Rattle.com_events.specs.Calls.{IsPart, IsWellFormed}
use Rattle.com_events.specs.declared.call.Call.{Call}
use Rattle.com_events.specs.declared.call.Call.TheVariants as made
use Rattle.com_events.specs.declared.reply.Reply.{Reply}
use Rattle.com_events.specs.declared.reply.Reply.TheVariants.{Started, AreaIn, Waits, Done}
use Rattle.com_recv.specs.Areas.{path_of_leaf}
use Rattle.com_recv.specs.Incoming.{designated, chosen_leaf, without_unit}
use Rattle.com_recv.specs.Receiving.{count}
use Rattle.com_send.specs.declared.destination.Destination.{Destination}
use Rattle.com_send.specs.Outgoing.{Outgoing, AreFor, drop_unit}
use Rattle.com_send.specs.Found.{Found, destination_with, find_destinations}
use Rattle.com_send.specs.Sending.{sent_text, send_found, is_nothing, advance_of}
use Rattle.com_send.specs.Switching.{is_key_of_each, switch_found}
use Rattle.com_send.proofs.Keeping.{are_for_served, are_for_switched, are_for_dropped}
use Rattle.com_state.specs.declared.parties.UnitMode.{UnitMode}
use Rattle.com_state.specs.declared.parties.UnitMode.TheVariants.{Running, WaitingFor, Stopped}
use Rattle.com_state.specs.declared.parties.TerminalMode.{TerminalMode}
use Rattle.com_state.specs.declared.parties.TerminalMode.TheVariants.{Holding, Ended}
use Rattle.com_state.specs.State.{State, destinations_of, unit_mode}
use Rattle.com_state.specs.Answers.{is_ready}
use Rattle.com_state.specs.Switches.{is_key, set_between, switch_leaves, switch_terminal, switch_input}
use Rattle.com_state.specs.Steps.{unit_step, terminal_step, with_reply, with_verb, with_arrival, with_unit_mode, with_terminal_mode, verb, start, schedule_of, receive_running, step_receive, is_waiting_for, is_running, is_dormant, may_do_verb, may_stop, stop_unit, arrived_message, arrive, feed_of}
use Rattle.com_state.proofs.Frames.{option_cases, next_if-Some}
use Rattle.com_state.proofs.Verbs.{receive_in, send_in, switch_output_in}

-- as many flags, and places for as many destinations and units
pub record SameSizes (S next : State) : Type 0 where
  pub leaves : length next.leaf_on ≡ length S.leaf_on
  pub inputs : length next.input_on ≡ length S.input_on
  pub outputs : (destinations : List Destination) (units : ℕ) → AreFor destinations units S.outgoing → AreFor destinations units next.outgoing

same_sizes : (S next : State) → next.leaf_on ≡ S.leaf_on → next.input_on ≡ S.input_on → next.outgoing ≡ S.outgoing → SameSizes S next
same_sizes S next leaves inputs outgoing = record {
  leaves = ap length leaves;
  inputs = ap length inputs;
  outputs = λ destinations units are. subst (AreFor destinations units) (sym outgoing) are;
}

sizes_chain : (S mid next : State) → SameSizes S mid → SameSizes mid next → SameSizes S next
sizes_chain S mid next first second = record {
  leaves = second.leaves ∙ first.leaves;
  inputs = second.inputs ∙ first.inputs;
  outputs = λ destinations units are. second.outputs destinations units (first.outputs destinations units are);
}

sizes_unit_mode : (unit : ℕ) (mode : UnitMode) (S : State) → SameSizes S (with_unit_mode unit mode S)
sizes_unit_mode unit mode S = elim (option_cases (slice_get S.units unit)) [
  | inl none ↦ rw (none, with_unit_mode) (same_sizes S S refl refl refl)
  | inr some ↦ rw (some.1, with_unit_mode) record { leaves = refl; inputs = refl; outputs = λ destinations units are. are }
]

sizes_verb : (unit : ℕ) (S : State) → SameSizes S (with_verb unit S)
sizes_verb unit S = elim (option_cases (slice_get S.units unit)) [
  | inl none ↦ rw (none, with_verb) (same_sizes S S refl refl refl)
  | inr some ↦ rw (some.1, with_verb) record { leaves = refl; inputs = refl; outputs = λ destinations units are. are }
]

sizes_terminal_mode : (terminal : ℕ) (mode : TerminalMode) (S : State) → SameSizes S (with_terminal_mode terminal mode S)
sizes_terminal_mode terminal mode S = elim (option_cases (slice_get S.terminals terminal)) [
  | inl none ↦ rw (none, with_terminal_mode) (same_sizes S S refl refl refl)
  | inr some ↦ rw (some.1, with_terminal_mode) record { leaves = refl; inputs = refl; outputs = λ destinations units are. are }
]

sizes_arrival : (terminal : ℕ) (S : State) → SameSizes S (with_arrival terminal S)
sizes_arrival terminal S = elim (option_cases (slice_get S.terminals terminal)) [
  | inl none ↦ rw (none, with_arrival) (same_sizes S S refl refl refl)
  | inr some ↦ rw (some.1, with_arrival) record { leaves = refl; inputs = refl; outputs = λ destinations units are. are }
]

by_done : (S : State) (done : Reply × State) (reply : Reply) (next : State) → done ≡ (reply, next) → SameSizes S done.1 → SameSizes S next
by_done S done reply next e h = subst (λ (p : Reply × State). SameSizes S p.1) e h

after_verb : (S : State) (unit : ℕ) (done : Reply × State) → SameSizes S done.1 → SameSizes S (with_reply unit done).1
after_verb S unit done first = sizes_chain S done.1 (with_verb unit done.1) first (sizes_verb unit done.1)

-- the flags under a node
length-set_between : (first past : ℕ) (on : Bool) (flags : List Bool) → first ≤ past → past ≤ length flags → length (set_between first past on flags) ≡ length flags
length-set_between first past on flags order within =
    let middle = replicate (past - first) on in
    let behind = drop past flags in
    omega (arith, order, within, length-append (take first flags) (middle ++ behind), length-append middle behind, length-take-le first flags (omega (arith, order, within)), length-replicate (past - first) on, length-drop past flags)

sizes_leaves : (net : Net) (S : State) (on : Bool) (area key : List ℕ) (node : Node) → IsNet net → S.net ≡ net → length S.leaf_on ≡ length S.net.leaf_on → SameSizes S (switch_leaves S on area key node).1
sizes_leaves net S on area key node is same leaves = elim (cases_Bool (is_key key (slice_get S.net.queue_passwords (top_of S.net.tree node)))) [
  | inl right ↦
      let first = first_leaf S.net.tree node in
      let past = past_leaf S.net.tree node in
      let flags : length S.net.leaf_on ≡ leaf_count S.net.tree = rw same is.flags in
      let all = leaves_of_branch S.net.tree node.row in
      rw (right, switch_leaves) record {
        leaves = length-set_between first past on S.leaf_on (omega arith) (omega (arith, leaves, flags, all));
        inputs = refl;
        outputs = λ destinations units are. are;
      }
  | inr wrong ↦ rw (wrong, switch_leaves) (same_sizes S S refl refl refl)
]

sizes_terminal : (S : State) (on : Bool) (area key : List ℕ) (terminal : ℕ) → SameSizes S (switch_terminal S on area key terminal).1
sizes_terminal S on area key terminal = elim (cases_Bool (is_key key (option_map (λ t. t.password) (slice_get S.net.terminals terminal)))) [
  | inl right ↦ rw (right, switch_terminal) record { leaves = refl; inputs = length-set S.input_on terminal on; outputs = λ destinations units are. are }
  | inr wrong ↦ rw (wrong, switch_terminal) (same_sizes S S refl refl refl)
]

sizes_switch_input : (net : Net) (S : State) (on terminal : Bool) (area key : List ℕ) → IsNet net → S.net ≡ net → length S.leaf_on ≡ length S.net.leaf_on → SameSizes S (switch_input S on terminal area key).1
sizes_switch_input net S on false area key is same leaves = elim (option_cases (designated S.net.tree area)) [
  | inl none ↦ rw (none, switch_input) (same_sizes S S refl refl refl)
  | inr some ↦ rw (some.1, switch_input) (sizes_leaves net S on area key some.0 is same leaves)
]
sizes_switch_input net S on true area key is same leaves = elim (option_cases (destination_with (destinations_of S.net) (in_field field.Source area))) [
  | inl none ↦ rw (none, switch_input) (same_sizes S S refl refl refl)
  | inr some ↦ rw (some.1, switch_input) (sizes_terminal S on area key some.0)
]

-- how far a terminal is to advance, where it is
advances : (p : Part) → IsPart p → IfSome (advance_of p) IsAdvance
advances part.Portion may = may
advances (part.Esi advance) may = may
advances (part.Emi advance) may = may
advances (part.Egi advance) may = may

-- SEND
are_sent : (destinations : List Destination) (units : ℕ) (outgoing : Outgoing) (unit : ℕ) (area : List ℕ) (p : Part) (found : Option Found) (text : Option (List ℕ)) → IsPart p → AreFor destinations units outgoing
    → AreFor destinations units (send_found outgoing unit area p found text).1
are_sent destinations units outgoing unit area p None text may are = are
are_sent destinations units outgoing unit area p (Some found) None may are = are
are_sent destinations units outgoing unit area p (Some found) (Some text) may are = elim (cases_Bool (is_nothing p text)) [
  | inl nothing ↦ rw (nothing, send_found) are
  | inr some ↦ rw (some, send_found) (are_for_served found unit p text (advances p may) destinations units outgoing are)
]

-- ENABLE and DISABLE OUTPUT
are_switched : (all destinations : List Destination) (units : ℕ) (outgoing : Outgoing) (on : Bool) (area key : List ℕ) (found : Option Found) → AreFor destinations units outgoing
    → AreFor destinations units (switch_found all outgoing on area key found).1
are_switched all destinations units outgoing on area key None are = are
are_switched all destinations units outgoing on area key (Some found) are = elim (cases_Bool (is_key_of_each found key all)) [
  | inl right ↦ rw (right, switch_found) (are_for_switched found on destinations units outgoing are)
  | inr wrong ↦ rw (wrong, switch_found) are
]

sizes_start : (S : State) (unit : ℕ) (schedule : Option Node) (reply : Reply) (next : State) → start S unit schedule ≡ Some (reply, next) → SameSizes S next
sizes_start S unit None reply next h = by_done S (Started None, with_unit_mode unit Running S) reply next (same_Some _ _ h) (sizes_unit_mode unit Running S)
sizes_start S unit (Some node) reply next h = elim (option_cases (chosen_leaf S.net.tree S.incoming.waiting node)) [
  | inl none ↦ absurd (none-some (reply, next) (rw none at h))
  | inr some ↦
      let told = Started (Some (path_fields (path_of_leaf S.net.tree some.0))) in
      let done : Some (told, with_unit_mode unit Running S) ≡ Some (reply, next) = rw some.1 at h in
      by_done S (told, with_unit_mode unit Running S) reply next (same_Some _ _ done) (sizes_unit_mode unit Running S)
]

sizes_received : (S : State) (unit : ℕ) (area : List ℕ) (kind : Kind) (size : ℕ) → SameSizes S (with_reply unit (receive_in S unit area kind size)).1
sizes_received S unit area kind size = after_verb S unit (receive_in S unit area kind size) record { leaves = refl; inputs = refl; outputs = λ destinations units are. are }

sizes_receive : (S : State) (unit : ℕ) (area : List ℕ) (kind : Kind) (size : ℕ) (no_data : Bool) (reply : Reply) (next : State) → step_receive S unit area kind size no_data ≡ Some (reply, next) → SameSizes S next
sizes_receive S unit area kind size no_data reply next h = elim (cases_Bool (is_running (unit_mode S unit))) [
  | inl runs ↦
      let ran : receive_running S unit area kind size no_data ≡ (reply, next) = same_Some _ _ (rw (runs, step_receive) at h) in
      elim (cases_Bool ((no_data || is_none (designated S.net.tree area)) || is_ready S unit area)) [
        | inl now ↦
            let done : with_reply unit (receive_in S unit area kind size) ≡ (reply, next) = rw (now, receive_running) at ran in
            by_done S (with_reply unit (receive_in S unit area kind size)) reply next done (sizes_received S unit area kind size)
        | inr later ↦
            let waits : ◌≡◌ {A = Reply × State} (Waits, with_unit_mode unit (WaitingFor area kind size) S) (reply, next) = rw (later, receive_running) at ran in
            by_done S (Waits, with_unit_mode unit (WaitingFor area kind size) S) reply next waits (sizes_unit_mode unit (WaitingFor area kind size) S)
      ]
  | inr other ↦
      let resumed = rw (other, step_receive) at h in
      by_done S (with_reply unit (receive_in S unit area kind size)) reply next
      (next_if-Some (is_waiting_for (unit_mode S unit) area kind size no_data && is_ready S unit area) _ _ resumed) (sizes_received S unit area kind size)
]

sizes_of_verb : (S : State) (unit : ℕ) (done : Reply × State) (reply : Reply) (next : State) → verb S unit done ≡ Some (reply, next) → SameSizes S done.1 → SameSizes S next
sizes_of_verb S unit done reply next h first = by_done S (with_reply unit done) reply next (next_if-Some (is_running (unit_mode S unit) && may_do_verb S unit) _ _ h) (after_verb S unit done first)

-- nothing of the unit is held any more, and nothing of it has begun
abbrev dropped : State → ℕ → State
dropped S unit = record S {
  incoming = record S.incoming { held = without_unit unit S.incoming.held };
  outgoing = drop_unit unit S.outgoing;
}

-- one message more waits
abbrev with_message : State → Moment → RawMessage → List ℕ → Feed → ℕ → State
with_message S stamp message name feed terminal = record S {
  incoming = record S.incoming { waiting = S.incoming.waiting ++ record { leaf = feed.leaf; message = arrived_message S terminal stamp message name } ∷ [] };
  arrivals = S.arrivals + 1;
}

-- a call of a unit
pub sizes_of_unit : (net : Net) (S : State) (unit : ℕ) (call : Call) (reply : Reply) (next : State) → IsNet net → S.net ≡ net → length S.leaf_on ≡ length S.net.leaf_on → IsWellFormed call → unit_step S unit call ≡ Some (reply, next) → SameSizes S next
sizes_of_unit net S unit made.Start reply next is same leaves form h = elim (cases_Bool (is_dormant (unit_mode S unit))) [
  | inl dormant ↦ sizes_start S unit (schedule_of S.net unit) reply next (rw (dormant, unit_step) at h)
  | inr other ↦ absurd (none-some (reply, next) (rw (other, unit_step) at h))
]
sizes_of_unit net S unit (made.Receive area kind size no_data) reply next is same leaves form h = elim (cases_Bool (may_do_verb S unit)) [
  | inl may ↦ sizes_receive S unit area kind size no_data reply next (rw (may, unit_step) at h)
  | inr done ↦ absurd (none-some (reply, next) (rw (done, unit_step) at h))
]
sizes_of_unit net S unit (made.Count area) reply next is same leaves form h = sizes_of_verb S unit (AreaIn (count S.net.tree S.incoming area), S) reply next h (same_sizes S S refl refl refl)
sizes_of_unit net S unit (made.Send area part item) reply next is same leaves form h = sizes_of_verb S unit (send_in S unit area part item) reply next h record {
  leaves = refl;
  inputs = refl;
  outputs = λ destinations units are. are_sent destinations units S.outgoing unit area part (find_destinations (destinations_of S.net) area) (sent_text area item) form.1 are;
}
sizes_of_unit net S unit (made.SwitchInput on terminal area key) reply next is same leaves form h = sizes_of_verb S unit (switch_input S on terminal area key) reply next h (sizes_switch_input net S on terminal area key is same leaves)
sizes_of_unit net S unit (made.SwitchOutput on area key) reply next is same leaves form h = sizes_of_verb S unit (switch_output_in S on area key) reply next h record {
  leaves = refl;
  inputs = refl;
  outputs = λ destinations units are. are_switched (destinations_of S.net) destinations units S.outgoing on area key (find_destinations (destinations_of S.net) area) are;
}
sizes_of_unit net S unit (made.Stop reason) reply next is same leaves form h =
    by_done S (Done, stop_unit S unit) reply next (next_if-Some (may_stop S unit reason) _ _ h)
    (sizes_chain S (dropped S unit) (stop_unit S unit) record { leaves = refl; inputs = refl; outputs = λ destinations units are. are_for_dropped unit destinations units S.outgoing are } (sizes_unit_mode unit Stopped (dropped S unit)))
sizes_of_unit net S unit (made.Arrive stamp message) reply next is same leaves form h = absurd (none-some (reply, next) h)
sizes_of_unit net S unit made.Held reply next is same leaves form h = absurd (none-some (reply, next) h)
sizes_of_unit net S unit (made.Finish reason) reply next is same leaves form h = absurd (none-some (reply, next) h)

-- a call of a terminal
pub sizes_of_terminal : (S : State) (terminal : ℕ) (name : List ℕ) (call : Call) (reply : Reply) (next : State) → terminal_step S terminal name call ≡ Some (reply, next) → SameSizes S next
sizes_of_terminal S terminal name (made.Arrive stamp message) reply next h = elim (option_cases (feed_of S.net terminal)) [
  | inl none ↦ absurd (none-some (reply, next) (rw (none, terminal_step) at h))
  | inr some ↦
      let come = rw (some.1, terminal_step) at h in
      by_done S (arrive S terminal name stamp message some.0) reply next (next_if-Some _ _ _ come)
      (sizes_chain S (with_message S stamp message name some.0 terminal) (arrive S terminal name stamp message some.0).1 record { leaves = refl; inputs = refl; outputs = λ destinations units are. are }
      (sizes_arrival terminal (with_message S stamp message name some.0 terminal)))
]
sizes_of_terminal S terminal name made.Held reply next h = by_done S (Done, with_terminal_mode terminal Holding S) reply next (next_if-Some _ _ _ h) (sizes_terminal_mode terminal Holding S)
sizes_of_terminal S terminal name (made.Finish reason) reply next h = by_done S (Done, with_terminal_mode terminal Ended S) reply next (next_if-Some _ _ _ h) (sizes_terminal_mode terminal Ended S)
sizes_of_terminal S terminal name made.Start reply next h = absurd (none-some (reply, next) h)
sizes_of_terminal S terminal name (made.Receive area kind size no_data) reply next h = absurd (none-some (reply, next) h)
sizes_of_terminal S terminal name (made.Count area) reply next h = absurd (none-some (reply, next) h)
sizes_of_terminal S terminal name (made.Send area part item) reply next h = absurd (none-some (reply, next) h)
sizes_of_terminal S terminal name (made.SwitchInput on is_terminal area key) reply next h = absurd (none-some (reply, next) h)
sizes_of_terminal S terminal name (made.SwitchOutput on area key) reply next h = absurd (none-some (reply, next) h)
sizes_of_terminal S terminal name (made.Stop reason) reply next h = absurd (none-some (reply, next) h)
