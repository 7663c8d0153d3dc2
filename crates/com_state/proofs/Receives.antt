-- What a RECEIVE changes.
use Rattle.std.proofs.Common.{◌≡◌, ℕ, Bool, true, false, ◌&&◌, Some, None, Option, List, [], refl, sym, ap, ◌∙◌, inl, inr, subst}
use Rattle.std.specs.Prelude.{◌||◌, is_none, option_map, option_and_then}
use Rattle.std.proofs.lemmas.Bool.{cases_Bool, and_parts, false≢true}
use Rattle.std.proofs.lemmas.Option.{none-some, same_Some}
use Rattle.com_msg.specs.declared.rest.Kind.{Kind}
use Rattle.com_msg.specs.Portion.{take_portion}
use Rattle.com_tree.specs.declared.tree.Node.{Node}
use Rattle.com_events.specs.declared.call.Party.TheVariants as party
use Rattle.com_events.specs.declared.call.Call.{Call}
use Rattle.com_events.specs.declared.call.Call.TheVariants as made
use Rattle.com_events.specs.declared.reply.Reply.{Reply}
use Rattle.com_events.specs.declared.reply.Reply.TheVariants.{Given}
use Rattle.com_net.specs.Numbers.{unit_number}
use Rattle.com_state.specs.Wholeness.{handed_by, handed_of}
use Rattle.com_state.proofs.Frames.{option_cases, next_if-Some}
use Rattle.com_state.proofs.Stays.{stay_same, stay_verb, stay_unit_mode}
use Rattle.com_state.proofs.Changes.{Changed, gives, unchanged, same_store, store_verb, store_unit_mode, changed_then}
use Rattle.com_state.specs.State.{State, unit_mode}
use Rattle.com_state.specs.declared.parties.UnitMode.{UnitMode}
use Rattle.com_state.specs.declared.parties.UnitMode.TheVariants.{WaitingFor, Stopped}
use Rattle.com_state.specs.Answers.{is_ready}
use Rattle.com_state.specs.Steps.{next_if, is_running, with_unit_mode, with_verb, with_reply, receive_running, is_waiting_for, step_receive}
use Rattle.com_recv.specs.Incoming.{designated}
use Rattle.com_recv.specs.Receiving.{Next}
use Rattle.com_state.proofs.Verbs.{receive_in, receive_next_in, next_in}
use Rattle.com_recv.specs.Areas.{given_area}

-- a test that a step was made under holds
pub next_if-true : (test : Bool) (x y : Reply × State) → next_if test x ≡ Some y → test ≡ true
next_if-true true x y h = refl
next_if-true false x y h = absurd (none-some y h)

-- a unit that runs has not stopped
pub runs_on : (mode : Option UnitMode) → is_running mode ≡ true → mode ≡ Some Stopped → ⊥
runs_on mode runs h = false≢true (sym (ap is_running h) ∙ runs)

-- nor has one that waits
waits_on : (mode : Option UnitMode) (area : List ℕ) (kind : Kind) (size : ℕ) (no_data : Bool) → is_waiting_for mode area kind size no_data ≡ true → mode ≡ Some Stopped → ⊥
waits_on mode area kind size no_data waits h = false≢true (sym (ap (λ m. is_waiting_for m area kind size no_data) h) ∙ waits)

-- what a unit's call changes, by its reply and the state after it
abbrev pub UnitChanged : State → List ℕ → Call → Reply × State → Type 0
UnitChanged S name call done = Changed S done.1 [] (handed_by S (party.Unit name) call done.0)

-- where a portion is given, it is handed out
handed_there : (S : State) (name : List ℕ) (unit : ℕ) (area given text : List ℕ) (kind : Kind) (size : ℕ) (no_data : Bool) (node : Node) (next : Next)
    → unit_number S.net name ≡ Some unit → designated S.net.tree area ≡ Some node → next_in S unit node ≡ Some next
    → handed_by S (party.Unit name) (made.Receive area kind size no_data) (Given given text) ≡ Some (handed_of unit kind size text next)
handed_there S name unit area given text kind size no_data node next number there found =
    ap (option_and_then (λ unit. option_map (handed_of unit kind size text) (option_and_then (next_in S unit) (designated S.net.tree area)))) number
    ∙ (ap (λ at. option_map (handed_of unit kind size text) (option_and_then (next_in S unit) at)) there ∙ ap (option_map (handed_of unit kind size text)) found)

-- where something is found, a portion is given, and otherwise nothing changes
changed_next : (S : State) (name : List ℕ) (unit : ℕ) (area : List ℕ) (kind : Kind) (size : ℕ) (no_data : Bool) (node : Node) (found : Option Next)
    → unit_number S.net name ≡ Some unit → designated S.net.tree area ≡ Some node → next_in S unit node ≡ found
    → UnitChanged S name (made.Receive area kind size no_data) (receive_next_in S unit area kind size found)
changed_next S name unit area kind size no_data node None number there e = unchanged S S (same_store S) (stay_same S S refl)
changed_next S name unit area kind size no_data node (Some next) number there e =
    let text = (take_portion kind size next.rest).0.text in
    record {
      net = refl;
      stay = stay_same S (receive_next_in S unit area kind size (Some next)).1 refl;
      change = gives refl record {
        unit = unit;
        node = node;
        kind = kind;
        size = size;
        found = next;
        is_next = e;
        given = handed_there S name unit area (given_area S.net.tree next.leaf next.rest (take_portion kind size next.rest).0 area) text kind size no_data node next number there e;
        waiting = refl;
        held = refl;
        arrivals = refl;
      };
    }

-- RECEIVE, before it is counted as a verb
changed_receive : (S : State) (name : List ℕ) (unit : ℕ) (area : List ℕ) (kind : Kind) (size : ℕ) (no_data : Bool) → unit_number S.net name ≡ Some unit
    → UnitChanged S name (made.Receive area kind size no_data) (receive_in S unit area kind size)
changed_receive S name unit area kind size no_data number = elim (option_cases (designated S.net.tree area)) [
  | inl none ↦ rw (none, receive_in) (unchanged S S (same_store S) (stay_same S S refl))
  | inr some ↦
      let same : receive_in S unit area kind size ≡ receive_next_in S unit area kind size (next_in S unit some.0) = rw (some.1, receive_in) refl in
      subst (UnitChanged S name (made.Receive area kind size no_data)) (sym same) (changed_next S name unit area kind size no_data some.0 (next_in S unit some.0) number some.1 refl)
]

-- RECEIVE leaves the units
units_receive : (S : State) (unit : ℕ) (area : List ℕ) (kind : Kind) (size : ℕ) → (receive_in S unit area kind size).1.units ≡ S.units
units_receive S unit area kind size = refl

-- a verb that is done is counted
pub counted : (S : State) (name : List ℕ) (unit : ℕ) (call : Call) (done : Reply × State) → done.1.units ≡ S.units → (unit_mode S unit ≡ Some Stopped → ⊥)
    → UnitChanged S name call done → UnitChanged S name call (with_reply unit done)
counted S name unit call done same runs first =
    let still : unit_mode done.1 unit ≡ Some Stopped → ⊥ = λ h. runs (stay_same done.1 S (sym same) unit h) in
    changed_then S done.1 (with_verb unit done.1) [] (handed_by S (party.Unit name) call done.0) first (store_verb unit done.1) (stay_verb unit done.1 still)

-- the same for a reply and a state by their names
pub by_reply : (S : State) (name : List ℕ) (call : Call) (done : Reply × State) (reply : Reply) (next : State) → done ≡ (reply, next) → UnitChanged S name call done → UnitChanged S name call (reply, next)
by_reply S name call done reply next e h = subst (UnitChanged S name call) e h

-- RECEIVE of a unit that runs
changed_running : (S : State) (name : List ℕ) (unit : ℕ) (area : List ℕ) (kind : Kind) (size : ℕ) (no_data : Bool) → unit_number S.net name ≡ Some unit → (unit_mode S unit ≡ Some Stopped → ⊥)
    → UnitChanged S name (made.Receive area kind size no_data) (receive_running S unit area kind size no_data)
changed_running S name unit area kind size no_data number runs = elim (cases_Bool ((no_data || is_none (designated S.net.tree area)) || is_ready S unit area)) [
  | inl now ↦
      let same : receive_running S unit area kind size no_data ≡ with_reply unit (receive_in S unit area kind size) = rw (now, receive_running) refl in
      subst (UnitChanged S name (made.Receive area kind size no_data)) (sym same)
      (counted S name unit (made.Receive area kind size no_data) (receive_in S unit area kind size) (units_receive S unit area kind size) runs (changed_receive S name unit area kind size no_data number))
  | inr later ↦
      rw (later, receive_running)
      (unchanged S (with_unit_mode unit (WaitingFor area kind size) S) (store_unit_mode unit (WaitingFor area kind size) S) (stay_unit_mode unit (WaitingFor area kind size) S runs))
]

-- RECEIVE of a unit that runs or waits
pub changed_step_receive : (S : State) (name : List ℕ) (unit : ℕ) (area : List ℕ) (kind : Kind) (size : ℕ) (no_data : Bool) (reply : Reply) (next : State) → unit_number S.net name ≡ Some unit
    → step_receive S unit area kind size no_data ≡ Some (reply, next) → UnitChanged S name (made.Receive area kind size no_data) (reply, next)
changed_step_receive S name unit area kind size no_data reply next number h = elim (cases_Bool (is_running (unit_mode S unit))) [
  | inl runs ↦
      let done = rw (runs, step_receive) at h in
      by_reply S name (made.Receive area kind size no_data) (receive_running S unit area kind size no_data) reply next (same_Some _ _ done) (changed_running S name unit area kind size no_data number (runs_on (unit_mode S unit) runs))
  | inr other ↦
      let resumed = rw (other, step_receive) at h in
      let test = is_waiting_for (unit_mode S unit) area kind size no_data && is_ready S unit area in
      let waits = (and_parts (is_waiting_for (unit_mode S unit) area kind size no_data) (is_ready S unit area) (next_if-true test (with_reply unit (receive_in S unit area kind size)) (reply, next) resumed)).0 in
      by_reply S name (made.Receive area kind size no_data) (with_reply unit (receive_in S unit area kind size)) reply next (next_if-Some test _ _ resumed)
      (counted S name unit (made.Receive area kind size no_data) (receive_in S unit area kind size) (units_receive S unit area kind size) (waits_on (unit_mode S unit) area kind size no_data waits) (changed_receive S name unit area kind size no_data number))
]
