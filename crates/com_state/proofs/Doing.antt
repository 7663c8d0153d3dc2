-- What an allowed call comes to, by its parts, and when a call is allowed.
use Rattle.std.proofs.Common.{◌≡◌, ℕ, suc, ◌+◌, ◌-◌, ◌<◌, Bool, true, false, not, ◌&&◌, List, [], ◌∷◌, ◌++◌, Some, None, Option, refl, sym, ap, ◌∙◌, inl, inr, arith}
use Rattle.std.specs.Prelude.{◌||◌, is_some, is_none, option_map, option_and_then, slice_get, unwrap_or, IsTrue, if◌then◌else◌}
use Rattle.std.specs.List.{list_all, range_with_len}
use Rattle.std.proofs.lemmas.Bool.{false≢true, and_parts}
use Rattle.std.proofs.lemmas.Option.{none-some, same_Some}
use Rattle.com_cd.specs.Designation.{path_fields}
use Rattle.com_msg.specs.Stamp.{Moment}
use Rattle.com_msg.specs.declared.message.RawMessage.{RawMessage}
use Rattle.com_msg.specs.declared.rest.Kind.{Kind}
use Rattle.com_tree.specs.declared.tree.Node.{Node}
use Rattle.com_tree.specs.declared.tree.Leaf.{Leaf}
use Rattle.com_tree.specs.Places.{leaf_paths}
use Rattle.com_net.specs.declared.net.Feed.{Feed}
use Rattle.com_net.specs.Numbers.{unit_number, terminal_number}
use Rattle.com_events.specs.declared.call.Party.{Party}
use Rattle.com_events.specs.declared.call.Party.TheVariants as party
use Rattle.com_events.specs.declared.call.Call.{Call}
use Rattle.com_events.specs.declared.call.StopReason.{StopReason}
use Rattle.com_events.specs.declared.call.EndReason.{EndReason}
use Rattle.com_events.specs.declared.call.Call.TheVariants as made
use Rattle.com_events.specs.declared.reply.Reply.{Reply}
use Rattle.com_events.specs.declared.reply.Reply.TheVariants.{Started, Waits, Arrived, Done}
use Rattle.com_recv.specs.Areas.{path_of_leaf}
use Rattle.com_recv.specs.Incoming.{designated, chosen_leaf}
use Rattle.com_state.specs.declared.parties.UnitMode.TheVariants.{Running, WaitingFor}
use Rattle.com_state.specs.declared.parties.TerminalMode.TheVariants.{Holding, Ended}
use Rattle.com_state.specs.State.{State, unit_mode, terminal_mode}
use Rattle.com_state.specs.Answers.{is_ready}
use Rattle.com_state.specs.Steps.{next_if, is_dormant, is_running, is_waiting_for, is_feeding, is_feeding_or_holding, with_unit_mode, with_terminal_mode, with_verb, with_arrival, with_reply, feed_of, schedule_of, is_path_open, may_do_verb, may_arrive, may_stop, may_finish, start, stop_unit, arrive, arrived_message, verb, unit_step, terminal_step, step}
use Rattle.com_state.proofs.Frames.{option_cases}
use Rattle.com_state.proofs.StepCases.{unit_steps, terminal_steps, no_unit_steps, no_terminal_steps}
use Rattle.com_state.proofs.Verbs.{receive_in}

-- what is allowed by a test is done
allowed_if : (test : Bool) (next : Reply × State) → IsTrue (is_some (next_if test next)) → (test ≡ true) × (next_if test next ≡ Some next)
allowed_if true next may = (refl, refl)
allowed_if false next may = absurd (false≢true may)

-- and only that is allowed
pub some_if : (test : Bool) (next : Reply × State) → is_some (next_if test next) ≡ test
some_if true next = refl
some_if false next = refl

-- a unit that may do a verb has not done all its verbs
pub verb_left : (S : State) (unit : ℕ) (next : Reply × State) → IsTrue (is_some (verb S unit next)) → may_do_verb S unit ≡ true
verb_left S unit next may = (and_parts (is_running (unit_mode S unit)) (may_do_verb S unit) (allowed_if (is_running (unit_mode S unit) && may_do_verb S unit) (with_reply unit next) may).0).1

-- and it has the rest of them after what the verb does
pub still_left : (S mid : State) (unit : ℕ) → mid.units ≡ S.units → may_do_verb S unit ≡ true → may_do_verb mid unit ≡ true
still_left S mid unit same left = rw (same, may_do_verb) left

-- a verb is done: its reply, and its count
pub verb_is_done : (S : State) (unit : ℕ) (next : Reply × State) (reply : Reply) (mid last : State) → IsTrue (is_some (verb S unit next)) → (reply, mid) ≡ next → last ≡ with_verb unit mid → verb S unit next ≡ Some (reply, last)
verb_is_done S unit next reply mid last may same counted =
    (allowed_if (is_running (unit_mode S unit) && may_do_verb S unit) (with_reply unit next) may).1
    ∙ (ap (λ (n : Reply × State). Some (with_reply unit n)) (sym same) ∙ ap (λ (s : State). Some (reply, s)) (sym counted))

-- RECEIVE, by its tests
by_tests : (may runs same ready known : Bool) (go wait : Reply × State) → IsTrue (is_some (if may then (if runs then Some (if known || ready then go else wait) else next_if (same && ready) go) else None))
    → (may ≡ true) × ((if may then (if runs then Some (if known || ready then go else wait) else next_if (same && ready) go) else None) ≡ Some (if not (known || ready) then wait else go))
by_tests false runs same ready known go wait h = absurd (false≢true h)
by_tests true true same ready true go wait h = (refl, refl)
by_tests true true same true false go wait h = (refl, refl)
by_tests true true same false false go wait h = (refl, refl)
by_tests true false true true true go wait h = (refl, refl)
by_tests true false true true false go wait h = (refl, refl)
by_tests true false true false known go wait h = absurd (false≢true h)
by_tests true false false ready known go wait h = absurd (false≢true h)

some_by_tests : (may runs same ready known : Bool) (go wait : Reply × State) → is_some (if may then (if runs then Some (if known || ready then go else wait) else next_if (same && ready) go) else None) ≡ (may && (runs || (same && ready)))
some_by_tests false runs same ready known go wait = refl
some_by_tests true true same ready known go wait = refl
some_by_tests true false true true known go wait = refl
some_by_tests true false true false known go wait = refl
some_by_tests true false false ready known go wait = refl

-- whether a RECEIVE has to wait
abbrev pub waits : State → ℕ → List ℕ → Bool → Bool
waits S unit area no_data = not ((no_data || is_none (designated S.net.tree area)) || is_ready S unit area)

pub receive_left : (S : State) (unit : ℕ) (area : List ℕ) (kind : Kind) (size : ℕ) (no_data : Bool) → IsTrue (is_some (unit_step S unit (made.Receive area kind size no_data))) → may_do_verb S unit ≡ true
receive_left S unit area kind size no_data may =
    (by_tests (may_do_verb S unit) (is_running (unit_mode S unit)) (is_waiting_for (unit_mode S unit) area kind size no_data) (is_ready S unit area) (no_data || is_none (designated S.net.tree area))
    (with_reply unit (receive_in S unit area kind size)) (Waits, with_unit_mode unit (WaitingFor area kind size) S) may).0

received_by : (S : State) (unit : ℕ) (area : List ℕ) (kind : Kind) (size : ℕ) (no_data : Bool) → IsTrue (is_some (unit_step S unit (made.Receive area kind size no_data)))
    → unit_step S unit (made.Receive area kind size no_data) ≡ Some (if waits S unit area no_data then (Waits, with_unit_mode unit (WaitingFor area kind size) S) else with_reply unit (receive_in S unit area kind size))
received_by S unit area kind size no_data may =
    (by_tests (may_do_verb S unit) (is_running (unit_mode S unit)) (is_waiting_for (unit_mode S unit) area kind size no_data) (is_ready S unit area) (no_data || is_none (designated S.net.tree area))
    (with_reply unit (receive_in S unit area kind size)) (Waits, with_unit_mode unit (WaitingFor area kind size) S) may).1

-- a RECEIVE that has to wait waits
pub receive_waits : (S : State) (unit : ℕ) (area : List ℕ) (kind : Kind) (size : ℕ) (no_data : Bool) (last : State) → IsTrue (is_some (unit_step S unit (made.Receive area kind size no_data))) → waits S unit area no_data ≡ true
    → last ≡ with_unit_mode unit (WaitingFor area kind size) S → unit_step S unit (made.Receive area kind size no_data) ≡ Some (Waits, last)
receive_waits S unit area kind size no_data last may later done =
    received_by S unit area kind size no_data may
    ∙ (ap (λ (b : Bool). Some (if b then (Waits, with_unit_mode unit (WaitingFor area kind size) S) else with_reply unit (receive_in S unit area kind size))) later
    ∙ ap (λ (s : State). Some (Waits, s)) (sym done))

-- and any other is done
pub receive_goes_on : (S : State) (unit : ℕ) (area : List ℕ) (kind : Kind) (size : ℕ) (no_data : Bool) (reply : Reply) (mid last : State) → IsTrue (is_some (unit_step S unit (made.Receive area kind size no_data))) → waits S unit area no_data ≡ false
    → (reply, mid) ≡ receive_in S unit area kind size → last ≡ with_verb unit mid → unit_step S unit (made.Receive area kind size no_data) ≡ Some (reply, last)
receive_goes_on S unit area kind size no_data reply mid last may now same counted =
    received_by S unit area kind size no_data may
    ∙ (ap (λ (b : Bool). Some (if b then (Waits, with_unit_mode unit (WaitingFor area kind size) S) else with_reply unit (receive_in S unit area kind size))) now
    ∙ (ap (λ (n : Reply × State). Some (with_reply unit n)) (sym same) ∙ ap (λ (s : State). Some (reply, s)) (sym counted)))

-- a RECEIVE is allowed to a unit that runs, or that waits with it and can go on
pub receive_allowed : (S : State) (unit : ℕ) (area : List ℕ) (kind : Kind) (size : ℕ) (no_data : Bool)
    → is_some (unit_step S unit (made.Receive area kind size no_data)) ≡ (may_do_verb S unit && (is_running (unit_mode S unit) || (is_waiting_for (unit_mode S unit) area kind size no_data && is_ready S unit area)))
receive_allowed S unit area kind size no_data =
    some_by_tests (may_do_verb S unit) (is_running (unit_mode S unit)) (is_waiting_for (unit_mode S unit) area kind size no_data) (is_ready S unit area) (no_data || is_none (designated S.net.tree area))
    (with_reply unit (receive_in S unit area kind size)) (Waits, with_unit_mode unit (WaitingFor area kind size) S)

-- what a unit is handed where it starts
abbrev pub handed_at_start : State → Option Node → Option (List ℕ)
handed_at_start S schedule = option_and_then (λ node. option_map (λ leaf. path_fields (path_of_leaf S.net.tree leaf)) (chosen_leaf S.net.tree S.incoming.waiting node)) schedule

-- the unit runs, and is handed the names of this leaf
abbrev with_names_of : State → ℕ → ℕ → Reply × State
with_names_of S unit leaf = (Started (Some (path_fields (path_of_leaf S.net.tree leaf))), with_unit_mode unit Running S)

started_by : (S : State) (unit : ℕ) (schedule : Option Node) → IsTrue (is_some (start S unit schedule)) → start S unit schedule ≡ Some (Started (handed_at_start S schedule), with_unit_mode unit Running S)
started_by S unit None may = refl
started_by S unit (Some node) may = chosen (chosen_leaf S.net.tree S.incoming.waiting node) may
  where
    chosen : (leaf : Option ℕ) → IsTrue (is_some (option_map (with_names_of S unit) leaf))
        → option_map (with_names_of S unit) leaf ≡ Some (Started (option_map (λ (l : ℕ). path_fields (path_of_leaf S.net.tree l)) leaf), with_unit_mode unit Running S)
    chosen None may = absurd (false≢true may)
    chosen (Some leaf) may = refl

dormant_start : (dormant : Bool) (o : Option (Reply × State)) → IsTrue (is_some (if dormant then o else None)) → IsTrue (is_some o) × ((if dormant then o else None) ≡ o)
dormant_start true o may = (may, refl)
dormant_start false o may = absurd (false≢true may)

-- START
pub starts : (S : State) (unit : ℕ) (handed : Option (List ℕ)) (last : State) → IsTrue (is_some (unit_step S unit made.Start)) → handed ≡ handed_at_start S (schedule_of S.net unit) → last ≡ with_unit_mode unit Running S
    → unit_step S unit made.Start ≡ Some (Started handed, last)
starts S unit handed last may is done =
    let its = dormant_start (is_dormant (unit_mode S unit)) (start S unit (schedule_of S.net unit)) may in
    its.1 ∙ (started_by S unit (schedule_of S.net unit) its.0
    ∙ (ap (λ (h : Option (List ℕ)). Some (Started h, with_unit_mode unit Running S)) (sym is) ∙ ap (λ (s : State). Some (Started handed, s)) (sym done)))

some_start : (dormant : Bool) (o : Option (Reply × State)) → is_some (if dormant then o else None) ≡ (dormant && is_some o)
some_start true o = refl
some_start false o = refl

-- START is allowed to a dormant unit whose schedule, where it has one, has a message
pub start_allowed : (S : State) (unit : ℕ) → is_some (unit_step S unit made.Start) ≡ (is_dormant (unit_mode S unit) && is_some (start S unit (schedule_of S.net unit)))
start_allowed S unit = some_start (is_dormant (unit_mode S unit)) (start S unit (schedule_of S.net unit))

some_mapped : {A B : Type 0} (f : A → B) (o : Option A) → is_some o ≡ is_some (option_map f o)
some_mapped f None = refl
some_mapped f (Some x) = refl

-- a unit with a schedule may start where its node chooses a leaf
pub start_chosen : {S now : State} → S ≡ now → (unit : ℕ) (node : Node) → is_some (chosen_leaf S.net.tree S.incoming.waiting node) ≡ is_some (start now unit (Some node))
start_chosen {S} {now} entered unit node =
    some_mapped (with_names_of S unit) (chosen_leaf S.net.tree S.incoming.waiting node)
    ∙ ap (λ (T : State). is_some (start T unit (Some node))) entered

-- STOP
pub stops : (S : State) (unit : ℕ) (reason : StopReason) (last : State) → IsTrue (is_some (unit_step S unit (made.Stop reason))) → last ≡ stop_unit S unit → unit_step S unit (made.Stop reason) ≡ Some (Done, last)
stops S unit reason last may done = (allowed_if (may_stop S unit reason) (Done, stop_unit S unit) may).1 ∙ ap (λ (s : State). Some (Done, s)) (sym done)

-- HELD
pub holds : (S : State) (terminal : ℕ) (name : List ℕ) (last : State) → IsTrue (is_some (terminal_step S terminal name made.Held)) → last ≡ with_terminal_mode terminal Holding S → terminal_step S terminal name made.Held ≡ Some (Done, last)
holds S terminal name last may done =
    (allowed_if (((is_some (feed_of S.net terminal) && is_feeding (terminal_mode S terminal)) && not (is_path_open S terminal)) && may_arrive S terminal) (Done, with_terminal_mode terminal Holding S) may).1
    ∙ ap (λ (s : State). Some (Done, s)) (sym done)

-- END
pub ends : (S : State) (terminal : ℕ) (name : List ℕ) (reason : EndReason) (last : State) → IsTrue (is_some (terminal_step S terminal name (made.Finish reason))) → last ≡ with_terminal_mode terminal Ended S
    → terminal_step S terminal name (made.Finish reason) ≡ Some (Done, last)
ends S terminal name reason last may done = (allowed_if (may_finish S terminal reason) (Done, with_terminal_mode terminal Ended S) may).1 ∙ ap (λ (s : State). Some (Done, s)) (sym done)

-- without a route no message comes in
abbrev arrive_at : State → ℕ → List ℕ → Moment → RawMessage → Option Feed → Option (Reply × State)
arrive_at S terminal name stamp message feed = option_and_then (λ (f : Feed). next_if ((is_path_open S terminal && is_feeding_or_holding (terminal_mode S terminal)) && may_arrive S terminal) (arrive S terminal name stamp message f)) feed

arrives_by : (S : State) (terminal : ℕ) (name : List ℕ) (stamp : Moment) (message : RawMessage) → terminal_step S terminal name (made.Arrive stamp message) ≡ arrive_at S terminal name stamp message (feed_of S.net terminal)
arrives_by S terminal name stamp message = elim (option_cases (feed_of S.net terminal)) [
  | inl none ↦ rw (none, terminal_step) refl
  | inr some ↦ rw (some.1, terminal_step) refl
]

-- the state in which a message has come to a leaf
abbrev pub with_arrived : State → ℕ → List ℕ → Moment → RawMessage → Leaf → State
with_arrived S terminal name stamp message leaf = with_arrival terminal (record S {
  incoming = record S.incoming { waiting = S.incoming.waiting ++ record { leaf = leaf; message = arrived_message S terminal stamp message name } ∷ [] };
  arrivals = S.arrivals + 1;
})

pub no_route : (S : State) (terminal : ℕ) (name : List ℕ) (stamp : Moment) (message : RawMessage) → IsTrue (is_some (terminal_step S terminal name (made.Arrive stamp message))) → option_map (λ feed. feed.leaf) (feed_of S.net terminal) ≡ None → ⊥
no_route S terminal name stamp message may none = from (feed_of S.net terminal) (sym (ap (λ (o : Option (Reply × State)). is_some o) (arrives_by S terminal name stamp message)) ∙ may) none
  where
    from : (feed : Option Feed) → IsTrue (is_some (arrive_at S terminal name stamp message feed)) → option_map (λ feed. feed.leaf) feed ≡ None → ⊥
    from None may none = false≢true may
    from (Some feed) may none = none-some feed.leaf (sym none)

-- ARRIVE
pub arrives : (S : State) (terminal : ℕ) (name : List ℕ) (stamp : Moment) (message : RawMessage) (leaf : Leaf) → IsTrue (is_some (terminal_step S terminal name (made.Arrive stamp message))) → option_map (λ feed. feed.leaf) (feed_of S.net terminal) ≡ Some leaf
    → (may_arrive S terminal ≡ true) × (terminal_step S terminal name (made.Arrive stamp message) ≡ Some (Arrived (S.arrivals + 1), with_arrived S terminal name stamp message leaf))
arrives S terminal name stamp message leaf may route =
    let its = from (feed_of S.net terminal) (sym (ap (λ (o : Option (Reply × State)). is_some o) (arrives_by S terminal name stamp message)) ∙ may) route in
    (its.0, arrives_by S terminal name stamp message ∙ its.1)
  where
    from : (feed : Option Feed) → IsTrue (is_some (arrive_at S terminal name stamp message feed)) → option_map (λ feed. feed.leaf) feed ≡ Some leaf
        → (may_arrive S terminal ≡ true) × (arrive_at S terminal name stamp message feed ≡ Some (Arrived (S.arrivals + 1), with_arrived S terminal name stamp message leaf))
    from None may route = absurd (false≢true may)
    from (Some feed) may route =
        let its = allowed_if ((is_path_open S terminal && is_feeding_or_holding (terminal_mode S terminal)) && may_arrive S terminal) (arrive S terminal name stamp message feed) may in (
          (and_parts (is_path_open S terminal && is_feeding_or_holding (terminal_mode S terminal)) (may_arrive S terminal) its.0).1,
          its.1 ∙ ap (λ (l : Leaf). Some (Arrived (S.arrivals + 1), with_arrived S terminal name stamp message l)) (same_Some feed.leaf leaf route),
        )

-- ARRIVE is allowed where the path is open and the terminal has not ended
pub arrive_allowed : (S : State) (terminal : ℕ) (name : List ℕ) (stamp : Moment) (message : RawMessage)
    → is_some (terminal_step S terminal name (made.Arrive stamp message)) ≡ ((is_path_open S terminal && is_feeding_or_holding (terminal_mode S terminal)) && may_arrive S terminal)
arrive_allowed S terminal name stamp message = elim (option_cases (feed_of S.net terminal)) [
  | inl none ↦ rw (none, terminal_step, is_path_open) refl
  | inr some ↦ ap (λ (o : Option (Reply × State)). is_some o) (arrives_by S terminal name stamp message)
      ∙ (ap (λ (o : Option Feed). is_some (arrive_at S terminal name stamp message o)) some.1
      ∙ some_if ((is_path_open S terminal && is_feeding_or_holding (terminal_mode S terminal)) && may_arrive S terminal) (arrive S terminal name stamp message some.0))
]

-- what is tested from a number on
all_from : (test : ℕ → Bool) (n i : ℕ) → i < n → list_all test (range_with_len i (n - i)) ≡ (test i && list_all test (range_with_len (i + 1) (n - (i + 1))))
all_from test n i less = let more : n - i ≡ suc (n - (i + 1)) = omega arith in rw more refl

-- where the test holds of a number, those after it decide
pub all_on : (test : ℕ → Bool) (n i : ℕ) → i < n → test i ≡ true → list_all test (range_with_len (i + 1) (n - (i + 1))) ≡ list_all test (range_with_len i (n - i))
all_on test n i less holds = sym (all_from test n i less ∙ ap (λ (b : Bool). b && list_all test (range_with_len (i + 1) (n - (i + 1)))) holds)

-- the names of the leaf that a node chooses
pub names_chosen : {S now : State} → S ≡ now → (node : Node) (leaf : ℕ) (path : List (List ℕ)) (fields : List ℕ) → Some leaf ≡ chosen_leaf S.net.tree S.incoming.waiting node → slice_get (leaf_paths S.net.tree) leaf ≡ Some path
    → fields ≡ path_fields path → Some fields ≡ option_map (λ leaf. path_fields (path_of_leaf now.net.tree leaf)) (chosen_leaf now.net.tree now.incoming.waiting node)
names_chosen {S} {now} entered node leaf path fields chosen there written =
    let named : path_of_leaf S.net.tree leaf ≡ path = ap (λ (found : Option (List (List ℕ))). unwrap_or found []) there in
    ap (λ (f : List ℕ). Some f) (written ∙ ap path_fields (sym named))
    ∙ (ap (option_map (λ (leaf : ℕ). path_fields (path_of_leaf S.net.tree leaf))) chosen
    ∙ ap (λ (T : State). option_map (λ (leaf : ℕ). path_fields (path_of_leaf T.net.tree leaf)) (chosen_leaf T.net.tree T.incoming.waiting node)) entered)

pub no_names_chosen : {S now : State} → S ≡ now → (node : Node) → None ≡ chosen_leaf S.net.tree S.incoming.waiting node
    → None ≡ option_map (λ leaf. path_fields (path_of_leaf now.net.tree leaf)) (chosen_leaf now.net.tree now.incoming.waiting node)
no_names_chosen {S} {now} entered node none =
    ap (option_map (λ (leaf : ℕ). path_fields (path_of_leaf S.net.tree leaf))) none
    ∙ ap (λ (T : State). option_map (λ (leaf : ℕ). path_fields (path_of_leaf T.net.tree leaf)) (chosen_leaf T.net.tree T.incoming.waiting node)) entered

-- a step is that of the unit or the terminal that has the name
pub steps_of_unit : (S : State) (who : Party) (name : List ℕ) (unit : ℕ) (call : Call) → who ≡ party.Unit name → unit_number S.net name ≡ Some unit → step S who call ≡ unit_step S unit call
steps_of_unit S who name unit call is found = ap (λ (w : Party). step S w call) is ∙ unit_steps S name unit call found

pub steps_of_terminal : (S : State) (who : Party) (name : List ℕ) (terminal : ℕ) (call : Call) → who ≡ party.Terminal name → terminal_number S.net name ≡ Some terminal → step S who call ≡ terminal_step S terminal name call
steps_of_terminal S who name terminal call is found = ap (λ (w : Party). step S w call) is ∙ terminal_steps S name terminal call found

pub steps_of_no_unit : (S : State) (who : Party) (name : List ℕ) (call : Call) → who ≡ party.Unit name → unit_number S.net name ≡ None → step S who call ≡ None
steps_of_no_unit S who name call is none = ap (λ (w : Party). step S w call) is ∙ no_unit_steps S name call none

pub steps_of_no_terminal : (S : State) (who : Party) (name : List ℕ) (call : Call) → who ≡ party.Terminal name → terminal_number S.net name ≡ None → step S who call ≡ None
steps_of_no_terminal S who name call is none = ap (λ (w : Party). step S w call) is ∙ no_terminal_steps S name call none

-- what is undefined is not allowed
pub not_allowed : (o : Option (Reply × State)) → o ≡ None → IsTrue (is_some o) → ⊥
not_allowed o none may = false≢true (sym (ap (λ (p : Option (Reply × State)). is_some p) none) ∙ may)
