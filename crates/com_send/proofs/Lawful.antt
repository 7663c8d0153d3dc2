-- What SEND, ENABLE and DISABLE OUTPUT do at one place, and over calls one after another.
use Rattle.std.proofs.Common.{◌≡◌, ◌≢◌, ℕ, zero, suc, ◌+◌, ◌<◌, Bool, true, false, List, [], ◌∷◌, ◌++◌, length, set, Option, Some, None, refl, sym, ap, subst, ◌∙◌, arith, append_assoc}
use Rattle.std.specs.Prelude.{if◌then◌else◌, option_map, option_and_then, slice_get}
use Rattle.std.proofs.lemmas.Bool.{false≢true}
use Rattle.std.proofs.lemmas.List.{append-nil}
use Rattle.std.proofs.lemmas.Option.{slice_get-map}
use Rattle.com_msg.specs.Begun.{Begun, nothing_begun, with_text, ended, finished}
use Rattle.com_msg.specs.declared.message.End.TheVariants.{Emi as with_emi, Egi as with_egi}
use Rattle.com_msg.specs.declared.sending.OutMessage.{OutMessage}
use Rattle.com_msg.specs.declared.sending.Part.{Part}
use Rattle.com_msg.specs.declared.sending.Part.TheVariants.{Portion, Esi, Emi, Egi}
use Rattle.com_cd.specs.declared.status.Status.TheVariants.{S40, S60}
use Rattle.com_send.specs.declared.destination.Destination.{Destination}
use Rattle.com_send.specs.Outgoing.{DestinationState, Outgoing, begun_for, opening, opening_state, with_begun}
use Rattle.com_send.specs.Found.{Found, find_destinations, is_among, at_each, with_keys}
use Rattle.com_send.specs.Sending.{Answer, deliver, serve, serve_part, serve_begun, sent_text, is_nothing, send, send_found, send_to}
use Rattle.com_send.specs.Switching.{switch, switch_output, switch_found, switch_status, is_key_of_each}
use Rattle.com_send.specs.Laws.{is_found, Verb, sends, switches, stops, after, after_all, finished_of, finished_with, finished_for, finished_by, finished_by_all, IsInOrder}
use Rattle.com_send.proofs.Changing.{changed, changed_at}
use Rattle.com_send.proofs.Keeping.{deliver_begun}
use Rattle.com_cd.specs.Status.{with_output_status}

-- what stands at a place after each destination that is named was changed
changed_get : (found : Found) (change : DestinationState → DestinationState) (first m : ℕ) (states : Outgoing) (at : ℕ) → m ≡ first + at
    → slice_get (changed found change first states) at ≡ option_map (changed_at found change m) (slice_get states at)
changed_get found change first m [] at same = refl
changed_get found change first m (state ∷ states) zero same =
    let here : first ≡ m = omega arith in
    ap (λ (k : ℕ). Some (changed_at found change k state)) here
changed_get found change first m (state ∷ states) (suc at) same = changed_get found change (first + 1) m states at (omega arith)

pub each_get : (found : Found) (change : DestinationState → DestinationState) (outgoing : Outgoing) (at : ℕ)
    → slice_get (at_each found change outgoing) at ≡ option_map (changed_at found change at) (slice_get outgoing at)
each_get found change outgoing at = changed_get found change 0 at outgoing at (omega arith)

-- one that is not named stays
not_changed : (found : Found) (change : DestinationState → DestinationState) (at : ℕ) (o : Option DestinationState)
    → is_among found at ≡ false → option_map (changed_at found change at) o ≡ o
not_changed found change at None among = refl
not_changed found change at (Some state) among = rw among refl

each_other : (found : Found) (change : DestinationState → DestinationState) (outgoing : Outgoing) (at : ℕ)
    → is_among found at ≡ false → slice_get (at_each found change outgoing) at ≡ slice_get outgoing at
each_other found change outgoing at among = each_get found change outgoing at ∙ not_changed found change at (slice_get outgoing at) among

send_other : (outgoing : Outgoing) (unit : ℕ) (area : List ℕ) (part : Part) (o : Option Found) (t : Option (List ℕ)) (at : ℕ)
    → is_found o at ≡ false → slice_get (send_found outgoing unit area part o t).1 at ≡ slice_get outgoing at
send_other outgoing unit area part None t at among = refl
send_other outgoing unit area part (Some found) None at among = refl
send_other outgoing unit area part (Some found) (Some text) at among = at_test (is_nothing part text)
  where
    at_test : (b : Bool) → slice_get (if b then (with_output_status S60 area, outgoing) else send_to outgoing unit area part text found).1 at ≡ slice_get outgoing at
    at_test true = refl
    at_test false = each_other found (serve unit part text) outgoing at among

pub send_leaves : (destinations : List Destination) (outgoing : Outgoing) (unit : ℕ) (area : List ℕ) (part : Part) (item : Option (List ℕ)) (at : ℕ)
    → is_found (find_destinations destinations area) at ≡ false
    → slice_get (send destinations outgoing unit area part item).1 at ≡ slice_get outgoing at
send_leaves destinations outgoing unit area part item at among =
    send_other outgoing unit area part (find_destinations destinations area) (sent_text area item) at among

switch_other : (destinations : List Destination) (outgoing : Outgoing) (on : Bool) (area key : List ℕ) (o : Option Found) (at : ℕ)
    → is_found o at ≡ false → slice_get (switch_found destinations outgoing on area key o).1 at ≡ slice_get outgoing at
switch_other destinations outgoing on area key None at among = refl
switch_other destinations outgoing on area key (Some found) at among = at_test (is_key_of_each found key destinations)
  where
    at_test : (b : Bool) → slice_get (if◌then◌else◌ {A = Answer} b (with_keys found (switch_status found) area, at_each found (switch on) outgoing) (with_output_status S40 area, outgoing)).1 at ≡ slice_get outgoing at
    at_test true = each_other found (switch on) outgoing at among
    at_test false = refl

pub switch_leaves : (destinations : List Destination) (outgoing : Outgoing) (on : Bool) (area key : List ℕ) (at : ℕ)
    → is_found (find_destinations destinations area) at ≡ false
    → slice_get (switch_output destinations outgoing on area key).1 at ≡ slice_get outgoing at
switch_leaves destinations outgoing on area key at among =
    switch_other destinations outgoing on area key (find_destinations destinations area) at among

-- what others have begun
set_other : {X : Type 0} → (xs : List X) (i j : ℕ) (x : X) → j ≢ i → slice_get (set xs i x) j ≡ slice_get xs j
set_other [] i j x other = refl
set_other (y ∷ xs) zero zero x other = absurd (other refl)
set_other (y ∷ xs) zero (suc j) x other = refl
set_other (y ∷ xs) (suc i) zero x other = refl
set_other (y ∷ xs) (suc i) (suc j) x other = set_other xs i j x (λ same. other (ap suc same))

-- a change leaves what another unit has begun
abbrev LeavesUnit : ℕ → (DestinationState → DestinationState) → Type 0
LeavesUnit other change = (state : DestinationState) → slice_get (change state).begun other ≡ slice_get state.begun other

delivered_leaves : (unit other : ℕ) (message : OutMessage) → other ≢ unit → LeavesUnit other (λ state. deliver message (with_begun unit nothing_begun state))
delivered_leaves unit other message apart state =
    ap (λ (begun : List Begun). slice_get begun other) (deliver_begun message (with_begun unit nothing_begun state))
    ∙ set_other state.begun unit other nothing_begun apart

part_leaves : (unit other : ℕ) (part : Part) (begun : Begun) → other ≢ unit → LeavesUnit other (serve_part unit part begun)
part_leaves unit other Portion begun apart state = set_other state.begun unit other begun apart
part_leaves unit other (Esi advance) begun apart state = set_other state.begun unit other (ended advance begun) apart
part_leaves unit other (Emi advance) begun apart state = delivered_leaves unit other (finished advance with_emi begun) apart state
part_leaves unit other (Egi advance) begun apart state = delivered_leaves unit other (finished advance with_egi begun) apart state

serve_leaves : (unit other : ℕ) (part : Part) (text : List ℕ) → other ≢ unit → LeavesUnit other (serve unit part text)
serve_leaves unit other part text apart state = at_begun (slice_get state.begun unit)
  where
    at_begun : (o : Option Begun) → slice_get (serve_begun unit part text state o).begun other ≡ slice_get state.begun other
    at_begun None = refl
    at_begun (Some begun) = part_leaves unit other part (with_text text begun) apart state

changed_leaves : (found : Found) (change : DestinationState → DestinationState) (other at : ℕ) (o : Option DestinationState) → LeavesUnit other change
    → option_and_then (λ state. slice_get state.begun other) (option_map (changed_at found change at) o)
    ≡ option_and_then (λ state. slice_get state.begun other) o
changed_leaves found change other at None leaves = refl
changed_leaves found change other at (Some state) leaves = at_test (is_among found at)
  where
    at_test : (b : Bool) → slice_get (if b then change state else state).begun other ≡ slice_get state.begun other
    at_test true = leaves state
    at_test false = refl

each_leaves : (found : Found) (change : DestinationState → DestinationState) (outgoing : Outgoing) (other at : ℕ) → LeavesUnit other change
    → begun_for (at_each found change outgoing) other at ≡ begun_for outgoing other at
each_leaves found change outgoing other at leaves =
    ap (option_and_then (λ (state : DestinationState). slice_get state.begun other)) (each_get found change outgoing at)
    ∙ changed_leaves found change other at (slice_get outgoing at) leaves

send_leaves_begun : (outgoing : Outgoing) (unit other : ℕ) (area : List ℕ) (part : Part) (o : Option Found) (t : Option (List ℕ)) (at : ℕ)
    → other ≢ unit → begun_for (send_found outgoing unit area part o t).1 other at ≡ begun_for outgoing other at
send_leaves_begun outgoing unit other area part None t at apart = refl
send_leaves_begun outgoing unit other area part (Some found) None at apart = refl
send_leaves_begun outgoing unit other area part (Some found) (Some text) at apart = at_test (is_nothing part text)
  where
    at_test : (b : Bool) → begun_for (if b then (with_output_status S60 area, outgoing) else send_to outgoing unit area part text found).1 other at ≡ begun_for outgoing other at
    at_test true = refl
    at_test false = each_leaves found (serve unit part text) outgoing other at (serve_leaves unit other part text apart)

pub send_leaves_others : (destinations : List Destination) (outgoing : Outgoing) (unit other : ℕ) (area : List ℕ) (part : Part) (item : Option (List ℕ)) (at : ℕ)
    → other ≢ unit → begun_for (send destinations outgoing unit area part item).1 other at ≡ begun_for outgoing other at
send_leaves_others destinations outgoing unit other area part item at apart =
    send_leaves_begun outgoing unit other area part (find_destinations destinations area) (sent_text area item) at apart

-- what goes to a destination, in order
abbrev messages_of : DestinationState → List OutMessage
messages_of state = state.sent ++ state.queued

abbrev NoneLeft : DestinationState → Type 0
NoneLeft state = state.on ≡ true → state.queued ≡ []

-- a change puts these messages after those that go to a destination
record Adds (messages : List OutMessage) (before after_it : DestinationState) : Type 0 where
  all : messages_of after_it ≡ messages_of before ++ messages
  none_left : NoneLeft after_it

nothing_added : (before after_it : DestinationState) → messages_of after_it ≡ messages_of before → NoneLeft after_it → Adds [] before after_it
nothing_added before after_it same none = record { all = same ∙ sym (append-nil (messages_of before)); none_left = none }

begun_adds : (unit : ℕ) (begun : Begun) (state : DestinationState) → NoneLeft state → Adds [] state (with_begun unit begun state)
begun_adds unit begun state none = nothing_added state (with_begun unit begun state) refl none

deliver_adds : (message : OutMessage) (state : DestinationState) → NoneLeft state → Adds (message ∷ []) state (deliver message state)
deliver_adds message state none = at_flag state.on refl
  where
    at_flag : (on : Bool) → state.on ≡ on → Adds (message ∷ []) state (if on then record state { sent = state.sent ++ message ∷ [] } else record state { queued = state.queued ++ message ∷ [] })
    at_flag true is = record {
      all = rw (none is, append-nil state.sent) (append-nil (state.sent ++ message ∷ []));
      none_left = none;
    }
    at_flag false is = record {
      all = sym (append_assoc state.sent state.queued (message ∷ []));
      none_left = λ on. absurd (false≢true (sym is ∙ on));
    }

part_adds : (unit : ℕ) (part : Part) (begun : Begun) (state : DestinationState) → NoneLeft state → Adds (finished_of part begun) state (serve_part unit part begun state)
part_adds unit Portion begun state none = begun_adds unit begun state none
part_adds unit (Esi advance) begun state none = begun_adds unit (ended advance begun) state none
part_adds unit (Emi advance) begun state none =
    let adds = deliver_adds (finished advance with_emi begun) (with_begun unit nothing_begun state) none in
    record { all = adds.all; none_left = adds.none_left }
part_adds unit (Egi advance) begun state none =
    let adds = deliver_adds (finished advance with_egi begun) (with_begun unit nothing_begun state) none in
    record { all = adds.all; none_left = adds.none_left }

serve_adds : (unit : ℕ) (part : Part) (text : List ℕ) (state : DestinationState) → NoneLeft state
    → Adds (finished_with part text (slice_get state.begun unit)) state (serve unit part text state)
serve_adds unit part text state none = at_begun (slice_get state.begun unit)
  where
    at_begun : (o : Option Begun) → Adds (finished_with part text o) state (serve_begun unit part text state o)
    at_begun None = nothing_added state state refl none
    at_begun (Some begun) = part_adds unit part (with_text text begun) state none

switch_adds : (on : Bool) (state : DestinationState) → NoneLeft state → Adds [] state (switch on state)
switch_adds true state none = record { all = refl; none_left = λ on. refl }
switch_adds false state none = nothing_added state (switch false state) refl (λ on. absurd (false≢true on))

-- a call puts what it finishes after what goes to a destination
abbrev Steps : List OutMessage → DestinationState → Outgoing → ℕ → Type 0
Steps messages state next at = (new : DestinationState) × (slice_get next at ≡ Some new) × Adds messages state new

stays : (outgoing : Outgoing) (at : ℕ) (state : DestinationState) → slice_get outgoing at ≡ Some state → NoneLeft state → Steps [] state outgoing at
stays outgoing at state is none = (state, is, nothing_added state state refl none)

-- a portion of nothing finishes nothing
nothing_finished : (part : Part) (text : List ℕ) (o : Option Begun) → is_nothing part text ≡ true → finished_with part text o ≡ []
nothing_finished part text None nothing = refl
nothing_finished Portion text (Some begun) nothing = refl
nothing_finished (Esi advance) text (Some begun) nothing = refl
nothing_finished (Emi advance) text (Some begun) nothing = absurd (false≢true nothing)
nothing_finished (Egi advance) text (Some begun) nothing = absurd (false≢true nothing)

nothing_chosen : (b : Bool) (messages : List OutMessage) → messages ≡ [] → (if b then messages else []) ≡ []
nothing_chosen true messages none = none
nothing_chosen false messages none = refl

served_steps : (outgoing : Outgoing) (unit : ℕ) (part : Part) (text : List ℕ) (found : Found) (at : ℕ) (state : DestinationState)
    → slice_get outgoing at ≡ Some state → NoneLeft state
    → Steps (if is_among found at then finished_with part text (begun_for outgoing unit at) else []) state (at_each found (serve unit part text) outgoing) at
served_steps outgoing unit part text found at state is none = (
  changed_at found (serve unit part text) at state,
  each_get found (serve unit part text) outgoing at ∙ ap (option_map (changed_at found (serve unit part text) at)) is,
  at_test (is_among found at),
)
  where
    begun : begun_for outgoing unit at ≡ slice_get state.begun unit
    begun = ap (option_and_then (λ (s : DestinationState). slice_get s.begun unit)) is

    at_test : (b : Bool) → Adds (if b then finished_with part text (begun_for outgoing unit at) else []) state (if b then serve unit part text state else state)
    at_test true = subst (λ (o : Option Begun). Adds (finished_with part text o) state (serve unit part text state)) (sym begun) (serve_adds unit part text state none)
    at_test false = nothing_added state state refl none

send_steps : (outgoing : Outgoing) (unit : ℕ) (area : List ℕ) (part : Part) (o : Option Found) (t : Option (List ℕ)) (at : ℕ) (state : DestinationState)
    → slice_get outgoing at ≡ Some state → NoneLeft state
    → Steps (finished_for outgoing unit part at o t) state (send_found outgoing unit area part o t).1 at
send_steps outgoing unit area part None t at state is none = stays outgoing at state is none
send_steps outgoing unit area part (Some found) None at state is none = stays outgoing at state is none
send_steps outgoing unit area part (Some found) (Some text) at state is none = at_test (is_nothing part text) refl
  where
    messages : List OutMessage
    messages = if is_among found at then finished_with part text (begun_for outgoing unit at) else []

    at_test : (b : Bool) → is_nothing part text ≡ b
        → Steps (if is_among found at then finished_with part text (begun_for outgoing unit at) else []) state (if b then (with_output_status S60 area, outgoing) else send_to outgoing unit area part text found).1 at
    at_test true nothing =
        subst (λ (m : List OutMessage). Steps m state outgoing at)
        (sym (nothing_chosen (is_among found at) (finished_with part text (begun_for outgoing unit at)) (nothing_finished part text (begun_for outgoing unit at) nothing)))
        (stays outgoing at state is none)
    at_test false something = served_steps outgoing unit part text found at state is none

switched_steps : (outgoing : Outgoing) (on : Bool) (found : Found) (at : ℕ) (state : DestinationState)
    → slice_get outgoing at ≡ Some state → NoneLeft state → Steps [] state (at_each found (switch on) outgoing) at
switched_steps outgoing on found at state is none = (
  changed_at found (switch on) at state,
  each_get found (switch on) outgoing at ∙ ap (option_map (changed_at found (switch on) at)) is,
  at_test (is_among found at),
)
  where
    at_test : (b : Bool) → Adds [] state (if b then switch on state else state)
    at_test true = switch_adds on state none
    at_test false = nothing_added state state refl none

switch_steps : (destinations : List Destination) (outgoing : Outgoing) (on : Bool) (area key : List ℕ) (o : Option Found) (at : ℕ) (state : DestinationState)
    → slice_get outgoing at ≡ Some state → NoneLeft state → Steps [] state (switch_found destinations outgoing on area key o).1 at
switch_steps destinations outgoing on area key None at state is none = stays outgoing at state is none
switch_steps destinations outgoing on area key (Some found) at state is none = at_test (is_key_of_each found key destinations)
  where
    at_test : (b : Bool) → Steps [] state (if◌then◌else◌ {A = Answer} b (with_keys found (switch_status found) area, at_each found (switch on) outgoing) (with_output_status S40 area, outgoing)).1 at
    at_test true = switched_steps outgoing on found at state is none
    at_test false = stays outgoing at state is none

steps : (destinations : List Destination) (outgoing : Outgoing) (verb : Verb) (at : ℕ) (state : DestinationState)
    → slice_get outgoing at ≡ Some state → NoneLeft state
    → Steps (finished_by destinations outgoing verb at) state (after destinations outgoing verb) at
steps destinations outgoing (sends unit area part item) at state is none =
    send_steps outgoing unit area part (find_destinations destinations area) (sent_text area item) at state is none
steps destinations outgoing (switches on area key) at state is none =
    switch_steps destinations outgoing on area key (find_destinations destinations area) at state is none
steps destinations outgoing (stops unit) at state is none = (
  with_begun unit nothing_begun state,
  slice_get-map (with_begun unit nothing_begun) outgoing at ∙ ap (option_map (with_begun unit nothing_begun)) is,
  begun_adds unit nothing_begun state none,
)

-- what is there after calls
abbrev EndsIn : List OutMessage → Outgoing → ℕ → Type 0
EndsIn messages last at = (state : DestinationState) × (slice_get last at ≡ Some state) × IsInOrder messages state

all_steps : (destinations : List Destination) (outgoing : Outgoing) (verbs : List Verb) (at : ℕ) (state : DestinationState)
    → slice_get outgoing at ≡ Some state → NoneLeft state
    → EndsIn (messages_of state ++ finished_by_all destinations outgoing verbs at) (after_all destinations outgoing verbs) at
all_steps destinations outgoing [] at state is none =
    (state, is, record { all = sym (append-nil (messages_of state)); none_left = none })
all_steps destinations outgoing (verb ∷ verbs) at state is none =
    let step = steps destinations outgoing verb at state is none in
    let next = after destinations outgoing verb in
    let behind = finished_by_all destinations next verbs at in
    let rest = all_steps destinations next verbs at step.0 step.1 step.2.none_left in
    let joined : messages_of step.0 ++ behind ≡ messages_of state ++ (finished_by destinations outgoing verb at ++ behind) =
    ap (λ (m : List OutMessage). m ++ behind) step.2.all ∙ append_assoc (messages_of state) (finished_by destinations outgoing verb at) behind in
    subst (λ (m : List OutMessage). EndsIn m (after_all destinations next verbs) at) joined rest

opening_there : (destinations : List Destination) (units at : ℕ) → at < length destinations
    → (destination : Destination) × (slice_get (opening destinations units) at ≡ Some (opening_state units destination))
opening_there [] units at within = absurd (omega arith)
opening_there (destination ∷ destinations) units zero within = (destination, refl)
opening_there (destination ∷ destinations) units (suc at) within = opening_there destinations units at (omega arith)

pub in_order : (destinations : List Destination) (units : ℕ) (verbs : List Verb) (at : ℕ) → at < length destinations
    → EndsIn (finished_by_all destinations (opening destinations units) verbs at) (after_all destinations (opening destinations units) verbs) at
in_order destinations units verbs at within =
    let there = opening_there destinations units at within in
    all_steps destinations (opening destinations units) verbs at (opening_state units there.0) there.1 (λ on. refl)
