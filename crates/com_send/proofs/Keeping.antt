-- What every verb keeps, and what SEND, ENABLE and DISABLE OUTPUT come to where they are served.
use Rattle.std.proofs.Common.{◌≡◌, ℕ, suc, ◌+◌, ◌<◌, Bool, true, false, List, [], ◌∷◌, ◌++◌, length, get_or, take, Option, Some, None, refl, sym, ap, subst, ◌∙◌, arith, zero}
use Rattle.std.specs.Prelude.{if◌then◌else◌, slice_get, IfSome}
use Rattle.std.specs.List.{All}
use Rattle.std.proofs.lemmas.List.{length-map, length-set, length-replicate}
use Rattle.std.proofs.lemmas.List.Elements.{All-cons, All-map, All-nil, All-push, All-append, All-set, All-replicate}
use Rattle.std.proofs.lemmas.Option.{none-some, get_or_from_slice_get}
use Rattle.std.proofs.Math.Seq.{take-append_seam}
use Rattle.std.proofs.Math.ListN.{get_or-map}
use Rattle.com_msg.specs.Begun.{Begun, OpenMessage, nothing_begun, with_text, ended, finished}
use Rattle.com_msg.specs.Rendering.{IsAdvance, IsRenderable}
use Rattle.com_msg.specs.declared.message.End.TheVariants.{Emi as with_emi, Egi as with_egi}
use Rattle.com_msg.specs.declared.sending.Advance.{Advance}
use Rattle.com_msg.specs.declared.sending.OutSegment.{OutSegment}
use Rattle.com_msg.specs.declared.sending.OutMessage.{OutMessage}
use Rattle.com_msg.specs.declared.sending.Part.{Part}
use Rattle.com_msg.specs.declared.sending.Part.TheVariants.{Portion, Esi, Emi, Egi}
use Rattle.com_send.specs.declared.destination.Destination.{Destination}
use Rattle.com_send.specs.declared.output.Output.{Output}
use Rattle.com_send.specs.Outgoing.{DestinationState, Outgoing, AreAdvances, IsRenderableState, AreFor, opening, opening_state, with_begun, drop_unit}
use Rattle.com_send.specs.Found.{Found, find_destinations, is_among, at_each, with_keys}
use Rattle.com_send.specs.Sending.{Answer, deliver, serve, serve_part, serve_begun, sent_text, is_nothing, advance_of, send, send_to}
use Rattle.com_send.specs.Switching.{switch, switch_output, switch_status, is_key_of_each}
use Rattle.com_send.specs.Kept.{state_of, states_of}
use Rattle.com_send.proofs.Changing.{changed, changed_at}

-- a change of a destination keeps how many units have begun something there, or nothing
abbrev pub KeepsUnits : (DestinationState → DestinationState) → Type 0
KeepsUnits change = (state : DestinationState) → length (change state).begun ≡ length state.begun

-- so many units have begun something there, or nothing
abbrev pub HasUnits : ℕ → DestinationState → Type 0
HasUnits units state = length state.begun ≡ units

pub deliver_begun : (message : OutMessage) (state : DestinationState) → (deliver message state).begun ≡ state.begun
deliver_begun message state = at_flag state.on
  where
    at_flag : (on : Bool) → (if on then record state { sent = state.sent ++ message ∷ [] } else record state { queued = state.queued ++ message ∷ [] }).begun ≡ state.begun
    at_flag true = refl
    at_flag false = refl

pub with_begun_keeps : (unit : ℕ) (begun : Begun) → KeepsUnits (with_begun unit begun)
with_begun_keeps unit begun state = length-set state.begun unit begun

delivered_keeps : (unit : ℕ) (message : OutMessage) → KeepsUnits (λ state. deliver message (with_begun unit nothing_begun state))
delivered_keeps unit message state =
    ap length (deliver_begun message (with_begun unit nothing_begun state)) ∙ with_begun_keeps unit nothing_begun state

part_keeps : (unit : ℕ) (part : Part) (begun : Begun) → KeepsUnits (serve_part unit part begun)
part_keeps unit Portion begun state = with_begun_keeps unit begun state
part_keeps unit (Esi advance) begun state = with_begun_keeps unit (ended advance begun) state
part_keeps unit (Emi advance) begun state = delivered_keeps unit _ state
part_keeps unit (Egi advance) begun state = delivered_keeps unit _ state

pub serve_keeps : (unit : ℕ) (part : Part) (text : List ℕ) → KeepsUnits (serve unit part text)
serve_keeps unit part text state = at_begun (slice_get state.begun unit)
  where
    at_begun : (o : Option Begun) → length (serve_begun unit part text state o).begun ≡ length state.begun
    at_begun None = refl
    at_begun (Some begun) = part_keeps unit part (with_text text begun) state

pub switch_keeps : (on : Bool) → KeepsUnits (switch on)
switch_keeps true state = refl
switch_keeps false state = refl

changed_length : (found : Found) (change : DestinationState → DestinationState) (first : ℕ) (states : Outgoing)
    → length (changed found change first states) ≡ length states
changed_length found change first [] = refl
changed_length found change first (state ∷ states) = ap suc (changed_length found change (first + 1) states)

-- P of each destination, where a change keeps it
changed_all : (P : DestinationState → Type 0) (found : Found) (change : DestinationState → DestinationState)
    → ((state : DestinationState) → P state → P (change state)) → (first : ℕ) (states : Outgoing)
    → All P states → All P (changed found change first states)
changed_all P found change keeps first [] all = all
changed_all P found change keeps first (state ∷ states) all =
    All-cons P (changed_at found change first state) (changed found change (first + 1) states)
    (at_test (is_among found first) (all 0 state (omega arith)))
    (changed_all P found change keeps (first + 1) states (λ k d below. all (suc k) d (omega arith)))
  where
    at_test : (b : Bool) → P state → P (if b then change state else state)
    at_test true h = keeps state h
    at_test false h = h

-- a change keeps that terminals can be sent what goes to a destination
abbrev pub KeepsRenderable : (DestinationState → DestinationState) → Type 0
KeepsRenderable change = (state : DestinationState) → IsRenderableState state → IsRenderableState (change state)

-- how a unit's segments are written
abbrev BegunRenders : Begun → Type 0
BegunRenders begun = AreAdvances begun.segments

nothing_renders : BegunRenders nothing_begun
nothing_renders = All-nil (λ (segment : OutSegment). IsAdvance segment.advance)

pub begun_renders : (unit : ℕ) (begun : Begun) → BegunRenders begun → KeepsRenderable (with_begun unit begun)
begun_renders unit begun h state renders = record {
  begun = All-set BegunRenders state.begun unit begun h renders.begun;
  queued = renders.queued;
  sent = renders.sent;
}

deliver_renders : (message : OutMessage) → IsRenderable message → KeepsRenderable (deliver message)
deliver_renders message h state renders = at_flag state.on
  where
    at_flag : (on : Bool) → IsRenderableState (if on then record state { sent = state.sent ++ message ∷ [] } else record state { queued = state.queued ++ message ∷ [] })
    at_flag true = record { begun = renders.begun; queued = renders.queued; sent = All-push IsRenderable state.sent message renders.sent h }
    at_flag false = record { begun = renders.begun; queued = All-push IsRenderable state.queued message renders.queued h; sent = renders.sent }

-- the segment that ends is written with its advance
ended_renders : (advance : Advance) (begun : Begun) → IsAdvance advance → BegunRenders begun → BegunRenders (ended advance begun)
ended_renders advance begun may h =
    All-push (λ (segment : OutSegment). IsAdvance segment.advance) begun.segments (record { text = begun.text; advance = advance }) h may

part_renders : (unit : ℕ) (part : Part) (begun : Begun) → IfSome (advance_of part) IsAdvance → BegunRenders begun → KeepsRenderable (serve_part unit part begun)
part_renders unit Portion begun may h = begun_renders unit begun h
part_renders unit (Esi advance) begun may h = begun_renders unit (ended advance begun) (ended_renders advance begun may h)
part_renders unit (Emi advance) begun may h = λ state renders.
    deliver_renders (finished advance with_emi begun) (ended_renders advance begun may h) (with_begun unit nothing_begun state) (begun_renders unit nothing_begun nothing_renders state renders)
part_renders unit (Egi advance) begun may h = λ state renders.
    deliver_renders (finished advance with_egi begun) (ended_renders advance begun may h) (with_begun unit nothing_begun state) (begun_renders unit nothing_begun nothing_renders state renders)

-- what stands at a place stands in the list
pub within_list : {X : Type 0} → (xs : List X) (i : ℕ) (x : X) → slice_get xs i ≡ Some x → i < length xs
within_list [] i x is = absurd (none-some x is)
within_list (y ∷ xs) zero x is = omega arith
within_list (y ∷ xs) (suc i) x is = let rest = within_list xs i x is in omega arith

serve_renders : (unit : ℕ) (part : Part) (text : List ℕ) → IfSome (advance_of part) IsAdvance → KeepsRenderable (serve unit part text)
serve_renders unit part text may state renders = at_begun (slice_get state.begun unit) refl
  where
    at_begun : (o : Option Begun) → slice_get state.begun unit ≡ o → IsRenderableState (serve_begun unit part text state o)
    at_begun None is = renders
    at_begun (Some begun) is =
        let there : BegunRenders begun = subst BegunRenders (get_or_from_slice_get state.begun unit begun begun is) (renders.begun unit begun (within_list state.begun unit begun is)) in
        part_renders unit part (with_text text begun) may there state renders

switch_renders : (on : Bool) → KeepsRenderable (switch on)
switch_renders true state renders = record {
  begun = renders.begun;
  queued = All-nil IsRenderable;
  sent = All-append IsRenderable state.sent state.queued renders.sent renders.queued;
}
switch_renders false state renders = record { begun = renders.begun; queued = renders.queued; sent = renders.sent }

-- what holds of what is outgoing holds after each destination that is named was changed
are_for_each : (found : Found) (change : DestinationState → DestinationState) → KeepsUnits change → KeepsRenderable change
    → (destinations : List Destination) (units : ℕ) (outgoing : Outgoing)
    → AreFor destinations units outgoing → AreFor destinations units (at_each found change outgoing)
are_for_each found change keeps renders destinations units outgoing are = record {
  many = changed_length found change 0 outgoing ∙ are.many;
  begun = changed_all (HasUnits units) found change (λ state h. keeps state ∙ h) 0 outgoing are.begun;
  renderable = changed_all IsRenderableState found change renders 0 outgoing are.renderable;
}

pub are_for_served : (found : Found) (unit : ℕ) (part : Part) (text : List ℕ) → IfSome (advance_of part) IsAdvance
    → (destinations : List Destination) (units : ℕ) (outgoing : Outgoing)
    → AreFor destinations units outgoing → AreFor destinations units (at_each found (serve unit part text) outgoing)
are_for_served found unit part text may = are_for_each found (serve unit part text) (serve_keeps unit part text) (serve_renders unit part text may)

pub are_for_switched : (found : Found) (on : Bool) (destinations : List Destination) (units : ℕ) (outgoing : Outgoing)
    → AreFor destinations units outgoing → AreFor destinations units (at_each found (switch on) outgoing)
are_for_switched found on = are_for_each found (switch on) (switch_keeps on) (switch_renders on)

pub are_for_dropped : (unit : ℕ) (destinations : List Destination) (units : ℕ) (outgoing : Outgoing)
    → AreFor destinations units outgoing → AreFor destinations units (drop_unit unit outgoing)
are_for_dropped unit destinations units outgoing are = record {
  many = length-map outgoing (with_begun unit nothing_begun) ∙ are.many;
  begun = All-map (HasUnits units) (with_begun unit nothing_begun) outgoing
      (λ k d below. with_begun_keeps unit nothing_begun (get_or outgoing k d) ∙ are.begun k d below);
  renderable = All-map IsRenderableState (with_begun unit nothing_begun) outgoing
      (λ k d below. begun_renders unit nothing_begun nothing_renders (get_or outgoing k d) (are.renderable k d below));
}

opening_renders : (units : ℕ) (destination : Destination) → IsRenderableState (opening_state units destination)
opening_renders units destination = record {
  begun = All-replicate BegunRenders units nothing_begun nothing_renders;
  queued = All-nil IsRenderable;
  sent = All-nil IsRenderable;
}

pub are_for_opening : (destinations : List Destination) (units : ℕ) → AreFor destinations units (opening destinations units)
are_for_opening destinations units = record {
  many = length-map destinations (opening_state units);
  begun = All-map (HasUnits units) (opening_state units) destinations (λ k d below. length-replicate units nothing_begun);
  renderable = All-map IsRenderableState (opening_state units) destinations (λ k d below. opening_renders units (get_or destinations k d));
}

-- what was transmitted is what terminals can be sent
pub sent_renders : (outputs : List Output) (at : ℕ) (d : Output) → All IsRenderableState (states_of outputs) → at < length outputs
    → All IsRenderable (get_or outputs at d).sent.items
sent_renders outputs at d all within =
    let there : IsRenderableState (state_of (get_or outputs at d)) =
    subst IsRenderableState (get_or-map state_of outputs at d) (all at (state_of d) (rw (length-map outputs state_of) within)) in
    there.sent

-- a unit below their number has a place at each destination
pub units_within : (outputs : List Output) (units unit : ℕ) → All (HasUnits units) (states_of outputs) → unit < units
    → All (λ output. unit < length output.begun.items) outputs
units_within outputs units unit all below = λ k d within.
    let begun = λ (message : OpenMessage). message.begun in
    let seen : length (state_of (get_or outputs k d)).begun ≡ units =
    ap (λ (state : DestinationState). length state.begun) (sym (get_or-map state_of outputs k d)) ∙ all k (state_of d) (rw (length-map outputs state_of) within) in
    let kept = length-map (get_or outputs k d).begun.items begun in
    omega arith

-- the front that was written is all there is
pub whole : (new rest : List Output) (n : ℕ) → length new ≡ n → take n (new ++ rest) ≡ new
whole new rest n same = rw (← same) (take-append_seam new rest)

pub same_answer : (area area' : List ℕ) (outgoing outgoing' : Outgoing) → area ≡ area' → outgoing ≡ outgoing'
    → ◌≡◌ {A = Answer} (area, outgoing) (area', outgoing')
same_answer area area' outgoing outgoing' a o =
    ap (λ (x : List ℕ). (x, outgoing)) a ∙ ap (λ (x : Outgoing). (area', x)) o

-- a SEND that is served
pub send_served : (destinations : List Destination) (outgoing : Outgoing) (unit : ℕ) (area : List ℕ) (part : Part) (item : Option (List ℕ)) (found : Found) (text : List ℕ)
    → find_destinations destinations area ≡ Some found → sent_text area item ≡ Some text → is_nothing part text ≡ false
    → send destinations outgoing unit area part item ≡ send_to outgoing unit area part text found
send_served destinations outgoing unit area part item found text finds sends something =
    rw (finds, sends, something) refl

-- an ENABLE or DISABLE OUTPUT whose key is right
pub switch_served : (destinations : List Destination) (outgoing : Outgoing) (on : Bool) (area key : List ℕ) (found : Found)
    → find_destinations destinations area ≡ Some found → is_key_of_each found key destinations ≡ true
    → switch_output destinations outgoing on area key
    ≡ (with_keys found (switch_status found) area, at_each found (switch on) outgoing)
switch_served destinations outgoing on area key found finds right = rw (finds, right) refl
