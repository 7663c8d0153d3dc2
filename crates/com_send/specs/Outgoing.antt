-- What is begun, queued and transmitted, destination by destination.
use Rattle.std.specs.Prelude.{◌≡◌, ℕ, Bool, List, [], length, map, replicate, Option, option_map, option_and_then, slice_get, slice_set}
use Rattle.std.specs.List.{All}
use Rattle.com_msg.specs.Begun.{Begun, nothing_begun}
use Rattle.com_msg.specs.Rendering.{IsAdvance, IsRenderable}
use Rattle.com_msg.specs.declared.sending.OutSegment.{OutSegment}
use Rattle.com_msg.specs.declared.sending.OutMessage.{OutMessage}
use Rattle.com_send.specs.declared.destination.Destination.{Destination}

-- A destination. Units are named by their numbers, from 0.
pub record DestinationState : Type 0 where
  -- whether its output is enabled
  pub on : Bool
  -- what each unit has begun to send to it
  pub begun : List Begun
  -- finished while its output was disabled, in order
  pub queued : List OutMessage
  -- transmitted, in order
  pub sent : List OutMessage

-- All destinations, in their order.
abbrev pub Outgoing : Type 0
Outgoing = List DestinationState

-- What contracts see of `Outs`: the destinations, which no call changes, how many units send to
-- them, and what is outgoing.
pub record Outputs : Type 0 where
  pub destinations : List Destination
  pub units : ℕ
  pub outgoing : Outgoing

-- every advance of these segments is one that a terminal may make
abbrev pub AreAdvances : List OutSegment → Type 0
AreAdvances segments = All (λ segment. IsAdvance segment.advance) segments

-- what goes to a destination is what a terminal can be sent
pub record IsRenderableState (state : DestinationState) : Type 0 where
  pub begun : All (λ begun. AreAdvances begun.segments) state.begun
  pub queued : All IsRenderable state.queued
  pub sent : All IsRenderable state.sent

-- What holds of what is outgoing: it is so for each destination and each unit, and terminals can be
-- sent it.
pub record AreFor (destinations : List Destination) (units : ℕ) (outgoing : Outgoing) : Type 0 where
  pub many : length outgoing ≡ length destinations
  pub begun : All (λ state. length state.begun ≡ units) outgoing
  pub renderable : All IsRenderableState outgoing

-- a destination at the beginning, for so many units
abbrev pub opening_state : ℕ → Destination → DestinationState
opening_state units destination = record {
  on = destination.on;
  begun = replicate units nothing_begun;
  queued = [];
  sent = [];
}

-- nothing is begun, queued or transmitted
abbrev pub opening : List Destination → ℕ → Outgoing
opening destinations units = map (opening_state units) destinations

-- what a unit has begun to send to a destination, where there are both
abbrev pub begun_for : Outgoing → ℕ → ℕ → Option Begun
begun_for outgoing unit destination =
    option_and_then (λ state. slice_get state.begun unit) (slice_get outgoing destination)

-- the messages that were transmitted to a destination, where there is one
abbrev pub transmitted_to : Outgoing → ℕ → Option (List OutMessage)
transmitted_to outgoing destination =
    option_map (λ state. state.sent) (slice_get outgoing destination)

-- whether each destination is enabled
abbrev pub output_flags : Outgoing → List Bool
output_flags outgoing = map (λ state. state.on) outgoing

-- the unit has begun this
abbrev pub with_begun : ℕ → Begun → DestinationState → DestinationState
with_begun unit begun state = record state { begun = slice_set state.begun unit begun }

-- what a unit has begun is gone, at every destination
abbrev pub drop_unit : ℕ → Outgoing → Outgoing
drop_unit unit outgoing = map (with_begun unit nothing_begun) outgoing
