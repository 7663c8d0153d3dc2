-- One look for what is to be received.
use Rattle.std.specs.Prelude.{◌≡◌, ℕ, Bool, true, false, List, Option, Some, None}
use Rattle.com_net.specs.declared.net.Net.{Net}
use Rattle.com_msg.specs.declared.rest.Kind.{Kind}
use Rattle.com_events.specs.declared.call.Call.TheVariants.{Receive, Stop}
use Rattle.com_events.specs.declared.call.StopReason.TheVariants as stop
use Rattle.com_events.specs.declared.reply.Reply.{Reply}
use Rattle.com_events.specs.declared.reply.Reply.TheVariants.{Given as GivenReply, NoData as NoDataReply, Refused as RefusedReply, Waits, Done}
use Rattle.com_state.specs.Answers.{is_ready}
use Rattle.com_state.specs.declared.parties.UnitMode.TheVariants.{Running}
use Rattle.com_shared.specs.declared.receive.Received.{Received}
use Rattle.com_shared.specs.declared.receive.Received.TheVariants as received
use Rattle.com_shared.specs.Passes.{PassOf, own, unit_now, EndsWith, IsMade, WasIdle, IsRoundOver}
use Rattle.com_shared.specs.Waits.{waits_entry}

-- the area that a reply to RECEIVE leaves
abbrev pub area_left : Reply → List ℕ → List ℕ
area_left (GivenReply left text) area = left
area_left (NoDataReply left) area = left
area_left (RefusedReply left) area = left
area_left _ area = area

-- what it says besides; None where the unit waits from now on
abbrev pub received_in : Reply → Option Received
received_in (GivenReply left text) = Some (received.Given text)
received_in (NoDataReply left) = Some received.NoData
received_in (RefusedReply left) = Some received.Refused
received_in _ = None

-- what one look comes to, and the area that it leaves; None where the unit waits from now on
abbrev pub HasLooked : Net → Bool → List ℕ → Kind → ℕ → Bool → PassOf → Option Received → List ℕ → PassOf → Type 0
HasLooked net active area kind size no_data before (Some (received.Given text)) left after =
    IsMade net (Receive area kind size no_data) (GivenReply left text) before after
    × (after.active ≡ active)
HasLooked net active area kind size no_data before (Some received.NoData) left after =
    IsMade net (Receive area kind size no_data) (NoDataReply left) before after
    × (no_data ≡ true) × (after.active ≡ active)
HasLooked net active area kind size no_data before (Some received.Refused) left after =
    IsMade net (Receive area kind size no_data) (RefusedReply left) before after
    × (after.active ≡ active)
HasLooked net active area kind size no_data before (Some received.Idle) left after =
    EndsWith (own before) (waits_entry net before.number area kind size)
    × IsMade net (Stop stop.Idle) Done before after × WasIdle net after
    × (left ≡ area) × (after.active ≡ active)
HasLooked net active area kind size no_data before (Some received.RoundOver) left after =
    EndsWith (own before) (waits_entry net before.number area kind size)
    × (own after ≡ own before) × IsRoundOver net (λ S. is_ready S before.number area) after
    × (left ≡ area)
HasLooked net active area kind size no_data before None left after =
    ((unit_now before).mode ≡ Running) × (no_data ≡ false)
    × IsMade net (Receive area kind size false) Waits before after
    × (left ≡ area) × (after.active ≡ active)

-- want of memory
abbrev pub HasNotLooked : Bool → List ℕ → PassOf → List ℕ → PassOf → Type 0
HasNotLooked active area before left after =
    (own after ≡ own before) × (left ≡ area) × (after.active ≡ active)
