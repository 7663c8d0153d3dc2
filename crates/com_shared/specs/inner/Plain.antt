-- What the party's own entries allow whatever the others did.
use Rattle.std.specs.Prelude.{◌≡◌, ◌<◌, ◌≤◌, ◌⊎◌, Bool, true, false, length, Some}
use Rattle.com_net.specs.declared.net.Net.{Net}
use Rattle.com_events.specs.declared.call.Call.{Call}
use Rattle.com_events.specs.declared.reply.Reply.{Reply}
use Rattle.com_events.specs.declared.reply.Reply.TheVariants.{AreaIn, AreaOut}
use Rattle.com_state.specs.Parties.{may_by_unit, may_by_terminal}
use Rattle.com_shared.specs.Passes.{PassOf, unit_now, terminal_now}

-- the party's mode and count alone allow the call
abbrev pub IsFree : Net → Call → PassOf → Type 0
IsFree net call pass =
    ((pass.number < length net.units)
    × (may_by_unit call (unit_now pass).mode (unit_now pass).verbs ≡ Some true))
    ⊎ ((length net.units ≤ pass.number)
    × (may_by_terminal call (terminal_now pass).mode (terminal_now pass).arrivals ≡ Some true))

-- the reply is an input area, and an output area
abbrev pub has_input : Reply → Bool
has_input (AreaIn area) = true
has_input _ = false

abbrev pub has_output : Reply → Bool
has_output (AreaOut area) = true
has_output _ = false
