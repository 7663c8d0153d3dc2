-- What a terminal is sent, as bytes.
use Rattle.std.specs.Prelude.{ℕ, List, [], Option, unwrap_or, option_and_then, option_map}
use Rattle.std.specs.List.{flat_map}
use Rattle.com_msg.specs.declared.sending.OutMessage.{OutMessage}
use Rattle.com_msg.specs.Rendering.{rendered_message}
use Rattle.com_net.specs.declared.net.Net.{Net}
use Rattle.com_events.specs.declared.entry.Entry.{Entry}
use Rattle.com_send.specs.Outgoing.{Outgoing, transmitted_to}
use Rattle.com_state.specs.State.{State}
use Rattle.com_state.specs.Histories.{state_after}

-- all that was transmitted, terminal by terminal
abbrev pub sent_in : Outgoing → List OutMessage
sent_in outgoing = flat_map (λ destination. destination.sent) outgoing

-- all that a history transmits, terminal by terminal, where its calls can be done
abbrev pub sent_by : Net → List Entry → List OutMessage
sent_by net history =
    unwrap_or (option_map (λ S. sent_in S.outgoing) (state_after net history)) []

-- what was transmitted to a terminal, where there is one
abbrev pub sent_to : State → ℕ → Option (List OutMessage)
sent_to S terminal = transmitted_to S.outgoing terminal

-- what a history transmits to a terminal, one message after another
abbrev pub transcript_of : Net → List Entry → ℕ → List ℕ
transcript_of net history terminal =
    flat_map rendered_message
    (unwrap_or (option_and_then (λ S. sent_to S terminal) (state_after net history)) [])
