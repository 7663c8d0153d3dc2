-- The verbs of a unit in a state, by shorter names.
use Rattle.std.specs.Prelude.{ℕ, Bool, List, Option}
use Rattle.com_msg.specs.declared.rest.Kind.{Kind}
use Rattle.com_msg.specs.declared.sending.Part.{Part}
use Rattle.com_tree.specs.declared.tree.Node.{Node}
use Rattle.com_events.specs.declared.reply.Reply.{Reply}
use Rattle.com_recv.specs.Receiving.{Next, next_rest, give, receive_next, receive}
use Rattle.com_send.specs.Sending.{send}
use Rattle.com_send.specs.Switching.{switch_output}
use Rattle.com_state.specs.State.{State, destinations_of}
use Rattle.com_state.specs.Answers.{received, answered}

-- what a RECEIVE goes on with
abbrev pub next_in : State → ℕ → Node → Option Next
next_in S unit node = next_rest S.net.tree S.incoming unit node

-- one portion is given
abbrev pub give_in : State → ℕ → List ℕ → Kind → ℕ → Next → Reply × State
give_in S unit area kind size next = received S (give S.net.tree S.incoming unit area kind size next)

-- what is gone on with is given, and otherwise there is no data
abbrev pub receive_next_in : State → ℕ → List ℕ → Kind → ℕ → Option Next → Reply × State
receive_next_in S unit area kind size found = received S (receive_next S.net.tree S.incoming unit area kind size found)

-- RECEIVE
abbrev pub receive_in : State → ℕ → List ℕ → Kind → ℕ → Reply × State
receive_in S unit area kind size = received S (receive S.net.tree S.incoming unit area kind size)

-- SEND
abbrev pub send_in : State → ℕ → List ℕ → Part → Option (List ℕ) → Reply × State
send_in S unit area part item = answered S (send (destinations_of S.net) S.outgoing unit area part item)

-- ENABLE OUTPUT and DISABLE OUTPUT
abbrev pub switch_output_in : State → Bool → List ℕ → List ℕ → Reply × State
switch_output_in S on area key = answered S (switch_output (destinations_of S.net) S.outgoing on area key)
