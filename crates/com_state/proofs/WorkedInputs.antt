-- Worked histories of ENABLE INPUT and DISABLE INPUT, and of messages that cannot come in.
use Rattle.std.specs.Prelude.{ℕ, Bool, true, false, List, [], ◌∷◌, ◌++◌, codes, refl}
use Rattle.com_events.specs.declared.call.Party.{Party}
use Rattle.com_events.specs.declared.call.Call.{Call}
use Rattle.com_events.specs.declared.entry.Entry.{Entry}
use Rattle.com_state.specs.Steps.{step}
use Rattle.com_state.specs.Histories.{IsRun}
use Rattle.com_msg.specs.declared.message.End.TheVariants as ending
use Rattle.com_events.specs.declared.call.Party.TheVariants as party
use Rattle.com_events.specs.declared.call.StopReason.TheVariants as stop
use Rattle.com_events.specs.declared.call.EndReason.TheVariants as finish
use Rattle.com_events.specs.declared.call.Call.TheVariants as call
use Rattle.com_events.specs.declared.reply.Reply.TheVariants as reply
use Rattle.com_state.proofs.WorkedNets.{Enables, Takes, Excludes, by_unit, by_terminal, n1, closed_net, two_trees_net}
use Rattle.com_state.proofs.WorkedReceives.{stamp, arrives, starts, q1_names, no_origin, area_of, q1_area, arrives_from, named}

abbrev pub held_first : List Entry
held_first = by_terminal (codes "T1") call.Held reply.Done ∷ []

-- the message of a terminal cannot come in, and then can
abbrev pub held_arrival : List Entry
held_arrival = held_first ++ (
    starts (codes "ECHO")
    ∷ by_unit (codes "ECHO") (call.SwitchInput true false q1_area (codes "QPASS"))
    (reply.AreaIn q1_area)
    ∷ arrives (codes "HELLO" ∷ []) ending.Emi 1
    ∷ []
    )

abbrev pub echo_party : Party
echo_party = party.Unit (codes "ECHO")

abbrev pub t1_party : Party
t1_party = party.Terminal (codes "T1")

-- ENABLE and DISABLE INPUT
abbrev pub switches : Bool → List ℕ → List ℕ → List ℕ → Entry
switches on names key status = by_unit (codes "ECHO")
    (call.SwitchInput on false (named names (codes "00")) key) (reply.AreaIn (named names status))

abbrev pub no_names : List ℕ
no_names = codes "                                                "

-- an area that names a terminal, with a status
abbrev pub sourced : List ℕ → List ℕ → List ℕ
sourced source status =
    area_of no_names (codes "00000000000000" ++ source)
    (codes "00000" ++ (status ++ codes "000000"))

-- ENABLE and DISABLE INPUT TERMINAL
abbrev pub switches_source : Bool → List ℕ → List ℕ → List ℕ → Entry
switches_source on source key status = by_unit (codes "ECHO")
    (call.SwitchInput on true (sourced source (codes "00")) key)
    (reply.AreaIn (sourced source status))

abbrev pub holds : List ℕ → Entry
holds terminal = by_terminal terminal call.Held reply.Done

abbrev pub t1_source : List ℕ
t1_source = codes "T1          "

-- the queue and then the terminal are disabled, with wrong keys and names before
abbrev pub input_off : List Entry
input_off =
    starts (codes "ECHO")
    ∷ switches false q1_names (codes "WRONG") (codes "40")
    ∷ switches false (codes "NOPE                                            ") (codes "QPASS")
    (codes "20")
    ∷ switches false q1_names (codes "QPASS") (codes "00")
    ∷ holds (codes "T1")
    ∷ switches_source false (codes "NOPE        ") (codes "TPASS") (codes "20")
    ∷ switches_source false t1_source (codes "QPASS") (codes "40")
    ∷ switches_source false t1_source (codes "TPASS") (codes "00")
    ∷ switches true q1_names (codes "QPASS     ") (codes "00")
    ∷ []

abbrev pub input_switched : List Entry
input_switched = input_off ++ (
    switches_source true t1_source (codes "TPASS     ") (codes "00")
    ∷ arrives (codes "HELLO" ∷ []) ending.Emi 1
    ∷ []
    )

abbrev pub arrival : List ℕ → Call
arrival text = call.Arrive stamp (record { segments = text ∷ []; end = ending.Emi })

abbrev pub orders_names : List ℕ
orders_names = codes "ORDERS                                          "

abbrev pub a_names : List ℕ
a_names = codes "ORDERS      NORTH       A                       "

abbrev pub q2_names : List ℕ
q2_names = codes "Q2                                              "

-- ACCEPT MESSAGE COUNT
abbrev pub counts : List ℕ → List ℕ → List ℕ → Entry
counts names status count = by_unit (codes "ECHO") (call.Count (named names (codes "00")))
    (reply.AreaIn (area_of names no_origin (codes "00000" ++ (status ++ count))))

-- ENABLE and DISABLE of the leaves under a node, and how many messages wait there
abbrev pub trees_switched : List Entry
trees_switched =
    starts (codes "ECHO")
    ∷ switches false a_names (codes "QPASS") (codes "40")
    ∷ switches false a_names (codes "OPASS") (codes "00")
    ∷ holds (codes "TA1")
    ∷ holds (codes "TA2")
    ∷ arrives_from (codes "TB1") (codes "ONE") 1
    ∷ arrives_from (codes "TQ2") (codes "TWO") 2
    ∷ switches false q2_names (codes "OPASS") (codes "40")
    ∷ switches false q2_names (codes "QPASS") (codes "00")
    ∷ holds (codes "TQ2")
    ∷ switches false orders_names (codes "OPASS") (codes "00")
    ∷ holds (codes "TB1")
    ∷ switches true (codes "ORDERS      NORTH       A           A2          ") (codes "OPASS")
    (codes "00")
    ∷ arrives_from (codes "TA2") (codes "THREE") 3
    ∷ counts orders_names (codes "00") (codes "000002")
    ∷ counts a_names (codes "00") (codes "000001")
    ∷ counts (codes "ORDERS      NORTH       B           B2          ") (codes "00")
    (codes "000000")
    ∷ counts q2_names (codes "00") (codes "000001")
    ∷ counts (codes "ORDERS      Q2                                  ") (codes "20")
    (codes "000000")
    ∷ []

-- a terminal whose message can never come in ends when nothing can happen any more
abbrev pub shut_out : List Entry
shut_out = held_first ++ (
    starts (codes "ECHO")
    ∷ by_unit (codes "ECHO") (call.Stop stop.Run) reply.Done
    ∷ by_terminal (codes "T1") (call.Finish finish.Idle) reply.Done
    ∷ []
    )

-- the queue was enabled, so the message can still come in when the unit has stopped
abbrev pub let_in : List Entry
let_in = held_first ++ (
    starts (codes "ECHO")
    ∷ switches true q1_names (codes "QPASS") (codes "00")
    ∷ by_unit (codes "ECHO") (call.Stop stop.Run) reply.Done
    ∷ []
    )

-- a message that cannot come in until its queue is enabled
held_and_let_in : IsRun closed_net held_arrival
unfolding step
held_and_let_in = refl

held_once : Excludes closed_net held_first (party.Terminal (codes "T1")) call.Held
unfolding step
held_once = refl

not_held_when_open : Excludes closed_net held_arrival (party.Terminal (codes "T1")) call.Held
unfolding step
not_held_when_open = refl

-- ENABLE and DISABLE of a queue and of a terminal
queue_and_terminal : IsRun n1 input_switched
unfolding step
queue_and_terminal = refl

shut_by_the_terminal : Excludes n1 input_off t1_party (arrival (codes "HELLO"))
unfolding step
shut_by_the_terminal = refl

-- ENABLE and DISABLE of a part of a tree, and how many messages wait under it
parts_of_trees : IsRun two_trees_net trees_switched
unfolding step
parts_of_trees = refl

parts_of_trees_enabled : Enables two_trees_net trees_switched (false ∷ true ∷ false ∷ false ∷ false ∷ [])
unfolding step
parts_of_trees_enabled = refl

parts_of_trees_arrived : Takes two_trees_net trees_switched (0 ∷ 1 ∷ 1 ∷ 1 ∷ [])
unfolding step
parts_of_trees_arrived = refl

-- a terminal whose message can never come in
never_let_in : IsRun closed_net shut_out
unfolding step
never_let_in = refl

held_is_not_idle : Excludes closed_net held_first t1_party (call.Finish finish.Idle)
unfolding step
held_is_not_idle = refl

held_is_not_at_end : Excludes closed_net held_first t1_party (call.Finish finish.End)
unfolding step
held_is_not_at_end = refl

ended_holds_nothing : Excludes closed_net shut_out t1_party call.Held
unfolding step
ended_holds_nothing = refl

still_to_come : IsRun closed_net let_in
unfolding step
still_to_come = refl

still_to_come_is_not_idle : Excludes closed_net let_in t1_party (call.Finish finish.Idle)
unfolding step
still_to_come_is_not_idle = refl
