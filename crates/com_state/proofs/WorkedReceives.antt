-- Worked histories of RECEIVE and ACCEPT MESSAGE COUNT.
use Rattle.std.specs.Prelude.{ℕ, Bool, true, false, List, [], ◌∷◌, ◌++◌, Some, None, codes, refl}
use Rattle.com_msg.specs.Stamp.{Moment}
use Rattle.com_msg.specs.declared.message.End.{End}
use Rattle.com_msg.specs.declared.rest.Kind.{Kind}
use Rattle.com_events.specs.declared.entry.Entry.{Entry}
use Rattle.com_state.specs.Steps.{step}
use Rattle.com_state.specs.Histories.{IsRun}
use Rattle.com_msg.specs.declared.message.End.TheVariants as ending
use Rattle.com_msg.specs.declared.rest.Kind.TheVariants as kind
use Rattle.com_events.specs.declared.call.StopReason.TheVariants as stop
use Rattle.com_events.specs.declared.call.Call.TheVariants as call
use Rattle.com_events.specs.declared.reply.Reply.TheVariants as reply
use Rattle.com_state.proofs.WorkedNets.{Holds, Counts, handed, HandsOut, Brings, by_unit, by_terminal, n1, two_units_net, orders_net, uneven_net}

abbrev pub stamp : Moment
stamp = record { date = codes "740601"; time = codes "10203000" }

-- a message of T1 comes in
abbrev pub arrives : List (List ℕ) → End → ℕ → Entry
arrives segments end number = by_terminal (codes "T1")
    (call.Arrive stamp (record { segments = segments; end = end })) (reply.Arrived number)

abbrev pub starts : List ℕ → Entry
starts name = by_unit name call.Start (reply.Started None)

-- the four names of Q1
abbrev pub q1_names : List ℕ
q1_names = codes "Q1                                              "

-- date, time and source before the first message
abbrev pub no_origin : List ℕ
no_origin = codes "00000000000000            "

-- date, time and source of a message of T1
abbrev pub t1_origin : List ℕ
t1_origin = codes "74060110203000T1          "

-- An input area: its names, its origin, and its length, end key, status and count.
abbrev pub area_of : List ℕ → List ℕ → List ℕ → List ℕ
area_of names origin result = names ++ (origin ++ result)

-- nothing was received from Q1
abbrev pub q1_area : List ℕ
q1_area = area_of q1_names no_origin (codes "0000000000000")

-- the area that tells of a portion from Q1
abbrev pub q1_given : List ℕ → List ℕ
q1_given result = area_of q1_names t1_origin result

-- RECEIVE, with NO DATA or without, is given a text
abbrev pub gets : List ℕ → List ℕ → Kind → ℕ → Bool → List ℕ → List ℕ → Entry
gets name area kind size no_data result text =
    by_unit name (call.Receive area kind size no_data) (reply.Given (q1_given result) text)

-- ECHO asks for a portion of Q1
abbrev pub echo_gets : Kind → ℕ → List ℕ → List ℕ → Entry
echo_gets kind size result text = gets (codes "ECHO") q1_area kind size true result text

-- ABCDEFGHIJKL in portions of five
abbrev pub portions_of_five : List Entry
portions_of_five =
    arrives (codes "ABCDEFGHIJKL" ∷ []) ending.Emi 1
    ∷ starts (codes "ECHO")
    ∷ echo_gets kind.Message 5 (codes "0005000000000") (codes "ABCDE")
    ∷ echo_gets kind.Message 5 (codes "0005000000000") (codes "FGHIJ")
    ∷ echo_gets kind.Message 5 (codes "0002200000000") (codes "KL")
    ∷ []

-- messages with an empty segment
abbrev pub empty_segments : List Entry
empty_segments =
    arrives ([] ∷ []) ending.Emi 1
    ∷ arrives ([] ∷ codes "AB" ∷ []) ending.Egi 2
    ∷ starts (codes "ECHO")
    ∷ echo_gets kind.Message 10 (codes "0000200000000") []
    ∷ echo_gets kind.Segment 10 (codes "0000100000000") []
    ∷ echo_gets kind.Segment 10 (codes "0002300000000") (codes "AB")
    ∷ []

-- a message of three segments, the second of them empty, by turns as a message and by segments
abbrev pub mixed_portions : List Entry
mixed_portions =
    arrives (codes "AB" ∷ [] ∷ codes "CDE" ∷ []) ending.Emi 1
    ∷ starts (codes "ECHO")
    ∷ echo_gets kind.Message 2 (codes "0002000000000") (codes "AB")
    ∷ echo_gets kind.Segment 5 (codes "0000100000000") []
    ∷ echo_gets kind.Message 2 (codes "0002000000000") (codes "CD")
    ∷ echo_gets kind.Segment 1 (codes "0001200000000") (codes "E")
    ∷ []

-- an area that designates nothing gets status 20 and no other change
abbrev pub is_refused : Bool → List ℕ → Entry
is_refused no_data names = by_unit (codes "ECHO")
    (call.Receive (area_of names no_origin (codes "0000000000000")) kind.Message 5 no_data)
    (reply.Refused (area_of names no_origin (codes "0000020000000")))

-- a level left out, and a name that is none
abbrev pub unknown_designation : List Entry
unknown_designation =
    starts (codes "ECHO")
    ∷ is_refused true (codes "Q1                      X                       ")
    ∷ is_refused false (codes "Q1          NOPE                                ")
    ∷ []

-- the first unit has begun a message, and stops
abbrev pub two_units : List Entry
two_units =
    starts (codes "U1")
    ∷ starts (codes "U2")
    ∷ arrives (codes "ABCDEFGH" ∷ []) ending.Emi 1
    ∷ arrives (codes "XY" ∷ []) ending.Emi 2
    ∷ gets (codes "U1") q1_area kind.Message 5 true (codes "0005000000000") (codes "ABCDE")
    ∷ by_unit (codes "U2") (call.Count q1_area)
    (reply.AreaIn (area_of q1_names no_origin (codes "0000000000001")))
    ∷ gets (codes "U2") (area_of q1_names no_origin (codes "0000000000001")) kind.Message 5 true
    (codes "0002200000001") (codes "XY")
    ∷ by_unit (codes "U1") (call.Stop stop.Run) reply.Done
    ∷ by_unit (codes "U2") (call.Receive (q1_given (codes "0002200000001")) kind.Message 5 true)
    (reply.NoData (q1_given (codes "0000000000001")))
    ∷ []

abbrev pub arrives_from : List ℕ → List ℕ → ℕ → Entry
arrives_from terminal text number = by_terminal terminal
    (call.Arrive stamp (record { segments = text ∷ []; end = ending.Emi })) (reply.Arrived number)

-- ECHO asks for a message of ORDERS, NORTH
abbrev pub north_gives : List ℕ → List ℕ → List ℕ → List ℕ → Entry
north_gives names origin result text = by_unit (codes "ECHO")
    (call.Receive (area_of (codes "ORDERS      NORTH                               ") no_origin
    (codes "0000000000000")) kind.Message 20 true)
    (reply.Given (area_of names origin result) text)

-- of two leaves of one node the first as written, of two nodes the one with the older message
abbrev pub tree_order : List Entry
tree_order =
    starts (codes "ECHO")
    ∷ arrives_from (codes "TA2") (codes "FIRST") 1
    ∷ arrives_from (codes "TB1") (codes "SECOND") 2
    ∷ arrives_from (codes "TA1") (codes "THIRD") 3
    ∷ north_gives (codes "ORDERS      NORTH       B           B1          ")
    (codes "74060110203000TB1         ") (codes "0006200000000") (codes "SECOND")
    ∷ north_gives (codes "ORDERS      NORTH       A           A1          ")
    (codes "74060110203000TA1         ") (codes "0005200000000") (codes "THIRD")
    ∷ north_gives (codes "ORDERS      NORTH       A           A2          ")
    (codes "74060110203000TA2         ") (codes "0005200000000") (codes "FIRST")
    ∷ []

-- an area that names a queue, with a status
abbrev pub named : List ℕ → List ℕ → List ℕ
named names status = area_of names no_origin (codes "00000" ++ (status ++ codes "000000"))

-- ECHO asks for a message of TOP
abbrev pub top_gives : List ℕ → List ℕ → List ℕ → Entry
top_gives names source text = by_unit (codes "ECHO")
    (call.Receive (named (codes "TOP                                             ")
    (codes "00")) kind.Message 20 true)
    (reply.Given (area_of names (codes "74060110203000" ++ source) (codes "0001200000000")) text)

abbrev pub uneven_order : List Entry
uneven_order =
    starts (codes "ECHO")
    ∷ arrives_from (codes "TP") (codes "1") 1
    ∷ arrives_from (codes "TN2") (codes "2") 2
    ∷ arrives_from (codes "TN1") (codes "3") 3
    ∷ arrives_from (codes "TM") (codes "4") 4
    ∷ top_gives (codes "TOP         M                                   ")
    (codes "TM          ") (codes "4")
    ∷ by_unit (codes "S") call.Start
    (reply.Started (Some (codes "TOP         N           N2                      ")))
    ∷ top_gives (codes "TOP         N           N2                      ")
    (codes "TN2         ") (codes "2")
    ∷ top_gives (codes "TOP         N           N1                      ")
    (codes "TN1         ") (codes "3")
    ∷ top_gives (codes "TOP         P                                   ")
    (codes "TP          ") (codes "1")
    ∷ []

-- of a tree of four levels, a node low down takes nothing from the branch beside it, and the top
-- takes from the lowest level
abbrev pub four_levels : List Entry
four_levels =
    starts (codes "ECHO")
    ∷ arrives_from (codes "TB1") (codes "ONE") 1
    ∷ by_unit (codes "ECHO")
    (call.Receive (named (codes "ORDERS      NORTH       A                       ")
    (codes "00")) kind.Message 20 true)
    (reply.NoData (named (codes "ORDERS      NORTH       A                       ") (codes "00")))
    ∷ by_unit (codes "ECHO")
    (call.Receive (named (codes "ORDERS                                          ")
    (codes "00")) kind.Message 20 true)
    (reply.Given (area_of (codes "ORDERS      NORTH       B           B1          ")
    (codes "74060110203000TB1         ") (codes "0003200000000")) (codes "ONE"))
    ∷ []

-- ECHO asks for characters under a node
abbrev pub under_gives : List ℕ → ℕ → List ℕ → List ℕ → List ℕ → List ℕ → Entry
under_gives asked size names source result text = by_unit (codes "ECHO")
    (call.Receive (named asked (codes "00")) kind.Message size true)
    (reply.Given (area_of names (codes "74060110203000" ++ source) result) text)

abbrev pub p_names : List ℕ
p_names = codes "TOP         P                                   "

abbrev pub n1_names : List ℕ
n1_names = codes "TOP         N           N1                      "

abbrev pub top_names : List ℕ
top_names = codes "TOP                                             "

-- of two rests the one on the first leaf goes on, and both before a message that waits
abbrev pub several_rests : List Entry
several_rests =
    starts (codes "ECHO")
    ∷ arrives_from (codes "TP") (codes "ABC") 1
    ∷ arrives_from (codes "TN1") (codes "XYZ") 2
    ∷ arrives_from (codes "TM") (codes "M") 3
    ∷ under_gives p_names 1 p_names (codes "TP          ") (codes "0001000000000") (codes "A")
    ∷ under_gives n1_names 1 n1_names (codes "TN1         ") (codes "0001000000000") (codes "X")
    ∷ under_gives top_names 1 n1_names (codes "TN1         ") (codes "0001000000000") (codes "Y")
    ∷ under_gives top_names 9 n1_names (codes "TN1         ") (codes "0001200000000") (codes "Z")
    ∷ under_gives top_names 9 p_names (codes "TP          ") (codes "0002200000000") (codes "BC")
    ∷ under_gives top_names 9 (codes "TOP         M                                   ")
    (codes "TM          ") (codes "0001200000000") (codes "M")
    ∷ []

-- the rest on the first leaf goes on, also where the other was begun later
abbrev pub later_rest : List Entry
later_rest =
    starts (codes "ECHO")
    ∷ arrives_from (codes "TP") (codes "ABC") 1
    ∷ arrives_from (codes "TN1") (codes "XYZ") 2
    ∷ under_gives n1_names 1 n1_names (codes "TN1         ") (codes "0001000000000") (codes "X")
    ∷ under_gives p_names 1 p_names (codes "TP          ") (codes "0001000000000") (codes "A")
    ∷ under_gives top_names 1 n1_names (codes "TN1         ") (codes "0001000000000") (codes "Y")
    ∷ []

-- a message of 12 characters in portions of five
in_portions_of_five : IsRun n1 portions_of_five
unfolding step
in_portions_of_five = refl

-- an empty segment is given with its own end key
with_empty_segments : IsRun n1 empty_segments
unfolding step
with_empty_segments = refl

-- a message as a whole and by its segments, by turns
by_turns : IsRun n1 mixed_portions
unfolding step
by_turns = refl

-- a RECEIVE whose names designate no queue changes the status key alone
designating_nothing : IsRun n1 unknown_designation
unfolding step
designating_nothing = refl

-- the message that a unit has begun is no other unit's, and is gone when the unit stops
of_two_units : IsRun two_units_net two_units
unfolding step
of_two_units = refl

verbs_of_two_units : Counts two_units_net two_units (1 ∷ 3 ∷ [])
unfolding step
verbs_of_two_units = refl

nothing_held : Holds two_units_net two_units []
unfolding step
nothing_held = refl

-- a tree of four levels chooses by the order of writing and by the order of arrival
by_the_tree : IsRun orders_net tree_order
unfolding step
by_the_tree = refl

-- a node takes nothing from outside its branch, and from each level of it
by_each_level : IsRun orders_net four_levels
unfolding step
by_each_level = refl

-- a tree whose leaves stand at several levels
by_an_uneven_tree : IsRun uneven_net uneven_order
unfolding step
by_an_uneven_tree = refl

-- what a unit holds goes on before what waits
rests_first : IsRun uneven_net several_rests
unfolding step
rests_first = refl

first_leaf_first : IsRun uneven_net later_rest
unfolding step
first_leaf_first = refl

-- each portion is of one message, from one leaf, for one unit
one_message_handed : HandsOut n1 portions_of_five
    (handed 0 0 1 (codes "ABCDE") 48 ∷ handed 0 0 1 (codes "FGHIJ") 48 ∷ handed 0 0 1 (codes "KL") 50 ∷ [])
unfolding step
one_message_handed = refl

two_units_handed : HandsOut two_units_net two_units (handed 0 0 1 (codes "ABCDE") 48 ∷ handed 1 0 2 (codes "XY") 50 ∷ [])
unfolding step
two_units_handed = refl

several_rests_handed : HandsOut uneven_net several_rests
    (handed 0 3 1 (codes "A") 48 ∷ handed 0 1 2 (codes "X") 48 ∷ handed 0 1 2 (codes "Y") 48
    ∷ handed 0 1 2 (codes "Z") 50 ∷ handed 0 3 1 (codes "BC") 50 ∷ handed 0 0 3 (codes "M") 50 ∷ [])
unfolding step
several_rests_handed = refl

-- the messages of a leaf, by their numbers among all arrivals
on_one_leaf : Brings two_units_net two_units 0 (1 ∷ 2 ∷ [])
unfolding step
on_one_leaf = refl

on_the_first_leaf : Brings orders_net tree_order 0 (3 ∷ [])
unfolding step
on_the_first_leaf = refl

on_the_second_leaf : Brings orders_net tree_order 1 (1 ∷ [])
unfolding step
on_the_second_leaf = refl

on_the_third_leaf : Brings orders_net tree_order 2 (2 ∷ [])
unfolding step
on_the_third_leaf = refl

on_the_fourth_leaf : Brings orders_net tree_order 3 []
unfolding step
on_the_fourth_leaf = refl
