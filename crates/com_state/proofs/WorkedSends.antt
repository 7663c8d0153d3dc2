-- Worked histories of SEND, ENABLE OUTPUT and DISABLE OUTPUT.
use Rattle.std.specs.Prelude.{ℕ, Bool, true, false, List, [], ◌∷◌, ◌++◌, Option, Some, None, codes, refl}
use Rattle.com_msg.specs.Begun.{Begun, nothing_begun}
use Rattle.com_msg.specs.declared.sending.Part.{Part}
use Rattle.com_msg.specs.declared.sending.OutSegment.{OutSegment}
use Rattle.com_msg.specs.declared.sending.OutMessage.{OutMessage}
use Rattle.com_events.specs.declared.entry.Entry.{Entry}
use Rattle.com_state.specs.Steps.{step}
use Rattle.com_state.specs.Histories.{IsRun}
use Rattle.com_msg.specs.declared.message.End.TheVariants as ending
use Rattle.com_msg.specs.declared.sending.Advance.TheVariants as advance
use Rattle.com_msg.specs.declared.sending.Part.TheVariants as part
use Rattle.com_events.specs.declared.call.StopReason.TheVariants as stop
use Rattle.com_events.specs.declared.call.Call.TheVariants as call
use Rattle.com_events.specs.declared.reply.Reply.TheVariants as reply
use Rattle.com_state.proofs.WorkedNets.{Outputs, Delivers, Begins, Prints, by_unit, n1, two_units_net, two_terminals_net}
use Rattle.com_state.proofs.WorkedReceives.{starts}

-- ECHO sends a part, and the area says what became of it
abbrev pub sends : List ℕ → Part → Option (List ℕ) → List ℕ → Entry
sends area part item after = by_unit (codes "ECHO") (call.Send area part item) (reply.AreaOut after)

-- a message of one segment, one line below what stands before it
abbrev pub one_line : List ℕ → OutMessage
one_line text = record {
  segments = record { text = text; advance = advance.After 1 } ∷ [];
  end = ending.Emi;
}

-- four destinations: one is no terminal, one is not enabled, and one stands there twice
abbrev pub unknown_destination : List Entry
unknown_destination =
    starts (codes "ECHO")
    ∷ sends
    (codes "00040002000T1          0NOPE        0T2          0T1          ")
    (part.Emi (advance.After 1)) (Some (codes "OK"))
    (codes "00040002200T1          1NOPE        0T2          0T1          ")
    ∷ []

-- a portion goes, and the unit stops before it ends the message
abbrev pub purged_portion : List Entry
purged_portion =
    starts (codes "ECHO")
    ∷ sends (codes "00010005000T1          ") part.Portion (Some (codes "HELLO"))
    (codes "00010005000T1          ")
    ∷ []

abbrev pub purged_at_stop : List Entry
purged_at_stop = purged_portion ++ by_unit (codes "ECHO") (call.Stop stop.Run) reply.Done ∷ []

abbrev pub hello_begun : Begun
hello_begun = record { segments = []; text = codes "HELLO" }

-- seven destinations that are not used
abbrev pub seven_unused : List ℕ
seven_unused = codes "0            0            0            0            "
    ++ codes "0            0            0            "

-- count, length and status, and then eight destinations
abbrev pub eight : List ℕ → List ℕ
eight front = front ++ (codes "0T1          " ++ seven_unused)

abbrev pub sends_hello : List ℕ → List ℕ → Entry
sends_hello front after =
    sends (eight front) (part.Emi (advance.After 1)) (Some (codes "HELLO")) (eight after)

-- a count of destinations, a length and a text that may not be
abbrev pub send_keys : List Entry
send_keys =
    starts (codes "ECHO")
    ∷ sends_hello (codes "0000000500") (codes "0000000530")
    ∷ sends_hello (codes "0009000500") (codes "0009000530")
    ∷ sends_hello (codes "A001000500") (codes "A001000530")
    ∷ sends_hello (codes "0001000600") (codes "0001000650")
    ∷ sends (eight (codes "0001000000")) part.Portion (Some (codes "HELLO"))
    (eight (codes "0001000060"))
    ∷ sends (eight (codes "0001000500")) part.Portion None (eight (codes "0001000560"))
    ∷ []

abbrev pub switches_output : Bool → List ℕ → List ℕ → Entry
switches_output on key after = by_unit (codes "ECHO")
    (call.SwitchOutput on (codes "00010001000T1          ") key) (reply.AreaOut after)

abbrev pub sends_letter : List ℕ → Entry
sends_letter letter = sends (codes "00010001000T1          ") (part.Emi (advance.After 1))
    (Some letter) (codes "00010001100T1          ")

-- what is sent while the output is disabled
abbrev pub output_off : List Entry
output_off =
    starts (codes "ECHO")
    ∷ switches_output true (codes "0123456789") (codes "00010001400T1          ")
    ∷ switches_output false (codes "TPASS") (codes "00010001000T1          ")
    ∷ sends_letter (codes "A")
    ∷ sends_letter (codes "B")
    ∷ []

-- what was queued goes once the output is enabled
abbrev pub output_switched : List Entry
output_switched =
    output_off ++ switches_output true (codes "TPASS     ") (codes "00010001000T1          ") ∷ []

-- parts of a message for T1, and then the end of it for T1 and T2
abbrev pub sent_in_segments : List Entry
sent_in_segments =
    starts (codes "ECHO")
    ∷ sends (codes "00010002000T1          ") part.Portion (Some (codes "HELLO"))
    (codes "00010002000T1          ")
    ∷ sends (codes "00010003000T1          ") (part.Esi (advance.Before 2)) (Some (codes "LLO"))
    (codes "00010003000T1          ")
    ∷ sends (codes "00010003000T1          ") (part.Esi advance.AfterPage) None
    (codes "00010003000T1          ")
    ∷ sends (codes "00020001000T1          0T2          ") (part.Egi (advance.After 0))
    (Some (codes "X")) (codes "00020001100T1          0T2          ")
    ∷ []

abbrev pub last_segment : OutSegment
last_segment = record { text = codes "X"; advance = advance.After 0 }

abbrev pub sent_to_t1 : OutMessage
sent_to_t1 = record {
  segments =
      record { text = codes "HELLO"; advance = advance.Before 2 }
      ∷ record { text = []; advance = advance.AfterPage }
      ∷ last_segment
      ∷ [];
  end = ending.Egi;
}

abbrev pub queued_for_t2 : OutMessage
queued_for_t2 = record { segments = last_segment ∷ []; end = ending.Egi }

-- an area with T1 and T2, with a status
abbrev pub to_both : List ℕ → List ℕ
to_both status = codes "00020001" ++ (status ++ codes "0T1          0T2          ")

-- an area with NOPE and T2, with a status and the first error key
abbrev pub to_t2 : List ℕ → List ℕ → List ℕ
to_t2 status error =
    codes "00020001" ++ (status ++ (error ++ codes "NOPE        0T2          "))

-- ENABLE OUTPUT
abbrev pub enables_output : List ℕ → List ℕ → List ℕ → Entry
enables_output area key after =
    by_unit (codes "ECHO") (call.SwitchOutput true area key) (reply.AreaOut after)

-- the key must be that of each terminal, and a destination that is none changes nothing for others
abbrev pub outputs_switched : List Entry
outputs_switched =
    starts (codes "ECHO")
    ∷ sends (to_both (codes "00")) (part.Emi (advance.After 1)) (Some (codes "A"))
    (to_both (codes "10"))
    ∷ enables_output (to_both (codes "00")) (codes "TPASS") (to_both (codes "40"))
    ∷ enables_output (codes "00000001000T1          ") (codes "TPASS")
    (codes "00000001300T1          ")
    ∷ enables_output (to_t2 (codes "00") (codes "0")) (codes "OTHER")
    (to_t2 (codes "20") (codes "1"))
    ∷ sends (to_both (codes "00")) (part.Emi (advance.After 1)) (Some (codes "B"))
    (to_both (codes "00"))
    ∷ []

-- a segment before a page, and one with no line
abbrev pub advancing : List Entry
advancing =
    starts (codes "ECHO")
    ∷ sends (codes "00010001000T1          ") (part.Esi advance.BeforePage) (Some (codes "A"))
    (codes "00010001000T1          ")
    ∷ sends (codes "00010001000T1          ") (part.Emi (advance.After 0)) (Some (codes "B"))
    (codes "00010001000T1          ")
    ∷ []

-- an area whose second destination is not counted
abbrev pub one_of_two : List ℕ
one_of_two = codes "00010002000T1          1NOPE        "

abbrev pub counted_send : List Entry
counted_send =
    starts (codes "ECHO")
    ∷ sends one_of_two (part.Emi (advance.After 1)) (Some (codes "OK")) one_of_two
    ∷ []

-- ENABLE OUTPUT of the one that is counted
abbrev pub counted_switch : List Entry
counted_switch =
    starts (codes "ECHO")
    ∷ by_unit (codes "ECHO")
    (call.SwitchOutput true (codes "00010000000T2          1NOPE        ") (codes "OTHER"))
    (reply.AreaOut (codes "00010000000T2          1NOPE        "))
    ∷ []

-- one unit has begun a message, and another sends one of its own
abbrev pub two_senders : List Entry
two_senders =
    starts (codes "U1")
    ∷ starts (codes "U2")
    ∷ by_unit (codes "U1")
    (call.Send (codes "00010002000T1          ") part.Portion (Some (codes "AB")))
    (reply.AreaOut (codes "00010002000T1          "))
    ∷ by_unit (codes "U2")
    (call.Send (codes "00010001000T1          ") (part.Emi (advance.Before 2)) (Some (codes "X")))
    (reply.AreaOut (codes "00010001000T1          "))
    ∷ []

abbrev pub ab_begun : Begun
ab_begun = record { segments = []; text = codes "AB" }

-- which key comes first, and what is not looked at without an item
abbrev pub key_order : List Entry
key_order =
    starts (codes "ECHO")
    ∷ sends (codes "00000006000T1          ") (part.Emi (advance.After 1)) (Some (codes "HELLO"))
    (codes "00000006300T1          ")
    ∷ sends (codes "000100A0000T1          ") part.Portion (Some (codes "HELLO"))
    (codes "000100A0500T1          ")
    ∷ sends (codes "000100A0000T1          ") (part.Emi (advance.After 1)) None
    (codes "000100A0000T1          ")
    ∷ []

-- a SEND serves each terminal that it knows, once
each_known_once : IsRun two_terminals_net unknown_destination
unfolding step
each_known_once = refl

each_known_once_delivered : Delivers two_terminals_net unknown_destination
    ((one_line (codes "OK") ∷ []) ∷ [] ∷ []) ([] ∷ (one_line (codes "OK") ∷ []) ∷ [])
unfolding step
each_known_once_delivered = refl

each_known_once_printed : Prints two_terminals_net unknown_destination 0 (10 ∷ codes "OK")
unfolding step
each_known_once_printed = refl

disabled_not_printed : Prints two_terminals_net unknown_destination 1 []
unfolding step
disabled_not_printed = refl

-- a message that a unit has not ended is gone when the unit stops
gone_at_stop : IsRun n1 purged_at_stop
unfolding step
gone_at_stop = refl

portion_begun : Begins n1 purged_portion ((hello_begun ∷ []) ∷ [])
unfolding step
portion_begun = refl

gone_not_delivered : Delivers n1 purged_at_stop ([] ∷ []) ([] ∷ [])
unfolding step
gone_not_delivered = refl

gone_not_begun : Begins n1 purged_at_stop ((nothing_begun ∷ []) ∷ [])
unfolding step
gone_not_begun = refl

-- what a SEND refuses
what_send_refuses : IsRun n1 send_keys
unfolding step
what_send_refuses = refl

refused_not_delivered : Delivers n1 send_keys ([] ∷ []) ([] ∷ [])
unfolding step
refused_not_delivered = refl

refused_not_begun : Begins n1 send_keys ((nothing_begun ∷ []) ∷ [])
unfolding step
refused_not_begun = refl

-- messages wait for a terminal whose output is disabled, and go in order once it is enabled
after_enable : IsRun n1 output_switched
unfolding step
after_enable = refl

before_enable_queued : Delivers n1 output_off ([] ∷ []) ((one_line (codes "A") ∷ one_line (codes "B") ∷ []) ∷ [])
unfolding step
before_enable_queued = refl

after_enable_delivered : Delivers n1 output_switched ((one_line (codes "A") ∷ one_line (codes "B") ∷ []) ∷ []) ([] ∷ [])
unfolding step
after_enable_delivered = refl

after_enable_printed : Prints n1 output_switched 0 (10 ∷ 65 ∷ 10 ∷ 66 ∷ [])
unfolding step
after_enable_printed = refl

-- the segments of a message go to each terminal that the parts were sent to
by_segments : IsRun two_terminals_net sent_in_segments
unfolding step
by_segments = refl

by_segments_delivered : Delivers two_terminals_net sent_in_segments ((sent_to_t1 ∷ []) ∷ [] ∷ []) ([] ∷ (queued_for_t2 ∷ []) ∷ [])
unfolding step
by_segments_delivered = refl

by_segments_begun : Begins two_terminals_net sent_in_segments ((nothing_begun ∷ []) ∷ (nothing_begun ∷ []) ∷ [])
unfolding step
by_segments_begun = refl

-- ENABLE OUTPUT of several terminals
several_enabled : IsRun two_terminals_net outputs_switched
unfolding step
several_enabled = refl

several_delivered : Delivers two_terminals_net outputs_switched
    ((one_line (codes "A") ∷ one_line (codes "B") ∷ []) ∷ (one_line (codes "A") ∷ one_line (codes "B") ∷ []) ∷ [])
    ([] ∷ [] ∷ [])
unfolding step
several_delivered = refl

-- line feeds and form feeds
before_a_page : IsRun n1 advancing
unfolding step
before_a_page = refl

before_a_page_printed : Prints n1 advancing 0 (65 ∷ 12 ∷ 66 ∷ [])
unfolding step
before_a_page_printed = refl

-- a destination that DESTINATION COUNT does not count is not looked at, and its error key stays
only_counted_sent : IsRun two_terminals_net counted_send
unfolding step
only_counted_sent = refl

only_counted_printed : Prints two_terminals_net counted_send 0 (10 ∷ codes "OK")
unfolding step
only_counted_printed = refl

only_counted_switched : IsRun two_terminals_net counted_switch
unfolding step
only_counted_switched = refl

only_counted_enabled : Outputs two_terminals_net counted_switch (true ∷ true ∷ [])
unfolding step
only_counted_enabled = refl

-- what one unit has begun is no part of what another sends
of_two_senders : IsRun two_units_net two_senders
unfolding step
of_two_senders = refl

of_two_senders_printed : Prints two_units_net two_senders 0 (88 ∷ 10 ∷ 10 ∷ [])
unfolding step
of_two_senders_printed = refl

of_two_senders_begun : Begins two_units_net two_senders ((ab_begun ∷ nothing_begun ∷ []) ∷ [])
unfolding step
of_two_senders_begun = refl

-- 30 comes before 50, 50 before 60, and without an item TEXT LENGTH is not looked at
keys_in_order : IsRun n1 key_order
unfolding step
keys_in_order = refl
