-- Worked SENDs, computed by the definition.
use Rattle.std.specs.Prelude.{◌≡◌, ℕ, true, false, List, [], ◌∷◌, ◌++◌, Some, None, codes, refl}
use Rattle.std.specs.List.{flat_map}
use Rattle.com_msg.specs.Rendering.{rendered_message}
use Rattle.com_msg.specs.declared.message.End.TheVariants as ending
use Rattle.com_msg.specs.declared.sending.Advance.TheVariants as advance
use Rattle.com_msg.specs.declared.sending.OutMessage.{OutMessage}
use Rattle.com_msg.specs.declared.sending.OutSegment.{OutSegment}
use Rattle.com_msg.specs.declared.sending.Part.TheVariants as part
use Rattle.com_send.specs.declared.destination.Destination.{Destination}
use Rattle.com_msg.specs.Begun.{Begun, nothing_begun}
use Rattle.com_send.specs.Outgoing.{DestinationState, Outgoing, opening, drop_unit}
use Rattle.com_send.specs.Sending.{send, Answer}

abbrev pub t1 : Destination
t1 = record { name = codes "T1"; password = codes "TPASS"; on = true }

abbrev pub t2 : Destination
t2 = record { name = codes "T2"; password = codes "OTHER"; on = false }

abbrev pub both : List Destination
both = t1 ∷ t2 ∷ []

-- one segment after one line feed, and EMI
abbrev pub one_line : List ℕ → OutMessage
one_line text = record {
  segments = record { text = text; advance = advance.After 1 } ∷ [];
  end = ending.Emi;
}

-- what stands at a destination of one unit that has begun nothing
abbrev pub enabled_with : List OutMessage → DestinationState
enabled_with sent = record { on = true; begun = nothing_begun ∷ []; queued = []; sent = sent }

abbrev pub disabled_with : List OutMessage → DestinationState
disabled_with queued = record { on = false; begun = nothing_begun ∷ []; queued = queued; sent = [] }

-- a text with EMI after one line feed, from the only unit
abbrev pub sends_line : List Destination → Outgoing → List ℕ → List ℕ → Answer
sends_line destinations outgoing area text =
    send destinations outgoing 0 area (part.Emi (advance.After 1)) (Some text)

-- an unknown destination stops no other, and one that is named twice is served once
unknown_destination : sends_line both (opening both 1)
    (codes "00040002000T1          0NOPE        0T2          0T1          ") (codes "OK")
    ≡ (
      codes "00040002200T1          1NOPE        0T2          0T1          ",
      enabled_with (one_line (codes "OK") ∷ []) ∷ disabled_with (one_line (codes "OK") ∷ []) ∷ [],
    )
unknown_destination = refl

its_bytes : flat_map rendered_message (one_line (codes "OK") ∷ []) ≡ 10 ∷ codes "OK"
its_bytes = refl

-- seven occurrences that are not counted
abbrev pub seven_unused : List ℕ
seven_unused = codes "0            0            0            0            "
    ++ codes "0            0            0            "

-- count, length and status, T1, and seven more
abbrev pub eight : List ℕ → List ℕ
eight front = front ++ (codes "0T1          " ++ seven_unused)

-- the keys of a HELLO to T1, which changes nothing else
abbrev pub HelloGets : List ℕ → List ℕ → Type 0
HelloGets before after =
    sends_line both (opening both 1) (eight before) (codes "HELLO")
    ≡ (eight after, opening both 1)

no_destinations : HelloGets (codes "0000000500") (codes "0000000530")
no_destinations = refl

nine_destinations : HelloGets (codes "0009000500") (codes "0009000530")
nine_destinations = refl

letter_in_the_count : HelloGets (codes "A001000500") (codes "A001000530")
letter_in_the_count = refl

one_too_many : HelloGets (codes "0001000600") (codes "0001000650")
one_too_many = refl

-- 30 comes before 50
both_wrong : HelloGets (codes "0000000600") (codes "0000000630")
both_wrong = refl

-- 50 comes before 60
no_length : send both (opening both 1) 0 (eight (codes "000100A000")) part.Portion
    (Some (codes "HELLO"))
    ≡ (eight (codes "000100A050"), opening both 1)
no_length = refl

empty_portion : send both (opening both 1) 0 (eight (codes "0001000000")) part.Portion
    (Some (codes "HELLO"))
    ≡ (eight (codes "0001000060"), opening both 1)
empty_portion = refl

portion_of_nothing : send both (opening both 1) 0 (eight (codes "0001000500")) part.Portion None
    ≡ (eight (codes "0001000560"), opening both 1)
portion_of_nothing = refl

-- without an item TEXT LENGTH is not looked at, and the segment is empty
nothing_with_end : send both (opening both 1) 0 (codes "000100A0000T1          ")
    (part.Emi (advance.After 1)) None
    ≡ (codes "000100A0000T1          ", enabled_with (one_line [] ∷ []) ∷ disabled_with [] ∷ [])
nothing_with_end = refl

-- T1 with what the only unit has begun to send to it
abbrev pub t1_begun : List OutSegment → List ℕ → Outgoing
t1_begun segments text =
    record {
      on = true;
      begun = record { segments = segments; text = text } ∷ [];
      queued = [];
      sent = [];
    }
    ∷ []

-- a segment before a page
abbrev pub page : OutSegment
page = record { text = codes "A"; advance = advance.BeforePage }

segment_ended : send (t1 ∷ []) (opening (t1 ∷ []) 1) 0 (codes "00010001000T1          ")
    (part.Esi advance.BeforePage) (Some (codes "A"))
    ≡ (codes "00010001000T1          ", t1_begun (page ∷ []) [])
segment_ended = refl

-- and one with no line
abbrev pub page_and_b : OutMessage
page_and_b = record {
  segments = page ∷ record { text = codes "B"; advance = advance.After 0 } ∷ [];
  end = ending.Emi;
}

message_ended : send (t1 ∷ []) (t1_begun (page ∷ []) []) 0 (codes "00010001000T1          ")
    (part.Emi (advance.After 0)) (Some (codes "B"))
    ≡ (codes "00010001000T1          ", enabled_with (page_and_b ∷ []) ∷ [])
message_ended = refl

advancing : rendered_message page_and_b ≡ 65 ∷ 12 ∷ 66 ∷ []
advancing = refl

-- an occurrence that is not counted is not looked at
counted : sends_line both (opening both 1) (codes "00010002000T1          1NOPE        ")
    (codes "OK")
    ≡ (
      codes "00010002000T1          1NOPE        ",
      enabled_with (one_line (codes "OK") ∷ []) ∷ disabled_with [] ∷ [],
    )
counted = refl

-- a portion is begun, and is gone when the unit stops
begun : send (t1 ∷ []) (opening (t1 ∷ []) 1) 0 (codes "00010005000T1          ") part.Portion
    (Some (codes "HELLO"))
    ≡ (codes "00010005000T1          ", t1_begun [] (codes "HELLO"))
begun = refl

purged : drop_unit 0 (t1_begun [] (codes "HELLO")) ≡ opening (t1 ∷ []) 1
purged = refl

abbrev pub ab : Begun
ab = record { segments = []; text = codes "AB" }

-- T1 with what the first of two units has begun
abbrev pub ab_begun : List OutMessage → Outgoing
ab_begun sent = record { on = true; begun = ab ∷ nothing_begun ∷ []; queued = []; sent = sent } ∷ []

-- what one unit has begun is no part of what another sends
two_senders : send (t1 ∷ []) (ab_begun []) 1 (codes "00010001000T1          ")
    (part.Emi (advance.After 1)) (Some (codes "X"))
    ≡ (codes "00010001000T1          ", ab_begun (one_line (codes "X") ∷ []))
two_senders = refl
