-- ECHO and ORDERS, the programs of the worked sources, with the replies that they get.
use Rattle.std.proofs.Common.{◌≡◌, ℕ, true, false, List, [], ◌∷◌, ◌++◌, Some, None, refl, codes}
use Rattle.com_text.specs.Name.{field_of, spaces}
use Rattle.com_cd.specs.InputArea.{opening_area, zeros}
use Rattle.com_cd.specs.OutputArea.{opening_output}
use Rattle.com_events.specs.declared.call.Call.{Call}
use Rattle.com_events.specs.declared.call.Call.TheVariants as call
use Rattle.com_events.specs.declared.call.StopReason.TheVariants as stop
use Rattle.com_events.specs.declared.reply.Reply.{Reply}
use Rattle.com_events.specs.declared.reply.Reply.TheVariants as reply
use Rattle.com_msg.specs.declared.rest.Kind.TheVariants as kind
use Rattle.com_msg.specs.declared.sending.Advance.TheVariants as advance
use Rattle.com_msg.specs.declared.sending.Part.TheVariants as part
use Rattle.cob_proc.specs.declared.tree.Indicator.TheVariants as indicators
use Rattle.cob_proc.specs.declared.tree.Lines.TheVariants as lines
use Rattle.cob_proc.specs.declared.tree.Repetition.TheVariants as repetitions
use Rattle.cob_proc.specs.declared.tree.Simple.TheVariants as simples
use Rattle.cob_proc.specs.declared.tree.Addend.TheVariants as addends
use Rattle.cob_proc.specs.declared.tree.Operand.TheVariants as operands
use Rattle.cob_proc.specs.declared.tree.Relation.TheVariants as relations
use Rattle.cob_proc.specs.Trees.{Tree}
use Rattle.cob_data.specs.declared.tree.ItemSort.TheVariants.{Alphanumeric, Numeric, Group}
use Rattle.cob_data.specs.Layout.{input_cd, output_cd}
use Rattle.cob_meaning.specs.Meaning.{Stopped, Wants, Program, meaning, unit_limits}
use Rattle.cob_meaning.proofs.Placed.{at, name_at, item_at, digits_at, of_item, of_literal, of_number, paragraph_at}
use Rattle.cob_meaning.proofs.Trees.{alone, add_of, exit_of, go_of, if_of, move_of, perform_of, receive_of, send_of, stop_of, an_item}

-- the area of an input CD: the name of the queue, the moment, the source, the length and the end key
abbrev pub in_area : List ℕ → List ℕ → List ℕ → List ℕ → List ℕ → List ℕ
in_area queue moment source length key =
    field_of queue ++ spaces 36 ++ moment ++ field_of source ++ length ++ key ++ codes "00000000"

-- the area of an output CD of one destination
abbrev pub out_area : List ℕ → List ℕ → List ℕ
out_area length destination = codes "0001" ++ length ++ codes "000" ++ field_of destination

abbrev pub moment : List ℕ
moment = codes "74060110203000"

abbrev pub echo : Program
echo = record {
  layout = record {
    names =
        (codes "BUF", an_item 0 0 20 Alphanumeric)
        ∷ (codes "INQ", input_cd 1)
        ∷ (codes "IN-NAME", an_item 1 0 12 Alphanumeric)
        ∷ (codes "IN-FROM", an_item 1 62 12 Alphanumeric)
        ∷ (codes "IN-LEN", an_item 1 74 4 Numeric)
        ∷ (codes "OUTQ", output_cd 2 1)
        ∷ (codes "OUT-COUNT", an_item 2 0 4 Numeric)
        ∷ (codes "OUT-LEN", an_item 2 4 4 Numeric)
        ∷ (codes "OUT-TO", an_item 2 11 12 Alphanumeric) ∷ [];
    opening = spaces 20 ∷ opening_area ∷ opening_output 1 ∷ [];
    initial = None;
  };
  text =
      paragraph_at 16 (codes "FIRST-ONE") (
      (move_of (of_literal 17 17 (codes "Q1")) (item_at 17 25 (codes "IN-NAME") ∷ []) ∷ []) ∷
      (move_of (of_number 18 17 (codes "1")) (item_at 18 22 (codes "OUT-COUNT") ∷ []) ∷ []) ∷ [])
      ∷ paragraph_at 19 (codes "NEXT-ONE") (
      (receive_of (name_at 20 20 (codes "INQ")) false (item_at 20 37 (codes "BUF")) [] ∷ []) ∷
      (move_of (of_item 21 17 (codes "IN-LEN")) (item_at 21 27 (codes "OUT-LEN") ∷ []) ∷ []) ∷
      (move_of (of_item 22 17 (codes "IN-FROM")) (item_at 22 28 (codes "OUT-TO") ∷ []) ∷ []) ∷
      (send_of (name_at 23 17 (codes "OUTQ")) (Some (item_at 23 27 (codes "BUF"))) (Some (record { indicator = indicators.Emi; advancing = None })) ∷ []) ∷
      (go_of (name_at 24 18 (codes "NEXT-ONE")) ∷ []) ∷ []) ∷ [];
}

-- its area before any message, and when T1 has sent HELLO
abbrev pub before_hello : List ℕ
before_hello = in_area (codes "Q1") (zeros 14) [] (codes "0000") (codes "0")

abbrev pub hello : List ℕ
hello = in_area (codes "Q1") moment (codes "T1") (codes "0005") (codes "2")

abbrev pub echo_receives : List ℕ → Call
echo_receives area = call.Receive area kind.Message 20 false

abbrev pub to_t1 : List ℕ
to_t1 = out_area (codes "0005") (codes "T1")

abbrev pub echo_sends : Call
echo_sends = call.Send to_t1 (part.Emi (advance.After 1)) (Some (codes "HELLO" ++ spaces 15))

echo_begins : meaning echo None [] ≡ record { calls = []; ending = Wants (echo_receives before_hello) }
unfolding unit_limits
echo_begins = refl

echo_hears : meaning echo None (reply.Given hello (codes "HELLO") ∷ []) ≡ record { calls = echo_receives before_hello ∷ []; ending = Wants echo_sends }
unfolding unit_limits
echo_hears = refl

echo_answers : meaning echo None (reply.Given hello (codes "HELLO") ∷ reply.AreaOut to_t1 ∷ []) ≡ record { calls = echo_receives before_hello ∷ echo_sends ∷ []; ending = Wants (echo_receives hello) }
unfolding unit_limits
echo_answers = refl

-- the branches of ORDERS
abbrev leaves : List Tree
leaves = go_of (name_at 47 36 (codes "ONE-ORDER-END")) ∷ []

abbrev accepts : List Tree
accepts = add_of (addends.Item (item_at 50 20 (codes "ORD-QTY"))) (item_at 50 31 (codes "TOTAL-QTY")) ∷ move_of (of_literal 51 21 (codes "ACCEPTED")) (item_at 51 35 (codes "REP-WORD") ∷ []) ∷ []

abbrev rejects : List Tree
rejects = move_of (of_literal 53 21 (codes "REJECTED")) (item_at 53 35 (codes "REP-WORD") ∷ []) ∷ []

abbrev pub orders : Program
orders = record {
  layout = record {
    names =
        (codes "TOTAL-QTY", an_item 0 0 6 Numeric)
        ∷ (codes "ORDER-REC", an_item 1 0 18 Group)
        ∷ (codes "ORD-KIND", an_item 1 0 1 Alphanumeric)
        ∷ (codes "ORD-NO", an_item 1 1 4 Numeric)
        ∷ (codes "ORD-ITEM", an_item 1 5 10 Alphanumeric)
        ∷ (codes "ORD-QTY", an_item 1 15 3 Numeric)
        ∷ (codes "REPLY-REC", an_item 2 0 13 Group)
        ∷ (codes "REP-WORD", an_item 2 0 9 Alphanumeric)
        ∷ (codes "REP-NO", an_item 2 9 4 Alphanumeric)
        ∷ (codes "TOTAL-REC", an_item 3 0 12 Group)
        ∷ (codes "TOT-OUT", an_item 3 6 6 Numeric)
        ∷ (codes "ORDER-IN", input_cd 4)
        ∷ (codes "Q-NAME", an_item 4 0 12 Alphanumeric)
        ∷ (codes "Q-SOURCE", an_item 4 62 12 Alphanumeric)
        ∷ (codes "Q-STATUS", an_item 4 79 2 Alphanumeric)
        ∷ (codes "REPLY-OUT", output_cd 5 1)
        ∷ (codes "R-COUNT", an_item 5 0 4 Numeric)
        ∷ (codes "R-LENGTH", an_item 5 4 4 Numeric)
        ∷ (codes "R-STATUS", an_item 5 8 2 Alphanumeric)
        ∷ (codes "R-ERROR", an_item 5 10 1 Alphanumeric)
        ∷ (codes "R-DEST", an_item 5 11 12 Alphanumeric) ∷ [];
    opening = codes "000000" ∷ (codes " 0000" ++ spaces 10 ++ codes "000") ∷ spaces 13 ∷ codes "TOTAL 000000" ∷ opening_area ∷ opening_output 1 ∷ [];
    initial = Some 4;
  };
  text =
      paragraph_at 34 (codes "MAIN-LINE") (
      (move_of (of_literal 35 17 (codes "ORDERS")) (item_at 35 29 (codes "Q-NAME") ∷ []) ∷ []) ∷
      (move_of (of_number 36 17 (codes "1")) (item_at 36 22 (codes "R-COUNT") ∷ []) ∷ []) ∷
      (perform_of (name_at 37 20 (codes "ONE-ORDER")) (Some (name_at 37 35 (codes "ONE-ORDER-END"))) (repetitions.Until (alone (simples.Compares (of_item 38 22 (codes "ORD-KIND")) false relations.Equal (of_literal 38 33 (codes "T"))))) ∷ []) ∷
      (move_of (of_item 39 17 (codes "TOTAL-QTY")) (item_at 39 30 (codes "TOT-OUT") ∷ []) ∷ []) ∷
      (move_of (of_number 40 17 (codes "12")) (item_at 40 23 (codes "R-LENGTH") ∷ []) ∷ []) ∷
      (send_of (name_at 41 17 (codes "REPLY-OUT")) (Some (item_at 41 32 (codes "TOTAL-REC"))) (Some (record { indicator = indicators.Emi; advancing = None })) ∷ []) ∷
      (stop_of ∷ []) ∷ [])
      ∷ paragraph_at 43 (codes "ONE-ORDER") (
      (move_of (operands.Spaces (at 44 17)) (item_at 44 27 (codes "ORDER-REC") ∷ []) ∷ []) ∷
      (receive_of (name_at 45 20 (codes "ORDER-IN")) false (item_at 45 42 (codes "ORDER-REC")) [] ∷ []) ∷
      (move_of (of_item 46 17 (codes "Q-SOURCE")) (item_at 46 29 (codes "R-DEST") ∷ []) ∷ []) ∷
      (if_of (at 47 12) (alone (simples.Compares (of_item 47 15 (codes "ORD-KIND")) false relations.Equal (of_literal 47 26 (codes "T")))) (leaves) [] ∷ []) ∷
      (move_of (of_item 48 17 (codes "ORD-NO")) (item_at 48 27 (codes "REP-NO") ∷ []) ∷ []) ∷
      (if_of (at 49 12) (alone (simples.Numeric (item_at 49 15 (codes "ORD-QTY")) false)) (accepts) (rejects) ∷ []) ∷
      (move_of (of_number 54 17 (codes "13")) (item_at 54 23 (codes "R-LENGTH") ∷ []) ∷ []) ∷
      (send_of (name_at 55 17 (codes "REPLY-OUT")) (Some (item_at 55 32 (codes "REPLY-REC"))) (Some (record { indicator = indicators.Emi; advancing = Some (record { after = true; lines = lines.Count (addends.Number (digits_at 56 32 (codes "1"))) }) })) ∷ []) ∷ [])
      ∷ paragraph_at 57 (codes "ONE-ORDER-END") (
      (exit_of ∷ []) ∷ []) ∷ [];
}

-- what ORDERS is given: a message of this length and text from T1
abbrev given : List ℕ → List ℕ → Reply
given length text = reply.Given (in_area (codes "ORDERS") moment (codes "T1") length (codes "2")) text

abbrev sent : List ℕ → Reply
sent length = reply.AreaOut (out_area length (codes "T1"))

abbrev receives_after : List ℕ → Call
receives_after area = call.Receive area kind.Message 18 false

abbrev sends : List ℕ → List ℕ → Call
sends length text = call.Send (out_area length (codes "T1")) (part.Emi (advance.After 1)) (Some text)

-- An order for 12 hammers, one whose number is bad, and the end: the first is accepted, the second is
-- rejected, and the total is 12.
orders_total : meaning orders None
    (given (codes "0018") (codes "N0001HAMMER    012") ∷ sent (codes "0013")
    ∷ given (codes "0018") (codes "N0002NAILS     1X0") ∷ sent (codes "0013")
    ∷ given (codes "0001") (codes "T") ∷ sent (codes "0012") ∷ [])
    ≡ record {
      calls =
          receives_after (in_area (codes "ORDERS") (zeros 14) [] (codes "0000") (codes "0"))
          ∷ sends (codes "0013") (codes "ACCEPTED 0001")
          ∷ receives_after (in_area (codes "ORDERS") moment (codes "T1") (codes "0018") (codes "2"))
          ∷ sends (codes "0013") (codes "REJECTED 0002")
          ∷ receives_after (in_area (codes "ORDERS") moment (codes "T1") (codes "0018") (codes "2"))
          ∷ sends (codes "0012") (codes "TOTAL 000012") ∷ [];
      ending = Stopped stop.Run;
    }
unfolding unit_limits
orders_total = refl

-- a message may end in the middle of an order, whose other characters are then spaces, and no number
orders_short : meaning orders None (given (codes "0005") (codes "N0003") ∷ [])
    ≡ record {
      calls = receives_after (in_area (codes "ORDERS") (zeros 14) [] (codes "0000") (codes "0")) ∷ [];
      ending = Wants (sends (codes "0013") (codes "REJECTED 0003"));
    }
unfolding unit_limits
orders_short = refl

-- a scheduled unit is told its queue, and then names it itself
orders_named : meaning orders (Some (field_of (codes "OTHER") ++ spaces 36)) [] ≡ record { calls = []; ending = Wants (receives_after (in_area (codes "ORDERS") (zeros 14) [] (codes "0000") (codes "0"))) }
unfolding unit_limits
orders_named = refl
