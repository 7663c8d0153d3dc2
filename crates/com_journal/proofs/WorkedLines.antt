-- Worked lines: the text of one call or reply of each form, and a whole journal.
use Rattle.std.proofs.Common.{◌≡◌, ℕ, ◌≤◌, true, false, None, Some, List, [], ◌∷◌, length, refl, arith}
use Rattle.std.specs.Prelude.{codes, All}
use Rattle.std.proofs.lemmas.List.Elements.{All-from_recursion}
use Rattle.std.specs.Fmt.{digits}
use Rattle.com_msg.specs.Stamp.{moment}
use Rattle.com_msg.specs.declared.message.End.TheVariants.{Emi, Egi}
use Rattle.com_msg.specs.declared.rest.Kind.TheVariants.{Message, Segment}
use Rattle.com_msg.specs.declared.framing.FrameKind.TheVariants.{Truncated}
use Rattle.com_msg.specs.declared.sending.Advance.TheVariants.{Before, After, BeforePage}
use Rattle.com_msg.specs.declared.sending.Part.TheVariants as part
use Rattle.com_events.specs.declared.call.Party.{Party}
use Rattle.com_events.specs.declared.call.Party.TheVariants as party
use Rattle.com_events.specs.declared.call.StopReason.TheVariants as stop
use Rattle.com_events.specs.declared.call.EndReason.TheVariants as finish
use Rattle.com_events.specs.declared.call.Call.TheVariants.{Start, Receive, Count, Send, SwitchInput, SwitchOutput, Arrive, Held, Stop, Finish}
use Rattle.com_events.specs.declared.reply.Reply.TheVariants.{Started, Given, NoData, Refused, Waits, AreaOut, Arrived, Done}
use Rattle.com_events.specs.declared.entry.Entry.{Entry}
use Rattle.com_msg.specs.declared.message.TheConstants.{MAX_SEGMENT_LENGTH}
use Rattle.com_journal.specs.Lines.{call_text, reply_text}
use Rattle.com_journal.specs.Journals.{IsJournal}

-- an input area that asks for queue Q1, and one that tells of the portion HELLO
asking : List ℕ
asking = codes "Q1                                              00000000000000            0000000000000"

telling : List ℕ
telling = codes "Q1                                              74060110203000T1          0005200000000"

-- an output area for five characters to T1
sending : List ℕ
sending = codes "00010005000T1          "

echo : Party
echo = party.Unit (codes "ECHO")

terminal : Party
terminal = party.Terminal (codes "T1")

start : call_text echo Start ≡ codes "U ECHO START"
unfolding echo
start = refl

receive : call_text echo (Receive asking Message 20 false) ≡ codes "U ECHO RECEIVE MESSAGE 20 WAIT 87:Q1                                              00000000000000            0000000000000"
unfolding echo asking digits
receive = refl

receive_segment : call_text echo (Receive asking Segment 2000 true) ≡ codes "U ECHO RECEIVE SEGMENT 2000 NODATA 87:Q1                                              00000000000000            0000000000000"
unfolding echo asking digits
receive_segment = refl

count : call_text echo (Count asking) ≡ codes "U ECHO COUNT 87:Q1                                              00000000000000            0000000000000"
unfolding echo asking digits
count = refl

send_portion : call_text echo (Send sending part.Portion None) ≡ codes "U ECHO SEND PART - 23:00010005000T1          "
unfolding echo sending digits
send_portion = refl

send_segment : call_text echo (Send sending (part.Esi BeforePage) (Some (codes "A"))) ≡ codes "U ECHO SEND ESI BP 1:A 23:00010005000T1          "
unfolding echo sending digits
send_segment = refl

send_message : call_text echo (Send sending (part.Emi (After 1)) (Some (codes "HELLO               "))) ≡ codes "U ECHO SEND EMI A1 20:HELLO                23:00010005000T1          "
unfolding echo sending digits
send_message = refl

send_group : call_text echo (Send sending (part.Egi (Before 99)) (Some (codes "3:x"))) ≡ codes "U ECHO SEND EGI B99 3:3:x 23:00010005000T1          "
unfolding echo sending digits
send_group = refl

enable_input : call_text echo (SwitchInput true false asking (codes "QPASS")) ≡ codes "U ECHO ENABLE INPUT 5:QPASS 87:Q1                                              00000000000000            0000000000000"
unfolding echo asking digits
enable_input = refl

disable_terminal : call_text echo (SwitchInput false true asking (codes "TPASS")) ≡ codes "U ECHO DISABLE TERMINAL 5:TPASS 87:Q1                                              00000000000000            0000000000000"
unfolding echo asking digits
disable_terminal = refl

disable_output : call_text echo (SwitchOutput false sending []) ≡ codes "U ECHO DISABLE OUTPUT 0: 23:00010005000T1          "
unfolding echo sending digits
disable_output = refl

arrive : call_text terminal (Arrive (moment (codes "740601") (codes "10203000")) (record { segments = [] ∷ codes "AB" ∷ []; end = Egi })) ≡ codes "T T1 ARRIVE 740601 10203000 EGI 2 0: 2:AB"
unfolding terminal digits
arrive = refl

held : call_text terminal Held ≡ codes "T T1 HELD"
unfolding terminal
held = refl

stop_data : call_text echo (Stop stop.DataFault) ≡ codes "U ECHO STOP DATA"
unfolding echo
stop_data = refl

end_of_input : call_text terminal (Finish finish.End) ≡ codes "T T1 END END"
unfolding terminal
end_of_input = refl

end_in_frame : call_text terminal (Finish (finish.Frame (record { at = 6; kind = Truncated }))) ≡ codes "T T1 END FRAME TRUNCATED 6"
unfolding terminal digits
end_in_frame = refl

started : reply_text (Started None) ≡ codes "0:"
unfolding digits
started = refl

started_by_schedule : reply_text (Started (Some (codes "Q1                                              "))) ≡ codes "48:Q1                                              "
unfolding digits
started_by_schedule = refl

given : reply_text (Given telling (codes "HELLO")) ≡ codes "TEXT 87:Q1                                              74060110203000T1          0005200000000 5:HELLO"
unfolding telling digits
given = refl

without_data : reply_text (NoData asking) ≡ codes "NONE 87:Q1                                              00000000000000            0000000000000"
unfolding asking digits
without_data = refl

refused : reply_text (Refused asking) ≡ codes "REFUSED 87:Q1                                              00000000000000            0000000000000"
unfolding asking digits
refused = refl

waits : reply_text Waits ≡ codes "WAITS"
waits = refl

area_after : reply_text (AreaOut sending) ≡ codes "23:00010005000T1          "
unfolding sending digits
area_after = refl

arrived : reply_text (Arrived 999999999999999999) ≡ codes "999999999999999999"
unfolding digits
arrived = refl

done : reply_text Done ≡ codes "DONE"
done = refl

-- a unit that begins, and an arrival
begins : Entry
begins = record { party = party.Unit (codes "ECHO"); call = Start; reply = Started None }

comes : Entry
comes = record { party = party.Terminal (codes "T1"); call = Arrive (moment (codes "740601") (codes "10203000")) (record { segments = codes "HELLO" ∷ []; end = Emi }); reply = Arrived 1 }

one_segment : All (λ segment. length segment ≤ MAX_SEGMENT_LENGTH) (codes "HELLO" ∷ [])
one_segment = All-from_recursion (λ segment. length segment ≤ MAX_SEGMENT_LENGTH) (codes "HELLO" ∷ []) (omega arith, tt)

journal : IsJournal (begins ∷ comes ∷ []) (codes "MCS-JOURNAL 1\nU ECHO START = 0:\nT T1 ARRIVE 740601 10203000 EMI 1 5:HELLO = 1\n")
unfolding begins comes digits
journal = (
  codes "U ECHO START = 0:" ∷ codes "T T1 ARRIVE 740601 10203000 EMI 1 5:HELLO = 1" ∷ [],
  (
    record { has_text = record { caller = (refl, tt); call = tt; reply = tt }; spelled = refl },
    (
      record {
        has_text = record {
          caller = (refl, λ unit. unit);
          call = (refl, record { texts = (refl, tt); limits = record { not_empty = omega arith; few = omega arith; short = one_segment; characters = omega arith } });
          reply = (omega arith, omega arith);
        };
        spelled = refl;
      },
      tt,
    ),
  ),
  refl,
)
