-- What frames come to, worked out by hand.
use Rattle.std.proofs.Common.{◌≡◌, ℕ, List, [], ◌∷◌, None, refl, codes}
use Rattle.com_cd.specs.InputArea.{opening_area}
use Rattle.com_events.specs.declared.call.StopReason.TheVariants as stop
use Rattle.com_events.specs.declared.reply.Reply.TheVariants as reply
use Rattle.cob_proc.specs.declared.tree.Condition.{Condition}
use Rattle.cob_proc.specs.declared.tree.Repetition.TheVariants as repetitions
use Rattle.cob_proc.specs.Trees.{Block, ParagraphTree, block_of, lead, none}
use Rattle.cob_meaning.specs.Storage.{Storage}
use Rattle.cob_meaning.specs.Meaning.{Meaning, Program, Stopped, meaning, meaning_of, unit_limits}
use Rattle.cob_meaning.proofs.Trees.{add_of, alone, a_numeral, by_number, equals, go_to, item, of_item, paragraph, perform_thru}
use Rattle.cob_meaning.proofs.SmallPrograms.{at_once, out_area, program, sent, shows}
use Rattle.cob_frames.specs.Frames.{Frame, rest_of, sentences_left, paragraphs_left, turns_left, turns_until, frames_after_go, program_does}
use Rattle.cob_frames.specs.Units.{frames_after_reply}

-- ADD a number TO an item
abbrev adds : List ℕ → List ℕ → Block
adds digits text = block_of (add_of (by_number digits) (item text) ∷ [])

-- SEND D FROM an item
abbrev shown : List ℕ → Block
shown text = block_of (shows text ∷ [])

-- PERFORM P THRU Q 3 TIMES
abbrev performs : Block
performs =
    block_of (perform_thru (codes "P") (codes "Q") (repetitions.Times (by_number (codes "3"))) ∷ [])

-- MAIN. PERFORM P THRU Q 3 TIMES. SEND D FROM M.
abbrev main : ParagraphTree
main = record (paragraph (codes "MAIN") []) {
  sentences = performs ∷ shown (codes "M") ∷ [];
}

-- P. ADD 1 TO M. ADD 2 TO N.
abbrev first : ParagraphTree
first = record (paragraph (codes "P") []) {
  sentences = adds (codes "1") (codes "M") ∷ adds (codes "2") (codes "N") ∷ [];
}

-- Q. ADD 4 TO M.
abbrev second : ParagraphTree
second = record (paragraph (codes "Q") []) { sentences = adds (codes "4") (codes "M") ∷ [] }

-- the three paragraphs; M begins with 042, and N with 12345
abbrev thrice : Program
thrice = program (codes "ABC") (codes "042") (codes "XY12") (main ∷ first ∷ second ∷ [])

-- the storage after the first ADD 1 TO M
abbrev storage : Storage
storage = codes "ABC" ∷ codes "BBBBB" ∷ codes "043" ∷ codes "12345" ∷ codes "XY12" ∷ out_area
    ∷ opening_area ∷ []

-- what frames come to after that ADD, if this many statements and turns may still be begun
abbrev come_to : ℕ → List Frame → Meaning
come_to left frames =
    meaning_of (program_does thrice frames
    (record { storage = storage; left = left; verbs = 10; calls = []; replies = [] }))

-- what is left after that ADD, with SEND D FROM this item: ADD 2 TO N, the paragraph Q, two turns,
-- SEND, and the paragraphs P and Q
abbrev after_add : List ℕ → List Frame
after_add text = sentences_left (adds (codes "2") (codes "N") ∷ []) ∷ paragraphs_left 2 2
    ∷ turns_left 2 1 2 ∷ sentences_left (shown text ∷ []) ∷ paragraphs_left 1 2 ∷ []

-- the condition M = a number
abbrev m_is : List ℕ → Condition
m_is digits = alone (equals (of_item (codes "M")) (a_numeral digits))

-- the program adds 1 and 4 to M three times
whole_program : meaning thrice None [] ≡ sent (codes "057")
unfolding unit_limits
whole_program = refl

-- so do the first ADD and what is left after it
after_first_add : come_to 999997 (after_add (codes "M")) ≡ sent (codes "057")
unfolding unit_limits
after_first_add = refl

-- each ADD 2 TO N is still left
adds_to_n : come_to 999997 (after_add (codes "N")) ≡ sent (codes "12351")
unfolding unit_limits
adds_to_n = refl

-- what is left begins eleven statements and turns up to SEND: two ADDs, two turns of three ADDs
-- each, and SEND
eleven_are_enough : come_to 11 (after_add (codes "M")) ≡ sent (codes "057")
unfolding unit_limits
eleven_are_enough = refl

-- the limit stops the unit before its SEND if it may begin ten
ten_are_too_few : come_to 10 (after_add (codes "M")) ≡ at_once (Stopped stop.Limit)
unfolding unit_limits
ten_are_too_few = refl

-- the rest of a block comes before the sentences after it
block_first : come_to 10
    (rest_of (adds (codes "1") (codes "M")) ∷ sentences_left (shown (codes "M") ∷ []) ∷ [])
    ≡ sent (codes "044")
unfolding unit_limits
block_first = refl

-- the end of the last frame stops the unit
end_of_frames : come_to 10 (rest_of none ∷ []) ≡ at_once (Stopped stop.Run)
unfolding unit_limits
end_of_frames = refl

-- an UNTIL has a turn if its condition does not hold, and none after it holds
one_turn : come_to 10 (turns_until (m_is (codes "48")) 1 2 ∷ rest_of (shown (codes "M")) ∷ [])
    ≡ sent (codes "048")
unfolding unit_limits
one_turn = refl

-- an UNTIL has no turn if its condition holds at once
no_turn : come_to 1 (turns_until (m_is (codes "43")) 1 2 ∷ rest_of (shown (codes "M")) ∷ [])
    ≡ sent (codes "043")
unfolding unit_limits
no_turn = refl

-- GO TO P begins P again in the range, and leaves its turns
go_in_range : frames_after_go 1 (rest_of none ∷ after_add (codes "M"))
    ≡ paragraphs_left 1 2 ∷ turns_left 2 1 2 ∷ sentences_left (shown (codes "M") ∷ [])
    ∷ paragraphs_left 1 2 ∷ []
go_in_range = refl

-- the rest of the block and of the paragraph is not done after GO TO P
go_again : come_to 10
    (rest_of (lead (go_to (codes "P")) (adds (codes "1") (codes "M")))
    ∷ sentences_left (adds (codes "1") (codes "M") ∷ []) ∷ paragraphs_left 2 2
    ∷ rest_of (shown (codes "M")) ∷ []) ≡ sent (codes "048")
unfolding unit_limits
go_again = refl

-- the statements of NO DATA come first if there is no data
no_data : frames_after_reply (reply.NoData []) performs (after_add (codes "M"))
    ≡ rest_of performs ∷ after_add (codes "M")
no_data = refl

-- the statements of NO DATA are passed over if there is a text
text_given : frames_after_reply (reply.Given [] []) performs (after_add (codes "M"))
    ≡ after_add (codes "M")
text_given = refl
