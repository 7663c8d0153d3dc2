-- What is left to do of a program, as a list of frames, and what such a list does.
use Rattle.std.specs.Prelude.{ℕ, ◌+◌, ◌-◌, List, [], ◌∷◌, length}
use Rattle.cob_proc.specs.declared.tree.Condition.{Condition}
use Rattle.cob_proc.specs.Trees.{Block, ParagraphTree}
use Rattle.cob_meaning.specs.Layouts.{Layout}
use Rattle.cob_meaning.specs.Conditions.{holds}
use Rattle.cob_meaning.specs.Meaning.{Outcome, Normal, Program, Run, Running, after, do_all, in_order, paragraphs_do, from_to, range, then_do, times, unit_limits, until}

-- one part of what is left to do
pub data Frame : Type 0 where
  -- the statements that are left of a block
  rest_of : (block : Block) → Frame
  -- the sentences that are left of a paragraph
  sentences_left : (sentences : List Block) → Frame
  -- the paragraphs that are left of a range, from the next one to the last
  paragraphs_left : (next last : ℕ) → Frame
  -- the turns that are left of a performed range
  turns_left : (count first last : ℕ) → Frame
  -- the turns of a performed range until a condition holds
  turns_until : (condition : Condition) (first last : ℕ) → Frame

-- What frames do. n is the bound of `range`: more than the statements and turns that may be begun.
module _ (n : ℕ) (layout : Layout) (text : List ParagraphTree) where
  -- what a range of the text does
  abbrev pub range_does : Running
  range_does = range n layout text

  -- what a frame does after the outcome of what was done before it
  abbrev pub frame_does : Frame → Outcome → Outcome
  frame_does (rest_of block) outcome =
      then_do outcome (do_all layout text n range_does block)
  frame_does (sentences_left sentences) outcome =
      then_do outcome (in_order layout text n range_does sentences)
  frame_does (paragraphs_left next last) outcome =
      after outcome (λ to. range_does to last)
      (paragraphs_do (λ paragraph. in_order layout text n range_does paragraph.sentences)
      (λ to. range_does to last) (from_to text next last))
  frame_does (turns_left count first last) outcome =
      then_do outcome (times count (range_does first last))
  frame_does (turns_until condition first last) outcome =
      then_do outcome (until n (holds layout condition) (range_does first last))

  -- what frames do one after another, the first in the list first
  abbrev pub frames_do : List Frame → Outcome → Outcome
  frames_do [] outcome = outcome
  frames_do (frame ∷ frames) outcome = frames_do frames (frame_does frame outcome)

-- The frames after a GO: it drops all frames before the range that runs, which goes on at the
-- paragraph of the GO.
abbrev pub frames_after_go : ℕ → List Frame → List Frame
frames_after_go to [] = []
frames_after_go to (paragraphs_left next last ∷ frames) = paragraphs_left to last ∷ frames
frames_after_go to (rest_of block ∷ frames) = frames_after_go to frames
frames_after_go to (sentences_left sentences ∷ frames) = frames_after_go to frames
frames_after_go to (turns_left count first last ∷ frames) = frames_after_go to frames
frames_after_go to (turns_until condition first last ∷ frames) = frames_after_go to frames

-- the frames of the whole text: one range over all paragraphs
abbrev pub whole_text : Program → List Frame
whole_text program = paragraphs_left 0 (length program.text - 1) ∷ []

-- one more than the statements and turns that a unit may begin
abbrev pub unit_bound : ℕ
unit_bound = unit_limits.statements + 1

-- what frames of a program do
abbrev pub program_does : Program → List Frame → Run → Outcome
program_does program frames run =
    frames_do unit_bound program.layout program.text frames (Normal run)
