-- How the place and the stack of a machine go with what is still to be done.
use Rattle.std.specs.Prelude.{◌≡◌, ℕ, ◌+◌, ◌-◌, ◌<◌, ◌≤◌, List, [], ◌∷◌, Option, Some, length, slice_get}
use Rattle.com_events.specs.declared.call.Call.{Call}
use Rattle.com_events.specs.declared.reply.Reply.{Reply}
use Rattle.cob_proc.specs.Trees.{Block}
use Rattle.cob_meaning.specs.Storage.{Storage}
use Rattle.cob_meaning.specs.Conditions.{holds}
use Rattle.cob_meaning.specs.Verbs.{Request}
use Rattle.cob_meaning.specs.Meaning.{Program}
use Rattle.cob_frames.specs.Frames.{Frame, rest_of, sentences_left, paragraphs_left, turns_left, turns_until}
use Rattle.cob_frames.specs.Units.{Progress, Runs, Waits, HasStopped}
use Rattle.cob_flat.specs.declared.code.Instruction.{Instruction}
use Rattle.cob_flat.specs.declared.code.Instruction.TheVariants as instruction
use Rattle.cob_flat.specs.declared.code.Verb.{Verb}
use Rattle.cob_flat.specs.Effects.{request_by}
use Rattle.cob_flat.specs.Compiled.{IsRangeOf, StayAll, StaySentences}
use Rattle.cob_flat.specs.Flat.{DoesAll, DoesSentences}
use Rattle.cob_run.specs.declared.returns.Further.{Further}
use Rattle.cob_run.specs.declared.returns.Further.TheVariants as further
use Rattle.cob_run.specs.declared.returns.Return.{Return}
use Rattle.cob_run.specs.declared.returns.Mode.{Mode}
use Rattle.cob_run.specs.declared.returns.Mode.TheVariants as mode
use Rattle.cob_run.specs.Machine.{Machine, judged_by}

module _ (program : Program) (code : List Instruction) where
  -- the PERFORM on the top of the stack began the range that runs, whose last paragraph is this
  pub record IsTop (first last : ℕ) (turns : Further) (top : Return) : Type 0 where
    pub first_is : top.first ≡ first
    pub last_is : top.last ≡ last
    pub further_is : top.further ≡ turns

  abbrev mutual
    -- the code at a place of the paragraph k does what is still to be done
    pub IsAt : List Frame → ℕ → ℕ → List Return → Type 0
    IsAt (rest_of block ∷ frames) place k stack =
        (between : ℕ) × DoesAll program.layout program.text code block place between × StayAll program.text k block × IsAt frames between k stack
    IsAt (sentences_left sentences ∷ frames) place k stack =
        (between : ℕ) × DoesSentences program.layout program.text code sentences place between × StaySentences program.text k sentences × IsAt frames between k stack
    IsAt (paragraphs_left next last ∷ frames) place k stack =
        (slice_get code place ≡ Some instruction.End) × (next ≡ k + 1) × (k ≤ last) × (last < length program.text) × IsUnder frames last k stack
    IsAt _ place k stack = ⊥

    -- what is still to be done after a range, in which k is, goes with the stack
    pub IsUnder : List Frame → ℕ → ℕ → List Return → Type 0
    IsUnder [] last k stack = (stack ≡ []) × (last ≡ length program.text - 1)
    IsUnder (turns_left count first end ∷ frames) last k stack =
        (top : Return) × (below : List Return) × (stack ≡ top ∷ below) × (end ≡ last) × (first ≤ k) × IsRangeOf program.text first last
        × IsTop first last (further.Times count) top × IsAt frames top.back top.paragraph below
    IsUnder (turns_until condition first end ∷ frames) last k stack =
        (top : Return) × (below : List Return) × (stack ≡ top ∷ below) × (end ≡ last) × (first ≤ k) × IsRangeOf program.text first last
        × IsTop first last further.Until top × ((storage : Storage) → judged_by (slice_get code top.call) storage ≡ holds program.layout condition storage)
        × IsAt frames top.back top.paragraph below
    IsUnder _ last k stack = ⊥

  -- how far a machine is
  abbrev pub progress_of : List Frame → List Call → Machine → Progress
  progress_of frames calls m = record { frames = frames; storage = m.storage; left = m.left; verbs = m.verbs; calls = calls }

  -- a machine waits at the instruction of a verb
  pub record IsAsking (request : Request) (no_data : Block) (frames : List Frame) (m : Machine) : Type 0 where
    pub verb : Verb
    pub at_none : ℕ
    pub next : ℕ
    pub instruction_is : slice_get code m.place ≡ Some (instruction.Ask verb at_none next)
    pub request_is : request_by verb m.storage ≡ Some request
    pub does_none : DoesAll program.layout program.text code no_data at_none next
    pub stay_none : StayAll program.text m.paragraph no_data
    pub rest : IsAt frames next m.paragraph m.stack

  module _ (names : Option (List ℕ)) (replies : List Reply) (calls : List Call) where
    -- a machine stands for a program, these names and these replies; these calls were answered
    abbrev pub StandsBy : Machine → Mode → Type 0
    StandsBy m mode.NotBegun = ⊥
    StandsBy m mode.Running =
        (frames : List Frame) × Runs program names replies (progress_of frames calls m) × IsAt frames m.place m.paragraph m.stack
    StandsBy m mode.Waiting =
        (frames : List Frame) × (request : Request) × (no_data : Block) × Waits program names replies request no_data (progress_of frames calls m)
        × IsAsking request no_data frames m
    StandsBy m (mode.Stopped reason) = HasStopped program names replies reason calls

    abbrev pub Stands : Machine → Type 0
    Stands m = StandsBy m m.mode
