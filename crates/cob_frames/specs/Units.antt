-- What the state of a unit stands for: a program, the names that START handed over, and the replies
-- to its verbs so far.
use Rattle.std.specs.Prelude.{◌≡◌, ◌<◌, ℕ, List, [], ◌∷◌, ◌++◌, Option}
use Rattle.com_events.specs.declared.call.Call.{Call}
use Rattle.com_events.specs.declared.call.StopReason.{StopReason}
use Rattle.com_events.specs.declared.reply.Reply.{Reply}
use Rattle.com_events.specs.declared.reply.Reply.TheVariants.{NoData}
use Rattle.cob_proc.specs.Trees.{Block}
use Rattle.cob_meaning.specs.Storage.{Storage}
use Rattle.cob_meaning.specs.Verbs.{Request, with_reply}
use Rattle.cob_meaning.specs.Meaning.{Meaning, Outcome, Program, Run, Stopped, answered, beginning, do_all, meaning, meaning_of, unit_limits}
use Rattle.cob_frames.specs.Frames.{Frame, rest_of, frames_do, range_does, unit_bound, whole_text}

-- how far a unit is: what it has left to do, and what it has done
pub record Progress : Type 0 where
  pub frames : List Frame
  pub storage : Storage
  pub left : ℕ  -- statements and turns that may still be begun
  pub verbs : ℕ  -- verbs that may still be answered
  pub calls : List Call  -- the calls that were answered

-- the state of the run, given the replies that are still to come
abbrev pub run_of : Progress → List Reply → Run
run_of p replies = record {
  storage = p.storage;
  left = p.left;
  verbs = p.verbs;
  calls = p.calls;
  replies = replies;
}

-- what the program comes to if the frames are done after this outcome
abbrev pub goes_on : Program → Progress → Outcome → Meaning
goes_on program p outcome =
    meaning_of (frames_do unit_bound program.layout program.text p.frames outcome)

-- a unit to which START has handed these names
abbrev pub opening_progress : Program → Option (List ℕ) → Progress
opening_progress program names =
    let run = beginning unit_limits program.layout names [] in
    record {
      frames = whole_text program;
      storage = run.storage;
      left = run.left;
      verbs = run.verbs;
      calls = run.calls;
    }

-- Whatever replies are still to come, what the unit does now and then its frames come to what the
-- program means, given all replies.
abbrev pub Leads : Program → Option (List ℕ) → List Reply → Progress → (Run → Outcome) → Type 0
Leads program names replies p now =
    (more : List Reply)
    → meaning program names (replies ++ more) ≡ goes_on program p (now (run_of p more))

-- a unit that runs: it goes on with its first frame
pub record Runs (program : Program) (names : Option (List ℕ)) (replies : List Reply)
    (p : Progress) : Type 0 where
  pub within : p.left < unit_bound
  pub leads : Leads program names replies p Outcome.Normal

-- what a verb does with the replies that are still to come; the block is that of NO DATA
abbrev pub verb_does : Program → Request → Block → Run → Outcome
verb_does program request no_data run =
    answered request
    (do_all program.layout program.text unit_bound
    (range_does unit_bound program.layout program.text) no_data) run.replies run

-- a unit that waits for the reply to a verb: it goes on with that reply
pub record Waits (program : Program) (names : Option (List ℕ)) (replies : List Reply)
    (request : Request) (no_data : Block) (p : Progress) : Type 0 where
  pub within : p.left < unit_bound
  pub leads : Leads program names replies p (verb_does program request no_data)

-- a unit that has stopped: whatever replies come, the program makes these calls and stops for this
-- reason
abbrev pub HasStopped : Program → Option (List ℕ) → List Reply → StopReason → List Call → Type 0
HasStopped program names replies reason calls =
    (more : List Reply)
    → meaning program names (replies ++ more) ≡ record { calls = calls; ending = Stopped reason }

-- the frames after a reply: the statements of NO DATA come first if there is no data
abbrev pub frames_after_reply : Reply → Block → List Frame → List Frame
frames_after_reply (NoData area) no_data frames = rest_of no_data ∷ frames
frames_after_reply _ no_data frames = frames

-- how far a unit is after the reply to its verb
abbrev pub progress_after_reply : Request → Block → Reply → Progress → Progress
progress_after_reply request no_data reply p = record p {
  frames = frames_after_reply reply no_data p.frames;
  storage = with_reply request reply p.storage;
  calls = p.calls ++ request.call ∷ [];
}
