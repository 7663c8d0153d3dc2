-- What a program does, by recursion on its statement trees.
use Rattle.std.specs.Prelude.{ℕ, zero, suc, ◌+◌, ◌-◌, Bool, true, false, List, [], ◌∷◌, ◌++◌, length, take, drop, Option, Some, None, unwrap_or, bytes_eq}
use Rattle.std.specs.List.{position_or_len}
use Rattle.com_cd.specs.Parts.{with_part}
use Rattle.com_events.specs.declared.call.Call.{Call}
use Rattle.com_events.specs.declared.call.StopReason.{StopReason}
use Rattle.com_events.specs.declared.call.StopReason.TheVariants as stop
use Rattle.com_events.specs.declared.reply.Reply.{Reply}
use Rattle.com_events.specs.declared.reply.Reply.TheVariants.{NoData}
use Rattle.cob_forms.specs.declared.written.Name.{Name}
use Rattle.cob_proc.specs.declared.tree.Repetition.{Repetition}
use Rattle.cob_proc.specs.declared.tree.Repetition.TheVariants as repetition
use Rattle.cob_proc.specs.Trees.{Plain, moves, adds, subtracts, performs, goes, exits, stops, sends, switches_input, switches_output, accepts, Tree, plain, branches, receives, Block, none, lead, ParagraphTree}
use Rattle.cob_meaning.specs.declared.limits.TheConstants.{MAX_STATEMENTS}
use Rattle.cob_meaning.specs.Layouts.{Layout}
use Rattle.cob_meaning.specs.Storage.{Storage, area_in, with_area}
use Rattle.cob_meaning.specs.Moves.{add, addend_number, move, subtract}
use Rattle.cob_meaning.specs.Conditions.{holds}
use Rattle.cob_meaning.specs.Verbs.{Request, accept, receive, send, switch_input, switch_output, with_reply}

-- the state of a run
pub record Run : Type 0 where
  pub storage : Storage
  pub left : ℕ  -- statements and turns that may still be begun
  pub verbs : ℕ  -- verbs that may still be answered
  pub calls : List Call  -- the calls that were answered
  pub replies : List Reply  -- what is still to come back

-- how a statement, a paragraph or a range ends
pub data Outcome : Type 0 where
  Normal : (run : Run) → Outcome
  Jump : (to : ℕ) (run : Run) → Outcome
  Stops : (reason : StopReason) (run : Run) → Outcome
  Needs : (call : Call) (run : Run) → Outcome

-- goes on from where something ended normally
abbrev pub then_do : Outcome → (Run → Outcome) → Outcome
then_do (Normal run) next = next run
then_do (Jump to run) next = Jump to run
then_do (Stops reason run) next = Stops reason run
then_do (Needs call run) next = Needs call run

-- one more statement or turn is begun, if this many may still be begun; otherwise the unit stops
-- for LIMIT
abbrev pub begun_with : ℕ → (Run → Outcome) → Run → Outcome
begun_with zero next run = Stops stop.Limit run
begun_with (suc left) next run = next (record run { left = left })

-- one more statement or turn is begun, as far as the run may begin it
abbrev pub begun : (Run → Outcome) → Run → Outcome
begun next run = begun_with run.left next run

-- goes on with the storage that a statement leaves, or stops for DATA
abbrev pub changed_to : Option Storage → Run → Outcome
changed_to None run = Stops stop.DataFault run
changed_to (Some storage) run = Normal (record run { storage = storage })

-- a statement that only changes the storage
abbrev pub changed : (Storage → Option Storage) → Run → Outcome
changed effect run = changed_to (effect run.storage) run

-- goes one way if a condition holds, and the other way if it does not
abbrev pub choice : Option Bool → (Run → Outcome) → (Run → Outcome) → Run → Outcome
choice None one other run = Stops stop.DataFault run
choice (Some true) one other run = one run
choice (Some false) one other run = other run

-- a turn, `k` times
abbrev pub times : ℕ → (Run → Outcome) → Run → Outcome
times zero turn run = Normal run
times (suc k) turn run = begun (λ r. then_do (turn r) (times k turn)) run

-- a turn as often as an item or a number says
abbrev pub times_of : Option ℕ → (Run → Outcome) → Run → Outcome
times_of None turn run = Stops stop.DataFault run
times_of (Some k) turn run = times k turn run

-- a turn until the condition holds, which is tested before each turn; n is a bound on the turns
abbrev pub until : ℕ → (Storage → Option Bool) → (Run → Outcome) → Run → Outcome
until zero test turn run = Stops stop.Limit run
until (suc n) test turn run =
    choice (test run.storage) Normal (begun (λ r. then_do (turn r) (until n test turn))) run

-- the turns of a PERFORM
abbrev pub turns : ℕ → Layout → Repetition → (Run → Outcome) → Run → Outcome
turns n layout repetition.Once turn run = turn run
turns n layout (repetition.Times counted) turn run =
    times_of (addend_number layout counted run.storage) turn run
turns n layout (repetition.Until condition) turn run = until n (holds layout condition) turn run

-- the statements of NO DATA, if the reply is that there is no data
abbrev pub after_reply : Reply → (Run → Outcome) → Run → Outcome
after_reply (NoData area) no_data run = no_data run
after_reply _ no_data run = Normal run

-- a verb takes the next reply
abbrev pub answered : Request → (Run → Outcome) → List Reply → Run → Outcome
answered request no_data [] run = Needs request.call run
answered request no_data (reply ∷ replies) run =
    after_reply reply no_data
    (record run {
      storage = with_reply request reply run.storage;
      calls = run.calls ++ request.call ∷ [];
      replies = replies;
    })

-- a verb makes its request, or stops for DATA
abbrev pub requested : Option Request → (Run → Outcome) → Run → Outcome
requested None no_data run = Stops stop.DataFault run
requested (Some request) no_data run = answered request no_data run.replies run

-- a verb makes its request, if this many may still be answered; otherwise the unit stops for LIMIT
abbrev pub verb_with : ℕ → (Storage → Option Request) → (Run → Outcome) → Run → Outcome
verb_with zero request no_data run = Stops stop.Limit run
verb_with (suc verbs) request no_data run =
    requested (request run.storage) no_data (record run { verbs = verbs })

-- a verb, as far as the run may make it
abbrev pub verb : (Storage → Option Request) → (Run → Outcome) → Run → Outcome
verb request no_data run = verb_with run.verbs request no_data run

-- the number of a paragraph, from 0
abbrev pub paragraph_number : List ParagraphTree → Name → ℕ
paragraph_number text name =
    position_or_len (λ paragraph. bytes_eq paragraph.name.text name.text) text

-- the last paragraph of a performed range
abbrev pub last_of : Name → Option Name → Name
last_of first last = unwrap_or last first

-- going on from a paragraph, in the range that ends with the last
abbrev pub Running : Type 0
Running = (begin last : ℕ) → Run → Outcome

-- whether statements are written in a block
abbrev pub are_written : Block → Bool
are_written none = false
are_written (lead statement others) = true

-- what statements do, where a performed range does what `range` says and an UNTIL has at most n
-- turns
module _ (layout : Layout) (text : List ParagraphTree) (n : ℕ) (range : Running) where
  -- a statement in which no others are
  abbrev pub plain_does : Plain → Run → Outcome
  plain_does (moves source targets) = changed (move layout source targets)
  plain_does (adds addend target) = changed (add layout addend target)
  plain_does (subtracts addend target) = changed (subtract layout addend target)
  plain_does (performs first last often) =
      turns n layout often
      (range (paragraph_number text first) (paragraph_number text (last_of first last)))
  plain_does (goes target) = Jump (paragraph_number text target)
  plain_does exits = Normal
  plain_does stops = Stops stop.Run
  plain_does (sends cd from ending) = verb (send layout cd from ending) Normal
  plain_does (switches_input on terminal cd key) =
      verb (switch_input layout on terminal cd key) Normal
  plain_does (switches_output on cd key) = verb (switch_output layout on cd key) Normal
  plain_does (accepts cd) = verb (accept layout cd) Normal

  abbrev mutual
    -- a statement
    pub does : Tree → Run → Outcome
    does (plain statement) = begun (plain_does statement)
    does (branches position condition one other) =
        begun (λ run. choice (holds layout condition run.storage) (do_all one) (do_all other) run)
    does (receives cd segment into no_data) =
        begun (verb (receive layout cd segment into (are_written no_data)) (do_all no_data))

    -- statements one after another
    pub do_all : Block → Run → Outcome
    do_all none run = Normal run
    do_all (lead statement others) run = then_do (does statement run) (do_all others)

  -- sentences one after another
  abbrev pub in_order : List Block → Run → Outcome
  in_order [] run = Normal run
  in_order (sentence ∷ others) run = then_do (do_all sentence run) (in_order others)

-- after a paragraph the next one, and after a jump its paragraph
abbrev pub after : Outcome → (ℕ → Run → Outcome) → (Run → Outcome) → Outcome
after (Normal run) jump next = next run
after (Jump to run) jump next = jump to run
after (Stops reason run) jump next = Stops reason run
after (Needs call run) jump next = Needs call run

-- paragraphs one after another; a jump leaves them
abbrev pub paragraphs_do : (ParagraphTree → Run → Outcome) → (ℕ → Run → Outcome)
    → List ParagraphTree → Run → Outcome
paragraphs_do one jump [] run = Normal run
paragraphs_do one jump (paragraph ∷ paragraphs) run =
    after (one paragraph run) jump (paragraphs_do one jump paragraphs)

-- the paragraphs of a text from one to another
abbrev pub from_to : List ParagraphTree → ℕ → ℕ → List ParagraphTree
from_to text begin last = drop begin (take (last + 1) text)

-- A range from one of its paragraphs on. n is a bound on the jumps, ranges and turns on the way, of
-- which each is begun and counted.
abbrev pub range : ℕ → Layout → List ParagraphTree → Running
range zero layout text begin last run = Stops stop.Limit run
range (suc n) layout text begin last run =
    paragraphs_do (λ paragraph. in_order layout text n (range n layout text) paragraph.sentences)
    (λ to. range n layout text to last) (from_to text begin last) run

-- what a program comes to
pub data Ending : Type 0 where
  Stopped : StopReason → Ending
  Wants : Call → Ending

-- the calls that were answered, in order, and what a program comes to
pub record Meaning : Type 0 where
  pub calls : List Call
  pub ending : Ending

-- what an outcome of the whole text means; the end of the text stops the run
abbrev pub meaning_of : Outcome → Meaning
meaning_of (Normal run) = record { calls = run.calls; ending = Stopped stop.Run }
meaning_of (Jump to run) = record { calls = run.calls; ending = Stopped stop.Run }
meaning_of (Stops reason run) = record { calls = run.calls; ending = Stopped reason }
meaning_of (Needs call run) = record { calls = run.calls; ending = Wants call }

-- the storage with the names that START hands over in the first characters of the CD that has
-- INITIAL
abbrev pub with_names : Option ℕ → Option (List ℕ) → Storage → Storage
with_names (Some area) (Some names) storage =
    with_area area (with_part 0 (length names) (area_in storage area) names) storage
with_names _ _ storage = storage

-- how many statements and turns a unit may begin, and how many verbs it may have answered
pub record Limits : Type 0 where
  pub statements : ℕ
  pub verbs : ℕ

-- the state in which a run begins
abbrev pub beginning : Limits → Layout → Option (List ℕ) → List Reply → Run
beginning limits layout names replies = record {
  storage = with_names layout.initial names layout.opening;
  left = limits.statements;
  verbs = limits.verbs;
  calls = [];
  replies = replies;
}

-- the whole text is the outermost range
abbrev pub whole : Limits → Layout → List ParagraphTree → Run → Outcome
whole limits layout text = range (limits.statements + 1) layout text 0 (length text - 1)

-- a program: what its names stand for, and its paragraphs
pub record Program : Type 0 where
  pub layout : Layout
  pub text : List ParagraphTree

-- what a program does within limits, given these names and replies
abbrev pub meaning_within : Limits → Program → Option (List ℕ) → List Reply → Meaning
meaning_within limits program names replies =
    meaning_of
    (whole limits program.layout program.text (beginning limits program.layout names replies))

abbrev MAX_VERBS : ℕ
MAX_VERBS = 10000

-- the limits of each unit
unfoldable pub unit_limits : Limits
unit_limits = record { statements = MAX_STATEMENTS; verbs = MAX_VERBS }

-- what a program does, given these names and replies
abbrev pub meaning : Program → Option (List ℕ) → List Reply → Meaning
meaning = meaning_within unit_limits
