-- What frames do, one step at a time, with one bound on both sides.
use Rattle.std.proofs.Common.{Option, ◌≡◌, ℕ, suc, ◌+◌, ◌-◌, ◌<◌, ◌≤◌, List, [], ◌∷◌, length, take, drop, get_or, Some, refl, sym, ap, ◌∙◌, arith, drop-cons, add-one, Bool}
use Rattle.std.specs.Prelude.{slice_get}
use Rattle.std.proofs.Math.ListN.{drop_of_length-le}
use Rattle.std.proofs.lemmas.List.{get_or-take, length-take-le}
use Rattle.std.proofs.lemmas.Option.{get_or_from_slice_get, slice_get-get_or}
use Rattle.com_events.specs.declared.call.Call.{Call}
use Rattle.com_events.specs.declared.call.StopReason.{StopReason}
use Rattle.com_events.specs.declared.reply.Reply.{Reply}
use Rattle.cob_proc.specs.declared.tree.Condition.{Condition}
use Rattle.cob_proc.specs.Trees.{ParagraphTree}
use Rattle.cob_meaning.specs.Layouts.{Layout}
use Rattle.cob_meaning.specs.Storage.{Storage}
use Rattle.cob_meaning.specs.Conditions.{holds}
use Rattle.cob_meaning.specs.Meaning.{Run, Outcome, Normal, Jump, Stops, Needs, then_do, begun, choice, until, in_order, paragraphs_do, from_to, range, Program, meaning, meaning_of, beginning, unit_limits}
use Rattle.cob_frames.specs.Frames.{Frame, rest_of, sentences_left, paragraphs_left, turns_left, turns_until, frames_do, frames_after_go, whole_text, unit_bound, program_does}
use Rattle.cob_meaning.proofs.Bounds.{range_more, until_more}

-- each place of a list has an element
pub there : {A : Type 0} (xs : List A) (k : ℕ) → k < length xs
    → (x : A) × (slice_get xs k ≡ Some x)
there [] k lt = let never : ⊥ = omega arith in absurd never
there (x ∷ xs) k lt = (get_or (x ∷ xs) k x, slice_get-get_or (x ∷ xs) k x lt)

-- the paragraphs from one on are that one and those from the next on
pub one_from_to : (text : List ParagraphTree) (k last : ℕ) (p : ParagraphTree) → k ≤ last
    → last < length text → slice_get text k ≡ Some p
    → from_to text k last ≡ p ∷ from_to text (k + 1) last
one_from_to text k last p le lt h =
    let xs = take (last + 1) text in
    let len : length xs ≡ last + 1 = length-take-le (last + 1) text (omega arith) in
    let within : k < length xs = omega arith in
    let head : get_or xs k p ≡ p =
    get_or-take (last + 1) text k p (omega arith) ∙ get_or_from_slice_get text k p p h in
    drop-cons xs k p within ∙ ap (λ x. x ∷ drop (suc k) xs) head
    ∙ ap (λ i. p ∷ drop i xs) (sym (add-one k))

-- there are no paragraphs past the last
pub none_from_to : (text : List ParagraphTree) (k last : ℕ) → last < k → last < length text
    → from_to text k last ≡ []
none_from_to text k last past lt =
    let len : length (take (last + 1) text) ≡ last + 1 =
    length-take-le (last + 1) text (omega arith) in
    drop_of_length-le (take (last + 1) text) (omega arith)

-- nothing more to do changes nothing
pub then_normal : (o : Outcome) → then_do o Normal ≡ o
then_normal (Normal run) = refl
then_normal (Jump to run) = refl
then_normal (Stops reason run) = refl
then_normal (Needs call run) = refl

module _ (n : ℕ) (layout : Layout) (text : List ParagraphTree) where
  -- what a paragraph of a range does
  abbrev one : ParagraphTree → Run → Outcome
  one paragraph = in_order layout text n (range n layout text) paragraph.sentences

  -- a range goes on from paragraph to paragraph
  pub range_is : (begin last : ℕ) (run : Run) → run.left < n
      → range n layout text begin last run
      ≡ paragraphs_do one (λ to. range n layout text to last) (from_to text begin last) run
  range_is begin last run lt = range_more n layout text begin last run lt

  -- an UNTIL tests before each turn
  pub until_is : (test : Storage → Option Bool) (first last : ℕ) (run : Run) → run.left < n
      → until n test (range n layout text first last) run
      ≡ choice (test run.storage) Normal (begun (λ r. then_do (range n layout text first last r)
      (until n test (range n layout text first last)))) run
  until_is test first last run lt = until_more n layout text first last test run lt

  abbrev Do : List Frame → Outcome → Outcome
  Do = frames_do n layout text

  -- a stop ends all frames
  pub stop_stays : (frames : List Frame) (reason : StopReason) (run : Run)
      → Do frames (Stops reason run) ≡ Stops reason run
  stop_stays [] reason run = refl
  stop_stays (rest_of block ∷ frames) reason run = stop_stays frames reason run
  stop_stays (sentences_left sentences ∷ frames) reason run = stop_stays frames reason run
  stop_stays (paragraphs_left next last ∷ frames) reason run = stop_stays frames reason run
  stop_stays (turns_left count first last ∷ frames) reason run = stop_stays frames reason run
  stop_stays (turns_until condition first last ∷ frames) reason run = stop_stays frames reason run

  -- a call without a reply ends all frames
  pub need_stays : (frames : List Frame) (call : Call) (run : Run)
      → Do frames (Needs call run) ≡ Needs call run
  need_stays [] call run = refl
  need_stays (rest_of block ∷ frames) call run = need_stays frames call run
  need_stays (sentences_left sentences ∷ frames) call run = need_stays frames call run
  need_stays (paragraphs_left next last ∷ frames) call run = need_stays frames call run
  need_stays (turns_left count first last ∷ frames) call run = need_stays frames call run
  need_stays (turns_until condition first last ∷ frames) call run = need_stays frames call run

  -- a range that is performed is a frame
  pub range_begins : (first last : ℕ) (run : Run) (frames : List Frame) → run.left < n
      → Do frames (range n layout text first last run)
      ≡ Do (paragraphs_left first last ∷ frames) (Normal run)
  range_begins first last run frames lt = ap (Do frames) (range_is first last run lt)

  -- the next paragraph of a range begins
  pub paragraph_begins : (k last : ℕ) (p : ParagraphTree) (run : Run) (frames : List Frame)
      → k ≤ last → last < length text → slice_get text k ≡ Some p
      → Do (paragraphs_left k last ∷ frames) (Normal run)
      ≡ Do (sentences_left p.sentences ∷ paragraphs_left (k + 1) last ∷ frames) (Normal run)
  paragraph_begins k last p run frames le lt h =
      ap (λ ps. Do frames (paragraphs_do one (λ to. range n layout text to last) ps run))
      (one_from_to text k last p le lt h)

  -- a range ends
  pub range_ends : (k last : ℕ) (run : Run) (frames : List Frame) → last < k → last < length text
      → Do (paragraphs_left k last ∷ frames) (Normal run) ≡ Do frames (Normal run)
  range_ends k last run frames past lt =
      ap (λ ps. Do frames (paragraphs_do one (λ to. range n layout text to last) ps run))
      (none_from_to text k last past lt)

  -- a GO goes on at its paragraph, in the range that runs
  pub go_goes_on : (frames : List Frame) (to : ℕ) (run : Run) → run.left < n
      → meaning_of (Do frames (Jump to run))
      ≡ meaning_of (Do (frames_after_go to frames) (Normal run))
  go_goes_on [] to run lt = refl
  go_goes_on (rest_of block ∷ frames) to run lt = go_goes_on frames to run lt
  go_goes_on (sentences_left sentences ∷ frames) to run lt = go_goes_on frames to run lt
  go_goes_on (paragraphs_left next last ∷ frames) to run lt =
      ap meaning_of (range_begins to last run frames lt)
  go_goes_on (turns_left count first last ∷ frames) to run lt = go_goes_on frames to run lt
  go_goes_on (turns_until condition first last ∷ frames) to run lt = go_goes_on frames to run lt

  -- an UNTIL goes on by its condition
  pub turns_go_on : (condition : Condition) (first last : ℕ) (run : Run) (frames : List Frame)
      → run.left < n
      → Do (turns_until condition first last ∷ frames) (Normal run)
      ≡ Do frames (choice (holds layout condition run.storage) Normal
      (begun (λ r. then_do (range n layout text first last r)
      (until n (holds layout condition) (range n layout text first last)))) run)
  turns_go_on condition first last run frames lt =
      ap (Do frames) (until_is (holds layout condition) first last run lt)

-- the frames of the whole text do what the program means
pub whole_text_does : (program : Program) (names : Option (List ℕ)) (replies : List Reply)
    → meaning program names replies
    ≡ meaning_of (program_does program (whole_text program)
    (beginning unit_limits program.layout names replies))
whole_text_does program names replies =
    ap meaning_of
    (range_is unit_bound program.layout program.text 0 (length program.text - 1)
    (beginning unit_limits program.layout names replies) (omega arith))
