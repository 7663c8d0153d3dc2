-- A bound above the statements that may still be begun changes nothing.
use Rattle.std.proofs.Common.{◌≡◌, ℕ, zero, suc, ◌<◌, ◌≤◌, Bool, true, false, List, [], ◌∷◌, Option, Some, None, refl, sym, subst, arith}
use Rattle.com_events.specs.declared.reply.Reply.{Reply}
use Rattle.com_events.specs.declared.reply.Reply.TheVariants.{Started, Given, NoData, Refused, Waits, AreaIn, AreaOut, Arrived, Done}
use Rattle.cob_proc.specs.declared.tree.Repetition.{Repetition}
use Rattle.cob_proc.specs.declared.tree.Repetition.TheVariants as repetition
use Rattle.cob_proc.specs.Trees.{Plain, moves, adds, subtracts, performs, goes, exits, stops, sends, switches_input, switches_output, accepts, Tree, plain, branches, receives, Block, none, lead, ParagraphTree}
use Rattle.com_events.specs.declared.call.StopReason.TheVariants as stop
use Rattle.cob_meaning.specs.Layouts.{Layout}
use Rattle.cob_meaning.specs.Storage.{Storage}
use Rattle.cob_meaning.specs.Moves.{add, addend_number, move, subtract}
use Rattle.cob_meaning.specs.Conditions.{holds}
use Rattle.cob_meaning.specs.Verbs.{Request, accept, receive, send, switch_input, switch_output}
use Rattle.cob_meaning.specs.Meaning.{Run, Outcome, Normal, Jump, Stops, Needs, then_do, begun_with, begun, changed_to, changed, choice, times, times_of, until, turns, after_reply, answered, requested, verb_with, verb, paragraph_number, last_of, Running, are_written, plain_does, does, do_all, in_order, after, paragraphs_do, from_to, range}

-- at most n are left afterwards, and fewer after a jump, which was itself begun
abbrev Within : ℕ → Outcome → Type 0
Within n (Normal run) = run.left ≤ n
Within n (Jump to run) = run.left < n
Within n (Stops reason run) = Unit {0}
Within n (Needs call run) = Unit {0}

within_more : (m n : ℕ) → m ≤ n → (o : Outcome) → Within m o → Within n o
within_more m n le (Normal run) h = omega arith
within_more m n le (Jump to run) h = omega arith
within_more m n le (Stops reason run) h = tt
within_more m n le (Needs call run) h = tt

-- two outcomes are one
record Alike (n : ℕ) (o p : Outcome) : Type 0 where
  same : o ≡ p
  within : Within n o

-- from each run with fewer than n left, the outcomes are one
record AlikeBelow (n : ℕ) (f g : Run → Outcome) : Type 0 where
  from : (run : Run) → run.left < n → Alike run.left (f run) (g run)

alike_more : (m n : ℕ) (o p : Outcome) → m ≤ n → Alike m o p → Alike n o p
alike_more m n o p le a = record { same = a.same; within = within_more m n le o a.within }

itself : (n : ℕ) (o : Outcome) → Within n o → Alike n o o
itself n o h = record { same = refl; within = h }

then_same : (n k : ℕ) (f g : Run → Outcome) → AlikeBelow n f g → k < n → (o : Outcome) → Within k o → Alike k (then_do o f) (then_do o g)
then_same n k f g h lt (Normal run) w = alike_more _ _ _ _ w (h.from run (omega arith))
then_same n k f g h lt (Jump to run) w = itself _ _ w
then_same n k f g h lt (Stops reason run) w = itself _ _ tt
then_same n k f g h lt (Needs call run) w = itself _ _ tt

then_alike : (n k : ℕ) (o p : Outcome) (f g : Run → Outcome) → k < n → Alike k o p → AlikeBelow n f g → Alike k (then_do o f) (then_do p g)
then_alike n k o p f g lt a h = subst (λ q. Alike k (then_do o f) (then_do q g)) a.same (then_same n k f g h lt o a.within)

begun_alike : (n : ℕ) (f g : Run → Outcome) → ((t : Run) → suc t.left < n → Alike (suc t.left) (f t) (g t)) → AlikeBelow n (begun f) (begun g)
begun_alike n f g h = record { from = λ run lt. by run.left run refl lt }
  where
    by : (m : ℕ) (run : Run) → run.left ≡ m → run.left < n → Alike run.left (begun_with m f run) (begun_with m g run)
    by zero run e lt = itself _ _ tt
    by (suc m) run e lt = let t : Run = record run { left = m } in subst (λ k. Alike k (f t) (g t)) (sym e) (h t (subst (λ k. k < n) e lt))

choice_alike : (n : ℕ) (b : Option Bool) (f g f' g' : Run → Outcome) → AlikeBelow n f f' → AlikeBelow n g g' → AlikeBelow n (choice b f g) (choice b f' g')
choice_alike n None f g f' g' a b = record { from = λ run lt. itself _ _ tt }
choice_alike n (Some true) f g f' g' a b = record { from = λ run lt. a.from run lt }
choice_alike n (Some false) f g f' g' a b = record { from = λ run lt. b.from run lt }

normal_alike : (n : ℕ) → AlikeBelow n Normal Normal
normal_alike n = record { from = λ run lt. itself _ _ (omega arith) }

times_alike : (n k : ℕ) (f g : Run → Outcome) → AlikeBelow n f g → AlikeBelow n (times k f) (times k g)
times_alike n zero f g h = record { from = λ run lt. itself _ _ (omega arith) }
times_alike n (suc k) f g h =
    let r = begun_alike n (λ t. then_do (f t) (times k f)) (λ t. then_do (g t) (times k g)) (λ t lt. alike_more _ _ _ _ (omega arith) (then_alike n t.left (f t) (g t) (times k f) (times k g) (omega arith) (h.from t (omega arith)) (times_alike n k f g h))) in
    record { from = λ run lt. r.from run lt }

often_alike : (n : ℕ) (k : Option ℕ) (f g : Run → Outcome) → AlikeBelow n f g → AlikeBelow n (times_of k f) (times_of k g)
often_alike n None f g h = record { from = λ run lt. itself _ _ tt }
often_alike n (Some k) f g h = record { from = λ run lt. (times_alike n k f g h).from run lt }

until_alike : (m n : ℕ) (test : Storage → Option Bool) (f g : Run → Outcome) → m ≤ n → AlikeBelow n f g → AlikeBelow m (until m test f) (until (suc m) test g)
until_alike zero n test f g le h = record { from = λ run lt. let never : ⊥ = omega arith in absurd never }
until_alike (suc m) n test f g le h =
    let r = begun_alike (suc m) (λ t. then_do (f t) (until m test f)) (λ t. then_do (g t) (until (suc m) test g)) (λ t lt. alike_more _ _ _ _ (omega arith) (then_alike m t.left (f t) (g t) (until m test f) (until (suc m) test g) (omega arith) (h.from t (omega arith)) (until_alike m n test f g (omega arith) h))) in
    record { from = λ run lt. (choice_alike (suc m) (test run.storage) Normal _ Normal _ (normal_alike (suc m)) r).from run lt }

turns_alike : (n : ℕ) (layout : Layout) (often : Repetition) (f g : Run → Outcome) → AlikeBelow n f g → AlikeBelow n (turns n layout often f) (turns (suc n) layout often g)
turns_alike n layout repetition.Once f g h = record { from = λ run lt. h.from run lt }
turns_alike n layout (repetition.Times counted) f g h = record { from = λ run lt. (often_alike n (addend_number layout counted run.storage) f g h).from run lt }
turns_alike n layout (repetition.Until condition) f g h = record { from = λ run lt. (until_alike n n (holds layout condition) f g (omega arith) h).from run lt }

changed_within : (o : Option Storage) (run : Run) → Within (suc run.left) (changed_to o run)
changed_within None run = tt
changed_within (Some storage) run = omega arith

changed_alike : (n : ℕ) (f : Storage → Option Storage) → AlikeBelow (suc n) (begun (changed f)) (begun (changed f))
changed_alike n f = begun_alike (suc n) (changed f) (changed f) (λ t lt. itself _ _ (changed_within (f t.storage) t))

behind_alike : (n : ℕ) (f g : Run → Outcome) → AlikeBelow n f g → (r : Reply) → AlikeBelow n (after_reply r f) (after_reply r g)
behind_alike n f g h (NoData area) = record { from = λ run lt. h.from run lt }
behind_alike n f g h (Started names) = normal_alike n
behind_alike n f g h (Given area text) = normal_alike n
behind_alike n f g h (Refused area) = normal_alike n
behind_alike n f g h Waits = normal_alike n
behind_alike n f g h (AreaIn area) = normal_alike n
behind_alike n f g h (AreaOut area) = normal_alike n
behind_alike n f g h (Arrived number) = normal_alike n
behind_alike n f g h Done = normal_alike n

answered_alike : (n : ℕ) (request : Request) (f g : Run → Outcome) → AlikeBelow n f g → (rs : List Reply) (run : Run) → run.left < n → Alike run.left (answered request f rs run) (answered request g rs run)
answered_alike n request f g h [] run lt = itself _ _ tt
answered_alike n request f g h (r ∷ rs) run lt = (behind_alike n f g h r).from _ lt

requested_alike : (n : ℕ) (o : Option Request) (f g : Run → Outcome) → AlikeBelow n f g → (run : Run) → run.left < n → Alike run.left (requested o f run) (requested o g run)
requested_alike n None f g h run lt = itself _ _ tt
requested_alike n (Some request) f g h run lt = answered_alike n request f g h run.replies run lt

verb_alike : (n verbs : ℕ) (request : Storage → Option Request) (f g : Run → Outcome) → AlikeBelow n f g → (run : Run) → run.left < n → Alike run.left (verb_with verbs request f run) (verb_with verbs request g run)
verb_alike n zero request f g h run lt = itself _ _ tt
verb_alike n (suc verbs) request f g h run lt = requested_alike n (request run.storage) f g h (record run { verbs = verbs }) lt

verbs_alike : (n : ℕ) (request : Storage → Option Request) (f g : Run → Outcome) → AlikeBelow (suc n) f g → AlikeBelow (suc n) (begun (verb request f)) (begun (verb request g))
verbs_alike n request f g h =
    begun_alike (suc n) (verb request f) (verb request g) (λ t lt. alike_more _ _ _ _ (omega arith) (verb_alike (suc n) t.verbs request f g h t (omega arith)))

one_more : (n : ℕ) (f g : Run → Outcome) → AlikeBelow n f g → AlikeBelow (suc n) (begun f) (begun g)
one_more n f g h = begun_alike (suc n) f g (λ t lt. alike_more _ _ _ _ (omega arith) (h.from t (omega arith)))

module _ (layout : Layout) (text : List ParagraphTree) (n : ℕ) (P Q : Running) (alike : (begin last : ℕ) → AlikeBelow n (P begin last) (Q begin last)) where
  plain_alike : (s : Plain) → AlikeBelow (suc n) (begun (plain_does layout text n P s)) (begun (plain_does layout text (suc n) Q s))
  plain_alike (moves source targets) = changed_alike n (move layout source targets)
  plain_alike (adds addend target) = changed_alike n (add layout addend target)
  plain_alike (subtracts addend target) = changed_alike n (subtract layout addend target)
  plain_alike (performs first last often) =
      let f = P (paragraph_number text first) (paragraph_number text (last_of first last)) in
      let g = Q (paragraph_number text first) (paragraph_number text (last_of first last)) in
      one_more n (turns n layout often f) (turns (suc n) layout often g) (turns_alike n layout often f g (alike _ _))
  plain_alike (goes target) = begun_alike (suc n) (Jump (paragraph_number text target)) (Jump (paragraph_number text target)) (λ t lt. itself _ _ (omega arith))
  plain_alike exits = begun_alike (suc n) Normal Normal (λ t lt. itself _ _ (omega arith))
  plain_alike stops = begun_alike (suc n) (Stops stop.Run) (Stops stop.Run) (λ t lt. itself _ _ tt)
  plain_alike (sends cd from ending) = verbs_alike n (send layout cd from ending) Normal Normal (normal_alike (suc n))
  plain_alike (switches_input on terminal cd key) = verbs_alike n (switch_input layout on terminal cd key) Normal Normal (normal_alike (suc n))
  plain_alike (switches_output on cd key) = verbs_alike n (switch_output layout on cd key) Normal Normal (normal_alike (suc n))
  plain_alike (accepts cd) = verbs_alike n (accept layout cd) Normal Normal (normal_alike (suc n))

  mutual
    does_alike : (s : Tree) → AlikeBelow (suc n) (does layout text n P s) (does layout text (suc n) Q s)
    does_alike (plain statement) = plain_alike statement
    does_alike (branches position condition one other) =
        begun_alike (suc n) (λ run. choice (holds layout condition run.storage) (do_all layout text n P one) (do_all layout text n P other) run)
        (λ run. choice (holds layout condition run.storage) (do_all layout text (suc n) Q one) (do_all layout text (suc n) Q other) run)
        (λ t lt. alike_more _ _ _ _ (omega arith) ((choice_alike (suc n) (holds layout condition t.storage) (do_all layout text n P one) (do_all layout text n P other) (do_all layout text (suc n) Q one) (do_all layout text (suc n) Q other) (all_alike one) (all_alike other)).from t (omega arith)))
    does_alike (receives cd segment into no_data) =
        verbs_alike n (receive layout cd segment into (are_written no_data)) (do_all layout text n P no_data) (do_all layout text (suc n) Q no_data) (all_alike no_data)

    all_alike : (block : Block) → AlikeBelow (suc n) (do_all layout text n P block) (do_all layout text (suc n) Q block)
    all_alike none = record { from = λ run lt. itself _ _ (omega arith) }
    all_alike (lead one others) =
        record { from = λ run lt. then_alike (suc n) run.left (does layout text n P one run) (does layout text (suc n) Q one run) (do_all layout text n P others) (do_all layout text (suc n) Q others) lt ((does_alike one).from run lt) (all_alike others) }

  in_order_alike : (all : List Block) → AlikeBelow (suc n) (in_order layout text n P all) (in_order layout text (suc n) Q all)
  in_order_alike [] = record { from = λ run lt. itself _ _ (omega arith) }
  in_order_alike (one ∷ others) =
      record { from = λ run lt. then_alike (suc n) run.left (do_all layout text n P one run) (do_all layout text (suc n) Q one run) (in_order layout text n P others) (in_order layout text (suc n) Q others) lt ((all_alike one).from run lt) (in_order_alike others) }

  after_same : (k : ℕ) (j i : ℕ → Run → Outcome) (f g : Run → Outcome) → k < suc n → ((to : ℕ) → AlikeBelow n (j to) (i to)) → AlikeBelow (suc n) f g → (o : Outcome) → Within k o → Alike k (after o j f) (after o i g)
  after_same k j i f g lt hj h (Normal run) w = alike_more _ _ _ _ w (h.from run (omega arith))
  after_same k j i f g lt hj h (Jump to run) w = alike_more _ _ _ _ (omega arith) ((hj to).from run (omega arith))
  after_same k j i f g lt hj h (Stops reason run) w = itself _ _ tt
  after_same k j i f g lt hj h (Needs call run) w = itself _ _ tt

  abbrev one : ParagraphTree → Run → Outcome
  one p = in_order layout text n P p.sentences

  abbrev other : ParagraphTree → Run → Outcome
  other p = in_order layout text (suc n) Q p.sentences

  paragraphs_alike : (last : ℕ) (ps : List ParagraphTree) → AlikeBelow (suc n) (paragraphs_do one (λ to. P to last) ps) (paragraphs_do other (λ to. Q to last) ps)
  paragraphs_alike last [] = record { from = λ run lt. itself _ _ (omega arith) }
  paragraphs_alike last (p ∷ ps) =
      let f = paragraphs_do one (λ to. P to last) ps in
      let g = paragraphs_do other (λ to. Q to last) ps in
      record {
        from = λ run lt.
            let a = (in_order_alike p.sentences).from run lt in
            subst (λ q. Alike run.left (after (one p run) (λ to. P to last) f) (after q (λ to. Q to last) g)) a.same
            (after_same run.left (λ to. P to last) (λ to. Q to last) f g lt (λ to. alike to last) (paragraphs_alike last ps) (one p run) a.within);
      }

range_alike : (n : ℕ) (layout : Layout) (text : List ParagraphTree) (begin last : ℕ) → AlikeBelow n (range n layout text begin last) (range (suc n) layout text begin last)
range_alike zero layout text begin last = record { from = λ run lt. let never : ⊥ = omega arith in absurd never }
range_alike (suc n) layout text begin last =
    record { from = λ run lt. (paragraphs_alike layout text n (range n layout text) (range (suc n) layout text) (range_alike n layout text) last (from_to text begin last)).from run lt }

-- one bound more is the same
pub range_more : (n : ℕ) (layout : Layout) (text : List ParagraphTree) (begin last : ℕ) (run : Run) → run.left < n → range n layout text begin last run ≡ range (suc n) layout text begin last run
range_more n layout text begin last run lt = ((range_alike n layout text begin last).from run lt).same

-- one turn more to be allowed is the same
pub until_more : (n : ℕ) (layout : Layout) (text : List ParagraphTree) (first last : ℕ) (test : Storage → Option Bool) (run : Run) → run.left < n → until n test (range n layout text first last) run ≡ until (suc n) test (range n layout text first last) run
until_more n layout text first last test run lt =
    ((until_alike n n test (range n layout text first last) (range n layout text first last) (omega arith) (record { from = λ t l. itself _ _ (((range_alike n layout text first last).from t l).within) })).from run lt).same
