-- A fact of runs that each part of a statement keeps holds wherever the program comes to.
use Rattle.std.proofs.Common.{◌≡◌, ℕ, zero, suc, ◌+◌, Bool, true, false, List, [], ◌∷◌, ◌++◌, take, drop, Option, Some, None, refl}
use Rattle.com_events.specs.declared.call.Call.{Call}
use Rattle.com_events.specs.declared.call.StopReason.{StopReason}
use Rattle.com_events.specs.declared.call.StopReason.TheVariants as stop
use Rattle.com_events.specs.declared.reply.Reply.{Reply}
use Rattle.com_events.specs.declared.reply.Reply.TheVariants.{Started, Given, NoData, Refused, Waits, AreaIn, AreaOut, Arrived, Done}
use Rattle.cob_proc.specs.declared.tree.Repetition.{Repetition}
use Rattle.cob_proc.specs.declared.tree.Repetition.TheVariants as repetition
use Rattle.cob_proc.specs.Trees.{Plain, moves, adds, subtracts, performs, goes, exits, stops, sends, switches_input, switches_output, accepts, Tree, plain, branches, receives, Block, none, lead, ParagraphTree}
use Rattle.cob_meaning.specs.Layouts.{Layout}
use Rattle.cob_meaning.specs.Storage.{Storage}
use Rattle.cob_meaning.specs.Moves.{add, addend_number, move, subtract}
use Rattle.cob_meaning.specs.Conditions.{holds}
use Rattle.cob_meaning.specs.Verbs.{Request, accept, receive, send, switch_input, switch_output, with_reply}
use Rattle.cob_meaning.specs.Meaning.{Run, Outcome, Normal, Jump, Stops, Needs, then_do, begun_with, begun, changed_to, changed, choice, times, times_of, until, turns, after_reply, answered, requested, verb_with, verb, paragraph_number, last_of, Running, are_written, plain_does, does, do_all, in_order, after, paragraphs_do, from_to, range}

-- a fact of runs, of runs that stopped, and of runs that want a reply to a call
pub record Facts : Type 1 where
  pub Holds : Run → Type 0
  pub Stopping : StopReason → Run → Type 0
  pub Wanting : Call → Run → Type 0
  -- the count of statements plays no part in it, and it may stop
  pub begins : (run : Run) (left : ℕ) → Holds run → Holds (record run { left = left })
  pub limit : (run : Run) → Holds run → Stopping stop.Limit run
  pub fault : (run : Run) → Holds run → Stopping stop.DataFault run
  pub ends : (run : Run) → Holds run → Stopping stop.Run run

-- a run in which a reply came to a request
abbrev pub replied : Request → Reply → List Reply → ℕ → Run → Run
replied request reply rest verbs run =
    record run { storage = with_reply request reply run.storage; calls = run.calls ++ request.call ∷ []; replies = rest; verbs = verbs }

module _ (facts : Facts) where
  -- a change of the storage keeps it
  pub record Keeps (effect : Storage → Option Storage) : Type 0 where
    pub from : (run : Run) (storage : Storage) → facts.Holds run → effect run.storage ≡ Some storage → facts.Holds (record run { storage = storage })

  -- a verb keeps it
  pub record Asks (request : Storage → Option Request) : Type 0 where
    pub wants : (run : Run) (verbs : ℕ) (asked : Request) → facts.Holds run → request run.storage ≡ Some asked → run.replies ≡ [] → facts.Wanting asked.call (record run { verbs = verbs })
    pub takes : (run : Run) (verbs : ℕ) (asked : Request) (reply : Reply) (rest : List Reply) → facts.Holds run → request run.storage ≡ Some asked → run.replies ≡ reply ∷ rest → facts.Holds (replied asked reply rest verbs run)
    pub stops : (run : Run) (verbs : ℕ) → facts.Holds run → request run.storage ≡ None → facts.Stopping stop.DataFault (record run { verbs = verbs })

  abbrev pub Fine : Outcome → Type 0
  Fine (Normal run) = facts.Holds run
  Fine (Jump to run) = facts.Holds run
  Fine (Stops reason run) = facts.Stopping reason run
  Fine (Needs call run) = facts.Wanting call run

  pub record Lasts (f : Run → Outcome) : Type 0 where
    pub from : (run : Run) → facts.Holds run → Fine (f run)

  fine_then : (o : Outcome) (g : Run → Outcome) → Fine o → Lasts g → Fine (then_do o g)
  fine_then (Normal run) g a h = h.from run a
  fine_then (Jump to run) g a h = a
  fine_then (Stops reason run) g a h = a
  fine_then (Needs call run) g a h = a

  then_lasts : (f g : Run → Outcome) → Lasts f → Lasts g → Lasts (λ run. then_do (f run) g)
  then_lasts f g a b = record { from = λ run h. fine_then (f run) g (a.from run h) b }

  begun_fine : (f : Run → Outcome) → Lasts f → (left : ℕ) (run : Run) → facts.Holds run → Fine (begun_with left f run)
  begun_fine f a zero run h = facts.limit run h
  begun_fine f a (suc left) run h = a.from (record run { left = left }) (facts.begins run left h)

  begun_lasts : (f : Run → Outcome) → Lasts f → Lasts (begun f)
  begun_lasts f a = record { from = λ run h. begun_fine f a run.left run h }

  changed_fine : (effect : Storage → Option Storage) → Keeps effect → (o : Option Storage) (run : Run) → effect run.storage ≡ o → facts.Holds run → Fine (changed_to o run)
  changed_fine effect k None run e h = facts.fault run h
  changed_fine effect k (Some storage) run e h = k.from run storage h e

  changed_lasts : (effect : Storage → Option Storage) → Keeps effect → Lasts (begun (changed effect))
  changed_lasts effect k = begun_lasts (changed effect) (record { from = λ run h. changed_fine effect k (effect run.storage) run refl h })

  choice_fine : (f g : Run → Outcome) → Lasts f → Lasts g → (test : Option Bool) (run : Run) → facts.Holds run → Fine (choice test f g run)
  choice_fine f g a b None run h = facts.fault run h
  choice_fine f g a b (Some true) run h = a.from run h
  choice_fine f g a b (Some false) run h = b.from run h

  choice_lasts : (test : Storage → Option Bool) (f g : Run → Outcome) → Lasts f → Lasts g → Lasts (λ run. choice (test run.storage) f g run)
  choice_lasts test f g a b = record { from = λ run h. choice_fine f g a b (test run.storage) run h }

  normal_lasts : Lasts Normal
  normal_lasts = record { from = λ run h. h }

  times_lasts : (k : ℕ) (f : Run → Outcome) → Lasts f → Lasts (times k f)
  times_lasts zero f a = record { from = λ run h. h }
  times_lasts (suc k) f a =
      let b = begun_lasts (λ r. then_do (f r) (times k f)) (then_lasts f (times k f) a (times_lasts k f a)) in
      record { from = λ run h. b.from run h }

  often_fine : (f : Run → Outcome) → Lasts f → (n : Option ℕ) (run : Run) → facts.Holds run → Fine (times_of n f run)
  often_fine f a None run h = facts.fault run h
  often_fine f a (Some k) run h = (times_lasts k f a).from run h

  until_lasts : (n : ℕ) (test : Storage → Option Bool) (f : Run → Outcome) → Lasts f → Lasts (until n test f)
  until_lasts zero test f a = record { from = λ run h. facts.limit run h }
  until_lasts (suc n) test f a =
      let turn = begun_lasts (λ r. then_do (f r) (until n test f)) (then_lasts f (until n test f) a (until_lasts n test f a)) in
      let b = choice_lasts test Normal (begun (λ r. then_do (f r) (until n test f))) normal_lasts turn in
      record { from = λ run h. b.from run h }

  turns_lasts : (n : ℕ) (layout : Layout) (often : Repetition) (f : Run → Outcome) → Lasts f → Lasts (turns n layout often f)
  turns_lasts n layout repetition.Once f a = record { from = λ run h. a.from run h }
  turns_lasts n layout (repetition.Times counted) f a = record { from = λ run h. often_fine f a (addend_number layout counted run.storage) run h }
  turns_lasts n layout (repetition.Until condition) f a = let b = until_lasts n (holds layout condition) f a in record { from = λ run h. b.from run h }

  behind_lasts : (f : Run → Outcome) → Lasts f → (r : Reply) → Lasts (after_reply r f)
  behind_lasts f a (NoData area) = record { from = λ run h. a.from run h }
  behind_lasts f a (Started names) = normal_lasts
  behind_lasts f a (Given area text) = normal_lasts
  behind_lasts f a (Refused area) = normal_lasts
  behind_lasts f a Waits = normal_lasts
  behind_lasts f a (AreaIn area) = normal_lasts
  behind_lasts f a (AreaOut area) = normal_lasts
  behind_lasts f a (Arrived number) = normal_lasts
  behind_lasts f a Done = normal_lasts

  answered_fine : (request : Storage → Option Request) → Asks request → (f : Run → Outcome) → Lasts f → (asked : Request) (rs : List Reply) (run : Run) (verbs : ℕ)
      → facts.Holds run → request run.storage ≡ Some asked → run.replies ≡ rs → Fine (answered asked f rs (record run { verbs = verbs }))
  answered_fine request k f a asked [] run verbs h e empty = k.wants run verbs asked h e empty
  answered_fine request k f a asked (r ∷ rs) run verbs h e next = (behind_lasts f a r).from (replied asked r rs verbs run) (k.takes run verbs asked r rs h e next)

  requested_fine : (request : Storage → Option Request) → Asks request → (f : Run → Outcome) → Lasts f → (o : Option Request) (run : Run) (verbs : ℕ)
      → facts.Holds run → request run.storage ≡ o → Fine (requested o f (record run { verbs = verbs }))
  requested_fine request k f a None run verbs h e = k.stops run verbs h e
  requested_fine request k f a (Some asked) run verbs h e = answered_fine request k f a asked run.replies run verbs h e refl

  verb_fine : (request : Storage → Option Request) → Asks request → (f : Run → Outcome) → Lasts f → (verbs : ℕ) (run : Run) → facts.Holds run → Fine (verb_with verbs request f run)
  verb_fine request k f a zero run h = facts.limit run h
  verb_fine request k f a (suc verbs) run h = requested_fine request k f a (request run.storage) run verbs h refl

  verb_lasts : (request : Storage → Option Request) → Asks request → (f : Run → Outcome) → Lasts f → Lasts (begun (verb request f))
  verb_lasts request k f a = begun_lasts (verb request f) (record { from = λ run h. verb_fine request k f a run.verbs run h })

  module _ (layout : Layout) (text : List ParagraphTree) where
    abbrev pub PlainKept : Plain → Type 0
    PlainKept (moves source targets) = Keeps (move layout source targets)
    PlainKept (adds addend target) = Keeps (add layout addend target)
    PlainKept (subtracts addend target) = Keeps (subtract layout addend target)
    PlainKept (performs first last often) = Unit {0}
    PlainKept (goes target) = Unit {0}
    PlainKept exits = Unit {0}
    PlainKept stops = Unit {0}
    PlainKept (sends cd from ending) = Asks (send layout cd from ending)
    PlainKept (switches_input on terminal cd key) = Asks (switch_input layout on terminal cd key)
    PlainKept (switches_output on cd key) = Asks (switch_output layout on cd key)
    PlainKept (accepts cd) = Asks (accept layout cd)

    -- each change and each verb of a statement keeps it
    abbrev mutual
      pub Kept : Tree → Type 0
      Kept (plain statement) = PlainKept statement
      Kept (branches position condition one other) = AllKept one × AllKept other
      Kept (receives cd segment into no_data) = Asks (receive layout cd segment into (are_written no_data)) × AllKept no_data

      pub AllKept : Block → Type 0
      AllKept none = Unit {0}
      AllKept (lead one others) = Kept one × AllKept others

    abbrev pub AreKept : List Block → Type 0
    AreKept [] = Unit {0}
    AreKept (one ∷ others) = AllKept one × AreKept others

    abbrev pub IsTextKept : List ParagraphTree → Type 0
    IsTextKept [] = Unit {0}
    IsTextKept (p ∷ ps) = AreKept p.sentences × IsTextKept ps

    take_kept : (n : ℕ) (ps : List ParagraphTree) → IsTextKept ps → IsTextKept (take n ps)
    take_kept zero ps k = tt
    take_kept (suc n) [] k = tt
    take_kept (suc n) (p ∷ ps) k = (k.0, take_kept n ps k.1)

    drop_kept : (n : ℕ) (ps : List ParagraphTree) → IsTextKept ps → IsTextKept (drop n ps)
    drop_kept zero ps k = k
    drop_kept (suc n) [] k = tt
    drop_kept (suc n) (p ∷ ps) k = drop_kept n ps k.1

    module _ (n : ℕ) (P : Running) (lasts : (begin last : ℕ) → Lasts (P begin last)) where
      plain_lasts : (s : Plain) → PlainKept s → Lasts (begun (plain_does layout text n P s))
      plain_lasts (moves source targets) k = changed_lasts (move layout source targets) k
      plain_lasts (adds addend target) k = changed_lasts (add layout addend target) k
      plain_lasts (subtracts addend target) k = changed_lasts (subtract layout addend target) k
      plain_lasts (performs first last often) k =
          let f = P (paragraph_number text first) (paragraph_number text (last_of first last)) in
          begun_lasts (turns n layout often f) (turns_lasts n layout often f (lasts _ _))
      plain_lasts (goes target) k = begun_lasts (Jump (paragraph_number text target)) (record { from = λ run h. h })
      plain_lasts exits k = begun_lasts Normal normal_lasts
      plain_lasts stops k = begun_lasts (Stops stop.Run) (record { from = λ run h. facts.ends run h })
      plain_lasts (sends cd from ending) k = verb_lasts (send layout cd from ending) k Normal normal_lasts
      plain_lasts (switches_input on terminal cd key) k = verb_lasts (switch_input layout on terminal cd key) k Normal normal_lasts
      plain_lasts (switches_output on cd key) k = verb_lasts (switch_output layout on cd key) k Normal normal_lasts
      plain_lasts (accepts cd) k = verb_lasts (accept layout cd) k Normal normal_lasts

      mutual
        does_lasts : (s : Tree) → Kept s → Lasts (does layout text n P s)
        does_lasts (plain statement) k = plain_lasts statement k
        does_lasts (branches position condition one other) k =
            begun_lasts (λ run. choice (holds layout condition run.storage) (do_all layout text n P one) (do_all layout text n P other) run)
            (choice_lasts (holds layout condition) (do_all layout text n P one) (do_all layout text n P other) (all_last one k.0) (all_last other k.1))
        does_lasts (receives cd segment into no_data) k =
            verb_lasts (receive layout cd segment into (are_written no_data)) k.0 (do_all layout text n P no_data) (all_last no_data k.1)

        all_last : (block : Block) → AllKept block → Lasts (do_all layout text n P block)
        all_last none k = record { from = λ run h. h }
        all_last (lead one others) k =
            let a = then_lasts (does layout text n P one) (do_all layout text n P others) (does_lasts one k.0) (all_last others k.1) in
            record { from = λ run h. a.from run h }

      in_order_lasts : (all : List Block) → AreKept all → Lasts (in_order layout text n P all)
      in_order_lasts [] k = record { from = λ run h. h }
      in_order_lasts (one ∷ others) k =
          let a = then_lasts (do_all layout text n P one) (in_order layout text n P others) (all_last one k.0) (in_order_lasts others k.1) in
          record { from = λ run h. a.from run h }

      after_fine : (j : ℕ → Run → Outcome) → ((to : ℕ) → Lasts (j to)) → (o : Outcome) (g : Run → Outcome) → Fine o → Lasts g → Fine (after o j g)
      after_fine j a (Normal run) g h b = b.from run h
      after_fine j a (Jump to run) g h b = (a to).from run h
      after_fine j a (Stops reason run) g h b = h
      after_fine j a (Needs call run) g h b = h

      paragraphs_last : (last : ℕ) (ps : List ParagraphTree) → IsTextKept ps
          → Lasts (paragraphs_do (λ p. in_order layout text n P p.sentences) (λ to. P to last) ps)
      paragraphs_last last [] k = record { from = λ run h. h }
      paragraphs_last last (p ∷ ps) k = record {
        from = λ run h. after_fine (λ to. P to last) (λ to. lasts to last) (in_order layout text n P p.sentences run)
            (paragraphs_do (λ p. in_order layout text n P p.sentences) (λ to. P to last) ps)
            ((in_order_lasts p.sentences k.0).from run h) (paragraphs_last last ps k.1);
      }

    pub range_lasts : (n : ℕ) → IsTextKept text → (begin last : ℕ) → Lasts (range n layout text begin last)
    range_lasts zero k begin last = record { from = λ run h. facts.limit run h }
    range_lasts (suc n) k begin last =
        let a = paragraphs_last n (range n layout text) (λ x y. range_lasts n k x y) last (from_to text begin last) (drop_kept begin (take (last + 1) text) (take_kept (last + 1) text k)) in
        record { from = λ run h. a.from run h }
