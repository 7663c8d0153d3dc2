-- More replies leave what was done with fewer.
use Rattle.std.proofs.Common.{◌≡◌, ℕ, zero, suc, ◌+◌, ◌≤◌, Bool, true, false, List, [], ◌∷◌, ◌++◌, length, Option, Some, None, refl, sym, ap, subst, ◌∙◌, append_assoc, arith, length-append}
use Rattle.com_events.specs.declared.call.Call.{Call}
use Rattle.com_events.specs.declared.call.StopReason.{StopReason}
use Rattle.com_events.specs.declared.call.StopReason.TheVariants as stop
use Rattle.com_events.specs.declared.reply.Reply.{Reply}
use Rattle.com_events.specs.declared.reply.Reply.TheVariants.{Started, Given, NoData, Refused, Waits, AreaIn, AreaOut, Arrived, Done}
use Rattle.cob_proc.specs.declared.tree.Repetition.{Repetition}
use Rattle.cob_proc.specs.declared.tree.Repetition.TheVariants as repetition
use Rattle.cob_proc.specs.Trees.{Plain, moves, adds, subtracts, performs, goes, exits, stops, sends, switches_input, switches_output, accepts, Tree, plain, branches, receives, Block, none, lead, ParagraphTree}
use Rattle.cob_meaning.specs.Layouts.{Layout}
use Rattle.cob_meaning.specs.Storage.{Storage}
use Rattle.cob_meaning.specs.Moves.{add, addend_number, move, subtract}
use Rattle.cob_meaning.specs.Conditions.{holds}
use Rattle.cob_meaning.specs.Verbs.{Request, accept, receive, send, switch_input, switch_output, with_reply}
use Rattle.cob_meaning.specs.Meaning.{Run, Outcome, Normal, Jump, Stops, Needs, then_do, begun_with, begun, changed_to, changed, choice, times, times_of, until, turns, after_reply, answered, requested, verb_with, verb, paragraph_number, last_of, Running, are_written, plain_does, does, do_all, in_order, after, paragraphs_do, from_to, range}
use Rattle.com_events.specs.Fronts.{IsPrefixOf}

-- where a run stands when it ends so
abbrev pub end_of : Outcome → Run
end_of (Normal run) = run
end_of (Jump to run) = run
end_of (Stops reason run) = run
end_of (Needs call run) = run

-- calls are only added, one for each reply that was taken, and for each verb fewer that may be answered
pub record Grown (run : Run) (o : Outcome) : Type 0 where
  pub new : List Call
  pub calls : (end_of o).calls ≡ run.calls ++ new
  pub count : length new + length (end_of o).replies ≡ length run.replies
  pub verbs : length new + (end_of o).verbs ≤ run.verbs

-- a call wants a reply only where there is none
abbrev pub IsSpent : Outcome → Type 0
IsSpent (Normal run) = Unit {0}
IsSpent (Jump to run) = Unit {0}
IsSpent (Stops reason run) = Unit {0}
IsSpent (Needs call run) = run.replies ≡ []

append-none : (calls : List Call) → calls ≡ calls ++ []
append-none [] = refl
append-none (c ∷ cs) = ap (λ r. c ∷ r) (append-none cs)

unchanged : (run : Run) (o : Outcome) → (end_of o).calls ≡ run.calls → (end_of o).replies ≡ run.replies → (end_of o).verbs ≤ run.verbs → Grown run o
unchanged run o c r v = record { new = []; calls = c ∙ append-none run.calls; count = omega (arith, ap length r); verbs = omega arith }

grown_on : (run t : Run) (o : Outcome) (new : List Call) → t.calls ≡ run.calls ++ new → length new + length t.replies ≡ length run.replies → length new + t.verbs ≤ run.verbs → Grown t o → Grown run o
grown_on run t o new c n v h =
    record {
      new = new ++ h.new;
      calls = h.calls ∙ ap (λ calls. calls ++ h.new) c ∙ append_assoc run.calls new h.new;
      count = let l = length-append new h.new in let k = h.count in omega arith;
      verbs = let l = length-append new h.new in let k = h.verbs in omega arith;
    }

grown_then : (run : Run) (o : Outcome) (g : Run → Outcome) → Grown run o → ((t : Run) → Grown t (g t)) → Grown run (then_do o g)
grown_then run (Normal t) g a h = grown_on run t (g t) a.new a.calls a.count a.verbs (h t)
grown_then run (Jump to t) g a h = a
grown_then run (Stops reason t) g a h = a
grown_then run (Needs call t) g a h = a

spent_then : (o : Outcome) (g : Run → Outcome) → IsSpent o → ((t : Run) → IsSpent (g t)) → IsSpent (then_do o g)
spent_then (Normal t) g a h = h t
spent_then (Jump to t) g a h = tt
spent_then (Stops reason t) g a h = tt
spent_then (Needs call t) g a h = a

module _ (reply : Reply) (rest : List Reply) where
  -- with more replies behind
  abbrev pub with_more : Run → Run
  with_more run = record run { replies = run.replies ++ reply ∷ rest }

  -- what comes of it with more replies
  abbrev pub Further : Outcome → Outcome → Type 0
  Further (Normal run) p = p ≡ Normal (with_more run)
  Further (Jump to run) p = p ≡ Jump to (with_more run)
  Further (Stops reason run) p = p ≡ Stops reason (with_more run)
  Further (Needs call run) p = IsPrefixOf (run.calls ++ call ∷ []) (end_of p).calls

  pub record Steady (f : Run → Outcome) : Type 0 where
    pub grows : (run : Run) → Grown run (f run)
    pub spent : (run : Run) → IsSpent (f run)
    pub further : (run : Run) → Further (f run) (f (with_more run))

  -- what both end with stays a front
  further_then : (o p : Outcome) (g : Run → Outcome) → Further o p → Steady g → Further (then_do o g) (then_do p g)
  further_then (Normal t) p g e h = subst (λ q. Further (g t) (then_do q g)) (sym e) (h.further t)
  further_then (Jump to t) p g e h = ap (λ q. then_do q g) e
  further_then (Stops reason t) p g e h = ap (λ q. then_do q g) e
  further_then (Needs call t) p g e h =
      let a = grown_then (end_of p) p g (unchanged (end_of p) p refl refl (omega arith)) h.grows in
      (e.0 ++ a.new, a.calls ∙ ap (λ calls. calls ++ a.new) e.1 ∙ append_assoc (t.calls ++ call ∷ []) e.0 a.new)

  then_steady : (f g : Run → Outcome) → Steady f → Steady g → Steady (λ run. then_do (f run) g)
  then_steady f g a b = record {
    grows = λ run. grown_then run (f run) g (a.grows run) b.grows;
    spent = λ run. spent_then (f run) g (a.spent run) b.spent;
    further = λ run. further_then (f run) (f (with_more run)) g (a.further run) b;
  }

  normal_steady : Steady Normal
  normal_steady = record { grows = λ run. unchanged run (Normal run) refl refl (omega arith); spent = λ run. tt; further = λ run. refl }

  jump_steady : (to : ℕ) → Steady (Jump to)
  jump_steady to = record { grows = λ run. unchanged run (Jump to run) refl refl (omega arith); spent = λ run. tt; further = λ run. refl }

  stops_steady : (reason : StopReason) → Steady (Stops reason)
  stops_steady reason = record { grows = λ run. unchanged run (Stops reason run) refl refl (omega arith); spent = λ run. tt; further = λ run. refl }

  begun_grows : (f : Run → Outcome) → Steady f → (left : ℕ) (run : Run) → Grown run (begun_with left f run)
  begun_grows f h zero run = unchanged run (Stops stop.Limit run) refl refl (omega arith)
  begun_grows f h (suc left) run =
      let t : Run = record run { left = left } in
      grown_on run t (f t) [] (append-none run.calls) (omega arith) (omega arith) (h.grows t)

  begun_spent : (f : Run → Outcome) → Steady f → (left : ℕ) (run : Run) → IsSpent (begun_with left f run)
  begun_spent f h zero run = tt
  begun_spent f h (suc left) run = h.spent (record run { left = left })

  begun_further : (f : Run → Outcome) → Steady f → (left : ℕ) (run : Run) → Further (begun_with left f run) (begun_with left f (with_more run))
  begun_further f h zero run = refl
  begun_further f h (suc left) run = h.further (record run { left = left })

  begun_steady : (f : Run → Outcome) → Steady f → Steady (begun f)
  begun_steady f h = record {
    grows = λ run. begun_grows f h run.left run;
    spent = λ run. begun_spent f h run.left run;
    further = λ run. begun_further f h run.left run;
  }

  changed_grows : (o : Option Storage) (run : Run) → Grown run (changed_to o run)
  changed_grows None run = unchanged run (Stops stop.DataFault run) refl refl (omega arith)
  changed_grows (Some storage) run = unchanged run (Normal (record run { storage = storage })) refl refl (omega arith)

  changed_spent : (o : Option Storage) (run : Run) → IsSpent (changed_to o run)
  changed_spent None run = tt
  changed_spent (Some storage) run = tt

  changed_further : (o : Option Storage) (run : Run) → Further (changed_to o run) (changed_to o (with_more run))
  changed_further None run = refl
  changed_further (Some storage) run = refl

  changed_steady : (effect : Storage → Option Storage) → Steady (begun (changed effect))
  changed_steady effect = begun_steady (changed effect) (record {
    grows = λ run. changed_grows (effect run.storage) run;
    spent = λ run. changed_spent (effect run.storage) run;
    further = λ run. changed_further (effect run.storage) run;
  })

  choice_grows : (f g : Run → Outcome) → Steady f → Steady g → (test : Option Bool) (run : Run) → Grown run (choice test f g run)
  choice_grows f g a b None run = unchanged run (Stops stop.DataFault run) refl refl (omega arith)
  choice_grows f g a b (Some true) run = a.grows run
  choice_grows f g a b (Some false) run = b.grows run

  choice_spent : (f g : Run → Outcome) → Steady f → Steady g → (test : Option Bool) (run : Run) → IsSpent (choice test f g run)
  choice_spent f g a b None run = tt
  choice_spent f g a b (Some true) run = a.spent run
  choice_spent f g a b (Some false) run = b.spent run

  choice_further : (f g : Run → Outcome) → Steady f → Steady g → (test : Option Bool) (run : Run) → Further (choice test f g run) (choice test f g (with_more run))
  choice_further f g a b None run = refl
  choice_further f g a b (Some true) run = a.further run
  choice_further f g a b (Some false) run = b.further run

  choice_steady : (test : Storage → Option Bool) (f g : Run → Outcome) → Steady f → Steady g → Steady (λ run. choice (test run.storage) f g run)
  choice_steady test f g a b = record {
    grows = λ run. choice_grows f g a b (test run.storage) run;
    spent = λ run. choice_spent f g a b (test run.storage) run;
    further = λ run. choice_further f g a b (test run.storage) run;
  }

  times_steady : (k : ℕ) (f : Run → Outcome) → Steady f → Steady (times k f)
  times_steady zero f h = record { grows = λ run. unchanged run (Normal run) refl refl (omega arith); spent = λ run. tt; further = λ run. refl }
  times_steady (suc k) f h =
      let a = begun_steady (λ r. then_do (f r) (times k f)) (then_steady f (times k f) h (times_steady k f h)) in
      record { grows = λ run. a.grows run; spent = λ run. a.spent run; further = λ run. a.further run }

  often_grows : (f : Run → Outcome) → Steady f → (n : Option ℕ) (run : Run) → Grown run (times_of n f run)
  often_grows f h None run = unchanged run (Stops stop.DataFault run) refl refl (omega arith)
  often_grows f h (Some k) run = (times_steady k f h).grows run

  often_spent : (f : Run → Outcome) → Steady f → (n : Option ℕ) (run : Run) → IsSpent (times_of n f run)
  often_spent f h None run = tt
  often_spent f h (Some k) run = (times_steady k f h).spent run

  often_further : (f : Run → Outcome) → Steady f → (n : Option ℕ) (run : Run) → Further (times_of n f run) (times_of n f (with_more run))
  often_further f h None run = refl
  often_further f h (Some k) run = (times_steady k f h).further run

  until_steady : (n : ℕ) (test : Storage → Option Bool) (f : Run → Outcome) → Steady f → Steady (until n test f)
  until_steady zero test f h = record { grows = λ run. unchanged run (Stops stop.Limit run) refl refl (omega arith); spent = λ run. tt; further = λ run. refl }
  until_steady (suc n) test f h =
      let turn = begun_steady (λ r. then_do (f r) (until n test f)) (then_steady f (until n test f) h (until_steady n test f h)) in
      let a = choice_steady test Normal (begun (λ r. then_do (f r) (until n test f))) normal_steady turn in
      record { grows = λ run. a.grows run; spent = λ run. a.spent run; further = λ run. a.further run }

  turns_steady : (n : ℕ) (layout : Layout) (often : Repetition) (f : Run → Outcome) → Steady f → Steady (turns n layout often f)
  turns_steady n layout repetition.Once f h = record { grows = λ run. h.grows run; spent = λ run. h.spent run; further = λ run. h.further run }
  turns_steady n layout (repetition.Times counted) f h = record {
    grows = λ run. often_grows f h (addend_number layout counted run.storage) run;
    spent = λ run. often_spent f h (addend_number layout counted run.storage) run;
    further = λ run. often_further f h (addend_number layout counted run.storage) run;
  }
  turns_steady n layout (repetition.Until condition) f h =
      let a = until_steady n (holds layout condition) f h in
      record { grows = λ run. a.grows run; spent = λ run. a.spent run; further = λ run. a.further run }

  behind_steady : (f : Run → Outcome) → Steady f → (r : Reply) → Steady (after_reply r f)
  behind_steady f h (NoData area) = record { grows = λ run. h.grows run; spent = λ run. h.spent run; further = λ run. h.further run }
  behind_steady f h (Started names) = normal_steady
  behind_steady f h (Given area text) = normal_steady
  behind_steady f h (Refused area) = normal_steady
  behind_steady f h Waits = normal_steady
  behind_steady f h (AreaIn area) = normal_steady
  behind_steady f h (AreaOut area) = normal_steady
  behind_steady f h (Arrived number) = normal_steady
  behind_steady f h Done = normal_steady

  -- before a verb was begun, of which one less may now be answered
  abbrev before : Run → Run
  before run = record run { verbs = suc run.verbs }

  answered_grows : (request : Request) (f : Run → Outcome) → Steady f → (rs : List Reply) (run : Run) → run.replies ≡ rs → Grown (before run) (answered request f rs run)
  answered_grows request f h [] run e = unchanged (before run) (Needs request.call run) refl refl (omega arith)
  answered_grows request f h (r ∷ rs) run e =
      let t : Run = record run { storage = with_reply request r run.storage; calls = run.calls ++ request.call ∷ []; replies = rs } in
      grown_on (before run) t (after_reply r f t) (request.call ∷ []) refl (omega (arith, ap length e)) (omega arith) ((behind_steady f h r).grows t)

  answered_spent : (request : Request) (f : Run → Outcome) → Steady f → (rs : List Reply) (run : Run) → run.replies ≡ rs → IsSpent (answered request f rs run)
  answered_spent request f h [] run e = e
  answered_spent request f h (r ∷ rs) run e =
      (behind_steady f h r).spent (record run { storage = with_reply request r run.storage; calls = run.calls ++ request.call ∷ []; replies = rs })

  answered_further : (request : Request) (f : Run → Outcome) → Steady f → (rs : List Reply) (run : Run) → Further (answered request f rs run) (answered request f (rs ++ reply ∷ rest) (with_more run))
  answered_further request f h [] run =
      let t : Run = record run { storage = with_reply request reply run.storage; calls = run.calls ++ request.call ∷ []; replies = rest } in
      let a = (behind_steady f h reply).grows t in
      (a.new, a.calls)
  answered_further request f h (r ∷ rs) run =
      (behind_steady f h r).further (record run { storage = with_reply request r run.storage; calls = run.calls ++ request.call ∷ []; replies = rs })

  requested_grows : (f : Run → Outcome) → Steady f → (o : Option Request) (run : Run) → Grown (before run) (requested o f run)
  requested_grows f h None run = unchanged (before run) (Stops stop.DataFault run) refl refl (omega arith)
  requested_grows f h (Some request) run = answered_grows request f h run.replies run refl

  requested_spent : (f : Run → Outcome) → Steady f → (o : Option Request) (run : Run) → IsSpent (requested o f run)
  requested_spent f h None run = tt
  requested_spent f h (Some request) run = answered_spent request f h run.replies run refl

  requested_further : (f : Run → Outcome) → Steady f → (o : Option Request) (run : Run) → Further (requested o f run) (requested o f (with_more run))
  requested_further f h None run = refl
  requested_further f h (Some request) run = answered_further request f h run.replies run

  verb_grows : (request : Storage → Option Request) (f : Run → Outcome) → Steady f → (verbs : ℕ) (run : Run) → run.verbs ≡ verbs → Grown run (verb_with verbs request f run)
  verb_grows request f h zero run e = unchanged run (Stops stop.Limit run) refl refl (omega arith)
  verb_grows request f h (suc verbs) run e =
      let t : Run = record run { verbs = verbs } in
      grown_on run (before t) (requested (request run.storage) f t) [] (append-none run.calls) (omega arith) (omega (arith, e)) (requested_grows f h (request run.storage) t)

  verb_spent : (request : Storage → Option Request) (f : Run → Outcome) → Steady f → (verbs : ℕ) (run : Run) → IsSpent (verb_with verbs request f run)
  verb_spent request f h zero run = tt
  verb_spent request f h (suc verbs) run = requested_spent f h (request run.storage) (record run { verbs = verbs })

  verb_further : (request : Storage → Option Request) (f : Run → Outcome) → Steady f → (verbs : ℕ) (run : Run) → Further (verb_with verbs request f run) (verb_with verbs request f (with_more run))
  verb_further request f h zero run = refl
  verb_further request f h (suc verbs) run = requested_further f h (request run.storage) (record run { verbs = verbs })

  verb_steady : (request : Storage → Option Request) (f : Run → Outcome) → Steady f → Steady (begun (verb request f))
  verb_steady request f h = begun_steady (verb request f) (record {
    grows = λ run. verb_grows request f h run.verbs run refl;
    spent = λ run. verb_spent request f h run.verbs run;
    further = λ run. verb_further request f h run.verbs run;
  })

  module _ (layout : Layout) (text : List ParagraphTree) (n : ℕ) (P : Running) (steady : (begin last : ℕ) → Steady (P begin last)) where
    plain_steady : (s : Plain) → Steady (begun (plain_does layout text n P s))
    plain_steady (moves source targets) = changed_steady (move layout source targets)
    plain_steady (adds addend target) = changed_steady (add layout addend target)
    plain_steady (subtracts addend target) = changed_steady (subtract layout addend target)
    plain_steady (performs first last often) =
        let f = P (paragraph_number text first) (paragraph_number text (last_of first last)) in
        begun_steady (turns n layout often f) (turns_steady n layout often f (steady _ _))
    plain_steady (goes target) = begun_steady (Jump (paragraph_number text target)) (jump_steady _)
    plain_steady exits = begun_steady Normal normal_steady
    plain_steady stops = begun_steady (Stops stop.Run) (stops_steady stop.Run)
    plain_steady (sends cd from ending) = verb_steady (send layout cd from ending) Normal normal_steady
    plain_steady (switches_input on terminal cd key) = verb_steady (switch_input layout on terminal cd key) Normal normal_steady
    plain_steady (switches_output on cd key) = verb_steady (switch_output layout on cd key) Normal normal_steady
    plain_steady (accepts cd) = verb_steady (accept layout cd) Normal normal_steady

    mutual
      does_steady : (s : Tree) → Steady (does layout text n P s)
      does_steady (plain statement) = plain_steady statement
      does_steady (branches position condition one other) =
          begun_steady (λ run. choice (holds layout condition run.storage) (do_all layout text n P one) (do_all layout text n P other) run)
          (choice_steady (holds layout condition) (do_all layout text n P one) (do_all layout text n P other) (all_steady one) (all_steady other))
      does_steady (receives cd segment into no_data) =
          verb_steady (receive layout cd segment into (are_written no_data)) (do_all layout text n P no_data) (all_steady no_data)

      all_steady : (block : Block) → Steady (do_all layout text n P block)
      all_steady none = record { grows = λ run. unchanged run (Normal run) refl refl (omega arith); spent = λ run. tt; further = λ run. refl }
      all_steady (lead one others) =
          let a = then_steady (does layout text n P one) (do_all layout text n P others) (does_steady one) (all_steady others) in
          record { grows = λ run. a.grows run; spent = λ run. a.spent run; further = λ run. a.further run }

    in_order_steady : (all : List Block) → Steady (in_order layout text n P all)
    in_order_steady [] = record { grows = λ run. unchanged run (Normal run) refl refl (omega arith); spent = λ run. tt; further = λ run. refl }
    in_order_steady (one ∷ others) =
        let a = then_steady (do_all layout text n P one) (in_order layout text n P others) (all_steady one) (in_order_steady others) in
        record { grows = λ run. a.grows run; spent = λ run. a.spent run; further = λ run. a.further run }

  module _ (j : ℕ → Run → Outcome) (jump : (to : ℕ) → Steady (j to)) where
    after_grows : (run : Run) (o : Outcome) (g : Run → Outcome) → Grown run o → Steady g → Grown run (after o j g)
    after_grows run (Normal t) g a h = grown_on run t (g t) a.new a.calls a.count a.verbs (h.grows t)
    after_grows run (Jump to t) g a h = grown_on run t (j to t) a.new a.calls a.count a.verbs ((jump to).grows t)
    after_grows run (Stops reason t) g a h = a
    after_grows run (Needs call t) g a h = a

    after_spent : (o : Outcome) (g : Run → Outcome) → IsSpent o → Steady g → IsSpent (after o j g)
    after_spent (Normal t) g a h = h.spent t
    after_spent (Jump to t) g a h = (jump to).spent t
    after_spent (Stops reason t) g a h = tt
    after_spent (Needs call t) g a h = a

    after_further : (o p : Outcome) (g : Run → Outcome) → Further o p → Steady g → Further (after o j g) (after p j g)
    after_further (Normal t) p g e h = subst (λ q. Further (g t) (after q j g)) (sym e) (h.further t)
    after_further (Jump to t) p g e h = subst (λ q. Further (j to t) (after q j g)) (sym e) ((jump to).further t)
    after_further (Stops reason t) p g e h = ap (λ q. after q j g) e
    after_further (Needs call t) p g e h =
        let a = after_grows (end_of p) p g (unchanged (end_of p) p refl refl (omega arith)) h in
        (e.0 ++ a.new, a.calls ∙ ap (λ calls. calls ++ a.new) e.1 ∙ append_assoc (t.calls ++ call ∷ []) e.0 a.new)

    paragraphs_steady : (one : ParagraphTree → Run → Outcome) → ((p : ParagraphTree) → Steady (one p)) → (ps : List ParagraphTree) → Steady (paragraphs_do one j ps)
    paragraphs_steady one h [] = record { grows = λ run. unchanged run (Normal run) refl refl (omega arith); spent = λ run. tt; further = λ run. refl }
    paragraphs_steady one h (p ∷ ps) =
        let g = paragraphs_do one j ps in
        let k = paragraphs_steady one h ps in
        record {
          grows = λ run. after_grows run (one p run) g ((h p).grows run) k;
          spent = λ run. after_spent (one p run) g ((h p).spent run) k;
          further = λ run. after_further (one p run) (one p (with_more run)) g ((h p).further run) k;
        }

  pub range_steady : (n : ℕ) (layout : Layout) (text : List ParagraphTree) (begin last : ℕ) → Steady (range n layout text begin last)
  range_steady zero layout text begin last = record { grows = λ run. unchanged run (Stops stop.Limit run) refl refl (omega arith); spent = λ run. tt; further = λ run. refl }
  range_steady (suc n) layout text begin last =
      let one = λ (p : ParagraphTree). in_order layout text n (range n layout text) p.sentences in
      let a = paragraphs_steady (λ to. range n layout text to last) (λ to. range_steady n layout text to last) one
      (λ p. in_order_steady layout text n (range n layout text) (λ x y. range_steady n layout text x y) p.sentences) (from_to text begin last) in
      record { grows = λ run. a.grows run; spent = λ run. a.spent run; further = λ run. a.further run }
