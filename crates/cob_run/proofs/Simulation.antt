-- Each instruction keeps what a machine stands for.
use Rattle.std.proofs.Common.{◌≡◌, ℕ, ◌+◌, ◌-◌, ◌<◌, ◌≤◌, Bool, true, false, cond, List, [], ◌∷◌, length, Option, Some, None, refl, sym, ap, ◌∙◌, subst, arith, nat_eq, nat_lt, ⊎_elim, inl, rules}
use Rattle.std.proofs.lemmas.Bool.{cases_lt, eqb-true, eqb-false}
use Rattle.std.specs.Prelude.{slice_get}
use Rattle.com_events.specs.declared.call.Call.{Call}
use Rattle.com_events.specs.declared.call.StopReason.TheVariants as stop
use Rattle.com_events.specs.declared.reply.Reply.{Reply}
use Rattle.cob_proc.specs.declared.tree.Condition.{Condition}
use Rattle.cob_proc.specs.declared.tree.Repetition.{Repetition}
use Rattle.cob_proc.specs.declared.tree.Repetition.TheVariants as repetition
use Rattle.cob_proc.specs.Trees.{Plain, moves, adds, subtracts, performs, goes, exits, stops, sends, switches_input, switches_output, accepts, Tree, plain, branches, receives, Block, none, lead, ParagraphTree}
use Rattle.cob_meaning.specs.Storage.{Storage}
use Rattle.cob_meaning.specs.Moves.{add, move, subtract}
use Rattle.cob_meaning.specs.Conditions.{holds}
use Rattle.cob_meaning.specs.Verbs.{Request, accept, receive, send, switch_input, switch_output}
use Rattle.cob_meaning.specs.Meaning.{Run, Outcome, Normal, Jump, Stops, Program, are_written, begun, changed, changed_to, choice, do_all, does, last_of, meaning_of, paragraph_number, requested, then_do, times, times_of, turns, until, verb}
use Rattle.cob_frames.specs.Frames.{Frame, rest_of, sentences_left, paragraphs_left, turns_left, turns_until, frames_after_go, range_does, unit_bound}
use Rattle.cob_frames.specs.Units.{Progress, run_of, goes_on, Leads}
use Rattle.cob_frames.proofs.FrameSteps.{there, then_normal, until_is, range_begins, paragraph_begins, range_ends}
use Rattle.cob_frames.proofs.UnitSteps.{stops_at, limit_stops, counts, goes_there, verb_none, verb_one, times_none, times_one}
use Rattle.cob_flat.specs.declared.operands.Test.{Test}
use Rattle.cob_flat.specs.declared.code.Instruction.{Instruction}
use Rattle.cob_flat.specs.declared.code.Instruction.TheVariants as instruction
use Rattle.cob_flat.specs.declared.code.Turns.{Turns}
use Rattle.cob_flat.specs.declared.code.Turns.TheVariants as how
use Rattle.cob_flat.specs.declared.code.Verb.{Verb}
use Rattle.cob_flat.specs.Compiled.{IsRangeOf, Stays, StayAll, IsCompiled}
use Rattle.cob_flat.specs.Effects.{amount_by, effect, holds_by, request_by}
use Rattle.cob_flat.specs.Flat.{AreTurnsOf, Changes, Asks, Does, DoesAll}
use Rattle.cob_run.specs.declared.returns.Further.{Further}
use Rattle.cob_run.specs.declared.returns.Further.TheVariants as further
use Rattle.cob_run.specs.declared.returns.Return.{Return}
use Rattle.cob_run.specs.declared.returns.Mode.TheVariants as mode
use Rattle.cob_run.specs.Machine.{Machine, stopped, changed_by, chosen, asked, judged_by, entered, counted_turn, went_on, returned, turned, pushed, begun_times, performed, ended, stepped_by, stepped}
use Rattle.cob_run.specs.Places.{IsAt, IsUnder, progress_of, StandsBy, Stands}

module _ (program : Program) (code : List Instruction) (starts : List ℕ) (c : IsCompiled program code starts) (names : Option (List ℕ)) (replies : List Reply) (calls : List Call) where
  abbrev pub text : List ParagraphTree
  text = program.text

  abbrev pub ranges : (first last : ℕ) → Run → Outcome
  ranges = range_does unit_bound program.layout program.text

  abbrev pub At : List Frame → ℕ → ℕ → List Return → Type 0
  At = IsAt program code

  abbrev pub Under : List Frame → ℕ → ℕ → List Return → Type 0
  Under = IsUnder program code

  abbrev pub From : List Frame → Machine → (Run → Outcome) → Type 0
  From frames m f = Leads program names replies (progress_of program code frames calls m) f

  abbrev pub Holds : Machine → Type 0
  Holds = Stands program code names replies calls

  running : (m : Machine) (frames : List Frame) → m.mode ≡ mode.Running → m.left < unit_bound → From frames m Normal → At frames m.place m.paragraph m.stack → Holds m
  running m frames e lt l a = subst (StandsBy program code names replies calls m) (sym e) (frames, record { within = lt; leads = l }, a)

  -- a statement or a turn is counted
  counts_it : (frames : List Frame) (m n : Machine) (f : Run → Outcome) → From frames m (begun f) → (nat_eq m.left 0 ≡ false → From frames (record m { left = m.left - 1 }) f → Holds n) → Holds (cond (nat_eq m.left 0) (stopped stop.Limit m) n)
  counts_it frames m n f l go = by (nat_eq m.left 0) refl
    where
      by : (b : Bool) → nat_eq m.left 0 ≡ b → Holds (cond b (stopped stop.Limit m) n)
      by true h = limit_stops program names replies (progress_of program code frames calls m) f l h
      by false h = go h (counts program names replies (progress_of program code frames calls m) f l h)

  -- a paragraph of the range that runs
  pub enters : (m : Machine) (k last : ℕ) (frames : List Frame) → m.mode ≡ mode.Running → m.left < unit_bound → k ≤ last → last < length text → From (paragraphs_left k last ∷ frames) m Normal → Under frames last k m.stack → Holds (entered starts k m)
  enters m k last frames e lt le within l u =
      let p = there text k (omega arith) in
      let d = c.does k p.0 p.1 in
      running (entered starts k m) (sentences_left p.0.sentences ∷ paragraphs_left (k + 1) last ∷ frames) e lt
      (λ more. l more ∙ ap meaning_of (paragraph_begins unit_bound program.layout text k last p.0 (run_of (progress_of program code frames calls m) more) frames le within p.1))
      (d.0, d.1, c.stays k p.0 p.1, (d.2, refl, le, within, u))

  -- a range that is performed
  begins_range : (m : Machine) (first last : ℕ) (frames : List Frame) → m.left < unit_bound → From frames m (ranges first last) → From (paragraphs_left first last ∷ frames) m Normal
  begins_range m first last frames lt l = λ more. l more ∙ ap meaning_of (range_begins unit_bound program.layout text first last (run_of (progress_of program code frames calls m) more) frames lt)

  module _ (m : Machine) (below : List Return) (frames : List Frame) (top : Return) (e : m.mode ≡ mode.Running) (lt : m.left < unit_bound) (a : At frames top.back top.paragraph below) (span : IsRangeOf text top.first top.last) (order : top.first ≤ top.last) (within : top.last < length text) where
    leaves : From frames m Normal → Holds (returned top below m)
    leaves l = running (returned top below m) frames e lt l a

    turn_begins : (f : Further) (frame : Frame) → nat_eq m.left 0 ≡ false → From (frame ∷ frames) (record m { left = m.left - 1 }) (ranges top.first top.last) → Under (frame ∷ frames) top.last top.first (record top { further = f } ∷ below) → Holds (entered starts top.first (record m { left = m.left - 1; stack = record top { further = f } ∷ below }))
    turn_begins f frame some l u =
        let n : Machine = record m { left = m.left - 1; stack = record top { further = f } ∷ below } in
        enters n top.first top.last (frame ∷ frames) e (omega (arith, lt)) order within
        (begins_range n top.first top.last (frame ∷ frames) (omega (arith, lt)) l) u

    next_times : (n : ℕ) → From frames m (times n (ranges top.first top.last)) → Holds (turned code starts (further.Times n) top below m)
    next_times n l = by (nat_eq n 0) refl
      where
        by : (b : Bool) → nat_eq n 0 ≡ b → Holds (cond b (returned top below m) (counted_turn starts (record top { further = further.Times (n - 1) }) below m))
        by true h = leaves (λ more. l more ∙ ap (goes_on program (progress_of program code frames calls m)) (times_none n (ranges top.first top.last) (run_of (progress_of program code frames calls m) more) h))
        by false h =
            counts_it frames m _ (λ r. then_do (ranges top.first top.last r) (times (n - 1) (ranges top.first top.last)))
            (λ more. l more ∙ ap (goes_on program (progress_of program code frames calls m)) (times_one n (ranges top.first top.last) (run_of (progress_of program code frames calls m) more) h))
            (λ some l1. turn_begins (further.Times (n - 1)) (turns_left (n - 1) top.first top.last) some l1 (record top { further = further.Times (n - 1) }, below, refl, refl, omega arith, span, record { first_is = refl; last_is = refl; further_is = refl }, a))

    next_until : (condition : Condition) → top.further ≡ further.Until → ((storage : Storage) → judged_by (slice_get code top.call) storage ≡ holds program.layout condition storage) → From frames m (until unit_bound (holds program.layout condition) (ranges top.first top.last)) → Holds (turned code starts further.Until top below m)
    next_until condition same judged l = by (judged_by (slice_get code top.call) m.storage) (sym (judged m.storage))
      where
        tested : (o : Option Bool) → holds program.layout condition m.storage ≡ o → From frames m (choice o Normal (begun (λ r. then_do (ranges top.first top.last r) (until unit_bound (holds program.layout condition) (ranges top.first top.last)))))
        tested o h = λ more.
            let p = progress_of program code frames calls m in
            l more ∙ ap (goes_on program p) (until_is unit_bound program.layout text (holds program.layout condition) top.first top.last (run_of p more) lt)
            ∙ ap (λ b. goes_on program p (choice b Normal (begun (λ r. then_do (ranges top.first top.last r) (until unit_bound (holds program.layout condition) (ranges top.first top.last)))) (run_of p more))) h

        by : (o : Option Bool) → holds program.layout condition m.storage ≡ o → Holds (chosen o m (returned top below m) (counted_turn starts top below m))
        by None h = stops_at program names replies (progress_of program code frames calls m) (choice None Normal (begun (λ r. then_do (ranges top.first top.last r) (until unit_bound (holds program.layout condition) (ranges top.first top.last))))) stop.DataFault (tested None h) (λ more. refl)
        by (Some true) h = leaves (tested (Some true) h)
        by (Some false) h =
            counts_it frames m _ (λ r. then_do (ranges top.first top.last r) (until unit_bound (holds program.layout condition) (ranges top.first top.last))) (tested (Some false) h)
            (λ some l1. turn_begins top.further (turns_until condition top.first top.last) some l1 (top, below, refl, refl, omega arith, span, record { first_is = refl; last_is = refl; further_is = same }, judged, a))

  -- the next paragraph of the range that runs is in it
  under_next : (frames : List Frame) (last k to : ℕ) (stack : List Return) → k ≤ to → Under frames last k stack → Under frames last to stack
  under_next [] last k to stack le u = u
  under_next (turns_left count first end ∷ frames) last k to stack le u = (u.0, u.1, u.2, u.3, omega (arith, u.4), u.5, u.6, u.7)
  under_next (turns_until condition first end ∷ frames) last k to stack le u = (u.0, u.1, u.2, u.3, omega (arith, u.4), u.5, u.6, u.7, u.8)
  under_next (rest_of block ∷ frames) last k to stack le u = absurd u
  under_next (sentences_left sentences ∷ frames) last k to stack le u = absurd u
  under_next (paragraphs_left next end ∷ frames) last k to stack le u = absurd u

  -- the next paragraph
  goes_next : (m : Machine) (last : ℕ) (frames : List Frame) → m.mode ≡ mode.Running → m.left < unit_bound → m.paragraph + 1 ≤ last → last < length text → From (paragraphs_left (m.paragraph + 1) last ∷ frames) m Normal → Under frames last m.paragraph m.stack → Holds (went_on starts m)
  goes_next m last frames e lt le within l u =
      let short : m.paragraph + 1 < length starts = omega (arith, c.as_long) in
      let test : nat_lt (m.paragraph + 1) (length starts) ≡ true = search rules in
      subst (λ t. Holds (cond t (entered starts (m.paragraph + 1) m) (stopped stop.Run m))) (sym test)
      (enters m (m.paragraph + 1) last frames e lt le within l (under_next frames last m.paragraph (m.paragraph + 1) m.stack (omega arith) u))

  -- the end of the text
  goes_out : (m : Machine) → length text - 1 ≤ m.paragraph → From (paragraphs_left (m.paragraph + 1) (length text - 1) ∷ []) m Normal → Holds (went_on starts m)
  goes_out m past l =
      let long : length starts ≤ m.paragraph + 1 = omega (arith, c.as_long, c.some) in
      let test : nat_lt (m.paragraph + 1) (length starts) ≡ false = search rules in
      subst (λ t. Holds (cond t (entered starts (m.paragraph + 1) m) (stopped stop.Run m))) (sym test)
      (λ more. l more ∙ ap meaning_of (range_ends unit_bound program.layout text (m.paragraph + 1) (length text - 1) (run_of (progress_of program code [] calls m) more) [] (omega arith) (omega (arith, c.some))))

  -- the end of a paragraph
  ends_paragraph : (m : Machine) (last : ℕ) (frames : List Frame) → m.mode ≡ mode.Running → m.left < unit_bound → m.paragraph ≤ last → last < length text → From (paragraphs_left (m.paragraph + 1) last ∷ frames) m Normal → Under frames last m.paragraph m.stack → Holds (ended code starts m.stack m)
  ends_paragraph m last [] e lt le within l u =
      subst (λ st. Holds (ended code starts st m)) (sym u.0)
      (⊎_elim
      (λ less. goes_next m last [] e lt (omega (arith, less)) within l u)
      (λ past. goes_out m (omega (arith, past, u.1)) (subst (λ n. From (paragraphs_left (m.paragraph + 1) n ∷ []) m Normal) u.1 l))
      (cases_lt m.paragraph last))
  ends_paragraph m last (turns_left count first end ∷ frames) e lt le within l u =
      subst (λ st. Holds (ended code starts st m)) (sym u.2) (by (nat_eq m.paragraph u.0.last) refl)
    where
      by : (b : Bool) → nat_eq m.paragraph u.0.last ≡ b → Holds (cond b (turned code starts u.0.further u.0 u.1 m) (went_on starts m))
      by true h =
          let same : m.paragraph ≡ u.0.last = eqb-true m.paragraph u.0.last h in
          let it : m.paragraph ≡ last = same ∙ u.6.last_is in
          let first_is : first ≡ u.0.first = sym u.6.first_is in
          let last_is : last ≡ u.0.last = sym u.6.last_is in
          let ended_ : From (turns_left count first end ∷ frames) m Normal = λ more. l more ∙ ap meaning_of (range_ends unit_bound program.layout text (m.paragraph + 1) last (run_of (progress_of program code frames calls m) more) (turns_left count first end ∷ frames) (omega (arith, it)) within) in
          let here : From frames m (times count (ranges first last)) = subst (λ n. From (turns_left count first n ∷ frames) m Normal) u.3 ended_ in
          subst (λ f. Holds (turned code starts f u.0 u.1 m)) (sym u.6.further_is)
          (next_times m u.1 frames u.0 e lt u.7 (subst (λ n. IsRangeOf text n u.0.last) first_is (subst (λ n. IsRangeOf text first n) last_is u.5)) (omega (arith, u.4, le, first_is, last_is)) (omega (arith, within, last_is)) count
          (subst (λ n. From frames m (times count (ranges n u.0.last))) first_is (subst (λ n. From frames m (times count (ranges first n))) last_is here)))
      by false h =
          let other : m.paragraph ≡ u.0.last → ⊥ = eqb-false m.paragraph u.0.last h in
          let differs : m.paragraph ≡ last → ⊥ = λ it. other (it ∙ sym u.6.last_is) in
          goes_next m last (turns_left count first end ∷ frames) e lt (omega (arith, le, differs)) within l u
  ends_paragraph m last (turns_until condition first end ∷ frames) e lt le within l u =
      subst (λ st. Holds (ended code starts st m)) (sym u.2) (by (nat_eq m.paragraph u.0.last) refl)
    where
      by : (b : Bool) → nat_eq m.paragraph u.0.last ≡ b → Holds (cond b (turned code starts u.0.further u.0 u.1 m) (went_on starts m))
      by true h =
          let same : m.paragraph ≡ u.0.last = eqb-true m.paragraph u.0.last h in
          let it : m.paragraph ≡ last = same ∙ u.6.last_is in
          let first_is : first ≡ u.0.first = sym u.6.first_is in
          let last_is : last ≡ u.0.last = sym u.6.last_is in
          let ended_ : From (turns_until condition first end ∷ frames) m Normal = λ more. l more ∙ ap meaning_of (range_ends unit_bound program.layout text (m.paragraph + 1) last (run_of (progress_of program code frames calls m) more) (turns_until condition first end ∷ frames) (omega (arith, it)) within) in
          let here : From frames m (until unit_bound (holds program.layout condition) (ranges first last)) = subst (λ n. From (turns_until condition first n ∷ frames) m Normal) u.3 ended_ in
          subst (λ f. Holds (turned code starts f u.0 u.1 m)) (sym u.6.further_is)
          (next_until m u.1 frames u.0 e lt u.8 (subst (λ n. IsRangeOf text n u.0.last) first_is (subst (λ n. IsRangeOf text first n) last_is u.5)) (omega (arith, u.4, le, first_is, last_is)) (omega (arith, within, last_is)) condition u.6.further_is u.7
          (subst (λ n. From frames m (until unit_bound (holds program.layout condition) (ranges n u.0.last))) first_is (subst (λ n. From frames m (until unit_bound (holds program.layout condition) (ranges first n))) last_is here)))
      by false h =
          let other : m.paragraph ≡ u.0.last → ⊥ = eqb-false m.paragraph u.0.last h in
          let differs : m.paragraph ≡ last → ⊥ = λ it. other (it ∙ sym u.6.last_is) in
          goes_next m last (turns_until condition first end ∷ frames) e lt (omega (arith, le, differs)) within l u
  ends_paragraph m last (rest_of block ∷ frames) e lt le within l u = absurd u
  ends_paragraph m last (sentences_left sentences ∷ frames) e lt le within l u = absurd u
  ends_paragraph m last (paragraphs_left next end ∷ frames) e lt le within l u = absurd u

  -- a target that no range leaves
  abbrev Remains : ℕ → ℕ → Type 0
  Remains k to = (first last : ℕ) → IsRangeOf text first last → first ≤ k → k ≤ last → (first ≤ to) × (to ≤ last)

  -- a GO's target is in the range that runs
  under_gone : (frames : List Frame) (last k to : ℕ) (stack : List Return) → k ≤ last → Remains k to → Under frames last k stack → (to ≤ last) × Under frames last to stack
  under_gone [] last k to stack le r u =
      let in_ : (0 ≤ to) × (to ≤ last) = r 0 last (inl (refl, u.1)) (omega arith) le in (in_.1, u)
  under_gone (turns_left count first end ∷ frames) last k to stack le r u =
      let in_ : (first ≤ to) × (to ≤ last) = r first last u.5 u.4 le in (in_.1, (u.0, u.1, u.2, u.3, in_.0, u.5, u.6, u.7))
  under_gone (turns_until condition first end ∷ frames) last k to stack le r u =
      let in_ : (first ≤ to) × (to ≤ last) = r first last u.5 u.4 le in (in_.1, (u.0, u.1, u.2, u.3, in_.0, u.5, u.6, u.7, u.8))
  under_gone (rest_of block ∷ frames) last k to stack le r u = absurd u
  under_gone (sentences_left sentences ∷ frames) last k to stack le r u = absurd u
  under_gone (paragraphs_left next end ∷ frames) last k to stack le r u = absurd u

  -- what is still to be done after a GO
  record IsGone (frames : List Frame) (to : ℕ) (stack : List Return) : Type 0 where
    last : ℕ
    below : List Frame
    gone : frames_after_go to frames ≡ paragraphs_left to last ∷ below
    in_range : to ≤ last
    within : last < length text
    under : Under below last to stack

  goes_in : (frames : List Frame) (place k to : ℕ) (stack : List Return) → Remains k to → At frames place k stack → IsGone frames to stack
  goes_in [] place k to stack r a = absurd a
  goes_in (rest_of block ∷ frames) place k to stack r a =
      let g = goes_in frames a.0 k to stack r a.3 in
      record { last = g.last; below = g.below; gone = g.gone; in_range = g.in_range; within = g.within; under = g.under }
  goes_in (sentences_left sentences ∷ frames) place k to stack r a =
      let g = goes_in frames a.0 k to stack r a.3 in
      record { last = g.last; below = g.below; gone = g.gone; in_range = g.in_range; within = g.within; under = g.under }
  goes_in (paragraphs_left next last ∷ frames) place k to stack r a =
      let u = under_gone frames last k to stack a.2 r a.4 in
      record { last = last; below = frames; gone = refl; in_range = u.0; within = a.3; under = u.1 }
  goes_in (turns_left count first end ∷ frames) place k to stack r a = absurd a
  goes_in (turns_until condition first end ∷ frames) place k to stack r a = absurd a

  -- a statement that was counted, before what is still to be done
  module _ (m : Machine) (frames : List Frame) (next : ℕ) (e : m.mode ≡ mode.Running) (lt : m.left < unit_bound) (a : At frames next m.paragraph m.stack) where
    abbrev here : Progress
    here = progress_of program code frames calls m

    changes_it : (o : Option Storage) → From frames m (changed_to o) → Holds (changed_by o next m)
    changes_it None l = stops_at program names replies here (changed_to None) stop.DataFault l (λ more. refl)
    changes_it (Some storage) l = running (record m { storage = storage; place = next }) frames e lt l a

    chooses : (condition : Condition) (test : Test) (one other : Block) (at_one at_other : ℕ) → DoesAll program.layout text code one at_one next → DoesAll program.layout text code other at_other next → StayAll text m.paragraph one → StayAll text m.paragraph other → (o : Option Bool) → holds program.layout condition m.storage ≡ o → From frames m (λ run. choice (holds program.layout condition run.storage) (do_all program.layout text unit_bound ranges one) (do_all program.layout text unit_bound ranges other) run) → Holds (chosen o m (record m { place = at_one }) (record m { place = at_other }))
    chooses condition test one other at_one at_other d1 d2 s1 s2 o h l = by o tested
      where
        tested : From frames m (choice o (do_all program.layout text unit_bound ranges one) (do_all program.layout text unit_bound ranges other))
        tested = λ more. l more ∙ ap (λ b. goes_on program here (choice b (do_all program.layout text unit_bound ranges one) (do_all program.layout text unit_bound ranges other) (run_of here more))) h

        by : (b : Option Bool) → From frames m (choice b (do_all program.layout text unit_bound ranges one) (do_all program.layout text unit_bound ranges other)) → Holds (chosen b m (record m { place = at_one }) (record m { place = at_other }))
        by None t = stops_at program names replies here (choice None (do_all program.layout text unit_bound ranges one) (do_all program.layout text unit_bound ranges other)) stop.DataFault t (λ more. refl)
        by (Some true) t = running (record m { place = at_one }) (rest_of one ∷ frames) e lt t (next, d1, s1, a)
        by (Some false) t = running (record m { place = at_other }) (rest_of other ∷ frames) e lt t (next, d2, s2, a)

    jumps : (to : ℕ) → Remains m.paragraph to → From frames m (Jump to) → Holds (entered starts to m)
    jumps to r l =
        let g = goes_in frames next m.paragraph to m.stack r a in
        enters m to g.last g.below e lt g.in_range g.within
        (subst (λ fs. From fs m Normal) g.gone (goes_there program names replies here to lt l)) g.under

    asks : (request : Storage → Option Request) (no_data : Block) (v : Verb) (at_none : ℕ) → slice_get code m.place ≡ Some (instruction.Ask v at_none next) → ((storage : Storage) → request_by v storage ≡ request storage) → DoesAll program.layout text code no_data at_none next → StayAll text m.paragraph no_data → From frames m (verb request (do_all program.layout text unit_bound ranges no_data)) → Holds (cond (nat_eq m.verbs 0) (stopped stop.Limit m) (asked (request_by v m.storage) m))
    asks request no_data v at_none is same d s l = by (nat_eq m.verbs 0) refl
      where
        by : (b : Bool) → nat_eq m.verbs 0 ≡ b → Holds (cond b (stopped stop.Limit m) (asked (request_by v m.storage) m))
        by true h = stops_at program names replies here (verb request (do_all program.layout text unit_bound ranges no_data)) stop.Limit l (λ more. verb_none request (do_all program.layout text unit_bound ranges no_data) (run_of here more) h)
        by false h = found (request_by v m.storage) refl
          where
            made : (o : Option Request) → request_by v m.storage ≡ o → From frames (record m { verbs = m.verbs - 1 }) (requested o (do_all program.layout text unit_bound ranges no_data))
            made o g = λ more.
                l more ∙ ap (goes_on program here) (verb_one request (do_all program.layout text unit_bound ranges no_data) (run_of here more) h)
                ∙ ap (λ x. goes_on program here (requested x (do_all program.layout text unit_bound ranges no_data) (record (run_of here more) { verbs = m.verbs - 1 }))) (sym (same m.storage) ∙ g)

            found : (o : Option Request) → request_by v m.storage ≡ o → Holds (asked o m)
            found None g = stops_at program names replies (progress_of program code frames calls (record m { verbs = m.verbs - 1 })) (requested None (do_all program.layout text unit_bound ranges no_data)) stop.DataFault (made None g) (λ more. refl)
            found (Some r) g = (
              frames,
              r,
              no_data,
              record { within = lt; leads = made (Some r) g },
              record { verb = v; at_none = at_none; next = next; instruction_is = is; request_is = g; does_none = d; stay_none = s; rest = a },
            )

    performs_it : (first last : ℕ) (often : Repetition) (turns_ : Turns) → slice_get code m.place ≡ Some (instruction.Perform first last turns_ next) → AreTurnsOf program.layout often turns_ → IsRangeOf text first last → first ≤ last → last < length text → From frames m (turns unit_bound program.layout often (ranges first last)) → Holds (performed code starts turns_ first last next m)
    performs_it first last repetition.Once how.Once is same span order within l =
        let top = pushed code starts first last (further.Times 0) next m in
        let n : Machine = record m { stack = top ∷ m.stack } in
        enters n first last (turns_left 0 first last ∷ frames) e lt order within
        (begins_range n first last (turns_left 0 first last ∷ frames) lt (λ more. l more ∙ ap (goes_on program here) (sym (then_normal (ranges first last (run_of here more))))))
        (top, m.stack, refl, refl, omega arith, span, record { first_is = refl; last_is = refl; further_is = refl }, a)
    performs_it first last (repetition.Times counted_) (how.Times number) is same span order within l = by (amount_by number m.storage) refl
      where
        by : (o : Option ℕ) → amount_by number m.storage ≡ o → Holds (begun_times code starts o first last next m)
        by None h = stops_at program names replies here (times_of None (ranges first last)) stop.DataFault (λ more. l more ∙ ap (λ o. goes_on program here (times_of o (ranges first last) (run_of here more))) (sym (same m.storage) ∙ h)) (λ more. refl)
        by (Some n) h =
            next_times (record m { stack = pushed code starts first last (further.Times n) next m ∷ m.stack }) m.stack frames (pushed code starts first last (further.Times n) next m) e lt a span order within n
            (λ more. l more ∙ ap (λ o. goes_on program here (times_of o (ranges first last) (run_of here more))) (sym (same m.storage) ∙ h))
    performs_it first last (repetition.Until condition) (how.Until test) is same span order within l =
        next_until (record m { stack = pushed code starts first last further.Until next m ∷ m.stack }) m.stack frames (pushed code starts first last further.Until next m) e lt a span order within condition refl
        (λ storage. ap (λ o. judged_by o storage) is ∙ same storage) l
    performs_it first last repetition.Once (how.Times number) is same span order within l = absurd same
    performs_it first last repetition.Once (how.Until test) is same span order within l = absurd same
    performs_it first last (repetition.Times counted_) how.Once is same span order within l = absurd same
    performs_it first last (repetition.Times counted_) (how.Until test) is same span order within l = absurd same
    performs_it first last (repetition.Until condition) how.Once is same span order within l = absurd same
    performs_it first last (repetition.Until condition) (how.Times number) is same span order within l = absurd same

  -- the instruction of a statement, before what is still to be done
  module _ (m : Machine) (frames : List Frame) (next : ℕ) (e : m.mode ≡ mode.Running) (lt : m.left < unit_bound) (a : At frames next m.paragraph m.stack) where
    abbrev once : Machine
    once = record m { left = m.left - 1 }

    abbrev Steps : Type 0
    Steps = Holds (stepped code starts m)

    changes_by : (change : Storage → Option Storage) → Changes program.layout text code change m.place next → From frames m (begun (changed change)) → Steps
    changes_by change d l =
        subst (λ o. Holds (stepped_by code starts o m)) (sym d.1)
        (counts_it frames m (changed_by (effect d.0 m.storage) next once) (changed change) l
        (λ some l1. subst (λ o. Holds (changed_by o next once)) (sym (d.2 m.storage)) (changes_it once frames next e (omega (arith, lt)) a (change m.storage) l1)))

    asks_by : (request : Storage → Option Request) (no_data : Block) (at_none : ℕ) → Asks program.layout text code request at_none m.place next → DoesAll program.layout text code no_data at_none next → StayAll text m.paragraph no_data → From frames m (begun (verb request (do_all program.layout text unit_bound ranges no_data))) → Steps
    asks_by request no_data at_none d none_ s l =
        subst (λ o. Holds (stepped_by code starts o m)) (sym d.1)
        (counts_it frames m (cond (nat_eq m.verbs 0) (stopped stop.Limit once) (asked (request_by d.0 m.storage) once)) (verb request (do_all program.layout text unit_bound ranges no_data)) l
        (λ some l1. asks once frames next e (omega (arith, lt)) a request no_data d.0 at_none d.1 d.2 none_ s l1))

    does_plain : (s : Plain) → Does program.layout text code (plain s) m.place next → Stays text m.paragraph (plain s) → From frames m (does program.layout text unit_bound ranges (plain s)) → Steps
    does_plain (moves source targets) d s l = changes_by (move program.layout source targets) d l
    does_plain (adds addend target) d s l = changes_by (add program.layout addend target) d l
    does_plain (subtracts addend target) d s l = changes_by (subtract program.layout addend target) d l
    does_plain (performs first last often) d s l =
        subst (λ o. Holds (stepped_by code starts o m)) (sym d.1)
        (counts_it frames m (performed code starts d.0 (paragraph_number text first) (paragraph_number text (last_of first last)) next once) (turns unit_bound program.layout often (ranges (paragraph_number text first) (paragraph_number text (last_of first last)))) l
        (λ some l1. performs_it once frames next e (omega (arith, lt)) a (paragraph_number text first) (paragraph_number text (last_of first last)) often d.0 d.1 d.2 s.0 s.1 s.2 l1))
    does_plain (goes target) d s l =
        subst (λ o. Holds (stepped_by code starts o m)) (sym d)
        (counts_it frames m (entered starts (paragraph_number text target) once) (Jump (paragraph_number text target)) l
        (λ some l1. jumps once frames next e (omega (arith, lt)) a (paragraph_number text target) s l1))
    does_plain exits d s l = changes_by Some d l
    does_plain stops d s l =
        subst (λ o. Holds (stepped_by code starts o m)) (sym d)
        (counts_it frames m (stopped stop.Run once) (Stops stop.Run) l
        (λ some l1. stops_at program names replies (progress_of program code frames calls once) (Stops stop.Run) stop.Run l1 (λ more. refl)))
    does_plain (sends cd from ending) d s l = asks_by (send program.layout cd from ending) none next d refl tt l
    does_plain (switches_input on terminal cd key) d s l = asks_by (switch_input program.layout on terminal cd key) none next d refl tt l
    does_plain (switches_output on cd key) d s l = asks_by (switch_output program.layout on cd key) none next d refl tt l
    does_plain (accepts cd) d s l = asks_by (accept program.layout cd) none next d refl tt l

    does_tree : (s : Tree) → Does program.layout text code s m.place next → Stays text m.paragraph s → From frames m (does program.layout text unit_bound ranges s) → Steps
    does_tree (plain s) d st l = does_plain s d st l
    does_tree (branches position condition one other) d s l =
        subst (λ o. Holds (stepped_by code starts o m)) (sym d.3)
        (counts_it frames m (chosen (holds_by d.2 m.storage) once (record once { place = d.0 }) (record once { place = d.1 })) (λ run. choice (holds program.layout condition run.storage) (do_all program.layout text unit_bound ranges one) (do_all program.layout text unit_bound ranges other) run) l
        (λ some l1. chooses once frames next e (omega (arith, lt)) a condition d.2 one other d.0 d.1 d.5 d.6 s.0 s.1 (holds_by d.2 m.storage) (sym (d.4 m.storage)) l1))
    does_tree (receives cd segment into no_data) d s l = asks_by (receive program.layout cd segment into (are_written no_data)) no_data d.0 d.1 d.2 s l

  -- one instruction, by what is still to be done
  module _ (m : Machine) (e : m.mode ≡ mode.Running) where
    abbrev Stepped : Type 0
    Stepped = Holds (stepped code starts m)

    abbrev Rest : List Frame → Type 0
    Rest frames = m.left < unit_bound → From frames m Normal → At frames m.place m.paragraph m.stack → Stepped

    block_steps : (block : Block) (frames : List Frame) → Rest frames → Rest (rest_of block ∷ frames)
    block_steps none frames go lt l a = go lt l (subst (λ p. At frames p m.paragraph m.stack) (sym a.1) a.3)
    block_steps (lead s others) frames go lt l a =
        does_tree m (rest_of others ∷ frames) a.1.0 e lt (a.0, a.1.2, a.2.1, a.3) s a.1.1 a.2.0 l

    sentences_step : (sentences : List Block) (frames : List Frame) → Rest frames → Rest (sentences_left sentences ∷ frames)
    sentences_step [] frames go lt l a = go lt l (subst (λ p. At frames p m.paragraph m.stack) (sym a.1) a.3)
    sentences_step (sentence ∷ others) frames go lt l a =
        block_steps sentence (sentences_left others ∷ frames) (sentences_step others frames go) lt l
        (a.1.0, a.1.1, a.2.0, (a.0, a.1.2, a.2.1, a.3))

    frames_step : (frames : List Frame) → Rest frames
    frames_step [] lt l a = absurd a
    frames_step (rest_of block ∷ frames) lt l a = block_steps block frames (frames_step frames) lt l a
    frames_step (sentences_left sentences ∷ frames) lt l a = sentences_step sentences frames (frames_step frames) lt l a
    frames_step (paragraphs_left next last ∷ frames) lt l a =
        subst (λ o. Holds (stepped_by code starts o m)) (sym a.0)
        (ends_paragraph m last frames e lt a.2 a.3 (subst (λ n. From (paragraphs_left n last ∷ frames) m Normal) a.1 l) a.4)
    frames_step (turns_left count first end ∷ frames) lt l a = absurd a
    frames_step (turns_until condition first end ∷ frames) lt l a = absurd a

    -- one instruction keeps what the machine stands for
    pub steps : Holds m → Stepped
    steps h = by (subst (StandsBy program code names replies calls m) e h)
      where
        by : StandsBy program code names replies calls m mode.Running → Stepped
        by r = frames_step r.0 r.1.within r.1.leads r.2
