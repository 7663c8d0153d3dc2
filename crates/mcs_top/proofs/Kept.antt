-- What is kept of a history, entry by entry.
use Rattle.std.proofs.Common.{filter, ◌≡◌, ℕ, ◌+◌, ◌≤◌, suc, Bool, true, false, List, [], ◌∷◌, ◌++◌, length, map, refl, sym, ap, ◌∙◌, cond, arith, append_assoc}
use Rattle.std.specs.Prelude.{count_by, if◌then◌else◌}
use Rattle.std.proofs.lemmas.List.{append-nil, length_push}
use Rattle.std.proofs.lemmas.List.Elements.{filter-append}
use Rattle.std.proofs.lemmas.List.Sums.{count_by-le-length, sum_by-append, sum_by-cons}
use Rattle.com_net.specs.declared.net.Net.{Net}
use Rattle.com_events.specs.declared.entry.Entry.{Entry}
use Rattle.com_journal.specs.Lines.{IsCallText, IsLine}
use Rattle.com_journal.specs.Journals.{journal_header, ended, IsJournal}
use Rattle.com_journal.specs.Scripts.{lines_of, AreCalls}
use Rattle.com_journal.proofs.JournalLaws.{ended-append, lines-append}
use Rattle.com_state.specs.State.{State, opening}
use Rattle.com_state.specs.Histories.{call_made}
use Rattle.com_state.proofs.Fronts.{leads_more}
use Rattle.mcs_top.specs.declared.run.Run.{Run}
use Rattle.mcs_top.specs.Histories.{is_arrival, is_portion}
use Rattle.mcs_top.specs.Refusal.{StopsAt}
use Rattle.mcs_top.specs.Running.{is_last_call, one_more_if, added_if, Adds, Tells, HasNothing, IsOfRun, DoesLine, HasDoneLines, HasDone}

-- one more line behind a journal
journal_more : (history : List Entry) (journal : List ℕ) (entry : Entry) (line : List ℕ) → IsJournal history journal → IsLine entry line → IsJournal (history ++ entry ∷ []) (journal ++ (line ++ 10 ∷ []))
journal_more history journal entry line h is =
    let longer : ended (journal_header ∷ (h.0 ++ line ∷ [])) ≡ ended (journal_header ∷ h.0) ++ (line ++ 10 ∷ []) =
    ended-append (journal_header ∷ h.0) (line ∷ []) ∙ ap (λ (xs : List ℕ). ended (journal_header ∷ h.0) ++ xs) (append-nil (line ++ 10 ∷ [])) in
    (h.0 ++ line ∷ [], lines-append history (entry ∷ []) h.0 (line ∷ []) h.1 (is, tt), ap (λ (xs : List ℕ). xs ++ (line ++ 10 ∷ [])) h.2 ∙ sym longer)

-- one more item is kept or not
filter_more : {X : Type 0} (p : X → Bool) (xs : List X) (x : X) (b : Bool) → p x ≡ b → filter p (xs ++ x ∷ []) ≡ (if b then filter p xs ++ x ∷ [] else filter p xs)
filter_more {X} p xs x true e = filter-append p xs (x ∷ []) ∙ rw e refl
filter_more {X} p xs x false e = filter-append p xs (x ∷ []) ∙ rw e (append-nil (filter p xs))

count_more : {X : Type 0} (p : X → Bool) (xs : List X) (x : X) (b : Bool) → p x ≡ b → count_by p (xs ++ x ∷ []) ≡ one_more_if b (count_by p xs)
count_more {X} p xs x true e =
    let added : count_by p (xs ++ x ∷ []) ≡ count_by p xs + count_by p (x ∷ []) = sum_by-append (λ y. cond (p y) 1 0) xs (x ∷ []) in
    let one : count_by p (x ∷ []) ≡ 1 = sum_by-cons (λ y. cond (p y) 1 0) x [] ∙ rw e refl in
    omega (arith, added, one)
count_more {X} p xs x false e =
    let added : count_by p (xs ++ x ∷ []) ≡ count_by p xs + count_by p (x ∷ []) = sum_by-append (λ y. cond (p y) 1 0) xs (x ∷ []) in
    let one : count_by p (x ∷ []) ≡ 0 = sum_by-cons (λ y. cond (p y) 1 0) x [] ∙ rw e refl in
    omega (arith, added, one)

pub tells_more : (history : List Entry) (entry : Entry) (run longer : Run) → Tells history run → Adds entry run longer → Tells (history ++ entry ∷ []) longer
tells_more history entry run longer h a = record {
  journal = rw a.journal (journal_more history run.journal entry a.line h.journal a.is_line);
  ends = a.ends ∙ (ap (λ (ends : List Entry). added_if (is_last_call entry.call) entry ends) h.ends ∙ sym (filter_more (λ entry. is_last_call entry.call) history entry (is_last_call entry.call) refl));
  arrivals = a.arrivals ∙ (ap (one_more_if (is_arrival entry.call)) h.arrivals ∙ sym (count_more (λ entry. is_arrival entry.call) history entry (is_arrival entry.call) refl));
  portions = a.portions ∙ (ap (one_more_if (is_portion entry.reply)) h.portions ∙ sym (count_more (λ entry. is_portion entry.reply) history entry (is_portion entry.reply) refl));
}

pub nothing_told : (net : Net) (run : Run) → HasNothing net run → IsOfRun net [] run
nothing_told net run h = record {
  done = h.state;
  kept = record { journal = h.journal; ends = h.ends; arrivals = h.arrivals; portions = h.portions };
}

-- one more call at the end
calls_more : (history : List Entry) (lines : List (List ℕ)) (line : List ℕ) (entry : Entry) → AreCalls (map call_made history) lines → IsCallText entry.party entry.call line
    → AreCalls (map call_made (history ++ entry ∷ [])) (lines ++ line ∷ [])
calls_more [] [] line entry h text = (text, tt)
calls_more (e ∷ history) (x ∷ lines) line entry h text = (h.0, calls_more history lines line entry h.1 text)
calls_more (e ∷ history) [] line entry h text = absurd h
calls_more [] (x ∷ lines) line entry h text = absurd h

-- one more line was done
lines_more : (net : Net) (lines : List (List ℕ)) (line : List ℕ) (run longer : Run) → HasDoneLines net lines run → DoesLine line run longer → HasDoneLines net (lines ++ line ∷ []) longer
lines_more net lines line run longer h d = record {
  history = h.history ++ d.entry ∷ [];
  calls = calls_more h.history lines line d.entry h.calls d.text;
  of_run = record {
    done = leads_more (opening net) h.history run.state longer.state d.entry h.of_run.done d.stepped;
    kept = tells_more h.history d.entry run longer h.of_run.kept d.added;
  };
}

pub done_nothing : (net : Net) (bytes : List ℕ) (run : Run) → HasNothing net run → HasDone net (lines_of bytes) bytes run 1
done_nothing net bytes run h = record {
  before = [];
  split = refl;
  place = refl;
  done = record { history = []; calls = tt; of_run = nothing_told net run h };
}

pub done_more : (net : Net) (lines : List (List ℕ)) (rest after line : List ℕ) (run longer : Run) (number : ℕ) → HasDone net lines rest run number
    → lines_of rest ≡ line ∷ lines_of after → DoesLine line run longer → HasDone net lines after longer (number + 1)
done_more net lines rest after line run longer number h first d = record {
  before = h.before ++ line ∷ [];
  split = h.split ∙ rw first (sym (append_assoc h.before (line ∷ []) (lines_of after)));
  place = omega (arith, h.place, length_push h.before line);
  done = lines_more net h.before line run longer h.done d;
}

pub done_until : (net : Net) (lines : List (List ℕ)) (rest after line : List ℕ) (run : Run) (number : ℕ) (refused : State → List ℕ → Type 0) → HasDone net lines rest run number
    → lines_of rest ≡ line ∷ lines_of after → refused run.state line → StopsAt net lines (number + 1) refused
done_until net lines rest after line run number refused h first is = record {
  before = h.before;
  line = line;
  after = lines_of after;
  split = h.split ∙ rw first refl;
  place = omega (arith, h.place);
  history = h.done.history;
  calls = h.done.calls;
  state = run.state;
  done = h.done.of_run.done;
  is_refused = is;
}

-- where nothing is left, each line was done
pub done_all : (net : Net) (lines : List (List ℕ)) (run : Run) (number : ℕ) → HasDone net lines [] run number → HasDoneLines net lines run
done_all net lines run number h = rw (h.split, append-nil h.before) h.done

-- as many entries as lines
calls_length : (history : List Entry) (lines : List (List ℕ)) → AreCalls (map call_made history) lines → length history ≡ length lines
calls_length [] [] h = refl
calls_length (e ∷ history) (x ∷ lines) h = ap suc (calls_length history lines h.1)
calls_length (e ∷ history) [] h = absurd h
calls_length [] (x ∷ lines) h = absurd h

-- no count is beyond the number of lines
pub few_arrivals : (net : Net) (lines : List (List ℕ)) (rest : List ℕ) (run : Run) (number : ℕ) → HasDone net lines rest run number → run.arrivals ≤ number
few_arrivals net lines rest run number h =
    omega (arith, h.place, h.done.of_run.kept.arrivals, count_by-le-length (λ (entry : Entry). is_arrival entry.call) h.done.history, calls_length h.done.history h.before h.done.calls)

pub few_portions : (net : Net) (lines : List (List ℕ)) (rest : List ℕ) (run : Run) (number : ℕ) → HasDone net lines rest run number → run.portions ≤ number
few_portions net lines rest run number h =
    omega (arith, h.place, h.done.of_run.kept.portions, count_by-le-length (λ (entry : Entry). is_portion entry.reply) h.done.history, calls_length h.done.history h.before h.done.calls)
