-- From what the reader of a log answers to the answers that there can be.
use Rattle.std.proofs.Common.{◌≡◌, inl, inr, ℕ, ◌+◌, ◌-◌, ◌≤◌, List, [], ◌∷◌, ◌++◌, length, Result, Ok, Err, sym, ◌∙◌, ap, arith, append_assoc, length-append}
use Rattle.std.specs.Result.{IfOk, IfErr, MatchResult}
use Rattle.com_events.specs.declared.entry.Entry.{Entry}
use Rattle.com_disk.specs.Logs.{Log, Stands, log_bytes, record_of, IsLength}
use Rattle.com_disk.specs.Refusals.{Tells, IsOutside, IsFaultOr, IsNoLog}
use Rattle.com_disk.specs.inner.Reads.{HasRead, IsRecordOf}
use Rattle.com_disk.specs.declared.reading.RecoverFault.{RecoverFault}
use Rattle.com_disk.specs.declared.reading.RecoverFault.TheVariants.{Failed, Empty, NotJournal, Memory}
use Rattle.com_disk.proofs.Entries.{log_push, log_length, lines_push}
use Rattle.com_disk.proofs.Unique.{same_log, no_fault, one_place}

-- what has bytes is not empty
some_bytes : (content : List ℕ) (version : ℕ) (entries : List Entry) → Stands content version entries → content ≡ [] → ⊥
some_bytes content version entries h none = omega (arith, ap length none, ap length h.shut.bytes, length-append (log_bytes version h.lines) (h.shut.gate ∷ h.shut.rest))

module _ (content : List ℕ) where
  -- entries that the content stands for are recovered
  pub exact_log : (r : Result (Log × List Entry) RecoverFault) → IfOk r (λ found. Stands content found.0.version found.1) → IfErr r (Tells content) → (version : ℕ) (entries : List Entry) → Stands content version entries
      → MatchResult r (λ found. (found.0.version ≡ version) × (found.1 ≡ entries)) IsOutside
  exact_log (Ok found) ok err version entries h = same_log content found.0.version version found.1 entries ok h
  exact_log (Err Failed) ok err version entries h = tt
  exact_log (Err Empty) ok err version entries h = some_bytes content version entries h err
  exact_log (Err (NotJournal at)) ok err version entries h = no_fault content version at entries h err.1
  exact_log (Err Memory) ok err version entries h = tt

  -- the place because of which the content is no log is told
  pub exact_fault : (r : Result (Log × List Entry) RecoverFault) → IfOk r (λ found. Stands content found.0.version found.1) → IfErr r (Tells content) → (at : ℕ) → 1 ≤ length content → IsNoLog content at
      → MatchResult r (λ _. ⊥) (IsFaultOr (NotJournal at))
  exact_fault (Ok found) ok err at some h = no_fault content found.0.version at found.1 ok h
  exact_fault (Err Failed) ok err at some h = inr tt
  exact_fault (Err Empty) ok err at some h = absurd (omega (arith, some, ap length err))
  exact_fault (Err (NotJournal other)) ok err at some h = inl (ap NotJournal (one_place content other at err.1 h))
  exact_fault (Err Memory) ok err at some h = inr tt

pub ok_follows : {A E : Type 0} (P Q : A → Type 0) (r : Result A E) → IfOk r P → ((x : A) → P x → Q x) → IfOk r Q
ok_follows P Q (Ok x) h f = f x h
ok_follows P Q (Err e) h f = tt

pub err_follows : {A E : Type 0} (P Q : E → Type 0) (r : Result A E) → IfErr r P → ((e : E) → P e → Q e) → IfErr r Q
err_follows P Q (Ok x) h f = tt
err_follows P Q (Err e) h f = f e h

-- one entry more was read
pub read_more : (bytes : List ℕ) (version : ℕ) (entries : List Entry) (end : ℕ) (rest tail : List ℕ) (entry : Entry) (after : List ℕ) → HasRead bytes version entries end rest → rest ≡ 1 ∷ tail → IsRecordOf tail entry after
    → HasRead bytes version (entries ++ entry ∷ []) (end + (length rest - length after)) after
read_more bytes version entries end rest tail entry after h gate r =
    let front = log_bytes version h.lines in
    let longer = log_push version h.lines r.line in
    record {
      known = h.known;
      lines = h.lines ++ r.line ∷ [];
      are_lines = lines_push entries h.lines entry r.line h.are_lines r.is_line;
      split =
          h.split ∙ ap (λ (l : List ℕ). front ++ l) (gate ∙ ap (λ (l : List ℕ). 1 ∷ l) r.split)
          ∙ sym (append_assoc front (1 ∷ record_of r.line) after)
          ∙ ap (λ (l : List ℕ). l ++ after) (sym longer);
      at = omega (arith, h.at, ap length longer, length-append front (1 ∷ record_of r.line), ap length gate, ap length r.split, length-append (record_of r.line) after);
    }

-- the length of the log that was read
pub read_length : (bytes : List ℕ) (version : ℕ) (entries : List Entry) (end : ℕ) (rest : List ℕ) → HasRead bytes version entries end rest → IsLength entries (end + 1)
read_length bytes version entries end rest h = (h.lines, h.are_lines, omega (arith, h.at, log_length version h.lines))
