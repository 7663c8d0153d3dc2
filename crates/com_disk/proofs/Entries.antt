-- From the bytes that a closed gate shuts to the entries that they stand for.
use Rattle.std.proofs.Common.{Result, Ok, Err, OnOk, ◌≡◌, ℕ, ◌+◌, ◌-◌, ◌≤◌, List, [], ◌∷◌, ◌++◌, length, inl, inr, ⊎_elim, refl, sym, ◌∙◌, ap, subst, arith, append_assoc, append-nil, length-append}
use Rattle.std.specs.List.{sum_by}
use Rattle.std.specs.Int.{to_be_bytes, w32}
use Rattle.std.proofs.lemmas.List.Concat.{flat_map-append}
use Rattle.std.proofs.lemmas.List.Sums.{sum_by-cons, sum_by_push}
use Rattle.com_events.specs.declared.entry.Entry.{Entry}
use Rattle.com_journal.specs.Lines.{IsLine}
use Rattle.com_journal.specs.Journals.{AreLines}
use Rattle.com_journal.proofs.JournalLaws.{same_line, lines-append}
use Rattle.com_disk.specs.Logs.{Log, IsAt, IsShut, Stands, IsBeforeOrAfter, header, records, log_bytes, record_of}
use Rattle.com_disk.specs.inner.Shut.{IsShutAt, IsShutOrLonger}

-- entries have one list of lines
pub same_texts : (entries : List Entry) (a b : List (List ℕ)) → AreLines entries a → AreLines entries b → a ≡ b
same_texts [] [] [] h k = refl
same_texts (entry ∷ entries) (line ∷ a) (other ∷ b) h k =
    ap (λ (l : List ℕ). l ∷ a) (same_line entry line other h.0 k.0) ∙ ap (λ (l : List (List ℕ)). other ∷ l) (same_texts entries a b h.1 k.1)
same_texts [] (line ∷ a) b h k = absurd h
same_texts [] [] (line ∷ b) h k = absurd k
same_texts (entry ∷ entries) [] b h k = absurd h
same_texts (entry ∷ entries) (line ∷ a) [] h k = absurd k

pub record_length : (line : List ℕ) → length (record_of line) ≡ length line + 4
record_length line = omega (arith, length-append (to_be_bytes w32 (length line)) line)

records_length : (lines : List (List ℕ)) → length (records lines) ≡ sum_by (λ line. length line + 5) lines
records_length [] = refl
records_length (line ∷ lines) =
    omega (arith, length-append (1 ∷ record_of line) (records lines), record_length line, records_length lines, sum_by-cons (λ (line : List ℕ). length line + 5) line lines)

pub log_length : (version : ℕ) (lines : List (List ℕ)) → length (log_bytes version lines) ≡ 8 + sum_by (λ line. length line + 5) lines
log_length version lines = omega (arith, length-append (header version) (records lines), records_length lines)

-- one record more
pub log_push : (version : ℕ) (lines : List (List ℕ)) (line : List ℕ) → log_bytes version (lines ++ line ∷ []) ≡ log_bytes version lines ++ 1 ∷ record_of line
log_push version lines line =
    ap (λ (l : List ℕ). header version ++ l) (flat_map-append (λ line. 1 ∷ record_of line) lines (line ∷ []) ∙ ap (λ (l : List ℕ). records lines ++ l) (append-nil (1 ∷ record_of line)))
    ∙ sym (append_assoc (header version) (records lines) (1 ∷ record_of line))

pub lines_push : (entries : List Entry) (lines : List (List ℕ)) (entry : Entry) (line : List ℕ) → AreLines entries lines → IsLine entry line → AreLines (entries ++ entry ∷ []) (lines ++ line ∷ [])
lines_push entries lines entry line h k = lines-append entries (entry ∷ []) lines (line ∷ []) h (k, tt)

module _ (image : List ℕ) (version : ℕ) (entries : List Entry) (h : Stands image version entries) where
  pub stands : (c : List ℕ) → IsShut (log_bytes version h.lines) c → Stands c version entries
  stands c shut = record { known = h.known; lines = h.lines; are_lines = h.are_lines; shut = shut }

  module _ (entry : Entry) (line : List ℕ) (is_line : IsLine entry line) where
    pub stands_more : (c : List ℕ) → IsShut (log_bytes version h.lines ++ 1 ∷ record_of line) c → Stands c version (entries ++ entry ∷ [])
    stands_more c shut = record {
      known = h.known;
      lines = h.lines ++ line ∷ [];
      are_lines = lines_push entries h.lines entry line h.are_lines is_line;
      shut = subst (λ f. IsShut f c) (sym (log_push version h.lines line)) shut;
    }

    pub before_or_after : (c : List ℕ) → IsShutOrLonger (log_bytes version h.lines) (record_of line) c → IsBeforeOrAfter version entries entry c
    before_or_after c shut = ⊎_elim (λ s. inl (stands c s)) (λ s. inr (stands_more c s)) shut

module _ {D : Type 0} (content : D → List ℕ) (images : D → List ℕ → Type 0) (log : Log) (entries : List Entry) (disk : D) (h : IsAt content images log disk entries) where
  abbrev front : List ℕ
  front = log_bytes log.version h.stands.lines

  pub log_size : log.bytes ≡ length front + 1
  log_size =
      let same = same_texts entries h.length.0 h.stands.lines h.length.1 h.stands.are_lines in
      omega (arith, h.length.2, ap (λ lines. sum_by (λ line. length line + 5) lines) same, log_length log.version h.stands.lines)

  pub shut_at : IsShutAt content images (log.bytes - 1) disk front
  shut_at = record { shut = h.stands.shut; place = omega (arith, log_size); durable = h.durable }

  -- the log ends with a gate
  pub gate_within : log.bytes ≤ length (content disk)
  gate_within = omega (arith, log_size, ap length h.stands.shut.bytes, length-append front (h.stands.shut.gate ∷ h.stands.shut.rest))

  -- the log stays
  pub still_at : (new : D) → IsShutAt content images (log.bytes - 1) new front → IsAt content images log new entries
  still_at new s = record { stands = stands (content disk) log.version entries h.stands (content new) s.shut; length = h.length; durable = s.durable }

  -- the log has one entry more
  pub more_at : (new : D) (entry : Entry) (line : List ℕ) (later : Log) (n : ℕ) → IsLine entry line → IsShutAt content images n new (front ++ 1 ∷ record_of line)
      → later.version ≡ log.version → later.bytes ≡ log.bytes + (length line + 5) → IsAt content images later new (entries ++ entry ∷ [])
  more_at new entry line later n is_line s same longer = record {
    stands = subst (λ v. Stands (content new) v (entries ++ entry ∷ [])) (sym same) (stands_more (content disk) log.version entries h.stands entry line is_line (content new) s.shut);
    length = (
      h.length.0 ++ line ∷ [],
      lines_push entries h.length.0 entry line h.length.1 is_line,
      omega (arith, longer, h.length.2, sum_by_push (λ (line : List ℕ). length line + 5) h.length.0 line),
    );
    durable = s.durable;
  }

-- two facts of an Ok give a third
pub both_ok : {A E : Type 0} (P Q S : Type 0) (r : Result A E) → OnOk r P → OnOk r Q → (P → Q → S) → OnOk r S
both_ok P Q S (Ok x) p q f = f p q
both_ok P Q S (Err e) p q f = tt
