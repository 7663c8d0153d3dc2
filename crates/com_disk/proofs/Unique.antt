-- Bytes stand for one list of entries at most, or are no log because of one place.
use Rattle.std.proofs.Common.{◌≡◌, ◌≢◌, ◌⊎◌, ℕ, ◌+◌, ◌^◌, ◌<◌, ◌≤◌, List, [], ◌∷◌, ◌++◌, length, get_or, take, drop, inl, inr, ⊎_elim, refl, sym, ◌∙◌, ap, subst, arith, append_assoc, append-nil, length-append}
use Rattle.std.specs.List.{AllByRecursion, sum_by}
use Rattle.std.specs.Int.{to_be_bytes, from_be_bytes, w32}
use Rattle.std.proofs.lemmas.List.{take_at, drop_at}
use Rattle.std.proofs.lemmas.Nat.{from_be_bytes-to_be_bytes_4}
use Rattle.com_events.specs.declared.entry.Entry.{Entry}
use Rattle.com_events.specs.Calls.{HasText}
use Rattle.com_journal.specs.Lines.{IsLine}
use Rattle.com_journal.specs.Journals.{AreLines}
use Rattle.com_journal.specs.Versions.{IsVersion}
use Rattle.com_journal.proofs.JournalLaws.{same_entry}
use Rattle.com_journal.proofs.LineLengths.{short_line}
use Rattle.com_disk.specs.Logs.{Stands, header, records, log_bytes, record_of}
use Rattle.com_disk.specs.Refusals.{IsHeaderless, IsBadRecord, IsNoLog}
use Rattle.com_disk.proofs.Entries.{log_length}

abbrev pub IsShort : List ℕ → Type 0
IsShort line = length line < 2 ^ 32

-- records that begin the same bytes are the same
pub record_split : (line other after rest : List ℕ) → IsShort line → IsShort other → record_of line ++ after ≡ record_of other ++ rest → (line ≡ other) × (after ≡ rest)
record_split line other after rest short small e =
    let size = to_be_bytes w32 (length line) in
    let same = to_be_bytes w32 (length other) in
    let whole : size ++ (line ++ after) ≡ same ++ (other ++ rest) = sym (append_assoc size line after) ∙ e ∙ append_assoc same other rest in
    let digits : size ≡ same = sym (take_at size (line ++ after) 4 refl) ∙ ap (λ (l : List ℕ). take 4 l) whole ∙ take_at same (other ++ rest) 4 refl in
    let long : length line ≡ length other = sym (from_be_bytes-to_be_bytes_4 (length line) short) ∙ ap (λ (l : List ℕ). from_be_bytes w32 l) digits ∙ from_be_bytes-to_be_bytes_4 (length other) small in
    let tails : line ++ after ≡ other ++ rest = sym (drop_at size (line ++ after) 4 refl) ∙ ap (λ (l : List ℕ). drop 4 l) whole ∙ drop_at same (other ++ rest) 4 refl in (
      sym (take_at line after (length line) refl) ∙ ap (λ (l : List ℕ). take (length line) l) tails ∙ take_at other rest (length line) (sym long),
      sym (drop_at line after (length line) refl) ∙ ap (λ (l : List ℕ). drop (length line) l) tails ∙ drop_at other rest (length line) (sym long),
    )

-- the others are these lines and more, whose records begin the rest
record Longer (lines others : List (List ℕ)) (rest left : List ℕ) : Type 0 where
  more : List (List ℕ)
  lines_are : others ≡ lines ++ more
  rest_is : rest ≡ records more ++ left

next_longer : (line other : List ℕ) (lines others : List (List ℕ)) (rest left : List ℕ) → line ≡ other → Longer lines others rest left → Longer (line ∷ lines) (other ∷ others) rest left
next_longer line other lines others rest left same h = record {
  more = h.more;
  lines_are = ap (λ (l : List (List ℕ)). other ∷ l) h.lines_are ∙ ap (λ (l : List ℕ). l ∷ (lines ++ h.more)) (sym same);
  rest_is = h.rest_is;
}

-- of two splits of the same bytes into records and a rest one goes on where the other ends
fronts : (lines others : List (List ℕ)) (rest left : List ℕ) → AllByRecursion IsShort lines → AllByRecursion IsShort others → records lines ++ rest ≡ records others ++ left
    → Longer lines others rest left ⊎ Longer others lines left rest
fronts [] others rest left h k e = inl (record { more = others; lines_are = refl; rest_is = e })
fronts (line ∷ lines) [] rest left h k e = inr (record { more = line ∷ lines; lines_are = refl; rest_is = sym e })
fronts (line ∷ lines) (other ∷ others) rest left h k e =
    let behind : (record_of line ++ records lines) ++ rest ≡ (record_of other ++ records others) ++ left = ap (λ (l : List ℕ). drop 1 l) e in
    let parts = record_split line other (records lines ++ rest) (records others ++ left) h.0 k.0
    (sym (append_assoc (record_of line) (records lines) rest) ∙ behind ∙ append_assoc (record_of other) (records others) left) in
    ⊎_elim
    (λ l. inl (next_longer line other lines others rest left parts.0 l))
    (λ l. inr (next_longer other line others lines left rest (sym parts.0) l))
    (fronts lines others rest left h.1 k.1 parts.1)

pub lines_short : (entries : List Entry) (lines : List (List ℕ)) → AreLines entries lines → AllByRecursion IsShort lines
lines_short [] [] h = tt
lines_short (entry ∷ entries) (line ∷ lines) h = (short_line entry line h.0, lines_short entries lines h.1)
lines_short [] (line ∷ lines) h = absurd h
lines_short (entry ∷ entries) [] h = absurd h

-- what has lines has texts
pub have_texts : (entries : List Entry) (lines : List (List ℕ)) → AreLines entries lines → AllByRecursion HasText entries
have_texts [] [] h = tt
have_texts (entry ∷ entries) (line ∷ lines) h = (h.0.has_text, have_texts entries lines h.1)
have_texts [] (line ∷ lines) h = absurd h
have_texts (entry ∷ entries) [] h = absurd h

-- each of the lines is of an entry
line_of : (entries : List Entry) (front : List (List ℕ)) (line : List ℕ) (more : List (List ℕ)) → AreLines entries (front ++ line ∷ more) → (entry : Entry) × IsLine entry line
line_of (entry ∷ entries) [] line more h = (entry, h.0)
line_of (entry ∷ entries) (first ∷ front) line more h = line_of entries front line more h.1
line_of [] [] line more h = absurd h
line_of [] (first ∷ front) line more h = absurd h

-- lines are of one list of entries
same_entries : (a b : List Entry) (lines : List (List ℕ)) → AreLines a lines → AreLines b lines → a ≡ b
same_entries [] [] [] h k = refl
same_entries (entry ∷ a) (other ∷ b) (line ∷ lines) h k =
    ap (λ (e : Entry). e ∷ a) (same_entry entry other line h.0 k.0) ∙ ap (λ (l : List Entry). other ∷ l) (same_entries a b lines h.1 k.1)
same_entries [] b (line ∷ lines) h k = absurd h
same_entries [] (other ∷ b) [] h k = absurd k
same_entries (entry ∷ a) b [] h k = absurd h
same_entries (entry ∷ a) [] (line ∷ lines) h k = absurd k

-- behind the headers
behind_header : (version other : ℕ) (lines others : List (List ℕ)) (rest left : List ℕ) → log_bytes version lines ++ rest ≡ log_bytes other others ++ left → records lines ++ rest ≡ records others ++ left
behind_header version other lines others rest left e =
    sym (drop_at (header version) (records lines ++ rest) 8 refl)
    ∙ ap (λ (l : List ℕ). drop 8 l) (sym (append_assoc (header version) (records lines) rest) ∙ e ∙ append_assoc (header other) (records others) left)
    ∙ drop_at (header other) (records others ++ left) 8 refl

abbrev first_of : List ℕ → ℕ
first_of bytes = get_or bytes 0 0

-- a closed gate is followed by no record
no_more : (more : List (List ℕ)) (gate : ℕ) (rest left : List ℕ) → gate ≢ 1 → gate ∷ rest ≡ records more ++ left → more ≡ []
no_more [] gate rest left closed e = refl
no_more (line ∷ more) gate rest left closed e = absurd (closed (ap first_of e))

-- before an open gate are open gates alone
open_first : (more : List (List ℕ)) (gate : ℕ) (rest left : List ℕ) → gate ∷ rest ≡ records more ++ 1 ∷ left → gate ≡ 1
open_first [] gate rest left e = ap first_of e
open_first (line ∷ more) gate rest left e = ap first_of e

same_more : (image : List ℕ) (version other : ℕ) (entries others : List Entry) (h : Stands image version entries) (k : Stands image other others) → Longer h.lines k.lines (h.shut.gate ∷ h.shut.rest) (k.shut.gate ∷ k.shut.rest) → entries ≡ others
same_more image version other entries others h k l =
    let none = no_more l.more h.shut.gate h.shut.rest (k.shut.gate ∷ k.shut.rest) h.shut.closed l.rest_is in
    let same : k.lines ≡ h.lines = l.lines_are ∙ ap (λ (m : List (List ℕ)). h.lines ++ m) none ∙ append-nil h.lines in
    same_entries entries others h.lines h.are_lines (subst (AreLines others) same k.are_lines)

-- bytes stand for one list of entries
pub same_log : (image : List ℕ) (version other : ℕ) (entries others : List Entry) → Stands image version entries → Stands image other others → (version ≡ other) × (entries ≡ others)
same_log image version other entries others h k =
    let e = behind_header version other h.lines k.lines _ _ (sym h.shut.bytes ∙ k.shut.bytes) in (
      h.known ∙ sym k.known,
      ⊎_elim (λ l. same_more image version other entries others h k l) (λ l. sym (same_more image other version others entries k h l))
          (fronts h.lines k.lines (h.shut.gate ∷ h.shut.rest) (k.shut.gate ∷ k.shut.rest) (lines_short entries h.lines h.are_lines) (lines_short others k.lines k.are_lines) e),
    )

-- a record where there is none
has_record : (image : List ℕ) (at : ℕ) (b : IsBadRecord image at) (entries : List Entry) (lines : List (List ℕ)) (left : List ℕ) → AreLines entries lines → 1 ≤ length left
    → (more : List (List ℕ)) → lines ≡ b.lines ++ more → 1 ∷ b.rest ≡ records more ++ left → more ≡ []
has_record image at b entries lines left are some [] is e = refl
has_record image at b entries lines left are some (line ∷ more) is e =
    let found = line_of entries b.lines line more (subst (AreLines entries) is are) in
    let behind : b.rest ≡ (record_of line ++ records more) ++ left = ap (λ (l : List ℕ). drop 1 l) e in
    absurd (b.no_record found.0 line (records more ++ left) found.1 (omega (arith, some, length-append (records more) left)) (behind ∙ append_assoc (record_of line) (records more) left))

shorter_log : (image : List ℕ) (version at : ℕ) (entries : List Entry) (h : Stands image version entries) (b : IsBadRecord image at) → Longer b.lines h.lines (1 ∷ b.rest) (h.shut.gate ∷ h.shut.rest) → ⊥
shorter_log image version at entries h b l =
    let none = has_record image at b entries h.lines (h.shut.gate ∷ h.shut.rest) h.are_lines (omega arith) l.more l.lines_are l.rest_is in
    let gate : 1 ∷ b.rest ≡ h.shut.gate ∷ h.shut.rest = subst (λ (m : List (List ℕ)). 1 ∷ b.rest ≡ records m ++ (h.shut.gate ∷ h.shut.rest)) none l.rest_is in
    h.shut.closed (sym (ap first_of gate))

no_bad_record : (image : List ℕ) (version at : ℕ) (entries : List Entry) → Stands image version entries → IsBadRecord image at → ⊥
no_bad_record image version at entries h b =
    let e = behind_header version b.version h.lines b.lines _ _ (sym h.shut.bytes ∙ b.split) in
    ⊎_elim
    (λ l. h.shut.closed (open_first l.more h.shut.gate h.shut.rest b.rest l.rest_is))
    (λ l. shorter_log image version at entries h b l)
    (fronts h.lines b.lines (h.shut.gate ∷ h.shut.rest) (1 ∷ b.rest) (lines_short entries h.lines h.are_lines) (lines_short b.entries b.lines b.are_lines) e)

split_first : (bytes : List ℕ) → 1 ≤ length bytes → (first : ℕ) × (rest : List ℕ) × (bytes ≡ first ∷ rest)
split_first [] some = absurd (omega (arith, some))
split_first (first ∷ rest) some = (first, rest, refl)

-- records and a rest after a header have a gate there
pub has_header : (bytes : List ℕ) (version : ℕ) (lines : List (List ℕ)) (rest : List ℕ) → IsVersion version → 1 ≤ length rest → bytes ≡ log_bytes version lines ++ rest → IsHeaderless bytes → ⊥
has_header bytes version lines rest known some e none =
    let whole = split_first (records lines ++ rest) (omega (arith, some, length-append (records lines) rest)) in
    none version whole.0 whole.1 known (e ∙ append_assoc (header version) (records lines) rest ∙ ap (λ (l : List ℕ). header version ++ l) whole.2)

-- bytes that stand for entries are no log at no place
pub no_fault : (image : List ℕ) (version at : ℕ) (entries : List Entry) → Stands image version entries → IsNoLog image at → ⊥
no_fault image version at entries h fault =
    ⊎_elim (λ f. has_header image version h.lines (h.shut.gate ∷ h.shut.rest) h.known (omega arith) h.shut.bytes f.0) (λ b. no_bad_record image version at entries h b) fault

same_bad : (image : List ℕ) (at other : ℕ) (a : IsBadRecord image at) (b : IsBadRecord image other) → Longer a.lines b.lines (1 ∷ a.rest) (1 ∷ b.rest) → at ≡ other
same_bad image at other a b l =
    let none = has_record image at a b.entries b.lines (1 ∷ b.rest) b.are_lines (omega arith) l.more l.lines_are l.rest_is in
    let same : b.lines ≡ a.lines = l.lines_are ∙ ap (λ (m : List (List ℕ)). a.lines ++ m) none ∙ append-nil a.lines in
    omega (arith, a.gate, b.gate, log_length a.version a.lines, log_length b.version b.lines, ap (λ lines. sum_by (λ line. length line + 5) lines) same)

one_bad : (image : List ℕ) (at other : ℕ) → IsBadRecord image at → IsBadRecord image other → at ≡ other
one_bad image at other a b =
    let e = behind_header a.version b.version a.lines b.lines _ _ (sym a.split ∙ b.split) in
    ⊎_elim (λ l. same_bad image at other a b l) (λ l. sym (same_bad image other at b a l))
    (fronts a.lines b.lines (1 ∷ a.rest) (1 ∷ b.rest) (lines_short a.entries a.lines a.are_lines) (lines_short b.entries b.lines b.are_lines) e)

-- bytes are no log because of one place
pub one_place : (image : List ℕ) (at other : ℕ) → IsNoLog image at → IsNoLog image other → at ≡ other
one_place image at other (inl h) (inl k) = h.1 ∙ sym k.1
one_place image at other (inl h) (inr b) = absurd (has_header image b.version b.lines (1 ∷ b.rest) b.known (omega arith) b.split h.0)
one_place image at other (inr b) (inl k) = absurd (has_header image b.version b.lines (1 ∷ b.rest) b.known (omega arith) b.split k.0)
one_place image at other (inr a) (inr b) = one_bad image at other a b
