-- Bytes are the journal of one history at most, and have one fault at most.
use Rattle.std.proofs.Common.{◌≡◌, ℕ, ◌+◌, ◌≤◌, true, false, Bool, List, [], ◌∷◌, ◌++◌, length, refl, sym, ap, ◌∙◌, subst, append_assoc, arith}
use Rattle.std.proofs.lemmas.List.{append-nil}
use Rattle.std.specs.Prelude.{All}
use Rattle.std.specs.List.{AllByRecursion}
use Rattle.std.proofs.lemmas.List.Elements.{All-from_recursion}
use Rattle.std.proofs.lemmas.Option.{same_Some}
use Rattle.com_events.specs.declared.entry.Entry.{Entry}
use Rattle.com_events.specs.Calls.{HasText}
use Rattle.com_journal.specs.declared.fault.JournalKind.{JournalKind}
use Rattle.com_journal.specs.declared.fault.JournalKind.TheVariants.{BadHeader, BadLine, NoLineEnd}
use Rattle.com_journal.specs.declared.fault.JournalFault.{JournalFault}
use Rattle.com_journal.specs.Lines.{IsLine}
use Rattle.com_journal.specs.Journals.{journal_header, ended, AreLines, IsJournal}
use Rattle.com_journal.specs.Faults.{IsUnbroken, IsFirstLine, AreFront, IsRefusedLine, IsJournalFault}
use Rattle.com_journal.proofs.LineLaws.{entry-complete}
use Rattle.com_journal.proofs.Plain.{line_text, unbroken_text, same_lines, not_ended}

-- a line is of one entry, and an entry has one line
pub same_entry : (a b : Entry) (line : List ℕ) → IsLine a line → IsLine b line → a ≡ b
same_entry a b line h k = same_Some a b (sym (entry-complete line a h) ∙ entry-complete line b k)

pub same_line : (entry : Entry) (a b : List ℕ) → IsLine entry a → IsLine entry b → a ≡ b
same_line entry a b h k = h.spelled ∙ sym k.spelled

pub unbroken_line : (entry : Entry) (line : List ℕ) → IsLine entry line → IsUnbroken line
unbroken_line entry line h = unbroken_text line (line_text entry line h)

-- no line with its line feed begins another
pub no_prefix : (entry other : Entry) (line longer more : List ℕ) → IsLine entry line → IsLine other longer → longer ++ 10 ∷ [] ≡ (line ++ 10 ∷ []) ++ more → (line ≡ longer) × (more ≡ [])
no_prefix entry other line longer more h k e =
    let same = same_lines longer line [] more (unbroken_line other longer k) (unbroken_line entry line h) (e ∙ append_assoc line (10 ∷ []) more) in
    (sym same.0, sym same.1)

unbroken_header : IsUnbroken journal_header
unbroken_header = refl

-- bytes that begin with a line have one first line
pub one_first : (bytes line rest text more : List ℕ) (is_ended : Bool) → IsUnbroken line → bytes ≡ line ++ 10 ∷ rest → IsFirstLine bytes text is_ended more → (text ≡ line) × (is_ended ≡ true) × (more ≡ rest)
one_first bytes line rest text more true h e k =
    let same = same_lines text line more rest k.0 h (sym k.1 ∙ e) in
    (same.0, refl, same.1)
one_first bytes line rest text more false h e k = absurd (not_ended text line rest k.0 (sym k.1 ∙ e))

one_last : (bytes text more last left : List ℕ) → IsFirstLine bytes text false more → IsFirstLine bytes last true left → ⊥
one_last bytes text more last left h k = not_ended text last left h.0 (sym h.1 ∙ k.1)

-- lines one after another
pub ended-append : (a b : List (List ℕ)) → ended (a ++ b) ≡ ended a ++ ended b
ended-append [] b = refl
ended-append (line ∷ a) b =
    ap (λ xs. (line ++ 10 ∷ []) ++ xs) (ended-append a b) ∙ sym (append_assoc (line ++ 10 ∷ []) (ended a) (ended b))

pub lines-append : (a b : List Entry) (x y : List (List ℕ)) → AreLines a x → AreLines b y → AreLines (a ++ b) (x ++ y)
lines-append [] b [] y h k = k
lines-append (entry ∷ a) b (line ∷ x) y h k = (h.0, lines-append a b x y h.1 k)
lines-append [] b (line ∷ x) y h k = absurd h
lines-append (entry ∷ a) b [] y h k = absurd h

-- what has lines has texts
have_texts : (entries : List Entry) (lines : List (List ℕ)) → AreLines entries lines → AllByRecursion HasText entries
have_texts [] [] h = tt
have_texts (entry ∷ entries) (line ∷ lines) h = (h.0.has_text, have_texts entries lines h.1)
have_texts [] (line ∷ lines) h = absurd h
have_texts (entry ∷ entries) [] h = absurd h

pub all_have_texts : (entries : List Entry) (lines : List (List ℕ)) → AreLines entries lines → All HasText entries
all_have_texts entries lines h = All-from_recursion HasText entries (have_texts entries lines h)

-- nothing goes on after these bytes with a line of an entry
abbrev Stops : List ℕ → Type 0
Stops rest = (entry : Entry) (line more : List ℕ) → IsLine entry line → rest ≡ line ++ 10 ∷ more → ⊥

behind_line : (line : List ℕ) (lines : List (List ℕ)) (rest : List ℕ) → ended (line ∷ lines) ++ rest ≡ line ++ 10 ∷ (ended lines ++ rest)
behind_line line lines rest =
    append_assoc (line ++ 10 ∷ []) (ended lines) rest ∙ append_assoc line (10 ∷ []) (ended lines ++ rest)

-- the same bytes, split where no line goes on, are the same lines
record IsSame (a b : List Entry) (x y : List (List ℕ)) (r s : List ℕ) : Type 0 where
  entries : a ≡ b
  lines : x ≡ y
  rest : r ≡ s

same_fronts : (a b : List Entry) (x y : List (List ℕ)) (r s : List ℕ) → AreLines a x → AreLines b y → Stops r → Stops s → ended x ++ r ≡ ended y ++ s → IsSame a b x y r s
same_fronts [] [] [] [] r s h k p q e = record { entries = refl; lines = refl; rest = e }
same_fronts [] (second ∷ b) [] (line ∷ y) r s h k p q e =
    absurd (p second line (ended y ++ s) k.0 (e ∙ behind_line line y s))
same_fronts (first ∷ a) [] (line ∷ x) [] r s h k p q e =
    absurd (q first line (ended x ++ r) h.0 (sym e ∙ behind_line line x r))
same_fronts (first ∷ a) (second ∷ b) (one ∷ x) (other ∷ y) r s h k p q e =
    let same = same_lines one other (ended x ++ r) (ended y ++ s) (unbroken_line first one h.0) (unbroken_line second other k.0) (sym (behind_line one x r) ∙ (e ∙ behind_line other y s)) in
    let rest = same_fronts a b x y r s h.1 k.1 p q same.1 in
    let entry = same_entry first second other (subst (IsLine first) same.0 h.0) k.0 in
    record { entries = rw (entry, rest.entries) refl; lines = rw (same.0, rest.lines) refl; rest = rest.rest }
same_fronts [] b (line ∷ x) y r s h k p q e = absurd h
same_fronts (entry ∷ a) b [] y r s h k p q e = absurd h
same_fronts [] [] [] (line ∷ y) r s h k p q e = absurd k
same_fronts [] (entry ∷ b) [] [] r s h k p q e = absurd k
same_fronts (first ∷ a) [] (line ∷ x) (other ∷ y) r s h k p q e = absurd k
same_fronts (first ∷ a) (second ∷ b) (line ∷ x) [] r s h k p q e = absurd k

no_end : (line more : List ℕ) → [] ≡ line ++ 10 ∷ more → ⊥
no_end [] more e = cc
no_end (byte ∷ line) more e = cc

no_bytes : Stops []
no_bytes entry line more h e = no_end line more e

-- a line that is refused after the header is none of an entry
refused_stops : (kind : JournalKind) (number : ℕ) (rest : List ℕ) → 2 ≤ number → IsRefusedLine kind number rest → Stops rest
refused_stops BadHeader number rest high h = λ entry line more is e. absurd (omega (arith, h.0))
refused_stops NoLineEnd number rest high h = λ entry line more is e. one_last rest h.0 h.1 line more h.2 (unbroken_line entry line is, e)
refused_stops BadLine number rest high h = λ entry line more is e.
    let same = one_first rest line more h.1 h.2 true (unbroken_line entry line is) e h.3 in
    h.4 entry (subst (IsLine entry) (sym same.0) is)

-- a line is refused for one reason
one_kind : (a b : JournalKind) (number : ℕ) (rest : List ℕ) → IsRefusedLine a number rest → IsRefusedLine b number rest → a ≡ b
one_kind BadHeader BadHeader number rest h k = refl
one_kind NoLineEnd NoLineEnd number rest h k = refl
one_kind BadLine BadLine number rest h k = refl
one_kind BadHeader NoLineEnd number rest h k = absurd (h.1 k.0 false k.1 k.2 (k.3 h.0))
one_kind NoLineEnd BadHeader number rest h k = absurd (k.1 h.0 false h.1 h.2 (h.3 k.0))
one_kind BadHeader BadLine number rest h k = absurd (omega (arith, h.0, k.0))
one_kind BadLine BadHeader number rest h k = absurd (omega (arith, h.0, k.0))
one_kind NoLineEnd BadLine number rest h k = absurd (one_last rest h.0 h.1 k.1 k.2 h.2 k.3)
one_kind BadLine NoLineEnd number rest h k = absurd (one_last rest k.0 k.1 h.1 h.2 k.2 h.3)

-- bytes are the journal of one history
header_off : (lines : List (List ℕ)) (rest : List ℕ) → ended (journal_header ∷ lines) ++ rest ≡ journal_header ++ 10 ∷ (ended lines ++ rest)
header_off lines rest = behind_line journal_header lines rest

pub same_history : (a b : List Entry) (bytes : List ℕ) → IsJournal a bytes → IsJournal b bytes → a ≡ b
same_history a b bytes h k =
    let whole : ended (journal_header ∷ h.0) ++ [] ≡ ended (journal_header ∷ k.0) ++ [] = ap (λ xs. xs ++ []) (sym h.2 ∙ k.2) in
    let tails = same_lines journal_header journal_header (ended h.0 ++ []) (ended k.0 ++ []) unbroken_header unbroken_header (sym (header_off h.0 []) ∙ (whole ∙ header_off k.0 [])) in
    (same_fronts a b h.0 k.0 [] [] h.1 k.1 no_bytes no_bytes tails.1).entries

-- what is refused at the first line does not begin with the header
first_refused : (kind : JournalKind) (rest more : List ℕ) → IsRefusedLine kind 1 rest → rest ≡ journal_header ++ 10 ∷ more → ⊥
first_refused BadHeader rest more h e = h.1 journal_header true more (unbroken_header, e) refl
first_refused NoLineEnd rest more h e = one_last rest h.0 h.1 journal_header more h.2 (unbroken_header, e)
first_refused BadLine rest more h e = absurd (omega (arith, h.0))

-- nothing is refused where nothing is left
refused_nothing : (kind : JournalKind) (number : ℕ) → 2 ≤ number → IsRefusedLine kind number [] → ⊥
refused_nothing BadHeader number high h = absurd (omega (arith, h.0))
refused_nothing NoLineEnd number high h = absurd (omega (arith, h.2.2, ap length h.2.1))
refused_nothing BadLine number high h = no_end h.1 h.2 h.3.1

pub one_fault_at : (a b : JournalFault) → a.line ≡ b.line → a.kind ≡ b.kind → a ≡ b
one_fault_at a b line kind =
    let with_line : ℕ → JournalFault = λ n. record { line = n; kind = a.kind } in
    let with_kind : JournalKind → JournalFault = λ k. record { line = b.line; kind = k } in
    ap with_line line ∙ ap with_kind kind

-- a journal has no fault
faultless : (history : List Entry) (bytes : List ℕ) → IsJournal history bytes → (front : List (List ℕ)) (fault : JournalFault) → AreFront front → (rest : List ℕ) → bytes ≡ ended front ++ rest
    → fault.line ≡ length front + 1 → IsRefusedLine fault.kind fault.line rest → ⊥
faultless history bytes h [] fault are rest split number refused =
    let one : fault.line ≡ 1 = omega (arith, number) in
    let whole : rest ≡ journal_header ++ 10 ∷ (ended h.0 ++ []) = sym split ∙ (h.2 ∙ (sym (append-nil (ended (journal_header ∷ h.0))) ∙ header_off h.0 [])) in
    first_refused fault.kind rest (ended h.0 ++ []) (subst (λ n. IsRefusedLine fault.kind n rest) one refused) whole
faultless history bytes h (first ∷ front) fault are rest split number refused =
    let high : 2 ≤ fault.line = omega (arith, number) in
    let whole : journal_header ++ 10 ∷ (ended h.0 ++ []) ≡ first ++ 10 ∷ (ended front ++ rest) =
    sym (header_off h.0 []) ∙ (append-nil (ended (journal_header ∷ h.0)) ∙ (sym h.2 ∙ (split ∙ behind_line first front rest))) in
    let tails = same_lines journal_header first (ended h.0 ++ []) (ended front ++ rest) unbroken_header (subst IsUnbroken (sym are.0) unbroken_header) whole in
    let same = same_fronts history are.1 h.0 front [] rest h.1 are.2 no_bytes (refused_stops fault.kind fault.line rest high refused) tails.1 in
    refused_nothing fault.kind fault.line high (subst (IsRefusedLine fault.kind fault.line) (sym same.rest) refused)

pub no_fault : (history : List Entry) (bytes : List ℕ) (fault : JournalFault) → IsJournal history bytes → IsJournalFault bytes fault → ⊥
no_fault history bytes fault h f = faultless history bytes h f.front fault f.are_front f.rest f.split f.number f.refused

-- bytes have one fault
same_faults : (bytes : List ℕ) (a b : JournalFault) (f g : List (List ℕ)) (r s : List ℕ) → AreFront f → AreFront g → bytes ≡ ended f ++ r → bytes ≡ ended g ++ s
    → a.line ≡ length f + 1 → b.line ≡ length g + 1 → IsRefusedLine a.kind a.line r → IsRefusedLine b.kind b.line s → a ≡ b
same_faults bytes a b [] [] r s u v p q m n h k =
    let lines : a.line ≡ b.line = omega (arith, m, n) in
    let rest : r ≡ s = sym p ∙ q in
    one_fault_at a b lines (one_kind a.kind b.kind b.line s (subst (λ (x : List ℕ). IsRefusedLine a.kind b.line x) rest (subst (λ (i : ℕ). IsRefusedLine a.kind i r) lines h)) k)
same_faults bytes a b [] (first ∷ g) r s u v p q m n h k =
    let one : a.line ≡ 1 = omega (arith, m) in
    absurd (first_refused a.kind r (ended g ++ s) (subst (λ (i : ℕ). IsRefusedLine a.kind i r) one h) (sym p ∙ (q ∙ (behind_line first g s ∙ ap (λ line. line ++ 10 ∷ (ended g ++ s)) v.0))))
same_faults bytes a b (first ∷ f) [] r s u v p q m n h k =
    let one : b.line ≡ 1 = omega (arith, n) in
    absurd (first_refused b.kind s (ended f ++ r) (subst (λ (i : ℕ). IsRefusedLine b.kind i s) one k) (sym q ∙ (p ∙ (behind_line first f r ∙ ap (λ line. line ++ 10 ∷ (ended f ++ r)) u.0))))
same_faults bytes a b (first ∷ f) (second ∷ g) r s u v p q m n h k =
    let whole : first ++ 10 ∷ (ended f ++ r) ≡ second ++ 10 ∷ (ended g ++ s) = sym (behind_line first f r) ∙ (sym p ∙ (q ∙ behind_line second g s)) in
    let tails = same_lines first second (ended f ++ r) (ended g ++ s) (subst IsUnbroken (sym u.0) unbroken_header) (subst IsUnbroken (sym v.0) unbroken_header) whole in
    let high : 2 ≤ a.line = omega (arith, m) in
    let low : 2 ≤ b.line = omega (arith, n) in
    let same = same_fronts u.1 v.1 f g r s u.2 v.2 (refused_stops a.kind a.line r high h) (refused_stops b.kind b.line s low k) tails.1 in
    let count : length f ≡ length g = ap length same.lines in
    let lines : a.line ≡ b.line = omega (arith, m, n) in
    one_fault_at a b lines (one_kind a.kind b.kind b.line s (subst (λ (x : List ℕ). IsRefusedLine a.kind b.line x) same.rest (subst (λ (i : ℕ). IsRefusedLine a.kind i r) lines h)) k)

pub one_fault : (bytes : List ℕ) (a b : JournalFault) → IsJournalFault bytes a → IsJournalFault bytes b → a ≡ b
one_fault bytes a b h k =
    same_faults bytes a b h.front k.front h.rest k.rest h.are_front k.are_front h.split k.split h.number k.number h.refused k.refused
