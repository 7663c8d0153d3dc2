-- Writing and reading the lines of journals and scripts one after another.
use Rattle.std.proofs.Common.{◌≡◌, ℕ, ◌+◌, ◌<◌, Bool, true, false, List, [], ◌∷◌, ◌++◌, length, get_or, take, refl, sym, ap, ◌∙◌, arith, append_assoc}
use Rattle.std.specs.Prelude.{codes, All}
use Rattle.std.specs.List.{flat_map}
use Rattle.std.proofs.lemmas.List.{append-nil, flat_map_more, take_more, length_push}
use Rattle.std.proofs.lemmas.List.Elements.{All-head, All-tail}
use Rattle.com_events.specs.declared.call.Party.{Party}
use Rattle.com_events.specs.declared.call.Call.{Call}
use Rattle.com_events.specs.declared.entry.Entry.{Entry}
use Rattle.com_events.specs.Calls.{HasText}
use Rattle.com_journal.specs.declared.fault.JournalKind.TheVariants.{BadHeader}
use Rattle.com_journal.specs.declared.fault.JournalError.{JournalError}
use Rattle.com_journal.specs.declared.fault.JournalError.TheVariants as error
use Rattle.com_journal.specs.Lines.{IsCallText, IsLine}
use Rattle.com_journal.specs.Journals.{journal_header, ended, AreLines, IsJournal}
use Rattle.com_journal.specs.Scripts.{lines_of, script_header, AreCalls}
use Rattle.com_journal.specs.inner.Writing.{with_entry}
use Rattle.com_journal.specs.Faults.{IsFirstLine, IsJournalFault, Tells}
use Rattle.com_journal.specs.inner.Loops.{HasRead, IsRefusedAt, IsRefusedBehind, IsNoCall, HasReadCalls, IsBadCallBehind}
use Rattle.com_journal.proofs.LineLaws.{line_spelled, spelled-line, with_entry-line}
use Rattle.com_journal.proofs.JournalLaws.{ended-append, lines-append}
use Rattle.com_journal.proofs.FirstLines.{one_first_line, lines-first}

-- an entry's line with its line feed
abbrev pub ended_line : Entry → List ℕ
ended_line entry = line_spelled entry ++ 10 ∷ []

-- one more line after others
pub line_written : (start out : List ℕ) (entries : List Entry) (i : ℕ) (entry d : Entry) → i < length entries → entry ≡ get_or entries i d → out ≡ start ++ flat_map ended_line (take i entries)
    → with_entry out entry ++ 10 ∷ [] ≡ start ++ flat_map ended_line (take (i + 1) entries)
line_written start out entries i entry d within is so_far =
    let line : with_entry out entry ++ 10 ∷ [] ≡ out ++ ended_line entry = ap (λ xs. xs ++ 10 ∷ []) (with_entry-line out entry) ∙ append_assoc out (line_spelled entry) (10 ∷ []) in
    line ∙ (ap (λ xs. xs ++ ended_line entry) so_far
    ∙ (append_assoc start (flat_map ended_line (take i entries)) (ended_line entry)
    ∙ ap (λ xs. start ++ xs) (rw (take_more entries i d within, ← is) (flat_map_more ended_line [] (take i entries) entry))))

-- all lines of a history
record HasLines (entries : List Entry) : Type 0 where
  lines : List (List ℕ)
  are : AreLines entries lines
  same : flat_map ended_line entries ≡ ended lines

has_lines : (entries : List Entry) → All HasText entries → HasLines entries
has_lines [] h = record { lines = []; are = tt; same = refl }
has_lines (entry ∷ entries) h =
    let rest = has_lines entries (All-tail HasText entry entries h) in
    record {
      lines = line_spelled entry ∷ rest.lines;
      are = (spelled-line entry (line_spelled entry) (All-head HasText entry entries h) refl, rest.are);
      same = ap (λ xs. ended_line entry ++ xs) rest.same;
    }

pub written_journal : (entries : List Entry) (bytes : List ℕ) → All HasText entries → bytes ≡ codes "MCS-JOURNAL 1\n" ++ flat_map ended_line entries → IsJournal entries bytes
written_journal entries bytes h e =
    let all = has_lines entries h in
    (all.lines, all.are, e ∙ ap (λ xs. codes "MCS-JOURNAL 1\n" ++ xs) all.same)

behind_last : (lines : List (List ℕ)) (line rest : List ℕ) → ended (lines ++ line ∷ []) ++ rest ≡ ended lines ++ (line ++ 10 ∷ rest)
behind_last lines line rest =
    ap (λ xs. xs ++ rest) (ended-append lines (line ∷ []))
    ∙ (append_assoc (ended lines) (ended (line ∷ [])) rest
    ∙ ap (λ xs. ended lines ++ xs) (ap (λ xs. xs ++ rest) (append-nil (line ++ 10 ∷ [])) ∙ append_assoc line (10 ∷ []) rest))

-- one more line of an entry
pub one_read : (bytes : List ℕ) (entries : List Entry) (number : ℕ) (rest : List ℕ) (entry : Entry) (line : List ℕ) (is_ended : Bool) (after : List ℕ) → HasRead bytes entries number rest
    → IsFirstLine rest line is_ended after → is_ended ≡ true → IsLine entry line → HasRead bytes (entries ++ entry ∷ []) (number + 1) after
one_read bytes entries number rest entry line true after h first e is = record {
  texts = h.texts ++ line ∷ [];
  are_lines = lines-append entries (entry ∷ []) h.texts (line ∷ []) h.are_lines (is, tt);
  split = h.split ∙ (ap (λ xs. ended h.texts ++ xs) first.1 ∙ sym (behind_last h.texts line after));
  at = omega (arith, h.at, length_push h.texts line);
}
one_read bytes entries number rest entry line false after h first e is = cc

same_first : {x y : List ℕ} {xs ys : List (List ℕ)} → x ∷ xs ≡ y ∷ ys → x ≡ y
same_first e = cc

-- the header is refused
pub wrong_header : (bytes line rest : List ℕ) (is_ended : Bool) → IsFirstLine bytes line is_ended rest → (line ≡ journal_header → ⊥) → IsRefusedAt 1 bytes (record { line = 1; kind = BadHeader })
wrong_header bytes line rest is_ended first other =
    record { at = refl; refused = (refl, λ text ended more is same. other (one_first_line bytes line text rest more is_ended ended first is ∙ same)) }

-- bytes whose first line is another are no script
pub no_script_header : (bytes line rest : List ℕ) (is_ended : Bool) → IsFirstLine bytes line is_ended rest → (line ≡ script_header → ⊥) → (lines : List (List ℕ)) → lines_of bytes ≡ script_header ∷ lines → ⊥
no_script_header bytes line rest is_ended first other lines h = other (same_first (sym (lines-first bytes line rest is_ended first) ∙ h))

pub bad_line : (bytes left : List ℕ) (e : JournalError) → bytes ≡ journal_header ++ 10 ∷ left → Tells (IsRefusedBehind left) e → Tells (IsJournalFault bytes) e
bad_line bytes left (error.Refused fault) e r = record {
  front = journal_header ∷ r.read.texts;
  are_front = (refl, r.entries, r.read.are_lines);
  rest = r.rest;
  split = e ∙ ap (λ xs. journal_header ++ 10 ∷ xs) r.read.split;
  number = omega (arith, r.at, r.read.at);
  refused = r.refused;
}
bad_line bytes left (error.Memory e) same r = tt

calls-append : (a b : List (Party × Call)) (x y : List (List ℕ)) → AreCalls a x → AreCalls b y → AreCalls (a ++ b) (x ++ y)
calls-append [] b [] y h k = k
calls-append (call ∷ a) b (line ∷ x) y h k = (h.0, calls-append a b x y h.1 k)
calls-append [] b (line ∷ x) y h k = absurd h
calls-append (call ∷ a) b [] y h k = absurd h

pub one_call : (bytes : List ℕ) (calls : List (Party × Call)) (number : ℕ) (rest : List ℕ) (call : Party × Call) (line : List ℕ) (is_ended : Bool) (after : List ℕ) → HasReadCalls bytes calls number rest
    → IsFirstLine rest line is_ended after → IsCallText call.0 call.1 line → HasReadCalls bytes (calls ++ call ∷ []) (number + 1) after
one_call bytes calls number rest call line is_ended after h first is = record {
  texts = h.texts ++ line ∷ [];
  are_calls = calls-append calls (call ∷ []) h.texts (line ∷ []) h.are_calls (is, tt);
  split = h.split ∙ (ap (λ xs. h.texts ++ xs) (lines-first rest line after is_ended first) ∙ sym (append_assoc h.texts (line ∷ []) (lines_of after)));
  at = omega (arith, h.at, length_push h.texts line);
}

pub bad_call : (bytes : List ℕ) (calls : List (Party × Call)) (number : ℕ) (rest line : List ℕ) (is_ended : Bool) (after : List ℕ) (e : JournalError) → HasReadCalls bytes calls number rest
    → IsFirstLine rest line is_ended after → Tells (IsNoCall (number + 1) line) e → Tells (IsBadCallBehind bytes) e
bad_call bytes calls number rest line is_ended after (error.Refused fault) h first r = record {
  calls = calls;
  number = number;
  rest = rest;
  read = h;
  line = line;
  behind = lines_of after;
  next = lines-first rest line after is_ended first;
  no_call = r;
}
bad_call bytes calls number rest line is_ended after (error.Memory e) h first r = tt
