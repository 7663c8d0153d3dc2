-- Spelled tokens stand in order: each at a later line than the one before it, or in its line at a
-- later column.
use Rattle.std.proofs.Common.{◌≡◌, ℕ, zero, suc, ◌+◌, ◌≤◌, Bool, true, false, ◌&&◌, ◌||◌, ◌==◌, nat_lt, cond, List, [], ◌∷◌, ◌++◌, length, drop, ap, subst, ◌∙◌, arith, append-nil, Ok}
use Rattle.std.proofs.lemmas.Grind.{common_steps}
use Rattle.std.proofs.lemmas.Bool.Decides.{nat_tests}
use Rattle.cob_lex.specs.declared.token.Token.{Token}
use Rattle.cob_lex.specs.declared.lines.Place.{Place}
use Rattle.cob_lex.specs.declared.lines.LineKind.{LineKind}
use Rattle.cob_lex.specs.declared.lines.LineKind.TheVariants as kinds
use Rattle.cob_lex.specs.declared.front.Awaited.{Awaited}
use Rattle.cob_lex.specs.declared.front.Awaited.TheVariants as awaited
use Rattle.cob_lex.specs.Characters.{is_line_feed, is_return, without_last}
use Rattle.cob_lex.specs.Lines.{line_kind, paragraph_behind, place, placed, source_lines, with_kinds}
use Rattle.std.specs.List.{slice_split}
use Rattle.cob_lex.specs.Lexing.{tokens_of}
use Rattle.cob_lex.specs.Order.{AreInOrder, StandsBeforeAll}
use Rattle.cob_lex.specs.Spelled.{AreLines, IsLine, IsSpelled, after_spacing, after_token, ends}
use Rattle.cob_lex.proofs.SpelledPlaces.{first_of, none_of}
use Rattle.cob_lex.proofs.SpelledTokens.{lines_spelled}

-- a place stands before another
abbrev is_past : ℕ → ℕ → ℕ → ℕ → Bool
is_past line column m d = nat_lt line m || (line == m && nat_lt column d)

-- Tokens after a place, each after the one before, up to a line.
abbrev AreFrom : ℕ → ℕ → List Token → ℕ → Type 0
AreFrom line column [] last = line ≤ last
AreFrom line column (t ∷ ts) last = (is_past line column t.line t.column ≡ true) × AreFrom t.line t.column ts last

later_place : (l c m d p e : ℕ) → is_past l c m d ≡ true → is_past m d p e ≡ true → is_past l c p e ≡ true
later_place l c m d p e h k = grind (arith, common_steps, nat_tests)

later_column : (l c d m e : ℕ) → c ≤ d → is_past l d m e ≡ true → is_past l c m e ≡ true
later_column l c d m e le h = grind (arith, common_steps, nat_tests)

later_line : (l c last m e : ℕ) → l ≤ last → is_past (last + 1) 0 m e ≡ true → is_past l c m e ≡ true
later_line l c last m e le h = grind (arith, common_steps, nat_tests)

next_column : (l c : ℕ) → is_past l c l (c + 1) ≡ true
next_column l c = grind (arith, common_steps, nat_tests)

from_column : (l c d : ℕ) (ts : List Token) (last : ℕ) → c ≤ d → AreFrom l d ts last → AreFrom l c ts last
from_column l c d [] last le h = h
from_column l c d (t ∷ ts) last le h = (later_column l c d t.line t.column le h.0, h.1)

to_line : (l c : ℕ) (ts : List Token) (last end : ℕ) → last ≤ end → AreFrom l c ts last → AreFrom l c ts end
to_line l c [] last end le h = omega (arith, h, le)
to_line l c (t ∷ ts) last end le h = (h.0, to_line t.line t.column ts last end le h.1)

-- tokens of later lines after those of a line
join : (l c : ℕ) (xs ys : List Token) (last end : ℕ) → last ≤ end → AreFrom l c xs last → AreFrom (last + 1) 0 ys end → AreFrom l c (xs ++ ys) end
join l c [] [] last end le h k = omega (arith, h, le)
join l c [] (y ∷ ys) last end le h k = (later_line l c last y.line y.column h k.0, k.1)
join l c (x ∷ xs) ys last end le h k = (h.0, join x.line x.column xs ys last end le h.1 k)

-- the tokens of a line
text_from : {awaits next : Awaited} {place : Place} {at : ℕ} {rest : List ℕ} {tokens : List Token} → IsSpelled awaits place at rest tokens next → AreFrom place.line at tokens place.line
text_from {place = place} ends = omega arith
text_from {place = place} {at = at} (after_spacing {tokens = tokens} spaces spelled) = from_column place.line at (at + 1) tokens place.line (omega arith) (text_from spelled)
text_from {place = place} {at = at} (after_token {token = token} {tokens = tokens} written is spelled) =
    let line : token.line ≡ place.line = ap (λ t. t.line) is.stands in
    let column : token.column ≡ at + 1 = ap (λ t. t.column) is.stands in
    let some : 1 ≤ length token.text = is.some in
    let others : AreFrom place.line (at + 1) tokens place.line = from_column place.line (at + 1) (at + length token.text) tokens place.line (omega (arith, some)) (text_from spelled) in
    rw (line, column) (next_column place.line at, others)

line_from : (kind : LineKind) (awaits next : Awaited) (number start : ℕ) (bytes : List ℕ) (tokens : List Token) → IsLine kind awaits (place number start) bytes tokens next → AreFrom number 0 tokens number
line_from kinds.Comment awaits next number start bytes tokens (none, same) = rw none (omega arith)
line_from kinds.CommentParagraph awaits next number start bytes tokens (none, same) = rw none (omega arith)
line_from kinds.BadColumn awaits next number start bytes tokens h = absurd h
line_from kinds.Text awaits next number start bytes tokens h = from_column number 0 7 tokens number (omega arith) (text_from h)

last_from : (in_paragraph : Bool) (awaits : Awaited) (number start : ℕ) (part : List ℕ) (tokens : List Token) (b : Bool) → AreLines awaits (with_kinds in_paragraph (cond b [] ((place number start, part) ∷ []))) tokens → AreFrom number 0 tokens number
last_from in_paragraph awaits number start part tokens true lines = rw (none_of lines) (omega arith)
last_from in_paragraph awaits number start part tokens false lines =
    let f = first_of lines in
    let alone : tokens ≡ f.here = f.all ∙ ap (λ ts. f.here ++ ts) (none_of f.behind) ∙ append-nil f.here in
    rw alone (line_from (line_kind in_paragraph part) awaits f.next number start part f.here f.first)

lines_from : (in_paragraph : Bool) (awaits : Awaited) (number start : ℕ) (parts : List (List ℕ)) (tokens : List Token) → AreLines awaits (with_kinds in_paragraph (placed number start parts)) tokens → AreFrom number 0 tokens (number + length parts)
lines_from in_paragraph awaits number start [] tokens lines = rw (none_of lines) (omega arith)
lines_from in_paragraph awaits number start (part ∷ []) tokens lines = to_line number 0 tokens number (number + 1) (omega arith) (last_from in_paragraph awaits number start part tokens (length part == 0) lines)
lines_from in_paragraph awaits number start (part ∷ next ∷ parts) tokens lines =
    let f = first_of lines in
    let line : List ℕ = without_last is_return part in
    let kind : LineKind = line_kind in_paragraph line in
    let here = line_from kind awaits f.next number start line f.here f.first in
    let others = lines_from (paragraph_behind in_paragraph kind) f.next (number + 1) (start + length part + 1) (next ∷ parts) f.others f.behind in
    let size : number + 1 + length (next ∷ parts) ≡ number + length (part ∷ next ∷ parts) = omega arith in
    let P : ℕ → Type 0 = λ end. AreFrom (number + 1) 0 f.others end in
    rw (f.all) (join number 0 f.here f.others number (number + length (part ∷ next ∷ parts)) (omega arith) here (subst P size others))

-- each stands before all that follow it
before_all : (t : Token) (l c : ℕ) (us : List Token) (last : ℕ) → ((m d : ℕ) → is_past l c m d ≡ true → is_past t.line t.column m d ≡ true) → AreFrom l c us last → StandsBeforeAll t us
before_all t l c [] last later h = tt
before_all t l c (u ∷ us) last later h =
    (later u.line u.column h.0, before_all t u.line u.column us last (λ m d k. later_place t.line t.column u.line u.column m d (later u.line u.column h.0) k) h.1)

all_in_order : (l c : ℕ) (ts : List Token) (last : ℕ) → AreFrom l c ts last → AreInOrder ts
all_in_order l c [] last h = tt
all_in_order l c (t ∷ ts) last h = (before_all t t.line t.column ts last (λ m d k. k) h.1, all_in_order t.line t.column ts last h.1)

pub tokens_in_order : (source : List ℕ) (tokens : List Token) → tokens_of source ≡ Ok tokens → AreInOrder tokens
tokens_in_order source tokens h =
    let parts : List (List ℕ) = slice_split is_line_feed source in
    let spelled = lines_spelled (source_lines source) awaited.Nothing tokens h in
    all_in_order 1 0 tokens (1 + length parts) (lines_from false awaited.Nothing 1 0 parts tokens spelled)

-- so are those that are left after some
pub order_behind : (n : ℕ) (ts : List Token) → AreInOrder ts → AreInOrder (drop n ts)
order_behind zero ts h = h
order_behind (suc n) [] h = tt
order_behind (suc n) (t ∷ ts) h = order_behind n ts h.1
