-- From the tokens or the fault of a part to those of the whole.
use Rattle.std.proofs.Common.{◌≡◌, ℕ, ◌+◌, ◌≤◌, List, [], ◌∷◌, ◌++◌, length, take, drop, Result, Ok, Err, refl, ap, sym, subst, ◌∙◌, append_assoc, append-nil, Bool, ◌-◌, arith}
use Rattle.std.specs.List.{slice_split}
use Rattle.std.proofs.lemmas.List.{take_all, length-drop}
use Rattle.cob_lex.specs.declared.fault.SourceFault.{SourceFault}
use Rattle.cob_lex.specs.declared.fault.SourceError.{SourceError}
use Rattle.cob_lex.specs.declared.fault.SourceError.TheVariants.{Refused, Memory}
use Rattle.cob_lex.specs.declared.token.Token.{Token}
use Rattle.cob_lex.specs.declared.token.TokenKind.{TokenKind}
use Rattle.cob_lex.specs.declared.lines.Place.{Place}
use Rattle.cob_lex.specs.declared.front.Awaited.{Awaited}
use Rattle.cob_lex.specs.declared.front.Front.TheVariants as fronts
use Rattle.cob_lex.specs.Fronts.{front_of}
use Rattle.cob_lex.specs.Lexing.{Taken, taken, lines_tokens, line_tokens, token_of, ◌>>=◌}
use Rattle.cob_lex.specs.declared.lines.LineKind.{LineKind}
use Rattle.cob_lex.specs.Characters.{is_line_feed}
use Rattle.cob_lex.specs.Lines.{IsFirstLine, Line, line_at, line_kind, paragraph_behind, place, placed, with_kinds}
use Rattle.cob_lex.specs.Answers.{IsRefusal, with_front, with_tokens}
use Rattle.cob_lex.proofs.Steps.{fronted, token_refused}

pub of_token : (awaits : Awaited) (place : Place) (at : ℕ) (bytes : List ℕ) (kind : TokenKind) (n : ℕ) (error : SourceError) → 1 ≤ length bytes → 1 ≤ n → front_of awaits bytes ≡ fronts.Token kind n → IsRefusal error (token_of place at kind (take n bytes)) → IsRefusal error (fronted awaits place at bytes)
of_token awaits place at bytes kind n (Refused fault) some long h read = token_refused awaits place at bytes kind n fault some long h read
of_token awaits place at bytes kind n (Memory error) some long h read = tt

-- an error after some tokens is that of all
no_front : (ts : List Token) (meant : Result Taken SourceFault) (fault : SourceFault) → with_front ts meant ≡ Err fault → meant ≡ Err fault
no_front ts (Ok others) fault h = cc
no_front ts (Err other) fault h = h

pub of_front : (error : SourceError) (ts us : List Token) (part whole : Result Taken SourceFault) → with_front ts part ≡ with_front us whole → IsRefusal error part → IsRefusal error whole
of_front (Refused fault) ts us part whole same h = no_front us whole fault (sym same ∙ ap (with_front ts) h)
of_front (Memory error) ts us part whole same h = tt

line_refused : (awaits : Awaited) (line : Line) (lines : List Line) (fault : SourceFault) → line_tokens awaits line.place line.bytes line.kind ≡ Err fault → lines_tokens awaits (line ∷ lines) ≡ Err fault
unfolding lines_tokens
line_refused awaits line lines fault h = ap (λ r. r >>= (λ here. lines_tokens here.awaited lines >>= (λ others. Ok (here.tokens ++ others)))) h

pub of_line : (error : SourceError) (awaits : Awaited) (line : Line) (lines all : List Line) (ts : List Token) (whole : Result (List Token) SourceFault) → all ≡ line ∷ lines → with_tokens ts (lines_tokens awaits all) ≡ whole → IsRefusal error (line_tokens awaits line.place line.bytes line.kind) → IsRefusal error whole
of_line (Refused fault) awaits line lines all ts whole is same h = sym same ∙ ap (λ ls. with_tokens ts (lines_tokens awaits ls)) is ∙ ap (with_tokens ts) (line_refused awaits line lines fault h)
of_line (Memory error) awaits line lines all ts whole is same h = tt

tokens_in : Result Taken SourceFault → List Token
tokens_in (Ok t) = t.tokens
tokens_in (Err fault) = []

awaited_in : Awaited → Result Taken SourceFault → Awaited
awaited_in other (Ok t) = t.awaited
awaited_in other (Err fault) = other

joined : (ts xs : List Token) (others : Result (List Token) SourceFault) → with_tokens ts (others >>= (λ others. Ok (xs ++ others))) ≡ with_tokens (ts ++ xs) others
joined ts xs (Ok others) = ap Ok (sym (append_assoc ts xs others))
joined ts xs (Err fault) = refl

-- the tokens of one line, and what comes after them
line_taken : (here : Result Taken SourceFault) (others : Awaited → Result (List Token) SourceFault) (ts us : List Token) (next : Awaited) → with_front ts here ≡ Ok (taken us next) → with_tokens ts (here >>= (λ here. others here.awaited >>= (λ others. Ok (here.tokens ++ others)))) ≡ with_tokens us (others next)
unfolding tokens_in awaited_in
line_taken (Ok t) others ts us next h =
    let behind : t.awaited ≡ next = ap (awaited_in next) h in
    let all : ts ++ t.tokens ≡ us = ap tokens_in h in
    joined ts t.tokens (others t.awaited) ∙ ap (λ a. with_tokens (ts ++ t.tokens) (others a)) behind ∙ ap (λ zs. with_tokens zs (others next)) all
line_taken (Err fault) others ts us next h = cc

pub with_line : (awaits next : Awaited) (line : Line) (lines all : List Line) (ts us : List Token) → all ≡ line ∷ lines → with_front ts (line_tokens awaits line.place line.bytes line.kind) ≡ Ok (taken us next) → with_tokens ts (lines_tokens awaits all) ≡ with_tokens us (lines_tokens next lines)
unfolding lines_tokens
with_line awaits next line lines all ts us is h = ap (λ ls. with_tokens ts (lines_tokens awaits ls)) is ∙ line_taken (line_tokens awaits line.place line.bytes line.kind) (λ next. lines_tokens next lines) ts us next h

-- the lines that are left
abbrev pub left : Bool → Place → List ℕ → List Line
left in_paragraph place rest = with_kinds in_paragraph (placed place.line place.start (slice_split is_line_feed rest))

abbrev pub next_place : Place → ℕ → Place
next_place here n = place (here.line + 1) (here.start + n)

first_of : (in_paragraph : Bool) (here : Place) (rest line : List ℕ) (n : ℕ) → IsFirstLine rest line n → left in_paragraph here rest ≡ line_at in_paragraph (here, line) ∷ left (paragraph_behind in_paragraph (line_kind in_paragraph line)) (next_place here n) (drop n rest)
first_of in_paragraph here rest line n first = ap (with_kinds in_paragraph) (first here.line here.start)

pub first_refused : (error : SourceError) (awaits : Awaited) (in_paragraph : Bool) (here : Place) (rest line : List ℕ) (n : ℕ) (kind : LineKind) (ts : List Token) (whole : Result (List Token) SourceFault)
    → IsFirstLine rest line n → kind ≡ line_kind in_paragraph line → with_tokens ts (lines_tokens awaits (left in_paragraph here rest)) ≡ whole → IsRefusal error (line_tokens awaits here line kind) → IsRefusal error whole
first_refused error awaits in_paragraph here rest line n kind ts whole first is same h =
    let P : LineKind → Type 0 = λ k. IsRefusal error (line_tokens awaits here line k) in
    of_line error awaits (line_at in_paragraph (here, line)) _ _ ts whole (first_of in_paragraph here rest line n first) same (subst P is h)

pub first_taken : (awaits next : Awaited) (in_paragraph behind : Bool) (here : Place) (rest line others : List ℕ) (n : ℕ) (kind : LineKind) (ts us : List Token) (whole : Result (List Token) SourceFault)
    → IsFirstLine rest line n → kind ≡ line_kind in_paragraph line → behind ≡ paragraph_behind in_paragraph kind → others ≡ drop n rest
    → with_tokens ts (lines_tokens awaits (left in_paragraph here rest)) ≡ whole → with_front ts (line_tokens awaits here line kind) ≡ Ok (taken us next)
    → with_tokens us (lines_tokens next (left behind (next_place here n) others)) ≡ whole
first_taken awaits next in_paragraph behind here rest line others n kind ts us whole first is goes_on tail same h =
    let P : LineKind → Type 0 = λ k. with_front ts (line_tokens awaits here line k) ≡ Ok (taken us next) in
    ap (λ xs. with_tokens us (lines_tokens next (left behind (next_place here n) xs))) tail
    ∙ ap (λ b. with_tokens us (lines_tokens next (left b (next_place here n) (drop n rest)))) (goes_on ∙ ap (paragraph_behind in_paragraph) is)
    ∙ sym (with_line awaits next (line_at in_paragraph (here, line)) _ _ ts us (first_of in_paragraph here rest line n first) (subst P is h))
    ∙ same

-- nothing is left of a source
pub lines_end : (ts : List Token) (awaits : Awaited) (in_paragraph : Bool) (here : Place) (rest : List ℕ) (whole : Result (List Token) SourceFault) → length rest ≡ 0 → with_tokens ts (lines_tokens awaits (left in_paragraph here rest)) ≡ whole → whole ≡ Ok ts
unfolding lines_tokens
lines_end ts awaits in_paragraph here [] whole none same = sym same ∙ ap Ok (append-nil ts)
lines_end ts awaits in_paragraph here (x ∷ xs) whole none same = absurd (omega arith)

-- what `&rest[n..]` is
pub tail_slice : (xs : List ℕ) (n : ℕ) → take (length xs - n) (drop n xs) ≡ drop n xs
tail_slice xs n = take_all (length xs - n) (drop n xs) (omega (arith, length-drop n xs))

pub left_length : (start n size : ℕ) (xs : List ℕ) → n ≤ length xs → start + length xs ≡ size → start + n + length (take (length xs - n) (drop n xs)) ≡ size
left_length start n size xs within all = omega (arith, ap length (tail_slice xs n), length-drop n xs)
