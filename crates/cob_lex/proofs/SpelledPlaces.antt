-- Spelled tokens are slices of their source, in order.
use Rattle.std.proofs.Common.{◌≡◌, ℕ, zero, suc, ◌+◌, ◌-◌, ◌<◌, ◌≤◌, Bool, true, false, cond, List, [], ◌∷◌, ◌++◌, length, take, drop, slice_index, inl, inr, refl, ap, sym, subst, ◌∙◌, arith, append_assoc, append-nil, length-append, ◌==◌, nat_lt, Ok}
use Rattle.std.specs.List.{All, join_with_byte, slice_split}
use Rattle.std.proofs.lemmas.Bool.Decides.{nat_tests}
use Rattle.std.proofs.lemmas.List.{length-drop, length-take, take-append-drop, drop_all}
use Rattle.std.proofs.lemmas.List.Elements.{All-append, All-cons}
use Rattle.std.proofs.lemmas.List.Splits.{join_with_byte-slice_split}
use Rattle.cob_lex.specs.declared.token.Token.{Token}
use Rattle.cob_lex.specs.declared.lines.Place.{Place}
use Rattle.cob_lex.specs.declared.lines.LineKind.{LineKind}
use Rattle.cob_lex.specs.declared.lines.LineKind.TheVariants as kinds
use Rattle.cob_lex.specs.declared.front.Awaited.{Awaited}
use Rattle.cob_lex.specs.declared.front.Awaited.TheVariants as awaited
use Rattle.cob_lex.specs.Characters.{is_line_feed, is_return, without_last}
use Rattle.cob_lex.specs.Lines.{Line, line_kind, paragraph_behind, place, placed, source_lines, text_of, with_kinds}
use Rattle.cob_lex.specs.Lexing.{tokens_of}
use Rattle.cob_lex.specs.Spelled.{AreBetween, AreLines, AreTokens, IsLine, IsSlice, IsSpelled, after_line, after_spacing, after_token, ends, no_line}
use Rattle.cob_lex.proofs.Longest.{chosen}
use Rattle.cob_lex.proofs.LongestLiteral.{drop_before, take_before}
use Rattle.cob_lex.proofs.SpelledTokens.{lines_spelled}

-- a rest of a source stands at a place
pub Stands : List ℕ → ℕ → List ℕ → Type 0
Stands source start rest = (more : List ℕ) × (drop start source ≡ rest ++ more)

drop_drop : (m n : ℕ) (xs : List ℕ) → drop n (drop m xs) ≡ drop (m + n) xs
drop_drop zero n xs = ap (λ k. drop k xs) (omega arith)
drop_drop (suc m) n [] = drop_all n [] (omega arith) ∙ sym (drop_all (suc m + n) [] (omega arith))
drop_drop (suc m) n (x ∷ xs) = let e : suc (m + n) ≡ suc m + n = omega arith in drop_drop m n xs ∙ ap (λ k. drop k (x ∷ xs)) e

-- what is after the beginning of such a rest
stands_behind : (source : List ℕ) (start n : ℕ) (front behind : List ℕ) → n ≡ start + length front → Stands source start (front ++ behind) → Stands source n behind
unfolding Stands
stands_behind source start n front behind is (more, h) =
    (more, ap (λ k. drop k source) is ∙ sym (drop_drop start (length front) source) ∙ ap (drop (length front)) (h ∙ append_assoc front behind more) ∙ drop_before front (behind ++ more))

-- and its front
stands_front : (source : List ℕ) (start : ℕ) (front behind : List ℕ) → Stands source start (front ++ behind) → Stands source start front
unfolding Stands
stands_front source start front behind (more, h) = (behind ++ more, h ∙ append_assoc front behind more)

slice_of : (source : List ℕ) (start past : ℕ) (text : List ℕ) → past ≡ start + length text → Stands source start text → take (past - start) (drop start source) ≡ text
unfolding Stands
slice_of source start past text is (more, h) =
    let size : past - start ≡ length text = omega arith in
    ap (take (past - start)) h ∙ ap (λ n. take n (text ++ more)) size ∙ take_before text more

-- spans in order
between_from : (low from to : ℕ) (tokens : List Token) → low ≤ from → AreBetween from tokens to → AreBetween low tokens to
between_from low from to [] le h = omega arith
between_from low from to (t ∷ ts) le h = (omega (arith, h.0), h.1, h.2)

between_to : (from to high : ℕ) (tokens : List Token) → to ≤ high → AreBetween from tokens to → AreBetween from tokens high
between_to from to high [] le h = omega arith
between_to from to high (t ∷ ts) le h = (h.0, h.1, between_to t.past to high ts le h.2)

between_all : (from middle to : ℕ) (xs ys : List Token) → AreBetween from xs middle → AreBetween middle ys to → AreBetween from (xs ++ ys) to
between_all from middle to [] ys h k = between_from from middle to ys h k
between_all from middle to (t ∷ ts) ys h k = (h.0, h.1, between_all t.past middle to ts ys h.2 k)

-- tokens between two places that are slices of the source
record AreSlices (source : List ℕ) (from : ℕ) (tokens : List Token) (to : ℕ) : Type 0 where
  between : AreBetween from tokens to
  slices : All (IsSlice source) tokens

no_slice : (source : List ℕ) → All (IsSlice source) []
no_slice source k d h = absurd (omega arith)

no_tokens : (source : List ℕ) (from to : ℕ) → from ≤ to → AreSlices source from [] to
no_tokens source from to le = record { between = le; slices = no_slice source }

text_slices : (source : List ℕ) {awaits next : Awaited} {place : Place} {at : ℕ} {rest : List ℕ} {tokens : List Token} → IsSpelled awaits place at rest tokens next → Stands source (place.start + at) rest → AreSlices source (place.start + at) tokens (place.start + at + length rest)
text_slices source {place = place} {at = at} ends stands = no_tokens source (place.start + at) (place.start + at + 0) (omega arith)
text_slices source {place = place} {at = at} {rest = byte ∷ rest} (after_spacing {tokens = tokens} spaces spelled) stands =
    let one : place.start + (at + 1) ≡ place.start + at + 1 = omega arith in
    let others = text_slices source spelled (stands_behind source (place.start + at) (place.start + (at + 1)) (byte ∷ []) rest one stands) in
    let low : place.start + at ≤ place.start + (at + 1) = omega arith in
    let high : place.start + (at + 1) + length rest ≤ place.start + at + suc (length rest) = omega arith in
    record { between = between_to _ _ _ tokens high (between_from _ _ _ tokens low others.between); slices = others.slices }
text_slices source {place = place} {at = at} {rest = rest} (after_token {behind = behind} {token = token} {tokens = tokens} written is spelled) stands =
    let text : List ℕ = token.text in
    let P : List ℕ → Type 0 = λ rest. Stands source (place.start + at) rest in
    let here : Stands source (place.start + at) (text ++ behind) = subst P written stands in
    let start : token.start ≡ place.start + at = ap (λ t. t.start) is.stands in
    let past : token.past ≡ place.start + at + length text = ap (λ t. t.past) is.stands in
    let some : 1 ≤ length text = is.some in
    let size : length rest ≡ length text + length behind = ap length written ∙ length-append text behind in
    let S : ℕ → Type 0 = λ n. Stands source n text in
    let slice : IsSlice source token = slice_of source token.start token.past text (omega arith) (subst S (sym start) (stands_front source (place.start + at) text behind here)) in
    let goes : place.start + (at + length text) ≡ place.start + at + length text = omega arith in
    let others = text_slices source spelled (stands_behind source (place.start + at) (place.start + (at + length text)) text behind goes here) in
    let from : token.past ≤ place.start + (at + length text) = omega arith in
    let to : place.start + (at + length text) + length behind ≤ place.start + at + length rest = omega arith in
    let low : place.start + at ≤ token.start = omega arith in
    let high : token.start < token.past = omega arith in
    record {
      between = (low, high, between_to token.past _ _ tokens to (between_from token.past _ _ tokens from others.between));
      slices = All-cons (IsSlice source) token tokens slice others.slices;
    }

seven : (n : ℕ) → nat_lt n 7 ≡ false → 7 ≤ n
seven n h = grind (arith, nat_tests)

-- the text of a line that is read
long_enough : (in_paragraph : Bool) (bytes : List ℕ) → line_kind in_paragraph bytes ≡ kinds.Text → 7 ≤ length bytes
long_enough in_paragraph bytes h =
    elim (chosen (nat_lt (length bytes) 7) _ _ _ h) [
      | inl w ↦ let e : kinds.Comment ≡ kinds.Text = w.1 in cc
      | inr w ↦ seven (length bytes) w.0
    ]

text_stands : (source : List ℕ) (start : ℕ) (bytes : List ℕ) → 7 ≤ length bytes → Stands source start bytes → Stands source (start + 7) (text_of bytes)
text_stands source start bytes long stands =
    let read : List ℕ = take 72 bytes in
    let P : List ℕ → Type 0 = λ rest. Stands source start rest in
    let size : length (take 7 read) ≡ 7 = omega (arith, length-take 7 read, length-take 72 bytes) in
    let front : Stands source start read = stands_front source start read (drop 72 bytes) (subst P (sym (take-append-drop 72 bytes)) stands) in
    let goes : start + 7 ≡ start + length (take 7 read) = omega arith in
    stands_behind source start (start + 7) (take 7 read) (drop 7 read) goes (subst P (sym (take-append-drop 7 read)) front)

line_slices : (source : List ℕ) (in_paragraph : Bool) (kind : LineKind) (awaits next : Awaited) (number start : ℕ) (bytes : List ℕ) (tokens : List Token) → line_kind in_paragraph bytes ≡ kind → IsLine kind awaits (place number start) bytes tokens next → Stands source start bytes → AreSlices source start tokens (start + length bytes)
line_slices source in_paragraph kinds.Comment awaits next number start bytes tokens is (none, same) stands =
    let P : List Token → Type 0 = λ tokens. AreSlices source start tokens (start + length bytes) in subst P (sym none) (no_tokens source start (start + length bytes) (omega arith))
line_slices source in_paragraph kinds.CommentParagraph awaits next number start bytes tokens is (none, same) stands =
    let P : List Token → Type 0 = λ tokens. AreSlices source start tokens (start + length bytes) in subst P (sym none) (no_tokens source start (start + length bytes) (omega arith))
line_slices source in_paragraph kinds.BadColumn awaits next number start bytes tokens is h stands = absurd h
line_slices source in_paragraph kinds.Text awaits next number start bytes tokens is h stands =
    let long = long_enough in_paragraph bytes is in
    let text = text_slices source h (text_stands source start bytes long stands) in
    let low : start ≤ start + 7 = omega arith in
    let high : start + 7 + length (text_of bytes) ≤ start + length bytes = omega (arith, length-drop 7 (take 72 bytes), length-take 72 bytes) in
    record { between = between_to start _ _ tokens high (between_from start _ _ tokens low text.between); slices = text.slices }

-- the first line and the others
pub record First (awaits : Awaited) (line : Line) (lines : List Line) (tokens : List Token) : Type 0 where
  pub next : Awaited
  pub here : List Token
  pub others : List Token
  pub all : tokens ≡ here ++ others
  pub first : IsLine line.kind awaits line.place line.bytes here next
  pub behind : AreLines next lines others

pub first_of : {awaits : Awaited} {line : Line} {lines : List Line} {tokens : List Token} → AreLines awaits (line ∷ lines) tokens → First awaits line lines tokens
first_of (after_line {next = next} here others all first behind) = record { next = next; here = here; others = others; all = all; first = first; behind = behind }

pub none_of : {awaits : Awaited} {tokens : List Token} → AreLines awaits [] tokens → tokens ≡ []
none_of no_line = refl

shorter : (test : ℕ → Bool) (part : List ℕ) → (more : List ℕ) × (part ≡ without_last test part ++ more)
shorter test part =
    let k : ℕ = length part - 1 in
    elim (test (slice_index part k)) as (λ b. (more : List ℕ) × (part ≡ cond b (take k part) part ++ more))
    [ true ↦ (drop k part, sym (take-append-drop k part)) | false ↦ ([], sym (append-nil part)) ]

-- the last line
last_slices : (source : List ℕ) (in_paragraph : Bool) (awaits : Awaited) (number start : ℕ) (part : List ℕ) (tokens : List Token) (b : Bool) → AreLines awaits (with_kinds in_paragraph (cond b [] ((place number start, part) ∷ []))) tokens → Stands source start part → AreSlices source start tokens (start + length part)
last_slices source in_paragraph awaits number start part tokens true lines stands =
    let P : List Token → Type 0 = λ tokens. AreSlices source start tokens (start + length part) in subst P (sym (none_of lines)) (no_tokens source start (start + length part) (omega arith))
last_slices source in_paragraph awaits number start part tokens false lines stands =
    let f = first_of lines in
    let P : List Token → Type 0 = λ tokens. AreSlices source start tokens (start + length part) in
    let alone : tokens ≡ f.here = f.all ∙ ap (λ ts. f.here ++ ts) (none_of f.behind) ∙ append-nil f.here in
    subst P (sym alone) (line_slices source in_paragraph (line_kind in_paragraph part) awaits f.next number start part f.here refl f.first stands)

abbrev joined : List (List ℕ) → List ℕ
joined parts = join_with_byte 10 parts

lines_slices : (source : List ℕ) (in_paragraph : Bool) (awaits : Awaited) (number start : ℕ) (parts : List (List ℕ)) (tokens : List Token) → AreLines awaits (with_kinds in_paragraph (placed number start parts)) tokens → Stands source start (joined parts) → AreSlices source start tokens (start + length (joined parts))
lines_slices source in_paragraph awaits number start [] tokens lines stands =
    let P : List Token → Type 0 = λ tokens. AreSlices source start tokens (start + 0) in subst P (sym (none_of lines)) (no_tokens source start (start + 0) (omega arith))
lines_slices source in_paragraph awaits number start (part ∷ []) tokens lines stands = last_slices source in_paragraph awaits number start part tokens (length part == 0) lines stands
lines_slices source in_paragraph awaits number start (part ∷ next ∷ parts) tokens lines stands =
    let f = first_of lines in
    let line : List ℕ = without_last is_return part in
    let rest : List ℕ = joined (next ∷ parts) in
    let kind : LineKind = line_kind in_paragraph line in
    let (more, is) = shorter is_return part in
    let P : List ℕ → Type 0 = λ xs. Stands source start xs in
    let whole : Stands source start part = stands_front source start part (10 ∷ rest) stands in
    let here = line_slices source in_paragraph kind awaits f.next number start line f.here refl f.first (stands_front source start line more (subst P is whole)) in
    let goes : start + length part + 1 ≡ start + length (part ++ 10 ∷ []) = omega (arith, length-append part (10 ∷ [])) in
    let behind : Stands source (start + length part + 1) rest = stands_behind source start (start + length part + 1) (part ++ 10 ∷ []) rest goes (subst P (sym (append_assoc part (10 ∷ []) rest)) stands) in
    let others = lines_slices source (paragraph_behind in_paragraph kind) f.next (number + 1) (start + length part + 1) (next ∷ parts) f.others f.behind behind in
    let size : length part ≡ length line + length more = ap length is ∙ length-append line more in
    let low : start + length line ≤ start + length part + 1 = omega arith in
    let high : start + length part + 1 + length rest ≤ start + length (part ++ 10 ∷ rest) = omega (arith, length-append part (10 ∷ rest)) in
    let Q : List Token → Type 0 = λ tokens. AreSlices source start tokens (start + length (part ++ 10 ∷ rest)) in
    subst Q (sym f.all) (record {
      between = between_all start (start + length line) _ f.here f.others here.between (between_to (start + length line) _ _ f.others high (between_from (start + length line) _ _ f.others low others.between));
      slices = All-append (IsSlice source) f.here f.others here.slices others.slices;
    })

pub tokens_spelled : (source : List ℕ) (tokens : List Token) → tokens_of source ≡ Ok tokens → AreTokens source tokens
unfolding Stands
tokens_spelled source tokens h =
    let parts : List (List ℕ) = slice_split is_line_feed source in
    let spelled = lines_spelled (source_lines source) awaited.Nothing tokens h in
    let whole : joined parts ≡ source = join_with_byte-slice_split 10 source in
    let stands : Stands source 0 (joined parts) = ([], sym whole ∙ sym (append-nil (joined parts))) in
    let all = lines_slices source false awaited.Nothing 1 0 parts tokens spelled stands in
    let size : length (joined parts) ≡ length source = ap length whole in
    let high : 0 + length (joined parts) ≤ length source = omega arith in
    record { spelled = spelled; between = between_to 0 _ (length source) tokens high all.between; slices = all.slices }
