-- The tokens that a source has are spelled there.
use Rattle.std.proofs.Common.{◌≡◌, ℕ, zero, suc, ◌+◌, ◌≤◌, Bool, true, false, not, ◌&&◌, List, [], ◌∷◌, ◌++◌, length, take, drop, Option, Some, None, Result, Ok, Err, inl, inr, refl, ap, sym, subst, ◌∙◌, arith}
use Rattle.std.specs.List.{position_from}
use Rattle.std.proofs.lemmas.List.{length-drop, length-take-le, take-append-drop}
use Rattle.com_text.specs.Text.{IsText, is_text, is_text_byte}
use Rattle.cob_lex.specs.declared.fault.SourceFault.{SourceFault}
use Rattle.cob_lex.specs.declared.fault.SourceKind.TheVariants as faults
use Rattle.cob_lex.specs.declared.token.Token.{Token}
use Rattle.cob_lex.specs.declared.token.TokenKind.{TokenKind}
use Rattle.cob_lex.specs.declared.lines.Place.{Place}
use Rattle.cob_lex.specs.declared.lines.LineKind.{LineKind}
use Rattle.cob_lex.specs.declared.lines.LineKind.TheVariants as kinds
use Rattle.cob_lex.specs.declared.front.Awaited.{Awaited}
use Rattle.cob_lex.specs.declared.front.Front.{Front}
use Rattle.cob_lex.specs.declared.front.Front.TheVariants as fronts
use Rattle.cob_lex.specs.Characters.{is_no_text_byte}
use Rattle.cob_lex.specs.Lines.{Line, text_of}
use Rattle.cob_lex.specs.Fronts.{awaited_behind, front_of}
use Rattle.cob_lex.specs.Lexing.{Taken, taken, with_token, fault_at, line_tokens, lines_tokens, sound_token, text_tokens, token_at, token_of, ◌>>=◌}
use Rattle.cob_lex.specs.Spelled.{AreLines, IsLine, IsSpelled, IsTokenAt, after_line, after_spacing, after_token, ends, no_line}
use Rattle.cob_lex.proofs.Longest.{chosen}
use Rattle.cob_lex.proofs.LongestFront.{front_spacing, front_token}
use Rattle.cob_lex.proofs.Steps.{at_token, fronted, refused, spacing, token_step}

-- what is in an Ok
value_of : {A : Type 0} → A → Result A SourceFault → A
value_of other (Ok x) = x
value_of other (Err fault) = other

pub same_ok : {A : Type 0} (x y : A) → ◌≡◌ {A = Result A SourceFault} (Ok x) (Ok y) → x ≡ y
unfolding value_of
same_ok x y h = ap (value_of x) h

-- a token was read, and then the others
pub record Read (read : Result Token SourceFault) (others : Result Taken SourceFault) (t : Taken) : Type 0 where
  pub token : Token
  pub more : Taken
  pub token_read : read ≡ Ok token
  pub others_read : others ≡ Ok more
  pub all : with_token token more ≡ t

read_both : (read : Result Token SourceFault) (others : Result Taken SourceFault) (t : Taken) → (read >>= (λ token. others >>= (λ others. Ok (with_token token others)))) ≡ Ok t → Read read others t
read_both (Ok token) (Ok more) t h = record { token = token; more = more; token_read = refl; others_read = refl; all = same_ok (with_token token more) t h }
read_both (Ok token) (Err fault) t h = cc
read_both (Err fault) others t h = cc

no_not : (b : Bool) → not b ≡ false → b ≡ true
no_not true h = refl
no_not false h = cc

all_sound : (bytes : List ℕ) (at : ℕ) → position_from is_no_text_byte at bytes ≡ None → IsText bytes
all_sound [] at h = refl
all_sound (x ∷ xs) at h =
    elim (chosen (is_no_text_byte x) (Some at) (position_from is_no_text_byte (at + 1) xs) None h) [
      | inl w ↦ let e : Some at ≡ None = w.1 in cc
      | inr w ↦ ap (λ b. b && is_text xs) (no_not (is_text_byte x) w.0) ∙ all_sound xs (at + 1) w.1
    ]

sound_at : (place : Place) (at : ℕ) (kind : TokenKind) (text : List ℕ) (token : Token) (o : Option ℕ) → position_from is_no_text_byte at text ≡ o → sound_token place at kind text o ≡ Ok token → (token_at place at kind text ≡ token) × IsText text
sound_at place at kind text token None found h = (same_ok (token_at place at kind text) token h, all_sound text at found)
sound_at place at kind text token (Some bad) found h = cc

abbrev Spells : ℕ → Type 0
Spells size = (bytes : List ℕ) → length bytes ≤ size → (awaits : Awaited) (place : Place) (at : ℕ) (t : Taken) → fronted awaits place at bytes ≡ Ok t → IsSpelled awaits place at bytes t.tokens t.awaited

by_its_front : (size : ℕ) → Spells size → (x : ℕ) (xs : List ℕ) → length xs ≤ size → (awaits : Awaited) (place : Place) (at : ℕ) (t : Taken) (f : Front) → front_of awaits (x ∷ xs) ≡ f → fronted awaits place at (x ∷ xs) ≡ Ok t → IsSpelled awaits place at (x ∷ xs) t.tokens t.awaited
by_its_front size others x xs small awaits place at t fronts.Spacing is h =
    let some : 1 ≤ length (x ∷ xs) = omega arith in
    after_spacing (front_spacing x xs awaits is) (others xs small awaits place (at + 1) t (sym (spacing awaits place at (x ∷ xs) some is) ∙ h))
by_its_front size others x xs small awaits place at t (fronts.Token kind n) is h =
    let bytes : List ℕ = x ∷ xs in
    let text : List ℕ = take n bytes in
    let behind : List ℕ = drop n bytes in
    let f = front_token awaits x xs kind n is in
    let some : 1 ≤ length bytes = omega arith in
    let step : token_step awaits place at kind bytes n (fronted (awaited_behind awaits kind text) place (at + n) behind) ≡ Ok t = sym (at_token awaits place at bytes kind n some f.some is) ∙ h in
    let r = read_both (token_of place at kind text) (fronted (awaited_behind awaits kind text) place (at + n) behind) t step in
    let (stands, sound) = sound_at place at kind text r.token (position_from is_no_text_byte at text) refl r.token_read in
    let size_of : length text ≡ n = length-take-le n bytes f.within in
    let smaller : length behind ≤ size = omega (arith, length-drop n bytes, f.some) in
    let rest = others behind smaller (awaited_behind awaits kind text) place (at + n) r.more r.others_read in
    let P : ℕ → Type 0 = λ m. IsSpelled (awaited_behind awaits kind text) place (at + m) behind r.more.tokens r.more.awaited in
    let here : IsTokenAt awaits place at (token_at place at kind text) behind = record { some = omega (arith, f.some); characters = sound; longest = f.longest; stands = refl } in
    let Q : Token → Type 0 = λ token. IsSpelled awaits place at bytes (token ∷ r.more.tokens) r.more.awaited in
    let S : Taken → Type 0 = λ t. IsSpelled awaits place at bytes t.tokens t.awaited in
    subst S r.all (subst Q stands (after_token (sym (take-append-drop n bytes)) here (subst P (sym size_of) rest)))
by_its_front size others x xs small awaits place at t (fronts.Fault kind) is h =
    let some : 1 ≤ length (x ∷ xs) = omega arith in
    let e : Err (fault_at place at kind) ≡ Ok t = sym (refused awaits place at (x ∷ xs) kind some is) ∙ h in
    cc

nothing_spelled : (awaits : Awaited) (place : Place) (at : ℕ) (t : Taken) → fronted awaits place at [] ≡ Ok t → IsSpelled awaits place at [] t.tokens t.awaited
unfolding text_tokens
nothing_spelled awaits place at t h = let P : Taken → Type 0 = λ t. IsSpelled awaits place at [] t.tokens t.awaited in subst P (same_ok (taken [] awaits) t h) ends

text_spelled : (size : ℕ) → Spells size
text_spelled size [] small awaits place at t h = nothing_spelled awaits place at t h
text_spelled zero (x ∷ xs) small awaits place at t h = absurd (omega arith)
text_spelled (suc size) (x ∷ xs) small awaits place at t h = by_its_front size (text_spelled size) x xs (omega arith) awaits place at t (front_of awaits (x ∷ xs)) refl h

line_spelled : (kind : LineKind) (awaits : Awaited) (place : Place) (bytes : List ℕ) (t : Taken) → line_tokens awaits place bytes kind ≡ Ok t → IsLine kind awaits place bytes t.tokens t.awaited
line_spelled kinds.Comment awaits place bytes t h = let e : taken [] awaits ≡ t = same_ok (taken [] awaits) t h in (sym (ap (λ t. t.tokens) e), sym (ap (λ t. t.awaited) e))
line_spelled kinds.CommentParagraph awaits place bytes t h = let e : taken [] awaits ≡ t = same_ok (taken [] awaits) t h in (sym (ap (λ t. t.tokens) e), sym (ap (λ t. t.awaited) e))
line_spelled kinds.BadColumn awaits place bytes t h = let e : Err (fault_at place 6 faults.BadColumn) ≡ Ok t = h in cc
line_spelled kinds.Text awaits place bytes t h = text_spelled (length (text_of bytes)) (text_of bytes) (omega arith) awaits place 7 t h

record ReadLine (here : Result Taken SourceFault) (others : Awaited → Result (List Token) SourceFault) (tokens : List Token) : Type 0 where
  first : Taken
  more : List Token
  first_read : here ≡ Ok first
  others_read : others first.awaited ≡ Ok more
  all : first.tokens ++ more ≡ tokens

read_behind : (first : Taken) (others : Awaited → Result (List Token) SourceFault) (tokens : List Token) (r : Result (List Token) SourceFault) → others first.awaited ≡ r → (r >>= (λ others. Ok (first.tokens ++ others))) ≡ Ok tokens → ReadLine (Ok first) others tokens
read_behind first others tokens (Ok more) is h = record { first = first; more = more; first_read = refl; others_read = is; all = same_ok (first.tokens ++ more) tokens h }
read_behind first others tokens (Err fault) is h = cc

read_lines : (here : Result Taken SourceFault) (others : Awaited → Result (List Token) SourceFault) (tokens : List Token) → (here >>= (λ here. others here.awaited >>= (λ others. Ok (here.tokens ++ others)))) ≡ Ok tokens → ReadLine here others tokens
read_lines (Ok first) others tokens h = read_behind first others tokens (others first.awaited) refl h
read_lines (Err fault) others tokens h = cc

pub lines_spelled : (lines : List Line) (awaits : Awaited) (tokens : List Token) → lines_tokens awaits lines ≡ Ok tokens → AreLines awaits lines tokens
unfolding lines_tokens
lines_spelled [] awaits tokens h = let P : List Token → Type 0 = λ tokens. AreLines awaits [] tokens in subst P (same_ok [] tokens h) no_line
lines_spelled (line ∷ lines) awaits tokens h =
    let r = read_lines (line_tokens awaits line.place line.bytes line.kind) (λ next. lines_tokens next lines) tokens h in
    after_line r.first.tokens r.more (sym r.all) (line_spelled line.kind awaits line.place line.bytes r.first r.first_read) (lines_spelled lines r.first.awaited r.more r.others_read)
