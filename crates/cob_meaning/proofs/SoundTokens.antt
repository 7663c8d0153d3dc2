-- The numbers and literals among the tokens of a source have their sizes.
use Rattle.std.proofs.Common.{◌≡◌, ◌≤◌, ℕ, zero, suc, ◌-◌, true, nat_le, List, [], ◌∷◌, ◌++◌, length, take, drop, Ok, refl, ap, ◌∙◌, arith, length-append}
use Rattle.std.specs.List.{AllByRecursion, list_all}
use Rattle.std.proofs.lemmas.Bool.{and_parts}
use Rattle.std.proofs.lemmas.Bool.Decides.{nat_tests}
use Rattle.com_text.specs.Text.{IsText}
use Rattle.cob_lex.specs.declared.token.Token.{Token}
use Rattle.cob_lex.specs.declared.token.TokenKind.{TokenKind}
use Rattle.cob_lex.specs.declared.token.TokenKind.TheVariants as tokens
use Rattle.com_text.specs.Name.{is_digit}
use Rattle.cob_lex.specs.Fronts.{is_number}
use Rattle.cob_lex.specs.Lexing.{tokens_of}
use Rattle.cob_lex.specs.Literals.{characters_of, is_literal}
use Rattle.cob_lex.proofs.TokenSizes.{IsMarked, IsSized, IsSizedToken, tokens_sized}
use Rattle.cob_forms.specs.Sorts.{is, kind_code, of_kind}
use Rattle.cob_forms.specs.Written.{between_marks}
use Rattle.cob_data.proofs.LiteralTexts.{between_text, characters_text}
use Rattle.cob_data.proofs.NumeralLaws.{all_digits}
use Rattle.cob_meaning.specs.Checked.{IsNumeral, IsQuotation}

-- what a number and a literal are
abbrev pub IsSoundAs : TokenKind → List ℕ → Type 0
IsSoundAs tokens.Number text = IsNumeral text
IsSoundAs tokens.Literal text = IsQuotation (characters_of (between_marks text))
IsSoundAs _ text = Unit {0}

abbrev pub IsSoundToken : Token → Type 0
IsSoundToken t = IsSoundAs t.kind t.text

number_sound : (text : List ℕ) → 1 ≤ length text → is_number text ≡ true → IsNumeral text
number_sound text some e = let h = and_parts (list_all is_digit text) (nat_le (length text) 18) e in
    record { some = some; few = grind (arith, nat_tests); are_digits = all_digits text h.0 }

take_all : (xs ys : List ℕ) → take (length xs) (xs ++ ys) ≡ xs
take_all [] ys = refl
take_all (x ∷ xs) ys = ap (λ l. x ∷ l) (take_all xs ys)

between : (inside : List ℕ) → between_marks (0x22 ∷ (inside ++ 0x22 ∷ [])) ≡ inside
between inside =
    let n : length (0x22 ∷ (inside ++ 0x22 ∷ [])) - 2 ≡ length inside = omega (arith, length-append inside (0x22 ∷ [])) in
    ap (λ k. take k (inside ++ 0x22 ∷ [])) n ∙ take_all inside (0x22 ∷ [])

literal_sound : (text : List ℕ) → IsText text → IsMarked text → IsQuotation (characters_of (between_marks text))
literal_sound text h q =
    let same : between_marks text ≡ q.inside = ap between_marks q.written ∙ between q.inside in
    let sized : is_literal (between_marks text) ≡ true = ap is_literal same ∙ q.sized in
    let parts = and_parts (nat_le 1 (length (characters_of (between_marks text)))) (nat_le (length (characters_of (between_marks text))) 120) sized in
    record { some = grind (arith, nat_tests); few = grind (arith, nat_tests); text = characters_text (between_marks text) (between_text text h) }

as_kind : (kind : TokenKind) (text : List ℕ) → 1 ≤ length text → IsText text → IsSized kind text → IsSoundAs kind text
as_kind tokens.Number text some h sized = number_sound text some sized
as_kind tokens.Literal text some h sized = literal_sound text h sized
as_kind tokens.Word text some h sized = tt
as_kind tokens.Picture text some h sized = tt
as_kind tokens.Period text some h sized = tt
as_kind tokens.Open text some h sized = tt
as_kind tokens.Close text some h sized = tt
as_kind tokens.Equal text some h sized = tt
as_kind tokens.Greater text some h sized = tt
as_kind tokens.Less text some h sized = tt

all_sound : (ts : List Token) → AllByRecursion IsSizedToken ts → AllByRecursion IsSoundToken ts
all_sound [] h = tt
all_sound (t ∷ ts) h = (as_kind t.kind t.text h.0.some h.0.text h.0.sized, all_sound ts h.1)

pub tokens_sound : (source : List ℕ) (ts : List Token) → tokens_of source ≡ Ok ts → AllByRecursion IsSoundToken ts
tokens_sound source ts e = all_sound ts (tokens_sized source ts e)

pub drop_sound : (n : ℕ) (ts : List Token) → AllByRecursion IsSoundToken ts → AllByRecursion IsSoundToken (drop n ts)
drop_sound zero ts h = h
drop_sound (suc n) [] h = h
drop_sound (suc n) (t ∷ ts) h = drop_sound n ts h.1

-- tokens of a kind
number_by : (kind : TokenKind) (text : List ℕ) → kind_code kind ≡ kind_code tokens.Number → IsSoundAs kind text → IsNumeral text
number_by tokens.Number text e h = h
number_by tokens.Literal text e h = absurd (omega (arith, e))
number_by tokens.Word text e h = absurd (omega (arith, e))
number_by tokens.Picture text e h = absurd (omega (arith, e))
number_by tokens.Period text e h = absurd (omega (arith, e))
number_by tokens.Open text e h = absurd (omega (arith, e))
number_by tokens.Close text e h = absurd (omega (arith, e))
number_by tokens.Equal text e h = absurd (omega (arith, e))
number_by tokens.Greater text e h = absurd (omega (arith, e))
number_by tokens.Less text e h = absurd (omega (arith, e))

literal_by : (kind : TokenKind) (text : List ℕ) → kind_code kind ≡ kind_code tokens.Literal → IsSoundAs kind text → IsQuotation (characters_of (between_marks text))
literal_by tokens.Literal text e h = h
literal_by tokens.Number text e h = absurd (omega (arith, e))
literal_by tokens.Word text e h = absurd (omega (arith, e))
literal_by tokens.Picture text e h = absurd (omega (arith, e))
literal_by tokens.Period text e h = absurd (omega (arith, e))
literal_by tokens.Open text e h = absurd (omega (arith, e))
literal_by tokens.Close text e h = absurd (omega (arith, e))
literal_by tokens.Equal text e h = absurd (omega (arith, e))
literal_by tokens.Greater text e h = absurd (omega (arith, e))
literal_by tokens.Less text e h = absurd (omega (arith, e))

pub a_numeral : (t : Token) → is (of_kind tokens.Number) t ≡ true → IsSoundToken t → IsNumeral t.text
a_numeral t e h = number_by t.kind t.text (grind (arith, nat_tests)) h

pub a_quotation : (t : Token) → is (of_kind tokens.Literal) t ≡ true → IsSoundToken t → IsQuotation (characters_of (between_marks t.text))
a_quotation t e h = literal_by t.kind t.text (grind (arith, nat_tests)) h
