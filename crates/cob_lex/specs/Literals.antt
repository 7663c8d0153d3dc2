-- Literals: where they end, and the characters that they stand for.
use Rattle.std.specs.Prelude.{ℕ, ◌+◌, Bool, ◌&&◌, nat_le, if◌then◌else◌, List, [], ◌∷◌, length, Option, Some, None}
use Rattle.std.specs.Option.{option_map}
use Rattle.cob_lex.specs.Characters.{is_quote}

-- how many bytes stand before the closing quotation mark: two together are not one
abbrev pub closing : List ℕ → Option ℕ
closing [] = None
closing (byte ∷ []) = if is_quote byte then Some 0 else None
closing (byte ∷ next ∷ rest) =
    if is_quote byte
    then (if is_quote next then option_map (λ n. 2 + n) (closing rest) else Some 0)
    else option_map (λ n. 1 + n) (closing (next ∷ rest))

-- the characters between the quotation marks of a literal: two quotation marks stand for one
abbrev pub characters_of : List ℕ → List ℕ
characters_of [] = []
characters_of (byte ∷ []) = byte ∷ []
characters_of (byte ∷ next ∷ rest) =
    if is_quote byte && is_quote next then byte ∷ characters_of rest
    else byte ∷ characters_of (next ∷ rest)

-- a literal has 1 to 120 characters
abbrev pub is_literal : List ℕ → Bool
is_literal inside = nat_le 1 (length (characters_of inside)) && nat_le (length (characters_of inside)) 120
