-- How what is read is spelled: from some tokens to those behind it.
use Rattle.std.specs.Prelude.{◌≡◌, ◌⊎◌, ℕ, Bool, true, false, List, [], ◌∷◌, Option, Some, None}
use Rattle.cob_lex.specs.declared.token.Token.{Token}
use Rattle.cob_lex.specs.declared.token.TokenKind.TheVariants as tokens
use Rattle.cob_forms.specs.declared.written.Position.{Position}
use Rattle.cob_forms.specs.declared.written.Name.{Name}
use Rattle.cob_forms.specs.declared.written.Number.{Number}
use Rattle.cob_forms.specs.declared.written.Literal.{Literal}
use Rattle.cob_forms.specs.Sorts.{Sort, is, reserved, name, of_kind}
use Rattle.cob_forms.specs.Written.{literal_of, name_of, number_of, position_of}
use Rattle.cob_forms.specs.Readers.{begins}

abbrev pub Spelling : Type 1
Spelling = List Token → List Token → Type 0

-- one behind the other
infixr 20 ◌⊙◌
abbrev pub ◌⊙◌ : Spelling → Spelling → Spelling
(P ⊙ Q) ts rest = (mid : List Token) × P ts mid × Q mid rest

abbrev pub nothing : Spelling
nothing ts rest = rest ≡ ts

abbrev pub nowhere : Spelling
nowhere ts rest = ⊥

-- a token of a sort, this one
abbrev pub the : Sort → Token → Spelling
the sort t ts rest = (is sort t ≡ true) × (ts ≡ t ∷ rest)

abbrev pub a : Sort → Spelling
a sort ts rest = (t : Token) × the sort t ts rest

-- a token of a sort, of which a value is made
abbrev pub made : {A : Type 0} → Sort → (Token → A) → A → Spelling
made sort make x ts rest = (t : Token) × (x ≡ make t) × the sort t ts rest

abbrev pub IsName : Name → Spelling
IsName = made name name_of

abbrev pub IsNumber : Number → Spelling
IsNumber = made (of_kind tokens.Number) number_of

abbrev pub IsLiteral : Literal → Spelling
IsLiteral = made (of_kind tokens.Literal) literal_of

-- a word at this place
abbrev pub placed : Sort → Position → Spelling
placed sort = made sort position_of

-- What may be left out is left out only where the next token does not begin it.
abbrev pub unless : (Token → Bool) → Spelling
unless test ts rest = nothing ts rest × (begins test rest ≡ false)

-- an optional word, of which it is said whether it is written
abbrev pub written : Bool → Sort → Spelling
written true sort = a sort
written false sort = unless (is sort)

-- an optional word
abbrev pub perhaps : Sort → Spelling
perhaps sort ts rest = unless (is sort) ts rest ⊎ a sort ts rest

abbrev pub either : Spelling → Spelling → Spelling
either P Q ts rest = P ts rest ⊎ Q ts rest

-- one after another
abbrev pub each : {A : Type 0} → (A → Spelling) → List A → Spelling
each S [] = nothing
each S (x ∷ xs) = S x ⊙ each S xs

-- None or more, as many as there are: behind the last no further one begins.
abbrev pub all_of : {A : Type 0} → (Token → Bool) → (A → Spelling) → List A → Spelling
all_of test S [] = unless test
all_of test S (x ∷ xs) = S x ⊙ all_of test S xs

-- one or more
abbrev pub some_of : {A : Type 0} → (Token → Bool) → (A → Spelling) → List A → Spelling
some_of test S [] = nowhere
some_of test S (x ∷ xs) = S x ⊙ all_of test S xs

-- what may be left out
abbrev pub maybe_of : {A : Type 0} → (Token → Bool) → (A → Spelling) → Option A → Spelling
maybe_of test S None = unless test
maybe_of test S (Some x) = S x

-- a reserved word, and one that may be left out
abbrev pub word : List ℕ → Spelling
word text = a (reserved text)

abbrev pub maybe_word : List ℕ → Spelling
maybe_word text = perhaps (reserved text)
