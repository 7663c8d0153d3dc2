-- Readers: a form read from the front of some tokens.
use Rattle.std.specs.Prelude.{◌≡◌, ℕ, zero, suc, Bool, true, false, List, [], ◌∷◌, length, Option, Some, None, Result, Ok, Err, if◌then◌else◌}
use Rattle.cob_lex.specs.declared.token.Token.{Token}
use Rattle.cob_forms.specs.declared.stop.Stop.{Stop}
use Rattle.cob_forms.specs.declared.stop.Stop.TheVariants as stops
use Rattle.cob_lex.specs.declared.token.TokenKind.TheVariants as tokens
use Rattle.cob_forms.specs.declared.written.Name.{Name}
use Rattle.cob_forms.specs.declared.written.Number.{Number}
use Rattle.cob_forms.specs.declared.written.Literal.{Literal}
use Rattle.cob_forms.specs.Sorts.{Sort, is, name, of_kind}
use Rattle.cob_forms.specs.Written.{name_of, number_of, literal_of}

-- A reader gives what it found and the tokens behind it, or how many tokens are left where another is
-- wanted.
abbrev pub Reader : Type 0 → Type 0
Reader A = List Token → Result (A × List Token) ℕ

-- whether there is a next token that passes a test
abbrev pub begins : (Token → Bool) → List Token → Bool
begins test [] = false
begins test (t ∷ ts) = test t

abbrev pub go_on : {A B : Type 0} → (A → Reader B) → Result (A × List Token) ℕ → Result (B × List Token) ℕ
go_on f (Ok x) = f x.0 x.1
go_on f (Err left) = Err left

-- one part and then another
infixr 10 ◌>>=◌
abbrev pub ◌>>=◌ : {A B : Type 0} → Reader A → (A → Reader B) → Reader B
(r >>= f) ts = go_on f (r ts)

infixr 10 ◌>>◌
abbrev pub ◌>>◌ : {A B : Type 0} → Reader A → Reader B → Reader B
(r >> s) ts = go_on (λ _. s) (r ts)

-- nothing more is read
abbrev pub found : {A : Type 0} → A → Reader A
found x ts = Ok (x, ts)

-- another token is wanted
abbrev pub wanted : {A : Type 0} → Reader A
wanted ts = Err (length ts)

-- a token of a sort
abbrev pub one : Sort → Reader Token
one sort [] = wanted []
one sort (t ∷ ts) = if is sort t then Ok (t, ts) else wanted (t ∷ ts)

-- a name, a number and a literal
abbrev pub read_name : Reader Name
read_name = one name >>= λ t. found (name_of t)

abbrev pub read_number : Reader Number
read_number = one (of_kind tokens.Number) >>= λ t. found (number_of t)

abbrev pub read_literal : Reader Literal
read_literal = one (of_kind tokens.Literal) >>= λ t. found (literal_of t)

-- a token of a sort may not come next
abbrev pub before_no : {A : Type 0} → Sort → A → Reader A
before_no sort x ts = if begins (is sort) ts then wanted ts else Ok (x, ts)

-- an alternative is entered where the next token passes a test
abbrev pub at : {A : Type 0} → (Token → Bool) → Reader A → Reader A → Reader A
at test r other ts = if begins test ts then r ts else other ts

-- so is an optional part
abbrev pub maybe : {A : Type 0} → (Token → Bool) → Reader A → Reader (Option A)
maybe test r = at test (r >>= λ x. found (Some x)) (found None)

-- an optional word, and whether it is written
abbrev pub optional : Sort → Reader Bool
optional sort = at (is sort) (one sort >>= λ _. found true) (found false)

-- and a further turn of a list; no list has more turns than there are tokens
unfoldable pub turns : {A : Type 0} → ℕ → (Token → Bool) → Reader A → Reader (List A)
turns zero test r = found []
turns (suc n) test r = at test (r >>= λ x. turns n test r >>= λ xs. found (x ∷ xs)) (found [])

-- further ones behind the first
abbrev pub more : {A : Type 0} → (Token → Bool) → Reader A → A → Reader (List A)
more test r x ts = (turns (length ts) test r >>= λ xs. found (x ∷ xs)) ts

-- none or more
abbrev pub any : {A : Type 0} → (Token → Bool) → Reader A → Reader (List A)
any test r ts = turns (length ts) test r ts

-- one or more
abbrev pub some : {A : Type 0} → (Token → Bool) → Reader A → Reader (List A)
some test r = r >>= more test r

-- What a function answers, seen by a view, is what the reader gives, unless memory ran out.
abbrev pub Stops : {B : Type 0} → Stop → Result B ℕ → Type 0
Stops (stops.Wanted left) read = read ≡ Err left
Stops (stops.Memory error) read = Unit {0}

abbrev pub Gives : {A B : Type 0} → (A → B) → Result A Stop → Result B ℕ → Type 0
Gives view (Ok x) read = read ≡ Ok (view x)
Gives view (Err stop) read = Stops stop read
