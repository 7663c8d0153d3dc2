-- Forms as lists of parts, and where reading by them stops.
use Rattle.std.specs.Prelude.{ℕ, Bool, true, false, List, [], ◌∷◌, ◌++◌, length, Option, Some, None, is_some, if◌then◌else◌}
use Rattle.cob_lex.specs.declared.token.Token.{Token}
use Rattle.cob_forms.specs.Sorts.{Sort, is}

-- a part of a form
pub data Part (Form : Type 0) : Type 0 where
  -- a token of a sort
  token : Sort → Part Form
  -- a form
  form : Form → Part Form
  -- a form that may be left out
  maybe : Form → Part Form
  -- further turns of a form, or none
  more : Form → Part Form
  -- no token of a sort comes next
  never : Sort → Part Form

-- A form by the sorts of token with which it may begin, each with the parts behind that token. What begins
-- alike is one alternative, so it is read together as far as it is alike.
abbrev pub Alternatives : Type 0 → Type 0
Alternatives Form = List (Sort × List (Part Form))

-- alternatives with further parts behind each
abbrev pub with_tail : {Form : Type 0} → List (Part Form) → Alternatives Form → Alternatives Form
with_tail tail [] = []
with_tail tail (alternative ∷ alternatives) = (alternative.0, alternative.1 ++ tail) ∷ with_tail tail alternatives

-- the parts behind a token with which a form begins
abbrev pub behind : {Form : Type 0} → Alternatives Form → Token → Option (List (Part Form))
behind [] t = None
behind (alternative ∷ alternatives) t = if is alternative.0 t then Some alternative.1 else behind alternatives t

-- whether a token is of a sort with which a form begins
abbrev pub starts : {Form : Type 0} → Alternatives Form → Token → Bool
starts alternatives t = is_some (behind alternatives t)

-- the parts of a form that was entered, before those below it
abbrev pub entered : {Form : Type 0} → Option (List (Part Form)) → List (Part Form) → Option (List (Part Form)) → Option (List (Part Form))
entered None below other = other
entered (Some parts) below other = Some (parts ++ below)

-- The parts that are left behind a token: none where it is of none of the sorts that may come next. An
-- optional part and a further turn are entered exactly where the token is of a sort with which they begin.
unfoldable pub next : {Form : Type 0} → (Form → Alternatives Form) → List (Part Form) → Token → Option (List (Part Form))
next alternatives_of [] t = None
next alternatives_of (token sort ∷ below) t = if is sort t then Some below else None
next alternatives_of (form f ∷ below) t = entered (behind (alternatives_of f) t) below None
next alternatives_of (maybe f ∷ below) t = entered (behind (alternatives_of f) t) below (next alternatives_of below t)
next alternatives_of (more f ∷ below) t = entered (behind (alternatives_of f) t) (more f ∷ below) (next alternatives_of below t)
next alternatives_of (never sort ∷ below) t = if is sort t then None else next alternatives_of below t

-- no part that is left has to come
abbrev pub may_end : {Form : Type 0} → List (Part Form) → Bool
may_end [] = true
may_end (token sort ∷ below) = false
may_end (form f ∷ below) = false
may_end (maybe f ∷ below) = may_end below
may_end (more f ∷ below) = may_end below
may_end (never sort ∷ below) = may_end below

-- How reading ends: all parts were read, and these tokens are left; or another token was wanted where so
-- many tokens are left, none where the tokens end too early.
pub data Reading : Type 0 where
  ends : List Token → Reading
  wanted : ℕ → Reading

abbrev pub goes_on : {Form : Type 0} → Option (List (Part Form)) → (List (Part Form) → Reading) → ℕ → Reading
goes_on None others left = wanted left
goes_on (Some parts) others left = others parts

-- reading goes over the tokens once, from left to right
unfoldable pub reading : {Form : Type 0} → (Form → Alternatives Form) → List (Part Form) → List Token → Reading
reading alternatives_of [] ts = ends ts
reading alternatives_of (part ∷ parts) [] = if may_end (part ∷ parts) then ends [] else wanted 0
reading alternatives_of (part ∷ parts) (t ∷ ts) =
    goes_on (next alternatives_of (part ∷ parts) t) (λ left. reading alternatives_of left ts) (length (t ∷ ts))
