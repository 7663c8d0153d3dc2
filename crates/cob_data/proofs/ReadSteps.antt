-- If reading comes to its end, each part was read: one step a kind of part.
use Rattle.std.proofs.Common.{◌≡◌, ℕ, Bool, true, false, List, [], ◌∷◌, ◌++◌, length, Option, Some, None, refl, inl, inr}
use Rattle.std.specs.Prelude.{◌⊎◌, if◌then◌else◌}
use Rattle.cob_lex.specs.declared.token.Token.{Token}
use Rattle.cob_forms.specs.Sorts.{Sort, is}
use Rattle.cob_forms.specs.Forms.{Alternatives, Part, token, form, maybe, more, behind, ends, entered, goes_on, may_end, next, reading, wanted}
use Rattle.cob_data.specs.Forms.{Form, alternatives_of}

-- reading by these parts comes to its end, with these tokens left
abbrev pub Reads : List (Part Form) → List Token → List Token → Type 0
Reads parts ts rest = reading alternatives_of parts ts ≡ ends rest

-- The first token was taken, and the others are read by the parts below.
pub record Taken (test : Token → Type 0) (below : List (Part Form)) (ts rest : List Token) : Type 0 where
  pub one : Token
  pub others : List Token
  pub whole : ts ≡ one ∷ others
  pub here : test one
  pub read : Reads below others rest

-- A form was entered: its parts come before those below.
pub record Entered (f : Form) (below : List (Part Form)) (ts rest : List Token) : Type 0 where
  pub parts : List (Part Form)
  pub taken : Taken (λ t. behind (alternatives_of f) t ≡ Some parts) (parts ++ below) ts rest

no_end : (left : ℕ) (rest : List Token) → wanted left ≡ ends rest → ⊥
no_end left rest h = cc

none_left : (b : Bool) (rest : List Token) → b ≡ false → (if b then ends [] else wanted 0) ≡ ends rest → ⊥
none_left true rest e h = cc
none_left false rest e h = no_end 0 rest h

-- a part that has to come needs a token
pub some_left : (parts : List (Part Form)) (rest : List Token) → may_end parts ≡ false → Reads parts [] rest → ⊥
unfolding reading
some_left [] rest e h = cc
some_left (part ∷ parts) rest e h = none_left (may_end (part ∷ parts)) rest e h

-- A TOKEN

token_by : (b : Bool) (sort : Sort) (below : List (Part Form)) (t : Token) (ts rest : List Token) → is sort t ≡ b
    → goes_on (if b then Some below else None) (λ left. reading alternatives_of left ts) (length (t ∷ ts)) ≡ ends rest
    → Taken (λ u. is sort u ≡ true) below (t ∷ ts) rest
token_by true sort below t ts rest e h = record { one = t; others = ts; whole = refl; here = e; read = h }
token_by false sort below t ts rest e h = absurd (no_end (length (t ∷ ts)) rest h)

pub token_step : (sort : Sort) (below : List (Part Form)) (ts rest : List Token) → Reads (token sort ∷ below) ts rest → Taken (λ u. is sort u ≡ true) below ts rest
unfolding reading next
token_step sort below [] rest h = absurd (no_end 0 rest h)
token_step sort below (t ∷ ts) rest h = token_by (is sort t) sort below t ts rest refl h

-- A FORM

form_by : (o : Option (List (Part Form))) (f : Form) (below : List (Part Form)) (t : Token) (ts rest : List Token) → behind (alternatives_of f) t ≡ o
    → goes_on (entered o below None) (λ left. reading alternatives_of left ts) (length (t ∷ ts)) ≡ ends rest
    → Entered f below (t ∷ ts) rest
form_by (Some parts) f below t ts rest e h = record { parts = parts; taken = record { one = t; others = ts; whole = refl; here = e; read = h } }
form_by None f below t ts rest e h = absurd (no_end (length (t ∷ ts)) rest h)

pub form_step : (f : Form) (below : List (Part Form)) (ts rest : List Token) → Reads (form f ∷ below) ts rest → Entered f below ts rest
unfolding reading next
form_step f below [] rest h = absurd (no_end 0 rest h)
form_step f below (t ∷ ts) rest h = form_by (behind (alternatives_of f) t) f below t ts rest refl h

-- A FORM THAT MAY BE LEFT OUT

-- The form was left out, since it does not begin with the first token.
pub record LeftOut (f : Form) (below : List (Part Form)) (ts rest : List Token) : Type 0 where
  pub one : Token
  pub others : List Token
  pub whole : ts ≡ one ∷ others
  pub here : behind (alternatives_of f) one ≡ None
  pub read : Reads below ts rest

maybe_by : (o : Option (List (Part Form))) (f : Form) (p : Part Form) (below : List (Part Form)) (t : Token) (ts rest : List Token) → behind (alternatives_of f) t ≡ o
    → goes_on (entered o (p ∷ below) (next alternatives_of (p ∷ below) t)) (λ left. reading alternatives_of left ts) (length (t ∷ ts)) ≡ ends rest
    → Entered f (p ∷ below) (t ∷ ts) rest ⊎ LeftOut f (p ∷ below) (t ∷ ts) rest
unfolding reading
maybe_by (Some parts) f p below t ts rest e h = inl (record { parts = parts; taken = record { one = t; others = ts; whole = refl; here = e; read = h } })
maybe_by None f p below t ts rest e h = inr (record { one = t; others = ts; whole = refl; here = e; read = h })

pub maybe_step : (f : Form) (p : Part Form) (below : List (Part Form)) (ts rest : List Token) → may_end (p ∷ below) ≡ false → Reads (maybe f ∷ p ∷ below) ts rest
    → Entered f (p ∷ below) ts rest ⊎ LeftOut f (p ∷ below) ts rest
unfolding reading next
maybe_step f p below [] rest e h = absurd (none_left (may_end (p ∷ below)) rest e h)
maybe_step f p below (t ∷ ts) rest e h = maybe_by (behind (alternatives_of f) t) f p below t ts rest refl h

-- FURTHER TURNS OF A FORM

-- A further turn was entered, and the form may have more turns after it.
pub record Turned (f : Form) (below : List (Part Form)) (ts rest : List Token) : Type 0 where
  pub parts : List (Part Form)
  pub taken : Taken (λ t. behind (alternatives_of f) t ≡ Some parts) (parts ++ more f ∷ below) ts rest

more_by : (o : Option (List (Part Form))) (f : Form) (p : Part Form) (below : List (Part Form)) (t : Token) (ts rest : List Token) → behind (alternatives_of f) t ≡ o
    → goes_on (entered o (more f ∷ p ∷ below) (next alternatives_of (p ∷ below) t)) (λ left. reading alternatives_of left ts) (length (t ∷ ts)) ≡ ends rest
    → Turned f (p ∷ below) (t ∷ ts) rest ⊎ LeftOut f (p ∷ below) (t ∷ ts) rest
unfolding reading
more_by (Some parts) f p below t ts rest e h = inl (record { parts = parts; taken = record { one = t; others = ts; whole = refl; here = e; read = h } })
more_by None f p below t ts rest e h = inr (record { one = t; others = ts; whole = refl; here = e; read = h })

pub more_step : (f : Form) (p : Part Form) (below : List (Part Form)) (ts rest : List Token) → may_end (p ∷ below) ≡ false → Reads (more f ∷ p ∷ below) ts rest
    → Turned f (p ∷ below) ts rest ⊎ LeftOut f (p ∷ below) ts rest
unfolding reading next
more_step f p below [] rest e h = absurd (none_left (may_end (p ∷ below)) rest e h)
more_step f p below (t ∷ ts) rest e h = more_by (behind (alternatives_of f) t) f p below t ts rest refl h

-- ALTERNATIVES

-- The first alternative was entered, or one of the others.
pub record Here (sort : Sort) (own parts : List (Part Form)) (t : Token) : Type 0 where
  pub test : is sort t ≡ true
  pub same : own ≡ parts

pub record There (sort : Sort) (others : Alternatives Form) (parts : List (Part Form)) (t : Token) : Type 0 where
  pub test : is sort t ≡ false
  pub found : behind others t ≡ Some parts

alternative_by : (b : Bool) (sort : Sort) (own parts : List (Part Form)) (others : Alternatives Form) (t : Token) → is sort t ≡ b
    → (if b then Some own else behind others t) ≡ Some parts → Here sort own parts t ⊎ There sort others parts t
alternative_by true sort own parts others t e h = inl (record { test = e; same = cc })
alternative_by false sort own parts others t e h = inr (record { test = e; found = h })

pub alternative : (sort : Sort) (own : List (Part Form)) (others : Alternatives Form) (parts : List (Part Form)) (t : Token) → behind ((sort, own) ∷ others) t ≡ Some parts
    → Here sort own parts t ⊎ There sort others parts t
alternative sort own others parts t h = alternative_by (is sort t) sort own parts others t refl h

pub no_alternative : (t : Token) (parts : List (Part Form)) → behind {Form = Form} [] t ≡ Some parts → ⊥
no_alternative t parts h = cc
