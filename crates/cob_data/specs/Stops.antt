-- Where reading goes on behind some parts, and where it stops in them.
use Rattle.std.specs.Prelude.{◌≡◌, ℕ, List, [], ◌∷◌, ◌++◌, Some, None}
use Rattle.cob_lex.specs.declared.token.Token.{Token}
use Rattle.cob_forms.specs.Forms.{Part, behind, reading, wanted}
use Rattle.cob_data.specs.Forms.{Form, alternatives_of}

-- reading goes on with what is left behind the parts, whatever part comes next
abbrev pub ReadsTo : List (Part Form) → List Token → List Token → Type 0
ReadsTo parts ts rest = (part : Part Form) (below : List (Part Form))
    → reading alternatives_of (parts ++ part ∷ below) ts
    ≡ reading alternatives_of (part ∷ below) rest

-- reading stops in the parts, with so many tokens left
abbrev pub StopsAt : List (Part Form) → List Token → ℕ → Type 0
StopsAt parts ts left = (part : Part Form) (below : List (Part Form))
    → reading alternatives_of (parts ++ part ∷ below) ts ≡ wanted left

-- The form begins with the first of the tokens, and has these parts behind it.
abbrev pub BeginsWith : Form → List Token → List (Part Form) → List Token → Type 0
BeginsWith form [] parts rest = ⊥
BeginsWith form (t ∷ ts) parts rest = (behind (alternatives_of form) t ≡ Some parts) × (ts ≡ rest)

-- The form does not begin with the first of the tokens, or there is none.
abbrev pub BeginsNot : Form → List Token → Type 0
BeginsNot form [] = Unit {0}
BeginsNot form (t ∷ ts) = behind (alternatives_of form) t ≡ None
