-- Tokens with which a limit is passed.
use Rattle.std.specs.Prelude.{ℕ, Bool, ◌&&◌, ◌||◌, ◌==◌, nat_le, if◌then◌else◌, List, [], ◌∷◌, ◌++◌, length, Option, Some, None, Result, Ok, Err, codes}
use Rattle.cob_lex.specs.declared.token.Token.{Token}
use Rattle.cob_forms.specs.Sorts.{is, reserved}
use Rattle.cob_proc.specs.declared.limits.TheConstants.{MAX_IFS, MAX_PARAGRAPHS}
use Rattle.cob_proc.specs.Faults.{names_paragraph, open_behind, paragraph_names}

-- the last of some tokens, or else the one before them
abbrev pub last_or : Option Token → List Token → Option Token
last_or before [] = before
last_or before (t ∷ ts) = last_or (Some t) ts

-- the IFs that are open behind some tokens
abbrev pub ifs_behind : List Bool → List Token → List Bool
ifs_behind ifs [] = ifs
ifs_behind ifs (t ∷ ts) = ifs_behind (open_behind ifs t) ts

-- A token behind some others passes a limit: it is an IF in as many as may be, or names a paragraph where
-- as many stand as may be.
abbrev pub passes_limit : List Token → Token → Bool
passes_limit ts t =
    (is (reserved (codes "IF")) t && nat_le MAX_IFS (length (ifs_behind [] ts)))
    || (names_paragraph (last_or None ts) t && length (paragraph_names None ts) == MAX_PARAGRAPHS)

-- how many tokens stand before the first with which a limit is passed, where some were looked at
abbrev pub place_behind : List Token → List Token → Option ℕ
place_behind front [] = None
place_behind front (t ∷ ts) = if passes_limit front t then Some (length front) else place_behind (front ++ t ∷ []) ts

abbrev pub limit_place : List Token → Option ℕ
limit_place ts = place_behind [] ts

-- how many tokens are left where reading stops: none where it goes over all of them
abbrev pub left_of : {A : Type 0} → Result A ℕ → ℕ
left_of (Ok x) = 0
left_of (Err left) = left
