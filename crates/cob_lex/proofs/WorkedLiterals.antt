-- How many characters a literal may have, worked out by hand: more of them than a line holds.
use Rattle.std.proofs.Common.{◌≡◌, ℕ, zero, suc, true, false, List, [], ◌∷◌, refl}
use Rattle.cob_lex.specs.Literals.{is_literal}

-- so many quotation marks
abbrev marks : ℕ → List ℕ
marks zero = []
marks (suc n) = 34 ∷ marks n

-- so many letters, and quotation marks after them
abbrev letters : ℕ → List ℕ → List ℕ
letters zero behind = behind
letters (suc n) behind = 65 ∷ letters n behind

-- at most 120
as_long_as_may_be : is_literal (letters 120 []) ≡ true
as_long_as_may_be = refl

too_long : is_literal (letters 121 []) ≡ false
too_long = refl

-- two quotation marks inside are one of them
marks_count_once : is_literal (letters 20 (marks 200)) ≡ true
marks_count_once = refl

one_mark_too_many : is_literal (letters 20 (marks 202)) ≡ false
one_mark_too_many = refl

-- at least one
no_character : is_literal [] ≡ false
no_character = refl
