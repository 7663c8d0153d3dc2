-- Worked lists of toggles and of entries, computed by the definitions.
use Rattle.std.proofs.Common.{◌≡◌, ℕ, true, false, List, [], ◌∷◌, refl}
use Rattle.com_turn.specs.declared.view.Toggle.{Toggle}
use Rattle.com_turn.specs.Histories.{items_of, longer}
use Rattle.com_turn.specs.Toggles.{toggle_of, is_active, active_count}

abbrev owner_of : ℕ × ℕ → ℕ
owner_of item = item.0

-- two entries at the opening, then entries of the parties 1, 0 and 1
abbrev log : List (ℕ × ℕ)
log = (1, 90) ∷ (0, 91) ∷ (1, 10) ∷ (0, 20) ∷ (1, 11) ∷ []

own_of_1 : items_of owner_of 1 2 log ≡ (1, 10) ∷ (1, 11) ∷ []
own_of_1 = refl

own_of_0 : items_of owner_of 0 2 log ≡ (0, 20) ∷ []
own_of_0 = refl

own_of_2 : items_of owner_of 2 2 log ≡ []
own_of_2 = refl

-- 0 enters, 2 enters, 0 leaves, 1 enters
abbrev toggles : List Toggle
toggles = toggle_of 0 true ∷ toggle_of 2 true ∷ toggle_of 0 false ∷ toggle_of 1 true ∷ []

left : is_active 0 toggles ≡ false
left = refl

entered : is_active 2 toggles ≡ true
entered = refl

never_entered : is_active 3 toggles ≡ false
never_entered = refl

two_of_four : active_count 4 toggles ≡ 2
two_of_four = refl

nobody_yet : active_count 4 [] ≡ 0
nobody_yet = refl

abbrev short : List ℕ
short = 1 ∷ []

abbrev long : List ℕ
long = 1 ∷ 2 ∷ []

longer_second : longer short long ≡ long
longer_second = refl

longer_first : longer long short ≡ long
longer_first = refl
