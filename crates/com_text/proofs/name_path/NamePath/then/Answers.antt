use Rattle.std.proofs.Common.{◌≡◌, ℕ, zero, suc, ◌+◌, ◌<◌, ◌≤◌, List, [], ◌∷◌, length, take, set, arith}
use Rattle.std.proofs.lemmas.Grind.{common_steps}
use Rattle.com_text.specs.Name.{filled_path}
use Rattle.com_text.proofs.name_path.NamePath.then.Goals as goal

-- a path stays filled up with its first name where the name after it is written
filled_path-set : (names : List (List ℕ)) (count : ℕ) (next : List ℕ) → 1 ≤ count → count < 4 → length names ≡ 4
    → names ≡ filled_path (take count names) → set names count next ≡ filled_path (take (count + 1) (set names count next))
filled_path-set (a ∷ b ∷ c ∷ d ∷ []) (suc zero) next _ _ _ h = cc
filled_path-set (a ∷ b ∷ c ∷ d ∷ []) (suc (suc zero)) next _ _ _ h = cc
filled_path-set (a ∷ b ∷ c ∷ d ∷ []) (suc (suc (suc zero))) next _ _ _ h = cc
filled_path-set [] count next _ _ four h = absurd (omega arith)
filled_path-set (a ∷ []) count next _ _ four h = absurd (omega arith)
filled_path-set (a ∷ b ∷ []) count next _ _ four h = absurd (omega arith)
filled_path-set (a ∷ b ∷ c ∷ []) count next _ _ four h = absurd (omega arith)
filled_path-set (a ∷ b ∷ c ∷ d ∷ []) zero next some _ _ h = absurd (omega arith)
filled_path-set (a ∷ b ∷ c ∷ d ∷ []) (suc (suc (suc (suc n)))) next _ few _ h = absurd (omega arith)
filled_path-set (a ∷ b ∷ c ∷ d ∷ e ∷ f) count next _ _ four h = absurd (omega arith)

pub invariant_of-result : goal.invariant_of-result
invariant_of-result c =
    grind (arith, common_steps, filled_path-set)
