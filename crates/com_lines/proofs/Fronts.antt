-- Lists that begin with another list.
use Rattle.std.proofs.Common.{◌≡◌, ℕ, ◌≤◌, List, ◌++◌, length, take, arith, ap, refl, sym, ◌∙◌}
use Rattle.std.proofs.lemmas.List.{take-take, length-take, take_at}

-- what begins with a list that begins with another begins with that one
pub front_over : (first middle last : List ℕ) → take (length middle) last ≡ middle → take (length first) middle ≡ first → take (length first) last ≡ first
front_over first middle last e f =
    let le : length first ≤ length middle = omega (arith, ap length f, length-take (length first) middle) in
    sym (take-take (length first) (length middle) last le) ∙ (ap (take (length first)) e ∙ f)

-- what begins with a longer list begins with its front
pub front_of : (first more last : List ℕ) → take (length (first ++ more)) last ≡ first ++ more → take (length first) last ≡ first
front_of first more last e = front_over first (first ++ more) last e (take_at first more (length first) refl)
