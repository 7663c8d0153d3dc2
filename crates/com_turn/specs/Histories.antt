-- Lists that only grow, each item of which has an owner.
use Rattle.std.specs.Prelude.{◌≡◌, ℕ, ◌==◌, nat_lt, List, ◌++◌, length, drop, filter, if◌then◌else◌}

-- the whole list begins with this front
abbrev pub IsPrefixOf : {X : Type 0} → List X → List X → Type 0
IsPrefixOf {X} front whole = (rest : List X) × (whole ≡ front ++ rest)

-- the items of one owner, past the first so many
abbrev pub items_of : {X : Type 0} → (X → ℕ) → ℕ → ℕ → List X → List X
items_of owner party past xs = filter (λ x. owner x == party) (drop past xs)

-- What was seen is a front of the whole list, and all items of this owner, past the first so many, stand in it.
pub record HasSeen {X : Type 0} (owner : X → ℕ) (party past : ℕ) (whole seen : List X) : Type 0 where
  pub front : IsPrefixOf seen whole
  pub own : items_of owner party past seen ≡ items_of owner party past whole

abbrev pub longer : {X : Type 0} → List X → List X → List X
longer xs ys = if nat_lt (length xs) (length ys) then ys else xs
