-- The front of a list.
use Rattle.std.specs.Prelude.{◌≡◌, List, ◌++◌}

-- the whole is the front, and something or nothing after it
abbrev pub IsPrefixOf : {X : Type 0} → List X → List X → Type 0
IsPrefixOf {X} front whole = (rest : List X) × (whole ≡ front ++ rest)
