-- The numbers of names in a list.
use Rattle.std.specs.Prelude.{◌≡◌, ℕ, Option, List, bytes_eq}
use Rattle.std.specs.Borrow.{Bor}
use Rattle.std.specs.List.{position_from}
use Rattle.std.specs.Map.{lookup}
use Rattle.indexmap.specs.IndexMap.{IndexMap}

-- the number of the first that is a name
abbrev pub number_in : List (List ℕ) → List ℕ → Option ℕ
number_in names name = position_from (λ other. bytes_eq other name) 0 names

-- each name has its number
abbrev pub AreNumbered : {S : Type 0} → IndexMap (Bor (List ℕ)) ℕ S → List (List ℕ) → Type 0
AreNumbered numbers names = (name : List ℕ) → lookup (λ other. bytes_eq name other.now) numbers.entries ≡ number_in names name
