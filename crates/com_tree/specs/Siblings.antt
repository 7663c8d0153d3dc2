-- Names of siblings, level by level, for the private functions that take them.
use Rattle.std.specs.Prelude.{ℕ, ◌-◌, List, [], ◌∷◌, ◌++◌, map, take, unwrap_or, slice_get}
use Rattle.std.specs.Borrow.{Bor}
use Rattle.std.specs.declared.hash.FoldHasher.{FoldHasher}
use Rattle.std.specs.declared.hash.BuildHasherDefault.{BuildHasherDefault}
use Rattle.std.specs.declared.alloc.Global.{Global}
use Rattle.indexmap.specs.declared.set.IndexSet.{IndexSet}

-- the names that are taken, level by level
abbrev pub taken_names : List (IndexSet (Bor (List ℕ)) (BuildHasherDefault FoldHasher) Global FoldHasher) → List (List (List ℕ))
taken_names levels = map (λ siblings. map (λ name. name.now) siblings.keys) levels

-- the names that are taken at a level
abbrev pub names_at : ℕ → List (List (List ℕ)) → List (List ℕ)
names_at level levels = unwrap_or (slice_get levels (level - 1)) []

-- one more name is taken at a level, and none below it: what follows has other parents there
abbrev pub with_name : ℕ → List ℕ → List (List (List ℕ)) → List (List (List ℕ))
with_name level name levels = take (level - 1) levels ++ (names_at level levels ++ name ∷ []) ∷ []
