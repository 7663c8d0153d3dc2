-- Lists by name, as a `BTreeMap` holds them.
use Rattle.std.specs.Prelude.{List, map, string_bytes}
use Rattle.std.specs.Ordering.{nat_cmp}
use Rattle.std.specs.Cmp.Lexicographic.{slice_cmp}
use Rattle.std.specs.FinMap.{FinMap, from_entries}
use Rattle.std.specs.declared.string.String.{String}
use Rattle.std.specs.declared.vec.Vec.{Vec}

-- the list that each name has
abbrev pub lists_by_name : {X Y Z : Type 0} → List (String Y × Vec X Z)
    → FinMap (slice_cmp nat_cmp) (List X)
lists_by_name es = from_entries (map (λ e. (string_bytes e.0, e.1.items)) es)
