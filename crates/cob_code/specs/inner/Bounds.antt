-- Which paragraphs GOs may name.
use Rattle.std.specs.Prelude.{ℕ, Bool, ◌&&◌, ◌||◌, not, nat_le, List, slice_index_or}
use Rattle.cob_code.specs.declared.bounds.Bounds.{Bounds}
use Rattle.cob_code.specs.declared.ranges.Range.{Range}

-- a paragraph is within bounds
abbrev pub holds : Bounds → ℕ → Bool
holds bounds to = nat_le bounds.first to && nat_le to bounds.last

-- a paragraph is within the bounds of another one
abbrev pub keeps : List Bounds → ℕ → ℕ → Bool
keeps bounds from to = holds (slice_index_or bounds from (record { first = 0; last = 0 })) to

-- a paragraph is in a range
abbrev pub is_in : Range → ℕ → Bool
is_in range k = nat_le range.first k && nat_le k range.last

-- from a paragraph in a range one leads to a paragraph in it
abbrev pub stays_in : ℕ → ℕ → Range → Bool
stays_in from to range = not (is_in range from) || is_in range to
