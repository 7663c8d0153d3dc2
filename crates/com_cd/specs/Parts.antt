-- Parts of an area: so many characters from a place on.
use Rattle.std.specs.Prelude.{ℕ, ◌+◌, List, ◌++◌, take, drop, slice_range}

-- the characters of a part
abbrev pub part : ℕ → ℕ → List ℕ → List ℕ
part start width area = slice_range area start (start + width)

-- the area with these characters in a part, and all others as before
abbrev pub with_part : ℕ → ℕ → List ℕ → List ℕ → List ℕ
with_part start width area value = take start area ++ value ++ drop (start + width) area
