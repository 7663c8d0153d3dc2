use Rattle.std.proofs.Common.{◌≡◌, ◌≤◌, ◌+◌, ◌*◌, ◌++◌, length, take}
use Rattle.std.specs.List.{All, flat_map}
use Rattle.com_text.specs.Name.{IsName, field_of}
use Rattle.com_cd.proofs.designation.path_in.Given as goal

-- the names so far, and the fields that are left below them
abbrev pub invariant-loop-below : goal.invariant-loop-below
invariant-loop-below l = record {
  some : 1 ≤ length l.path;
  names : All IsName l.path;
  room : 12 * length l.path + length l.below ≡ 48;
  fields : flat_map field_of l.path ++ l.below ≡ take 48 l.area;
}

abbrev pub decreases-loop-below : goal.decreases-loop-below
decreases-loop-below l = length l.below
