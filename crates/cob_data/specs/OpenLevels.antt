-- The levels that are open at an item: those of the items before it below which items may still
-- stand.
use Rattle.std.specs.Prelude.{ℕ, Bool, false, not, ◌&&◌, ◌||◌, ◌==◌, nat_lt, if◌then◌else◌, List, [], ◌∷◌, ◌++◌}
use Rattle.cob_lex.specs.declared.fault.SourceFault.{SourceFault}
use Rattle.cob_lex.specs.declared.fault.SourceKind.TheVariants as faults
use Rattle.cob_lex.specs.declared.token.Token.{Token}
use Rattle.cob_data.specs.declared.open_levels.Level.{Level}
use Rattle.cob_data.specs.Numerals.{numeral}
use Rattle.cob_data.specs.Entries.{first_token}
use Rattle.cob_data.specs.Levels.{is_group, is_level, rank, sort_of_item}
use Rattle.cob_data.specs.Faults.{first_text, unless}

-- An open level has its rank, whether its item is a group, and the rank of the first item below the
-- open level before it. The last one is first in a list of them.
abbrev pub level : ℕ → Bool → ℕ → Level
level rank is_group first = record { rank = rank; is_group = is_group; first = first }

-- The rank of the first item below the levels that stay open at an item of a rank, and these
-- levels. The one that is given is that of the item behind the last level.
abbrev pub closed : ℕ → ℕ → List Level → ℕ × List Level
closed own first [] = (first, [])
closed own first (x ∷ levels) =
    if nat_lt x.rank own then (first, x ∷ levels) else closed own x.first levels

-- the last level that stays open is that of a group, whose first item has this rank
abbrev pub is_under : ℕ → ℕ → List Level → Bool
is_under own first [] = false
is_under own first (x ∷ levels) = x.is_group && own == first

-- an item of a rank stands under a group whose first item has this rank
abbrev pub stands_under : ℕ → List Level → Bool
stands_under own levels = is_under own (closed own own levels).0 (closed own own levels).1

-- the levels that are open behind an item
abbrev pub open_after : List Token → List Level → List Level
open_after item levels =
    level (rank item) (is_group (sort_of_item item)) (closed (rank item) (rank item) levels).0
    ∷ (closed (rank item) (rank item) levels).1

-- a level is right, by whether its item stands under such a group
abbrev pub is_level_under : Bool → Bool → List Token → Bool
is_level_under over_cd under item =
    is_level (first_text item) && not (over_cd && numeral (first_text item) == 77)
    && (rank item == 1 || under)

-- the faults of levels, by those that are open
abbrev pub open_faults : Bool → List Level → List (List Token) → List SourceFault
open_faults over_cd levels [] = []
open_faults over_cd levels (item ∷ items) =
    unless (is_level_under over_cd (stands_under (rank item) levels) item) faults.WrongKind (first_token item)
    ++ open_faults over_cd (open_after item levels) items
