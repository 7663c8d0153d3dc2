-- An area with a part written over.
use Rattle.std.proofs.Common.{◌≡◌, ℕ, ◌+◌, ◌≤◌, List, ◌++◌, length, take, drop, arith, length-append, length-drop}
use Rattle.std.proofs.lemmas.List.{length-take-le}
use Rattle.com_text.specs.Text.{IsText}
use Rattle.com_text.proofs.Texts.{IsText-append, IsText-take, IsText-drop}
use Rattle.com_cd.specs.Parts.{with_part}

-- a text over a part of a text leaves a text
pub IsText-with_part : (start width : ℕ) (area value : List ℕ) → IsText area → IsText value → IsText (with_part start width area value)
IsText-with_part start width area value h v =
    IsText-append (take start area ++ value) _ (IsText-append (take start area) value (IsText-take start area h) v) (IsText-drop (start + width) area h)

-- a part that is replaced by as many leaves the length
pub length-with_part : (start width : ℕ) (area value : List ℕ) → start + width ≤ length area → length value ≡ width
    → length (with_part start width area value) ≡ length area
length-with_part start width area value within same =
    omega (
      arith,
      length-append (take start area ++ value) (drop (start + width) area),
      length-append (take start area) value,
      length-take-le start area (omega arith),
      length-drop (start + width) area,
    )
