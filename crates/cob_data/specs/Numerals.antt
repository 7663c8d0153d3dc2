-- The numbers of levels and tables.
use Rattle.std.specs.Prelude.{ℕ, List, if◌then◌else◌}
use Rattle.com_text.specs.Digits.{number}
use Rattle.cob_lex.specs.Fronts.{is_number}

-- the number that digits write, and 0 where a text is no number
abbrev pub numeral : List ℕ → ℕ
numeral digits = if is_number digits then number digits else 0
