-- What is moved or compared, as it is kept.
use Rattle.std.specs.Prelude.{ℕ, ◌≤◌, length}
use Rattle.com_text.specs.declared.decimal.TheConstants.{MAX_DIGITS}
use Rattle.cob_meaning.specs.Moves as moves
use Rattle.cob_run.specs.declared.content.Content.{Content}
use Rattle.cob_run.specs.declared.content.Content.TheVariants.{Number, Text, Group, Spaces, Zeros}

-- what is moved or compared
abbrev pub shown : Content → moves.Content
shown (Number digits) = moves.a_number digits.now
shown (Text characters) = moves.a_text characters.now
shown (Group characters) = moves.a_group characters.now
shown Spaces = moves.all_spaces
shown Zeros = moves.all_zeros

-- a number has at most 18 digits
abbrev pub IsReadable : moves.Content → Type 0
IsReadable (moves.a_number digits) = length digits ≤ MAX_DIGITS
IsReadable _ = Unit {0}
