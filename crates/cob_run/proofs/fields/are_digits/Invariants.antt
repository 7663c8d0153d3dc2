use Rattle.std.proofs.Common.{◌≡◌, drop}
use Rattle.std.specs.Str.{all_ascii_digits}
use Rattle.cob_run.proofs.fields.are_digits.Given as goal

abbrev pub invariant-loop-character : goal.invariant-loop-character
invariant-loop-character l = all_ascii_digits (drop l.character-index l.characters) ≡ all_ascii_digits l.characters
