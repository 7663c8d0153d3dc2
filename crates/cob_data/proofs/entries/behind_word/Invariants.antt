use Rattle.std.proofs.Common.{◌≡◌, length}
use Rattle.cob_forms.specs.Sorts.{is, reserved}
use Rattle.cob_data.specs.Entries.{behind}
use Rattle.cob_data.proofs.entries.behind_word.Given as goal

abbrev pub invariant-tokens : goal.invariant-tokens
invariant-tokens l = behind (is (reserved l.word)) l.rest ≡ behind (is (reserved l.word)) l.tokens

abbrev pub decreases-tokens : goal.decreases-tokens
decreases-tokens l = length l.rest
