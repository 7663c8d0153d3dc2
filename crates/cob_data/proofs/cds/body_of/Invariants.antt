use Rattle.std.proofs.Common.{◌≡◌, ◌||◌, length, codes}
use Rattle.cob_forms.specs.Sorts.{is, reserved}
use Rattle.cob_data.specs.Entries.{behind}
use Rattle.cob_data.specs.Clauses.{body_of}
use Rattle.cob_data.proofs.cds.body_of.Given as goal

abbrev pub invariant-tokens : goal.invariant-tokens
invariant-tokens l = behind (λ t. is (reserved (codes "INPUT")) t || is (reserved (codes "OUTPUT")) t) l.rest ≡ body_of l.entry

abbrev pub decreases-tokens : goal.decreases-tokens
decreases-tokens l = length l.rest
