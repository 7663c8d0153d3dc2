use Rattle.std.proofs.Common.{◌≡◌, ◌++◌, not, map, filter, length}
use Rattle.cob_data.specs.Entries.{described}
use Rattle.cob_data.proofs.runs.described.Given as goal

abbrev pub invariant-entries : goal.invariant-entries
invariant-entries l = l.list.items ++ map (λ x. x.1) (filter (λ x. not x.0) l.entries) ≡ described l.fn.tokens

abbrev pub decreases-entries : goal.decreases-entries
decreases-entries l = length l.entries
