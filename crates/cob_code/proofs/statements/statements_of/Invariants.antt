use Rattle.std.proofs.Common.{◌≡◌, ◌++◌, drop}
use Rattle.std.specs.Prelude.{flat_map}
use Rattle.cob_code.specs.inner.Written.{shown}
use Rattle.cob_code.proofs.Rows.{in_list}
use Rattle.cob_code.proofs.statements.statements_of.Given as goal

abbrev pub invariant-sentences : goal.invariant-sentences
invariant-sentences l = shown l.list.items ++ flat_map (λ sentence. in_list sentence.items) (drop l.sentence-index l.sentence-items) ≡ flat_map (λ sentence. in_list sentence.items) l.sentence-items
