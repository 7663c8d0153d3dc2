use Rattle.std.proofs.Common.{◌≡◌, [], map, drop}
use Rattle.std.specs.Prelude.{find, unwrap_or}
use Rattle.cob_data.specs.Entries.{has}
use Rattle.cob_data.proofs.cds.first_word.Given as goal

abbrev pub invariant-pairs : goal.invariant-pairs
invariant-pairs g l =
    unwrap_or (find (λ word. has word l.clause) (map (λ pair. pair.0.now) (drop l.pair-index l.pairs))) []
    ≡ unwrap_or (find (λ word. has word l.clause) (map (λ pair. pair.0.now) l.pairs)) []
