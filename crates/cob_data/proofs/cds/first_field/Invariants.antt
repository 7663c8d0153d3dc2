use Rattle.std.proofs.Common.{◌≡◌, ℕ, List, map, drop}
use Rattle.std.specs.Prelude.{find, option_map}
use Rattle.cob_data.specs.Entries.{has}
use Rattle.cob_data.proofs.cds.first_field.Given as goal

abbrev pub invariant-pairs : goal.invariant-pairs
invariant-pairs g l =
    option_map {T = List ℕ × g.row.F.Denot} (λ pair. pair.1) (find (λ pair. has pair.0 l.clause) (map (λ pair. (pair.0.now, pair.1)) (drop l.pair-index l.pairs)))
    ≡ option_map {T = List ℕ × g.row.F.Denot} (λ pair. pair.1) (find (λ pair. has pair.0 l.clause) (map (λ pair. (pair.0.now, pair.1)) l.pairs))
