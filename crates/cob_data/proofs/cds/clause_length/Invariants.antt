use Rattle.std.proofs.Common.{◌≡◌, ◌+◌, length}
use Rattle.cob_data.specs.Entries.{piece_length}
use Rattle.cob_data.specs.Clauses.{ends_clause}
use Rattle.cob_data.proofs.cds.clause_length.Given as goal

abbrev pub invariant-tokens : goal.invariant-tokens
invariant-tokens l = record {
  count : l.count + length l.rest ≡ length l.tokens;
  left : l.count + piece_length ends_clause l.rest ≡ piece_length ends_clause l.tokens;
}

abbrev pub decreases-tokens : goal.decreases-tokens
decreases-tokens l = length l.rest
