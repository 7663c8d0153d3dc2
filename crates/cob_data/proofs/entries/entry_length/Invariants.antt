use Rattle.std.proofs.Common.{◌≡◌, ◌+◌, drop}
use Rattle.cob_data.specs.Entries.{ends_entry, piece_length}
use Rattle.cob_data.proofs.entries.entry_length.Given as goal

abbrev pub invariant-tokens : goal.invariant-tokens
invariant-tokens l = record {
  count : l.count ≡ l.token-index;
  left : l.count + piece_length ends_entry (drop l.token-index l.tokens) ≡ piece_length ends_entry l.tokens;
}
