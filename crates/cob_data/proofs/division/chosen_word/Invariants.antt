use Rattle.std.proofs.Common.{◌≡◌, false, length}
use Rattle.cob_data.specs.Entries.{chosen_word, entries_of, word_flags}
use Rattle.cob_data.proofs.HeaderLaws.{word_from}
use Rattle.cob_data.proofs.division.chosen_word.Given as goal

abbrev pub invariant-entries : goal.invariant-entries
invariant-entries l = word_from l.is_header l.header l.entries ≡ chosen_word l.header (word_flags false (entries_of l.fn.tokens))

abbrev pub decreases-entries : goal.decreases-entries
decreases-entries l = length l.entries
