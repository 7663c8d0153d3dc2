use Rattle.std.proofs.Common.{sym, ◌∙◌}
use Rattle.std.proofs.lemmas.Option.{some_pair_parts}
use Rattle.com_journal.proofs.LineLaws.{call-complete}
use Rattle.com_journal.proofs.laws.a_text_is_of_one_call.Goals as goal

pub returns : goal.returns
returns c = λ party other_party call other_call text h k. some_pair_parts party other_party call other_call (sym (call-complete text party call h) ∙ call-complete text other_party other_call k)
