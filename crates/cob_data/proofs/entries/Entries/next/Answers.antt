use Rattle.std.proofs.Common.{sym, ◌∙◌}
use Rattle.cob_data.proofs.EntryLaws.{next_entry, not_empty}
use Rattle.cob_data.proofs.entries.Entries.next.Goals as goal

pub returns : goal.returns
returns c =
    sym c.self.view_is
    ∙ next_entry c.self.inside.is_chosen c.awaits_word-self-inside.result c.self.inside.rest.now c.split_at.result.0.now c.split_at.result.1.now c.entry_length.result (not_empty _ c.is_empty.result c.is_empty.ensures c.if-is_empty.false)
    c.entry_length.ensures.length c.split_at.ensures.front c.split_at.ensures.back c.awaits_word-self-inside.ensures
