use Rattle.std.proofs.Common.{◌-◌}
use Rattle.cob_forms.proofs.Texts.{text_within}
use Rattle.cob_forms.proofs.written.characters_between.Goals as goal

pub single_marks-requires : goal.single_marks-requires
single_marks-requires c = rw c.as_bytes-bytes.ensures.same (text_within (c.saturating_sub-past.result - 1) 1 c.args.text.now c.as_bytes-bytes.ensures.text)
