use Rattle.std.proofs.Common.{not, sym, ap, ◌∙◌}
use Rattle.cob_data.proofs.SeenTexts.{any_known, put_by}
use Rattle.cob_data.proofs.seen.add_text.Goals as goal

pub returns-clause-is_new : goal.returns-clause-is_new
returns-clause-is_new c = c.in_ok-insert.ensures.added ∙ ap not (any_known c.args.text.now c.args.texts.now.keys)

pub returns-clause-texts : goal.returns-clause-texts
returns-clause-texts c = rw c.in_ok-insert.ensures.keys (put_by _ c.args.text c.args.texts.now.keys (sym (any_known c.args.text.now c.args.texts.now.keys)))
