use Rattle.std.proofs.Common.{sym, ap, ◌∙◌}
use Rattle.cob_code.specs.inner.Numbers.{number_in}
use Rattle.cob_code.proofs.Placing.{same_names}
use Rattle.cob_code.proofs.paragraphs.Paragraphs.find.Goals as goal

pub returns : goal.returns
returns c =
    c.number_in.ensures _ c.args.self.now.numbered ∙ ap (number_in _) c.as_bytes.ensures.same ∙ ap (λ l. number_in l c.args.name.now.text) (sym (same_names c.args.self.now.paragraphs.now))
