use Rattle.std.proofs.Common.{◌++◌, List, ℕ, ap, ◌∙◌}
use Rattle.std.proofs.lemmas.Result.{on_ok_weaker}
use Rattle.com_journal.specs.Lines.{end_fields}
use Rattle.com_journal.proofs.Spelled.{written-spelled}
use Rattle.com_journal.proofs.LineLaws.{end_spelled}
use Rattle.com_journal.proofs.reasons.write_finish.Goals as goal

pub returns : goal.returns
returns c =
    let into = c.args.into.now in
    on_ok_weaker c.put_reason.result (λ put. put ∙ (written-spelled into (end_fields c.args.reason) ∙ ap (λ (xs : List ℕ). into ++ xs) (end_spelled c.args.reason))) c.put_reason.ensures
