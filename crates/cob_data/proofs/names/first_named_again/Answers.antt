use Rattle.std.proofs.Common.{◌∙◌}
use Rattle.cob_data.proofs.NamePasses.{name_at}
use Rattle.cob_data.proofs.SeenTexts.{known}
use Rattle.cob_data.proofs.names.first_named_again.Goals as goal

pub names-preserved : goal.names-preserved
names-preserved c =
    let same = rw c.as_bytes.ensures.same at c.in_ok-is_new.ensures.texts in
    rw (c.first_of-found.ensures, c.unless.ensures, c.in_ok-is_new.ensures.is_new, c.as_bytes.ensures.same)
    (name_at c.args.names.now c.names.at c.index-names-at.result c.names.found (known c.names.texts.keys) (known c.add_text.new.texts.keys) c.names-test.true c.index-names-at.is same ∙ c.names.invariant)
