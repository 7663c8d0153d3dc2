use Rattle.std.proofs.Common.{◌∙◌}
use Rattle.com_net.proofs.Arrays.{own_texts}
use Rattle.com_net.proofs.values.names_at.Goals as goal

pub returns : goal.returns
returns c = own_texts c.strings_at.result.now c.strings_at.ensures.all ∙ c.strings_at.ensures.strings
