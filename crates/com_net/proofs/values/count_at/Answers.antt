use Rattle.std.proofs.Common.{◌∙◌, length, sym, ap}
use Rattle.com_net.proofs.Arrays.{as_many_tables}
use Rattle.com_net.proofs.values.count_at.Goals as goal

pub returns : goal.returns
returns c = sym (as_many_tables c.tables_at.result.now c.tables_at.ensures.all) ∙ ap length c.tables_at.ensures.tables
