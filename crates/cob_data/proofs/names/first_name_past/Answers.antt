use Rattle.std.proofs.Common.{sym}
use Rattle.cob_data.proofs.NamePasses.{past_none}
use Rattle.cob_data.proofs.names.first_name_past.Goals as goal

pub returns : goal.returns
returns c = sym (past_none 2000 c.args.names.now c.if-names-gt-MAX_DATA_NAMES.false)
