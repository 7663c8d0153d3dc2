use Rattle.std.proofs.Common.{◌≤◌, length, rules}
use Rattle.cob_run.proofs.Written.{number_read, number_below}
use Rattle.cob_run.proofs.fields.number_in.Goals as goal

pub returns : goal.returns
returns c =
    let some : 1 ≤ length c.args.characters.now = search rules in
    let value = number_read c.args.characters.now c.number_of.result some c.requires c.number_of.ensures.some c.number_of.ensures.number in
    record { value = value; most = number_below c.args.characters.now c.number_of.result c.requires value }
