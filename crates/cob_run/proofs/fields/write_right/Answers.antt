use Rattle.std.proofs.Common.{length}
use Rattle.cob_run.proofs.Written.{right_of_slice}
use Rattle.cob_run.proofs.fields.write_right.Goals as goal

pub returns : goal.returns
returns c =
    right_of_slice (length c.args.field.now) c.min-len.result c.args.digits.now c.write_zeros.new.field
    c.write_part.new.area c.min-len.ensures c.write_zeros.ensures c.write_part.ensures
