use Rattle.com_io.proofs.CivilDays.{one_stamp}
use Rattle.com_io.proofs.laws.seconds_have_one_stamp.Goals as goal

pub returns : goal.returns
returns c = one_stamp
