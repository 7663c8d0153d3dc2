use Rattle.com_lines.proofs.Unique.{frames-unique}
use Rattle.com_lines.proofs.laws.one_reading.Goals as goal

pub returns : goal.returns
returns c = frames-unique
