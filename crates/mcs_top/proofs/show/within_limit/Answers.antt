use Rattle.std.proofs.Common.{arith}
use Rattle.com_io.specs.Files.{file_limit}
use Rattle.mcs_top.proofs.Framing.{least_front}
use Rattle.mcs_top.proofs.show.within_limit.Goals as goal

pub returns : goal.returns
returns c = least_front c.min.result file_limit c.args.input.now (omega (arith, c.min.ensures))
