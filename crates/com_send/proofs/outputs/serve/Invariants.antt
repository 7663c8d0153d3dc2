use Rattle.com_send.specs.Sending.{serve}
use Rattle.com_send.proofs.Changing.{ChangedSoFar}
use Rattle.com_send.proofs.outputs.serve.Given as goal

abbrev pub invariant-loop-at : goal.invariant-loop-at
invariant-loop-at l = ChangedSoFar l.named (serve l.unit l.sent_part.part l.sent_part.text.now) l.fn.outputs l.outputs l.at
