use Rattle.std.proofs.Common.{◌≡◌, map, replicate}
use Rattle.com_msg.specs.Begun.{nothing_begun}
use Rattle.com_send.proofs.output.nothing_begun.Given as goal

abbrev pub invariant-loop : goal.invariant-loop
invariant-loop l = map (λ message. message.begun) l.begun.items ≡ replicate l.counter nothing_begun
