use Rattle.std.proofs.Common.{ap, ◌∙◌}
use Rattle.com_msg.specs.Begun.{Begun}
use Rattle.com_send.specs.Outgoing.{with_begun}
use Rattle.com_send.specs.Kept.{state_of}
use Rattle.com_send.proofs.Serving.{begun_set}
use Rattle.com_send.proofs.output.Output.drop_unit.Goals as goal

pub returns : goal.returns
returns c =
    begun_set c.args.self.now c.args.unit c.new.result
    ∙ ap (λ (begun : Begun). with_begun c.args.unit begun (state_of c.args.self.now)) c.new.ensures
