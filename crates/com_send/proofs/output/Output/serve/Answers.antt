use Rattle.std.proofs.Common.{sym, ◌∙◌}
use Rattle.com_send.proofs.Serving.{serve_ready}
use Rattle.com_send.proofs.output.Output.serve.Goals as goal

pub returns-in-Some : goal.returns-in-Some
returns-in-Some c =
    let sent_part = c.args.sent_part.now in
    c.deliver.ensures
    ∙ sym (serve_ready c.args.unit sent_part.part sent_part.text.now c.in-Some.message c.args.self.now c.requires.room (sym c.take.ensures.value ∙ c.in-Some.is))
