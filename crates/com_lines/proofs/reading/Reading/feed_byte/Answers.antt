use Rattle.std.proofs.Common.{◌≡◌, ◌∙◌, Some, None, Err, ap, sym}
use Rattle.std.proofs.lemmas.Result.{on_ok_weaker, err_from_is_err_and}
use Rattle.com_lines.specs.declared.reading.FeedError.TheVariants.{Fault}
use Rattle.com_lines.specs.inner.Readings.{IsNext}
use Rattle.com_lines.proofs.Pieces.{continued-none, continued-some}
use Rattle.com_lines.proofs.reading.Reading.feed_byte.Goals as goal

pub returns-in-Some-clause-continued : goal.returns-in-Some-clause-continued
returns-in-Some-clause-continued c =
    let next : IsNext c.args.self.now c.args.byte (Some c.in-Some.message) c.step.new.self = rw c.in-Some.is at c.in_ok-message.ensures.next in
    on_ok_weaker c.add_message.result (λ e. continued-some c.args.self.now c.args.byte c.in-Some.message c.step.new.self c.args.messages.now c.add_message.new.messages next e) c.add_message.ensures.ok

pub returns-in-None-clause-continued : goal.returns-in-None-clause-continued
returns-in-None-clause-continued c =
    let next : IsNext c.args.self.now c.args.byte None c.step.new.self = rw c.in-None.is at c.in_ok-message.ensures.next in
    continued-none c.args.self.now c.args.byte c.step.new.self c.args.messages.now next

pub returns-in_err-message-clause-fault : goal.returns-in_err-message-clause-fault
returns-in_err-message-clause-fault c fault e =
    let p = err_from_is_err_and c.from_residual.result c.from_residual.ensures.1 in
    let handed : c.from_residual.result ≡ Err p.0 = p.1 in
    let found : p.0 ≡ Fault fault = cc in
    let same : c.in_err-message.field-0.0 ≡ Fault fault = sym p.2 ∙ found in
    c.in_err-message.ensures.fault fault (ap Err same)
