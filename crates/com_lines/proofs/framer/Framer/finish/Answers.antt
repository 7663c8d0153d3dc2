use Rattle.std.proofs.Common.{◌≡◌, ◌∙◌, ap, sym, refl}
use Rattle.std.proofs.lemmas.Result.{on_ok_weaker}
use Rattle.com_lines.specs.declared.framer.State.TheVariants.{Going, Faulted}
use Rattle.com_lines.specs.Framers.{Framed}
use Rattle.com_lines.proofs.Standing.{again-faulty, finish-faulty, finish-whole, stands-at}
use Rattle.com_lines.proofs.framer.Framer.finish.Goals as goal

pub returns-in-Faulted-clause-fault : goal.returns-in-Faulted-clause-fault
returns-in-Faulted-clause-fault c fault e framing bytes given h =
    let same : c.in-Faulted.fault ≡ fault = cc in
    let state : c.args.self.now.state ≡ Faulted fault = ap (λ (f : Framed). f.state) (sym c.self.view_is) ∙ c.in-Faulted.is ∙ ap Faulted same in
    let at = stands-at framing c.args.self.now (Faulted fault) c.args.self.now.reading bytes given state refl h in
    again-faulty framing c.args.self.now.reading fault bytes given at

pub returns-clause-whole : goal.returns-clause-whole
returns-clause-whole c =
    let state : c.args.self.now.state ≡ Going = ap (λ (f : Framed). f.state) (sym c.self.view_is) ∙ c.in-Going.is in
    let reading = ap (λ (f : Framed). f.reading) (sym c.self.view_is) in
    let old = c.self.inside.reading in
    on_ok_weaker c.finish-result.result (λ whole framing bytes given h. finish-whole framing old c.args.into.now c.finish-result.new.messages bytes given whole (stands-at framing c.args.self.now Going old bytes given state reading h)) c.finish-result.ensures.whole

pub returns-clause-fault : goal.returns-clause-fault
returns-clause-fault c fault e framing bytes given h =
    let state : c.args.self.now.state ≡ Going = ap (λ (f : Framed). f.state) (sym c.self.view_is) ∙ c.in-Going.is in
    let reading = ap (λ (f : Framed). f.reading) (sym c.self.view_is) in
    let at = stands-at framing c.args.self.now Going c.self.inside.reading bytes given state reading h in
    finish-faulty framing c.self.inside.reading fault bytes given (c.finish-result.ensures.fault fault e) at
