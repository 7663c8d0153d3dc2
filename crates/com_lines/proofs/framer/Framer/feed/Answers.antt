use Rattle.std.proofs.Common.{◌≡◌, ◌∙◌, ap, sym, refl}
use Rattle.com_lines.specs.declared.framer.State.TheVariants.{Going, Faulted}
use Rattle.com_lines.specs.Framers.{Framed}
use Rattle.com_lines.proofs.Standing.{again-fault, again-stands, feed-fault, feed-stands, stands-at}
use Rattle.com_lines.proofs.framer.Framer.feed.Goals as goal

pub returns-in-Faulted-clause-stands : goal.returns-in-Faulted-clause-stands
returns-in-Faulted-clause-stands c framing bytes given h =
    let state : c.args.self.now.state ≡ Faulted c.in-Faulted.fault = ap (λ (f : Framed). f.state) (sym c.self.view_is) ∙ c.in-Faulted.is in
    let at = stands-at framing c.args.self.now (Faulted c.in-Faulted.fault) c.args.self.now.reading bytes given state refl h in
    rw state (again-stands framing c.args.self.now.reading c.args.piece.now c.args.into.now c.in-Faulted.fault bytes given at)

pub returns-in-Faulted-clause-fault : goal.returns-in-Faulted-clause-fault
returns-in-Faulted-clause-fault c framing bytes given h fault _ =
    let state : c.args.self.now.state ≡ Faulted c.in-Faulted.fault = ap (λ (f : Framed). f.state) (sym c.self.view_is) ∙ c.in-Faulted.is in
    let at = stands-at framing c.args.self.now (Faulted c.in-Faulted.fault) c.args.self.now.reading bytes given state refl h in
    again-fault framing c.args.self.now.reading c.args.piece.now c.in-Faulted.fault bytes given at _ refl fault

pub returns-clause-stands : goal.returns-clause-stands
returns-clause-stands c framing bytes given h =
    let state : c.args.self.now.state ≡ Going = ap (λ (f : Framed). f.state) (sym c.self.view_is) ∙ c.in-Going.is in
    let reading = ap (λ (f : Framed). f.reading) (sym c.self.view_is) in
    let at = stands-at framing c.args.self.now Going c.self.inside.reading bytes given state reading h in
    let fed = c.feed_into-result in
    rw c.state_after-self-inside.ensures (feed-stands framing c.self.inside.reading fed.new.reading c.args.piece.now c.args.into.now fed.new.into fed.result bytes given at fed.ensures.framing fed.ensures.continued fed.ensures.fault fed.ensures.memory)

pub returns-clause-fault : goal.returns-clause-fault
returns-clause-fault c framing bytes given h fault free =
    let state : c.args.self.now.state ≡ Going = ap (λ (f : Framed). f.state) (sym c.self.view_is) ∙ c.in-Going.is in
    let reading = ap (λ (f : Framed). f.reading) (sym c.self.view_is) in
    let at = stands-at framing c.args.self.now Going c.self.inside.reading bytes given state reading h in
    let fed = c.feed_into-result in
    feed-fault framing c.self.inside.reading fed.new.reading c.args.piece.now c.args.into.now fed.new.into fed.result bytes given at fed.ensures.framing fed.ensures.continued fed.ensures.fault fault free
