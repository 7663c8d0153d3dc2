use Rattle.std.proofs.Common.{◌≡◌, ◌∙◌, ℕ, false, sym, ap, subst}
use Rattle.std.specs.Prelude.{is_some, IsTrue}
use Rattle.com_events.specs.declared.call.Call.{Call}
use Rattle.com_state.specs.Steps.{step}
use Rattle.com_shared.specs.Parties.{party_at}
use Rattle.com_shared.proofs.Waiting.{refused_here, has_stopped, is_over}
use Rattle.com_shared.proofs.shared.Shared.approach.Goals as goal

pub settle_done-requires-clause-allowed : goal.settle_done-requires-clause-allowed
settle_done-requires-clause-allowed g c =
    let p = c.begin-book.new.pass in
    let b = c.begin-book.result in
    let refused : is_some (step b.state (party_at b.net p.number) c.args.call.now) ≡ false =
    ap (λ (n : ℕ). is_some (step b.state (party_at b.net n) c.args.call.now)) (sym c.number.ensures) ∙ (sym c.may.ensures ∙ c.if-may.false) in
    subst (λ (x : Call). IsTrue (is_some (step b.state (party_at b.net p.number) x))) (sym c.idle_call.ensures.call)
    ((refused_here c.args.self.now c.args.call.now c.args.pass.now p b c.begin-book.ensures.turn c.begin-book.ensures.later.number c.begin-book.ensures.own c.requires.approaches refused).stops (sym c.idle.ensures ∙ c.if-idle.true))

pub returns-then-idle-clause-approached : goal.returns-then-idle-clause-approached
returns-then-idle-clause-approached g c =
    let p = c.begin-book.new.pass in
    let b = c.begin-book.result in
    let refused : is_some (step b.state (party_at b.net p.number) c.args.call.now) ≡ false =
    ap (λ (n : ℕ). is_some (step b.state (party_at b.net n) c.args.call.now)) (sym c.number.ensures) ∙ (sym c.may.ensures ∙ c.if-may.false) in
    has_stopped c.args.self.now c.args.active c.args.call.now c.idle_call.result c.args.pass.now p c.settle_done.new.pass b c.idle_call.ensures.call c.begin-book.ensures.turn c.begin-book.ensures.later.number c.begin-book.ensures.own c.requires.approaches refused
    (sym c.idle.ensures ∙ c.if-idle.true) c.settle_done.ensures.pass c.in_ok-settle_done.ensures.settled

pub returns-in-None-clause-approached : goal.returns-in-None-clause-approached
returns-in-None-clause-approached g c =
    let p = c.begin-book.new.pass in
    let b = c.begin-book.result in
    let refused : is_some (step b.state (party_at b.net p.number) c.args.call.now) ≡ false =
    ap (λ (n : ℕ). is_some (step b.state (party_at b.net n) c.args.call.now)) (sym c.number.ensures) ∙ (sym c.may.ensures ∙ c.if-may.false) in
    is_over c.args.self.now c.args.call.now c.args.pass.now p c.rest.new.pass b c.begin-book.ensures.turn c.begin-book.ensures.later.number c.begin-book.ensures.own c.requires.approaches refused
    (sym c.idle.ensures ∙ c.if-idle.false) c.rest.ensures.pass c.in-None.ensures.rests
