use Rattle.std.proofs.Common.{◌≡◌, ◌∙◌, ℕ, false, sym, ap}
use Rattle.std.specs.Prelude.{is_some}
use Rattle.com_events.specs.declared.call.Call.TheVariants as made
use Rattle.com_state.specs.Steps.{step}
use Rattle.com_shared.specs.Parties.{party_at}
use Rattle.com_shared.proofs.Arriving.{held_now, held_before}
use Rattle.com_shared.proofs.shared.Shared.hold.Goals as goal

pub returns-then-may-2-clause-holds : goal.returns-then-may-2-clause-holds
returns-then-may-2-clause-holds g c =
    held_now c.args.self.now c.args.active c.args.call.now c.args.pass.now c.begin-book.new.pass c.settle_done.new.pass c.begin-book.result c.requires.arrival c.requires.may c.begin-book.ensures.turn c.begin-book.ensures.later.number c.begin-book.ensures.own
    c.settle_done.ensures.pass c.in_ok-settle_done.ensures.settled

pub returns-clause-holds : goal.returns-clause-holds
returns-clause-holds g c =
    let p = c.begin-book.new.pass in
    let b = c.begin-book.result in
    let refused : is_some (step b.state (party_at b.net p.number) c.args.call.now) ≡ false =
    ap (λ (n : ℕ). is_some (step b.state (party_at b.net n) c.args.call.now)) (sym c.number.ensures) ∙ (sym c.may.ensures ∙ c.if-may.false) in
    let unheld : is_some (step b.state (party_at b.net p.number) made.Held) ≡ false =
    ap (λ (n : ℕ). is_some (step b.state (party_at b.net n) made.Held)) (sym c.number-2.ensures) ∙ (sym c.may-2.ensures ∙ c.if-may-2.false) in
    held_before c.args.self.now c.args.active c.args.call.now c.args.pass.now p c.finish.new.pass b c.requires.arrival c.requires.may c.begin-book.ensures.turn c.begin-book.ensures.later.number c.begin-book.ensures.own c.begin-book.ensures.active c.requires.was
    refused unheld c.finish.ensures.pass c.finish.ensures.given_back
