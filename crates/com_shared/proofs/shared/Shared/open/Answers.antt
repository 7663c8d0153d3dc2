use Rattle.std.proofs.Common.{◌≡◌, ◌∙◌, ℕ, sym, ap, subst}
use Rattle.com_turn.specs.Passes.{AreNew}
use Rattle.com_shared.specs.Passes.{Place, Log}
use Rattle.com_shared.proofs.Closing.{is_new}
use Rattle.com_shared.proofs.shared.Shared.open.Goals as goal

pub returns-in-Ok-clause-new : goal.returns-in-Ok-clause-new
returns-in-Ok-clause-new c k pass at =
    let place : Place = record { turn = c.in-Ok.turn; net = c.of.result.value } in
    let e = c.in_ok-book.ensures in
    is_new place c.in_ok-book.book.items c.in_ok-book.book.net c.args.net.now c.in-Ok.passes.items k pass c.of.ensures (ap (λ (b : Log). b.net) e) (ap (λ (b : Log). b.items) e)
    (subst (λ (n : ℕ). AreNew c.in-Ok.turn n c.in_ok-book.book.net c.in_ok-book.book.items c.in-Ok.passes.items) c.party_count.ensures.count c.in-Ok.ensures.ok) at
