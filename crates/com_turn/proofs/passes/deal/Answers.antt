use Rattle.std.proofs.Common.{rules, ◌∙◌, ap, []}
use Rattle.com_turn.specs.Views.{with_next_count, view_of_next}
use Rattle.com_turn.proofs.Beginning.{shown_next, deals_on}
use Rattle.com_turn.proofs.passes.deal.Goals as goal

pub loop-number-preserved : goal.loop-number-preserved
loop-number-preserved g c =
    let i = c.loop-number.invariant in
    let base = g.V.Logged.base in
    let opening = c.args.opening.now in
    let log = g.V.Logged.log opening.value.value in
    let views = c.give_number-next.ensures.views in
    let own = c.give_number-next.ensures.own in
    let is = shown_next base opening c.args.board.now log c.give_number-next.result c.loop-number.number (own.1 ∙ i.1) (views.1 ∙ ap (λ z. (view_of_next z.0, [])) i.2) in (
      deals_on base opening c.args.board.now log c.loop-number.number c.loop-number.passes.items c.push.new.self.items c.new.result i.0 (c.new.ensures ∙ is) c.in-Ok.ensures.items,
      own.0 ∙ i.1,
      views.0 ∙ ap (λ z. (with_next_count z.0, z.1)) i.2,
      search rules,
    )
