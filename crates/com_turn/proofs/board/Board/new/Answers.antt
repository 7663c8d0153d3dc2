use Rattle.std.proofs.Common.{◌∙◌, ◌∷◌, [], ◌++◌, List, Some, Option, sym, ap, subst}
use Rattle.atomic_table.specs.Table.{opening}
use Rattle.com_turn.specs.Views.{first_view}
use Rattle.com_turn.specs.Rule.{IsRuled}
use Rattle.com_turn.proofs.Beginning.{opens}
use Rattle.com_turn.proofs.board.Board.new.Goals as goal

pub new-requires : goal.new-requires
new-requires g c =
    let e = c.in-Ok-push.ensures.items ∙ ap (λ z. z ++ Some c.args.value ∷ []) c.in-Ok.ensures.items in
    subst (λ (z : List (Option g.row.V.Denot) × g.row.V.Denot). IsRuled g.V.Logged.log g.V.Logged.base g.V.Logged.owner (opening (0 ∷ 0 ∷ 0 ∷ 0 ∷ []) z.0 (first_view (g.V.Logged.log z.1) (g.V.Logged.base z.1) c.args.opening.now.parties))) (λ k. (sym e k, sym c.requires.opening k))
    (opens g.V.Logged.log g.V.Logged.base g.V.Logged.owner c.args.value c.args.opening.now.parties c.requires.parties.0 c.requires.parties.1)
