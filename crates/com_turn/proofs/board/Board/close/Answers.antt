use Rattle.std.proofs.Common.{◌∙◌, sym, subst}
use mathlib.Core.Option.{some-injective}
use Rattle.com_turn.specs.Rule.{IsClosed}
use Rattle.com_turn.proofs.Lists.{Some-injective, None-Some}
use Rattle.com_turn.proofs.Closing.{closes}
use Rattle.com_turn.proofs.board.Board.close.Goals as goal

pub unreachable-requires : goal.unreachable-requires
unreachable-requires g c =
    let end = closes g.V.Logged.log g.V.Logged.base g.V.Logged.owner _ _ _ _ c.requires.idle.0 c.requires.idle.1 c.requires.all c.close_with-closed.ensures.values.2 in
    None-Some end.0 (sym c.in-None.is ∙ some-injective _ _ (sym c.take-value.ensures.value ∙ end.1))

pub returns : goal.returns
returns g c =
    let end = closes g.V.Logged.log g.V.Logged.base g.V.Logged.owner _ _ _ _ c.requires.idle.0 c.requires.idle.1 c.requires.all c.close_with-closed.ensures.values.2 in
    subst (IsClosed g.V.Logged.log g.V.Logged.base g.V.Logged.owner c.args.seat.me.0) (Some-injective _ _ (sym (some-injective _ _ (sym c.take-value.ensures.value ∙ end.1)) ∙ c.in-Some.is)) end.2
