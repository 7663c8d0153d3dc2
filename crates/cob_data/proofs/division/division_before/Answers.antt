use Rattle.std.proofs.lemmas.Result.{IfOk-weaker}
use Rattle.cob_data.specs.Divisions.{IsDivisionBefore}
use Rattle.cob_data.proofs.HeaderLaws.{has_name, told_division}
use Rattle.cob_data.proofs.division.division_before.Goals as goal

pub bounds-tokens-5 : goal.bounds-tokens-5
bounds-tokens-5 c = has_name c.args.tokens.now _ c.requires.complete

pub returns : goal.returns
returns c =
    IfOk-weaker c.divisions.result (IsDivisionBefore c.index-tokens-5.result c.split_at.result.0.now) _
    (λ division h. told_division c.args.tokens.now c.split_at.result.0.now c.index-tokens-5.result c.args.place division c.requires.complete c.requires.within c.split_at.ensures.front c.index-tokens-5.is h)
    c.divisions.ensures
