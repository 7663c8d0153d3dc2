use Rattle.std.proofs.Common.{◌≡◌, length}
use Rattle.std.proofs.lemmas.Bool.{eqb-true}
use Rattle.cob_lex.proofs.Steps.{text_ends}
use Rattle.cob_lex.proofs.lexer.read_text.Goals as goal

pub returns-clause-taken : goal.returns-clause-taken
returns-clause-taken c =
    let none : length c.fronts.rest.now ≡ 0 = eqb-true _ _ cc in
    text_ends c.fronts.tokens.items c.fronts.awaited c.args.place c.fronts.at c.fronts.rest.now _ none c.fronts.invariant.same
