use Rattle.std.proofs.Common.{◌≤◌, sym, arith}
use Rattle.cob_lex.proofs.LiteralSizes.{literal_there}
use Rattle.cob_lex.proofs.front.literal_front.Goals as goal

pub returns-in-Some-clause-front : goal.returns-in-Some-clause-front
returns-in-Some-clause-front c =
    let n = c.in-Some.inside in
    let other = c.in-Some.inside-test.1 in
    let some : 1 ≤ n = omega arith in
    literal_there c.args.rest.now n _ (sym c.in-Some.ensures.closing) some c.in-Some.ensures.within c.requires.in_line
