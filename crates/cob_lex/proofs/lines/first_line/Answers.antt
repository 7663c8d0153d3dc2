use Rattle.std.proofs.Common.{◌==◌, Some, None, tests, rules}
use Rattle.std.proofs.lemmas.Iterator.{YieldsList-from_slice}
use Rattle.std.proofs.lemmas.Iterator.Search.{position_from_yields_List}
use Rattle.cob_lex.proofs.FirstLines.{ended_first, whole_first}
use Rattle.cob_lex.proofs.lines.first_line.Goals as goal

pub returns-in-Some-clause-first : goal.returns-in-Some-clause-first
returns-in-Some-clause-first c =
    let bytes = c.args.bytes.now in
    let n = c.in-Some.length in
    let found = position_from_yields_List (λ byte. byte == 0x0A) _ _ (Some n) c.in-Some.ensures.ran (YieldsList-from_slice bytes cc) (λ x b q k. search (rules, tests)) in
    rw c.without_return.ensures (ended_first bytes n found)

pub returns-in-None-clause-first : goal.returns-in-None-clause-first
returns-in-None-clause-first c =
    let bytes = c.args.bytes.now in
    let found = position_from_yields_List (λ byte. byte == 0x0A) _ _ None c.in-None.ensures.ran (YieldsList-from_slice bytes cc) (λ x b q k. search (rules, tests)) in
    whole_first bytes c.requires found
