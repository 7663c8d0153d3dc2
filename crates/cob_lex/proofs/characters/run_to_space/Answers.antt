use Rattle.std.proofs.Common.{◌==◌, refl, tests, rules}
use Rattle.std.proofs.lemmas.Iterator.{YieldsList-from_slice}
use Rattle.std.proofs.lemmas.Iterator.Search.{position_from_yields_List}
use Rattle.cob_lex.specs.Characters.{is_no_space}
use Rattle.cob_lex.proofs.Runs.{run_by_place}
use Rattle.cob_lex.proofs.characters.run_to_space.Goals as goal

pub returns : goal.returns
returns c =
    let bytes = c.args.bytes.now in
    let found = position_from_yields_List (λ byte. byte == 0x20) _ _ c.position.result c.position.ensures.ran (YieldsList-from_slice bytes cc) (λ x b q k. search (rules, tests)) in
    run_by_place is_no_space (λ byte. byte == 0x20) bytes _ c.position.result (λ x. refl) found c.unwrap_or-length.ensures
