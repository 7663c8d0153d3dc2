use Rattle.std.proofs.Common.{◌≡◌, Bool, true, false, not, refl, tests, rules}
use Rattle.std.proofs.lemmas.Iterator.{YieldsList-from_slice}
use Rattle.std.proofs.lemmas.Iterator.Search.{position_from_yields_List}
use Rattle.cob_lex.specs.Characters.{is_word_byte}
use Rattle.cob_lex.proofs.Runs.{run_by_place}
use Rattle.cob_lex.proofs.characters.word_run.Goals as goal

not-not : (b : Bool) → not (not b) ≡ b
not-not true = refl
not-not false = refl

pub returns : goal.returns
returns c =
    let bytes = c.args.bytes.now in
    let found = position_from_yields_List (λ byte. not (is_word_byte byte)) _ _ c.position.result c.position.ensures.ran (YieldsList-from_slice bytes cc) (λ x b q k. search (rules, tests)) in
    run_by_place is_word_byte (λ byte. not (is_word_byte byte)) bytes _ c.position.result (λ x. not-not (is_word_byte x)) found c.unwrap_or-length.ensures
