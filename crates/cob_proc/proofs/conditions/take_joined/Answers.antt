use Rattle.std.proofs.Common.{sym, ◌∙◌, arith}
use Rattle.std.proofs.lemmas.Result.{err_from_is_err_and}
use Rattle.cob_forms.specs.Sorts.{is, reserved}
use Rattle.cob_forms.proofs.Lists.{ends, fails, goes_on}
use Rattle.cob_proc.specs.PartReaders.{joined, joined_part}
use Rattle.cob_proc.proofs.conditions.take_joined.Goals as goal

pub returns-in_err-part-clause-gives : goal.returns-in_err-part-clause-gives
returns-in_err-part-clause-gives c =
    let p = err_from_is_err_and c.from_residual-in_err-part.result c.from_residual-in_err-part.ensures.1 in
    rw (p.1, p.2) (fails (is (reserved c.args.word.now)) (joined_part c.args.word.now) c.in_err-part.field-0.0 c.turns.parts.items c.turns.rest.now (joined c.args.word.now c.args.first c.args.tokens.now) (sym c.next_is_word.ensures ∙ c.turns-test.true) c.turns.invariant.read c.in_err-part.ensures.gives)

pub turns-preserved : goal.turns-preserved
turns-preserved c = record {
  read = rw c.in_ok-push-2.ensures.items (goes_on (is (reserved c.args.word.now)) (joined_part c.args.word.now) c.turns.parts.items c.in_ok-part.part c.turns.rest.now c.in_ok-part.after.now (joined c.args.word.now c.args.first c.args.tokens.now) (sym c.next_is_word.ensures ∙ c.turns-test.true) c.in_ok-part.ensures.gives c.in_ok-part.ensures.fewer c.turns.invariant.read);
  fewer = omega (arith, c.in_ok-part.ensures.fewer);
}

pub returns-clause-gives : goal.returns-clause-gives
returns-clause-gives c = rw c.of_vec.ensures (ends (is (reserved c.args.word.now)) (joined_part c.args.word.now) c.turns.parts.items c.turns.rest.now (joined c.args.word.now c.args.first c.args.tokens.now) (sym c.next_is_word.ensures ∙ c.turns-test.false) c.turns.invariant.read)
