use Rattle.std.proofs.Common.{sym, ap, ◌∙◌, arith}
use Rattle.std.proofs.lemmas.Result.{err_from_is_err_and}
use Rattle.cob_data.specs.Tables.{form_of, part_of, parts_of}
use Rattle.cob_data.proofs.ReadParts.{form_read, form_wanted, maybe_read, maybe_left_out, part_read, part_stops, turn, turn_stops, no_turn}
use Rattle.cob_data.proofs.reader.+read.Goals as goal

pub read_part-returns-in-Some-clause-read : goal.read_part-returns-in-Some-clause-read
read_part-returns-in-Some-clause-read t c =
    form_read _ (form_of c.in-Form.form) c.args.tokens.now c.in-Some.rest.now (parts_of c.in-Some.parts.now) c.read_parts.result (ap part_of c.in-Form.is) c.in-Some.ensures.begins c.read_parts.ensures.read

pub read_part-returns-in-None-clause-read : goal.read_part-returns-in-None-clause-read
read_part-returns-in-None-clause-read t c = form_wanted _ (form_of c.in-Form.form) c.args.tokens.now (ap part_of c.in-Form.is) c.in-None.ensures.begins

pub read_part-returns-in-Some-entered-clause-read : goal.read_part-returns-in-Some-entered-clause-read
read_part-returns-in-Some-entered-clause-read t c =
    maybe_read _ (form_of c.in-Maybe.form) c.args.tokens.now c.in-Some-entered.rest.now (parts_of c.in-Some-entered.parts.now) c.read_parts-in-Some-entered.result (ap part_of c.in-Maybe.is) c.in-Some-entered.ensures.begins c.read_parts-in-Some-entered.ensures.read

pub read_part-returns-in-None-entered-clause-read : goal.read_part-returns-in-None-entered-clause-read
read_part-returns-in-None-entered-clause-read t c = maybe_left_out _ (form_of c.in-Maybe.form) c.args.tokens.now (ap part_of c.in-Maybe.is) c.in-None-entered.ensures.begins

pub read_parts-returns-in_err-rest-clause-read : goal.read_parts-returns-in_err-rest-clause-read
read_parts-returns-in_err-rest-clause-read t c =
    let p = err_from_is_err_and c.from_residual.result c.from_residual.ensures.1 in
    rw (p.1, p.2) (λ part below. sym (c.parts.invariant.read part below) ∙ part_stops c.args.parts.now c.parts.part-index _ c.parts.rest.now c.in_err-rest.field-0.0.left part below c.parts-test.true c.in_err-rest.ensures.read)

pub read_parts-parts-preserved : goal.read_parts-parts-preserved
read_parts-parts-preserved t c = record {
  read = λ part below. sym (part_read c.args.parts.now c.parts.part-index _ c.parts.rest.now c.in_ok-rest.rest.now part below c.parts-test.true c.in_ok-rest.ensures.read) ∙ c.parts.invariant.read part below;
  no_more = omega (arith, c.in_ok-rest.ensures.no_more, c.parts.invariant.no_more);
}

pub read_turns-returns-in_err-rest-clause-read : goal.read_turns-returns-in_err-rest-clause-read
read_turns-returns-in_err-rest-clause-read t c =
    let p = err_from_is_err_and c.from_residual.result c.from_residual.ensures.1 in
    rw (p.1, p.2) (λ part below. sym (c.turns.invariant.read part below) ∙ turn_stops (form_of c.args.form) c.turns.rest.now c.in-Some.behind.now c.in_err-rest.field-0.0.left (parts_of c.in-Some.parts.now) part below c.in-Some.ensures.begins c.in_err-rest.ensures.read)

pub read_turns-turns-preserved : goal.read_turns-turns-preserved
read_turns-turns-preserved t c = record {
  read = λ part below. sym (turn (form_of c.args.form) c.turns.rest.now c.in_ok-rest.rest.now c.in-Some.behind.now (parts_of c.in-Some.parts.now) part below c.in-Some.ensures.begins c.in_ok-rest.ensures.read) ∙ c.turns.invariant.read part below;
  no_more = omega (arith, c.in_ok-rest.ensures.no_more, c.in-Some.ensures.fewer, c.turns.invariant.no_more);
}

pub read_turns-returns-clause-read : goal.read_turns-returns-clause-read
read_turns-returns-clause-read t c = λ part below. sym (c.turns.invariant.read part below) ∙ no_turn (form_of c.args.form) c.turns.rest.now c.in_default.ensures.begins part below
