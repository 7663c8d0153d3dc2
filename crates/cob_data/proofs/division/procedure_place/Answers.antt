use Rattle.std.proofs.Common.{sym, ◌∙◌}
use Rattle.std.proofs.lemmas.Result.{err_from_is_err_and}
use Rattle.cob_data.specs.Forms.{before_procedure}
use Rattle.cob_data.proofs.ReadParts.{no_procedure, none_behind, one_behind, stopped_before}
use Rattle.cob_data.proofs.division.procedure_place.Goals as goal

pub returns-in_err-rest : goal.returns-in_err-rest
returns-in_err-rest c =
    let p = err_from_is_err_and c.from_residual.result c.from_residual.ensures.1 in
    rw (p.1, p.2) (stopped_before before_procedure c.args.tokens.now c.in_err-rest.field-0.0.left c.in_err-rest.ensures.read)

pub returns-then-not-next_is_word : goal.returns-then-not-next_is_word
returns-then-not-next_is_word c =
    no_procedure before_procedure c.args.tokens.now c.in_ok-rest.rest.now c.in_ok-rest.ensures.read (sym c.next_is_word.ensures ∙ c.if-not-next_is_word.true)

pub returns-then-rest-eq1 : goal.returns-then-rest-eq1
returns-then-rest-eq1 c =
    none_behind before_procedure c.args.tokens.now c.in_ok-rest.rest.now c.in_ok-rest.ensures.read (sym c.next_is_word.ensures ∙ c.if-not-next_is_word.false) c.if-rest-eq1.true

pub returns : goal.returns
returns c =
    one_behind before_procedure c.args.tokens.now c.in_ok-rest.rest.now c.in_ok-rest.ensures.read (sym c.next_is_word.ensures ∙ c.if-not-next_is_word.false) c.in_ok-rest.ensures.no_more c.if-rest-eq1.false
