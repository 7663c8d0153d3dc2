use Rattle.std.proofs.lemmas.Result.{err_from_is_err_and}
use Rattle.mcs_top.specs.Running.{transcript}
use Rattle.mcs_top.proofs.Outs.{not_begun}
use Rattle.mcs_top.proofs.outputs.write_transcript.Goals as goal

pub returns-in_err-name-clause-err : goal.returns-in_err-name-clause-err
returns-in_err-name-clause-err g c =
    let failed = err_from_is_err_and c.from_residual.result c.from_residual.ensures.1 in
    rw (failed.1, failed.2) (not_begun (transcript c.args.name.now c.args.messages.now) (g.S.Store.shows c.args.store.now))

pub returns-in_err-text-clause-err : goal.returns-in_err-text-clause-err
returns-in_err-text-clause-err g c =
    let failed = err_from_is_err_and c.from_residual-in_err-text.result c.from_residual-in_err-text.ensures.1 in
    rw (failed.1, failed.2) (not_begun (transcript c.args.name.now c.args.messages.now) (g.S.Store.shows c.args.store.now))
