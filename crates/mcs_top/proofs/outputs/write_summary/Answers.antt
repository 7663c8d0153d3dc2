use Rattle.std.proofs.lemmas.Result.{err_from_is_err_and}
use Rattle.com_io.specs.Stores.{output_name}
use Rattle.mcs_top.specs.Outputs.{writing}
use Rattle.mcs_top.specs.Running.{summary_of}
use Rattle.mcs_top.proofs.Outs.{not_begun}
use Rattle.mcs_top.proofs.outputs.write_summary.Goals as goal

pub returns-in_err-text-clause-err : goal.returns-in_err-text-clause-err
returns-in_err-text-clause-err g c =
    let failed = err_from_is_err_and c.from_residual.result c.from_residual.ensures.1 in
    rw (failed.1, failed.2) (not_begun (writing output_name (summary_of c.args.run.now)) (g.S.Store.shows c.args.store.now))
