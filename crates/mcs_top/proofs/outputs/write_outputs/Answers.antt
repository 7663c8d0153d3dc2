use Rattle.std.proofs.Common.{[], ◌∷◌, ◌++◌, rules}
use Rattle.std.proofs.lemmas.Result.{on_ok_weaker, IfErr-weaker}
use Rattle.com_io.specs.Stores.{output_name}
use Rattle.mcs_top.specs.Outputs.{journal_name, writing}
use Rattle.mcs_top.specs.Running.{transcripts_in, summary_of}
use Rattle.mcs_top.proofs.Outs.{written_then, cut_early, cut_later}
use Rattle.mcs_top.proofs.outputs.write_outputs.Goals as goal

pub returns-in_err-write_one-clause-err : goal.returns-in_err-write_one-clause-err
returns-in_err-write_one-clause-err g c =
    let run = c.args.run.now in
    let behind = transcripts_in run.state 0 run.state.net.terminals ++ writing output_name (summary_of run) ∷ [] in
    let failed = cut_early (writing journal_name run.journal ∷ []) behind (g.S.Store.shows c.args.store.now) (g.S.Store.shows c.write_one.new.store) c.in_err-write_one.field-0.0
    (rw c.as_slice.ensures at c.in_err-write_one.ensures.err) in
    search rules

pub returns-in_err-write_transcripts-clause-err : goal.returns-in_err-write_transcripts-clause-err
returns-in_err-write_transcripts-clause-err g c =
    let run = c.args.run.now in
    let transcripts = transcripts_in run.state 0 run.state.net.terminals in
    let last = writing output_name (summary_of run) ∷ [] in
    let mid = g.S.Store.shows c.write_one.new.store in
    let after = g.S.Store.shows c.write_transcripts.new.store in
    let fault = c.in_err-write_transcripts.field-0.0 in
    let failed = cut_later (writing journal_name run.journal ∷ []) (transcripts ++ last) (g.S.Store.shows c.args.store.now) mid after fault (rw c.as_slice.ensures at c.in_ok-write_one.ensures.ok)
    (cut_early transcripts last mid after fault c.in_err-write_transcripts.ensures.err) in
    search rules

pub returns-clause-ok : goal.returns-clause-ok
returns-clause-ok g c =
    let run = c.args.run.now in
    let transcripts = transcripts_in run.state 0 run.state.net.terminals in
    let last = writing output_name (summary_of run) ∷ [] in
    let before = g.S.Store.shows c.args.store.now in
    let first = g.S.Store.shows c.write_one.new.store in
    let mid = g.S.Store.shows c.write_transcripts.new.store in
    let after = g.S.Store.shows c.write_summary.new.store in
    on_ok_weaker c.write_summary.result (λ written.
    written_then (writing journal_name run.journal ∷ []) (transcripts ++ last) before first after (rw c.as_slice.ensures at c.in_ok-write_one.ensures.ok)
    (written_then transcripts last first mid after c.in_ok-write_transcripts.ensures.ok written)) c.write_summary.ensures.ok

pub returns-clause-err : goal.returns-clause-err
returns-clause-err g c =
    let run = c.args.run.now in
    let transcripts = transcripts_in run.state 0 run.state.net.terminals in
    let last = writing output_name (summary_of run) ∷ [] in
    let before = g.S.Store.shows c.args.store.now in
    let first = g.S.Store.shows c.write_one.new.store in
    let mid = g.S.Store.shows c.write_transcripts.new.store in
    let after = g.S.Store.shows c.write_summary.new.store in
    IfErr-weaker c.write_summary.result _ _ (λ fault failed.
    cut_later (writing journal_name run.journal ∷ []) (transcripts ++ last) before first after fault (rw c.as_slice.ensures at c.in_ok-write_one.ensures.ok)
    (cut_later transcripts last first mid after fault c.in_ok-write_transcripts.ensures.ok failed)) c.write_summary.ensures.err
