use Rattle.std.proofs.Common.{◌≡◌, ◌<◌, ◌≤◌, List, [], ◌∷◌, ◌++◌, length, get_or, take, ap, rules}
use Rattle.std.proofs.lemmas.List.{take_all}
use Rattle.com_net.specs.declared.net.Terminal.{Terminal}
use Rattle.mcs_top.specs.Running.{transcript, transcripts_in}
use Rattle.mcs_top.proofs.Outs.{written_then, cut_early, cut_later, transcripts_more, transcripts_around}
use Rattle.mcs_top.proofs.outputs.write_transcripts.Goals as goal

pub returns-in_err-write_transcript-clause-err : goal.returns-in_err-write_transcript-clause-err
returns-in_err-write_transcript-clause-err g c =
    let S = c.args.state.now in
    let terminals = S.net.terminals in
    let i = c.loop-number.number in
    let d = c.index-terminals-number.result in
    let terminal = get_or c.as_slice-terminals.result.now i d in
    let messages = c.transmitted-messages.result.now in
    let within : i < length terminals = search rules in
    let all : c.as_slice-terminals.result.now ≡ terminals = search rules in
    let here : terminal ≡ get_or terminals i d = ap (λ (ts : List Terminal). get_or ts i d) all in
    let around = transcripts_around S terminals i terminal d messages within here c.transmitted-messages.ensures.transmitted in
    let front = transcripts_in S 0 (take i terminals) in
    let write = transcript terminal.name messages ∷ [] in
    let before = g.S.Store.shows c.args.store.now in
    let mid = g.S.Store.shows c.loop-number.store in
    let after = g.S.Store.shows c.write_transcript.new.store in
    let fault = c.in_err-write_transcript.field-0.0 in
    let failed = rw (← around.1) at (cut_early (front ++ write) around.0 before after fault (cut_later front write before mid after fault c.loop-number.invariant c.in_err-write_transcript.ensures.err)) in
    search rules

pub loop-number-preserved : goal.loop-number-preserved
loop-number-preserved g c =
    let S = c.args.state.now in
    let terminals = S.net.terminals in
    let i = c.loop-number.number in
    let d = c.index-terminals-number.result in
    let terminal = get_or c.as_slice-terminals.result.now i d in
    let messages = c.transmitted-messages.result.now in
    let within : i < length terminals = search rules in
    let all : c.as_slice-terminals.result.now ≡ terminals = search rules in
    let here : terminal ≡ get_or terminals i d = ap (λ (ts : List Terminal). get_or ts i d) all in
    let front = transcripts_in S 0 (take i terminals) in
    let write = transcript terminal.name messages ∷ [] in
    rw (transcripts_more S terminals i terminal d messages within here c.transmitted-messages.ensures.transmitted)
    (written_then front write (g.S.Store.shows c.args.store.now) (g.S.Store.shows c.loop-number.store) (g.S.Store.shows c.write_transcript.new.store) c.loop-number.invariant c.in_ok-write_transcript.ensures.ok)

pub returns-clause-ok : goal.returns-clause-ok
returns-clause-ok g c =
    let terminals = c.args.state.now.net.terminals in
    let past : length terminals ≤ c.loop-number.number = search rules in
    rw (take_all c.loop-number.number terminals past) at c.loop-number.invariant
