use Rattle.std.proofs.Common.{◌≡◌, ℕ, suc, ◌+◌, ◌≤◌, ◌++◌, length, take, ap, ◌∙◌, sym, arith, rules}
use Rattle.std.proofs.lemmas.List.{take_all, length-append}
use Rattle.com_net.specs.declared.net.Net.{Net}
use Rattle.com_state.specs.Transcripts.{sent_in}
use Rattle.mcs_top.proofs.Outs.{sent_more}
use Rattle.mcs_top.proofs.Performance.{as_many}
use Rattle.mcs_top.proofs.summary.transmitted.Goals as goal

pub loop-terminal-preserved : goal.loop-terminal-preserved
loop-terminal-preserved c =
    let outgoing = c.args.state.now.outgoing in
    let i = c.loop-terminal.terminal in
    let messages = c.transmitted.result.now in
    let next : i + 1 ≡ suc i = omega arith in
    let more : sent_in (take (i + 1) outgoing) ≡ sent_in (take i outgoing) ++ messages =
    ap (λ (k : ℕ). sent_in (take k outgoing)) next ∙ sent_more outgoing i messages c.transmitted.ensures.transmitted in
    let sum : c.in_ok-total.total ≡ c.loop-terminal.total + length messages = search rules in
    sum ∙ (ap (λ (n : ℕ). n + length messages) c.loop-terminal.invariant ∙ sym (ap length more ∙ length-append (sent_in (take i outgoing)) messages))

pub returns : goal.returns
returns c =
    let S = c.args.state.now in
    let many = as_many S c.net.ensures.valid.net c.requires in
    let same = ap (λ (net : Net). length net.terminals) (c.behind-state.view_is ∙ c.net.ensures.net) in
    let past : length S.outgoing ≤ c.loop-terminal.terminal = omega (arith, many, same, c.len-terminal-end.ensures, c.loop-terminal-test.false) in
    c.loop-terminal.invariant ∙ ap (λ xs. length (sent_in xs)) (take_all c.loop-terminal.terminal S.outgoing past)
