use Rattle.std.proofs.Common.{◌≡◌, ℕ, List, ◌++◌, length, ap, ◌∙◌, append_assoc, rules}
use Rattle.com_state.specs.Transcripts.{sent_in}
use Rattle.mcs_top.specs.Outputs.{unit_lines, terminal_lines, count_lines}
use Rattle.mcs_top.proofs.summary.summary.Goals as goal

pub returns : goal.returns
returns c =
    let run = c.args.run.now in
    let unit_text = unit_lines run.state.net.units run.ends in
    let terminal_text = terminal_lines run.state.net.terminals run.ends in
    let count_text = count_lines run.arrivals run.portions (length (sent_in run.state.outgoing)) in
    let units : c.put_units.new.out ≡ unit_text = search rules in
    let terminals : c.put_terminals.new.out ≡ c.put_units.new.out ++ terminal_text = search rules in
    let counts : c.put_counts.new.out ≡ c.put_terminals.new.out ++ count_text = search rules in
    counts ∙ (ap (λ (out : List ℕ). out ++ count_text) (terminals ∙ ap (λ (out : List ℕ). out ++ terminal_text) units) ∙ append_assoc unit_text terminal_text count_text)
