use Rattle.std.proofs.Common.{ℕ, ◌-◌, List, true, false, length, take, drop, refl, sym, ◌∙◌, subst}
use Rattle.std.proofs.lemmas.Bool.{false≢true}
use Rattle.com_journal.specs.Faults.{IsFirstLine}
use Rattle.com_journal.proofs.FirstLines.{first_last, first_more}
use Rattle.com_journal.proofs.split.Lines.next_line.Goals as goal

pub returns-in-empty-clause-line : goal.returns-in-empty-clause-line
returns-in-empty-clause-line c =
    let bytes = c.self.inside.rest.now in
    let front = c.split_at.result.0.now in
    let rest = c.split_at.result.1.now in
    let first = first_last bytes front rest c.line_length.result c.line_length.ensures.length c.split_at.ensures.front c.split_at.ensures.back c.in-empty.len_below (λ e. false≢true (sym c.if-is_empty.false ∙ (c.is_empty.ensures ∙ rw e refl))) in
    subst (λ (xs : List ℕ). IsFirstLine xs front false rest) c.self.view_is first

pub returns-in-len1-up-clause-line : goal.returns-in-len1-up-clause-line
returns-in-len1-up-clause-line c =
    let bytes = c.self.inside.rest.now in
    let front = c.split_at.result.0.now in
    let rest = c.split_at.result.1.now in
    let first = first_more bytes front rest c.line_length.result c.line_length.ensures.length c.split_at.ensures.front c.split_at.ensures.back c.in-len1-up.len_at_least in
    subst (λ (xs : List ℕ). IsFirstLine xs front true (take (length rest - 1) (drop 1 rest))) c.self.view_is first
