use Rattle.std.proofs.Common.{◌∙◌, sym, ap}
use Rattle.cob_lex.specs.declared.fault.SourceKind.TheVariants as faults
use Rattle.cob_forms.specs.Faults.{first}
use Rattle.cob_data.specs.Faults.{at_any}
use Rattle.cob_data.proofs.Firsts.{but_first, cd_tokens, initials_at}
use Rattle.cob_data.proofs.cd_faults.first_second_initial.Goals as goal

pub entries-init : goal.entries-init
entries-init c = ap (λ ts. first (at_any faults.TwoInitial ts)) (sym (but_first (cd_tokens c.args.entries.now)))

pub entries-preserved : goal.entries-preserved
entries-preserved c =
    rw (c.first_of-found.ensures, c.first_initial_past.ensures, c.has_initial_by-had_initial.ensures, c.cd_tokens-tokens.ensures)
    (initials_at c.entries.had_initial c.entries.found c.args.entries.now c.entries.entry-index c.entry-item.result c.entries-test.true c.entry-item.is ∙ c.entries.invariant)
