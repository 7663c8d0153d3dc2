use Rattle.std.proofs.Common.{sym, ◌∙◌}
use Rattle.indexmap.proofs.CallerLemmas.{insert_entry-new}
use Rattle.cob_code.proofs.Numbering.{gets_number, stays_numbered}
use Rattle.cob_code.proofs.numbers.add_number.Goals as goal

pub returns-in-Some : goal.returns-in-Some
returns-in-Some c = λ names size numbered. stays_numbered c.args.numbers.now.entries names c.args.name.now c.in-Some.field-0.now (sym c.in-Some.ensures.value) numbered

pub returns-in_ok-insert-in-None : goal.returns-in_ok-insert-in-None
returns-in_ok-insert-in-None c = λ names size numbered.
    gets_number c.args.numbers.now.entries c.insert.new.self.entries names c.args.name c.args.number size
    (c.in_ok-insert-in-None.ensures.entries ∙ insert_entry-new _ c.args.numbers.now c.args.name c.args.number (sym c.in-None.ensures.value)) numbered
