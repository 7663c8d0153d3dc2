use Rattle.std.proofs.Common.{rules, ◌≡◌, Some, refl, sym, ◌∙◌, subst}
use Rattle.com_journal.specs.Lines.{IsLine}
use Rattle.com_journal.proofs.LineLengths.{short_line}
use Rattle.com_disk.specs.inner.Reads.{IsSplit}
use Rattle.com_disk.proofs.Unique.{record_split}
use Rattle.com_disk.proofs.reading.next_entry.Goals as goal

pub returns-in_default-clause-refused : goal.returns-in_default-clause-refused
returns-in_default-clause-refused c = (refl, λ entry line after is_line some e. c.in_default.ensures.none refl line after (short_line entry line is_line) some e)

pub returns-in-None-clause-refused : goal.returns-in-None-clause-refused
returns-in-None-clause-refused c = (
  refl,
  λ entry line after is_line some e.
      let split : IsSplit c.args.bytes.now c.in-Some.line.now c.in-Some.after.now = search rules in
      let parts = record_split c.in-Some.line.now line c.in-Some.after.now after split.short (short_line entry line is_line) (sym split.split ∙ e) in
      let found : c.in_ok-entry.field-0 ≡ Some entry = c.in_ok-entry.ensures.each_line entry (subst (IsLine entry) (sym parts.0) is_line) in
      let none = c.in-None.is in
      cc,
)
