use Rattle.std.proofs.Common.{◌≡◌, ◌∙◌, true, false, refl, sym}
use Rattle.com_lines.specs.inner.Readings.{has_open, holds_return}
use Rattle.com_lines.proofs.Ends.{faulty-before, faulty-many}
use Rattle.com_lines.proofs.reading.Reading.end_fault.Goals as goal

pub returns-then-holds_return-clause-fault : goal.returns-then-holds_return-clause-fault
returns-then-holds_return-clause-fault c =
    let holds : holds_return c.args.self.now ≡ true = cc in
    faulty-before c.args.self.now _ c.requires.safe holds refl refl

pub returns-in-Lines-clause-fault : goal.returns-in-Lines-clause-fault
returns-in-Lines-clause-fault c =
    let holds : holds_return c.args.self.now ≡ false = sym c.holds_return.ensures ∙ c.if-holds_return.false in
    let some : has_open c.args.self.now ≡ true = sym c.has_open.ensures ∙ c.if-not-has_open.false in
    faulty-many c.args.self.now _ holds some c.in-Lines.is c.if-self-ge-MAX_MESSAGES.true refl refl
