use Rattle.std.proofs.Common.{◌≡◌, ◌∙◌, true, false, refl, sym}
use Rattle.std.proofs.lemmas.Result.{on_ok_weaker}
use Rattle.com_lines.specs.inner.Readings.{CanEnd, has_open}
use Rattle.com_lines.proofs.Ends.{whole-last, whole-none}
use Rattle.com_lines.proofs.reading.Reading.finish.Goals as goal

pub returns-then-not-has_open-clause-whole : goal.returns-then-not-has_open-clause-whole
returns-then-not-has_open-clause-whole c =
    let may : CanEnd c.args.self.now = c.in_default.ensures.none refl in
    let none : has_open c.args.self.now ≡ false = sym c.has_open.ensures ∙ c.if-not-has_open.true in
    whole-none c.args.self.now c.args.messages.now may.free none

pub returns-clause-whole : goal.returns-clause-whole
returns-clause-whole c =
    let may : CanEnd c.args.self.now = c.in_default.ensures.none refl in
    let some : has_open c.args.self.now ≡ true = sym c.has_open.ensures ∙ c.if-not-has_open.false in
    let (lines, few) = may.open_line some in
    on_ok_weaker c.add_message.result (λ e. whole-last c.args.self.now c.args.messages.now c.add_message.new.messages may.free some lines few (rw (← c.in_ok-message.ensures.message) e)) c.add_message.ensures.ok
