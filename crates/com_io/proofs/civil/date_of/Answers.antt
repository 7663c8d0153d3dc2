use Rattle.std.proofs.Common.{◌≡◌, pos, arith, ◌+ℤ◌, ◌∙◌, w64}
use Rattle.std.specs.Prelude.{IsOk}
use Rattle.std.proofs.lemmas.Int.{to_z_pos}
use Rattle.jiff.specs.Words.{epoch_day, IsEpochDay}
use Rattle.jiff.proofs.SpanFacts.{can_add-days, date_add-days, signed_arith}
use Rattle.com_io.proofs.CivilDays.{first_day, value_of}
use Rattle.com_io.proofs.civil.date_of.Goals as goal

pub returns-clause-some : goal.returns-clause-some
returns-clause-some c =
    let start = first_day c.date.result c.date.ensures in
    let only = rw (to_z_pos w64 c.args.day (omega arith)) at c.days.ensures in
    let can = can_add-days c.date.result (pos c.args.day) c.days.result only in
    let day : IsEpochDay (epoch_day c.date.result +ℤ pos c.args.day) = omega (arith, signed_arith) in
    let added : IsOk c.checked_add.result = c.checked_add.ensures.succeeds.1 (can.1 day) in
    (λ some. omega arith, λ h. c.ok.ensures.variant ∙ added)

pub returns-clause-date : goal.returns-clause-date
returns-clause-date c =
    let start = first_day c.date.result c.date.ensures in
    let only = rw (to_z_pos w64 c.args.day (omega arith)) at c.days.ensures in
    let add = date_add-days c.date.result (pos c.args.day) c.days.result only in
    let day : epoch_day c.date.result +ℤ pos c.args.day ≡ pos c.args.day = omega (arith, signed_arith) in
    value_of c.checked_add.result c.ok.result _ _ c.ok.ensures.value c.checked_add.ensures.value (λ date is. is ∙ add ∙ day)
