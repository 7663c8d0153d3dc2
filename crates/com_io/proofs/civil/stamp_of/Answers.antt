use Rattle.std.proofs.Common.{arith, refl, ◌∙◌}
use Rattle.std.proofs.lemmas.Option.{IfSome_then}
use Rattle.com_io.proofs.CivilDays.{date_is_moment, stamp_is, year_from}
use Rattle.com_io.proofs.civil.stamp_of.Goals as goal

pub digits_of_date-requires : goal.digits_of_date-requires
digits_of_date-requires c = year_from c.in_ok-date.date _ c.in_ok-date.ensures.date

pub returns-clause-some : goal.returns-clause-some
returns-clause-some c =
    let valid = date_is_moment c.in_ok-date.date c.args.second c.args.hundredth c.digits_of_date.result c.digits_of_time.result c.digits_of_date.ensures c.digits_of_time.ensures (omega arith) in
    (λ some. (omega arith, c.in_ok-date.ensures.some.0 refl), λ h. c.new.ensures.some.1 valid)

pub returns-clause-stamp : goal.returns-clause-stamp
returns-clause-stamp c =
    IfSome_then c.new.result c.new.ensures.stamp (λ stamp is. stamp_is c.in_ok-date.date c.args.second c.args.hundredth stamp c.in_ok-date.ensures.date (is ∙ rw (c.digits_of_date.ensures, c.digits_of_time.ensures) refl))
