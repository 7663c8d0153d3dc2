use Rattle.std.proofs.Common.{length, position, ap, ◌∙◌, arith}
use Rattle.std.specs.Str.{bytes_eq}
use Rattle.com_net.proofs.NameLists.{place_of_unit, as_many_units}
use Rattle.com_net.proofs.net.Net.unit.Goals as goal

pub number_of-requires : goal.number_of-requires
number_of-requires c =
    let held = c.self.invariant in
    record { few = omega (arith, ap length held.2, as_many_units c.self.inside.units, held.0.few_units) }

pub returns-clause-number : goal.returns-clause-number
returns-clause-number c = rw (← c.self.view_is) (c.number_of.ensures.number
    ∙ (ap (position (λ other. bytes_eq other c.args.name.now)) c.self.invariant.2 ∙ place_of_unit c.args.name.now c.self.inside.units))

pub returns-clause-within : goal.returns-clause-within
returns-clause-within c =
    let same = ap length c.self.invariant.2 ∙ as_many_units c.self.inside.units in
    rw (← c.self.view_is) (rw same at c.number_of.ensures.within)
