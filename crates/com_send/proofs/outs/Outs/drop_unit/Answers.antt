use Rattle.std.proofs.Common.{◌<◌, drop, length, ◌∙◌}
use Rattle.com_send.specs.Kept.{states_of}
use Rattle.com_send.proofs.Keeping.{are_for_dropped, units_within, whole}
use Rattle.com_send.proofs.outs.Outs.drop_unit.Goals as goal

pub drop_unit-requires : goal.drop_unit-requires
drop_unit-requires c =
    let inside = c.self.inside in
    let below : c.args.unit < inside.units = rw (← c.self.view_is) at c.requires in
    rw c.deref_mut.ensures.value (units_within inside.outputs.items inside.units c.args.unit c.self.invariant.begun below)

pub invariant_of-self : goal.invariant_of-self
invariant_of-self c =
    let inside = c.self.inside in
    let new = c.drop_unit.new.outputs in
    rw (whole new (drop (length new) inside.outputs.items) inside.outputs.len (c.drop_unit.auto.outputs ∙ c.deref_mut.ensures.len), c.drop_unit.ensures, c.deref_mut.ensures.value)
    (are_for_dropped c.args.unit inside.destinations inside.units (states_of inside.outputs.items) c.self.invariant)
