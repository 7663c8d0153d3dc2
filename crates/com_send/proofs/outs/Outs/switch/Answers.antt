use Rattle.std.proofs.Common.{◌≡◌, ◌++◌, take, drop, length, Some, true, refl, sym, ap, ◌∙◌}
use Rattle.com_send.specs.Outgoing.{Outputs}
use Rattle.com_send.specs.Found.{at_each, find_destinations, with_keys}
use Rattle.com_send.specs.Switching.{switch, switch_output, switch_status, is_key_of_each}
use Rattle.com_send.specs.Kept.{states_of}
use Rattle.com_send.proofs.Keeping.{are_for_switched, whole, same_answer, switch_served}
use Rattle.com_send.proofs.outs.Outs.switch.Goals as goal

pub invariant_of-self-2 : goal.invariant_of-self-2
invariant_of-self-2 c =
    let inside = c.self.inside in
    let new = c.switch.new.outputs in
    rw (whole new (drop (length new) inside.outputs.items) inside.outputs.len (c.switch.auto.outputs ∙ c.deref_mut.ensures.len), c.in_ok-switch.ensures.ok, c.deref_mut.ensures.value)
    (are_for_switched c.deref-2.result.now c.args.on inside.destinations inside.units (states_of inside.outputs.items) c.self.invariant)

pub returns-clause-switched : goal.returns-clause-switched
returns-clause-switched c =
    let inside = c.self.inside in
    let on = c.args.on in
    let area = c.args.area.now in
    let key = c.args.key.now in
    let new = c.switch.new.outputs in
    let found = c.in-Some.found.items in
    let outgoing = states_of inside.outputs.items in
    let finds : find_destinations inside.destinations area ≡ Some found = sym (rw c.as_slice.ensures at c.in-Some.ensures.destinations) in
    let asked = sym c.is_key_of_each.ensures ∙ c.if-not-is_key_of_each.false in
    let right : is_key_of_each found key inside.destinations ≡ true = rw (c.deref.ensures.0, c.as_slice-2.ensures) at asked in
    let told : c.write_keys.new.area ≡ with_keys found (switch_status found) area =
    c.write_keys.ensures ∙ rw (c.switch_status.ensures, c.deref-3.ensures.0, c.deref-4.ensures.0) refl in
    let left : states_of (take inside.outputs.len (new ++ drop (length new) inside.outputs.items)) ≡ at_each found (switch on) outgoing =
    ap states_of (whole new (drop (length new) inside.outputs.items) inside.outputs.len (c.switch.auto.outputs ∙ c.deref_mut.ensures.len))
    ∙ (c.in_ok-switch.ensures.ok ∙ rw (c.deref-2.ensures.0, c.deref_mut.ensures.value) refl) in
    same_answer c.write_keys.new.area _ (states_of (take inside.outputs.len (new ++ drop (length new) inside.outputs.items))) _ told left
    ∙ (sym (switch_served inside.destinations outgoing on area key found finds right)
    ∙ ap (λ (outs : Outputs). switch_output outs.destinations outs.outgoing on area key) c.self.view_is)
