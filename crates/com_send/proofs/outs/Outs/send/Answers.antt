use Rattle.std.proofs.Common.{◌≡◌, ◌<◌, ◌++◌, take, drop, length, Some, false, refl, sym, ap, ◌∙◌}
use Rattle.std.specs.Option.{option_copied}
use Rattle.com_send.specs.Outgoing.{Outputs}
use Rattle.com_send.specs.Found.{at_each, find_destinations, with_keys}
use Rattle.com_send.specs.Sending.{serve, sent_text, is_nothing, send, send_status}
use Rattle.com_send.specs.Kept.{states_of}
use Rattle.com_send.proofs.Keeping.{are_for_served, units_within, whole, same_answer, send_served}
use Rattle.com_send.proofs.outs.Outs.send.Goals as goal

pub send_to-requires-clause-units : goal.send_to-requires-clause-units
send_to-requires-clause-units c =
    let inside = c.self.inside in
    let below : c.args.unit < inside.units = rw (← c.self.view_is) at c.requires.unit in
    rw c.deref_mut.ensures.value (units_within inside.outputs.items inside.units c.args.unit c.self.invariant.begun below)

pub invariant_of-self-2 : goal.invariant_of-self-2
invariant_of-self-2 c =
    let inside = c.self.inside in
    let new = c.send_to.new.outputs in
    let text = c.in-Some-sent_text.text.now in
    rw (whole new (drop (length new) inside.outputs.items) inside.outputs.len (c.send_to.auto.outputs ∙ c.deref_mut.ensures.len), c.in_ok-status.ensures.ok, c.deref_mut.ensures.value)
    (are_for_served c.deref.result.now c.args.unit c.args.part text c.requires.advance inside.destinations inside.units (states_of inside.outputs.items) c.self.invariant)

pub returns-clause-sent : goal.returns-clause-sent
returns-clause-sent c =
    let inside = c.self.inside in
    let unit = c.args.unit in
    let area = c.args.area.now in
    let part = c.args.part in
    let item = option_copied c.args.item in
    let new = c.send_to.new.outputs in
    let found = c.in-Some.found.items in
    let text = c.in-Some-sent_text.text.now in
    let outgoing = states_of inside.outputs.items in
    let finds : find_destinations inside.destinations area ≡ Some found = sym (rw c.as_slice.ensures at c.in-Some.ensures.destinations) in
    let sends : sent_text area item ≡ Some text = sym c.in-Some-sent_text.ensures.characters in
    let something : is_nothing part text ≡ false = sym c.is_nothing.ensures ∙ c.if-is_nothing.false in
    let told : c.write_keys.new.area ≡ with_keys found (send_status found outgoing) area =
    c.write_keys.ensures ∙ rw (c.deref-2.ensures.0, c.in_ok-status.ensures.status, c.deref.ensures.0, c.deref_mut.ensures.value) refl in
    let left : states_of (take inside.outputs.len (new ++ drop (length new) inside.outputs.items)) ≡ at_each found (serve unit part text) outgoing =
    ap states_of (whole new (drop (length new) inside.outputs.items) inside.outputs.len (c.send_to.auto.outputs ∙ c.deref_mut.ensures.len))
    ∙ (c.in_ok-status.ensures.ok ∙ rw (c.deref.ensures.0, c.deref_mut.ensures.value) refl) in
    same_answer c.write_keys.new.area _ (states_of (take inside.outputs.len (new ++ drop (length new) inside.outputs.items))) _ told left
    ∙ (sym (send_served inside.destinations outgoing unit area part item found text finds sends something)
    ∙ ap (λ (outs : Outputs). send outs.destinations outs.outgoing unit area part item) c.self.view_is)
