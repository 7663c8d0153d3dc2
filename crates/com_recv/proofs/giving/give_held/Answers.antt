use Rattle.std.proofs.Common.{◌≡◌, Some, refl, ap, subst, ◌∙◌, not, length, slice_get}
use Rattle.std.specs.List.{remove}
use Rattle.std.proofs.lemmas.Option.{slice_get_read}
use Rattle.com_recv.specs.declared.lists.Held.{Held}
use Rattle.com_recv.specs.Incoming.{is_held_on, without_held, holding}
use Rattle.com_recv.specs.Areas.{given_area}
use Rattle.com_recv.specs.Giving.{Gives}
use Rattle.com_recv.proofs.Taking.{others_stay, filter_remove, gives, taken_out, lent, passes}
use Rattle.com_recv.proofs.giving.give_held.Goals as goal

-- the leaf of what was taken out
pub given_area-requires-clause-leaf : goal.given_area-requires-clause-leaf
given_area-requires-clause-leaf c =
    let held = c.args.held.now.items in
    let h = c.index_mut.result.now in
    let there : slice_get held c.args.at ≡ Some h = slice_get_read held (length held) c.args.at h refl c.requires.at c.index_mut.ensures.value in
    let out = taken_out held c.args.at (record { unit = h.unit; leaf = h.leaf; rest = c.take.new.self }) c.remove-unit.result c.requires.at c.remove-unit.ensures.value in
    rw out (c.requires.leaf h there).0

pub returns-clause-given : goal.returns-clause-given
returns-clause-given c = λ h is.
    let held = c.args.held.now.items in
    let tree = c.args.tree.now in
    let request = c.args.request in
    let l = c.index_mut.result.now in
    let there : slice_get held c.args.at ≡ Some l = slice_get_read held (length held) c.args.at l refl c.requires.at c.index_mut.ensures.value in
    let new : Held = record { unit = l.unit; leaf = l.leaf; rest = c.take.new.self } in
    let out : c.remove-unit.result ≡ new = taken_out held c.args.at new c.remove-unit.result c.requires.at c.remove-unit.ensures.value in
    let own : l.unit ≡ request.unit = c.requires.owner l there in
    let others : without_held l.unit l.leaf.number (remove held c.args.at) ≡ without_held l.unit l.leaf.number held =
    filter_remove (λ o. not (is_held_on l.unit l.leaf.number o)) held c.args.at l there (ap not (passes l)) in
    let before : c.remove-unit.new.self.items ≡ remove held c.args.at = c.remove-unit.ensures.items ∙ others_stay held c.args.at new in
    let behind : without_held l.unit l.leaf.number c.remove-unit.new.self.items ≡ without_held l.unit l.leaf.number held = ap (without_held l.unit l.leaf.number) before ∙ others in
    let kept : c.hold.new.held.items ≡ holding request.unit l.leaf.number c.take.new.self c.remove-unit.new.self.items =
    c.hold.ensures ∙ (ap (λ (r : Held). holding r.unit r.leaf.number r.rest c.remove-unit.new.self.items) out ∙ ap (λ unit. holding unit l.leaf.number c.take.new.self c.remove-unit.new.self.items) own) in
    let given = gives tree request l.leaf.number l.rest c.take.new.self c.in_ok-portion.portion held c.remove-unit.new.self.items c.args.area.now c.given_area.result c.hold.new.held.items
    c.in_ok-portion.ensures.portion
    (c.given_area.ensures ∙ ap (λ (r : Held). given_area tree r.leaf.number r.rest c.in_ok-portion.portion c.args.area.now) out)
    kept
    (rw own at behind) in
    subst (λ (x : Held). Gives tree request x.leaf.number x.rest held c.args.area.now c.given_area.result c.hold.new.held.items c.in_ok-portion.portion.text) (lent held c.args.at l h c.requires.at c.index_mut.ensures.value is) given
