use Rattle.std.proofs.Common.{◌≡◌, ◌<◌, ◌≤◌, length, Some, None, ap, sym, ◌∙◌}
use Rattle.com_tree.specs.Written.{leaf_count}
use Rattle.com_recv.specs.declared.giving.Request.{Request}
use Rattle.com_recv.specs.declared.lists.Held.{Held}
use Rattle.com_recv.specs.declared.lists.Waiting.{Waiting}
use Rattle.std.specs.Prelude.{is_some}
use Rattle.com_recv.specs.Incoming.{Incoming, IsTreeOf, chosen_leaf, held_under}
use Rattle.com_recv.specs.Receiving.{receive}
use Rattle.com_recv.proofs.FirstOnLeaf.{sound_less, tree_less, chosen_message, received_first, received_none}
use Rattle.com_recv.proofs.Handing.{sound_given, tree_given, there_is, stands_on, held_by_unit, received_held}
use Rattle.com_recv.proofs.queues.Queues.receive.Goals as goal

-- the rest at the place is what the unit holds under the node
pub give_held-requires-clause-owner : goal.give_held-requires-clause-owner
give_held-requires-clause-owner c = λ h is.
    held_by_unit c.args.tree.now c.self.inside.held.items c.args.unit c.in-Some.node h (sym (rw (← c.self.view_is) at c.in-Some-held_under.ensures.held) ∙ is)

pub give_held-requires-clause-leaf : goal.give_held-requires-clause-leaf
give_held-requires-clause-leaf c = λ h is.
    let inside = c.self.inside in
    let at = c.in-Some-held_under.at in
    let within : at < length inside.held.items = rw (← c.self.view_is) at c.in-Some-held_under.ensures.within in
    let on = rw (← c.self.view_is) at c.requires.tree in (
      stands_on (λ (h : Held). h.leaf.number < leaf_count c.args.tree.now) inside.held.items at h within on.held is,
      stands_on (λ (h : Held). 1 ≤ length h.rest.segments) inside.held.items at h within c.self.invariant.held is,
    )

pub invariant_of-self-in-Some-held_under : goal.invariant_of-self-in-Some-held_under
invariant_of-self-in-Some-held_under c =
    let inside = c.self.inside in
    let incoming : Incoming = record { waiting = inside.waiting; held = inside.held.items } in
    let request : Request = record { unit = c.args.unit; kind = c.args.kind; size = c.args.size } in
    let within : c.in-Some-held_under.at < length inside.held.items = rw (← c.self.view_is) at c.in-Some-held_under.ensures.within in
    let h = there_is inside.held.items c.in-Some-held_under.at within in
    sound_given c.args.tree.now request h.0.leaf.number h.0.rest incoming inside.waiting c.args.area.now c.give_held.new.area c.give_held.new.held.items c.in_ok-text.text
    (c.in_ok-text.ensures.given h.0 h.1) c.self.invariant

pub returns-in-Some-held_under-clause-received : goal.returns-in-Some-held_under-clause-received
returns-in-Some-held_under-clause-received c =
    let inside = c.self.inside in
    let tree = c.args.tree.now in
    let incoming : Incoming = record { waiting = inside.waiting; held = inside.held.items } in
    let request : Request = record { unit = c.args.unit; kind = c.args.kind; size = c.args.size } in
    let within : c.in-Some-held_under.at < length inside.held.items = rw (← c.self.view_is) at c.in-Some-held_under.ensures.within in
    let h = there_is inside.held.items c.in-Some-held_under.at within in
    let is : held_under tree incoming.held c.args.unit c.in-Some.node ≡ Some h.0 = sym (rw (← c.self.view_is) at c.in-Some-held_under.ensures.held) ∙ h.1 in
    received_held tree incoming request c.args.area.now c.in-Some.node h.0 c.give_held.new.area c.give_held.new.held.items c.in_ok-text.text
    c.in-Some.ensures.node is (c.in_ok-text.ensures.given h.0 h.1)
    ∙ ap (λ i. receive tree i c.args.unit c.args.area.now c.args.kind c.args.size) c.self.view_is

pub returns-in-Some-held_under-clause-tree : goal.returns-in-Some-held_under-clause-tree
returns-in-Some-held_under-clause-tree c =
    let inside = c.self.inside in
    let tree = c.args.tree.now in
    let incoming : Incoming = record { waiting = inside.waiting; held = inside.held.items } in
    let request : Request = record { unit = c.args.unit; kind = c.args.kind; size = c.args.size } in
    let within : c.in-Some-held_under.at < length inside.held.items = rw (← c.self.view_is) at c.in-Some-held_under.ensures.within in
    let h = there_is inside.held.items c.in-Some-held_under.at within in
    let on = rw (← c.self.view_is) at c.requires.tree in
    let leaf = stands_on (λ (h : Held). h.leaf.number < leaf_count tree) inside.held.items c.in-Some-held_under.at h.0 within on.held h.1 in
    tree_given tree request h.0.leaf.number h.0.rest incoming inside.waiting c.args.area.now c.give_held.new.area c.give_held.new.held.items c.in_ok-text.text
    (c.in_ok-text.ensures.given h.0 h.1) leaf on

pub give_waiting-requires-clause-some : goal.give_waiting-requires-clause-some
give_waiting-requires-clause-some c =
    let inside = c.self.inside in
    let incoming : Incoming = record { waiting = inside.waiting; held = inside.held.items } in
    chosen_message c.args.tree.now incoming c.in-Some.node c.in-Some-choice.leaf.number c.self.invariant (sym c.in-Some-choice.ensures.leaf)

pub invariant_of-self-in-Some-choice : goal.invariant_of-self-in-Some-choice
invariant_of-self-in-Some-choice c =
    let inside = c.self.inside in
    let tree = c.args.tree.now in
    let leaf = c.in-Some-choice.leaf.number in
    let incoming : Incoming = record { waiting = inside.waiting; held = inside.held.items } in
    let request : Request = record { unit = c.args.unit; kind = c.args.kind; size = c.args.size } in
    let m = chosen_message tree incoming c.in-Some.node leaf c.self.invariant (sym c.in-Some-choice.ensures.leaf) in
    let done = c.in_ok-text-in-Some-choice.ensures in
    sound_given tree request leaf m.0 incoming c.give_waiting.new.waiting c.args.area.now c.give_waiting.new.area c.give_waiting.new.held.items c.in_ok-text-in-Some-choice.text
    (done.given m.0 m.1) (sound_less incoming leaf c.give_waiting.new.waiting done.taken (ap is_some m.1) c.self.invariant)

pub returns-in_ok-text-in-Some-choice-clause-received :
    goal.returns-in_ok-text-in-Some-choice-clause-received
returns-in_ok-text-in-Some-choice-clause-received c =
    let inside = c.self.inside in
    let tree = c.args.tree.now in
    let leaf = c.in-Some-choice.leaf.number in
    let incoming : Incoming = record { waiting = inside.waiting; held = inside.held.items } in
    let request : Request = record { unit = c.args.unit; kind = c.args.kind; size = c.args.size } in
    let chosen = sym c.in-Some-choice.ensures.leaf in
    let m = chosen_message tree incoming c.in-Some.node leaf c.self.invariant chosen in
    let none : held_under tree incoming.held c.args.unit c.in-Some.node ≡ None = sym (rw (← c.self.view_is) at c.in_default-held_under.ensures.held) in
    let done = c.in_ok-text-in-Some-choice.ensures in
    received_first tree incoming request c.args.area.now c.in-Some.node leaf m.0 c.give_waiting.new.area c.give_waiting.new.held.items c.give_waiting.new.waiting c.in_ok-text-in-Some-choice.text
    c.in-Some.ensures.node none chosen m.1 (done.given m.0 m.1) done.taken
    ∙ ap (λ i. receive tree i c.args.unit c.args.area.now c.args.kind c.args.size) c.self.view_is

pub returns-in_ok-text-in-Some-choice-clause-tree :
    goal.returns-in_ok-text-in-Some-choice-clause-tree
returns-in_ok-text-in-Some-choice-clause-tree c =
    let inside = c.self.inside in
    let tree = c.args.tree.now in
    let leaf = c.in-Some-choice.leaf.number in
    let incoming : Incoming = record { waiting = inside.waiting; held = inside.held.items } in
    let request : Request = record { unit = c.args.unit; kind = c.args.kind; size = c.args.size } in
    let m = chosen_message tree incoming c.in-Some.node leaf c.self.invariant (sym c.in-Some-choice.ensures.leaf) in
    let done = c.in_ok-text-in-Some-choice.ensures in
    let on : IsTreeOf tree incoming = rw (← c.self.view_is) at c.requires.tree in
    tree_given tree request leaf m.0 incoming c.give_waiting.new.waiting c.args.area.now c.give_waiting.new.area c.give_waiting.new.held.items c.in_ok-text-in-Some-choice.text
    (done.given m.0 m.1) c.in-Some-choice.ensures.within (tree_less tree incoming leaf c.give_waiting.new.waiting done.taken (ap is_some m.1) on)

pub returns-in-None-clause-received : goal.returns-in-None-clause-received
returns-in-None-clause-received c =
    let tree = c.args.tree.now in
    let none : chosen_leaf tree c.args.self.now.waiting c.in-Some.node ≡ None = sym (ap (λ (i : Incoming). chosen_leaf tree i.waiting c.in-Some.node) c.self.view_is) ∙ sym c.in-None.ensures.leaf in
    received_none tree c.args.self.now c.args.unit c.args.area.now c.args.kind c.args.size c.in-Some.node c.no_data_area.result
    c.in-Some.ensures.node (sym c.in_default-held_under.ensures.held) none c.no_data_area.ensures
