use Rattle.std.proofs.Common.{◌≡◌, ◌+◌, ◌-◌, true, length, take, drop, nat_lt, sym}
use Rattle.std.specs.List.{concat}
use Rattle.com_msg.specs.Places.{pieces_at}
use Rattle.com_msg.specs.Portion.{drop_characters}
use Rattle.com_msg.proofs.Rests.{message-goes-on, to-the-end}
use Rattle.com_msg.proofs.rest.Rest.take_of_message.Goals as goal

pub returns-then-is_longer-clause-portion : goal.returns-then-is_longer-clause-portion
returns-then-is_longer-clause-portion c =
    let segments = c.self.inside.message.segments in
    let place = c.self.inside.place in
    let pieces = drop place.segment segments in
    let behind = c.place_behind-behind.result in
    let whole : take (length c.as_slice.result.now - place.segment) (drop place.segment c.as_slice.result.now) ≡ pieces =
    rw c.as_slice.ensures (to-the-end place.segment segments) in
    let text : c.in_ok-text.text ≡ take c.args.size (concat (pieces_at place segments)) = rw whole at c.in_ok-text.ensures.characters in
    let longer : true ≡ nat_lt (place.taken + c.args.size) (length (concat pieces)) = rw whole at c.if-is_longer.ensures in
    let left : pieces_at behind pieces ≡ drop_characters (place.taken + c.args.size) pieces = rw whole at c.place_behind-behind.ensures.left in
    rw (← c.self.view_is, text) (sym (message-goes-on c.args.size place behind c.self.inside.message c.requires.size c.self.invariant (sym longer) left))
