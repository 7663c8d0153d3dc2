use Rattle.std.proofs.Common.{◌-◌, length, take, drop}
use Rattle.com_text.specs.Text.{IsText}
use Rattle.com_text.proofs.Texts.{IsText-take, IsText-drop}
use Rattle.com_msg.proofs.rest.Rest.take_of_segment.Goals as goal

pub text_of-requires : goal.text_of-requires
text_of-requires c =
    let bytes = c.as_bytes.result.now in
    let taken = c.self.inside.place.taken in
    let piece = take (length bytes - taken) (drop taken bytes) in
    let text : IsText bytes = rw c.as_bytes.ensures.same c.as_bytes.ensures.text in
    IsText-take c.min-given.result piece (IsText-take (length bytes - taken) (drop taken bytes) (IsText-drop taken bytes text))
