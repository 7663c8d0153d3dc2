use Rattle.std.proofs.Common.{◌≡◌, ◌∙◌, take, take_all, ap}
use Rattle.std.specs.Prelude.{All}
use Rattle.std.specs.List.{flat_map}
use Rattle.std.proofs.lemmas.List.Elements.{All-more}
use Rattle.com_text.specs.Text.{IsText}
use Rattle.com_msg.specs.declared.message.RawMessage.{RawMessage}
use Rattle.com_lines.specs.Frames.{encoded}
use Rattle.com_lines.proofs.Encoded.{all-encodable, encoded-frames, encoded-more}
use Rattle.com_lines.proofs.encoding.encode.Goals as goal

pub loop-message-preserved : goal.loop-message-preserved
loop-message-preserved c =
    let messages = c.args.messages.now in
    let i = c.loop-message.message-index in
    let message = c.message-item.result in
    let (so_far, texts) = c.loop-message.invariant in
    let within = c.loop-message-test.true in (
      c.in_ok-add_message.ensures.bytes ∙ encoded-more c.loop-message.bytes.items messages i message message within c.message-item.is so_far,
      All-more (λ (m : RawMessage). All IsText m.segments) messages i message within texts (rw (← c.message-item.is) c.in_ok-add_message.ensures.texts),
    )

pub returns-clause-framed : goal.returns-clause-framed
returns-clause-framed c room =
    let messages = c.args.messages.now in
    let (so_far, texts) = c.loop-message.invariant in
    let all : take c.loop-message.message-index messages ≡ messages = take_all c.loop-message.message-index messages c.loop-message-test.false in
    let bytes : c.of_vec.result ≡ flat_map encoded messages = c.of_vec.ensures ∙ (so_far ∙ ap (flat_map encoded) all) in
    rw bytes (encoded-frames messages (all-encodable messages c.requires.limits (rw all at texts)) room)
