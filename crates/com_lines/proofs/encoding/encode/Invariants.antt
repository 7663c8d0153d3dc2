use Rattle.std.proofs.Common.{◌≡◌, take}
use Rattle.std.specs.Prelude.{All}
use Rattle.std.specs.List.{flat_map}
use Rattle.com_text.specs.Text.{IsText}
use Rattle.com_lines.specs.Frames.{encoded}
use Rattle.com_lines.proofs.encoding.encode.Given as goal

-- the messages so far, which are texts
abbrev pub invariant-loop-message : goal.invariant-loop-message
invariant-loop-message l =
    (l.bytes.items ≡ flat_map encoded (take l.message-index l.messages))
    × All (λ message. All IsText message.segments) (take l.message-index l.messages)
