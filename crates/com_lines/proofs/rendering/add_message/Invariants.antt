use Rattle.std.proofs.Common.{◌≡◌, ◌++◌, take}
use Rattle.std.specs.List.{flat_map}
use Rattle.com_msg.specs.Rendering.{rendered_text}
use Rattle.com_lines.proofs.rendering.add_message.Given as goal

-- the segments so far
abbrev pub invariant-loop-segment : goal.invariant-loop-segment
invariant-loop-segment l =
    l.bytes ≡ l.fn.bytes ++ flat_map (λ segment. rendered_text segment.advance segment.text) (take l.segment-index l.fn.message.segments)
