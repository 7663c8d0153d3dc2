use Rattle.std.proofs.Common.{◌≡◌, take}
use Rattle.std.specs.List.{flat_map}
use Rattle.com_msg.specs.Rendering.{rendered_message}
use Rattle.mcs_top.proofs.outputs.rendered.Given as goal

-- the messages so far
abbrev pub invariant-loop-message : goal.invariant-loop-message
invariant-loop-message l = l.out ≡ flat_map rendered_message (take l.message-index l.messages)
