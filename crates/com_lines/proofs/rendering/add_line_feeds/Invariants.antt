use Rattle.std.proofs.Common.{◌≡◌, ◌++◌}
use Rattle.com_msg.specs.Rendering.{line_feeds}
use Rattle.com_lines.proofs.rendering.add_line_feeds.Given as goal

-- the line feeds so far
abbrev pub invariant-loop-line : goal.invariant-loop-line
invariant-loop-line l = l.bytes ≡ l.fn.bytes ++ line_feeds l._line
