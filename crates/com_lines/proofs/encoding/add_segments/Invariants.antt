use Rattle.std.proofs.Common.{◌≡◌, ◌++◌, take}
use Rattle.std.specs.Prelude.{All}
use Rattle.com_text.specs.Text.{IsText}
use Rattle.com_lines.specs.Frames.{joined}
use Rattle.com_lines.proofs.encoding.add_segments.Given as goal

-- the segments so far, which are texts
abbrev pub invariant-loop-place : goal.invariant-loop-place
invariant-loop-place l =
    (l.bytes.items ≡ l.fn.bytes.items ++ joined (take l.place l.segments)) × All IsText (take l.place l.segments)
