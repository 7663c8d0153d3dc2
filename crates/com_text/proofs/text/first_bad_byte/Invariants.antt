use Rattle.std.proofs.Common.{take}
use Rattle.com_text.specs.Text.{IsText}
use Rattle.com_text.proofs.text.first_bad_byte.Given as goal

-- the bytes so far are a text
abbrev pub invariant-loop-at : goal.invariant-loop-at
invariant-loop-at l = IsText (take l.at l.bytes)
