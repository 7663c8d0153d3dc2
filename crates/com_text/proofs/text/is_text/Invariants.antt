use Rattle.std.proofs.Common.{◌≡◌, take}
use Rattle.com_text.specs.Text.{is_text}
use Rattle.com_text.proofs.text.is_text.Given as goal

-- whether the bytes so far are a text
abbrev pub invariant-loop-byte : goal.invariant-loop-byte
invariant-loop-byte l = l.all ≡ is_text (take l.byte-index l.bytes)
