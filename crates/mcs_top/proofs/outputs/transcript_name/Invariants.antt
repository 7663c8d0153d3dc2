use Rattle.std.proofs.Common.{◌≡◌, take}
use Rattle.std.specs.Prelude.{string_bytes}
use Rattle.mcs_top.proofs.outputs.transcript_name.Given as goal

-- the characters of the name so far
abbrev pub invariant-loop-byte : goal.invariant-loop-byte
invariant-loop-byte l = string_bytes l.name ≡ take l.byte-index l.byte-items
