use Rattle.std.proofs.Common.{◌≡◌, ◌≤◌, length}
use Rattle.cob_lex.specs.Lines.{behind_spacing}
use Rattle.cob_lex.proofs.lines.behind_spacing.Given as goal

-- what is left decides
abbrev pub invariant-loop-byte : goal.invariant-loop-byte
invariant-loop-byte l = record {
  same : behind_spacing l.rest ≡ behind_spacing l.bytes;
  within : length l.rest ≤ length l.bytes;
}

abbrev pub decreases-loop-byte : goal.decreases-loop-byte
decreases-loop-byte l = length l.rest
