use Rattle.std.proofs.Common.{◌≡◌, ◌++◌, drop}
use Rattle.com_text.specs.Text.{IsText}
use Rattle.com_net.specs.KeyFaults.{shown}
use Rattle.com_net.proofs.key_faults.shown.Given as goal

-- with those that are left, all are shown
abbrev pub invariant-loop-byte : goal.invariant-loop-byte
invariant-loop-byte l = record {
  all : l.bytes.items ++ shown (drop l.byte-index l.name) ≡ shown l.name;
  text : IsText l.bytes.items;
}
