use Rattle.std.proofs.Common.{◌≡◌, ◌≤◌, ◌+◌, drop}
use Rattle.toml.specs.View.{items_view}
use Rattle.com_net.specs.Values.{strings_of}
use Rattle.com_net.specs.KeyFaults.{bad_part}
use Rattle.com_net.proofs.key_faults.bad_part.Given as goal

-- what is left decides
abbrev pub invariant-loop-value : goal.invariant-loop-value
invariant-loop-value l = record {
  part : bad_part l.number (strings_of (items_view (drop l.value-index l.values))) ≡ bad_part 1 (strings_of (items_view l.values));
  number : l.number ≤ l.value-index + 1;
}
