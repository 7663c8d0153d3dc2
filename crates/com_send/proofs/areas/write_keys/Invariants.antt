use Rattle.std.proofs.Common.{◌≡◌, ◌≤◌, length, drop}
use Rattle.std.specs.List.{fold, enumerate_from}
use Rattle.com_cd.specs.OutputArea.{occurrences_of}
use Rattle.com_send.specs.Found.{keyed, with_error_keys}
use Rattle.com_send.proofs.areas.write_keys.Given as goal

-- what is left decides
abbrev pub invariant-loop-at : goal.invariant-loop-at
invariant-loop-at l = record {
  written : fold keyed l.area (enumerate_from l.at (drop l.at l.found)) ≡ with_error_keys l.fn.found l.fn.area;
  occurrences : length l.found ≤ occurrences_of l.area;
}
