use Rattle.std.proofs.Common.{◌≡◌, ℕ, ◌≤◌, ◌++◌, get_or, take, drop}
use Rattle.com_send.specs.declared.output.Output.{Output}
use Rattle.com_send.specs.Outgoing.{drop_unit}
use Rattle.com_send.specs.Kept.{states_of}
use Rattle.com_send.proofs.outputs.drop_unit.Given as goal

-- those so far have nothing of the unit, and the others are as they were
abbrev pub invariant-loop-output : goal.invariant-loop-output
invariant-loop-output l = record {
  states : states_of l.outputs ≡ drop_unit l.unit (take l.output-index (states_of l.fn.outputs)) ++ drop l.output-index (states_of l.fn.outputs);
  others : (k : ℕ) (d : Output) → l.output-index ≤ k → get_or l.outputs k d ≡ get_or l.fn.outputs k d;
}
