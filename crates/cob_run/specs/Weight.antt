-- How far a machine is from its next call or its end, at most.
use Rattle.std.specs.Prelude.{ℕ, ◌+◌, ◌-◌, ◌*◌, List, length}
use Rattle.cob_run.specs.declared.returns.Mode.{Mode}
use Rattle.cob_run.specs.declared.returns.Mode.TheVariants as mode
use Rattle.cob_run.specs.Machine.{Machine}

abbrev pub runs_on : Mode → ℕ
runs_on mode.Running = 1
runs_on _ = 0

-- each statement takes a count and may add a PERFORM, each return takes one, and each paragraph leads on in the text
unfoldable pub weight : List ℕ → Machine → ℕ
weight starts m = runs_on m.mode + ((2 * m.left + length m.stack) * (length starts + 1) + (length starts - m.paragraph))
