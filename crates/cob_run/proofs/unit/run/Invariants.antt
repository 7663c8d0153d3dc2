use Rattle.std.proofs.Common.{◌≡◌, ℕ, List, Option}
use Rattle.com_events.specs.declared.call.Call.{Call}
use Rattle.com_events.specs.declared.reply.Reply.{Reply}
use Rattle.cob_meaning.specs.Meaning.{Program}
use Rattle.cob_flat.specs.Compiled.{IsCompiled}
use Rattle.cob_run.specs.Places.{Stands}
use Rattle.cob_run.specs.Weight.{weight}
use Rattle.cob_run.specs.Within.{sizes}
use Rattle.cob_run.proofs.unit.run.Given as goal

-- the unit stands for what it stood for
abbrev pub invariant-steps : goal.invariant-steps
invariant-steps l = record {
  same : sizes l.state.storage ≡ sizes l.initial.state.storage;
  stands : (program : Program) (names : Option (List ℕ)) (replies : List Reply) (calls : List Call) → IsCompiled program l.code l.starts
      → Stands program l.code names replies calls l.initial.state → Stands program l.code names replies calls l.state;
}

abbrev pub decreases-steps : goal.decreases-steps
decreases-steps l = weight l.starts l.state
