-- Instructions one after another.
use Rattle.std.proofs.Common.{◌≡◌, ◌⊎◌, ℕ, ◌<◌, List, Option, refl, sym, ap, ◌∙◌, subst, ⊎_elim, arith}
use Rattle.com_events.specs.declared.call.Call.{Call}
use Rattle.com_events.specs.declared.call.StopReason.{StopReason}
use Rattle.com_events.specs.declared.reply.Reply.{Reply}
use Rattle.cob_meaning.specs.Storage.{Storage}
use Rattle.cob_meaning.specs.Meaning.{Program}
use Rattle.cob_flat.specs.declared.code.Instruction.{Instruction}
use Rattle.cob_flat.specs.Compiled.{IsCompiled}
use Rattle.cob_run.specs.declared.returns.Mode.{Mode}
use Rattle.cob_run.specs.declared.returns.Mode.TheVariants as mode
use Rattle.cob_run.specs.Machine.{Machine, stepped}
use Rattle.cob_run.specs.Places.{Stands, StandsBy}
use Rattle.cob_run.specs.Weight.{weight}
use Rattle.cob_run.specs.inner.Stepping.{Comes}
use Rattle.cob_run.proofs.Simulation.{steps}
use Rattle.cob_run.proofs.Weights.{step_less}

-- the storage has no weight
same_weight : (starts : List ℕ) (m : Machine) (storage : Storage) → weight starts (record m { storage = storage }) ≡ weight starts m
unfolding weight
same_weight starts m storage = refl

-- a machine is lighter after an instruction
pub lighter_after : (code : List Instruction) (starts : List ℕ) (m new : Machine) → m.mode ≡ mode.Running → Comes (stepped code starts m) new → weight starts new < weight starts m
lighter_after code starts m new e c = ⊎_elim same other c
  where
    less : weight starts (stepped code starts m) < weight starts m
    less = step_less code starts m e

    same : new ≡ stepped code starts m → weight starts new < weight starts m
    same h = subst (λ x. weight starts x < weight starts m) (sym h) less

    other : ((reason : StopReason) × ((stepped code starts m).mode ≡ mode.Stopped reason) × (new ≡ record (stepped code starts m) { storage = new.storage })) → weight starts new < weight starts m
    other (reason, w, h) = subst (λ n. n < weight starts m) (sym (ap (weight starts) h ∙ same_weight starts (stepped code starts m) new.storage)) less

module _ (program : Program) (code : List Instruction) (names : Option (List ℕ)) (replies : List Reply) (calls : List Call) where
  -- what stands once it has stopped does so whatever the storage holds
  stopped_stands : (reason : StopReason) (m new : Machine) → m.mode ≡ mode.Stopped reason → new.mode ≡ mode.Stopped reason → Stands program code names replies calls m → Stands program code names replies calls new
  stopped_stands reason m new e f h = subst (StandsBy program code names replies calls new) (sym f) (subst (StandsBy program code names replies calls m) e h)

  -- and stands for the same
  pub stands_after : (starts : List ℕ) (m new : Machine) → IsCompiled program code starts → m.mode ≡ mode.Running → Comes (stepped code starts m) new → Stands program code names replies calls m → Stands program code names replies calls new
  stands_after starts m new compiled e c h = ⊎_elim same other c
    where
      there : Stands program code names replies calls (stepped code starts m)
      there = steps program code starts compiled names replies calls m e h

      same : new ≡ stepped code starts m → Stands program code names replies calls new
      same g = subst (Stands program code names replies calls) (sym g) there

      other : ((reason : StopReason) × ((stepped code starts m).mode ≡ mode.Stopped reason) × (new ≡ record (stepped code starts m) { storage = new.storage })) → Stands program code names replies calls new
      other (reason, w, g) = stopped_stands reason (stepped code starts m) new w (ap (λ x. x.mode) g ∙ w) there
