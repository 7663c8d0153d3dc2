-- Parts of an instruction.
use Rattle.std.specs.Prelude.{◌≡◌, ◌⊎◌, ◌-◌, ℕ, List, [], ◌∷◌, Option, Some, None, option_map}
use Rattle.com_events.specs.declared.call.StopReason.{StopReason}
use Rattle.cob_meaning.specs.Storage.{Storage}
use Rattle.cob_flat.specs.declared.code.Instruction.{Instruction}
use Rattle.cob_flat.specs.declared.code.Turns.{Turns}
use Rattle.cob_flat.specs.declared.code.Turns.TheVariants as turns
use Rattle.cob_flat.specs.Effects.{amount_by}
use Rattle.cob_run.specs.declared.returns.Further.{Further}
use Rattle.cob_run.specs.declared.returns.Further.TheVariants as further
use Rattle.cob_run.specs.declared.returns.Return.{Return}
use Rattle.cob_run.specs.declared.returns.Mode.TheVariants as mode
use Rattle.cob_run.specs.Machine.{Machine, entered, turned}

-- one statement fewer may be begun
abbrev pub counted_once : Machine → Machine
counted_once m = record m { left = m.left - 1 }

-- a PERFORM is on the stack
abbrev pub pushed_on : ℕ → ℕ → Further → ℕ → Machine → Machine
pushed_on first last further next m =
    record m { stack = record { first = first; last = last; further = further; call = m.place; paragraph = m.paragraph; back = next } ∷ m.stack }

-- the turns of a PERFORM that is begun
abbrev pub further_by : Turns → Storage → Option Further
further_by turns.Once storage = Some (further.Times 0)
further_by (turns.Times number) storage = option_map further.Times (amount_by number storage)
further_by (turns.Until test) storage = Some further.Until

-- a PERFORM that is on the stack is begun
abbrev pub begun_by : List Instruction → List ℕ → Turns → Return → List Return → Machine → Machine
begun_by code starts turns.Once top below m = entered starts top.first m
begun_by code starts (turns.Times number) top below m = turned code starts top.further top below m
begun_by code starts (turns.Until test) top below m = turned code starts top.further top below m

-- A machine has come to be this one. What the storage holds once it has stopped is left open.
abbrev pub Comes : Machine → Machine → Type 0
Comes wanted new =
    (new ≡ wanted)
    ⊎ ((reason : StopReason) × (wanted.mode ≡ mode.Stopped reason) × (new ≡ record wanted { storage = new.storage }))
