-- Units: what contracts see of them, and what they stand for.
use Rattle.std.specs.Prelude.{◌≡◌, ℕ, List, [], ◌∷◌, Option, Some, None, IfSome, MatchOption, option_map, slice_get}
use Rattle.com_events.specs.Calls.{AreNames}
use Rattle.com_events.specs.declared.call.Call.{Call}
use Rattle.com_events.specs.declared.reply.Reply.{Reply}
use Rattle.cob_meaning.specs.Sources.{IsProgramOf}
use Rattle.cob_meaning.specs.Meaning.{Ending, Program, Stopped, Wants, meaning}
use Rattle.cob_meaning.specs.Sound.{IsFit, IsWantWellFormed}
use Rattle.cob_meaning.specs.Verbs.{Request}
use Rattle.cob_flat.specs.declared.code.Instruction.{Instruction}
use Rattle.cob_flat.specs.Compiled.{IsCompiled}
use Rattle.cob_run.specs.declared.program.FlatProgram.{FlatProgram}
use Rattle.cob_run.specs.declared.want.Want.{Want}
use Rattle.cob_run.specs.declared.want.Want.TheVariants.{Verb, Stop}
use Rattle.cob_run.specs.declared.returns.Mode.{Mode}
use Rattle.cob_run.specs.declared.returns.Mode.TheVariants as mode
use Rattle.cob_run.specs.Machine.{Machine, requested_at}
use Rattle.cob_run.specs.Places.{Stands}
use Rattle.cob_run.specs.Within.{IsInitialIn, IsWithin, sizes}

-- a unit: its code with the place at which each paragraph begins, the area of INITIAL, and where it is
pub record UnitState : Type 0 where
  pub code : List Instruction
  pub starts : List ℕ
  pub initial : Option ℕ
  pub machine : Machine

-- the operands of code are within areas of these lengths, and so are the names of START
pub record AreOperandsIn (sizes : List ℕ) (code : List Instruction) (initial : Option ℕ) : Type 0 where
  pub operands : IsWithin sizes code
  pub names : IfSome initial (IsInitialIn sizes)

-- Flat code that does what a program means, with its operands within the areas. Each program of a source
-- has such code: its names stand for items and areas that are there (IsSound of cob_meaning's Sound), and
-- its statements name what they ask for (IsCheckedText of Checked).
pub record IsCodeOf (program : Program) (flat : FlatProgram) : Type 0 where
  pub compiled : IsCompiled program flat.code flat.starts
  pub opening : flat.opening ≡ program.layout.opening
  pub initial : flat.initial ≡ program.layout.initial
  pub operands : AreOperandsIn (sizes flat.opening) flat.code flat.initial

-- a unit of a program that is not begun
pub record IsNewFor (program : Program) (unit : UnitState) : Type 0 where
  pub source : List ℕ
  pub program_is : IsProgramOf source program
  pub compiled : IsCompiled program unit.code unit.starts
  pub opening : unit.machine.storage ≡ program.layout.opening
  pub initial : unit.initial ≡ program.layout.initial
  pub mode_is : unit.machine.mode ≡ mode.NotBegun

-- each call was answered, by a reply that fits it
abbrev pub AreAnswered : List Call → List Reply → Type 0
AreAnswered [] [] = Unit {0}
AreAnswered (call ∷ calls) (reply ∷ replies) = IsFit call reply × AreAnswered calls replies
AreAnswered _ _ = ⊥

-- a unit stands for a program, the names that START handed over, and the replies to its verbs
pub record StandsFor (program : Program) (names : Option (List ℕ)) (replies : List Reply) (unit : UnitState) : Type 0 where
  pub source : List ℕ
  pub program_is : IsProgramOf source program
  pub names_are : IfSome names AreNames
  pub compiled : IsCompiled program unit.code unit.starts
  pub calls : List Call
  pub answered : AreAnswered calls replies
  pub stands : Stands program unit.code names replies calls unit.machine

-- the request of a machine that waits
abbrev pub request_in : Mode → List Instruction → Machine → Option Request
request_in mode.Waiting code m = requested_at (slice_get code m.place) m.storage
request_in _ code m = None

-- the call that a unit wants to be answered, if it waits
abbrev pub wanted_call : UnitState → Option Call
wanted_call unit = option_map (λ request. request.call) (request_in unit.machine.mode unit.code unit.machine)

-- a reply fits the call that a unit wants to be answered
abbrev pub IsReplyFor : UnitState → Reply → Type 0
IsReplyFor unit reply = MatchOption (wanted_call unit) ⊥ (λ call. IsFit call reply)

-- what a program comes to that wants this
abbrev pub ending_of : Want → Ending
ending_of (Verb call) = Wants call
ending_of (Stop reason) = Stopped reason

-- the call that is wanted
abbrev pub call_in : Want → Option Call
call_in (Verb call) = Some call
call_in (Stop reason) = None

-- A unit wants what its program wants, given these names and replies.
pub record IsWantOf (program : Program) (names : Option (List ℕ)) (replies : List Reply) (unit : UnitState) (want : Want) : Type 0 where
  pub ending : (meaning program names replies).ending ≡ ending_of want
  pub well_formed : IsWantWellFormed (ending_of want)
  pub wanted : wanted_call unit ≡ call_in want
