-- What flat code does, one instruction at a time.
use Rattle.std.specs.Prelude.{ℕ, ◌+◌, ◌-◌, Bool, cond, List, [], ◌∷◌, Option, Some, None, if◌then◌else◌, slice_get, slice_index, length, ◌==◌, nat_lt}
use Rattle.com_events.specs.declared.call.StopReason.{StopReason}
use Rattle.com_events.specs.declared.call.StopReason.TheVariants as stop
use Rattle.com_events.specs.declared.reply.Reply.{Reply}
use Rattle.com_events.specs.declared.reply.Reply.TheVariants.{NoData}
use Rattle.cob_meaning.specs.Storage.{Storage}
use Rattle.cob_meaning.specs.Verbs.{Request, with_reply}
use Rattle.cob_flat.specs.declared.code.Instruction.{Instruction}
use Rattle.cob_flat.specs.declared.code.Instruction.TheVariants as instruction
use Rattle.cob_flat.specs.declared.code.Turns.{Turns}
use Rattle.cob_flat.specs.declared.code.Turns.TheVariants as turns
use Rattle.cob_flat.specs.Effects.{amount_by, effect, holds_by, request_by}
use Rattle.cob_run.specs.declared.returns.Further.{Further}
use Rattle.cob_run.specs.declared.returns.Further.TheVariants as further
use Rattle.cob_run.specs.declared.returns.Return.{Return}
use Rattle.cob_run.specs.declared.returns.Mode.{Mode}
use Rattle.cob_run.specs.declared.returns.Mode.TheVariants as mode

-- where a unit is in its code; the innermost PERFORM is first on the stack
pub record Machine : Type 0 where
  pub mode : Mode
  pub place : ℕ
  pub paragraph : ℕ
  pub stack : List Return
  pub storage : Storage
  pub left : ℕ
  pub verbs : ℕ

-- stops for a reason
abbrev pub stopped : StopReason → Machine → Machine
stopped reason m = record m { mode = mode.Stopped reason }

-- goes on at a place with a storage, or stops for DATA
abbrev pub changed_by : Option Storage → ℕ → Machine → Machine
changed_by None next m = stopped stop.DataFault m
changed_by (Some storage) next m = record m { storage = storage; place = next }

-- goes on by a condition, or stops for DATA
abbrev pub chosen : Option Bool → Machine → Machine → Machine → Machine
chosen None m one other = stopped stop.DataFault m
chosen (Some holds) m one other = cond holds one other

-- waits with a request, or stops for DATA
abbrev pub asked : Option Request → Machine → Machine
asked None m = stopped stop.DataFault m
asked (Some request) m = record m { mode = mode.Waiting; verbs = m.verbs - 1 }

-- whether the condition of a PERFORM's instruction holds
abbrev pub judged_by : Option Instruction → Storage → Option Bool
judged_by (Some (instruction.Perform first last (turns.Until test) next)) storage = holds_by test storage
judged_by _ storage = None

module _ (starts : List ℕ) where
  -- goes on at the beginning of a paragraph
  abbrev pub entered : ℕ → Machine → Machine
  entered k m = record m { paragraph = k; place = slice_index starts k }

  -- the next turn of a PERFORM, which is counted
  abbrev pub counted_turn : Return → List Return → Machine → Machine
  counted_turn top below m =
      if m.left == 0 then stopped stop.Limit m
      else entered top.first (record m { left = m.left - 1; stack = top ∷ below })

  -- the next paragraph, or the end of the text
  abbrev pub went_on : Machine → Machine
  went_on m = if nat_lt (m.paragraph + 1) (length starts) then entered (m.paragraph + 1) m else stopped stop.Run m

-- goes on after a PERFORM
abbrev pub returned : Return → List Return → Machine → Machine
returned top below m = record m { paragraph = top.paragraph; place = top.back; stack = below }

module _ (code : List Instruction) (starts : List ℕ) where
  -- the next turn of the innermost PERFORM, or its end
  abbrev pub turned : Further → Return → List Return → Machine → Machine
  turned (further.Times n) top below m =
      if n == 0 then returned top below m
      else counted_turn starts (record top { further = further.Times (n - 1) }) below m
  turned further.Until top below m =
      chosen (judged_by (slice_get code top.call) m.storage) m (returned top below m) (counted_turn starts top below m)

  -- a PERFORM that is put on the stack
  abbrev pub pushed : ℕ → ℕ → Further → ℕ → Machine → Return
  pushed first last further next m =
      record { first = first; last = last; further = further; call = m.place; paragraph = m.paragraph; back = next }

  abbrev pub begun_as : Further → ℕ → ℕ → ℕ → Machine → Machine
  begun_as further first last next m =
      turned further (pushed first last further next m) m.stack (record m { stack = pushed first last further next m ∷ m.stack })

  abbrev pub begun_times : Option ℕ → ℕ → ℕ → ℕ → Machine → Machine
  begun_times None first last next m = stopped stop.DataFault m
  begun_times (Some n) first last next m = begun_as (further.Times n) first last next m

  -- a PERFORM is begun
  abbrev pub performed : Turns → ℕ → ℕ → ℕ → Machine → Machine
  performed turns.Once first last next m =
      entered starts first (record m { stack = pushed first last (further.Times 0) next m ∷ m.stack })
  performed (turns.Times number) first last next m = begun_times (amount_by number m.storage) first last next m
  performed (turns.Until test) first last next m = begun_as further.Until first last next m

  -- the end of a paragraph
  abbrev pub ended : List Return → Machine → Machine
  ended [] m = went_on starts m
  ended (top ∷ below) m = if m.paragraph == top.last then turned top.further top below m else went_on starts m

  -- what an instruction does that begins a statement, once it was counted
  abbrev pub acted : Instruction → Machine → Machine
  acted (instruction.Act action next) m = changed_by (effect action m.storage) next m
  acted (instruction.Choose test one other) m = chosen (holds_by test m.storage) m (record m { place = one }) (record m { place = other })
  acted (instruction.Perform first last how next) m = performed how first last next m
  acted (instruction.Ask verb no_data next) m = if m.verbs == 0 then stopped stop.Limit m else asked (request_by verb m.storage) m
  acted (instruction.Go paragraph) m = entered starts paragraph m
  acted instruction.Halt m = stopped stop.Run m
  acted instruction.End m = ended m.stack m

  -- an instruction is counted, or the limit stops the unit
  abbrev pub counted : Instruction → Machine → Machine
  counted i m = if m.left == 0 then stopped stop.Limit m else acted i (record m { left = m.left - 1 })

  abbrev pub stepped_by : Option Instruction → Machine → Machine
  stepped_by None m = stopped stop.Run m
  stepped_by (Some instruction.End) m = ended m.stack m
  stepped_by (Some i) m = counted i m

  -- one instruction
  abbrev pub stepped : Machine → Machine
  stepped m = stepped_by (slice_get code m.place) m

-- the place after a reply
abbrev pub place_after : Reply → ℕ → ℕ → ℕ
place_after (NoData area) no_data next = no_data
place_after _ no_data next = next

-- the storage after a reply to a request
abbrev pub stored_by : Option Request → Reply → Storage → Storage
stored_by None reply storage = storage
stored_by (Some request) reply storage = with_reply request reply storage

-- goes on after the reply to the verb at which a machine waits
abbrev pub replied : Option Instruction → Reply → Machine → Machine
replied (Some (instruction.Ask verb no_data next)) reply m =
    record m { mode = mode.Running; storage = stored_by (request_by verb m.storage) reply m.storage; place = place_after reply no_data next }
replied _ reply m = m

-- the request of the verb at which a machine waits
abbrev pub requested_at : Option Instruction → Storage → Option Request
requested_at (Some (instruction.Ask verb no_data next)) storage = request_by verb storage
requested_at _ storage = None

-- a machine that is begun
abbrev pub machine_begun : List ℕ → Storage → ℕ → ℕ → Machine
machine_begun starts storage left verbs =
    entered starts 0 (record { mode = mode.Running; place = 0; paragraph = 0; stack = []; storage = storage; left = left; verbs = verbs })
