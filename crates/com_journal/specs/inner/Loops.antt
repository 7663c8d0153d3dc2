-- What the readers of journals and scripts have read so far, for the functions that read them.
use Rattle.std.specs.Prelude.{◌≡◌, ℕ, ◌+◌, Bool, true, false, List, ◌∷◌, ◌++◌, length}
use Rattle.com_events.specs.declared.call.Party.{Party}
use Rattle.com_events.specs.declared.call.Call.{Call}
use Rattle.com_events.specs.declared.entry.Entry.{Entry}
use Rattle.com_journal.specs.declared.fault.JournalKind.{JournalKind}
use Rattle.com_journal.specs.declared.fault.JournalKind.TheVariants.{BadHeader, BadLine, NoLineEnd}
use Rattle.com_journal.specs.declared.fault.JournalFault.{JournalFault}
use Rattle.com_journal.specs.declared.fault.JournalError.{JournalError}
use Rattle.com_journal.specs.declared.fault.JournalError.TheVariants as error
use Rattle.com_journal.specs.Lines.{IsCallText, IsLine}
use Rattle.com_journal.specs.Journals.{ended, AreLines}
use Rattle.com_journal.specs.Scripts.{lines_of, AreCalls}
use Rattle.com_journal.specs.Faults.{IsRefusedLine}

abbrev pub IsMemory : JournalError → Type 0
IsMemory (error.Refused fault) = ⊥
IsMemory (error.Memory e) = Unit {0}

-- the line of this number, with which the bytes begin, is refused
pub record IsRefusedAt (number : ℕ) (bytes : List ℕ) (fault : JournalFault) : Type 0 where
  pub at : fault.line ≡ number
  pub refused : IsRefusedLine fault.kind fault.line bytes

-- the line of this number, after the header, is no entry's, or lacks its line feed
abbrev pub IsNoEntryFor : JournalKind → List ℕ → Bool → Type 0
IsNoEntryFor BadHeader line is_ended = ⊥
IsNoEntryFor NoLineEnd line is_ended = is_ended ≡ false
IsNoEntryFor BadLine line is_ended =
    (is_ended ≡ true) × ((entry : Entry) → IsLine entry line → ⊥)

pub record IsNoEntry (number : ℕ) (line : List ℕ) (is_ended : Bool) (fault : JournalFault) : Type 0 where
  pub at : fault.line ≡ number
  pub refused : IsNoEntryFor fault.kind line is_ended

-- after the header, the bytes are these lines of entries, and what is left
pub record HasRead (bytes : List ℕ) (entries : List Entry) (number : ℕ) (rest : List ℕ) : Type 0 where
  pub texts : List (List ℕ)
  pub are_lines : AreLines entries texts
  pub split : bytes ≡ ended texts ++ rest
  pub at : number ≡ length texts + 1

-- and the next line is refused
pub record IsRefusedBehind (bytes : List ℕ) (fault : JournalFault) : Type 0 where
  pub entries : List Entry
  pub number : ℕ
  pub rest : List ℕ
  pub read : HasRead bytes entries number rest
  pub at : fault.line ≡ number + 1
  pub refused : IsRefusedLine fault.kind fault.line rest

-- the line of this number is no call's text
pub record IsNoCall (number : ℕ) (line : List ℕ) (fault : JournalFault) : Type 0 where
  pub at : fault.line ≡ number
  pub kind : fault.kind ≡ BadLine
  pub none : (party : Party) (call : Call) → IsCallText party call line → ⊥

-- after the header, the lines are these calls, and those that are left
pub record HasReadCalls (bytes : List ℕ) (calls : List (Party × Call)) (number : ℕ) (rest : List ℕ) : Type 0 where
  pub texts : List (List ℕ)
  pub are_calls : AreCalls calls texts
  pub split : lines_of bytes ≡ texts ++ lines_of rest
  pub at : number ≡ length texts + 1

-- and the next is no call's text
pub record IsBadCallBehind (bytes : List ℕ) (fault : JournalFault) : Type 0 where
  pub calls : List (Party × Call)
  pub number : ℕ
  pub rest : List ℕ
  pub read : HasReadCalls bytes calls number rest
  pub line : List ℕ
  pub behind : List (List ℕ)
  pub next : lines_of rest ≡ line ∷ behind
  pub no_call : IsNoCall (number + 1) line fault
