-- Why bytes are no journal, or no script.
use Rattle.std.specs.Prelude.{◌≡◌, ℕ, ◌+◌, ◌≤◌, ◌<◌, not, Bool, true, false, IsTrue, List, [], ◌∷◌, ◌++◌, length}
use Rattle.std.specs.List.{list_all}
use Rattle.com_events.specs.declared.call.Party.{Party}
use Rattle.com_events.specs.declared.call.Call.{Call}
use Rattle.com_events.specs.declared.entry.Entry.{Entry}
use Rattle.com_journal.specs.declared.fault.JournalKind.{JournalKind}
use Rattle.com_journal.specs.declared.fault.JournalKind.TheVariants.{BadHeader, BadLine, NoLineEnd}
use Rattle.com_journal.specs.declared.fault.JournalFault.{JournalFault}
use Rattle.com_journal.specs.declared.fault.JournalError.{JournalError}
use Rattle.com_journal.specs.declared.fault.JournalError.TheVariants as error
use Rattle.com_journal.specs.Lines.{IsCallText, IsLine}
use Rattle.com_journal.specs.Journals.{journal_header, ended, AreLines}
use Rattle.com_journal.specs.Scripts.{is_line_feed, lines_of, script_header, AreCalls}

-- no line feed stands among the bytes
abbrev pub IsUnbroken : List ℕ → Type 0
IsUnbroken bytes = IsTrue (list_all (λ byte. not (is_line_feed byte)) bytes)

-- bytes that are not empty begin with a line, which a line feed ends or, at their end, does not
abbrev pub IsFirstLine : List ℕ → List ℕ → Bool → List ℕ → Type 0
IsFirstLine bytes line true rest = IsUnbroken line × (bytes ≡ line ++ 10 ∷ rest)
IsFirstLine bytes line false rest =
    IsUnbroken line × (bytes ≡ line) × (1 ≤ length line) × (rest ≡ [])

-- these lines are the beginning of a journal: its header, and then lines of entries
abbrev pub AreFront : List (List ℕ) → Type 0
AreFront [] = Unit {0}
AreFront (first ∷ lines) =
    (first ≡ journal_header) × (history : List Entry) × AreLines history lines

-- The line of this number, with which these bytes begin, is refused for this reason. A header is
-- told before the end of its line, and the end of a line before its text.
abbrev pub IsRefusedLine : JournalKind → ℕ → List ℕ → Type 0
IsRefusedLine BadHeader number bytes =
    (number ≡ 1) × ((line : List ℕ) (is_ended : Bool) (rest : List ℕ)
    → IsFirstLine bytes line is_ended rest → line ≡ journal_header → ⊥)
IsRefusedLine NoLineEnd number bytes =
    (line rest : List ℕ) × IsFirstLine bytes line false rest
    × (number ≡ 1 → line ≡ journal_header)
IsRefusedLine BadLine number bytes =
    (1 < number) × (line rest : List ℕ) × IsFirstLine bytes line true rest
    × ((entry : Entry) → IsLine entry line → ⊥)

-- the fault of bytes that are no journal: of the first line that is refused
pub record IsJournalFault (bytes : List ℕ) (fault : JournalFault) : Type 0 where
  pub front : List (List ℕ)
  pub are_front : AreFront front
  pub rest : List ℕ
  pub split : bytes ≡ ended front ++ rest
  pub number : fault.line ≡ length front + 1
  pub refused : IsRefusedLine fault.kind fault.line rest

-- after the header and the texts of calls stands a line that is none
pub record IsBadCall (bytes : List ℕ) (number : ℕ) : Type 0 where
  pub front : List (List ℕ)
  pub calls : List (Party × Call)
  pub are_calls : AreCalls calls front
  pub line : List ℕ
  pub behind : List (List ℕ)
  pub split : lines_of bytes ≡ script_header ∷ front ++ line ∷ behind
  pub number_is : number ≡ length front + 2
  pub none : (party : Party) (call : Call) → IsCallText party call line → ⊥

-- the fault of bytes that are no script; the last line may lack its line feed
abbrev pub IsScriptFaultAt : JournalKind → ℕ → List ℕ → Type 0
IsScriptFaultAt BadHeader number bytes =
    (number ≡ 1) × ((lines : List (List ℕ)) → lines_of bytes ≡ script_header ∷ lines → ⊥)
IsScriptFaultAt BadLine number bytes = IsBadCall bytes number
IsScriptFaultAt NoLineEnd number bytes = ⊥

abbrev pub IsScriptFault : List ℕ → JournalFault → Type 0
IsScriptFault bytes fault = IsScriptFaultAt fault.kind fault.line bytes

-- a refusal tells such a fault; memory may always run out
abbrev pub Tells : (JournalFault → Type 0) → JournalError → Type 0
Tells P (error.Refused fault) = P fault
Tells P (error.Memory e) = Unit {0}
