-- What a call of the program came to, by its words, its status, and what the store showed before and
-- after it.
use Rattle.std.specs.Prelude.{◌≡◌, ℕ, ◌⊎◌, ◌≤◌, List, length, Some, None, IsSome, IsSomeAnd}
use Rattle.std.specs.FinMap as map
use Rattle.std.specs.List.{All}
use Rattle.com_io.specs.Faults.{Rose}
use Rattle.com_io.specs.Stores.{Contents, Shown}
use Rattle.com_msg.specs.declared.message.RawMessage.{RawMessage}
use Rattle.com_msg.specs.declared.framing.Framing.{Framing}
use Rattle.com_lines.specs.Frames.{Frames}
use Rattle.com_net.specs.declared.net.Net.{Net}
use Rattle.com_net.specs.declared.net.UnitRow.{UnitRow}
use Rattle.com_net.specs.declared.fault.NetKind.{NetKind}
use Rattle.com_net.specs.Description.{net_of}
use Rattle.com_events.specs.declared.call.Party.{Party}
use Rattle.com_events.specs.declared.call.Call.{Call}
use Rattle.com_journal.specs.Scripts.{IsScript}
use Rattle.com_state.specs.Histories.{run}
use Rattle.com_io.specs.Files.{file_limit}
use Rattle.cob_lex.specs.declared.fault.SourceFault.{SourceFault}
use Rattle.cob_meaning.specs.Meaning.{Program}
use Rattle.cob_meaning.specs.Sources.{IsProgramOf}
use Rattle.mcs_top.specs.declared.script.Reason.{Reason}
use Rattle.mcs_top.specs.declared.ends.Verdict.TheVariants.{Sound, Faulty}
use Rattle.mcs_top.specs.Files.{IsNotRead}
use Rattle.mcs_top.specs.Words.{IsReplay, IsCheck, IsShow, IsNoCommand}
use Rattle.mcs_top.specs.Reports.{IsReported, IsCutReport, usage_report, description_report, unreadable_report, source_report, script_report}
use Rattle.mcs_top.specs.Replay.{HasReplayed, IsReplayUnwritten, LacksMemoryToWrite, LacksMemoryToReplay, IsDescriptionRefused, IsFileUnread, IsScriptRefused}
use Rattle.mcs_top.specs.Check.{IsCheckTold, HasChecked, IsCheckUnwritten, IsCheckedFileUnread, IsSourceRefused, LacksMemoryToCheck}
use Rattle.mcs_top.specs.Showing.{HasShown, IsShowUnwritten, LacksMemoryToShow, IsFaultyInputTold}

-- The words are no command, and the usage line was written.
pub record IsUsageOutcome (status : ℕ) (before after : Shown) : Type 0 where
  pub memory : status ≡ 1 → IsCutReport after before usage_report
  pub usage : status ≡ 2 → IsReported after before usage_report
  pub statuses : (status ≡ 1) ⊎ (status ≡ 2)

-- NET was read and is refused. `Told` says what became of the report, from what the store showed before
-- it, here and below.
abbrev pub IsDescriptionTold : List ℕ → Shown → (Shown → List ℕ → Type 0) → Type 0
IsDescriptionTold net_file before Told =
    (tried : Shown) × (kind : NetKind) × (path : List ℕ)
    × IsDescriptionRefused before tried net_file kind path × Told tried (description_report kind path)

-- NET could not be read, or NET was read and SCRIPT could not be.
abbrev pub IsUnreadTold : List ℕ → List ℕ → Shown → (Shown → List ℕ → Type 0) → Type 0
IsUnreadTold net_file script_file before Told =
    (tried : Shown) × (name : List ℕ)
    × IsFileUnread before tried net_file script_file name × Told tried (unreadable_report name)

-- SCRIPT was read and is refused.
abbrev pub IsScriptTold : List ℕ → List ℕ → Shown → (Shown → List ℕ → Type 0) → Type 0
IsScriptTold net_file script_file before Told =
    (tried : Shown) × (line : ℕ) × (reason : Reason)
    × IsScriptRefused before tried net_file script_file line reason
    × Told tried (script_report line reason)

-- Memory ran out: before the first write of the outputs, in one of them, or while a report was made or
-- written.
abbrev pub IsReplayWithoutMemory : List ℕ → List ℕ → Shown → Shown → Type 0
IsReplayWithoutMemory net_file script_file before after =
    LacksMemoryToReplay before after net_file script_file
    ⊎ (LacksMemoryToWrite before after net_file script_file
    ⊎ (IsDescriptionTold net_file before (IsCutReport after)
    ⊎ (IsUnreadTold net_file script_file before (IsCutReport after)
    ⊎ IsScriptTold net_file script_file before (IsCutReport after))))

-- What became of `replay NET SCRIPT`.
pub record IsReplayOutcome (net_file script_file : List ℕ) (status : ℕ)
    (before after : Shown) : Type 0 where
  pub replayed : status ≡ 0 → HasReplayed before after net_file script_file Sound
  pub memory : status ≡ 1 → IsReplayWithoutMemory net_file script_file before after
  pub description : status ≡ 3 → IsDescriptionTold net_file before (IsReported after)
  pub unread : status ≡ 5 → IsUnreadTold net_file script_file before (IsReported after)
  pub faulty : status ≡ 6 → HasReplayed before after net_file script_file Faulty
  pub unwritten : status ≡ 7 → IsReplayUnwritten before after net_file script_file
  pub script : status ≡ 8 → IsScriptTold net_file script_file before (IsReported after)
  pub statuses : (status ≡ 0) ⊎ ((status ≡ 1) ⊎ ((status ≡ 3) ⊎ ((status ≡ 5)
      ⊎ ((status ≡ 6) ⊎ ((status ≡ 7) ⊎ (status ≡ 8))))))

-- NET could not be read, or the file of a program that it names.
abbrev pub IsCheckedFileUnreadTold : List ℕ → Shown → (Shown → List ℕ → Type 0) → Type 0
IsCheckedFileUnreadTold net_file before Told =
    (tried : Shown) × (name : List ℕ)
    × IsCheckedFileUnread net_file before tried name × Told tried (unreadable_report name)

-- The source of a unit was read and has a fault, and those of the units before it have none.
abbrev pub IsSourceTold : List ℕ → Shown → (Shown → List ℕ → Type 0) → Type 0
IsSourceTold net_file before Told =
    (tried : Shown) × (name : List ℕ) × (fault : SourceFault)
    × IsSourceRefused net_file before tried name fault × Told tried (source_report name fault)

-- Memory ran out: at a file, in the write of `ok`, or while a report was made or written.
abbrev pub IsCheckWithoutMemory : List ℕ → Shown → Shown → Type 0
IsCheckWithoutMemory net_file before after =
    LacksMemoryToCheck net_file before after
    ⊎ (IsCheckTold net_file before (IsCutReport after)
    ⊎ (IsDescriptionTold net_file before (IsCutReport after)
    ⊎ (IsCheckedFileUnreadTold net_file before (IsCutReport after)
    ⊎ IsSourceTold net_file before (IsCutReport after))))

-- What became of `check NET`.
pub record IsCheckOutcome (net_file : List ℕ) (status : ℕ) (before after : Shown) : Type 0 where
  pub checked : status ≡ 0 → HasChecked net_file before after
  pub memory : status ≡ 1 → IsCheckWithoutMemory net_file before after
  pub description : status ≡ 3 → IsDescriptionTold net_file before (IsReported after)
  pub source : status ≡ 4 → IsSourceTold net_file before (IsReported after)
  pub unread : status ≡ 5 → IsCheckedFileUnreadTold net_file before (IsReported after)
  pub unwritten : status ≡ 7 → IsCheckUnwritten net_file before after
  pub statuses : (status ≡ 0) ⊎ ((status ≡ 1) ⊎ ((status ≡ 3) ⊎ ((status ≡ 4) ⊎ ((status ≡ 5)
      ⊎ (status ≡ 7)))))

-- FILE could not be read.
abbrev pub IsInputUnread : List ℕ → Shown → (Shown → List ℕ → Type 0) → Type 0
IsInputUnread file before Told =
    (tried : Shown) × IsNotRead file before tried × Told tried (unreadable_report file)

-- Memory ran out.
abbrev pub IsShowWithoutMemory : Framing → List ℕ → Shown → Shown → Type 0
IsShowWithoutMemory framing file before after =
    LacksMemoryToShow framing file before after
    ⊎ (IsInputUnread file before (IsCutReport after)
    ⊎ IsFaultyInputTold framing file before (IsCutReport after))

-- What became of `show MODE FILE`.
pub record IsShowOutcome (framing : Framing) (file : List ℕ) (status : ℕ)
    (before after : Shown) : Type 0 where
  pub shown : status ≡ 0 → HasShown framing file before after
  pub memory : status ≡ 1 → IsShowWithoutMemory framing file before after
  pub unread : status ≡ 5 → IsInputUnread file before (IsReported after)
  pub unwritten : status ≡ 7 → IsShowUnwritten framing file before after
  pub faulty : status ≡ 9 → IsFaultyInputTold framing file before (IsReported after)
  pub statuses : (status ≡ 0) ⊎ ((status ≡ 1) ⊎ ((status ≡ 5) ⊎ ((status ≡ 7) ⊎ (status ≡ 9))))

-- What a call of the program with these words came to. It leaves no source open that it opened.
pub record IsOutcome (words : List (List ℕ)) (status : ℕ) (before after : Shown) : Type 0 where
  pub usage : IsNoCommand words → IsUsageOutcome status before after
  pub replay : (net_file script_file : List ℕ) → IsReplay words net_file script_file
      → IsReplayOutcome net_file script_file status before after
  pub check : (net_file : List ℕ) → IsCheck words net_file
      → IsCheckOutcome net_file status before after
  pub show : (framing : Framing) (file : List ℕ) → IsShow words framing file
      → IsShowOutcome framing file status before after
  pub pending : after.pending ≡ before.pending

-- no count of failed calls rose
pub record IsUnfailed (before after : Shown) : Type 0 where
  pub opened : Rose before.open_faults after.open_faults → ⊥
  pub read : Rose before.read_faults after.read_faults → ⊥
  pub written : Rose before.write_faults after.write_faults → ⊥

-- The store has NET and SCRIPT. NET describes a network. SCRIPT is within the limit, and its calls can
-- be done on that network, one after another.
pub record CanReplay (net_file script_file : List ℕ) (c : Contents) : Type 0 where
  pub description : List ℕ
  pub net_there : map.get c.files net_file ≡ Some description
  pub net : Net
  pub described : net_of description ≡ Some net
  pub script : List ℕ
  pub script_there : map.get c.files script_file ≡ Some script
  pub within_limit : length script ≤ file_limit
  pub calls : List (Party × Call)
  pub are_calls : IsScript calls script
  pub allowed : IsSome (run net calls)

-- The store has the file of a unit, and its source is a program.
pub record HasProgram (c : Contents) (unit : UnitRow) : Type 0 where
  pub source : List ℕ
  pub there : map.get c.files unit.source ≡ Some source
  pub program : Program
  pub is_program : IsProgramOf source program

-- The store has NET, which describes a network, and the program of each of its units.
pub record CanCheck (net_file : List ℕ) (c : Contents) : Type 0 where
  pub description : List ℕ
  pub net_there : map.get c.files net_file ≡ Some description
  pub net : Net
  pub described : net_of description ≡ Some net
  pub programs : All (HasProgram c) net.units

-- The store has FILE. It is within the limit, and its framing has no fault.
pub record CanShow (framing : Framing) (file : List ℕ) (c : Contents) : Type 0 where
  pub bytes : List ℕ
  pub there : map.get c.files file ≡ Some bytes
  pub within_limit : length bytes ≤ file_limit
  pub messages : List RawMessage
  pub framed : Frames framing bytes messages None

-- Where nothing is wrong with the files and no call failed, the command is done, or memory ran out.
pub record IsComplete (words : List (List ℕ)) (status : ℕ) (before after : Shown) : Type 0 where
  pub replay : (net_file script_file : List ℕ) → IsReplay words net_file script_file
      → IsSomeAnd before.contents (CanReplay net_file script_file) → IsUnfailed before after
      → (status ≡ 0) ⊎ ((status ≡ 6) ⊎ (status ≡ 1))
  pub check : (net_file : List ℕ) → IsCheck words net_file
      → IsSomeAnd before.contents (CanCheck net_file) → IsUnfailed before after
      → (status ≡ 0) ⊎ (status ≡ 1)
  pub show : (framing : Framing) (file : List ℕ) → IsShow words framing file
      → IsSomeAnd before.contents (CanShow framing file) → IsUnfailed before after
      → (status ≡ 0) ⊎ (status ≡ 1)
