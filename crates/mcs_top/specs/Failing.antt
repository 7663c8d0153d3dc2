-- Why a replay is not done, for the functions that do it.
use Rattle.std.specs.Prelude.{◌≡◌, ℕ, ◌⊎◌, List}
use Rattle.com_io.specs.declared.store.StoreFault.TheVariants as store
use Rattle.com_io.specs.Files.{file_limit, IsRead, IsAbandoned}
use Rattle.com_io.specs.Stores.{Shown}
use Rattle.com_net.specs.declared.net.Net.{Net}
use Rattle.mcs_top.specs.declared.script.Reason.{Reason}
use Rattle.mcs_top.specs.declared.report.Refusal.TheVariants.{Usage, Description, Unread, Source, Script, Input}
use Rattle.mcs_top.specs.declared.report.Failure.{Failure}
use Rattle.mcs_top.specs.declared.report.Failure.TheVariants.{Refused, Write, Memory}
use Rattle.mcs_top.specs.declared.run.Run.{Run}
use Rattle.mcs_top.specs.declared.ends.Verdict.{Verdict}
use Rattle.mcs_top.specs.Files.{IsNotRead}
use Rattle.mcs_top.specs.Histories.{verdict_of}
use Rattle.mcs_top.specs.Running.{IsDoneBy, writes_of, AreWritten, IsCutIn}
use Rattle.mcs_top.specs.Refusal.{IsRefused}
use Rattle.mcs_top.specs.Replay.{IsReplayUnwritten, LacksMemoryToWrite, LacksMemoryToReplay, IsDescriptionRefused, IsFileUnread, IsScriptRefused}

-- NET gave no network
abbrev pub IsNetFailure : List ℕ → Shown → Shown → Failure → Type 0
IsNetFailure name before after (Refused (Unread told)) =
    (told.now ≡ name) × IsNotRead name before after
IsNetFailure name before after (Refused (Description fault)) =
    IsDescriptionRefused before after name fault.kind fault.path
IsNetFailure name before after (Refused Usage) = ⊥
IsNetFailure name before after (Refused (Script line reason)) = ⊥
IsNetFailure name before after (Refused (Source unit fault)) = ⊥
IsNetFailure name before after (Refused (Input text)) = ⊥
IsNetFailure name before after Memory = IsAbandoned file_limit name before after
IsNetFailure name before after Write = ⊥

-- a script that was read and is refused
abbrev pub IsRefusedScript : List ℕ → Net → Shown → Shown → ℕ → Reason → Type 0
IsRefusedScript name net before after line reason =
    (script : List ℕ) × IsRead file_limit name script before after
    × IsRefused net script line reason

-- SCRIPT was not done
abbrev pub IsScriptFailure : List ℕ → Net → Shown → Shown → Failure → Type 0
IsScriptFailure name net before after (Refused (Unread told)) =
    (told.now ≡ name) × IsNotRead name before after
IsScriptFailure name net before after (Refused (Script line reason)) =
    IsRefusedScript name net before after line reason
IsScriptFailure name net before after (Refused Usage) = ⊥
IsScriptFailure name net before after (Refused (Description fault)) = ⊥
IsScriptFailure name net before after (Refused (Source unit fault)) = ⊥
IsScriptFailure name net before after (Refused (Input text)) = ⊥
IsScriptFailure name net before after Memory = IsAbandoned file_limit name before after
IsScriptFailure name net before after Write = ⊥

-- what is written of the run was written, and this is its verdict
pub record IsWrittenRun (run : Run) (before after : Shown) (verdict : Verdict) : Type 0 where
  pub written : AreWritten (writes_of run) before after
  pub judged : verdict ≡ verdict_of run.ends

-- it was written up to a write that was not done
abbrev pub IsUnwrittenRun : Run → Shown → Shown → Failure → Type 0
IsUnwrittenRun run before after Write = IsCutIn (writes_of run) before after store.Failed
IsUnwrittenRun run before after Memory = IsCutIn (writes_of run) before after store.Memory
IsUnwrittenRun run before after (Refused refusal) = ⊥

-- SCRIPT was read, its calls were done on this network, and what is written of them was written
pub record IsReplayedOn (script_file : List ℕ) (net : Net) (before after : Shown)
    (verdict : Verdict) : Type 0 where
  pub run : Run
  pub read : Shown
  pub done : IsDoneBy script_file net before read run
  pub written : IsWrittenRun run read after verdict

-- SCRIPT was read and its calls were done on this network, and then the writes were not, for this reason
pub record IsCutOn (script_file : List ℕ) (net : Net) (before after : Shown)
    (failure : Failure) : Type 0 where
  pub run : Run
  pub read : Shown
  pub done : IsDoneBy script_file net before read run
  pub cut : IsUnwrittenRun run read after failure

-- why that was not done
abbrev pub IsNotReplayedOn : List ℕ → Net → Shown → Shown → Failure → Type 0
IsNotReplayedOn script_file net before after failure =
    IsScriptFailure script_file net before after failure ⊎ IsCutOn script_file net before after failure

-- why the replay of these two files is not done, and what was asked of the store so far
abbrev pub HasNotReplayed : List ℕ → List ℕ → Shown → Shown → Failure → Type 0
HasNotReplayed net_file script_file before after (Refused (Description fault)) =
    IsDescriptionRefused before after net_file fault.kind fault.path
HasNotReplayed net_file script_file before after (Refused (Unread name)) =
    IsFileUnread before after net_file script_file name.now
HasNotReplayed net_file script_file before after (Refused (Script line reason)) =
    IsScriptRefused before after net_file script_file line reason
HasNotReplayed net_file script_file before after (Refused Usage) = ⊥
HasNotReplayed net_file script_file before after (Refused (Source unit fault)) = ⊥
HasNotReplayed net_file script_file before after (Refused (Input text)) = ⊥
HasNotReplayed net_file script_file before after Memory =
    LacksMemoryToReplay before after net_file script_file
    ⊎ LacksMemoryToWrite before after net_file script_file
HasNotReplayed net_file script_file before after Write = IsReplayUnwritten before after net_file script_file
