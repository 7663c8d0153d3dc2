-- What `replay` does, by the two files and by what the store shows before and after.
use Rattle.std.specs.Prelude.{◌≡◌, ℕ, ◌≤◌, ◌⊎◌, List, length, map, Some, option_map}
use Rattle.com_io.specs.declared.store.StoreFault.{StoreFault}
use Rattle.com_io.specs.declared.store.StoreFault.TheVariants.{Failed, Memory}
use Rattle.com_io.specs.Faults.{Rose}
use Rattle.com_io.specs.Files.{file_limit, IsRead, IsAbandoned, HasNoFault}
use Rattle.com_io.specs.Stores.{Shown}
use Rattle.com_net.specs.declared.net.Net.{Net}
use Rattle.com_net.specs.declared.fault.NetKind.{NetKind}
use Rattle.com_net.specs.Description.{net_of, net_fault_of}
use Rattle.com_events.specs.declared.entry.Entry.{Entry}
use Rattle.com_journal.specs.Journals.{IsJournal}
use Rattle.com_journal.specs.Scripts.{IsScript}
use Rattle.com_state.specs.Histories.{Legal, IsRun, call_made}
use Rattle.com_state.specs.Wholeness.{Whole, InOrder}
use Rattle.mcs_top.specs.declared.ends.Verdict.{Verdict}
use Rattle.mcs_top.specs.declared.script.Reason.{Reason}
use Rattle.mcs_top.specs.Files.{IsNotRead}
use Rattle.mcs_top.specs.Histories.{verdict_of}
use Rattle.mcs_top.specs.Outputs.{outputs, contents_after, StopsAtWrite}
use Rattle.mcs_top.specs.Refusal.{IsRefused}

-- NET was read to its end, and describes this network.
pub record IsNetRead (net_file : List ℕ) (before read : Shown) (net : Net) : Type 0 where
  pub description : List ℕ
  pub is_read : IsRead file_limit net_file description before read
  pub within_limit : length description ≤ file_limit
  pub described : net_of description ≡ Some net

-- SCRIPT was read, and this legal history is the run of its calls. Each message goes to one unit
-- with nothing left out, and the messages of one queue are taken up in order.
pub record IsScriptDone (script_file : List ℕ) (net : Net) (before read : Shown)
    (history : List Entry) : Type 0 where
  pub script : List ℕ
  pub is_read : IsRead file_limit script_file script before read
  pub within_limit : length script ≤ file_limit
  pub calls : IsScript (map call_made history) script
  pub legal : Legal net history
  pub ran : IsRun net history
  pub whole : Whole net history
  pub in_order : InOrder net history

-- NET was read and then SCRIPT, and nothing else was asked for; the journal is that of the history
-- of the script's calls.
pub record IsPerformed (net_file script_file : List ℕ) (before read : Shown) (net : Net)
    (history : List Entry) (journal : List ℕ) : Type 0 where
  pub between : Shown
  pub net_read : IsNetRead net_file before between net
  pub script_done : IsScriptDone script_file net between read history
  pub journal_text : IsJournal history journal

-- Both files were read. Then the journal, the transcript of each terminal and the summary of the
-- history were written, each in one write, and nothing else was asked for. No fault was counted. The
-- verdict is that of the history.
pub record HasReplayed (before after : Shown) (net_file script_file : List ℕ)
    (verdict : Verdict) : Type 0 where
  pub net : Net
  pub history : List Entry
  pub journal : List ℕ
  pub read : Shown
  pub performed : IsPerformed net_file script_file before read net history journal
  pub contents : after.contents ≡ option_map (contents_after (outputs net history journal))
      read.contents
  pub no_fault : HasNoFault before after
  pub judged : verdict ≡ verdict_of history

-- The history is as where all is written, and the writes are those, up to one that was not done: the
-- last that was asked for.
pub record StopsInOutputs (fault : StoreFault) (before after : Shown)
    (net_file script_file : List ℕ) : Type 0 where
  pub net : Net
  pub history : List Entry
  pub journal : List ℕ
  pub read : Shown
  pub performed : IsPerformed net_file script_file before read net history journal
  pub contents : StopsAtWrite fault (outputs net history journal) read.contents after.contents

-- A write failed, and the store counts that alone.
pub record IsReplayUnwritten (before after : Shown) (net_file script_file : List ℕ) : Type 0 where
  pub stops : StopsInOutputs Failed before after net_file script_file
  pub rose : Rose before.write_faults after.write_faults
  pub open_faults : after.open_faults ≡ before.open_faults
  pub read_faults : after.read_faults ≡ before.read_faults

-- A write wanted memory, and no fault was counted.
pub record LacksMemoryToWrite (before after : Shown) (net_file script_file : List ℕ) : Type 0 where
  pub stops : StopsInOutputs Memory before after net_file script_file
  pub no_fault : HasNoFault before after

-- SCRIPT was at most begun, behind NET, which was read and describes a network.
pub record IsScriptAbandoned (before after : Shown) (net_file script_file : List ℕ) : Type 0 where
  pub between : Shown
  pub net : Net
  pub net_read : IsNetRead net_file before between net
  pub abandoned : IsAbandoned file_limit script_file between after

-- No more than the two files was asked for, in their order, and no fault was counted.
abbrev pub LacksMemoryToReplay : Shown → Shown → List ℕ → List ℕ → Type 0
LacksMemoryToReplay before after net_file script_file =
    IsAbandoned file_limit net_file before after
    ⊎ IsScriptAbandoned before after net_file script_file

-- NET was read and has this fault.
pub record IsDescriptionRefused (before read : Shown) (net_file : List ℕ) (kind : NetKind)
    (path : List ℕ) : Type 0 where
  pub description : List ℕ
  pub is_read : IsRead file_limit net_file description before read
  pub refused : net_fault_of description ≡ Some (kind, path)

-- NET was read and describes a network, and SCRIPT could not be read.
pub record IsScriptUnread (before tried : Shown) (net_file script_file : List ℕ) : Type 0 where
  pub between : Shown
  pub net : Net
  pub net_read : IsNetRead net_file before between net
  pub unread : IsNotRead script_file between tried

-- The file of this name could not be read: NET, or SCRIPT behind it.
abbrev pub IsFileUnread : Shown → Shown → List ℕ → List ℕ → List ℕ → Type 0
IsFileUnread before tried net_file script_file name =
    ((name ≡ net_file) × IsNotRead net_file before tried)
    ⊎ ((name ≡ script_file) × IsScriptUnread before tried net_file script_file)

-- SCRIPT was read behind NET, and is refused at this line for this reason.
pub record IsScriptRefused (before read : Shown) (net_file script_file : List ℕ) (line : ℕ)
    (reason : Reason) : Type 0 where
  pub between : Shown
  pub net : Net
  pub net_read : IsNetRead net_file before between net
  pub script : List ℕ
  pub is_read : IsRead file_limit script_file script between read
  pub refused : IsRefused net script line reason
