-- What is kept of a run, for the private functions that do it and write it.
use Rattle.std.specs.Prelude.{◌≡◌, ℕ, ◌+◌, ◌≤◌, Bool, true, false, List, [], ◌∷◌, ◌++◌, length, map, Some, option_map, unwrap_or, if◌then◌else◌}
use Rattle.std.specs.List.{All, filter, flat_map}
use Rattle.com_io.specs.declared.store.StoreFault.{StoreFault}
use Rattle.com_io.specs.declared.store.StoreFault.TheVariants as store
use Rattle.com_io.specs.Faults.{Rose}
use Rattle.com_io.specs.Files.{file_limit, HasNoFault}
use Rattle.com_io.specs.Stores.{Shown, Writing, output_name}
use Rattle.com_msg.specs.declared.sending.OutMessage.{OutMessage}
use Rattle.com_msg.specs.Rendering.{rendered_message}
use Rattle.com_net.specs.declared.net.Net.{Net}
use Rattle.com_net.specs.declared.net.Terminal.{Terminal}
use Rattle.com_events.specs.declared.call.Call.{Call}
use Rattle.com_events.specs.declared.call.Call.TheVariants.{Stop, Finish}
use Rattle.com_events.specs.declared.entry.Entry.{Entry}
use Rattle.com_events.specs.Calls.{IsWellFormed}
use Rattle.com_journal.specs.Lines.{IsCallText, IsLine}
use Rattle.com_journal.specs.Scripts.{lines_of, AreCalls, IsScript}
use Rattle.com_journal.specs.Journals.{IsJournal}
use Rattle.com_state.specs.State.{State, opening}
use Rattle.com_state.specs.Steps.{step}
use Rattle.com_state.specs.Histories.{LeadsTo, call_made}
use Rattle.com_state.specs.Transcripts.{sent_in, sent_to}
use Rattle.mcs_top.specs.declared.run.Run.{Run}
use Rattle.mcs_top.specs.declared.script.LineFailure.{LineFailure}
use Rattle.mcs_top.specs.declared.script.LineFailure.TheVariants as line_fault
use Rattle.mcs_top.specs.declared.script.Reason.TheVariants as reason
use Rattle.mcs_top.specs.declared.script.ScriptFailure.{ScriptFailure}
use Rattle.mcs_top.specs.declared.script.ScriptFailure.TheVariants.{Refused, Memory}
use Rattle.mcs_top.specs.Histories.{is_arrival, is_portion, arrivals, portions}
use Rattle.mcs_top.specs.Outputs.{unit_lines, terminal_lines, count_lines, journal_name, transcript_name, writing, contents_after, StopsAtWrite}
use Rattle.mcs_top.specs.Refusal.{IsNoCall, IsNotAllowed, StopsAt, IsRefused}
use Rattle.mcs_top.specs.Replay.{IsScriptDone}

-- the call stops a unit or ends a terminal
abbrev pub is_last_call : Call → Bool
is_last_call (Stop reason) = true
is_last_call (Finish reason) = true
is_last_call _ = false

-- one more where the test holds
abbrev pub one_more_if : Bool → ℕ → ℕ
one_more_if test n = if test then n + 1 else n

-- the entry is added to the list where the test holds
abbrev pub added_if : Bool → Entry → List Entry → List Entry
added_if test entry entries = if test then entries ++ entry ∷ [] else entries

-- what is kept of a history has one entry more
pub record Adds (entry : Entry) (run longer : Run) : Type 0 where
  pub line : List ℕ
  pub is_line : IsLine entry line
  pub journal : longer.journal ≡ run.journal ++ (line ++ 10 ∷ [])
  pub ends : longer.ends ≡ added_if (is_last_call entry.call) entry run.ends
  pub arrivals : longer.arrivals ≡ one_more_if (is_arrival entry.call) run.arrivals
  pub portions : longer.portions ≡ one_more_if (is_portion entry.reply) run.portions

-- what is kept is that of this history
pub record Tells (history : List Entry) (run : Run) : Type 0 where
  pub journal : IsJournal history run.journal
  pub ends : run.ends ≡ filter (λ entry. is_last_call entry.call) history
  pub arrivals : run.arrivals ≡ arrivals history
  pub portions : run.portions ≡ portions history

-- nothing has happened in the network
pub record HasNothing (net : Net) (run : Run) : Type 0 where
  pub state : run.state ≡ opening net
  pub journal : IsJournal [] run.journal
  pub ends : run.ends ≡ []
  pub arrivals : run.arrivals ≡ 0
  pub portions : run.portions ≡ 0

-- the history leads from the opening of the network to the run, and is what is kept there
pub record IsOfRun (net : Net) (history : List Entry) (run : Run) : Type 0 where
  pub done : LeadsTo (opening net) history run.state
  pub kept : Tells history run

-- well-formed calls lead from the opening of its network to the state
pub record IsReached (S : State) : Type 0 where
  pub history : List Entry
  pub calls : All (λ entry. IsWellFormed entry.call) history
  pub done : LeadsTo (opening S.net) history S

-- one line was done: its call got the reply of the step, and what is kept has its entry
pub record DoesLine (line : List ℕ) (run longer : Run) : Type 0 where
  pub entry : Entry
  pub text : IsCallText entry.party entry.call line
  pub stepped : step run.state entry.party entry.call ≡ Some (entry.reply, longer.state)
  pub added : Adds entry run longer

-- each line was done, in order
pub record HasDoneLines (net : Net) (lines : List (List ℕ)) (run : Run) : Type 0 where
  pub history : List Entry
  pub calls : AreCalls (map call_made history) lines
  pub of_run : IsOfRun net history run

-- so many lines behind the header were done, and these bytes are left
pub record HasDone (net : Net) (lines : List (List ℕ)) (rest : List ℕ) (run : Run)
    (number : ℕ) : Type 0 where
  pub before : List (List ℕ)
  pub split : lines ≡ before ++ lines_of rest
  pub place : number ≡ length before + 1
  pub done : HasDoneLines net before run

-- the script is within the limit, and the history of its calls is that of the run
pub record IsRunOf (net : Net) (script : List ℕ) (run : Run) : Type 0 where
  pub within_limit : length script ≤ file_limit
  pub history : List Entry
  pub calls : IsScript (map call_made history) script
  pub of_run : IsOfRun net history run

-- the script was read, and the history of its calls is that of the run
pub record IsDoneBy (script_file : List ℕ) (net : Net) (before read : Shown) (run : Run) : Type 0 where
  pub history : List Entry
  pub script_done : IsScriptDone script_file net before read history
  pub of_run : IsOfRun net history run

abbrev pub failure_at : ℕ → LineFailure → ScriptFailure
failure_at line line_fault.Text = Refused line reason.Text
failure_at line line_fault.NotAllowed = Refused line reason.NotAllowed
failure_at line line_fault.Memory = Memory

abbrev pub IsLineRefused : State → List ℕ → LineFailure → Type 0
IsLineRefused S line line_fault.Text = IsNoCall S line
IsLineRefused S line line_fault.NotAllowed = IsNotAllowed S line
IsLineRefused S line line_fault.Memory = Unit {0}

-- a line is refused where those before it were done
abbrev pub AreRefused : Net → List (List ℕ) → ScriptFailure → Type 0
AreRefused net lines (Refused line reason.Size) = ⊥
AreRefused net lines (Refused line reason.Text) = StopsAt net lines line IsNoCall
AreRefused net lines (Refused line reason.NotAllowed) = StopsAt net lines line IsNotAllowed
AreRefused net lines Memory = Unit {0}

-- a failure tells a line only where the line is refused
abbrev pub TellsRefusedLine : Net → List ℕ → ScriptFailure → Type 0
TellsRefusedLine net script (Refused line reason) = IsRefused net script line reason
TellsRefusedLine net script Memory = Unit {0}

-- the transcript of a terminal of this name that was sent these messages
abbrev pub transcript : List ℕ → List OutMessage → Writing
transcript name messages = writing (transcript_name name) (flat_map rendered_message messages)

-- the transcripts of these terminals, the first of which has this number
abbrev pub transcripts_in : State → ℕ → List Terminal → List Writing
transcripts_in S number [] = []
transcripts_in S number (terminal ∷ terminals) =
    transcript terminal.name (unwrap_or (sent_to S number) [])
    ∷ transcripts_in S (number + 1) terminals

-- the summary by what is kept
abbrev pub summary_of : Run → List ℕ
summary_of run =
    unit_lines run.state.net.units run.ends
    ++ (terminal_lines run.state.net.terminals run.ends
    ++ count_lines run.arrivals run.portions (length (sent_in run.state.outgoing)))

-- all that is written of a run
abbrev pub writes_of : Run → List Writing
writes_of run =
    writing journal_name run.journal
    ∷ transcripts_in run.state 0 run.state.net.terminals ++ writing output_name (summary_of run) ∷ []

-- these were written, in order, and nothing else was asked for
pub record AreWritten (writes : List Writing) (before after : Shown) : Type 0 where
  pub contents : after.contents ≡ option_map (contents_after writes) before.contents
  pub no_fault : HasNoFault before after

-- a failed write alone is counted
abbrev pub IsCounted : StoreFault → ℕ → ℕ → Type 0
IsCounted store.Failed before after = Rose before after
IsCounted store.Memory before after = after ≡ before

-- only some of these were written, up to one that was not done
pub record IsCutIn (writes : List Writing) (before after : Shown) (fault : StoreFault) : Type 0 where
  pub contents : StopsAtWrite fault writes before.contents after.contents
  pub write_faults : IsCounted fault before.write_faults after.write_faults
  pub open_faults : after.open_faults ≡ before.open_faults
  pub read_faults : after.read_faults ≡ before.read_faults
  pub pending : after.pending ≡ before.pending
