-- How the steps of a replay make up the whole.
use Rattle.std.proofs.Common.{◌≡◌, ℕ, List, ap, ◌∙◌, inl, inr}
use Rattle.std.specs.Prelude.{Result, Ok, Err, IfOk, IfErr}
use Rattle.com_io.specs.declared.store.StoreFault.{StoreFault}
use Rattle.com_io.specs.declared.store.StoreFault.TheVariants as store
use Rattle.com_io.specs.Files.{HasNoFault}
use Rattle.com_io.specs.Stores.{Shown}
use Rattle.com_net.specs.declared.net.Net.{Net}
use Rattle.com_events.specs.declared.entry.Entry.{Entry}
use Rattle.mcs_top.specs.declared.run.Run.{Run}
use Rattle.mcs_top.specs.declared.ends.Verdict.{Verdict}
use Rattle.mcs_top.specs.declared.report.Refusal.TheVariants.{Usage, Description, Unread, Source, Script, Input}
use Rattle.mcs_top.specs.declared.report.Failure.{Failure}
use Rattle.mcs_top.specs.declared.report.Failure.TheVariants.{Refused, Write, Memory}
use Rattle.mcs_top.specs.Histories.{verdict_of}
use Rattle.mcs_top.specs.Replay.{IsNetRead, IsScriptDone, IsPerformed, HasReplayed, StopsInOutputs, IsReplayUnwritten, LacksMemoryToWrite}
use Rattle.mcs_top.specs.Failing.{IsNetFailure, IsScriptFailure, HasNotReplayed, IsWrittenRun, IsUnwrittenRun, IsReplayedOn, IsNotReplayedOn, IsCutOn}
use Rattle.mcs_top.specs.Running.{IsDoneBy, IsReached, writes_of, AreWritten, IsCutIn}
use Rattle.mcs_top.proofs.Outs.{no_fault_then}
use Rattle.mcs_top.proofs.LastEntries.{judged_by_ends}
use Rattle.mcs_top.proofs.Performance.{writes_same, reached}

pub net_fails : (net_file script_file : List ℕ) (before after : Shown) (failure : Failure) → IsNetFailure net_file before after failure → HasNotReplayed net_file script_file before after failure
net_fails net_file script_file before after (Refused (Unread told)) h = inl (h.0, h.1)
net_fails net_file script_file before after (Refused (Description fault)) h = h
net_fails net_file script_file before after (Refused Usage) h = absurd h
net_fails net_file script_file before after (Refused (Script line reason)) h = absurd h
net_fails net_file script_file before after (Refused (Source unit fault)) h = absurd h
net_fails net_file script_file before after (Refused (Input text)) h = absurd h
net_fails net_file script_file before after Memory h = inl (inl h)
net_fails net_file script_file before after Write h = absurd h

pub script_fails : (net_file script_file : List ℕ) (net : Net) (before mid after : Shown) (failure : Failure) → IsNetRead net_file before mid net
    → IsScriptFailure script_file net mid after failure → HasNotReplayed net_file script_file before after failure
script_fails net_file script_file net before mid after (Refused (Unread told)) read h =
    inr (h.0, record { between = mid; net = net; net_read = read; unread = h.1 })
script_fails net_file script_file net before mid after (Refused (Script line reason)) read h =
    record { between = mid; net = net; net_read = read; script = h.0; is_read = h.1; refused = h.2 }
script_fails net_file script_file net before mid after (Refused Usage) read h = absurd h
script_fails net_file script_file net before mid after (Refused (Description fault)) read h = absurd h
script_fails net_file script_file net before mid after (Refused (Source unit fault)) read h = absurd h
script_fails net_file script_file net before mid after (Refused (Input text)) read h = absurd h
script_fails net_file script_file net before mid after Memory read h = inl (inr (record { between = mid; net = net; net_read = read; abandoned = h }))
script_fails net_file script_file net before mid after Write read h = absurd h

both_read : (before mid read : Shown) (net_file script_file : List ℕ) (net : Net) (history : List Entry) → IsNetRead net_file before mid net → IsScriptDone script_file net mid read history → HasNoFault before read
both_read before mid read net_file script_file net history net_read done = no_fault_then before mid read net_read.is_read.no_fault done.is_read.no_fault

performed : (net_file script_file : List ℕ) (net : Net) (run : Run) (before mid read : Shown) → IsNetRead net_file before mid net → (h : IsDoneBy script_file net mid read run)
    → IsPerformed net_file script_file before read net h.history run.journal
performed net_file script_file net run before mid read net_read h = record { between = mid; net_read = net_read; script_done = h.script_done; journal_text = h.of_run.kept.journal }

pub all_done : (net_file script_file : List ℕ) (net : Net) (run : Run) (before mid read after : Shown) (verdict : Verdict) → IsNetRead net_file before mid net
    → IsDoneBy script_file net mid read run → AreWritten (writes_of run) read after → verdict ≡ verdict_of run.ends → HasReplayed before after net_file script_file verdict
all_done net_file script_file net run before mid read after verdict net_read h written judged = record {
  net = net;
  history = h.history;
  journal = run.journal;
  read = read;
  performed = performed net_file script_file net run before mid read net_read h;
  contents = rw (writes_same net h.history run h.of_run) at written.contents;
  no_fault = no_fault_then before read after (both_read before mid read net_file script_file net h.history net_read h.script_done) written.no_fault;
  judged = judged ∙ (ap verdict_of h.of_run.kept.ends ∙ judged_by_ends h.history);
}

stops : (fault : StoreFault) (net_file script_file : List ℕ) (net : Net) (run : Run) (before mid read after : Shown) → IsNetRead net_file before mid net
    → IsDoneBy script_file net mid read run → IsCutIn (writes_of run) read after fault → StopsInOutputs fault before after net_file script_file
stops fault net_file script_file net run before mid read after net_read h cut = record {
  net = net;
  history = h.history;
  journal = run.journal;
  read = read;
  performed = performed net_file script_file net run before mid read net_read h;
  contents = rw (writes_same net h.history run h.of_run) at cut.contents;
}

-- a write of the outputs failed
pub replay_unwritten : (net_file script_file : List ℕ) (net : Net) (run : Run) (before mid read after : Shown) → IsNetRead net_file before mid net
    → IsDoneBy script_file net mid read run → IsCutIn (writes_of run) read after store.Failed → IsReplayUnwritten before after net_file script_file
replay_unwritten net_file script_file net run before mid read after net_read h cut =
    let same = both_read before mid read net_file script_file net h.history net_read h.script_done in
    record {
      stops = stops store.Failed net_file script_file net run before mid read after net_read h cut;
      rose = rw same.write_faults at cut.write_faults;
      open_faults = cut.open_faults ∙ same.open_faults;
      read_faults = cut.read_faults ∙ same.read_faults;
    }

-- or wanted memory
pub has_run_short : (net_file script_file : List ℕ) (net : Net) (run : Run) (before mid read after : Shown) → IsNetRead net_file before mid net
    → IsDoneBy script_file net mid read run → IsCutIn (writes_of run) read after store.Memory → LacksMemoryToWrite before after net_file script_file
has_run_short net_file script_file net run before mid read after net_read h cut =
    let same = both_read before mid read net_file script_file net h.history net_read h.script_done in
    record {
      stops = stops store.Memory net_file script_file net run before mid read after net_read h cut;
      no_fault = record {
        pending = cut.pending ∙ same.pending;
        open_faults = cut.open_faults ∙ same.open_faults;
        read_faults = cut.read_faults ∙ same.read_faults;
        write_faults = cut.write_faults ∙ same.write_faults;
      };
    }

-- on the network that NET describes, all was done
pub replayed_on : (net_file script_file : List ℕ) (net : Net) (before mid after : Shown) (verdict : Verdict) → IsNetRead net_file before mid net → IsReplayedOn script_file net mid after verdict
    → HasReplayed before after net_file script_file verdict
replayed_on net_file script_file net before mid after verdict net_read h = all_done net_file script_file net h.run before mid h.read after verdict net_read h.done h.written.written h.written.judged

cut_on : (net_file script_file : List ℕ) (net : Net) (before mid after : Shown) (failure : Failure) → IsNetRead net_file before mid net → IsCutOn script_file net mid after failure → HasNotReplayed net_file script_file before after failure
cut_on net_file script_file net before mid after (Refused refusal) net_read h = absurd h.cut
cut_on net_file script_file net before mid after Write net_read h = replay_unwritten net_file script_file net h.run before mid h.read after net_read h.done h.cut
cut_on net_file script_file net before mid after Memory net_read h = inr (has_run_short net_file script_file net h.run before mid h.read after net_read h.done h.cut)

-- or not
pub fails_on : (net_file script_file : List ℕ) (net : Net) (before mid after : Shown) (failure : Failure) → IsNetRead net_file before mid net → IsNotReplayedOn script_file net mid after failure
    → HasNotReplayed net_file script_file before after failure
fails_on net_file script_file net before mid after fault net_read (inl h) = script_fails net_file script_file net before mid after fault net_read h
fails_on net_file script_file net before mid after fault net_read (inr h) = cut_on net_file script_file net before mid after fault net_read h

-- what follows from what holds of an answer
pub ok_weaker : {T E : Type 0} (r : Result T E) (P Q : T → Type 0) → ((x : T) → P x → Q x) → IfOk r P → IfOk r Q
ok_weaker (Ok x) P Q f h = f x h
ok_weaker (Err e) P Q f h = tt

pub err_weaker : {T E : Type 0} (r : Result T E) (P Q : E → Type 0) → ((e : E) → P e → Q e) → IfErr r P → IfErr r Q
err_weaker (Ok x) P Q f h = tt
err_weaker (Err e) P Q f h = f e h

-- the run of a script is reached by well-formed calls
pub done_reached : (script_file : List ℕ) (net : Net) (before read : Shown) (run : Run) → IsDoneBy script_file net before read run → IsReached run.state
done_reached script_file net before read run h = reached net h.history h.script_done.calls.0 run h.script_done.calls.2 h.of_run

pub done_on : (script_file : List ℕ) (net : Net) (before read after : Shown) (run : Run) (verdict : Verdict) → IsDoneBy script_file net before read run → IsWrittenRun run read after verdict
    → IsReplayedOn script_file net before after verdict
done_on script_file net before read after run verdict h written = record { run = run; read = read; done = h; written = written }

pub undone_on : (script_file : List ℕ) (net : Net) (before read after : Shown) (run : Run) (failure : Failure) → IsDoneBy script_file net before read run → IsUnwrittenRun run read after failure
    → IsNotReplayedOn script_file net before after failure
undone_on script_file net before read after run fault h cut = inr (record { run = run; read = read; done = h; cut = cut })
