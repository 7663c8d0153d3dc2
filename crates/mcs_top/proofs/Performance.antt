-- What a run writes is what is written of its history.
use Rattle.std.proofs.Common.{◌≡◌, ℕ, ◌+◌, List, [], ◌∷◌, length, map, Some, refl, sym, ◌∙◌, inr, subst, ◌≤◌}
use Rattle.std.specs.Prelude.{All}
use Rattle.std.proofs.lemmas.List.{length-map}
use Rattle.std.proofs.lemmas.List.Elements.{All-nil, All-cons}
use Rattle.com_io.specs.Files.{file_limit, IsRead}
use Rattle.com_io.specs.Stores.{Shown}
use Rattle.com_net.specs.declared.net.Net.{Net}
use Rattle.com_net.specs.declared.net.Terminal.{Terminal}
use Rattle.com_net.specs.declared.net.UnitRow.{UnitRow}
use Rattle.com_net.specs.Network.{IsNet}
use Rattle.com_events.specs.declared.entry.Entry.{Entry}
use Rattle.com_events.specs.Calls.{IsWellFormed}
use Rattle.com_journal.specs.Scripts.{lines_of, script_header, AreCalls}
use Rattle.com_state.specs.State.{State, opening}
use Rattle.com_state.specs.Histories.{LeadsTo, Legal, state_after, call_made}
use Rattle.com_state.proofs.Fronts.{state_left}
use Rattle.com_state.proofs.Runs.{sent_of_leads, shown_of_legal}
use Rattle.com_state.proofs.Consistency.{consistent}
use Rattle.com_state.proofs.Telling.{told_by_entries}
use Rattle.com_state.proofs.Whole.{every_history}
use Rattle.mcs_top.specs.declared.run.Run.{Run}
use Rattle.mcs_top.specs.declared.script.Reason.TheVariants as reason
use Rattle.mcs_top.specs.declared.script.ScriptFailure.{ScriptFailure}
use Rattle.mcs_top.specs.declared.script.ScriptFailure.TheVariants.{Refused, Memory}
use Rattle.mcs_top.specs.Outputs.{summary, unit_lines, terminal_lines, transcripts, outputs}
use Rattle.mcs_top.specs.Running.{IsReached, IsOfRun, HasDoneLines, IsRunOf, IsDoneBy, AreRefused, TellsRefusedLine, transcripts_in, summary_of, writes_of}
use Rattle.mcs_top.proofs.LastEntries.{ends_of, stopped_by_ends, ended_by_ends}

transcripts_same : (net : Net) (history : List Entry) (S : State) (n : ℕ) (terminals : List Terminal) → state_after net history ≡ Some S → transcripts_in S n terminals ≡ transcripts net history n terminals
transcripts_same net history S n [] left = refl
transcripts_same net history S n (terminal ∷ terminals) left = rw (left, transcripts_same net history S (n + 1) terminals left) refl

units_same : (units : List UnitRow) (history : List Entry) → unit_lines units (ends_of history) ≡ unit_lines units history
units_same [] history = refl
units_same (unit ∷ units) history = rw (stopped_by_ends unit.name history, units_same units history) refl

terminals_same : (terminals : List Terminal) (history : List Entry) → terminal_lines terminals (ends_of history) ≡ terminal_lines terminals history
terminals_same [] history = refl
terminals_same (terminal ∷ terminals) history = rw (ended_by_ends terminal.name history, terminals_same terminals history) refl

-- the network stays
net_stays : (net : Net) (history : List Entry) (run : Run) → IsOfRun net history run → run.state.net ≡ net
net_stays net history run h = (told_by_entries net history run.state h.done).net

summary_same : (net : Net) (history : List Entry) (run : Run) → IsOfRun net history run → summary_of run ≡ summary net history
summary_same net history run h =
    rw (h.kept.ends, h.kept.arrivals, h.kept.portions, net_stays net history run h, units_same net.units history, terminals_same net.terminals history, sent_of_leads net history run.state h.done) refl

pub writes_same : (net : Net) (history : List Entry) (run : Run) → IsOfRun net history run → writes_of run ≡ outputs net history run.journal
writes_same net history run h =
    rw (summary_same net history run h, net_stays net history run h, transcripts_same net history run.state 0 net.terminals (state_left net history run.state h.done)) refl

-- the calls of a script are well formed
well_formed : (history : List Entry) (lines : List (List ℕ)) → AreCalls (map call_made history) lines → All (λ entry. IsWellFormed entry.call) history
well_formed [] [] h = All-nil (λ entry. IsWellFormed entry.call)
well_formed (entry ∷ history) (line ∷ lines) h = All-cons (λ entry. IsWellFormed entry.call) entry history h.0.ranges (well_formed history lines h.1)
well_formed (entry ∷ history) [] h = absurd h
well_formed [] (line ∷ lines) h = absurd h

-- the run of a script is reached by well-formed calls
pub reached : (net : Net) (history : List Entry) (lines : List (List ℕ)) (run : Run) → AreCalls (map call_made history) lines → IsOfRun net history run → IsReached run.state
reached net history lines run calls h = record {
  history = history;
  calls = well_formed history lines calls;
  done = subst (λ (n : Net). LeadsTo (opening n) history run.state) (sym (net_stays net history run h)) h.done;
}

-- there is a destination for each terminal
pub as_many : (S : State) → IsNet S.net → IsReached S → length S.outgoing ≡ length S.net.terminals
as_many S is h = (consistent S.net h.history S is h.calls h.done).outputs.many ∙ length-map S.net.terminals _

-- where each line behind the header was done, the script was
pub run_of : (net : Net) (script rest : List ℕ) (run : Run) → length script ≤ file_limit → lines_of script ≡ script_header ∷ lines_of rest → HasDoneLines net (lines_of rest) run → IsRunOf net script run
run_of net script rest run short header h = record {
  within_limit = short;
  history = h.history;
  calls = (lines_of rest, header, h.calls);
  of_run = h.of_run;
}

-- where a line behind the header is refused, the script is
pub refused_behind : (net : Net) (script rest : List ℕ) (fault : ScriptFailure) → length script ≤ file_limit → lines_of script ≡ script_header ∷ lines_of rest → AreRefused net (lines_of rest) fault
    → TellsRefusedLine net script fault
refused_behind net script rest (Refused line reason.Size) short header h = absurd h
refused_behind net script rest (Refused line reason.Text) short header h = (short, inr (lines_of rest, header, h))
refused_behind net script rest (Refused line reason.NotAllowed) short header h = (short, (lines_of rest, header, h))
refused_behind net script rest Memory short header h = tt

-- the history of a script's calls is legal, and whole
pub done_by : (script_file script : List ℕ) (net : Net) (before read : Shown) (run : Run) → IsRead file_limit script_file script before read → IsRunOf net script run → IsDoneBy script_file net before read run
done_by script_file script net before read run is_read h =
    let legal : Legal net h.history = (run.state, h.of_run.done) in
    let whole = every_history net h.history legal in
    record {
      history = h.history;
      script_done = record {
        script = script;
        is_read = is_read;
        within_limit = h.within_limit;
        calls = h.calls;
        legal = legal;
        ran = shown_of_legal net h.history legal;
        whole = whole.0;
        in_order = whole.1;
      };
      of_run = h.of_run;
    }
