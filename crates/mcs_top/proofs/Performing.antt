-- Doing the call of a line, step by step.
use Rattle.std.proofs.Common.{◌≡◌, List, ◌∷◌, ℕ, ◌+◌, Bool, true, false, Option, Some, None, refl, sym, ◌∙◌}
use Rattle.std.specs.Prelude.{Result, Ok, Err, OnOk, IfErr, IfSome, is_some}
use Rattle.std.specs.Result.{IsErrAnd}
use Rattle.com_events.specs.declared.call.Party.{Party}
use Rattle.com_events.specs.declared.call.Call.{Call}
use Rattle.com_events.specs.declared.entry.Entry.{Entry}
use Rattle.com_events.specs.declared.reply.Reply.{Reply}
use Rattle.com_events.specs.Calls.{HasText, IsReplyTo}
use Rattle.com_net.specs.declared.net.Net.{Net}
use Rattle.com_journal.specs.Lines.{IsCallText}
use Rattle.com_journal.specs.Scripts.{lines_of}
use Rattle.com_state.specs.State.{State}
use Rattle.mcs_top.specs.declared.run.Run.{Run}
use Rattle.mcs_top.specs.declared.script.LineFailure.{LineFailure}
use Rattle.mcs_top.specs.declared.script.LineFailure.TheVariants.{Text, NotAllowed, Memory}
use Rattle.mcs_top.specs.Refusal.{IsNoCall, IsNotAllowed}
use Rattle.mcs_top.specs.Running.{Adds, IsLineRefused, HasDone, AreRefused, failure_at}
use Rattle.mcs_top.proofs.Kept.{done_until}

-- an answer that hands an error on is not Ok
pub not_done : {T E : Type 0} (Q : E → Type 0) (P : Type 0) (r : Result T E) → IsErrAnd r Q → OnOk r P
not_done Q P (Ok x) h = absurd h
not_done Q P (Err e) h = tt

-- and want of memory refuses no line
pub memory_alone : (S : State) (line : List ℕ) (r : Result (Unit {0}) LineFailure) → IsErrAnd r (λ fault. fault ≡ Memory) → IfErr r (IsLineRefused S line)
memory_alone S line (Ok x) h = tt
memory_alone S line (Err e) h = rw h tt

-- the text that was read is that of the call
pub text_of : (line : List ℕ) (found : Option (Party × Call)) (party : Party) (call : Call) → IfSome found (λ call. IsCallText call.0 call.1 line) → found ≡ Some (party, call) → IsCallText party call line
text_of line found party call h is = rw is at h

pub none_of : (o : Option (Reply × State)) (b : Bool) → b ≡ is_some o → b ≡ false → o ≡ None
none_of None b is lacks = refl
none_of (Some x) b is lacks = let wrong : true ≡ false = sym is ∙ lacks in absurd cc

pub has_text : (party : Party) (call : Call) (reply : Reply) (line : List ℕ) → IsCallText party call line → IsReplyTo call reply → HasText (record { party = party; call = call; reply = reply })
has_text party call reply line text is = record { caller = text.caller; call = text.ranges; reply = is }

-- what is kept is the same, whatever the state is
pub added_same : (entry : Entry) (run other longer : Run) → run.journal ≡ other.journal → run.ends ≡ other.ends → run.arrivals ≡ other.arrivals → run.portions ≡ other.portions → Adds entry run longer → Adds entry other longer
added_same entry run other longer journal ends arrivals portions a = record {
  line = a.line;
  is_line = a.is_line;
  journal = rw journal at a.journal;
  ends = rw ends at a.ends;
  arrivals = rw arrivals at a.arrivals;
  portions = rw portions at a.portions;
}

-- where a line is refused, the lines stop there
pub stopped_by : (net : Net) (lines : List (List ℕ)) (rest after line : List ℕ) (run : Run) (number : ℕ) (fault : LineFailure) → HasDone net lines rest run number → lines_of rest ≡ line ∷ lines_of after
    → IsLineRefused run.state line fault → AreRefused net lines (failure_at (number + 1) fault)
stopped_by net lines rest after line run number Text h first is = done_until net lines rest after line run number IsNoCall h first is
stopped_by net lines rest after line run number NotAllowed h first is = done_until net lines rest after line run number IsNotAllowed h first is
stopped_by net lines rest after line run number Memory h first is = tt
