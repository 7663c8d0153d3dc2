-- A script whose calls can all be done is not refused.
use Rattle.std.proofs.Common.{◌≡◌, ℕ, ◌≤◌, true, false, List, [], ◌∷◌, ◌++◌, length, map, None, sym, ◌∙◌, ap, inl, inr, arith, refl}
use Rattle.std.specs.Prelude.{◌⊎◌, IsSome, option_map, option_and_then}
use Rattle.std.proofs.lemmas.Option.{same_Some}
use Rattle.com_net.specs.declared.net.Net.{Net}
use Rattle.com_events.specs.declared.call.Party.{Party}
use Rattle.com_events.specs.declared.call.Call.{Call}
use Rattle.com_events.specs.declared.entry.Entry.{Entry}
use Rattle.com_journal.specs.Lines.{IsCallText}
use Rattle.com_journal.specs.Scripts.{lines_of, script_header, AreCalls, IsScript}
use Rattle.com_journal.proofs.LineLaws.{call-complete}
use Rattle.com_state.specs.State.{State, opening}
use Rattle.com_state.specs.Steps.{step}
use Rattle.com_state.specs.Histories.{LeadsTo, call_made, entry_before, run_from, run}
use Rattle.com_io.specs.Files.{file_limit}
use Rattle.mcs_top.specs.declared.script.Reason.{Reason}
use Rattle.mcs_top.specs.declared.script.Reason.TheVariants.{Size, Text, NotAllowed}
use Rattle.mcs_top.specs.Refusal.{IsNoCall, IsNotAllowed, StopsAt, IsFirstRefused, HasNoHeader, IsRefused}

-- a line is the text of one call
one_call : (made other : Party × Call) (line : List ℕ) → IsCallText made.0 made.1 line → IsCallText other.0 other.1 line → made ≡ other
one_call made other line h k = same_Some made other (sym (call-complete line made.0 made.1 h) ∙ call-complete line other.0 other.1 k)

-- the calls of lines, at the place of one line
record CallsAt (calls front : List (Party × Call)) (line : List ℕ) : Type 0 where
  made : Party × Call
  behind : List (Party × Call)
  split : calls ≡ front ++ made ∷ behind
  text : IsCallText made.0 made.1 line

calls_at : (front calls : List (Party × Call)) (before : List (List ℕ)) (line : List ℕ) (after : List (List ℕ)) → AreCalls front before → AreCalls calls (before ++ line ∷ after) → CallsAt calls front line
calls_at [] [] [] line after h k = absurd k
calls_at [] (call ∷ calls) [] line after h k = record { made = call; behind = calls; split = refl; text = k.0 }
calls_at [] calls (other ∷ before) line after h k = absurd h
calls_at (first ∷ front) calls [] line after h k = absurd h
calls_at (first ∷ front) [] (other ∷ before) line after h k = absurd k
calls_at (first ∷ front) (call ∷ calls) (other ∷ before) line after h k =
    let rest = calls_at front calls before line after h.1 k.1 in
    let same : call ≡ first = one_call call first other k.0 h.0 in
    record { made = rest.made; behind = rest.behind; split = rw same (ap (λ cs. first ∷ cs) rest.split); text = rest.text }

-- calls do not run past one that has no step
stuck : (S : State) (history : List Entry) (last : State) (made : Party × Call) (behind : List (Party × Call)) → LeadsTo S history last → step last made.0 made.1 ≡ None
    → run_from S (map call_made history ++ made ∷ behind) ≡ None
stuck S [] last made behind leads none =
    let here : step S made.0 made.1 ≡ None = rw leads at none in
    ap (λ next. option_and_then (λ next. option_map (entry_before made next.0) (run_from next.1 behind)) next) here
stuck S (entry ∷ history) last made behind leads none =
    let rest = stuck leads.0 history last made behind leads.2 none in
    let calls = map call_made history ++ made ∷ behind in
    ap (λ found. option_and_then (λ next. option_map (entry_before (call_made entry) next.0) (run_from next.1 calls)) found) leads.1 ∙ ap (λ found. option_map (entry_before (call_made entry) entry.reply) found) rest

-- no line is refused of a script whose calls are all texts
never_no_call : (calls : List (Party × Call)) (lines : List (List ℕ)) (net : Net) (number : ℕ) → AreCalls calls lines → StopsAt net lines number IsNoCall → ⊥
never_no_call calls lines net number are h =
    let at = calls_at (map call_made h.history) calls h.before h.line h.after h.calls (rw h.split at are) in
    h.is_refused at.made.0 at.made.1 at.text

never_undone : (calls : List (Party × Call)) (lines : List (List ℕ)) (net : Net) (number : ℕ) → AreCalls calls lines → IsSome (run net calls) → StopsAt net lines number IsNotAllowed → ⊥
never_undone calls lines net number are runs h =
    let at = calls_at (map call_made h.history) calls h.before h.line h.after h.calls (rw h.split at are) in
    let same : at.made ≡ (h.is_refused.party, h.is_refused.call) = one_call at.made (h.is_refused.party, h.is_refused.call) h.line at.text h.is_refused.text in
    let none : step h.state at.made.0 at.made.1 ≡ None = rw same h.is_refused.undefined in
    let no : run net calls ≡ None = rw at.split (stuck (opening net) h.history h.state at.made at.behind h.done none) in
    let wrong : false ≡ true = rw no at runs in absurd cc

-- the same lines behind the header
same_lines : (script : List ℕ) (lines others : List (List ℕ)) → lines_of script ≡ script_header ∷ lines → lines_of script ≡ script_header ∷ others → lines ≡ others
same_lines script lines others h k = cc (h, k)

never_at_a_line : (calls : List (Party × Call)) (script : List ℕ) (net : Net) (number : ℕ) → IsScript calls script → IsSome (run net calls)
    → IsFirstRefused net script number IsNoCall ⊎ IsFirstRefused net script number IsNotAllowed → ⊥
never_at_a_line calls script net number is runs (inl h) = never_no_call calls h.0 net number (rw (same_lines script is.0 h.0 is.1 h.1) at is.2) h.2
never_at_a_line calls script net number is runs (inr h) = never_undone calls h.0 net number (rw (same_lines script is.0 h.0 is.1 h.1) at is.2) runs h.2

never_text : (calls : List (Party × Call)) (script : List ℕ) (net : Net) (number : ℕ) → IsScript calls script → IsSome (run net calls)
    → HasNoHeader script number ⊎ IsFirstRefused net script number IsNoCall → ⊥
never_text calls script net number is runs (inl h) = h.1 is.0 is.1
never_text calls script net number is runs (inr h) = never_at_a_line calls script net number is runs (inl h)

pub never_refused : (calls : List (Party × Call)) (script : List ℕ) (net : Net) (number : ℕ) (reason : Reason) → length script ≤ file_limit → IsScript calls script → IsSome (run net calls)
    → IsRefused net script number reason → ⊥
never_refused calls script net number Size short is runs h = omega (arith, short, h.1)
never_refused calls script net number Text short is runs h = never_text calls script net number is runs h.1
never_refused calls script net number NotAllowed short is runs h = never_at_a_line calls script net number is runs (inr h.1)
