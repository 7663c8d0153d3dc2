-- Why a script cannot be done: the first line that is refused, and the word for the reason.
use Rattle.std.specs.Prelude.{◌≡◌, ℕ, ◌+◌, ◌<◌, ◌≤◌, ◌⊎◌, List, ◌∷◌, ◌++◌, length, map, None}
use Rattle.com_net.specs.declared.net.Net.{Net}
use Rattle.com_events.specs.declared.call.Party.{Party}
use Rattle.com_events.specs.declared.call.Call.{Call}
use Rattle.com_events.specs.declared.entry.Entry.{Entry}
use Rattle.com_journal.specs.Lines.{IsCallText}
use Rattle.com_journal.specs.Scripts.{lines_of, script_header, AreCalls}
use Rattle.com_state.specs.State.{State, opening}
use Rattle.com_state.specs.Steps.{step}
use Rattle.com_state.specs.Histories.{LeadsTo, call_made}
use Rattle.com_io.specs.Files.{file_limit}
use Rattle.mcs_top.specs.declared.script.Reason.{Reason}
use Rattle.mcs_top.specs.declared.script.Reason.TheVariants.{Size, Text, NotAllowed}

-- the line is no call's text
abbrev pub IsNoCall : State → List ℕ → Type 0
IsNoCall S line = (party : Party) (call : Call) → IsCallText party call line → ⊥

-- the line is the text of a call that has no step in this state
pub record IsNotAllowed (S : State) (line : List ℕ) : Type 0 where
  pub party : Party
  pub call : Call
  pub text : IsCallText party call line
  pub undefined : step S party call ≡ None

-- The calls of the lines before were done, and left the state in which this line is refused. The
-- first line is number 2, behind the header.
pub record StopsAt (net : Net) (lines : List (List ℕ)) (number : ℕ)
    (refused : State → List ℕ → Type 0) : Type 0 where
  pub before : List (List ℕ)
  pub line : List ℕ
  pub after : List (List ℕ)
  pub split : lines ≡ before ++ line ∷ after
  pub place : number ≡ length before + 2
  pub history : List Entry
  pub calls : AreCalls (map call_made history) before
  pub state : State
  pub done : LeadsTo (opening net) history state
  pub is_refused : refused state line

-- behind the header, this is the first line that is refused
abbrev pub IsFirstRefused : Net → List ℕ → ℕ → (State → List ℕ → Type 0) → Type 0
IsFirstRefused net script number refused =
    (lines : List (List ℕ)) × (lines_of script ≡ script_header ∷ lines)
    × StopsAt net lines number refused

-- the first line is not the header
abbrev pub HasNoHeader : List ℕ → ℕ → Type 0
HasNoHeader script number =
    (number ≡ 1) × ((lines : List (List ℕ)) → lines_of script ≡ script_header ∷ lines → ⊥)

-- The script is refused at this line: it is too long; its header is bad, or the line is no call's
-- text; or the call of the line is not allowed.
abbrev pub IsRefused : Net → List ℕ → ℕ → Reason → Type 0
IsRefused net script number Size = (number ≡ 1) × (file_limit < length script)
IsRefused net script number Text =
    (length script ≤ file_limit)
    × (HasNoHeader script number ⊎ IsFirstRefused net script number IsNoCall)
IsRefused net script number NotAllowed =
    (length script ≤ file_limit) × IsFirstRefused net script number IsNotAllowed
