-- A pass at its turn, with the book in hand, and what the steps of a turn make of it.
use Rattle.std.specs.Prelude.{◌≡◌, ℕ, ◌<◌, Bool, true, false, List, [], ◌∷◌, ◌++◌, Option, Some, None, MatchOption}
use Rattle.com_turn.specs.declared.view.Toggle.{Toggle}
use Rattle.com_turn.specs.Toggles.{active_count}
use Rattle.com_events.specs.declared.call.Call.{Call}
use Rattle.com_events.specs.declared.reply.Reply.{Reply}
use Rattle.com_events.specs.Calls.{IsReplyTo}
use Rattle.com_state.specs.State.{State}
use Rattle.com_state.specs.Steps.{step}
use Rattle.com_shared.specs.Parties.{Item, party_at}
use Rattle.com_shared.specs.Passes.{Log, IsKept, Place, PassOf, Knows, own, entry_at}

-- The pass is at its turn, and the book is what it has seen.
pub record IsAtTurn (place : Place) (pass : PassOf) (book : Log) : Type 0 where
  pub turn : pass.turn ≡ place.turn
  pub holds : pass.at_turn ≡ true
  pub net : book.net ≡ place.net
  pub items : book.items ≡ pass.seen
  pub knows : Knows place.net pass
  pub kept : IsKept book

-- the pass without the turn
abbrev pub given_back : PassOf → PassOf
given_back pass = record pass { at_turn = false }

-- the entry that a call makes, beside the number of its party
abbrev pub item_at : Log → ℕ → Call → Reply → Item
item_at book number call reply = (number, entry_at book.net number call reply)

-- An entry was made at the turn: the pass has seen it, and it is the step's.
pub record Makes (book : Log) (before : PassOf) (call : Call) (reply : Reply) (after : PassOf) (more : Log) : Type 0 where
  pub pass : after ≡ record before { seen = before.seen ++ item_at book before.number call reply ∷ [] }
  pub own_more : own after ≡ own before ++ entry_at book.net before.number call reply ∷ []
  pub step : step book.state (party_at book.net before.number) call ≡ Some (reply, more.state)
  pub replies : IsReplyTo call reply

-- An entry was made, and the turn given back.
pub record HasSettled (book : Log) (before : PassOf) (call : Call) (active : Bool) (reply : Reply) (after : PassOf) : Type 0 where
  pub toggles : List Toggle
  pub found : Option ℕ
  pub pass : after ≡ record before {
    seen = before.seen ++ item_at book before.number call reply ∷ [];
    toggles = toggles;
    at_turn = false;
    active = active;
    found = found;
  }
  pub own_more : own after ≡ own before ++ entry_at book.net before.number call reply ∷ []
  pub next : State
  pub step : step book.state (party_at book.net before.number) call ≡ Some (reply, next)
  pub replies : IsReplyTo call reply

-- No entry was made, and the turn given back.
pub record HasGivenBack (before : PassOf) (active : Bool) (after : PassOf) : Type 0 where
  pub toggles : List Toggle
  pub found : Option ℕ
  pub pass : after ≡ record before { toggles = toggles; at_turn = false; active = active; found = found }

-- whether the party is active was set, or was so before
abbrev pub IsSetActive : PassOf → Bool → PassOf → Type 0
IsSetActive before active after = (toggles : List Toggle) × (found : Option ℕ)
    × (after ≡ record before { toggles = toggles; active = active; found = found })

-- The party is inactive and has looked round: none is active, or some are.
pub record Rests (before : PassOf) (rung : Option ℕ) (after : PassOf) : Type 0 where
  pub toggles : List Toggle
  pub found : ℕ
  pub pass : after ≡ record before { toggles = toggles; at_turn = false; active = false; found = Some found }
  pub counted : found ≡ active_count before.parties toggles
  pub told : MatchOption rung (found ≡ 0) (λ _. 0 < found)
