-- What a book keeps, and what a pass shows of it.
use Rattle.std.specs.Prelude.{◌≡◌, ℕ, ◌<◌, ◌≤◌, Bool, true, false, List, [], ◌∷◌, ◌++◌, length, Some, slice_get}
use Rattle.std.specs.List.{AllByRecursion}
use Rattle.com_turn.specs.Passes.{TurnId, PassState, mine}
use Rattle.com_turn.specs.Histories.{IsPrefixOf}
use Rattle.com_turn.specs.Toggles.{active_count}
use Rattle.com_net.specs.declared.net.Net.{Net}
use Rattle.com_net.specs.Network.{IsNet}
use Rattle.com_events.specs.declared.call.Call.{Call}
use Rattle.com_events.specs.declared.reply.Reply.{Reply}
use Rattle.com_events.specs.declared.entry.Entry.{Entry}
use Rattle.com_events.specs.Calls.{HasText}
use Rattle.com_state.specs.State.{State, opening}
use Rattle.com_state.specs.declared.parties.UnitState.{UnitState}
use Rattle.com_state.specs.declared.parties.TerminalState.{TerminalState}
use Rattle.com_state.specs.declared.parties.TheConstants.{MAX_VERBS}
use Rattle.com_state.specs.declared.parties.UnitMode.TheVariants.{Running}
use Rattle.com_state.specs.declared.parties.TerminalMode.TheVariants.{Feeding}
use Rattle.com_state.specs.Steps.{is_idle}
use Rattle.com_state.specs.Wholeness.{Whole, InOrder}
use Rattle.com_state.specs.Histories.{LeadsTo, Legal}
use Rattle.com_state.specs.Parties.{entries_of, unit_by, terminal_by}
use Rattle.com_shared.specs.Parties.{parties, party_at, Item, entries, AreNumbered}

-- what clauses see of a book
pub record Log : Type 0 where
  pub net : Net
  pub state : State
  pub items : List Item

-- The entries are a legal history, which leaves the state, and each has a text.
pub record IsKept (book : Log) : Type 0 where
  pub sound : IsNet book.net
  pub leads : LeadsTo (opening book.net) (entries book.items) book.state
  pub numbered : AreNumbered book.net book.items
  pub texts : AllByRecursion HasText (entries book.items)

-- what clauses see of a shared system
pub record Place : Type 0 where
  pub turn : TurnId
  pub net : Net

-- what a pass shows
abbrev pub PassOf : Type 0
PassOf = PassState Item Net

-- the history that the pass has seen
abbrev pub seen : PassOf → List Entry
seen pass = entries pass.seen

-- the entries of the pass's own party that it has made
abbrev pub own : PassOf → List Entry
own pass = entries (mine (λ item. item.0) pass)

-- What a pass of a system over the net knows: a legal history, of which its own entries are those of
-- its party.
pub record Knows (net : Net) (pass : PassOf) : Type 0 where
  pub base : pass.base ≡ Some net
  pub opened : pass.opened ≡ []
  pub parties_are : pass.parties ≡ parties net
  pub number : pass.number < parties net
  pub legal : Legal net (seen pass)
  pub own_are : own pass ≡ entries_of (party_at net pass.number) (seen pass)

-- A pass of this system, which is not at its turn.
pub record IsPass (place : Place) (pass : PassOf) : Type 0 where
  pub turn : pass.turn ≡ place.turn
  pub free : pass.at_turn ≡ false
  pub knows : Knows place.net pass

-- The pass has seen no less than before, and is that of the same party.
pub record IsLater (before after : PassOf) : Type 0 where
  pub number : after.number ≡ before.number
  pub parties_are : after.parties ≡ before.parties
  pub base : after.base ≡ before.base
  pub opened : after.opened ≡ before.opened
  pub seen : IsPrefixOf before.seen after.seen
  pub turns : before.turns ≤ after.turns

-- the entry of the party with this number
abbrev pub entry_at : Net → ℕ → Call → Reply → Entry
entry_at net number call reply = record { party = party_at net number; call = call; reply = reply }

-- it stands at the end
abbrev pub EndsWith : List Entry → Entry → Type 0
EndsWith history entry = (before : List Entry) × (history ≡ before ++ entry ∷ [])

-- the pass's unit, and its terminal, by its own entries
abbrev pub unit_now : PassOf → UnitState
unit_now pass = unit_by (own pass)

abbrev pub terminal_now : PassOf → TerminalState
terminal_now pass = terminal_by (own pass)

-- The party made this entry and no other, and no entry that it has seen is later.
pub record IsMade (net : Net) (call : Call) (reply : Reply) (before after : PassOf) : Type 0 where
  pub last : EndsWith (seen after) (entry_at net before.number call reply)
  pub own_more : own after ≡ own before ++ entry_at net before.number call reply ∷ []

-- Before the last entry that the pass has seen the system was idle.
pub record WasIdle (net : Net) (pass : PassOf) : Type 0 where
  pub before : List Entry
  pub last : Entry
  pub seen_are : seen pass ≡ before ++ last ∷ []
  pub state : State
  pub leads : LeadsTo (opening net) before state
  pub idle : is_idle state ≡ true

-- After all that the pass has seen, what its party waits for is not there, the system is not idle,
-- and nobody is active.
pub record IsRoundOver (net : Net) (there : State → Bool) (pass : PassOf) : Type 0 where
  pub state : State
  pub leads : LeadsTo (opening net) (seen pass) state
  pub lacks : there state ≡ false
  pub busy : is_idle state ≡ false
  pub found : pass.found ≡ Some 0
  pub nobody : active_count pass.parties pass.toggles ≡ 0
  pub inactive : pass.active ≡ false

-- What calls ask of a pass.

-- a unit that runs and has not done all its verbs
pub record MayDoVerb (net : Net) (pass : PassOf) : Type 0 where
  pub unit : pass.number < length net.units
  pub runs : (unit_now pass).mode ≡ Running
  pub left : (unit_now pass).verbs < MAX_VERBS

-- a unit that runs
pub record MayStop (net : Net) (pass : PassOf) : Type 0 where
  pub unit : pass.number < length net.units
  pub runs : (unit_now pass).mode ≡ Running

-- a terminal that feeds
pub record MayEnd (net : Net) (pass : PassOf) : Type 0 where
  pub terminal : length net.units ≤ pass.number
  pub feeds : (terminal_now pass).mode ≡ Feeding

-- The beginning and the end.

-- the pass of a system that was just opened: it has seen nothing, and is not active
pub record IsNew (place : Place) (number : ℕ) (pass : PassOf) : Type 0 where
  pub ours : IsPass place pass
  pub number_is : pass.number ≡ number
  pub nothing : pass.seen ≡ []
  pub inactive : pass.active ≡ false

-- the pass with which the system may be closed
pub record MayClose (place : Place) (number : ℕ) (pass : PassOf) : Type 0 where
  pub ours : IsPass place pass
  pub number_is : pass.number ≡ number
  pub inactive : pass.active ≡ false

-- a pass for each party, in the order of their numbers
abbrev pub MayAllClose : Place → List PassOf → Type 0
MayAllClose place passes = (k : ℕ) (pass : PassOf) → slice_get passes k ≡ Some pass →
    MayClose place k pass

-- The history begins with what the pass has seen, and has of its party what the pass has made.
pub record IsIn (net : Net) (history : List Entry) (pass : PassOf) : Type 0 where
  pub front : IsPrefixOf (seen pass) history
  pub own_are : own pass ≡ entries_of (party_at net pass.number) history

-- The whole history: it is legal and leaves the state, each entry has a text, and each message went
-- to one unit, whole and in order.
pub record IsWholeHistory (net : Net) (history : List Entry) (state : State) : Type 0 where
  pub leads : LeadsTo (opening net) history state
  pub texts : AllByRecursion HasText history
  pub whole : Whole net history
  pub in_order : InOrder net history
