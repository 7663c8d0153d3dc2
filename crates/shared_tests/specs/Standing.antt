-- What parties know of themselves between two rounds.
use Rattle.std.specs.Prelude.{◌≡◌, ℕ, ◌<◌, ◌≤◌, List, length, slice_index_or}
use Rattle.com_shared.specs.Passes.{Place, PassOf, IsPass, MayClose}
use Rattle.shared_tests.specs.declared.plan.TheConstants.{MAX_MESSAGES}
use Rattle.shared_tests.specs.declared.rounds.Stands.{Stands}
use Rattle.shared_tests.specs.declared.rounds.Stands.TheVariants.{Fresh, Waits, Out}
use Rattle.shared_tests.specs.declared.rounds.Member.{Member}
use Rattle.shared_tests.specs.declared.rounds.Round.{Round}
use Rattle.shared_tests.specs.declared.rounds.Round.TheVariants.{Enter, Receive, Send}
use Rattle.shared_tests.specs.Playing.{Receives, IsFresh}

-- how far the party of a pass is, which waits with this area if it waits
abbrev pub StandsAt : Place → Stands → List ℕ → PassOf → Type 0
StandsAt place Fresh area pass = IsFresh place pass
StandsAt place Waits area pass = Receives place 0 area pass
StandsAt place Out area pass = IsPass place pass

-- it is as far as it says
abbrev pub IsMember : Place → Member → Type 0
IsMember place member = StandsAt place member.stands member.area member.pass

-- the same party some calls later
pub record PlaysOn (place : Place) (before after : Member) : Type 0 where
  pub stands : IsMember place after
  pub number : after.pass.number ≡ before.pass.number

-- each party has played on
abbrev pub HaveAllPlayed : Place → List Member → List Member → Type 0
HaveAllPlayed place before after = (k : ℕ) (d : Member) → k < length before →
    PlaysOn place (slice_index_or before k d) (slice_index_or after k d)

-- the pass of the same party may be closed with
pub record IsOut (place : Place) (before after : Member) : Type 0 where
  pub closes : MayClose place before.pass.number after.pass

-- each of them
abbrev pub AreAllOut : Place → List Member → List Member → Type 0
AreAllOut place before after = (k : ℕ) (d : Member) → k < length before →
    IsOut place (slice_index_or before k d) (slice_index_or after k d)

-- no terminal sends more messages than a party may
abbrev pub IsFew : Round → Type 0
IsFew (Send plan) = plan.messages ≤ MAX_MESSAGES
IsFew Enter = 0 ≤ MAX_MESSAGES
IsFew (Receive turns) = 0 ≤ MAX_MESSAGES
