-- What the parts of a step leave as it was.
use Rattle.std.proofs.Common.{◌≡◌, ℕ, Bool, true, false, Some, None, Option, refl, ◌∙◌, inl, inr, subst}
use Rattle.std.specs.Prelude.{◌⊎◌, slice_get}
use Rattle.std.proofs.lemmas.Option.{none-some, same_Some}
use Rattle.com_events.specs.declared.reply.Reply.{Reply}
use Rattle.com_state.specs.State.{State}
use Rattle.com_state.specs.declared.parties.UnitMode.{UnitMode}
use Rattle.com_state.specs.declared.parties.TerminalMode.{TerminalMode}
use Rattle.com_state.specs.Steps.{next_if, with_unit_mode, with_terminal_mode, with_verb, with_arrival, with_reply}

-- an option is none or something
pub option_cases : {A : Type 0} (o : Option A) → (o ≡ None) ⊎ ((x : A) × (o ≡ Some x))
option_cases None = inl refl
option_cases (Some x) = inr (x, refl)

pub next_if-Some : (test : Bool) (x y : Reply × State) → next_if test x ≡ Some y → x ≡ y
next_if-Some true x y h = same_Some x y h
next_if-Some false x y h = absurd (none-some y h)

-- what a mode, a count of verbs or a count of arrivals is no part of
pub record SameQueues (S next : State) : Type 0 where
  pub net : next.net ≡ S.net
  pub incoming : next.incoming ≡ S.incoming
  pub outgoing : next.outgoing ≡ S.outgoing

pub same_queues : (S : State) → SameQueues S S
same_queues S = record { net = refl; incoming = refl; outgoing = refl }

pub queues_unit_mode : (unit : ℕ) (mode : UnitMode) (S : State) → SameQueues S (with_unit_mode unit mode S)
queues_unit_mode unit mode S = elim (option_cases (slice_get S.units unit)) [
  | inl none ↦ rw (none, with_unit_mode) (same_queues S)
  | inr some ↦ rw (some.1, with_unit_mode) record { net = refl; incoming = refl; outgoing = refl }
]

pub queues_terminal_mode : (terminal : ℕ) (mode : TerminalMode) (S : State) → SameQueues S (with_terminal_mode terminal mode S)
queues_terminal_mode terminal mode S = elim (option_cases (slice_get S.terminals terminal)) [
  | inl none ↦ rw (none, with_terminal_mode) (same_queues S)
  | inr some ↦ rw (some.1, with_terminal_mode) record { net = refl; incoming = refl; outgoing = refl }
]

pub queues_verb : (unit : ℕ) (S : State) → SameQueues S (with_verb unit S)
queues_verb unit S = elim (option_cases (slice_get S.units unit)) [
  | inl none ↦ rw (none, with_verb) (same_queues S)
  | inr some ↦ rw (some.1, with_verb) record { net = refl; incoming = refl; outgoing = refl }
]

pub queues_arrival : (terminal : ℕ) (S : State) → SameQueues S (with_arrival terminal S)
queues_arrival terminal S = elim (option_cases (slice_get S.terminals terminal)) [
  | inl none ↦ rw (none, with_arrival) (same_queues S)
  | inr some ↦ rw (some.1, with_arrival) record { net = refl; incoming = refl; outgoing = refl }
]

-- what a verb leaves after its own work
pub after_verb : (unit : ℕ) (S : State) (reply : Reply) (next : State) (done : Reply × State) → with_reply unit done ≡ (reply, next) → SameQueues done.1 next
after_verb unit S reply next done h = subst (λ (p : Reply × State). SameQueues done.1 p.1) h (queues_verb unit done.1)

pub chained : (S mid next : State) → SameQueues S mid → SameQueues mid next → SameQueues S next
chained S mid next first second = record {
  net = second.net ∙ first.net;
  incoming = second.incoming ∙ first.incoming;
  outgoing = second.outgoing ∙ first.outgoing;
}
