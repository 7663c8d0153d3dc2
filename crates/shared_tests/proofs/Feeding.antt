-- What a terminal's calls leave of it.
use Rattle.std.proofs.Common.{◌≡◌, ℕ, ◌+◌, ◌-◌, ◌<◌, ◌≤◌, true, List, length, ap, sym, ◌∙◌, subst, inl, inr}
use Rattle.std.specs.Prelude.{is_some}
use Rattle.com_msg.specs.Stamp.{Moment}
use Rattle.com_msg.specs.declared.message.RawMessage.{RawMessage}
use Rattle.com_events.specs.declared.entry.Entry.{Entry}
use Rattle.com_state.specs.declared.parties.TheConstants.{MAX_ARRIVALS}
use Rattle.com_state.specs.declared.parties.TerminalMode.TheVariants.{Feeding}
use Rattle.com_state.specs.declared.parties.TerminalState.{TerminalState}
use Rattle.com_state.specs.Parties.{terminal_by}
use Rattle.com_state.specs.Steps.{feed_of}
use Rattle.com_state.proofs.Awaiting.{terminal_with}
use Rattle.com_shared.specs.Passes.{Place, PassOf, IsPass, IsLater, MayEnd, own}
use Rattle.com_shared.specs.Waits.{MayArrive, held_entry, HasArrived, MayHaveWaited}
use Rattle.com_shared.specs.declared.arrive.Arrived.TheVariants as arrived
use Rattle.shared_tests.specs.Playing.{GoesOn, Feeds}
use Rattle.shared_tests.proofs.Playing.{goes_on}

pub may_arrive : (place : Place) (n : ℕ) (v : PassOf) → n < MAX_ARRIVALS → Feeds place n v → MayArrive place.net v
may_arrive place n v few h = record {
  terminal = h.terminal;
  route = h.route;
  left = subst (λ (k : ℕ). k < MAX_ARRIVALS) (sym (ap (λ (t : TerminalState). t.arrivals) h.feeding)) few;
  feeds_or_holds = inl (ap (λ (t : TerminalState). t.mode) h.feeding);
}

pub may_end : (place : Place) (n : ℕ) (v : PassOf) → Feeds place n v → MayEnd place.net v
may_end place n v h = record { terminal = h.terminal; feeds = ap (λ (t : TerminalState). t.mode) h.feeding }

-- what was held is no arrival yet
arrivals_still : (place : Place) (k : ℕ) (before after : List Entry) → MayHaveWaited (held_entry place.net k) before after → (terminal_by after).arrivals ≡ (terminal_by before).arrivals
arrivals_still place k before after (inl same) = ap (λ (es : List Entry). (terminal_by es).arrivals) same
arrivals_still place k before after (inr more) = ap (λ (es : List Entry). (terminal_by es).arrivals) more ∙ ap (λ (t : TerminalState). t.arrivals) (terminal_with before (held_entry place.net k))

pub has_arrived : (place : Place) (n number : ℕ) (stamp : Moment) (message : RawMessage) (v w : PassOf) → Feeds place n v → IsPass place w → IsLater v w → HasArrived place.net stamp message v (arrived.Done number) w → Feeds place (n + 1) w
has_arrived place n number stamp message v w h ours later s =
    let done = s.0 in
    let arrivals : (terminal_by done.own_before).arrivals ≡ n = arrivals_still place v.number (own v) done.own_before done.waited ∙ ap (λ (t : TerminalState). t.arrivals) h.feeding in
    record {
      ours = ours;
      terminal = subst (λ (k : ℕ). length place.net.units ≤ k) (sym later.number) h.terminal;
      route = subst (λ (k : ℕ). is_some (feed_of place.net (k - length place.net.units)) ≡ true) (sym later.number) h.route;
      feeding = ap terminal_by done.own_more ∙ (terminal_with done.own_before _ ∙ ap (λ (k : ℕ). let t : TerminalState = record { mode = Feeding; arrivals = k + 1 } in t) arrivals);
    }

pub ruleset feeding = (goes_on, may_arrive, may_end, has_arrived)

-- what makes no entry leaves a terminal as it was
pub feeds_still : (place : Place) (n : ℕ) (v w : PassOf) → Feeds place n v → GoesOn place v w → own w ≡ own v → Feeds place n w
feeds_still place n v w h on same = record {
  ours = on.ours;
  terminal = subst (λ (k : ℕ). length place.net.units ≤ k) (sym on.number) h.terminal;
  route = subst (λ (k : ℕ). is_some (feed_of place.net (k - length place.net.units)) ≡ true) (sym on.number) h.route;
  feeding = ap terminal_by same ∙ h.feeding;
}

pub ruleset still = (feeds_still)
