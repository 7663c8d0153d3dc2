-- No count passes its limit, whatever the calls are.
use Rattle.std.proofs.Common.{◌≡◌, ℕ, ◌≤◌, List, [], ◌∷◌, Some, length, sym, subst, arith}
use Rattle.std.specs.List.{All}
use Rattle.com_net.specs.declared.net.Net.{Net}
use Rattle.com_events.specs.declared.call.Party.{Party}
use Rattle.com_events.specs.declared.call.Party.TheVariants as party
use Rattle.com_events.specs.declared.call.Call.{Call}
use Rattle.com_events.specs.declared.reply.Reply.{Reply}
use Rattle.com_events.specs.declared.entry.Entry.{Entry}
use Rattle.com_state.specs.declared.parties.TheConstants.{MAX_VERBS, MAX_ARRIVALS}
use Rattle.com_state.specs.declared.parties.UnitState.{UnitState}
use Rattle.com_state.specs.declared.parties.TerminalState.{TerminalState}
use Rattle.com_state.specs.State.{State, opening, opening_unit, opening_terminal}
use Rattle.com_state.specs.Steps.{step}
use Rattle.com_state.specs.Histories.{LeadsTo}
use Rattle.com_state.specs.Reached.{KeepsLimits}
use Rattle.com_state.proofs.StepCases.{step_of_unit, step_of_terminal}
use Rattle.com_state.proofs.Owned.{unit_done, terminal_done}
use Rattle.com_state.proofs.Consistency.{all_at, all_replicated}

limits_step : (S next : State) (who : Party) (call : Call) (reply : Reply) → step S who call ≡ Some (reply, next) → KeepsLimits S → KeepsLimits next
limits_step S next (party.Unit name) call reply stepped kept =
    let its = step_of_unit S name call reply next stepped in
    let made = unit_done S its.0 call reply next its.2 in
    record {
      verbs = rw made.units (all_at (λ (u : UnitState). u.verbs ≤ MAX_VERBS) S.units its.0 _ kept.verbs made.counted);
      arrivals = rw made.terminals kept.arrivals;
    }
limits_step S next (party.Terminal name) call reply stepped kept =
    let its = step_of_terminal S name call reply next stepped in
    let made = terminal_done S its.0 name call reply next its.2 in
    record {
      verbs = rw made.units kept.verbs;
      arrivals = rw made.terminals (all_at (λ (t : TerminalState). t.arrivals ≤ MAX_ARRIVALS) S.terminals its.0 _ kept.arrivals made.counted);
    }

limits_after : (S : State) (history : List Entry) (last : State) → LeadsTo S history last → KeepsLimits S → KeepsLimits last
limits_after S [] last e kept = subst KeepsLimits (sym e) kept
limits_after S (entry ∷ entries) last e kept = limits_after e.0 entries last e.2 (limits_step S e.0 entry.party entry.call entry.reply e.1 kept)

-- what a legal history leaves
pub limits_kept : (net : Net) (history : List Entry) (last : State) → LeadsTo (opening net) history last → KeepsLimits last
limits_kept net history last leads = limits_after (opening net) history last leads (record {
  verbs = all_replicated (λ (u : UnitState). u.verbs ≤ MAX_VERBS) (length net.units) opening_unit (omega arith);
  arrivals = all_replicated (λ (t : TerminalState). t.arrivals ≤ MAX_ARRIVALS) (length net.terminals) opening_terminal (omega arith);
})
