-- What a turn leaves, from what its steps leave.
use Rattle.std.proofs.Common.{◌≡◌, ◌≢◌, ℕ, ◌+◌, ◌-◌, ◌<◌, ◌≤◌, Bool, true, false, ◌&&◌, nat_lt, List, [], ◌∷◌, ◌++◌, length, map, Option, Some, None, refl, ap, sym, ◌∙◌, subst, arith, inl, inr, append_assoc, append-nil}
use Rattle.std.specs.Prelude.{◌⊎◌, IsTrue, is_some, slice_get, MatchOption}
use Rattle.std.proofs.lemmas.Bool.{cases_Bool, false≢true}
use Rattle.std.proofs.lemmas.Bool.Decides.{nat_tests}
use Rattle.com_turn.specs.declared.view.Toggle.{Toggle}
use Rattle.com_turn.specs.Histories.{IsPrefixOf}
use Rattle.com_turn.specs.Toggles.{active_count}
use Rattle.com_net.specs.declared.net.Net.{Net}
use Rattle.com_net.specs.Network.{IsNet}
use Rattle.com_net.specs.Numbers.{unit_number, terminal_number}
use Rattle.com_events.specs.declared.call.Party.{Party}
use Rattle.com_events.specs.declared.call.Party.TheVariants as party
use Rattle.com_events.specs.declared.call.Call.{Call}
use Rattle.com_events.specs.declared.reply.Reply.{Reply}
use Rattle.com_events.specs.declared.entry.Entry.{Entry}
use Rattle.com_state.specs.declared.parties.UnitState.{UnitState}
use Rattle.com_state.specs.declared.parties.TerminalState.{TerminalState}
use Rattle.com_state.specs.State.{State, opening}
use Rattle.com_state.specs.Steps.{step}
use Rattle.com_state.specs.Histories.{LeadsTo}
use Rattle.com_state.specs.Parties.{entries_of, unit_by, terminal_by, may_by_unit, may_by_terminal}
use Rattle.com_state.proofs.Awaiting.{unit_here, terminal_here, unit_may, terminal_may}
use Rattle.com_shared.specs.Parties.{parties, party_at, unit_name, terminal_name, Item, entries}
use Rattle.com_shared.specs.Passes.{Log, Place, PassOf, seen, own, Knows, IsPass, IsLater, entry_at, EndsWith, unit_now, terminal_now, IsMade}
use Rattle.com_shared.specs.inner.Turns.{IsAtTurn, given_back, HasSettled, HasGivenBack, Rests, IsSetActive, item_at}
use Rattle.com_shared.specs.inner.Plain.{IsFree}
use Rattle.com_shared.proofs.Numbered.{unit_is, terminal_is, at_unit, at_terminal}
use Rattle.com_shared.proofs.Turning.{map_more, still_turn}

-- what was seen goes on
front_trans : (a b c : List Item) → IsPrefixOf a b → IsPrefixOf b c → IsPrefixOf a c
front_trans a b c first second = (first.0 ++ second.0, second.1 ∙ (ap (λ xs. xs ++ second.0) first.1 ∙ append_assoc a first.0 second.0))

pub later_self : (v : PassOf) → IsLater v v
later_self v = record { number = refl; parties_are = refl; base = refl; opened = refl; seen = ([], sym (append-nil v.seen)); turns = omega arith }

pub later_still : (v p q : PassOf) → IsLater v p → IsLater p q → IsLater v q
later_still v p q first second = record {
  number = second.number ∙ first.number;
  parties_are = second.parties_are ∙ first.parties_are;
  base = second.base ∙ first.base;
  opened = second.opened ∙ first.opened;
  seen = front_trans v.seen p.seen q.seen first.seen second.seen;
  turns = (let a = first.turns in let b = second.turns in omega (arith, a, b));
}

-- a turn that was given back
left_with : (p : PassOf) (more : List Item) (toggles : List Toggle) (active : Bool) (found : Option ℕ) → IsLater p (record p { seen = p.seen ++ more; toggles = toggles; at_turn = false; active = active; found = found })
left_with p more toggles active found = record { number = refl; parties_are = refl; base = refl; opened = refl; seen = (more, refl); turns = omega arith }

left_bare : (p : PassOf) (toggles : List Toggle) (active : Bool) (found : Option ℕ) → IsLater p (record p { toggles = toggles; at_turn = false; active = active; found = found })
left_bare p toggles active found = record { number = refl; parties_are = refl; base = refl; opened = refl; seen = ([], sym (append-nil p.seen)); turns = omega arith }

pub settled_later : (p q : PassOf) (b : Log) (call : Call) (active : Bool) (reply : Reply) → HasSettled b p call active reply q → IsLater p q
settled_later p q b call active reply s = subst (λ (z : PassOf). IsLater p z) (sym s.pass) (left_with p (item_at b p.number call reply ∷ []) s.toggles active s.found)

pub given_later : (p q : PassOf) (active : Bool) → HasGivenBack p active q → IsLater p q
given_later p q active g = subst (λ (z : PassOf). IsLater p z) (sym g.pass) (left_bare p g.toggles active g.found)

pub rested_later : (p q : PassOf) (rung : Option ℕ) → Rests p rung q → IsLater p q
rested_later p q rung r = subst (λ (z : PassOf). IsLater p z) (sym r.pass) (left_bare p r.toggles false (Some r.found))

pub given_own : (p q : PassOf) (active : Bool) → HasGivenBack p active q → own q ≡ own p
given_own p q active g = ap own g.pass

pub rested_own : (p q : PassOf) (rung : Option ℕ) → Rests p rung q → own q ≡ own p
rested_own p q rung r = ap own r.pass

pub settled_turns : (p q : PassOf) (b : Log) (call : Call) (active : Bool) (reply : Reply) → HasSettled b p call active reply q → q.turns ≡ p.turns
settled_turns p q b call active reply s = ap (λ (z : PassOf). z.turns) s.pass

pub given_turns : (p q : PassOf) (active : Bool) → HasGivenBack p active q → q.turns ≡ p.turns
given_turns p q active g = ap (λ (z : PassOf). z.turns) g.pass

pub rested_turns : (p q : PassOf) (rung : Option ℕ) → Rests p rung q → q.turns ≡ p.turns
rested_turns p q rung r = ap (λ (z : PassOf). z.turns) r.pass

pub settled_active : (p q : PassOf) (b : Log) (call : Call) (active : Bool) (reply : Reply) → HasSettled b p call active reply q → q.active ≡ active
settled_active p q b call active reply s = ap (λ (z : PassOf). z.active) s.pass

pub given_active : (p q : PassOf) (active : Bool) → HasGivenBack p active q → q.active ≡ active
given_active p q active g = ap (λ (z : PassOf). z.active) g.pass

-- the entry of a call is the last, and the party's own
pub is_made : (place : Place) (v p q : PassOf) (b : Log) (call : Call) (active : Bool) (reply : Reply) → IsAtTurn place p b → p.number ≡ v.number → own p ≡ own v → HasSettled b p call active reply q → IsMade place.net call reply v q
is_made place v p q b call active reply turn number same s =
    let x : entry_at b.net p.number call reply ≡ entry_at place.net v.number call reply = ap (λ (m : Net). entry_at m p.number call reply) turn.net ∙ ap (λ (n : ℕ). entry_at place.net n call reply) number in
    record {
      last = (entries p.seen, ap seen s.pass ∙ (map_more (λ (i : Item). i.1) p.seen (item_at b p.number call reply) ∙ ap (λ (e : Entry). entries p.seen ++ e ∷ []) x));
      own_more = s.own_more ∙ (ap (λ (es : List Entry). es ++ entry_at b.net p.number call reply ∷ []) same ∙ ap (λ (e : Entry). own v ++ e ∷ []) x);
    }

-- the state at the turn is what the history leaves that the pass has seen
pub leads_here : (place : Place) (p : PassOf) (b : Log) → IsAtTurn place p b → LeadsTo (opening place.net) (seen p) b.state
leads_here place p b turn = subst (λ (xs : List Item). LeadsTo (opening place.net) (entries xs) b.state) turn.items (subst (λ (m : Net). LeadsTo (opening m) (entries b.items) b.state) turn.net turn.kept.leads)

sound_here : (place : Place) (p : PassOf) (b : Log) → IsAtTurn place p b → IsNet place.net
sound_here place p b turn = subst IsNet turn.net turn.kept.sound

-- the unit of a pass at its turn
pub record IsUnitAt (place : Place) (p : PassOf) (b : Log) : Type 0 where
  pub party_is : party_at b.net p.number ≡ party.Unit (unit_name place.net p.number)
  pub number_is : unit_number place.net (unit_name place.net p.number) ≡ Some p.number
  pub own_are : own p ≡ entries_of (party.Unit (unit_name place.net p.number)) (seen p)
  pub found : unit_number b.state.net (unit_name place.net p.number) ≡ Some p.number
  pub state_is : slice_get b.state.units p.number ≡ Some (unit_now p)

pub unit_at : (place : Place) (p : PassOf) (b : Log) → IsAtTurn place p b → p.number < length place.net.units → IsUnitAt place p b
unit_at place p b turn few =
    let who = at_unit place.net p.number few in
    let number = unit_is place.net p.number (sound_here place p b turn) few in
    let mine : own p ≡ entries_of (party.Unit (unit_name place.net p.number)) (seen p) = turn.knows.own_are ∙ ap (λ (z : Party). entries_of z (seen p)) who in
    let here = unit_here place.net (seen p) b.state (unit_name place.net p.number) p.number (leads_here place p b turn) number in
    record {
      party_is = ap (λ (m : Net). party_at m p.number) turn.net ∙ who;
      number_is = number;
      own_are = mine;
      found = here.0;
      state_is = here.1 ∙ ap (λ (es : List Entry). Some (unit_by es)) (sym mine);
    }

-- the terminal of a pass at its turn
pub record IsTerminalAt (place : Place) (p : PassOf) (b : Log) : Type 0 where
  pub party_is : party_at b.net p.number ≡ party.Terminal (terminal_name place.net (p.number - length place.net.units))
  pub number_is : terminal_number place.net (terminal_name place.net (p.number - length place.net.units)) ≡ Some (p.number - length place.net.units)
  pub own_are : own p ≡ entries_of (party.Terminal (terminal_name place.net (p.number - length place.net.units))) (seen p)
  pub found : terminal_number b.state.net (terminal_name place.net (p.number - length place.net.units)) ≡ Some (p.number - length place.net.units)
  pub state_is : slice_get b.state.terminals (p.number - length place.net.units) ≡ Some (terminal_now p)

pub terminal_at : (place : Place) (p : PassOf) (b : Log) → IsAtTurn place p b → length place.net.units ≤ p.number → IsTerminalAt place p b
terminal_at place p b turn many =
    let k = p.number - length place.net.units in
    let below = turn.knows.number in
    let few : k < length place.net.terminals = omega (arith, below, many) in
    let who = at_terminal place.net p.number many in
    let number = terminal_is place.net k (sound_here place p b turn) few in
    let mine : own p ≡ entries_of (party.Terminal (terminal_name place.net k)) (seen p) = turn.knows.own_are ∙ ap (λ (z : Party). entries_of z (seen p)) who in
    let here = terminal_here place.net (seen p) b.state (terminal_name place.net k) k (leads_here place p b turn) number in
    record {
      party_is = ap (λ (m : Net). party_at m p.number) turn.net ∙ who;
      number_is = number;
      own_are = mine;
      found = here.0;
      state_is = here.1 ∙ ap (λ (es : List Entry). Some (terminal_by es)) (sym mine);
    }

-- a call that the party's own entries allow is allowed
pub free_here : (place : Place) (v p : PassOf) (b : Log) (call : Call) → IsAtTurn place p b → p.number ≡ v.number → own p ≡ own v → IsFree place.net call v → IsTrue (is_some (step b.state (party_at b.net p.number) call))
free_here place v p b call turn number same (inl free) =
    let few : p.number < length place.net.units = subst (λ (n : ℕ). n < length place.net.units) (sym number) free.0 in
    let at = unit_at place p b turn few in
    let settled : may_by_unit call (unit_by (entries_of (party.Unit (unit_name place.net p.number)) (seen p))).mode (unit_by (entries_of (party.Unit (unit_name place.net p.number)) (seen p))).verbs ≡ Some true =
    ap (λ (es : List Entry). may_by_unit call (unit_by es).mode (unit_by es).verbs) (sym at.own_are ∙ same) ∙ free.1 in
    ap (λ (z : Party). is_some (step b.state z call)) at.party_is ∙ unit_may place.net (seen p) b.state (unit_name place.net p.number) p.number call true (leads_here place p b turn) at.number_is settled
free_here place v p b call turn number same (inr free) =
    let many : length place.net.units ≤ p.number = subst (λ (n : ℕ). length place.net.units ≤ n) (sym number) free.0 in
    let k = p.number - length place.net.units in
    let at = terminal_at place p b turn many in
    let settled : may_by_terminal call (terminal_by (entries_of (party.Terminal (terminal_name place.net k)) (seen p))).mode (terminal_by (entries_of (party.Terminal (terminal_name place.net k)) (seen p))).arrivals ≡ Some true =
    ap (λ (es : List Entry). may_by_terminal call (terminal_by es).mode (terminal_by es).arrivals) (sym at.own_are ∙ same) ∙ free.1 in
    ap (λ (z : Party). is_some (step b.state z call)) at.party_is ∙ terminal_may place.net (seen p) b.state (terminal_name place.net k) k call true (leads_here place p b turn) at.number_is settled

-- a turn in which the pass became active, or stayed so
pub entered_later : (p q w : PassOf) (active : Bool) → IsSetActive p active q → w ≡ given_back q → IsLater p w
entered_later p q w active s e =
    let same : w ≡ record p { toggles = s.0; at_turn = false; active = active; found = s.1 } = e ∙ ap given_back s.2 in
    subst (λ (z : PassOf). IsLater p z) (sym same) (left_bare p s.0 active s.1)

pub entered_own : (p q w : PassOf) (active : Bool) → IsSetActive p active q → w ≡ given_back q → own w ≡ own p
entered_own p q w active s e = ap own (e ∙ ap given_back s.2)

pub entered_active : (p q w : PassOf) (active : Bool) → IsSetActive p active q → w ≡ given_back q → w.active ≡ active
entered_active p q w active s e = ap (λ (z : PassOf). z.active) (e ∙ ap given_back s.2)

pub entered_turns : (p q w : PassOf) (active : Bool) → IsSetActive p active q → w ≡ given_back q → w.turns ≡ p.turns
entered_turns p q w active s e = ap (λ (z : PassOf). z.turns) (e ∙ ap given_back s.2)

-- a turn that was given back at once
pub back_later : (p w : PassOf) → w ≡ given_back p → IsLater p w
back_later p w e = subst (λ (z : PassOf). IsLater p z) (sym e) record { number = refl; parties_are = refl; base = refl; opened = refl; seen = ([], sym (append-nil p.seen)); turns = omega arith }

pub back_own : (p w : PassOf) → w ≡ given_back p → own w ≡ own p
back_own p w e = ap own e

pub ruleset turning = (still_turn, later_still, settled_later, given_later, rested_later, given_own, rested_own, settled_turns, given_turns, rested_turns, settled_active, given_active, entered_later, entered_own, entered_active, entered_turns, back_later, back_own, is_made)

-- a party that became inactive and looked round
as_found : (p m q : PassOf) (n : ℕ) → (s : IsSetActive p false m) → q ≡ record m { found = Some n } → q ≡ record p { toggles = s.0; active = false; found = Some n }
as_found p m q n s e = e ∙ ap (λ (z : PassOf). let y : PassOf = record z { found = Some n } in y) s.2

pub round_turn : (place : Place) (p m q : PassOf) (b : Log) (n : ℕ) → IsAtTurn place p b → IsSetActive p false m → q ≡ record m { found = Some n } → IsAtTurn place q b
round_turn place p m q b n turn s e = still_turn place p q b s.0 false (Some n) turn (as_found p m q n s e)

rests_with : (p m q w : PassOf) (n : ℕ) (rung : Option ℕ) → IsSetActive p false m → q ≡ record m { found = Some n } → n ≡ active_count m.parties m.toggles → w ≡ given_back q → MatchOption rung (n ≡ 0) (λ _. 0 < n) → Rests p rung w
rests_with p m q w n rung s e count back told = record {
  toggles = s.0;
  found = n;
  pass = back ∙ ap given_back (as_found p m q n s e);
  counted = count ∙ ap (λ (z : PassOf). active_count z.parties z.toggles) s.2;
  told = told;
}

pub rests_none : (p m q w : PassOf) (n : ℕ) → IsSetActive p false m → q ≡ record m { found = Some n } → n ≡ active_count m.parties m.toggles → w ≡ given_back q → n ≡ 0 → Rests p None w
rests_none p m q w n s e count back zero = rests_with p m q w n None s e count back zero

pub rests_some : (p m q w : PassOf) (n rung : ℕ) → IsSetActive p false m → q ≡ record m { found = Some n } → n ≡ active_count m.parties m.toggles → w ≡ given_back q → 0 < n → Rests p (Some rung) w
rests_some p m q w n rung s e count back more = rests_with p m q w n (Some rung) s e count back more

pub ruleset resting = (round_turn, rests_none, rests_some)
