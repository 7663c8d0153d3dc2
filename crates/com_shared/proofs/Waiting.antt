-- What a refused call tells of its party, and how looks add up.
use Rattle.std.proofs.Common.{◌≡◌, ◌≢◌, ℕ, ◌+◌, ◌-◌, ◌<◌, ◌≤◌, Bool, true, false, not, ◌&&◌, nat_lt, List, [], ◌∷◌, ◌++◌, length, Option, Some, None, refl, ap, sym, ◌∙◌, subst, arith, inl, inr}
use Rattle.std.specs.Prelude.{◌⊎◌, IsTrue, is_some, slice_get}
use Rattle.std.proofs.lemmas.Bool.{cases_Bool, false≢true}
use Rattle.std.proofs.lemmas.Bool.Decides.{nat_tests}
use Rattle.com_msg.specs.Stamp.{Moment}
use Rattle.com_msg.specs.declared.message.RawMessage.{RawMessage}
use Rattle.com_msg.specs.declared.rest.Kind.{Kind}
use Rattle.com_net.specs.declared.net.Net.{Net}
use Rattle.com_events.specs.declared.call.Party.{Party}
use Rattle.com_events.specs.declared.call.Party.TheVariants as party
use Rattle.com_events.specs.declared.call.Call.{Call}
use Rattle.com_events.specs.declared.call.Call.TheVariants as made
use Rattle.com_events.specs.declared.call.StopReason.{StopReason}
use Rattle.com_events.specs.declared.call.StopReason.TheVariants as stop
use Rattle.com_events.specs.declared.call.EndReason.{EndReason}
use Rattle.com_events.specs.declared.call.EndReason.TheVariants as finish
use Rattle.com_events.specs.declared.reply.Reply.{Reply}
use Rattle.com_events.specs.declared.reply.Reply.TheVariants.{Started, Given, NoData, Refused, Waits, AreaIn, AreaOut, Arrived, Done}
use Rattle.com_events.specs.declared.entry.Entry.{Entry}
use Rattle.com_events.specs.Calls.{IsReplyTo}
use Rattle.com_state.specs.declared.parties.TheConstants.{MAX_VERBS, MAX_ARRIVALS}
use Rattle.com_state.specs.declared.parties.UnitMode.{UnitMode}
use Rattle.com_state.specs.declared.parties.UnitMode.TheVariants.{Dormant, Running, WaitingFor, Stopped}
use Rattle.com_state.specs.declared.parties.UnitState.{UnitState}
use Rattle.com_state.specs.declared.parties.TerminalMode.{TerminalMode}
use Rattle.com_state.specs.declared.parties.TerminalMode.TheVariants.{Feeding, Holding, Ended}
use Rattle.com_state.specs.declared.parties.TerminalState.{TerminalState}
use Rattle.com_state.specs.State.{State, opening}
use Rattle.com_state.specs.Answers.{is_ready}
use Rattle.com_state.specs.Steps.{step, is_idle, waits_or_sleeps, is_holding, is_feeding_or_holding, is_path_open, feed_of}
use Rattle.com_state.specs.Waits.{has_start}
use Rattle.com_state.specs.Histories.{LeadsTo}
use Rattle.com_state.specs.Parties.{unit_by, terminal_by, may_by_unit}
use Rattle.com_turn.specs.Toggles.{active_count}
use Rattle.com_state.proofs.Awaiting.{start_is, receive_is, arrive_is, held_is, stop_idle_is, end_idle_is, unit_with, terminal_with}
use Rattle.com_shared.specs.Parties.{party_at, unit_name, Item}
use Rattle.com_shared.specs.Passes.{Log, Place, PassOf, seen, own, IsPass, IsLater, entry_at, EndsWith, unit_now, terminal_now, IsMade, WasIdle, IsRoundOver}
use Rattle.com_shared.specs.inner.Turns.{IsAtTurn, HasSettled, HasGivenBack, Rests}
use Rattle.com_shared.specs.inner.Waits.{idle_call, IsAnsweredDone, is_there, Awaits, Approaches, IsAllowed, HasStopped, IsOver, WaitsOn, HasNotMade}
use Rattle.com_shared.proofs.Turning.{map_more}
use Rattle.com_shared.proofs.Making.{leads_here, unit_at, terminal_at, free_here, is_made, later_still, rested_own, given_own, given_active, settled_active}

pub few_verbs : (n : ℕ) → n < MAX_VERBS → nat_lt n MAX_VERBS ≡ true
few_verbs n few = grind (arith, nat_tests, few)

pub few_arrivals : (n : ℕ) → n < MAX_ARRIVALS → nat_lt n MAX_ARRIVALS ≡ true
few_arrivals n few = grind (arith, nat_tests, few)

-- a unit whose last entry is a wait waits
pub mode_of_wait : (net : Net) (p : PassOf) (area : List ℕ) (kind : Kind) (size : ℕ) → EndsWith (own p) (entry_at net p.number (made.Receive area kind size false) Waits) → (unit_now p).mode ≡ WaitingFor area kind size
mode_of_wait net p area kind size ends = ap (λ (es : List Entry). (unit_by es).mode) ends.1 ∙ ap (λ (u : UnitState). u.mode) (unit_with ends.0 (entry_at net p.number (made.Receive area kind size false) Waits))

-- a terminal whose last entry is HELD holds
pub mode_of_held : (net : Net) (p : PassOf) → EndsWith (own p) (entry_at net p.number made.Held Done) → (terminal_now p).mode ≡ Holding
mode_of_held net p ends = ap (λ (es : List Entry). (terminal_by es).mode) ends.1 ∙ ap (λ (t : TerminalState). t.mode) (terminal_with ends.0 (entry_at net p.number made.Held Done))

-- a look leaves the party's own entries
pub approaches_still : (net : Net) (call : Call) (v p : PassOf) → p.number ≡ v.number → own p ≡ own v → Approaches net call v → Approaches net call p
approaches_still net made.Start v p number same (few, mode) = (subst (λ (n : ℕ). n < length net.units) (sym number) few, ap (λ (es : List Entry). (unit_by es).mode) same ∙ mode)
approaches_still net (made.Receive area kind size no_data) v p number same (few, left, inl runs) =
    (subst (λ (n : ℕ). n < length net.units) (sym number) few, subst (λ (es : List Entry). (unit_by es).verbs < MAX_VERBS) (sym same) left, inl (ap (λ (es : List Entry). (unit_by es).mode) same ∙ runs))
approaches_still net (made.Receive area kind size no_data) v p number same (few, left, inr waits) = (
  subst (λ (n : ℕ). n < length net.units) (sym number) few,
  subst (λ (es : List Entry). (unit_by es).verbs < MAX_VERBS) (sym same) left,
  inr (waits.0, (waits.1.0, same ∙ (waits.1.1 ∙ ap (λ (n : ℕ). waits.1.0 ++ entry_at net n (made.Receive area kind size false) Waits ∷ []) (sym number)))),
)
approaches_still net (made.Arrive stamp message) v p number same (many, left, held) = (
  subst (λ (n : ℕ). length net.units ≤ n) (sym number) many,
  subst (λ (es : List Entry). (terminal_by es).arrivals < MAX_ARRIVALS) (sym same) left,
  (held.0, same ∙ (held.1 ∙ ap (λ (n : ℕ). held.0 ++ entry_at net n made.Held Done ∷ []) (sym number))),
)
approaches_still net (made.Count area) v p number same none = none
approaches_still net (made.Send area part item) v p number same none = none
approaches_still net (made.SwitchInput on terminal area key) v p number same none = none
approaches_still net (made.SwitchOutput on area key) v p number same none = none
approaches_still net made.Held v p number same none = none
approaches_still net (made.Stop reason) v p number same none = none
approaches_still net (made.Finish reason) v p number same none = none

pub awaits_still : (net : Net) (call : Call) (v p : PassOf) → p.number ≡ v.number → own p ≡ own v → Awaits net call p → Awaits net call v
awaits_still net made.Start v p number same mode = ap (λ (es : List Entry). (unit_by es).mode) (sym same) ∙ mode
awaits_still net (made.Receive area kind size no_data) v p number same waits =
    (waits.0, (waits.1.0, sym same ∙ (waits.1.1 ∙ ap (λ (n : ℕ). waits.1.0 ++ entry_at net n (made.Receive area kind size false) Waits ∷ []) number)))
awaits_still net (made.Arrive stamp message) v p number same held = (held.0, sym same ∙ (held.1 ∙ ap (λ (n : ℕ). held.0 ++ entry_at net n made.Held Done ∷ []) number))
awaits_still net (made.Count area) v p number same none = none
awaits_still net (made.Send area part item) v p number same none = none
awaits_still net (made.SwitchInput on terminal area key) v p number same none = none
awaits_still net (made.SwitchOutput on area key) v p number same none = none
awaits_still net made.Held v p number same none = none
awaits_still net (made.Stop reason) v p number same none = none
awaits_still net (made.Finish reason) v p number same none = none

-- what a refused call tells: its party waits, and what it waits for is not there
module _ (place : Place) (p : PassOf) (b : Log) (turn : IsAtTurn place p b) where
  pub record Tells (call : Call) (may : Bool) : Type 0 where
    pub awaits : may ≡ false → Awaits place.net call p
    pub there : may ≡ false → is_there place.net p.number call b.state ≡ false
    pub idle : may ≡ false → is_idle b.state ≡ true → IsTrue (is_some (step b.state (party_at b.net p.number) (idle_call call)))

  stops_idle : (mode : UnitMode) → p.number < length place.net.units → (unit_now p).mode ≡ mode → waits_or_sleeps (Some mode) ≡ true → is_idle b.state ≡ true → IsTrue (is_some (step b.state (party_at b.net p.number) (made.Stop stop.Idle)))
  stops_idle mode few is waits idle =
      let at = unit_at place p b turn few in
      ap (λ (z : Party). is_some (step b.state z (made.Stop stop.Idle))) at.party_is
      ∙ (stop_idle_is b.state _ p.number (unit_now p) at.found at.state_is
      ∙ (ap (λ (m : UnitMode). is_idle b.state && waits_or_sleeps (Some m)) is ∙ (ap (λ x. x && waits_or_sleeps (Some mode)) idle ∙ waits)))

  ends_idle : length place.net.units ≤ p.number → (terminal_now p).mode ≡ Holding → is_idle b.state ≡ true → IsTrue (is_some (step b.state (party_at b.net p.number) (made.Finish finish.Idle)))
  ends_idle many is idle =
      let at = terminal_at place p b turn many in
      ap (λ (z : Party). is_some (step b.state z (made.Finish finish.Idle))) at.party_is
      ∙ (end_idle_is b.state _ (p.number - length place.net.units) (terminal_now p) at.found at.state_is
      ∙ (ap (λ (m : TerminalMode). is_idle b.state && is_holding (Some m)) is ∙ ap (λ x. x && true) idle))

  pub tells : (call : Call) (may : Bool) → Approaches place.net call p → may ≡ is_some (step b.state (party_at b.net p.number) call) → Tells call may
  tells made.Start may (few, sleeps) is =
      let at = unit_at place p b turn few in
      let same : may ≡ has_start b.state p.number = is ∙ (ap (λ (z : Party). is_some (step b.state z made.Start)) at.party_is ∙ start_is b.state _ p.number (unit_now p) at.found at.state_is sleeps) in
      record {
        awaits = λ refused. sleeps;
        there = λ refused. sym same ∙ refused;
        idle = λ refused idle. stops_idle Dormant few sleeps refl idle;
      }
  tells (made.Receive area kind size no_data) may (few, left, inl runs) is =
      let free : may_by_unit (made.Receive area kind size no_data) (unit_now p).mode (unit_now p).verbs ≡ Some true =
      ap (λ (m : UnitMode). may_by_unit (made.Receive area kind size no_data) m (unit_now p).verbs) runs ∙ ap (λ x. Some x) (few_verbs (unit_now p).verbs left) in
      let sure : may ≡ true = is ∙ free_here place p p b (made.Receive area kind size no_data) turn refl refl (inl (few, free)) in
      record {
        awaits = λ refused. absurd (false≢true (sym refused ∙ sure));
        there = λ refused. absurd (false≢true (sym refused ∙ sure));
        idle = λ refused idle. absurd (false≢true (sym refused ∙ sure));
      }
  tells (made.Receive area kind size no_data) may (few, left, inr waits) is =
      let at = unit_at place p b turn few in
      let mode = mode_of_wait place.net p area kind size waits.1 in
      let same : may ≡ is_ready b.state p.number area =
      is ∙ (ap (λ (z : Party). is_some (step b.state z (made.Receive area kind size no_data))) at.party_is
      ∙ (ap (λ x. is_some (step b.state (party.Unit (unit_name place.net p.number)) (made.Receive area kind size x))) waits.0
      ∙ receive_is b.state _ p.number (unit_now p) area kind size at.found at.state_is mode (few_verbs (unit_now p).verbs left))) in
      record {
        awaits = λ refused. waits;
        there = λ refused. sym same ∙ refused;
        idle = λ refused idle. stops_idle (WaitingFor area kind size) few mode refl idle;
      }
  tells (made.Arrive stamp message) may (many, left, held) is =
      let at = terminal_at place p b turn many in
      let mode = mode_of_held place.net p held in
      let goes : is_feeding_or_holding (Some (terminal_now p).mode) ≡ true = ap (λ (m : TerminalMode). is_feeding_or_holding (Some m)) mode in
      let same : may ≡ is_path_open b.state (p.number - length place.net.units) =
      is ∙ (ap (λ (z : Party). is_some (step b.state z (made.Arrive stamp message))) at.party_is
      ∙ arrive_is b.state _ (p.number - length place.net.units) (terminal_now p) stamp message at.found at.state_is goes (few_arrivals (terminal_now p).arrivals left)) in
      record {
        awaits = λ refused. held;
        there = λ refused. sym same ∙ refused;
        idle = λ refused idle. ends_idle many mode idle;
      }
  tells (made.Count area) may none is = absurd none
  tells (made.Send area part item) may none is = absurd none
  tells (made.SwitchInput on terminal area key) may none is = absurd none
  tells (made.SwitchOutput on area key) may none is = absurd none
  tells made.Held may none is = absurd none
  tells (made.Stop reason) may none is = absurd none
  tells (made.Finish reason) may none is = absurd none

-- looks add up
pub allowed_still : (place : Place) (active : Bool) (call : Call) (v m w : PassOf) (b : Log) → own m ≡ own v → IsAllowed place active call m b w → IsAllowed place active call v b w
allowed_still place active call v m w b same h = record { turn = h.turn; allowed = h.allowed; own_same = h.own_same ∙ same; was = h.was }

pub stopped_still : (place : Place) (active : Bool) (call : Call) (v m w : PassOf) → m.number ≡ v.number → own m ≡ own v → HasStopped place active call m w → HasStopped place active call v w
stopped_still place active call v m w number same h = record {
  pass = h.pass;
  awaits = awaits_still place.net call v m number same h.awaits;
  made = made_still place.net (idle_call call) Done v m w number same h.made;
  idle = h.idle;
  active_is = h.active_is;
}
  where
    made_still : (net : Net) (c : Call) (reply : Reply) (v m w : PassOf) → m.number ≡ v.number → own m ≡ own v → IsMade net c reply m w → IsMade net c reply v w
    made_still net c reply v m w number same h =
        let x = ap (λ (n : ℕ). entry_at net n c reply) number in
        record {
          last = (h.last.0, h.last.1 ∙ ap (λ (e : Entry). h.last.0 ++ e ∷ []) x);
          own_more = h.own_more ∙ (ap (λ (es : List Entry). es ++ entry_at net m.number c reply ∷ []) same ∙ ap (λ (e : Entry). own v ++ e ∷ []) x);
        }

pub over_still : (place : Place) (call : Call) (v m w : PassOf) → m.number ≡ v.number → own m ≡ own v → IsOver place call m w → IsOver place call v w
over_still place call v m w number same h = record {
  pass = h.pass;
  awaits = awaits_still place.net call v m number same h.awaits;
  own_same = h.own_same ∙ same;
  over = subst (λ (n : ℕ). IsRoundOver place.net (is_there place.net n call) w) number h.over;
}

pub not_made_still : (place : Place) (active : Bool) (v m w : PassOf) → own m ≡ own v → HasNotMade place active m w → HasNotMade place active v w
not_made_still place active v m w same h = record { pass = h.pass; own_same = h.own_same ∙ same; active_is = h.active_is }

pub ruleset adding_up = (later_still, approaches_still, allowed_still, stopped_still, over_still, not_made_still)

-- the entry of an allowed call
pub allowed_made : (place : Place) (active : Bool) (call : Call) (v p q : PassOf) (b : Log) (reply : Reply) → IsLater v p → IsAllowed place active call v b p → HasSettled b p call active reply q → IsMade place.net call reply v q
allowed_made place active call v p q b reply later h s = is_made place v p q b call active reply h.turn later.number h.own_same s

-- before the entry of a call that needs an idle system, the system was idle
pub was_idle : (place : Place) (p q : PassOf) (b : Log) (call : Call) (active : Bool) (reply : Reply) → IsAtTurn place p b → is_idle b.state ≡ true → HasSettled b p call active reply q → WasIdle place.net q
was_idle place p q b call active reply turn idle s = record {
  before = seen p;
  last = entry_at b.net p.number call reply;
  seen_are = ap seen s.pass ∙ map_more (λ (i : Item). i.1) p.seen _;
  state = b.state;
  leads = leads_here place p b turn;
  idle = idle;
}

-- nobody is active, and what the party waits for is not there
pub round_over : (place : Place) (p q : PassOf) (b : Log) (there : State → Bool) → IsAtTurn place p b → there b.state ≡ false → is_idle b.state ≡ false → Rests p None q → IsRoundOver place.net there q
round_over place p q b there turn lacks busy r =
    let zero : r.found ≡ 0 = r.told in
    record {
      state = b.state;
      leads = subst (λ (es : List Entry). LeadsTo (opening place.net) es b.state) (ap seen (sym r.pass)) (leads_here place p b turn);
      lacks = lacks;
      busy = busy;
      found = ap (λ (z : PassOf). z.found) r.pass ∙ ap (λ n. Some n) zero;
      nobody = ap (λ (z : PassOf). active_count z.parties z.toggles) r.pass ∙ (sym r.counted ∙ zero);
      inactive = ap (λ (z : PassOf). z.active) r.pass;
    }

-- what STOP, END and HELD are answered
pub stop_done : (reason : StopReason) (r : Reply) → IsReplyTo (made.Stop reason) r → r ≡ Done
stop_done reason Done h = refl
stop_done reason (Started names) h = absurd h
stop_done reason (Given after text) h = absurd h
stop_done reason (NoData after) h = absurd h
stop_done reason (Refused after) h = absurd h
stop_done reason Waits h = absurd h
stop_done reason (AreaIn after) h = absurd h
stop_done reason (AreaOut after) h = absurd h
stop_done reason (Arrived number) h = absurd h

pub finish_done : (reason : EndReason) (r : Reply) → IsReplyTo (made.Finish reason) r → r ≡ Done
finish_done reason Done h = refl
finish_done reason (Started names) h = absurd h
finish_done reason (Given after text) h = absurd h
finish_done reason (NoData after) h = absurd h
finish_done reason (Refused after) h = absurd h
finish_done reason Waits h = absurd h
finish_done reason (AreaIn after) h = absurd h
finish_done reason (AreaOut after) h = absurd h
finish_done reason (Arrived number) h = absurd h

pub held_done : (r : Reply) → IsReplyTo made.Held r → r ≡ Done
held_done Done h = refl
held_done (Started names) h = absurd h
held_done (Given after text) h = absurd h
held_done (NoData after) h = absurd h
held_done (Refused after) h = absurd h
held_done Waits h = absurd h
held_done (AreaIn after) h = absurd h
held_done (AreaOut after) h = absurd h
held_done (Arrived number) h = absurd h

pub answered_done : (call : Call) (r : Reply) → IsAnsweredDone call → IsReplyTo call r → r ≡ Done
answered_done made.Held r d h = held_done r h
answered_done (made.Stop reason) r d h = stop_done reason r h
answered_done (made.Finish reason) r d h = finish_done reason r h
answered_done made.Start r d h = absurd d
answered_done (made.Receive area kind size no_data) r d h = absurd d
answered_done (made.Count area) r d h = absurd d
answered_done (made.Send area part item) r d h = absurd d
answered_done (made.SwitchInput on terminal area key) r d h = absurd d
answered_done (made.SwitchOutput on area key) r d h = absurd d
answered_done (made.Arrive stamp message) r d h = absurd d

pub settled_done : (b : Log) (p q : PassOf) (active : Bool) (call : Call) (r : Reply) → IsAnsweredDone call → HasSettled b p call active r q → HasSettled b p call active Done q
settled_done b p q active call r d s = subst (λ (x : Reply). HasSettled b p call active x q) (answered_done call r d s.replies) s

-- a look that finds the call refused
pub record IsRefused (place : Place) (call : Call) (v p : PassOf) (b : Log) : Type 0 where
  pub awaits : Awaits place.net call v
  pub lacks : is_there place.net v.number call b.state ≡ false
  pub stops : is_idle b.state ≡ true → IsTrue (is_some (step b.state (party_at b.net p.number) (idle_call call)))

pub refused_here : (place : Place) (call : Call) (v p : PassOf) (b : Log) → IsAtTurn place p b → p.number ≡ v.number → own p ≡ own v → Approaches place.net call v → is_some (step b.state (party_at b.net p.number) call) ≡ false → IsRefused place call v p b
refused_here place call v p b turn number same approaches refused =
    let told = tells place p b turn call (is_some (step b.state (party_at b.net p.number) call)) (approaches_still place.net call v p number same approaches) refl in
    record {
      awaits = awaits_still place.net call v p number same (told.awaits refused);
      lacks = subst (λ (n : ℕ). is_there place.net n call b.state ≡ false) number (told.there refused);
      stops = told.idle refused;
    }

-- the party stopped or ended
pub has_stopped : (place : Place) (active : Bool) (call stops : Call) (v p q : PassOf) (b : Log) → stops ≡ idle_call call → IsAtTurn place p b → p.number ≡ v.number → own p ≡ own v → Approaches place.net call v → is_some (step b.state (party_at b.net p.number) call) ≡ false → is_idle b.state ≡ true → IsPass place q
    → HasSettled b p stops active Done q → HasStopped place active call v q
has_stopped place active call stops v p q b is turn number same approaches refused idle pass s = record {
  pass = pass;
  awaits = (refused_here place call v p b turn number same approaches refused).awaits;
  made = subst (λ (c : Call). IsMade place.net c Done v q) is (is_made place v p q b stops active Done turn number same s);
  idle = was_idle place p q b stops active Done turn idle s;
  active_is = settled_active p q b stops active Done s;
}

-- the party waits, and nobody is active
pub is_over : (place : Place) (call : Call) (v p q : PassOf) (b : Log) → IsAtTurn place p b → p.number ≡ v.number → own p ≡ own v → Approaches place.net call v → is_some (step b.state (party_at b.net p.number) call) ≡ false → is_idle b.state ≡ false → IsPass place q
    → Rests p None q → IsOver place call v q
is_over place call v p q b turn number same approaches refused busy pass rests =
    let told = refused_here place call v p b turn number same approaches refused in
    record {
      pass = pass;
      awaits = told.awaits;
      own_same = rested_own p q None rests ∙ same;
      over = round_over place p q b (is_there place.net v.number call) turn told.lacks busy rests;
    }
