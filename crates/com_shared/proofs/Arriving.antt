-- How a terminal comes to wait for its path, and goes on.
use Rattle.std.proofs.Common.{◌≡◌, ℕ, ◌-◌, ◌<◌, ◌≤◌, Bool, true, false, not, List, [], ◌∷◌, ◌++◌, length, Option, Some, None, refl, ap, sym, ◌∙◌, subst, arith, inl, inr}
use Rattle.std.specs.Prelude.{◌⊎◌, is_some, IsTrue}
use Rattle.std.proofs.lemmas.Bool.{cases_Bool, false≢true}
use Rattle.std.proofs.lemmas.Bool.Decides.{nat_tests}
use Rattle.com_msg.specs.Stamp.{Moment}
use Rattle.com_msg.specs.declared.message.RawMessage.{RawMessage}
use Rattle.com_net.specs.declared.net.Net.{Net}
use Rattle.com_events.specs.declared.call.Party.{Party}
use Rattle.com_events.specs.declared.call.Call.{Call}
use Rattle.com_events.specs.declared.call.Call.TheVariants as made
use Rattle.com_events.specs.declared.call.EndReason.TheVariants as finish
use Rattle.com_events.specs.declared.reply.Reply.{Reply}
use Rattle.com_events.specs.declared.reply.Reply.TheVariants.{Started, Given, NoData, Refused, Waits, AreaIn, AreaOut, Arrived, Done}
use Rattle.com_events.specs.declared.entry.Entry.{Entry}
use Rattle.com_events.specs.Calls.{IsReplyTo}
use Rattle.com_state.specs.declared.parties.TheConstants.{MAX_ARRIVALS}
use Rattle.com_state.specs.declared.parties.TerminalMode.{TerminalMode}
use Rattle.com_state.specs.declared.parties.TerminalMode.TheVariants.{Feeding}
use Rattle.com_state.specs.declared.parties.TerminalState.{TerminalState}
use Rattle.com_state.specs.State.{State}
use Rattle.com_state.specs.Steps.{step, is_path_open, is_feeding_or_holding, feed_of}
use Rattle.com_state.specs.Parties.{terminal_by}
use Rattle.com_state.proofs.Awaiting.{arrive_is, held_is, terminal_with}
use Rattle.com_state.proofs.Telling.{told_by_entries}
use Rattle.com_shared.specs.declared.waits.Reached.{Reached}
use Rattle.com_shared.specs.declared.waits.Reached.TheVariants as reached
use Rattle.com_shared.specs.Parties.{parties, party_at}
use Rattle.com_shared.specs.Passes.{Log, Place, PassOf, seen, own, IsPass, IsLater, EndsWith, entry_at, terminal_now, IsMade, IsRoundOver}
use Rattle.com_shared.specs.Waits.{held_entry, end_entry, HasWait, MayHaveWaited, IsDone, IsStopped, MayArrive}
use Rattle.com_shared.specs.inner.Turns.{IsAtTurn, given_back, HasSettled, HasGivenBack}
use Rattle.com_shared.specs.inner.Waits.{idle_call, is_there, Approaches, IsAllowed, HasStopped, IsOver, HasNotMade, HasReached}
use Rattle.com_shared.specs.inner.Arriving.{IsArrival, message_in, IsOpen, IsHeld, HasEnded, HoldsOn, HasComeTo, HasNotCome}
use Rattle.com_shared.proofs.Making.{leads_here, terminal_at, is_made, settled_active, given_own, given_active, back_own}
use Rattle.com_shared.proofs.Waiting.{few_arrivals}

-- HELD is the terminal's last entry then, and it has as many arrivals as before
pub approaches_held : (net : Net) (call : Call) (v m : PassOf) → IsArrival call → MayArrive net v → m.number ≡ v.number → own m ≡ own v ++ held_entry net v.number ∷ [] → Approaches net call m
approaches_held net (made.Arrive stamp message) v m arrival may number waited =
    let arrivals : (terminal_now m).arrivals ≡ (terminal_now v).arrivals =
    ap (λ (es : List Entry). (terminal_by es).arrivals) waited ∙ ap (λ (t : TerminalState). t.arrivals) (terminal_with (own v) (held_entry net v.number)) in (
      subst (λ (n : ℕ). length net.units ≤ n) (sym number) may.terminal,
      subst (λ (n : ℕ). n < MAX_ARRIVALS) (sym arrivals) may.left,
      (own v, waited ∙ ap (λ (n : ℕ). own v ++ held_entry net n ∷ []) (sym number)),
    )
approaches_held net made.Start v m arrival may number waited = absurd arrival
approaches_held net (made.Receive area kind size no_data) v m arrival may number waited = absurd arrival
approaches_held net (made.Count area) v m arrival may number waited = absurd arrival
approaches_held net (made.Send area part item) v m arrival may number waited = absurd arrival
approaches_held net (made.SwitchInput on terminal area key) v m arrival may number waited = absurd arrival
approaches_held net (made.SwitchOutput on area key) v m arrival may number waited = absurd arrival
approaches_held net made.Held v m arrival may number waited = absurd arrival
approaches_held net (made.Stop reason) v m arrival may number waited = absurd arrival
approaches_held net (made.Finish reason) v m arrival may number waited = absurd arrival

-- a terminal whose message neither comes in nor may be held holds it already
pub holds_already : (place : Place) (call : Call) (v p : PassOf) (b : Log) → IsArrival call → MayArrive place.net v → p.number ≡ v.number → own p ≡ own v → IsAtTurn place p b
    → is_some (step b.state (party_at b.net p.number) call) ≡ false → is_some (step b.state (party_at b.net p.number) made.Held) ≡ false → EndsWith (own v) (held_entry place.net v.number)
holds_already place (made.Arrive stamp message) v p b arrival may number same turn refused unheld = by_mode may.feeds_or_holds
  where
    k : ℕ
    k = p.number - length place.net.units

    by_mode : ((terminal_now v).mode ≡ Feeding) ⊎ EndsWith (own v) (held_entry place.net v.number) → EndsWith (own v) (held_entry place.net v.number)
    by_mode (inr ends) = ends
    by_mode (inl feeds) =
        let many : length place.net.units ≤ p.number = subst (λ (n : ℕ). length place.net.units ≤ n) (sym number) may.terminal in
        let at = terminal_at place p b turn many in
        let mode : (terminal_now p).mode ≡ Feeding = ap (λ (es : List Entry). (terminal_by es).mode) same ∙ feeds in
        let left : (terminal_now p).arrivals < MAX_ARRIVALS = subst (λ (es : List Entry). (terminal_by es).arrivals < MAX_ARRIVALS) (sym same) may.left in
        let few = (let l = left in few_arrivals (terminal_now p).arrivals l) in
        let net : b.state.net ≡ place.net = (told_by_entries place.net (seen p) b.state (leads_here place p b turn)).net in
        let fed : is_some (feed_of b.state.net k) ≡ true = ap (λ (m : Net). is_some (feed_of m k)) net ∙ (ap (λ (n : ℕ). is_some (feed_of place.net (n - length place.net.units))) number ∙ may.route) in
        let goes : is_feeding_or_holding (Some (terminal_now p).mode) ≡ true = ap (λ (m : TerminalMode). is_feeding_or_holding (Some m)) mode in
        let closed : is_path_open b.state k ≡ false =
        sym (ap (λ (z : Party). is_some (step b.state z (made.Arrive stamp message))) at.party_is ∙ arrive_is b.state _ k (terminal_now p) stamp message at.found at.state_is goes few) ∙ refused in
        let held : is_some (step b.state (party_at b.net p.number) made.Held) ≡ not (is_path_open b.state k) =
        ap (λ (z : Party). is_some (step b.state z made.Held)) at.party_is ∙ held_is b.state _ k (terminal_now p) at.found at.state_is mode few fed in
        absurd (false≢true (sym unheld ∙ (held ∙ ap not closed)))
holds_already place made.Start v p b arrival may number same turn refused unheld = absurd arrival
holds_already place (made.Receive area kind size no_data) v p b arrival may number same turn refused unheld = absurd arrival
holds_already place (made.Count area) v p b arrival may number same turn refused unheld = absurd arrival
holds_already place (made.Send area part item) v p b arrival may number same turn refused unheld = absurd arrival
holds_already place (made.SwitchInput on terminal area key) v p b arrival may number same turn refused unheld = absurd arrival
holds_already place (made.SwitchOutput on area key) v p b arrival may number same turn refused unheld = absurd arrival
holds_already place made.Held v p b arrival may number same turn refused unheld = absurd arrival
holds_already place (made.Stop reason) v p b arrival may number same turn refused unheld = absurd arrival
holds_already place (made.Finish reason) v p b arrival may number same turn refused unheld = absurd arrival

-- it approaches then
pub approaches_again : (net : Net) (call : Call) (v m : PassOf) → IsArrival call → MayArrive net v → m.number ≡ v.number → own m ≡ own v → EndsWith (own v) (held_entry net v.number) → Approaches net call m
approaches_again net (made.Arrive stamp message) v m arrival may number same ends = (
  subst (λ (n : ℕ). length net.units ≤ n) (sym number) may.terminal,
  subst (λ (es : List Entry). (terminal_by es).arrivals < MAX_ARRIVALS) (sym same) may.left,
  (ends.0, same ∙ (ends.1 ∙ ap (λ (n : ℕ). ends.0 ++ held_entry net n ∷ []) (sym number))),
)
approaches_again net made.Start v m arrival may number same ends = absurd arrival
approaches_again net (made.Receive area kind size no_data) v m arrival may number same ends = absurd arrival
approaches_again net (made.Count area) v m arrival may number same ends = absurd arrival
approaches_again net (made.Send area part item) v m arrival may number same ends = absurd arrival
approaches_again net (made.SwitchInput on terminal area key) v m arrival may number same ends = absurd arrival
approaches_again net (made.SwitchOutput on area key) v m arrival may number same ends = absurd arrival
approaches_again net made.Held v m arrival may number same ends = absurd arrival
approaches_again net (made.Stop reason) v m arrival may number same ends = absurd arrival
approaches_again net (made.Finish reason) v m arrival may number same ends = absurd arrival

-- what the first turn comes to
pub opens : (place : Place) (active : Bool) (call : Call) (v p : PassOf) (b : Log) → IsAtTurn place p b → own p ≡ own v → p.active ≡ v.active → (v.active ≡ true → active ≡ true) → IsTrue (is_some (step b.state (party_at b.net p.number) call)) → IsOpen place active call v b p
opens place active call v p b turn same act was allowed = record { turn = turn; allowed = allowed; waited = inl same; was = λ on. was (sym act ∙ on) }

pub held_now : (place : Place) (active : Bool) (call : Call) (v p q : PassOf) (b : Log) → IsArrival call → MayArrive place.net v → IsAtTurn place p b → p.number ≡ v.number → own p ≡ own v → IsPass place q → HasSettled b p made.Held active Done q → IsHeld place active call v q
held_now place active call v p q b arrival may turn number same pass s =
    let it : IsMade place.net made.Held Done v q = is_made place v p q b made.Held active Done turn number same s in
    let its_number : q.number ≡ v.number = ap (λ (z : PassOf). z.number) s.pass ∙ number in
    record {
      pass = pass;
      waited = inl it.own_more;
      approaches = approaches_held place.net call v q arrival may its_number it.own_more;
      was = λ on. sym (settled_active p q b made.Held active Done s) ∙ on;
    }

pub held_before : (place : Place) (active : Bool) (call : Call) (v p q : PassOf) (b : Log) → IsArrival call → MayArrive place.net v → IsAtTurn place p b → p.number ≡ v.number → own p ≡ own v → p.active ≡ v.active → (v.active ≡ true → active ≡ true)
    → is_some (step b.state (party_at b.net p.number) call) ≡ false → is_some (step b.state (party_at b.net p.number) made.Held) ≡ false → IsPass place q → q ≡ given_back p → IsHeld place active call v q
held_before place active call v p q b arrival may turn number same act was refused unheld pass back =
    let ends = holds_already place call v p b arrival may number same turn refused unheld in
    let mine : own q ≡ own v = back_own p q back ∙ same in
    let its_number : q.number ≡ v.number = ap (λ (z : PassOf). z.number) back ∙ number in
    record {
      pass = pass;
      waited = inr (mine, ends);
      approaches = approaches_again place.net call v q arrival may its_number mine ends;
      was = λ on. was (sym act ∙ (sym (ap (λ (z : PassOf). z.active) back) ∙ on));
    }

-- what reaching its path comes to
may_have : (wait : Entry) (before after : List Entry) → HasWait wait before after → MayHaveWaited wait before after
may_have wait before after (inl more) = inr more
may_have wait before after (inr same) = inl same.0

arrival_of : (call : Call) → IsArrival call → (stamp : Moment) × (message : RawMessage) × (call ≡ made.Arrive stamp message)
arrival_of (made.Arrive stamp message) arrival = (stamp, message, refl)
arrival_of made.Start arrival = absurd arrival
arrival_of (made.Receive area kind size no_data) arrival = absurd arrival
arrival_of (made.Count area) arrival = absurd arrival
arrival_of (made.Send area part item) arrival = absurd arrival
arrival_of (made.SwitchInput on terminal area key) arrival = absurd arrival
arrival_of (made.SwitchOutput on area key) arrival = absurd arrival
arrival_of made.Held arrival = absurd arrival
arrival_of (made.Stop reason) arrival = absurd arrival
arrival_of (made.Finish reason) arrival = absurd arrival

pub come_to : (place : Place) (active : Bool) (call : Call) (v m w : PassOf) (r : Reached) → IsArrival call → m.number ≡ v.number → HasWait (held_entry place.net v.number) (own v) (own m) → HasReached place active call m r w → HasComeTo place active call v r w
come_to place active call v m w (reached.Allowed book) arrival number waited h = record {
  turn = h.turn;
  allowed = h.allowed;
  waited = subst (λ (es : List Entry). MayHaveWaited (held_entry place.net v.number) (own v) es) (sym h.own_same) (may_have (held_entry place.net v.number) (own v) (own m) waited);
  was = h.was;
}
come_to place active call v m w reached.Idle arrival number waited h =
    let its = arrival_of call arrival in
    let ended : IsMade place.net (made.Finish finish.Idle) Done m w = subst (λ (c : Call). IsMade place.net (idle_call c) Done m w) its.2 h.made in
    let x = ap (λ (n : ℕ). end_entry place.net n) number in
    record {
      pass = h.pass;
      stopped = record { last = (ended.last.0, ended.last.1 ∙ ap (λ (e : Entry). ended.last.0 ++ e ∷ []) x); own_before = own m; waited = waited; own_more = ended.own_more ∙ ap (λ (e : Entry). own m ++ e ∷ []) x };
      idle = h.idle;
      active_is = h.active_is;
    }
come_to place active call v m w reached.RoundOver arrival number waited h =
    let its = arrival_of call arrival in
    record {
      pass = h.pass;
      waited = subst (λ (es : List Entry). HasWait (held_entry place.net v.number) (own v) es) (sym h.own_same) waited;
      over = subst (λ (n : ℕ). IsRoundOver place.net (λ S. is_path_open S (n - length place.net.units)) w) number (subst (λ (c : Call). IsRoundOver place.net (is_there place.net m.number c) w) its.2 h.over);
    }

pub not_come : (place : Place) (active : Bool) (v m w : PassOf) → HasWait (held_entry place.net v.number) (own v) (own m) → HasNotMade place active m w → HasNotCome place active v w
not_come place active v m w waited h = record {
  pass = h.pass;
  waited = subst (λ (es : List Entry). MayHaveWaited (held_entry place.net v.number) (own v) es) (sym h.own_same) (may_have (held_entry place.net v.number) (own v) (own m) waited);
  active_is = h.active_is;
}

pub not_held : (place : Place) (active : Bool) (v p q : PassOf) → own p ≡ own v → IsPass place q → HasGivenBack p active q → HasNotCome place active v q
not_held place active v p q same pass g = record { pass = pass; waited = inl (given_own p q active g ∙ same); active_is = given_active p q active g }

-- the message has arrived
pub arrived_done : (place : Place) (active : Bool) (call : Call) (stamp : Moment) (message : RawMessage) (v p q : PassOf) (b : Log) (n : ℕ) → call ≡ made.Arrive stamp message → IsLater v p → IsOpen place active call v b p → HasSettled b p call active (Arrived n) q
    → IsDone (held_entry place.net v.number) (entry_at place.net v.number (made.Arrive stamp message) (Arrived n)) v q
arrived_done place active call stamp message v p q b n is later h s =
    let m : IsMade place.net call (Arrived n) p q = is_made place p p q b call active (Arrived n) h.turn refl refl s in
    let x : entry_at place.net p.number call (Arrived n) ≡ entry_at place.net v.number (made.Arrive stamp message) (Arrived n) =
    ap (λ (k : ℕ). entry_at place.net k call (Arrived n)) later.number ∙ ap (λ (c : Call). entry_at place.net v.number c (Arrived n)) is in
    record { last = (m.last.0, m.last.1 ∙ ap (λ (e : Entry). m.last.0 ++ e ∷ []) x); own_before = own p; waited = h.waited; own_more = m.own_more ∙ ap (λ (e : Entry). own p ++ e ∷ []) x }

pub not_arrived : (place : Place) (active : Bool) (call : Call) (v p q : PassOf) (b : Log) → IsOpen place active call v b p → HasGivenBack p active q → MayHaveWaited (held_entry place.net v.number) (own v) (own q)
not_arrived place active call v p q b h g = subst (λ (es : List Entry). MayHaveWaited (held_entry place.net v.number) (own v) es) (sym (given_own p q active g)) h.waited
