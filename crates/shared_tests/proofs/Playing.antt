-- What a party's calls leave of it.
use Rattle.std.proofs.Common.{◌≡◌, ℕ, ◌+◌, ◌<◌, Bool, false, List, [], ◌∷◌, ◌++◌, length, Option, refl, ap, sym, ◌∙◌, subst, inl, inr}
use Rattle.com_msg.specs.declared.rest.Kind.TheVariants.{Message}
use Rattle.com_msg.specs.declared.sending.Part.{Part}
use Rattle.com_net.specs.declared.net.Net.{Net}
use Rattle.com_events.specs.declared.call.Call.{Call}
use Rattle.com_events.specs.declared.call.Call.TheVariants as made
use Rattle.com_events.specs.declared.reply.Reply.{Reply}
use Rattle.com_events.specs.declared.entry.Entry.{Entry}
use Rattle.com_state.specs.declared.parties.TheConstants.{MAX_VERBS}
use Rattle.com_state.specs.declared.parties.UnitMode.TheVariants.{Running}
use Rattle.com_state.specs.declared.parties.UnitState.{UnitState}
use Rattle.com_state.specs.Parties.{unit_by, after_unit_call, with_verb_done}
use Rattle.com_state.proofs.Awaiting.{unit_with}
use Rattle.com_shared.specs.Passes.{Place, PassOf, IsPass, IsLater, IsMade, MayDoVerb, MayStop, own, unit_now, entry_at, EndsWith}
use Rattle.com_shared.specs.Waits.{MayStart, waits_entry, HasStarted, HasReceived, IsDone, HasWait, MayHaveWaited}
use Rattle.com_shared.specs.declared.start.Started.TheVariants as started
use Rattle.com_shared.specs.declared.receive.Received.{Received}
use Rattle.com_shared.specs.declared.receive.Received.TheVariants as received
use Rattle.shared_tests.specs.Playing.{GoesOn, Sleeps, Runs, Receives, HasTaken}

pub goes_on : (place : Place) (v w : PassOf) → IsPass place w → IsLater v w → GoesOn place v w
goes_on place v w ours later = record { ours = ours; number = later.number }

still_unit : (net : Net) (v w : PassOf) → w.number ≡ v.number → v.number < length net.units → w.number < length net.units
still_unit net v w number few = subst (λ (n : ℕ). n < length net.units) (sym number) few

-- a unit after one entry more
after_made : (net : Net) (call : Call) (r : Reply) (v w : PassOf) → IsMade net call r v w → unit_now w ≡ after_unit_call (unit_now v) call r
after_made net call r v w h = ap unit_by h.own_more ∙ unit_with (own v) (entry_at net v.number call r)

-- START
pub may_start : (place : Place) (v : PassOf) → Sleeps place v → MayStart place.net v
may_start place v h = record { unit = h.unit; sleeps = ap (λ (u : UnitState). u.mode) h.opening }

starts : (place : Place) (v w : PassOf) (r : Reply) → Sleeps place v → IsPass place w → IsLater v w → IsMade place.net made.Start r v w → Runs place 0 w
starts place v w r h ours later h' = record {
  ours = ours;
  unit = still_unit place.net v w later.number h.unit;
  running = after_made place.net made.Start r v w h' ∙ ap (λ (u : UnitState). let n : UnitState = record u { mode = Running } in n) h.opening;
}

pub starts_plain : (place : Place) (v w : PassOf) → Sleeps place v → IsPass place w → IsLater v w → HasStarted place.net v started.Plain w → Runs place 0 w
starts_plain place v w h ours later s = starts place v w _ h ours later s.0

pub starts_named : (place : Place) (v w : PassOf) (names : List ℕ) → Sleeps place v → IsPass place w → IsLater v w → HasStarted place.net v (started.Named names) w → Runs place 0 w
starts_named place v w names h ours later s = starts place v w _ h ours later s.0

-- what makes no entry leaves a unit as it was
pub runs_still : (place : Place) (n : ℕ) (v w : PassOf) → Runs place n v → GoesOn place v w → own w ≡ own v → Runs place n w
runs_still place n v w h on same = record {
  ours = on.ours;
  unit = still_unit place.net v w on.number h.unit;
  running = ap unit_by same ∙ h.running;
}

-- RECEIVE
pub may_receive : (place : Place) (n : ℕ) (area : List ℕ) (v : PassOf) → n < MAX_VERBS → Runs place n v → Receives place n area v
may_receive place n area v few h =
    let verbs : (unit_now v).verbs ≡ n = ap (λ (u : UnitState). u.verbs) h.running in
    record {
      ours = h.ours;
      may = record {
        unit = h.unit;
        left = subst (λ (k : ℕ). k < MAX_VERBS) (sym verbs) few;
        runs_or_waits = inl (ap (λ (u : UnitState). u.mode) h.running);
      };
      verbs = verbs;
    }

-- the wait is no verb
verbs_still : (net : Net) (k : ℕ) (area : List ℕ) (before after : List Entry) → MayHaveWaited (waits_entry net k area Message 20) before after → (unit_by after).verbs ≡ (unit_by before).verbs
verbs_still net k area before after (inl same) = ap (λ (es : List Entry). (unit_by es).verbs) same
verbs_still net k area before after (inr more) = ap (λ (es : List Entry). (unit_by es).verbs) more ∙ ap (λ (u : UnitState). u.verbs) (unit_with before (waits_entry net k area Message 20))

done_runs : (place : Place) (n : ℕ) (area : List ℕ) (entry : Entry) (v w : PassOf) → Receives place n area v → IsPass place w → IsLater v w → IsDone (waits_entry place.net v.number area Message 20) entry v w
    → ((u : UnitState) → after_unit_call u entry.call entry.reply ≡ with_verb_done u) → Runs place (n + 1) w
done_runs place n area entry v w h ours later done verb =
    let verbs : (unit_by done.own_before).verbs ≡ n = verbs_still place.net v.number area (own v) done.own_before done.waited ∙ h.verbs in
    record {
      ours = ours;
      unit = still_unit place.net v w later.number h.may.unit;
      running = ap unit_by done.own_more ∙ (unit_with done.own_before entry ∙ (verb (unit_by done.own_before) ∙ ap (λ (k : ℕ). let u : UnitState = record { mode = Running; verbs = k + 1 } in u) verbs));
    }

waits_again : (place : Place) (n : ℕ) (area : List ℕ) (v w : PassOf) → Receives place n area v → IsPass place w → IsLater v w → HasWait (waits_entry place.net v.number area Message 20) (own v) (own w) → Receives place n area w
waits_again place n area v w h ours later waited =
    let verbs : (unit_now w).verbs ≡ (unit_now v).verbs = verbs_still place.net v.number area (own v) (own w) (may_have waited) in
    record {
      ours = ours;
      may = record {
        unit = still_unit place.net v w later.number h.may.unit;
        left = subst (λ (k : ℕ). k < MAX_VERBS) (sym verbs) h.may.left;
        runs_or_waits = inr (refl, at_end waited);
      };
      verbs = verbs ∙ h.verbs;
    }
  where
    wait : Entry
    wait = waits_entry place.net v.number area Message 20

    may_have : HasWait wait (own v) (own w) → MayHaveWaited wait (own v) (own w)
    may_have (inl more) = inr more
    may_have (inr same) = inl same.0

    its_number : EndsWith (own w) wait → EndsWith (own w) (waits_entry place.net w.number area Message 20)
    its_number e = (e.0, e.1 ∙ ap (λ (k : ℕ). e.0 ++ waits_entry place.net k area Message 20 ∷ []) (sym later.number))

    at_end : HasWait wait (own v) (own w) → EndsWith (own w) (waits_entry place.net w.number area Message 20)
    at_end (inl more) = its_number (own v, more)
    at_end (inr same) = its_number (same.1.0, same.0 ∙ same.1.1)

pub taken : (place : Place) (n : ℕ) (area left : List ℕ) (r : Received) (v w : PassOf) → Receives place n area v → IsPass place w → IsLater v w → HasReceived place.net area Message 20 false v r left w → HasTaken place n r left w
taken place n area left (received.Given text) v w h ours later s = done_runs place n area _ v w h ours later s.0 (λ u. refl)
taken place n area left received.NoData v w h ours later s = done_runs place n area _ v w h ours later s.0 (λ u. refl)
taken place n area left received.Refused v w h ours later s = done_runs place n area _ v w h ours later s.0 (λ u. refl)
taken place n area left received.Idle v w h ours later s = ours
taken place n area left received.RoundOver v w h ours later s = subst (λ (a : List ℕ). Receives place n a w) (sym s.2) (waits_again place n area v w h ours later s.0)

-- COUNT, SEND, ENABLE and DISABLE, and STOP
pub may_do_verb : (place : Place) (n : ℕ) (v : PassOf) → n < MAX_VERBS → Runs place n v → MayDoVerb place.net v
may_do_verb place n v few h = record {
  unit = h.unit;
  runs = ap (λ (u : UnitState). u.mode) h.running;
  left = subst (λ (k : ℕ). k < MAX_VERBS) (sym (ap (λ (u : UnitState). u.verbs) h.running)) few;
}

pub may_stop : (place : Place) (n : ℕ) (v : PassOf) → Runs place n v → MayStop place.net v
may_stop place n v h = record { unit = h.unit; runs = ap (λ (u : UnitState). u.mode) h.running }

verb_done : (place : Place) (n : ℕ) (call : Call) (r : Reply) (v w : PassOf) → Runs place n v → IsPass place w → IsLater v w → IsMade place.net call r v w → after_unit_call (unit_now v) call r ≡ with_verb_done (unit_now v) → Runs place (n + 1) w
verb_done place n call r v w h ours later done verb = record {
  ours = ours;
  unit = still_unit place.net v w later.number h.unit;
  running = after_made place.net call r v w done ∙ (verb ∙ ap (λ (u : UnitState). let m : UnitState = record { mode = Running; verbs = u.verbs + 1 } in m) h.running);
}

pub counted : (place : Place) (n : ℕ) (area : List ℕ) (r : Reply) (v w : PassOf) → Runs place n v → IsPass place w → IsLater v w → IsMade place.net (made.Count area) r v w → Runs place (n + 1) w
counted place n area r v w h ours later done = verb_done place n _ r v w h ours later done refl

pub sent : (place : Place) (n : ℕ) (area : List ℕ) (part : Part) (item : Option (List ℕ)) (r : Reply) (v w : PassOf) → Runs place n v → IsPass place w → IsLater v w → IsMade place.net (made.Send area part item) r v w → Runs place (n + 1) w
sent place n area part item r v w h ours later done = verb_done place n _ r v w h ours later done refl

pub switched : (place : Place) (n : ℕ) (on : Bool) (area key : List ℕ) (r : Reply) (v w : PassOf) → Runs place n v → IsPass place w → IsLater v w → IsMade place.net (made.SwitchOutput on area key) r v w → Runs place (n + 1) w
switched place n on area key r v w h ours later done = verb_done place n _ r v w h ours later done refl

pub ruleset playing = (goes_on, may_start, starts_plain, starts_named, may_receive, taken, may_do_verb, may_stop, counted, sent, switched)

pub ruleset still = (runs_still)
