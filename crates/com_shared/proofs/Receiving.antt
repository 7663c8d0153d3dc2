-- How the looks of a RECEIVE add up.
use Rattle.std.proofs.Common.{◌≡◌, ℕ, ◌<◌, Bool, true, false, List, [], ◌∷◌, ◌++◌, length, Option, Some, None, refl, ap, sym, ◌∙◌, subst, inl, inr}
use Rattle.std.specs.Prelude.{◌⊎◌, option_map, slice_get}
use Rattle.std.proofs.lemmas.Bool.{false≢true}
use Rattle.com_msg.specs.declared.rest.Kind.{Kind}
use Rattle.com_net.specs.declared.net.Net.{Net}
use Rattle.com_events.specs.declared.call.Party.{Party}
use Rattle.com_events.specs.declared.call.Party.TheVariants as party
use Rattle.com_events.specs.declared.call.Call.{Call}
use Rattle.com_events.specs.declared.call.Call.TheVariants as made
use Rattle.com_events.specs.declared.call.StopReason.TheVariants as stop
use Rattle.com_events.specs.declared.reply.Reply.{Reply}
use Rattle.com_events.specs.declared.reply.Reply.TheVariants.{Started as StartedReply, Given as GivenReply, NoData as NoDataReply, Refused as RefusedReply, Waits, AreaIn as AreaInReply, AreaOut as AreaOutReply, Arrived as ArrivedReply, Done}
use Rattle.com_events.specs.declared.entry.Entry.{Entry}
use Rattle.com_state.specs.declared.parties.TheConstants.{MAX_VERBS}
use Rattle.com_state.specs.declared.parties.UnitMode.{UnitMode}
use Rattle.com_state.specs.declared.parties.UnitMode.TheVariants.{Dormant, Running, WaitingFor, Stopped}
use Rattle.com_state.specs.declared.parties.UnitState.{UnitState}
use Rattle.com_state.specs.State.{State}
use Rattle.com_state.specs.Answers.{is_ready}
use Rattle.com_state.specs.Steps.{step, is_running}
use Rattle.com_state.specs.Parties.{unit_by}
use Rattle.com_state.proofs.Awaiting.{unit_with}
use Rattle.com_state.proofs.Replying.{waits_only, no_data_only}
use Rattle.com_shared.specs.declared.receive.Received.{Received}
use Rattle.com_shared.specs.declared.receive.Received.TheVariants as received
use Rattle.com_shared.specs.Parties.{party_at}
use Rattle.com_shared.specs.Passes.{Log, Place, PassOf, own, IsLater, EndsWith, entry_at, unit_now, IsMade, WasIdle, IsRoundOver}
use Rattle.com_shared.specs.Waits.{waits_entry, stop_entry, IsDone, IsStopped, MayReceive, HasReceived, HasNotReceived}
use Rattle.com_shared.specs.inner.Turns.{HasSettled}
use Rattle.com_shared.specs.inner.Waits.{IsAllowed, Approaches}
use Rattle.com_shared.specs.inner.Receiving.{HasLooked, HasNotLooked, area_left, received_in}
use Rattle.com_shared.proofs.Making.{unit_at, settled_active}
use Rattle.com_shared.proofs.Waiting.{mode_of_wait, allowed_made}

-- a RECEIVE approaches where it may be made
pub may_approach : (net : Net) (area : List ℕ) (kind : Kind) (size : ℕ) (no_data : Bool) (v : PassOf) → MayReceive net area kind size no_data v → Approaches net (made.Receive area kind size no_data) v
may_approach net area kind size no_data v may = (may.unit, may.left, may.runs_or_waits)

runs_only : (mode : UnitMode) → is_running (Some mode) ≡ true → mode ≡ Running
runs_only Running h = refl
runs_only Dormant h = absurd (false≢true h)
runs_only (WaitingFor area kind size) h = absurd (false≢true h)
runs_only Stopped h = absurd (false≢true h)

-- WAITS tells that the unit ran, and that NO DATA is not written
pub looked_waits : (place : Place) (active : Bool) (area : List ℕ) (kind : Kind) (size : ℕ) (no_data : Bool) (v p q : PassOf) (b : Log) → v.number < length place.net.units → IsLater v p → IsAllowed place active (made.Receive area kind size no_data) v b p
    → HasSettled b p (made.Receive area kind size no_data) active Waits q → ((unit_now v).mode ≡ Running) × (no_data ≡ false) × IsMade place.net (made.Receive area kind size false) Waits v q
looked_waits place active area kind size no_data v p q b few later h s =
    let low : p.number < length place.net.units = subst (λ (n : ℕ). n < length place.net.units) (sym later.number) few in
    let at = unit_at place p b h.turn low in
    let told = waits_only b.state _ p.number area kind size no_data s.next at.found (ap (λ (z : Party). step b.state z (made.Receive area kind size no_data)) (sym at.party_is) ∙ s.step) in
    let mode : is_running (Some (unit_now p).mode) ≡ true = ap (λ (o : Option UnitState). is_running (option_map (λ (u : UnitState). u.mode) o)) (sym at.state_is) ∙ told.0 in (
      ap (λ (es : List Entry). (unit_by es).mode) (sym h.own_same) ∙ runs_only (unit_now p).mode mode,
      told.1,
      subst (λ x. IsMade place.net (made.Receive area kind size x) Waits v q) told.1 (allowed_made place active (made.Receive area kind size no_data) v p q b Waits later h s),
    )

-- that there is no data tells that NO DATA is written
pub looked_none : (place : Place) (active : Bool) (area left : List ℕ) (kind : Kind) (size : ℕ) (no_data : Bool) (v p q : PassOf) (b : Log) → v.number < length place.net.units → IsLater v p → IsAllowed place active (made.Receive area kind size no_data) v b p
    → HasSettled b p (made.Receive area kind size no_data) active (NoDataReply left) q → no_data ≡ true
looked_none place active area left kind size no_data v p q b few later h s =
    let low : p.number < length place.net.units = subst (λ (n : ℕ). n < length place.net.units) (sym later.number) few in
    let at = unit_at place p b h.turn low in
    no_data_only b.state _ p.number area left kind size no_data s.next at.found (ap (λ (z : Party). step b.state z (made.Receive area kind size no_data)) (sym at.party_is) ∙ s.step)

-- what a look comes to where the call is allowed
pub has_looked : (place : Place) (active : Bool) (area : List ℕ) (kind : Kind) (size : ℕ) (no_data : Bool) (call : Call) (v p q : PassOf) (b : Log) (reply : Reply) → call ≡ made.Receive area kind size no_data → v.number < length place.net.units → IsLater v p
    → IsAllowed place active call v b p → HasSettled b p call active reply q → HasLooked place.net active area kind size no_data v (received_in reply) (area_left reply area) q
has_looked place active area kind size no_data call v p q b reply is few later allowed settled =
    by_reply reply (subst (λ (c : Call). IsAllowed place active c v b p) is allowed) (subst (λ (c : Call). HasSettled b p c active reply q) is settled)
  where
    by_reply : (reply : Reply) → IsAllowed place active (made.Receive area kind size no_data) v b p → HasSettled b p (made.Receive area kind size no_data) active reply q → HasLooked place.net active area kind size no_data v (received_in reply) (area_left reply area) q
    by_reply (GivenReply left text) h s = (allowed_made place active _ v p q b _ later h s, settled_active p q b _ active _ s)
    by_reply (NoDataReply left) h s = (allowed_made place active _ v p q b _ later h s, looked_none place active area left kind size no_data v p q b few later h s, settled_active p q b _ active _ s)
    by_reply (RefusedReply left) h s = (allowed_made place active _ v p q b _ later h s, settled_active p q b _ active _ s)
    by_reply Waits h s =
        let told = looked_waits place active area kind size no_data v p q b few later h s in
        (told.0, told.1, told.2, refl, settled_active p q b _ active _ s)
    by_reply (StartedReply names) h s = absurd s.replies
    by_reply (AreaInReply left) h s = absurd s.replies
    by_reply (AreaOutReply left) h s = absurd s.replies
    by_reply (ArrivedReply number) h s = absurd s.replies
    by_reply Done h s = absurd s.replies

-- the first look did it, or the second
pub first_done : (net : Net) (wait : Entry) (call : Call) (reply : Reply) (v w : PassOf) → IsMade net call reply v w → IsDone wait (entry_at net v.number call reply) v w
first_done net wait call reply v w h = record { last = h.last; own_before = own v; waited = inl refl; own_more = h.own_more }

pub second_done : (net : Net) (wait : Entry) (call : Call) (reply : Reply) (v m w : PassOf) → own m ≡ own v ++ wait ∷ [] → m.number ≡ v.number → IsMade net call reply m w → IsDone wait (entry_at net v.number call reply) v w
second_done net wait call reply v m w waited number h =
    let x = ap (λ (n : ℕ). entry_at net n call reply) number in
    record { last = (h.last.0, h.last.1 ∙ ap (λ (e : Entry). h.last.0 ++ e ∷ []) x); own_before = own m; waited = inr waited; own_more = h.own_more ∙ ap (λ (e : Entry). own m ++ e ∷ []) x }

first_stopped : (net : Net) (wait : Entry) (call : Call) (reply : Reply) (v w : PassOf) → EndsWith (own v) wait → IsMade net call reply v w → IsStopped wait (entry_at net v.number call reply) v w
first_stopped net wait call reply v w ends h = record { last = h.last; own_before = own v; waited = inr (refl, ends); own_more = h.own_more }

second_stopped : (net : Net) (wait : Entry) (call : Call) (reply : Reply) (v m w : PassOf) → own m ≡ own v ++ wait ∷ [] → m.number ≡ v.number → IsMade net call reply m w → IsStopped wait (entry_at net v.number call reply) v w
second_stopped net wait call reply v m w waited number h =
    let x = ap (λ (n : ℕ). entry_at net n call reply) number in
    record { last = (h.last.0, h.last.1 ∙ ap (λ (e : Entry). h.last.0 ++ e ∷ []) x); own_before = own m; waited = inl waited; own_more = h.own_more ∙ ap (λ (e : Entry). own m ++ e ∷ []) x }

pub received_first : (net : Net) (active : Bool) (area : List ℕ) (kind : Kind) (size : ℕ) (no_data : Bool) (v w : PassOf) (r : Received) (left : List ℕ) → active ≡ v.active
    → HasLooked net active area kind size no_data v (Some r) left w → HasReceived net area kind size no_data v r left w
received_first net active area kind size no_data v w (received.Given text) left same (made, act) = (first_done net _ _ _ v w made, act ∙ same)
received_first net active area kind size no_data v w received.NoData left same (made, none, act) = (first_done net _ _ _ v w made, none, act ∙ same)
received_first net active area kind size no_data v w received.Refused left same (made, act) = (first_done net _ _ _ v w made, act ∙ same)
received_first net active area kind size no_data v w received.Idle left same (ends, made, idle, back, act) = (first_stopped net _ _ _ v w ends made, idle, back, act ∙ same)
received_first net active area kind size no_data v w received.RoundOver left same (ends, mine, over, back) = (inr (mine, ends), over, back)

pub received_second : (net : Net) (active : Bool) (area mid : List ℕ) (kind : Kind) (size : ℕ) (no_data : Bool) (v m w : PassOf) (r : Received) (left : List ℕ) → active ≡ v.active → m.number ≡ v.number
    → HasLooked net active area kind size no_data v None mid m → HasLooked net active mid kind size no_data m (Some r) left w → HasReceived net area kind size no_data v r left w
received_second net active area mid kind size no_data v m w r left same number (runs, plain, waits, back, act) second = by_received r (subst (λ (a : List ℕ). HasLooked net active a kind size no_data m (Some r) left w) back second)
  where
    by_received : (r : Received) → HasLooked net active area kind size no_data m (Some r) left w → HasReceived net area kind size no_data v r left w
    by_received (received.Given text) (made, act) = (second_done net _ _ _ v m w waits.own_more number made, act ∙ same)
    by_received received.NoData (made, none, act) = (second_done net _ _ _ v m w waits.own_more number made, none, act ∙ same)
    by_received received.Refused (made, act) = (second_done net _ _ _ v m w waits.own_more number made, act ∙ same)
    by_received received.Idle (ends, made, idle, back, act) = (second_stopped net _ _ _ v m w waits.own_more number made, idle, back, act ∙ same)
    by_received received.RoundOver (ends, mine, over, back) = (inl (mine ∙ waits.own_more), subst (λ (n : ℕ). IsRoundOver net (λ S. is_ready S n area) w) number over, back)

-- the second look does not wait once more
pub never_twice : (net : Net) (active : Bool) (area mid left : List ℕ) (kind : Kind) (size : ℕ) (no_data : Bool) (v m w : PassOf) → m.number ≡ v.number → HasLooked net active area kind size no_data v None mid m → HasLooked net active mid kind size no_data m None left w → ⊥
never_twice net active area mid left kind size no_data v m w number (runs, plain, waits, back, act) (again, no_more, waited, kept, still) =
    let ends : EndsWith (own m) (entry_at net m.number (made.Receive area kind size false) Waits) = (own v, waits.own_more ∙ ap (λ (n : ℕ). own v ++ entry_at net n (made.Receive area kind size false) Waits ∷ []) (sym number)) in
    false≢true (ap (λ (x : UnitMode). is_running (Some x)) (sym (mode_of_wait net m area kind size ends) ∙ again))

pub may_again : (net : Net) (active : Bool) (area mid : List ℕ) (kind : Kind) (size : ℕ) (no_data : Bool) (v m : PassOf) → m.number ≡ v.number → MayReceive net area kind size no_data v → HasLooked net active area kind size no_data v None mid m → MayReceive net mid kind size no_data m
may_again net active area mid kind size no_data v m number may (runs, plain, waits, back, act) =
    let verbs : (unit_now m).verbs ≡ (unit_now v).verbs =
    ap (λ (es : List Entry). (unit_by es).verbs) waits.own_more ∙ ap (λ (u : UnitState). u.verbs) (unit_with (own v) (entry_at net v.number (made.Receive area kind size false) Waits)) in
    subst (λ (a : List ℕ). MayReceive net a kind size no_data m) (sym back) record {
      unit = subst (λ (n : ℕ). n < length net.units) (sym number) may.unit;
      left = subst (λ (n : ℕ). n < MAX_VERBS) (sym verbs) may.left;
      runs_or_waits = inr (plain, (own v, waits.own_more ∙ ap (λ (n : ℕ). own v ++ entry_at net n (made.Receive area kind size false) Waits ∷ []) (sym number)));
    }

-- without memory
pub not_first : (net : Net) (active : Bool) (area : List ℕ) (kind : Kind) (size : ℕ) (v w : PassOf) (left : List ℕ) → active ≡ v.active → HasNotLooked active area v left w → HasNotReceived net area kind size v left w
not_first net active area kind size v w left same (mine, back, act) = (inl mine, back, act ∙ same)

pub not_second : (net : Net) (active : Bool) (area mid : List ℕ) (kind : Kind) (size : ℕ) (no_data : Bool) (v m w : PassOf) (left : List ℕ) → active ≡ v.active → HasLooked net active area kind size no_data v None mid m → HasNotLooked active mid m left w → HasNotReceived net area kind size v left w
not_second net active area mid kind size no_data v m w left same (runs, plain, waits, kept, act) (mine, back, still) = (inr (mine ∙ waits.own_more), back ∙ kept, still ∙ same)
