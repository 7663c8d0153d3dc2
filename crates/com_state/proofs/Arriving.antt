-- The accounts are kept where nothing changes, where a message arrives and where a unit stops.
use Rattle.std.proofs.Common.{◌≡◌, ◌≢◌, ℕ, ◌+◌, ◌<◌, true, false, not, cond, List, [], ◌∷◌, ◌++◌, Some, length, map, refl, sym, ap, ◌∙◌, inl, inr, arith, subst, eq-eqb, append_assoc, length-append}
use Rattle.std.specs.Prelude.{◌==◌}
use Rattle.std.specs.List.{filter, concat}
use Rattle.std.proofs.lemmas.Bool.{ne_eqb, cases_eq, not_from_false}
use Rattle.std.proofs.lemmas.Option.{slice_get_within}
use Rattle.std.proofs.lemmas.List.{append-nil, map-append}
use Rattle.std.proofs.lemmas.List.Elements.{filter-append}
use Rattle.com_msg.specs.declared.message.RawMessage.{RawMessage}
use Rattle.com_net.specs.declared.net.Net.{Net}
use Rattle.com_state.specs.Wholeness.{HandedOut, Arrival, each_once, numbers_on, IsWholeMessage}
use Rattle.com_state.proofs.Places.{get_last, get_cases}
use Rattle.com_state.proofs.Stays.{StayStopped}
use Rattle.com_state.proofs.Changes.{SameStore, Comes, Stops, arrival_of}
use Rattle.com_state.proofs.Firsts.{AreApart, waiting_on, apart_push}
use Rattle.com_state.proofs.Accounts.{Accounts, AreNumbered, IsFresh, IsOneEach, AreWhole, AreInOrder, portions_in, handed_on, rest_grown, whole_stays, left_stays, none_new, arrived_grown}
use Rattle.com_state.specs.State.{State, unit_mode}
use Rattle.com_state.specs.declared.parties.UnitMode.TheVariants.{Stopped}
use Rattle.com_recv.specs.declared.lists.Waiting.{Waiting}
use Rattle.com_recv.specs.declared.lists.Held.{Held}
use Rattle.com_recv.proofs.Members.{Among, among_cases, among_filter, filter_among}

-- nothing is lost where what is held stays
whole_held : (S next : State) (arrivals : List Arrival) (handed : List HandedOut) → next.incoming.held ≡ S.incoming.held → StayStopped S next → AreWhole S arrivals handed → AreWhole next arrivals handed
whole_held S next arrivals handed same stay whole = λ n arrival at.
    whole_stays S next arrival.number arrival.message (portions_in handed arrival.number)
    (λ unit. left_stays S next unit arrival.number (stay unit) (λ h among of_unit of_number. inl (subst (Among h) (sym same) among))) (whole n arrival at)

-- nothing changes
pub quiet_kept : (network : Net) (arrivals : List Arrival) (handed : List HandedOut) (S next : State) → next.net ≡ S.net → StayStopped S next → SameStore S next
    → Accounts network arrivals handed S → Accounts network arrivals handed next
quiet_kept network arrivals handed S next net stay same acc =
    let waiting : next.incoming.waiting ≡ S.incoming.waiting = ap (λ incoming. incoming.waiting) same.incoming in
    let held : next.incoming.held ≡ S.incoming.held = ap (λ incoming. incoming.held) same.incoming in
    record {
      net = net ∙ acc.net;
      count = same.arrivals ∙ acc.count;
      numbered = acc.numbered;
      waiting = λ w among. acc.waiting w (subst (Among w) waiting among);
      apart = subst AreApart (sym waiting) acc.apart;
      held = λ h among. acc.held h (subst (Among h) held among);
      one_each = subst IsOneEach (sym held) acc.one_each;
      arrived = acc.arrived;
      whole = whole_held S next arrivals handed held stay acc.whole;
      order = subst (AreInOrder arrivals handed) (sym waiting) acc.order;
    }

-- a message that has arrived is fresh
fresh_new : (network : Net) (arrivals : List Arrival) (handed : List HandedOut) (S : State) (w : Waiting) (message : RawMessage) → Accounts network arrivals handed S
    → w.message.arrival ≡ length arrivals + 1 → w.message.segments ≡ message.segments → IsFresh (arrivals ++ arrival_of w message ∷ []) handed w
fresh_new network arrivals handed S w message acc number segments = (
  none_new handed (length arrivals) w.message.arrival acc.arrived (omega (arith, number)),
  λ unit. record {
    place = length arrivals;
    message = message;
    number = number;
    arrived = get_last arrivals (arrival_of w message) ∙ ap (λ n. Some (record { number = n; leaf = w.leaf.number; message = message })) number;
    one_unit = refl;
    one_leaf = refl;
    unended = refl;
    text = ap concat segments;
  },
)

-- what waits has a lower number than what arrives
fresh_lower : (arrivals : List Arrival) (handed : List HandedOut) (w : Waiting) → IsFresh arrivals handed w → w.message.arrival < length arrivals + 1
fresh_lower arrivals handed w fresh =
    let rest = fresh.1 0 in
    let within = slice_get_within arrivals rest.place (record { number = rest.place + 1; leaf = w.leaf.number; message = rest.message }) rest.arrived in
    omega (arith, rest.number, within)

-- what waits stays fresh when another message arrives
fresh_grown : (arrivals more : List Arrival) (handed : List HandedOut) (w : Waiting) → IsFresh arrivals handed w → IsFresh (arrivals ++ more) handed w
fresh_grown arrivals more handed w fresh = (fresh.0, λ unit. rest_grown arrivals more [] unit w.leaf.number w.message (fresh.1 unit))

-- the new message has no portion
whole_grown : (network : Net) (arrivals : List Arrival) (handed : List HandedOut) (S next : State) (new : Arrival) → Accounts network arrivals handed S → new.number ≡ length arrivals + 1
    → AreWhole next arrivals handed → AreWhole next (arrivals ++ new ∷ []) handed
whole_grown network arrivals handed S next new acc number whole = λ n arrival got. elim (get_cases arrivals new n arrival got) [
  | inl before ↦ whole n arrival before
  | inr last ↦
      let same : arrival.number ≡ length arrivals + 1 = ap (λ (a : Arrival). a.number) (sym last.1) ∙ number in
      let none : portions_in handed arrival.number ≡ [] = none_new handed (length arrivals) arrival.number acc.arrived (omega (arith, same)) in
      subst (IsWholeMessage next arrival.number arrival.message) (sym none) tt
]

-- the arrivals stay numbered
numbered_grown : (arrivals : List Arrival) (new : Arrival) → new.number ≡ length arrivals + 1 → AreNumbered arrivals → AreNumbered (arrivals ++ new ∷ [])
numbered_grown arrivals new number numbered = λ n arrival got. elim (get_cases arrivals new n arrival got) [
  | inl before ↦ numbered n arrival before
  | inr last ↦ ap (λ (a : Arrival). a.number) (sym last.1) ∙ (number ∙ ap (λ m. m + 1) (sym last.0))
]

-- the numbers of a leaf, with one more arrival on it, and on another
numbers_here : (leaf : ℕ) (arrivals : List Arrival) (new : Arrival) → new.leaf ≡ leaf → numbers_on leaf (arrivals ++ new ∷ []) ≡ numbers_on leaf arrivals ++ new.number ∷ []
numbers_here leaf arrivals new here =
    let on = λ (a : Arrival). a.leaf == leaf in
    let number = λ (a : Arrival). a.number in
    let passes : (new.leaf == leaf) ≡ true = eq-eqb new.leaf leaf here in
    ap (map number) (filter-append on arrivals (new ∷ []) ∙ ap (λ b. filter on arrivals ++ cond b (new ∷ []) []) passes) ∙ map-append number (filter on arrivals) (new ∷ [])

numbers_elsewhere : (leaf : ℕ) (arrivals : List Arrival) (new : Arrival) → new.leaf ≢ leaf → numbers_on leaf (arrivals ++ new ∷ []) ≡ numbers_on leaf arrivals
numbers_elsewhere leaf arrivals new ne =
    let on = λ (a : Arrival). a.leaf == leaf in
    let number = λ (a : Arrival). a.number in
    let fails : (new.leaf == leaf) ≡ false = ne_eqb new.leaf leaf ne in
    ap (map number) (filter-append on arrivals (new ∷ []) ∙ (ap (λ b. filter on arrivals ++ cond b (new ∷ []) []) fails ∙ append-nil (filter on arrivals)))

-- the new message waits on its leaf after the others
on_behind : (leaf : ℕ) (waiting : List Waiting) (w : Waiting) → w.leaf.number ≡ leaf → waiting_on leaf (waiting ++ w ∷ []) ≡ waiting_on leaf waiting ++ w.message.arrival ∷ []
on_behind leaf waiting w here =
    let on = λ (w : Waiting). w.leaf.number == leaf in
    let number = λ (w : Waiting). w.message.arrival in
    let passes : (w.leaf.number == leaf) ≡ true = eq-eqb w.leaf.number leaf here in
    ap (map number) (filter-append on waiting (w ∷ []) ∙ ap (λ b. filter on waiting ++ cond b (w ∷ []) []) passes) ∙ map-append number (filter on waiting) (w ∷ [])

-- and on no other leaf
on_beside : (leaf : ℕ) (waiting : List Waiting) (w : Waiting) → w.leaf.number ≢ leaf → waiting_on leaf (waiting ++ w ∷ []) ≡ waiting_on leaf waiting
on_beside leaf waiting w ne =
    let on = λ (w : Waiting). w.leaf.number == leaf in
    let number = λ (w : Waiting). w.message.arrival in
    let fails : (w.leaf.number == leaf) ≡ false = ne_eqb w.leaf.number leaf ne in
    ap (map number) (filter-append on waiting (w ∷ []) ∙ (ap (λ b. filter on waiting ++ cond b (w ∷ []) []) fails ∙ append-nil (filter on waiting)))

-- it comes last in the order of its leaf
order_grown : (arrivals : List Arrival) (handed : List HandedOut) (waiting : List Waiting) (w : Waiting) (message : RawMessage)
    → AreInOrder arrivals handed waiting → AreInOrder (arrivals ++ arrival_of w message ∷ []) handed (waiting ++ w ∷ [])
order_grown arrivals handed waiting w message order = λ leaf.
    let front = each_once (handed_on leaf handed) in
    elim (cases_eq w.leaf.number leaf) [
      | inl here ↦
          ap (λ behind. front ++ behind) (on_behind leaf waiting w here) ∙ (sym (append_assoc front (waiting_on leaf waiting) (w.message.arrival ∷ []))
          ∙ (ap (λ all. all ++ w.message.arrival ∷ []) (order leaf) ∙ sym (numbers_here leaf arrivals (arrival_of w message) here)))
      | inr ne ↦ ap (λ behind. front ++ behind) (on_beside leaf waiting w ne) ∙ (order leaf ∙ sym (numbers_elsewhere leaf arrivals (arrival_of w message) ne))
    ]

-- a message arrives
pub come_kept : (network : Net) (arrivals : List Arrival) (handed : List HandedOut) (S next : State) (brought : List Arrival) → next.net ≡ S.net → StayStopped S next
    → (come : Comes S next brought) → Accounts network arrivals handed S → Accounts network (arrivals ++ arrival_of come.here come.message ∷ []) handed next
come_kept network arrivals handed S next brought net stay come acc =
    let w = come.here in
    let new : Arrival = arrival_of w come.message in
    let number : w.message.arrival ≡ length arrivals + 1 = come.number ∙ ap (λ n. n + 1) acc.count in
    record {
      net = net ∙ acc.net;
      count = omega (arith, come.arrivals, acc.count, length-append arrivals (new ∷ []));
      numbered = numbered_grown arrivals new number acc.numbered;
      waiting = λ other among. elim (among_cases other S.incoming.waiting (w ∷ []) (subst (Among other) come.waiting among)) [
        | inl before ↦ fresh_grown arrivals (new ∷ []) handed other (acc.waiting other before)
        | inr last ↦ elim last [
          | inl e ↦ subst (IsFresh (arrivals ++ new ∷ []) handed) (sym e) (fresh_new network arrivals handed S w come.message acc number come.segments)
          | inr none ↦ absurd none
        ]
      ];
      apart = subst AreApart (sym come.waiting)
          (apart_push S.incoming.waiting w acc.apart (λ other among e. let low = fresh_lower arrivals handed other (acc.waiting other among) in omega (arith, e, low, number)));
      held = λ h among.
          let in_hand = acc.held h (subst (Among h) come.held among) in
          (in_hand.0, rest_grown arrivals (new ∷ []) (portions_in handed h.rest.arrival) h.unit h.leaf.number h.rest in_hand.1);
      one_each = subst IsOneEach (sym come.held) acc.one_each;
      arrived = arrived_grown handed (length arrivals) (length (arrivals ++ new ∷ [])) (omega (arith, length-append arrivals (new ∷ []))) acc.arrived;
      whole = whole_grown network arrivals handed S next new acc number (whole_held S next arrivals handed come.held stay acc.whole);
      order = subst (AreInOrder (arrivals ++ new ∷ []) handed) (sym come.waiting) (order_grown arrivals handed S.incoming.waiting w come.message acc.order);
    }

-- a unit that stops drops what it holds, and leaves what others hold
whole_stopped : (S next : State) (arrivals : List Arrival) (handed : List HandedOut) → StayStopped S next → Stops S next → AreWhole S arrivals handed → AreWhole next arrivals handed
whole_stopped S next arrivals handed stay stop whole = λ n arrival at.
    whole_stays S next arrival.number arrival.message (portions_in handed arrival.number)
    (λ unit. left_stays S next unit arrival.number (stay unit) (λ h among of_unit of_number. elim (cases_eq h.unit stop.unit) [
      | inl its ↦ inr (subst (λ unit. unit_mode next unit ≡ Some Stopped) (sym its ∙ of_unit) stop.has_stopped)
      | inr other ↦
          let passes : not (h.unit == stop.unit) ≡ true = not_from_false (h.unit == stop.unit) (ne_eqb h.unit stop.unit other) in
          inl (subst (Among h) (sym stop.held) (among_filter (λ (h : Held). not (h.unit == stop.unit)) h S.incoming.held passes among))
    ]))
    (whole n arrival at)

-- a unit stops
pub stop_kept : (network : Net) (arrivals : List Arrival) (handed : List HandedOut) (S next : State) → next.net ≡ S.net → StayStopped S next → Stops S next
    → Accounts network arrivals handed S → Accounts network arrivals handed next
stop_kept network arrivals handed S next net stay stop acc =
    let was = λ (h : Held) (among : Among h next.incoming.held). (filter_among (λ (h : Held). not (h.unit == stop.unit)) h S.incoming.held (subst (Among h) stop.held among)).0 in
    record {
      net = net ∙ acc.net;
      count = stop.arrivals ∙ acc.count;
      numbered = acc.numbered;
      waiting = λ w among. acc.waiting w (subst (Among w) stop.waiting among);
      apart = subst AreApart (sym stop.waiting) acc.apart;
      held = λ h among. acc.held h (was h among);
      one_each = λ h other among there. acc.one_each h other (was h among) (was other there);
      arrived = acc.arrived;
      whole = whole_stopped S next arrivals handed stay stop acc.whole;
      order = subst (AreInOrder arrivals handed) (sym stop.waiting) acc.order;
    }
