-- The accounts are kept where a portion is given.
use Rattle.std.proofs.Common.{◌≡◌, ◌≢◌, ℕ, ◌+◌, true, false, not, List, [], ◌∷◌, ◌++◌, Some, Option, length, refl, sym, ap, ◌∙◌, inl, inr, arith, subst, eq-eqb, nat_le, length-append}
use Rattle.std.specs.Prelude.{◌==◌, slice_get, IsTrue}
use Rattle.std.specs.List.{list_all}
use Rattle.std.proofs.lemmas.Bool.{cases_Bool, cases_eq, and_from, not-true, not_from_false, le-leb, true≢false}
use Rattle.std.proofs.lemmas.Option.{same_Some, slice_get_within}
use Rattle.com_msg.specs.declared.rest.Kind.{Kind}
use Rattle.com_msg.specs.Portion.{take_portion}
use Rattle.com_net.specs.declared.net.Net.{Net}
use Rattle.com_state.specs.Wholeness.{HandedOut, Arrival, handed_of, IsWholeMessage, IsLeftWith}
use Rattle.com_state.proofs.Taken.{is_nothing_left, taken_text, taken_key}
use Rattle.com_state.proofs.Stays.{StayStopped}
use Rattle.com_state.proofs.Changes.{Gives}
use Rattle.com_state.proofs.Firsts.{AreApart}
use Rattle.com_state.proofs.Accounts.{Accounts, AreNumbered, is_arrived, IsRest, IsInHand, IsOneEach, AreWhole, AreInOrder, portions_in, portions_same, portions_other, holds_number, left_stays, whole_stays}
use Rattle.com_state.proofs.Going.{GoesOn, goes_on}
use Rattle.com_state.proofs.Portioned.{IsTaken, all_more, rest_more, whole_more, held_cases, held_besides, held_left}
use Rattle.com_state.specs.State.{State}
use Rattle.com_recv.specs.declared.lists.Held.{Held}
use Rattle.com_recv.specs.Incoming.{is_held_on, without_held, with_held}
use Rattle.com_recv.specs.Receiving.{Next, give}
use Rattle.com_recv.proofs.Members.{Among, among_filter, filter_among, among_any}

-- the portion that is given
abbrev pub given : ℕ → Kind → ℕ → Next → HandedOut
given unit kind size found = handed_of unit kind size (take_portion kind size found.rest).0.text found

-- the pieces that are left
abbrev left : Kind → ℕ → Next → List (List ℕ)
left kind size found = (take_portion kind size found.rest).1.segments

-- what the unit holds then, where something is left
abbrev in_hand : ℕ → Kind → ℕ → Next → Held
in_hand unit kind size found = record { unit = unit; leaf = record { number = found.leaf }; rest = (take_portion kind size found.rest).1 }

-- what is held then
abbrev held_then : List Held → ℕ → Kind → ℕ → Next → List Held
held_then held unit kind size found = with_held unit found.leaf (take_portion kind size found.rest).1 (left kind size found) (without_held unit found.leaf held)

-- the portion takes of the rest what it does not leave
is_taken : (unit : ℕ) (kind : Kind) (size : ℕ) (found : Next) → IsTaken unit found.leaf found.rest (given unit kind size found) (left kind size found)
is_taken unit kind size found = record {
  unit_is = refl;
  leaf_is = refl;
  text = taken_text kind size found.rest.end found.rest.segments;
  key = taken_key kind size found.rest.end found.rest.segments;
}

-- with one more, there are some
some_more : (portions : List HandedOut) (portion : HandedOut) → portions ++ portion ∷ [] ≢ []
some_more portions portion e = omega (arith, ap length e, length-append portions (portion ∷ []))

-- what is held besides was held, and not from this leaf
besides : (unit leaf : ℕ) (held : List Held) (h : Held) → Among h (without_held unit leaf held) → Among h held × (is_held_on unit leaf h ≡ false)
besides unit leaf held h among =
    let was = filter_among (λ (h : Held). not (is_held_on unit leaf h)) h held among in
    (was.0, not-true (is_held_on unit leaf h) was.1)

-- what is in a hand then has an account
held_given : (arrivals : List Arrival) (handed : List HandedOut) (S : State) (unit : ℕ) (kind : Kind) (size : ℕ) (found : Next) → GoesOn arrivals handed S unit found
    → ((h : Held) → Among h S.incoming.held → IsInHand arrivals handed h) → (h : Held) → Among h (held_then S.incoming.held unit kind size found) → IsInHand arrivals (handed ++ given unit kind size found ∷ []) h
held_given arrivals handed S unit kind size found goes was h among =
    let portion = given unit kind size found in
    let number = found.rest.arrival in
    elim (held_cases unit found.leaf (take_portion kind size found.rest).1 (left kind size found) (without_held unit found.leaf S.incoming.held) h among) [
      | inl new ↦
          let portions = portions_in handed number in
          let rest = rest_more arrivals portions unit found.leaf found.rest portion (left kind size found) goes.rest (is_taken unit kind size found) new.0 in
          let mine : IsInHand arrivals (handed ++ portion ∷ []) (in_hand unit kind size found) =
          subst (λ all. (all ≢ []) × IsRest arrivals all unit found.leaf (take_portion kind size found.rest).1) (sym (portions_same handed portion number refl)) (some_more portions portion, rest) in
          subst (IsInHand arrivals (handed ++ portion ∷ [])) (sym new.1) mine
      | inr there ↦
          let before = besides unit found.leaf S.incoming.held h there in
          let ne = goes.others h before.0 before.1 in
          subst (λ all. (all ≢ []) × IsRest arrivals all h.unit h.leaf.number h.rest) (sym (portions_other handed portion h.rest.arrival (λ e. ne (sym e)))) (was h before.0)
    ]

-- what is held besides is not from the leaf of what is in hand
apart_in_hand : (unit leaf : ℕ) (held : List Held) (h : Held) → Among h (without_held unit leaf held) → h.unit ≡ unit → h.leaf.number ≡ leaf → ⊥
apart_in_hand unit leaf held h among of_unit on =
    let on_it : is_held_on unit leaf h ≡ true = and_from (h.unit == unit) (h.leaf.number == leaf) (eq-eqb h.unit unit of_unit) (eq-eqb h.leaf.number leaf on) in
    true≢false (sym on_it ∙ (besides unit leaf held h among).1)

-- each unit holds one message from a leaf
one_each_given : (held : List Held) (unit : ℕ) (kind : Kind) (size : ℕ) (found : Next) → IsOneEach held → IsOneEach (held_then held unit kind size found)
one_each_given held unit kind size found was h other among there of_unit on =
    let rest = (take_portion kind size found.rest).1 in
    let others = without_held unit found.leaf held in
    elim (held_cases unit found.leaf rest (left kind size found) others h among) [
      | inl new ↦ elim (held_cases unit found.leaf rest (left kind size found) others other there) [
        | inl too ↦ ap (λ (h : Held). h.rest.arrival) (new.1 ∙ sym too.1)
        | inr before ↦ absurd (apart_in_hand unit found.leaf held other before (sym of_unit ∙ ap (λ (h : Held). h.unit) new.1) (sym on ∙ ap (λ (h : Held). h.leaf.number) new.1))
      ]
      | inr before ↦ elim (held_cases unit found.leaf rest (left kind size found) others other there) [
        | inl new ↦ absurd (apart_in_hand unit found.leaf held h before (of_unit ∙ ap (λ (h : Held). h.unit) new.1) (on ∙ ap (λ (h : Held). h.leaf.number) new.1))
        | inr too ↦ was h other (besides unit found.leaf held h before).0 (besides unit found.leaf held other too).0 of_unit on
      ]
    ]

-- what was held of another message still is
still_held : (arrivals : List Arrival) (handed : List HandedOut) (S : State) (unit : ℕ) (kind : Kind) (size : ℕ) (found : Next) → GoesOn arrivals handed S unit found
    → (h : Held) → Among h S.incoming.held → h.rest.arrival ≢ found.rest.arrival → Among h (held_then S.incoming.held unit kind size found)
still_held arrivals handed S unit kind size found goes h among ne = elim (cases_Bool (is_held_on unit found.leaf h)) [
  | inl on ↦ absurd (ne (goes.its_own h among on))
  | inr off ↦
      held_besides unit found.leaf (take_portion kind size found.rest).1 (left kind size found) (without_held unit found.leaf S.incoming.held) h
      (among_filter (λ (h : Held). not (is_held_on unit found.leaf h)) h S.incoming.held (not_from_false (is_held_on unit found.leaf h) off) among)
]

-- what is left of the message is held
left_given : (S next : State) (unit : ℕ) (kind : Kind) (size : ℕ) (found : Next) (number : ℕ) → next.incoming.held ≡ held_then S.incoming.held unit kind size found → found.rest.arrival ≡ number
    → is_nothing_left (left kind size found) ≡ false → IsLeftWith next unit number
left_given S next unit kind size found number same e more =
    let mine = in_hand unit kind size found in
    let among = held_left unit found.leaf (take_portion kind size found.rest).1 (left kind size found) (without_held unit found.leaf S.incoming.held) more in
    inl (among_any (holds_number unit number) mine next.incoming.held (subst (Among mine) (sym same) among)
    (and_from (unit == unit) (found.rest.arrival == number) (eq-eqb unit unit refl) (eq-eqb found.rest.arrival number e)))

-- every message is whole then
whole_given : (arrivals : List Arrival) (handed : List HandedOut) (S next : State) (unit : ℕ) (kind : Kind) (size : ℕ) (found : Next) → GoesOn arrivals handed S unit found → StayStopped S next
    → next.incoming.held ≡ held_then S.incoming.held unit kind size found → AreNumbered arrivals → AreWhole S arrivals handed → AreWhole next arrivals (handed ++ given unit kind size found ∷ [])
whole_given arrivals handed S next unit kind size found goes stay same numbered was = λ n arrival at.
    let portion = given unit kind size found in
    let number = arrival.number in
    elim (cases_eq number found.rest.arrival) [
      | inl e ↦
          let place : n ≡ goes.rest.place = omega (arith, e, goes.rest.number, numbered n arrival at) in
          let own : Arrival = record { number = goes.rest.place + 1; leaf = found.leaf; message = goes.rest.message } in
          let got : slice_get arrivals n ≡ Some own = ap (slice_get arrivals) place ∙ goes.rest.arrived in
          let its : goes.rest.message ≡ arrival.message = ap (λ (a : Arrival). a.message) (same_Some own arrival (sym got ∙ at)) in
          let portions : portions_in (handed ++ portion ∷ []) number ≡ portions_in handed found.rest.arrival ++ portion ∷ [] =
          portions_same handed portion number (sym e) ∙ ap (λ number. portions_in handed number ++ portion ∷ []) e in
          let given_so = whole_more arrivals (portions_in handed found.rest.arrival) unit found.leaf found.rest portion (left kind size found) next number goes.rest (is_taken unit kind size found)
          (left_given S next unit kind size found number same (sym e)) in
          subst (λ all. IsWholeMessage next number arrival.message all) (sym portions) (subst (λ raw. IsWholeMessage next number raw (portions_in handed found.rest.arrival ++ portion ∷ [])) its given_so)
      | inr ne ↦
          let stays = whole_stays S next number arrival.message (portions_in handed number)
          (λ other. left_stays S next other number (stay other)
          (λ h among of_unit of_number. inl (subst (Among h) (sym same) (still_held arrivals handed S unit kind size found goes h among (λ e. ne (sym of_number ∙ e))))))
          (was n arrival at) in
          subst (IsWholeMessage next number arrival.message) (sym (portions_other handed portion number (λ e. ne (sym e)))) stays
    ]

-- the message of a portion has arrived
arrived_given : (arrivals : List Arrival) (handed : List HandedOut) (S : State) (unit : ℕ) (kind : Kind) (size : ℕ) (found : Next) → GoesOn arrivals handed S unit found
    → IsTrue (list_all (λ portion. is_arrived portion.arrival (length arrivals)) handed) → IsTrue (list_all (λ portion. is_arrived portion.arrival (length arrivals)) (handed ++ given unit kind size found ∷ []))
arrived_given arrivals handed S unit kind size found goes was =
    let within = slice_get_within arrivals goes.rest.place (record { number = goes.rest.place + 1; leaf = found.leaf; message = goes.rest.message }) goes.rest.arrived in
    let number = found.rest.arrival in
    all_more (λ (portion : HandedOut). is_arrived portion.arrival (length arrivals)) handed (given unit kind size found) was
    (and_from (nat_le 1 number) (nat_le number (length arrivals)) (le-leb 1 number (omega (arith, goes.rest.number))) (le-leb number (length arrivals) (omega (arith, goes.rest.number, within))))

-- a portion is given
pub give_kept : (network : Net) (arrivals : List Arrival) (handed : List HandedOut) (S next : State) (portion : Option HandedOut) → next.net ≡ S.net → StayStopped S next
    → (give : Gives S next portion) → Accounts network arrivals handed S → Accounts network arrivals (handed ++ given give.unit give.kind give.size give.found ∷ []) next
give_kept network arrivals handed S next portion net stay give acc =
    let unit = give.unit in
    let found = give.found in
    let goes = goes_on network arrivals handed S unit give.node found acc give.is_next in
    let more = given unit give.kind give.size found in
    record {
      net = net ∙ acc.net;
      count = give.arrivals ∙ acc.count;
      numbered = acc.numbered;
      waiting = λ w among.
          let there = subst (Among w) give.waiting among in
          let fresh = acc.waiting w (goes.waiting w there) in
          (portions_other handed more w.message.arrival (λ e. goes.not_waiting w there (sym e)) ∙ fresh.0, fresh.1);
      apart = subst AreApart (sym give.waiting) goes.apart;
      held = λ h among. held_given arrivals handed S unit give.kind give.size found goes acc.held h (subst (Among h) give.held among);
      one_each = subst IsOneEach (sym give.held) (one_each_given S.incoming.held unit give.kind give.size found acc.one_each);
      arrived = arrived_given arrivals handed S unit give.kind give.size found goes acc.arrived;
      whole = whole_given arrivals handed S next unit give.kind give.size found goes stay give.held acc.numbered acc.whole;
      order = subst (AreInOrder arrivals (handed ++ more ∷ [])) (sym give.waiting) (goes.order more refl refl);
    }
