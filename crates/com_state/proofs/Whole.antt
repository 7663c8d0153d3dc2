-- Every legal history hands messages out whole, each to one unit, and in the order of arrival.
use Rattle.std.proofs.Common.{◌≡◌, ℕ, ◌-◌, ◌<◌, ◌≤◌, zero, suc, Bool, true, nat_le, List, [], ◌∷◌, ◌++◌, Some, None, Option, length, refl, sym, ap, ◌∙◌, subst, arith, eq-eqb, append_assoc}
use Rattle.std.specs.Prelude.{IsTrue, ◌==◌, slice_get}
use Rattle.std.specs.List.{cons_option, list_all, list_any}
use Rattle.std.proofs.lemmas.Bool.{and_parts, and_from, or_left, or_right, leb-true}
use Rattle.std.proofs.lemmas.List.{append-nil}
use Rattle.std.proofs.lemmas.Option.{none-some, same_Some}
use Rattle.com_net.specs.declared.net.Net.{Net}
use Rattle.com_events.specs.declared.entry.Entry.{Entry}
use Rattle.com_state.specs.Histories.{LeadsTo, Legal}
use Rattle.com_state.specs.Wholeness.{HandedOut, Arrival, handed_by, all_handed, arrived_by, all_arrived, has_arrived, Whole, InOrder, EveryHistoryIsWhole}
use Rattle.com_state.proofs.Changes.{Change, Changed, quiet, comes, stops, gives}
use Rattle.com_state.proofs.Changing.{changed}
use Rattle.com_state.proofs.Firsts.{waiting_on}
use Rattle.com_state.proofs.Accounts.{Accounts, AreNumbered, is_arrived}
use Rattle.com_state.proofs.Arriving.{quiet_kept, come_kept, stop_kept}
use Rattle.com_state.proofs.Giving.{give_kept}
use Rattle.com_state.specs.State.{State, opening}
use Rattle.com_state.specs.Steps.{step}
use Rattle.com_recv.specs.Receiving.{give}

-- what there is comes after
abbrev added : {X : Type 0} → List X → Option X → List X
added xs None = xs
added xs (Some x) = xs ++ x ∷ []

added_behind : {X : Type 0} (xs : List X) (o : Option X) (ys : List X) → added xs o ++ ys ≡ xs ++ cons_option o ys
added_behind {X} xs None ys = refl
added_behind {X} xs (Some x) ys = append_assoc xs (x ∷ []) ys

-- nothing has arrived and nothing was handed out
accounts_opening : (net : Net) → Accounts net [] [] (opening net)
accounts_opening net = record {
  net = refl;
  count = refl;
  numbered = λ n arrival at. absurd (none-some arrival at);
  waiting = λ w among. absurd among;
  apart = tt;
  held = λ h among. absurd among;
  one_each = λ h other among there of_unit on. absurd among;
  arrived = refl;
  whole = λ n arrival at. absurd (none-some arrival at);
  order = λ leaf. refl;
}

-- each change keeps the accounts
accounts_changed : (network : Net) (arrivals : List Arrival) (handed : List HandedOut) (S next : State) (arrived : List Arrival) (portion : Option HandedOut)
    → Changed S next arrived portion → Accounts network arrivals handed S → Accounts network (arrivals ++ arrived) (added handed portion) next
accounts_changed network arrivals handed S next arrived portion changed acc = by_change changed.change
  where
    with_both : (a : List Arrival) (p : Option HandedOut) → arrived ≡ a → portion ≡ p → Accounts network (arrivals ++ a) (added handed p) next
        → Accounts network (arrivals ++ arrived) (added handed portion) next
    with_both a p e f kept = subst (λ a. Accounts network (arrivals ++ a) (added handed portion) next) (sym e) (subst (λ p. Accounts network (arrivals ++ a) (added handed p) next) (sym f) kept)

    with_none : (p : Option HandedOut) → arrived ≡ [] → portion ≡ p → Accounts network arrivals (added handed p) next → Accounts network (arrivals ++ arrived) (added handed portion) next
    with_none p e f kept = with_both [] p e f (subst (λ all. Accounts network all (added handed p) next) (sym (append-nil arrivals)) kept)

    by_change : Change S next arrived portion → Accounts network (arrivals ++ arrived) (added handed portion) next
    by_change (quiet none no_portion same) = with_none None none no_portion (quiet_kept network arrivals handed S next changed.net changed.stay same acc)
    by_change (comes come no_portion) = with_both _ None come.brought no_portion (come_kept network arrivals handed S next arrived changed.net changed.stay come acc)
    by_change (stops none no_portion stop) = with_none None none no_portion (stop_kept network arrivals handed S next changed.net changed.stay stop acc)
    by_change (gives none give) = with_none _ none give.given (give_kept network arrivals handed S next portion changed.net changed.stay give acc)

-- each step keeps the accounts
accounts_step : (network : Net) (arrivals : List Arrival) (handed : List HandedOut) (S next : State) (entry : Entry) → step S entry.party entry.call ≡ Some (entry.reply, next)
    → Accounts network arrivals handed S → Accounts network (arrivals ++ arrived_by S entry.party entry.call entry.reply) (added handed (handed_by S entry.party entry.call entry.reply)) next
accounts_step network arrivals handed S next entry stepped acc =
    accounts_changed network arrivals handed S next (arrived_by S entry.party entry.call entry.reply) (handed_by S entry.party entry.call entry.reply)
    (changed S entry.party entry.call entry.reply next stepped) acc

-- what the first entry hands out and brings, and the others
handed_first : (S next : State) (entry : Entry) (entries : List Entry) → step S entry.party entry.call ≡ Some (entry.reply, next)
    → all_handed S (entry ∷ entries) ≡ cons_option (handed_by S entry.party entry.call entry.reply) (all_handed next entries)
handed_first S next entry entries stepped = rw (stepped, all_handed) refl

arrived_first : (S next : State) (entry : Entry) (entries : List Entry) → step S entry.party entry.call ≡ Some (entry.reply, next)
    → all_arrived S (entry ∷ entries) ≡ arrived_by S entry.party entry.call entry.reply ++ all_arrived next entries
arrived_first S next entry entries stepped = rw (stepped, all_arrived) refl

-- the accounts of the state that a history leads to
accounts_after : (network : Net) (arrivals : List Arrival) (handed : List HandedOut) (S : State) (history : List Entry) (last : State) → LeadsTo S history last
    → Accounts network arrivals handed S → Accounts network (arrivals ++ all_arrived S history) (handed ++ all_handed S history) last
accounts_after network arrivals handed S [] last e acc =
    subst (λ come. Accounts network come (handed ++ []) last) (sym (append-nil arrivals))
    (subst (λ hs. Accounts network arrivals hs last) (sym (append-nil handed)) (subst (Accounts network arrivals handed) (sym e) acc))
accounts_after network arrivals handed S (entry ∷ entries) last e acc =
    let next = e.0 in
    let come = arrived_by S entry.party entry.call entry.reply in
    let portion = handed_by S entry.party entry.call entry.reply in
    let kept = accounts_after network (arrivals ++ come) (added handed portion) next entries last e.2 (accounts_step network arrivals handed S next entry e.1 acc) in
    let all : added handed portion ++ all_handed next entries ≡ handed ++ all_handed S (entry ∷ entries) =
    added_behind handed portion (all_handed next entries) ∙ ap (λ behind. handed ++ behind) (sym (handed_first S next entry entries e.1)) in
    let all_come : (arrivals ++ come) ++ all_arrived next entries ≡ arrivals ++ all_arrived S (entry ∷ entries) =
    append_assoc arrivals come (all_arrived next entries) ∙ ap (λ behind. arrivals ++ behind) (sym (arrived_first S next entry entries e.1)) in
    subst (λ hs. Accounts network (arrivals ++ all_arrived S (entry ∷ entries)) hs last) all
    (subst (λ come. Accounts network come (added handed portion ++ all_handed next entries) last) all_come kept)

-- a history's beginning leads somewhere
leads_before : (S : State) (before after : List Entry) (last : State) → LeadsTo S (before ++ after) last → (mid : State) × LeadsTo S before mid
leads_before S [] after last e = (S, refl)
leads_before S (entry ∷ before) after last e = let rest = leads_before e.0 before after last e.2 in (rest.0, (e.0, e.1, rest.1))

-- the accounts from the opening on
pub accounts_of : (net : Net) (history : List Entry) (last : State) → LeadsTo (opening net) history last → Accounts net (all_arrived (opening net) history) (all_handed (opening net) history) last
accounts_of net history last leads = accounts_after net [] [] (opening net) history last leads (accounts_opening net)

-- an element stands at each place within a list
there_is : {X : Type 0} (xs : List X) (at : ℕ) → at < length xs → (x : X) × (slice_get xs at ≡ Some x)
there_is {X} [] at within = absurd (omega (arith, within))
there_is {X} (x ∷ xs) zero within = (x, refl)
there_is {X} (x ∷ xs) (suc at) within = there_is xs at (omega (arith, within))

any_at : {X : Type 0} (p : X → Bool) (xs : List X) (at : ℕ) (x : X) → slice_get xs at ≡ Some x → p x ≡ true → list_any p xs ≡ true
any_at {X} p [] at x got passes = absurd (none-some x got)
any_at {X} p (y ∷ xs) zero x got passes = or_left (p y) (list_any p xs) (ap p (same_Some y x got) ∙ passes)
any_at {X} p (y ∷ xs) (suc at) x got passes = or_right (p y) (list_any p xs) (any_at p xs at x got passes)

-- a number from 1 on that is no greater than there are arrivals is that of one
arrived_here : (arrivals : List Arrival) (portion : HandedOut) → AreNumbered arrivals → is_arrived portion.arrival (length arrivals) ≡ true → has_arrived arrivals portion ≡ true
arrived_here arrivals portion numbered is =
    let parts = and_parts (nat_le 1 portion.arrival) (nat_le portion.arrival (length arrivals)) is in
    let low : 1 ≤ portion.arrival = leb-true 1 portion.arrival parts.0 in
    let high : portion.arrival ≤ length arrivals = leb-true portion.arrival (length arrivals) parts.1 in
    let one = there_is arrivals (portion.arrival - 1) (omega (arith, low, high)) in
    let same : one.0.number ≡ portion.arrival = omega (arith, numbered (portion.arrival - 1) one.0 one.1, low) in
    any_at (λ (a : Arrival). a.number == portion.arrival) arrivals (portion.arrival - 1) one.0 one.1 (eq-eqb one.0.number portion.arrival same)

all_here : (arrivals : List Arrival) (handed : List HandedOut) → AreNumbered arrivals → IsTrue (list_all (λ portion. is_arrived portion.arrival (length arrivals)) handed) → IsTrue (list_all (has_arrived arrivals) handed)
all_here arrivals [] numbered all = refl
all_here arrivals (portion ∷ handed) numbered all =
    let parts = and_parts (is_arrived portion.arrival (length arrivals)) (list_all (λ portion. is_arrived portion.arrival (length arrivals)) handed) all in
    and_from (has_arrived arrivals portion) (list_all (has_arrived arrivals) handed) (arrived_here arrivals portion numbered parts.0) (all_here arrivals handed numbered parts.1)

-- every portion comes after its message, and every message is whole
whole : (net : Net) (history : List Entry) → Legal net history → Whole net history
whole net history legal = record {
  numbered = (accounts_of net history legal.0 legal.1).numbered;
  arrived = λ before after e.
      let begun = leads_before (opening net) before after legal.0 (subst (λ history. LeadsTo (opening net) history legal.0) e legal.1) in
      let acc = accounts_of net before begun.0 begun.1 in
      all_here (all_arrived (opening net) before) (all_handed (opening net) before) acc.numbered acc.arrived;
  messages = λ last leads n arrival at. (accounts_of net history last leads).whole n arrival at;
}

-- the first portions come in the order of arrival
in_order : (net : Net) (history : List Entry) → Legal net history → InOrder net history
in_order net history legal = λ leaf. (waiting_on leaf legal.0.incoming.waiting, sym ((accounts_of net history legal.0 legal.1).order leaf))

-- the law
pub every_history : EveryHistoryIsWhole
every_history = λ net history legal. (whole net history legal, in_order net history legal)
