-- What a RECEIVE goes on with is the rest of one message, and the only one that the unit has from
-- its leaf.
use Rattle.std.proofs.Common.{◌≡◌, ◌≢◌, ℕ, true, false, cond, List, [], ◌∷◌, ◌++◌, Some, None, map, refl, sym, ap, ◌∙◌, inl, inr, subst, eq-eqb, append_assoc}
use Rattle.std.specs.Prelude.{◌==◌, option_map}
use Rattle.std.specs.List.{filter, list_all}
use Rattle.std.proofs.lemmas.Bool.{ne_eqb, eqb-true, cases_eq, and_parts, and_from, false≢true}
use Rattle.std.proofs.lemmas.Option.{none-some, same_Some, option_and_then_some}
use Rattle.std.proofs.lemmas.List.{append-nil, map-append}
use Rattle.std.proofs.lemmas.List.Elements.{filter-append}
use Rattle.com_msg.specs.declared.message.Message.{Message}
use Rattle.com_tree.specs.declared.tree.Node.{Node}
use Rattle.com_net.specs.declared.net.Net.{Net}
use Rattle.com_state.specs.Wholeness.{HandedOut, Arrival, each_once}
use Rattle.com_state.proofs.Frames.{option_cases}
use Rattle.com_state.proofs.Onces.{once_new, once_old}
use Rattle.com_state.proofs.Chosen.{chosen_among_leaves, held_there, held_nowhere}
use Rattle.com_state.proofs.Firsts.{AreApart, IsFirst, waiting_on, first_is, without_among, apart_without, apart_first, on_first, on_other}
use Rattle.com_state.proofs.Accounts.{Accounts, IsRest, IsInHand, AreInOrder, portions_in, handed_on, one_hand}
use Rattle.com_state.specs.State.{State}
use Rattle.com_recv.specs.declared.lists.Waiting.{Waiting}
use Rattle.com_recv.specs.declared.lists.Held.{Held}
use Rattle.com_recv.specs.Incoming.{first_on, chosen_leaf, without_first, is_held_on, held_under}
use Rattle.com_recv.specs.Receiving.{Next, next_waiting}
use Rattle.com_recv.proofs.Members.{Among, among_filter, filter_among, find_among, map_among, among_map}
use Rattle.com_state.proofs.Verbs.{next_in}

-- What a RECEIVE goes on with: a rest that no other unit has, what waits then, and the order when a
-- portion of it is given.
pub record GoesOn (arrivals : List Arrival) (handed : List HandedOut) (S : State) (unit : ℕ) (found : Next) : Type 0 where
  pub rest : IsRest arrivals (portions_in handed found.rest.arrival) unit found.leaf found.rest
  pub its_own : (h : Held) → Among h S.incoming.held → is_held_on unit found.leaf h ≡ true → h.rest.arrival ≡ found.rest.arrival
  pub others : (h : Held) → Among h S.incoming.held → is_held_on unit found.leaf h ≡ false → h.rest.arrival ≢ found.rest.arrival
  pub waiting : (w : Waiting) → Among w found.waiting → Among w S.incoming.waiting
  pub not_waiting : (w : Waiting) → Among w found.waiting → w.message.arrival ≢ found.rest.arrival
  pub apart : AreApart found.waiting
  pub order : (portion : HandedOut) → portion.leaf ≡ found.leaf → portion.arrival ≡ found.rest.arrival → AreInOrder arrivals (handed ++ portion ∷ []) found.waiting

-- one more portion on its leaf, and on another
handed_here : (leaf : ℕ) (handed : List HandedOut) (portion : HandedOut) → portion.leaf ≡ leaf → handed_on leaf (handed ++ portion ∷ []) ≡ handed_on leaf handed ++ portion.arrival ∷ []
handed_here leaf handed portion here =
    let on = λ (p : HandedOut). p.leaf == leaf in
    let number = λ (p : HandedOut). p.arrival in
    let passes : (portion.leaf == leaf) ≡ true = eq-eqb portion.leaf leaf here in
    ap (map number) (filter-append on handed (portion ∷ []) ∙ ap (λ b. filter on handed ++ cond b (portion ∷ []) []) passes) ∙ map-append number (filter on handed) (portion ∷ [])

handed_elsewhere : (leaf : ℕ) (handed : List HandedOut) (portion : HandedOut) → portion.leaf ≢ leaf → handed_on leaf (handed ++ portion ∷ []) ≡ handed_on leaf handed
handed_elsewhere leaf handed portion ne =
    let on = λ (p : HandedOut). p.leaf == leaf in
    let number = λ (p : HandedOut). p.arrival in
    let fails : (portion.leaf == leaf) ≡ false = ne_eqb portion.leaf leaf ne in
    ap (map number) (filter-append on handed (portion ∷ []) ∙ (ap (λ b. filter on handed ++ cond b (portion ∷ []) []) fails ∙ append-nil (filter on handed)))

-- what is handed out of a leaf has a portion
on_portions : (leaf number : ℕ) (handed : List HandedOut) → Among number (handed_on leaf handed) → portions_in handed number ≡ [] → ⊥
on_portions leaf number handed among none =
    let one = map_among (λ (p : HandedOut). p.arrival) number (filter (λ (p : HandedOut). p.leaf == leaf) handed) among in
    let was = (filter_among (λ (p : HandedOut). p.leaf == leaf) one.0 handed one.1).0 in
    let there = among_filter (λ (p : HandedOut). p.arrival == number) one.0 handed (eq-eqb one.0.arrival number one.2) was in
    subst (Among one.0) none there

-- a message that has a portion, and all on one leaf, is handed out of it
portions_on : (leaf number : ℕ) (handed portions : List HandedOut) → portions_in handed number ≡ portions → portions ≢ [] → list_all (λ (p : HandedOut). p.leaf == leaf) portions ≡ true → Among number (handed_on leaf handed)
portions_on leaf number handed [] e some all = absurd (some refl)
portions_on leaf number handed (portion ∷ portions) e some all =
    let among : Among portion (portions_in handed number) = subst (Among portion) (sym e) (inl refl) in
    let was = filter_among (λ (p : HandedOut). p.arrival == number) portion handed among in
    let on = (and_parts (portion.leaf == leaf) (list_all (λ (p : HandedOut). p.leaf == leaf) portions) all).0 in
    let there = among_map (λ (p : HandedOut). p.arrival) portion (filter (λ (p : HandedOut). p.leaf == leaf) handed) (among_filter (λ (p : HandedOut). p.leaf == leaf) portion handed on was.0) in
    subst (λ n. Among n (handed_on leaf handed)) (eqb-true portion.arrival number was.1) there

-- two holds of one message are of one unit and from one leaf
one_holder : (arrivals : List Arrival) (handed : List HandedOut) (h other : Held) → IsInHand arrivals handed h → IsInHand arrivals handed other → other.rest.arrival ≡ h.rest.arrival
    → is_held_on h.unit h.leaf.number other ≡ true
one_holder arrivals handed h other first second e =
    let alike = subst (λ n. IsRest arrivals (portions_in handed n) other.unit other.leaf.number other.rest) e second.1 in
    let unit = one_hand (λ p. p.unit) (portions_in handed h.rest.arrival) other.unit h.unit first.0 alike.one_unit first.1.one_unit in
    let leaf = one_hand (λ p. p.leaf) (portions_in handed h.rest.arrival) other.leaf.number h.leaf.number first.0 alike.one_leaf first.1.one_leaf in
    and_from (other.unit == h.unit) (other.leaf.number == h.leaf.number) (eq-eqb other.unit h.unit unit) (eq-eqb other.leaf.number h.leaf.number leaf)

-- a portion more of a message that has one leaves the order
order_held : (arrivals : List Arrival) (handed : List HandedOut) (waiting : List Waiting) (h : Held) (portion : HandedOut) → AreInOrder arrivals handed waiting → IsInHand arrivals handed h
    → portion.leaf ≡ h.leaf.number → portion.arrival ≡ h.rest.arrival → AreInOrder arrivals (handed ++ portion ∷ []) waiting
order_held arrivals handed waiting h portion order in_hand on number = λ leaf. elim (cases_eq portion.leaf leaf) [
  | inl here ↦
      let of_leaf : Among h.rest.arrival (handed_on h.leaf.number handed) = portions_on h.leaf.number h.rest.arrival handed (portions_in handed h.rest.arrival) refl in_hand.0 in_hand.1.one_leaf in
      let there : Among portion.arrival (handed_on leaf handed) = subst (λ at. Among portion.arrival (handed_on at handed)) (sym on ∙ here) (subst (λ n. Among n (handed_on h.leaf.number handed)) (sym number) of_leaf) in
      ap (λ numbers. each_once numbers ++ waiting_on leaf waiting) (handed_here leaf handed portion here)
      ∙ (ap (λ front. front ++ waiting_on leaf waiting) (once_old portion.arrival (handed_on leaf handed) there) ∙ order leaf)
  | inr ne ↦ ap (λ numbers. each_once numbers ++ waiting_on leaf waiting) (handed_elsewhere leaf handed portion ne) ∙ order leaf
]

-- the first portion of the first message that waits on a leaf goes on with it
order_first : (arrivals : List Arrival) (handed : List HandedOut) (waiting : List Waiting) (at : ℕ) (w : Waiting) (portion : HandedOut) → AreInOrder arrivals handed waiting
    → portions_in handed w.message.arrival ≡ [] → IsFirst at waiting w → portion.leaf ≡ at → portion.arrival ≡ w.message.arrival → AreInOrder arrivals (handed ++ portion ∷ []) (without_first at waiting)
order_first arrivals handed waiting at w portion order fresh first on number = λ leaf.
    let behind = waiting_on leaf (without_first at waiting) in
    elim (cases_eq portion.leaf leaf) [
      | inl here ↦
          let same : at ≡ leaf = sym on ∙ here in
          let none : Among portion.arrival (handed_on leaf handed) → ⊥ = λ among. on_portions leaf portion.arrival handed among (ap (portions_in handed) number ∙ fresh) in
          let waits : waiting_on leaf waiting ≡ portion.arrival ∷ behind =
          subst (λ l. waiting_on l waiting ≡ portion.arrival ∷ waiting_on l (without_first at waiting)) same (on_first at waiting w first ∙ ap (λ n. n ∷ waiting_on at (without_first at waiting)) (sym number)) in
          ap (λ numbers. each_once numbers ++ behind) (handed_here leaf handed portion here)
          ∙ (ap (λ front. front ++ behind) (once_new portion.arrival (handed_on leaf handed) none)
          ∙ (append_assoc (each_once (handed_on leaf handed)) (portion.arrival ∷ []) behind ∙ (ap (λ back. each_once (handed_on leaf handed) ++ back) (sym waits) ∙ order leaf)))
      | inr ne ↦
          ap (λ numbers. each_once numbers ++ behind) (handed_elsewhere leaf handed portion ne)
          ∙ (ap (λ back. each_once (handed_on leaf handed) ++ back) (on_other at leaf waiting (λ e. ne (on ∙ sym e))) ∙ order leaf)
    ]

-- what the unit holds
goes_held : (network : Net) (arrivals : List Arrival) (handed : List HandedOut) (S : State) (unit : ℕ) (h : Held) → Accounts network arrivals handed S → Among h S.incoming.held → h.unit ≡ unit
    → GoesOn arrivals handed S unit (record { leaf = h.leaf.number; rest = h.rest; waiting = S.incoming.waiting })
goes_held network arrivals handed S unit h acc among its =
    let in_hand = acc.held h among in
    record {
      rest = subst (λ unit. IsRest arrivals (portions_in handed h.rest.arrival) unit h.leaf.number h.rest) its in_hand.1;
      its_own = λ other there on.
          let parts = and_parts (other.unit == unit) (other.leaf.number == h.leaf.number) on in
          acc.one_each other h there among (eqb-true other.unit unit parts.0 ∙ sym its) (eqb-true other.leaf.number h.leaf.number parts.1);
      others = λ other there off e.
          let on : is_held_on h.unit h.leaf.number other ≡ true = one_holder arrivals handed h other in_hand (acc.held other there) e in
          false≢true (sym off ∙ (ap (λ unit. is_held_on unit h.leaf.number other) (sym its) ∙ on));
      waiting = λ w there. there;
      not_waiting = λ w there e. in_hand.0 (ap (portions_in handed) (sym e) ∙ (acc.waiting w there).0);
      apart = acc.apart;
      order = λ portion on number. order_held arrivals handed S.incoming.waiting h portion acc.order in_hand on number;
    }

-- what waits first on a leaf that the unit holds nothing from
goes_first : (network : Net) (arrivals : List Arrival) (handed : List HandedOut) (S : State) (unit leaf : ℕ) (w : Waiting) → Accounts network arrivals handed S → IsFirst leaf S.incoming.waiting w
    → ((h : Held) → Among h S.incoming.held → is_held_on unit leaf h ≡ true → ⊥) → GoesOn arrivals handed S unit (record { leaf = leaf; rest = w.message; waiting = without_first leaf S.incoming.waiting })
goes_first network arrivals handed S unit leaf w acc first nothing =
    let there = find_among (λ (w : Waiting). w.leaf.number == leaf) S.incoming.waiting w first in
    let fresh = acc.waiting w there.0 in
    let here : w.leaf.number ≡ leaf = eqb-true w.leaf.number leaf there.1 in
    let rest : IsRest arrivals [] unit leaf w.message = subst (λ leaf. IsRest arrivals [] unit leaf w.message) here (fresh.1 unit) in
    record {
      rest = subst (λ portions. IsRest arrivals portions unit leaf w.message) (sym fresh.0) rest;
      its_own = λ h among on. absurd (nothing h among on);
      others = λ h among off e. (acc.held h among).0 (ap (portions_in handed) e ∙ fresh.0);
      waiting = λ other among. without_among leaf other S.incoming.waiting among;
      not_waiting = λ other among e. apart_first leaf S.incoming.waiting w other acc.apart first among (sym e);
      apart = apart_without leaf S.incoming.waiting acc.apart;
      order = λ portion on number. order_first arrivals handed S.incoming.waiting leaf w portion acc.order fresh.0 first on number;
    }

-- where the unit holds nothing under the node
goes_waiting : (network : Net) (arrivals : List Arrival) (handed : List HandedOut) (S : State) (unit : ℕ) (node : Node) (found : Next) → Accounts network arrivals handed S
    → held_under S.net.tree S.incoming.held unit node ≡ None → next_waiting S.net.tree S.incoming node ≡ Some found → GoesOn arrivals handed S unit found
goes_waiting network arrivals handed S unit node found acc none e =
    let next_on : ℕ → Message → Next = λ leaf message. record { leaf = leaf; rest = message; waiting = without_first leaf S.incoming.waiting } in
    option_and_then_some (λ leaf. option_map (next_on leaf) (first_on S.incoming.waiting leaf)) (chosen_leaf S.net.tree S.incoming.waiting node) found e
    (λ leaf chosen mapped. elim (option_cases (first_on S.incoming.waiting leaf)) [
      | inl absent ↦ absurd (none-some found (sym (ap (option_map (next_on leaf)) absent) ∙ mapped))
      | inr some ↦
          let first = first_is S.incoming.waiting leaf some.0 some.1 in
          let same : next_on leaf some.0 ≡ found = same_Some (next_on leaf some.0) found (sym (ap (option_map (next_on leaf)) some.1) ∙ mapped) in
          subst (GoesOn arrivals handed S unit) (ap (next_on leaf) first.2 ∙ same)
          (goes_first network arrivals handed S unit leaf first.0 acc first.1
          (λ h among on. held_nowhere S.net.tree S.incoming.held unit node leaf h none (chosen_among_leaves S.net.tree S.incoming.waiting node leaf chosen) among on))
    ])

-- in every case
pub goes_on : (network : Net) (arrivals : List Arrival) (handed : List HandedOut) (S : State) (unit : ℕ) (node : Node) (found : Next) → Accounts network arrivals handed S
    → next_in S unit node ≡ Some found → GoesOn arrivals handed S unit found
goes_on network arrivals handed S unit node found acc e = elim (option_cases (held_under S.net.tree S.incoming.held unit node)) [
  | inl none ↦ goes_waiting network arrivals handed S unit node found acc none (rw (none, next_in) at e)
  | inr some ↦
      let at = held_there S.net.tree S.incoming.held unit node some.0 some.1 in
      let there = find_among (is_held_on unit at.0) S.incoming.held some.0 at.1 in
      let its = eqb-true some.0.unit unit (and_parts (some.0.unit == unit) (some.0.leaf.number == at.0) there.1).0 in
      let same : Some (record { leaf = some.0.leaf.number; rest = some.0.rest; waiting = S.incoming.waiting }) ≡ Some found = rw (some.1, next_in) at e in
      subst (GoesOn arrivals handed S unit) (same_Some _ _ same) (goes_held network arrivals handed S unit some.0 acc there.0 its)
]
