-- What waits, by the queues of the leaves.
use Rattle.std.proofs.Common.{◌≡◌, ℕ, zero, suc, ◌+◌, ◌<◌, ◌≤◌, nat_lt, true, false, List, [], ◌∷◌, ◌++◌, length, get_or, set, refl, sym, ap, ◌∙◌, arith, inl, inr, append_assoc}
use Rattle.std.specs.Prelude.{◌==◌}
use Rattle.std.specs.List.{filter, All, AllPairs}
use mathlib.Core.Bool.{cond}
use Rattle.std.proofs.lemmas.Bool.{cases_Bool}
use Rattle.std.proofs.lemmas.Bool.Decides.{nat_tests}
use Rattle.com_recv.specs.declared.lists.Waiting.{Waiting}
use Rattle.com_recv.specs.Incoming.{IsEarlier, is_on}
use Rattle.com_recv.specs.inner.Queued.{all_of, with_placed, by_arrival, AreQueuesOf}

-- the message arrived before all of these
abbrev IsBefore : Waiting → List Waiting → Type 0
IsBefore w [] = Unit {0}
IsBefore w (v ∷ vs) = IsEarlier w v × IsBefore w vs

before_all : (w : Waiting) (ws : List Waiting) → All (IsEarlier w) ws → IsBefore w ws
before_all w [] all = tt
before_all w (v ∷ vs) all = (all 0 v (omega arith), before_all w vs (λ k d within. all (suc k) d (omega (arith, within))))

before_filter : (w : Waiting) (leaf : ℕ) (ws : List Waiting) → IsBefore w ws → IsBefore w (filter (is_on leaf) ws)
before_filter w leaf [] all = tt
before_filter w leaf (v ∷ vs) all = elim (cases_Bool (is_on leaf v)) [
  | inl here ↦ rw here (all.0, before_filter w leaf vs all.1)
  | inr other ↦ rw other (before_filter w leaf vs all.1)
]

before_append : (w : Waiting) (us vs : List Waiting) → IsBefore w us → IsBefore w vs → IsBefore w (us ++ vs)
before_append w [] vs all others = others
before_append w (u ∷ us) vs all others = (all.0, before_append w us vs all.1 others)

before_placed : (w v : Waiting) (vs : List Waiting) → IsEarlier w v → IsBefore w vs → IsBefore w (with_placed v vs)
before_placed w v [] one all = (one, tt)
before_placed w v (u ∷ us) one all = elim (cases_Bool (nat_lt v.message.arrival u.message.arrival)) [
  | inl less ↦ rw less (one, all)
  | inr more ↦ rw more (all.0, before_placed w v us one all.1)
]

before_ordered : (w : Waiting) (vs : List Waiting) → IsBefore w vs → IsBefore w (by_arrival vs)
before_ordered w [] all = tt
before_ordered w (v ∷ vs) all = before_placed w v (by_arrival vs) all.0 (before_ordered w vs all.1)

placed_first : (w : Waiting) (vs : List Waiting) → IsBefore w vs → with_placed w vs ≡ w ∷ vs
placed_first w [] all = refl
placed_first w (v ∷ vs) all =
    let earlier = all.0 in
    let less : nat_lt w.message.arrival v.message.arrival ≡ true = grind (arith, nat_tests, earlier) in
    rw less refl

-- a message before all others comes first, wherever it was
first_of_all : (w : Waiting) (front back : List Waiting) → IsBefore w (front ++ back) → by_arrival (front ++ w ∷ back) ≡ w ∷ by_arrival (front ++ back)
first_of_all w [] back all = placed_first w (by_arrival back) (before_ordered w back all)
first_of_all w (v ∷ front) back all =
    let earlier = all.0 in
    let more : nat_lt v.message.arrival w.message.arrival ≡ false = grind (arith, nat_tests, earlier) in
    ap (with_placed v) (first_of_all w front back all.1) ∙ rw more refl

-- the messages of so many leaves from one on, leaf by leaf
parts : ℕ → ℕ → List Waiting → List Waiting
parts from zero ws = []
parts from (suc n) ws = filter (is_on from) ws ++ parts (suc from) n ws

all_parts : (queues : List (List Waiting)) (from : ℕ) (ws : List Waiting) → ((leaf : ℕ) → leaf < length queues → get_or queues leaf [] ≡ filter (is_on (from + leaf)) ws)
    → all_of queues ≡ parts from (length queues) ws
unfolding parts
all_parts [] from ws each = refl
all_parts (queue ∷ queues) from ws each =
    let start : from + 0 ≡ from = omega arith in
    let here : queue ≡ filter (is_on from) ws = rw start at (each 0 (omega arith)) in
    let rest = all_parts queues (suc from) ws (λ leaf within.
    let next : suc from + leaf ≡ from + suc leaf = omega arith in
    rw next (each (suc leaf) (omega (arith, within)))) in
    ap (λ q. q ++ all_of queues) here ∙ ap (λ r. filter (is_on from) ws ++ r) rest

no_parts : (from n : ℕ) → parts from n [] ≡ []
unfolding parts
no_parts from zero = refl
no_parts from (suc n) = no_parts (suc from) n

before_parts : (w : Waiting) (from n : ℕ) (ws : List Waiting) → IsBefore w ws → IsBefore w (parts from n ws)
unfolding parts
before_parts w from zero ws all = tt
before_parts w from (suc n) ws all = before_append w (filter (is_on from) ws) (parts (suc from) n ws) (before_filter w from ws all) (before_parts w (suc from) n ws all)

other_parts : (w : Waiting) (from n : ℕ) (ws : List Waiting) → w.leaf.number < from → parts from n (w ∷ ws) ≡ parts from n ws
unfolding parts
other_parts w from zero ws less = refl
other_parts w from (suc n) ws less =
    let apart : (w.leaf.number == from) ≡ false = grind (arith, nat_tests, less) in
    rw apart (ap (λ r. filter (is_on from) ws ++ r) (other_parts w (suc from) n ws (omega (arith, less))))

-- where a message is among the parts
record IsSplit (w : Waiting) (from n : ℕ) (ws : List Waiting) : Type 0 where
  front : List Waiting
  back : List Waiting
  more : parts from n (w ∷ ws) ≡ front ++ w ∷ back
  less : parts from n ws ≡ front ++ back

split : (w : Waiting) (from n : ℕ) (ws : List Waiting) → from ≤ w.leaf.number → w.leaf.number < from + n → IsSplit w from n ws
unfolding parts
split w from zero ws least most = absurd (omega (arith, least, most))
split w from (suc n) ws least most = elim (cases_Bool (w.leaf.number == from)) [
  | inl same ↦
      let is : w.leaf.number ≡ from = grind (arith, nat_tests, same) in
      record {
        front = [];
        back = filter (is_on from) ws ++ parts (suc from) n ws;
        more = rw same (ap (λ r. w ∷ (filter (is_on from) ws ++ r)) (other_parts w (suc from) n ws (omega (arith, is))));
        less = refl;
      }
  | inr other ↦
      let apart : w.leaf.number ≡ from → ⊥ = λ is. grind (arith, nat_tests, other, is) in
      let rest = split w (suc from) n ws (omega (arith, least, apart)) (omega (arith, most)) in
      let own = filter (is_on from) ws in
      record {
        front = own ++ rest.front;
        back = rest.back;
        more = rw other (ap (λ r. own ++ r) rest.more ∙ sym (append_assoc own rest.front (w ∷ rest.back)));
        less = ap (λ r. own ++ r) rest.less ∙ sym (append_assoc own rest.front rest.back);
      }
]

ordered_parts : (n : ℕ) (ws : List Waiting) → All (λ w. w.leaf.number < n) ws → AllPairs IsEarlier ws → by_arrival (parts 0 n ws) ≡ ws
ordered_parts n [] on pairs = ap by_arrival (no_parts 0 n)
ordered_parts n (w ∷ ws) on pairs =
    let number : w.leaf.number < n = on 0 w (omega arith) in
    let here = split w 0 n ws (omega arith) (omega (arith, number)) in
    let all : IsBefore w ws = before_all w ws (λ k d within. pairs 0 (suc k) d (omega arith) (omega (arith, within))) in
    let apart : IsBefore w (here.front ++ here.back) = rw here.less at (before_parts w 0 n ws all) in
    let rest = ordered_parts n ws (λ k d within. on (suc k) d (omega (arith, within))) (λ i j d less within. pairs (suc i) (suc j) d (omega (arith, less)) (omega (arith, within))) in
    ap by_arrival here.more ∙ (first_of_all w here.front here.back apart ∙ (ap (λ r. w ∷ by_arrival r) (sym here.less) ∙ ap (λ r. w ∷ r) rest))

-- the messages of all queues in order of arrival are what waits
pub ordered : (queues : List (List Waiting)) (waiting : List Waiting) → AreQueuesOf queues waiting → by_arrival (all_of queues) ≡ waiting
ordered queues waiting are =
    let each : (leaf : ℕ) → leaf < length queues → get_or queues leaf [] ≡ filter (is_on (0 + leaf)) waiting = λ leaf within.
    let same : 0 + leaf ≡ leaf = omega arith in
    rw same (are.each leaf (omega (arith, within, are.size))) in
    ap by_arrival (all_parts queues 0 waiting each) ∙ (ap (λ n. by_arrival (parts 0 n waiting)) are.size ∙ ordered_parts 64 waiting are.on are.in_order)
