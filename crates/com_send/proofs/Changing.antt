-- Changing the destinations that are named, one after another.
use Rattle.std.proofs.Common.{◌≡◌, ◌≢◌, ℕ, zero, suc, ◌+◌, ◌<◌, ◌≤◌, Bool, true, false, inl, inr, List, [], ◌∷◌, ◌++◌, length, map, get_or, set, take, drop, refl, sym, ap, ◌∙◌, arith, add-one}
use Rattle.std.specs.Prelude.{◌||◌, ◌&&◌, if◌then◌else◌}
use Rattle.std.specs.List.{enumerate_from, list_any}
use Rattle.std.proofs.lemmas.Bool.{cases_lt, false≢true}
use Rattle.std.proofs.lemmas.Grind.{get_or-set_at}
use Rattle.std.proofs.lemmas.List.{map-set, get_or-map, get_or-set_other, set-get_or, length-map}
use Rattle.std.proofs.Math.ListN.{get_or-map as get_or-map-any}
use Rattle.com_msg.specs.Begun.{OpenMessage}
use Rattle.com_send.specs.declared.output.Output.{Output}
use Rattle.com_send.specs.Outgoing.{DestinationState, Outgoing}
use Rattle.com_send.specs.Found.{Found, is_among}
use Rattle.com_send.specs.Kept.{state_of, states_of, EachNamed}

-- a destination that is named is changed
abbrev pub changed_at : Found → (DestinationState → DestinationState) → ℕ → DestinationState → DestinationState
changed_at found change at state = if is_among found at then change state else state

-- the destinations from a number on are changed, where they are named
abbrev pub changed : Found → (DestinationState → DestinationState) → ℕ → Outgoing → Outgoing
changed found change first states =
    map (λ (at, state). changed_at found change at state) (enumerate_from first states)

-- those before a place were changed, where they are named, and the others are as they were
pub record ChangedSoFar (found : Found) (change : DestinationState → DestinationState) (before after : List Output) (at : ℕ) : Type 0 where
  pub states : states_of after ≡ changed found change 0 (take at (states_of before)) ++ drop at (states_of before)
  pub others : (k : ℕ) (d : Output) → at ≤ k → get_or after k d ≡ get_or before k d

-- one destination more is changed
set_changed : (found : Found) (change : DestinationState → DestinationState) (first : ℕ) (states : Outgoing) (i m : ℕ) (v d : DestinationState)
    → m ≡ first + i → i < length states → v ≡ changed_at found change m (get_or states i d)
    → set (changed found change first (take i states) ++ drop i states) i v
    ≡ changed found change first (take (suc i) states) ++ drop (suc i) states
set_changed found change first [] i m v d same within is = absurd (omega arith)
set_changed found change first (s ∷ states) zero m v d same within is =
    let here : m ≡ first = omega arith in
    ap (λ (x : DestinationState). x ∷ states) (is ∙ ap (λ (k : ℕ). changed_at found change k s) here)
set_changed found change first (s ∷ states) (suc i) m v d same within is =
    ap (λ (rest : Outgoing). changed_at found change first s ∷ rest)
    (set_changed found change (first + 1) states i m v d (omega arith) (omega arith) is)

-- a destination that is named was changed
pub so_far_changed : (found : Found) (change : DestinationState → DestinationState) (before after : List Output) (at : ℕ) (new d : Output)
    → ChangedSoFar found change before after at → at < length before → is_among found at ≡ true
    → state_of new ≡ change (state_of (get_or after at d))
    → ChangedSoFar found change before (set after at new) (at + 1)
so_far_changed found change before after at new d h within among is =
    let lent : state_of (get_or after at d) ≡ state_of (get_or before at d) = ap state_of (h.others at d (omega arith)) in
    record {
      states =
          map-set state_of after at new
          ∙ (ap (λ (states : Outgoing). set states at (state_of new)) h.states
          ∙ rw add-one (set_changed found change 0 (states_of before) at at (state_of new) (state_of d) (omega arith) (rw (length-map before state_of) within)
          (is ∙ (ap change lent ∙ rw (get_or-map state_of before at d (state_of d) within, among) refl))));
      others = λ k e above.
          let other : k ≢ at = omega arith in
          get_or-set_other after at k new e other ∙ h.others k e (omega arith);
    }

-- one that is not named stays
pub so_far_same : (found : Found) (change : DestinationState → DestinationState) (before after : List Output) (at : ℕ) (d : Output)
    → ChangedSoFar found change before after at → at < length before → is_among found at ≡ false
    → ChangedSoFar found change before after (at + 1)
so_far_same found change before after at d h within among =
    let lent = get_or after at d in
    let same : lent ≡ get_or before at d = h.others at d (omega arith) in
    let stays : set (states_of after) at (state_of lent) ≡ states_of after = sym (map-set state_of after at lent) ∙ ap states_of (set-get_or after at d) in
    record {
      states =
          sym stays
          ∙ (ap (λ (states : Outgoing). set states at (state_of lent)) h.states
          ∙ rw add-one (set_changed found change 0 (states_of before) at at (state_of lent) (state_of d) (omega arith) (rw (length-map before state_of) within)
          (ap state_of same ∙ rw (get_or-map state_of before at d (state_of d) within, among) refl)));
      others = λ k e above. h.others k e (omega arith);
    }

-- P of one destination more
pub named_more : (found : Found) (P : Output → Type 0) (n : ℕ) (outputs : List Output) (new : Output)
    → n < length outputs → EachNamed found P n outputs → P new → EachNamed found P (n + 1) (set outputs n new)
named_more found P n outputs new within before here = λ k d below among.
    elim (cases_lt k n) [
      | inl less ↦
          let other : k ≢ n = omega arith in
          rw (get_or-set_other outputs n k new d other) (before k d less among)
      | inr more ↦
          let same : k ≡ n = omega arith in
          rw (get_or-set_at outputs n k new d same within) here
    ]

-- or of one that is not named
pub named_skip : (found : Found) (P : Output → Type 0) (n : ℕ) (outputs : List Output)
    → is_among found n ≡ false → EachNamed found P n outputs → EachNamed found P (n + 1) outputs
named_skip found P n outputs not_named before = λ k d below among.
    elim (cases_lt k n) [
      | inl less ↦ before k d less among
      | inr more ↦
          let same : k ≡ n = omega arith in
          absurd (false≢true (sym not_named ∙ (ap (is_among found) (sym same) ∙ among)))
    ]

-- outputs that are seen as the same have begun the same for each unit
pub begun_length : (outputs others : List Output) (at : ℕ) (d : Output) → states_of outputs ≡ states_of others
    → length (get_or outputs at d).begun.items ≡ length (get_or others at d).begun.items
begun_length outputs others at d same =
    let begun = λ (message : OpenMessage). message.begun in
    let one = length-map (get_or outputs at d).begun.items begun in
    let two = length-map (get_or others at d).begun.items begun in
    let states : state_of (get_or outputs at d) ≡ state_of (get_or others at d) =
    sym (get_or-map-any state_of outputs at d) ∙ (ap (λ (states : Outgoing). get_or states at (state_of d)) same ∙ get_or-map-any state_of others at d) in
    sym one ∙ (ap (λ (state : DestinationState). length state.begun) states ∙ two)

-- a test of the destinations is one of what is kept of them
pub any_kept : (p : ℕ → DestinationState → Bool) (first : ℕ) (outputs : List Output)
    → list_any (λ (at, output). p at (state_of output)) (enumerate_from first outputs)
    ≡ list_any (λ (at, state). p at state) (enumerate_from first (states_of outputs))
any_kept p first [] = refl
any_kept p first (output ∷ outputs) = ap (λ (rest : Bool). p first (state_of output) || rest) (any_kept p (first + 1) outputs)

turned : (a b : Bool) → (a && b) ≡ (b && a)
turned true true = refl
turned true false = refl
turned false true = refl
turned false false = refl

-- two tests of the destinations may come in the other order
pub any_turned : (p q : ℕ → DestinationState → Bool) (first : ℕ) (states : Outgoing)
    → list_any (λ (at, state). p at state && q at state) (enumerate_from first states)
    ≡ list_any (λ (at, state). q at state && p at state) (enumerate_from first states)
any_turned p q first [] = refl
any_turned p q first (state ∷ states) =
    ap (λ (b : Bool). b || list_any (λ (at, state). p at state && q at state) (enumerate_from (first + 1) states)) (turned (p first state) (q first state))
    ∙ ap (λ (b : Bool). (q first state && p first state) || b) (any_turned p q (first + 1) states)
