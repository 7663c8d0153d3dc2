-- The account of each message: it waits, a unit has it in hand, or it is handed out.
use Rattle.std.proofs.Common.{◌≡◌, ◌≢◌, ℕ, ◌+◌, ◌<◌, ◌≤◌, Bool, true, false, cond, ◌&&◌, List, [], ◌∷◌, ◌++◌, Some, length, map, refl, sym, ap, ◌∙◌, inl, inr, arith, eq-eqb, nat_le}
use Rattle.std.specs.Prelude.{◌⊎◌, ◌==◌, slice_get, IsTrue}
use Rattle.std.specs.List.{filter, list_all, list_any, concat}
use Rattle.std.proofs.lemmas.Bool.{ne_eqb, eqb-true, and_parts, and_from, leb-true, le-leb}
use Rattle.std.proofs.lemmas.List.{append-nil}
use Rattle.std.proofs.lemmas.List.Elements.{filter-append}
use Rattle.com_msg.specs.declared.message.RawMessage.{RawMessage}
use Rattle.com_msg.specs.declared.message.Message.{Message}
use Rattle.com_net.specs.declared.net.Net.{Net}
use Rattle.com_state.specs.Wholeness.{HandedOut, Arrival, is_last_key, texts_of, each_once, numbers_on, IsWholeMessage, IsLeftWith}
use Rattle.com_state.proofs.Places.{get_front}
use Rattle.com_state.proofs.Firsts.{AreApart, waiting_on}
use Rattle.com_state.specs.State.{State, unit_mode}
use Rattle.com_state.specs.declared.parties.UnitMode.TheVariants.{Stopped}
use Rattle.com_recv.specs.declared.lists.Waiting.{Waiting}
use Rattle.com_recv.specs.declared.lists.Held.{Held}
use Rattle.com_recv.specs.Receiving.{count}
use Rattle.com_recv.proofs.Members.{Among, any_among, among_any}

-- the portions of one message
abbrev pub portions_in : List HandedOut → ℕ → List HandedOut
portions_in handed number = filter (λ portion. portion.arrival == number) handed

-- the numbers that were handed out of a leaf
abbrev pub handed_on : ℕ → List HandedOut → List ℕ
handed_on leaf handed = map (λ portion. portion.arrival) (filter (λ portion. portion.leaf == leaf) handed)

-- The rest of a message that has arrived on a leaf, when a unit alone has had these portions of it.
pub record IsRest (arrivals : List Arrival) (portions : List HandedOut) (unit leaf : ℕ) (rest : Message) : Type 0 where
  pub place : ℕ
  pub message : RawMessage
  pub number : rest.arrival ≡ place + 1
  pub arrived : slice_get arrivals place ≡ Some (record { number = place + 1; leaf = leaf; message = message })
  pub one_unit : IsTrue (list_all (λ portion. portion.unit == unit) portions)
  pub one_leaf : IsTrue (list_all (λ portion. portion.leaf == leaf) portions)
  pub unended : list_any (λ portion. is_last_key portion.end_key) portions ≡ false
  pub text : texts_of portions ++ concat rest.segments ≡ concat message.segments

-- a message that waits: it has arrived on its leaf, and nothing of it was handed out
abbrev pub IsFresh : List Arrival → List HandedOut → Waiting → Type 0
IsFresh arrivals handed w = (portions_in handed w.message.arrival ≡ []) × ((unit : ℕ) → IsRest arrivals [] unit w.leaf.number w.message)

-- what a unit holds: the rest of a message of which it has had a portion
abbrev pub IsInHand : List Arrival → List HandedOut → Held → Type 0
IsInHand arrivals handed h =
    (portions_in handed h.rest.arrival ≢ []) × IsRest arrivals (portions_in handed h.rest.arrival) h.unit h.leaf.number h.rest

-- a unit holds no more than one message from a leaf
abbrev pub IsOneEach : List Held → Type 0
IsOneEach held = (h other : Held) → Among h held → Among other held → h.unit ≡ other.unit → h.leaf.number ≡ other.leaf.number → h.rest.arrival ≡ other.rest.arrival

-- each arrival is handed out whole
abbrev pub AreWhole : State → List Arrival → List HandedOut → Type 0
AreWhole S arrivals handed = (n : ℕ) (arrival : Arrival) → slice_get arrivals n ≡ Some arrival → IsWholeMessage S arrival.number arrival.message (portions_in handed arrival.number)

-- the arrivals are numbered from 1
abbrev pub AreNumbered : List Arrival → Type 0
AreNumbered arrivals = (n : ℕ) (arrival : Arrival) → slice_get arrivals n ≡ Some arrival → arrival.number ≡ n + 1

-- the number is one of so many
abbrev pub is_arrived : ℕ → ℕ → Bool
is_arrived arrival count = nat_le 1 arrival && nat_le arrival count

-- what was handed out of each leaf, and what waits there, are its arrivals in order
abbrev pub AreInOrder : List Arrival → List HandedOut → List Waiting → Type 0
AreInOrder arrivals handed waiting = (leaf : ℕ) → each_once (handed_on leaf handed) ++ waiting_on leaf waiting ≡ numbers_on leaf arrivals

-- The accounts of a state, after these arrivals and these portions.
pub record Accounts (network : Net) (arrivals : List Arrival) (handed : List HandedOut) (S : State) : Type 0 where
  pub net : S.net ≡ network
  pub count : S.arrivals ≡ length arrivals
  pub numbered : AreNumbered arrivals
  pub waiting : (w : Waiting) → Among w S.incoming.waiting → IsFresh arrivals handed w
  pub apart : AreApart S.incoming.waiting
  pub held : (h : Held) → Among h S.incoming.held → IsInHand arrivals handed h
  pub one_each : IsOneEach S.incoming.held
  pub arrived : IsTrue (list_all (λ portion. is_arrived portion.arrival (length arrivals)) handed)
  pub whole : AreWhole S arrivals handed
  pub order : AreInOrder arrivals handed S.incoming.waiting

-- a portion of this message comes after its others
pub portions_same : (handed : List HandedOut) (portion : HandedOut) (number : ℕ) → portion.arrival ≡ number → portions_in (handed ++ portion ∷ []) number ≡ portions_in handed number ++ portion ∷ []
portions_same handed portion number e =
    let here : (portion.arrival == number) ≡ true = eq-eqb portion.arrival number e in
    filter-append (λ portion. portion.arrival == number) handed (portion ∷ []) ∙ ap (λ b. portions_in handed number ++ cond b (portion ∷ []) []) here

-- a portion of another message is none of this one
pub portions_other : (handed : List HandedOut) (portion : HandedOut) (number : ℕ) → portion.arrival ≢ number → portions_in (handed ++ portion ∷ []) number ≡ portions_in handed number
portions_other handed portion number ne =
    let elsewhere : (portion.arrival == number) ≡ false = ne_eqb portion.arrival number ne in
    filter-append (λ portion. portion.arrival == number) handed (portion ∷ []) ∙ (ap (λ b. portions_in handed number ++ cond b (portion ∷ []) []) elsewhere ∙ append-nil (portions_in handed number))

-- more arrivals leave a rest
pub rest_grown : (arrivals more : List Arrival) (portions : List HandedOut) (unit leaf : ℕ) (rest : Message) → IsRest arrivals portions unit leaf rest → IsRest (arrivals ++ more) portions unit leaf rest
rest_grown arrivals more portions unit leaf rest h = record {
  place = h.place;
  message = h.message;
  number = h.number;
  arrived = get_front arrivals more h.place (record { number = h.place + 1; leaf = leaf; message = h.message }) h.arrived;
  one_unit = h.one_unit;
  one_leaf = h.one_leaf;
  unended = h.unended;
  text = h.text;
}

-- what leaves a message with a unit, or the unit stopped, leaves the message whole
pub whole_stays : (S next : State) (number : ℕ) (message : RawMessage) (portions : List HandedOut) → ((unit : ℕ) → IsLeftWith S unit number → IsLeftWith next unit number)
    → IsWholeMessage S number message portions → IsWholeMessage next number message portions
whole_stays S next number message [] left h = tt
whole_stays S next number message (portion ∷ portions) left h = record {
  one_unit = h.one_unit;
  front = h.front;
  once = h.once;
  whole = elim h.whole [ inl given ↦ inl given | inr with_unit ↦ inr (left portion.unit with_unit) ];
}

-- the unit holds the rest of the message with this number
abbrev pub holds_number : ℕ → ℕ → Held → Bool
holds_number unit number h = h.unit == unit && h.rest.arrival == number

-- a message stays with a unit that goes on to hold it, or that stops
pub left_stays : (S next : State) (unit number : ℕ) → (unit_mode S unit ≡ Some Stopped → unit_mode next unit ≡ Some Stopped)
    → ((h : Held) → Among h S.incoming.held → h.unit ≡ unit → h.rest.arrival ≡ number → Among h next.incoming.held ⊎ (unit_mode next unit ≡ Some Stopped))
    → IsLeftWith S unit number → IsLeftWith next unit number
left_stays S next unit number stay keeps (inr has_stopped) = inr (stay has_stopped)
left_stays S next unit number stay keeps (inl holds) =
    let one = any_among (holds_number unit number) S.incoming.held holds in
    let parts = and_parts (one.0.unit == unit) (one.0.rest.arrival == number) one.2 in
    elim (keeps one.0 one.1 (eqb-true one.0.unit unit parts.0) (eqb-true one.0.rest.arrival number parts.1)) [
      | inl still ↦ inl (among_any (holds_number unit number) one.0 next.incoming.held still one.2)
      | inr has_stopped ↦ inr has_stopped
    ]

-- portions that are all of one and all of another are of the same
pub one_hand : (number : HandedOut → ℕ) (portions : List HandedOut) (one other : ℕ) → portions ≢ [] → IsTrue (list_all (λ portion. number portion == one) portions)
    → IsTrue (list_all (λ portion. number portion == other) portions) → one ≡ other
one_hand number [] one other some h k = absurd (some refl)
one_hand number (portion ∷ portions) one other some h k =
    let first : number portion ≡ one = eqb-true (number portion) one (and_parts (number portion == one) _ h).0 in
    let second : number portion ≡ other = eqb-true (number portion) other (and_parts (number portion == other) _ k).0 in
    sym first ∙ second

-- a message that has had no number yet has no portion
pub none_new : (handed : List HandedOut) (count number : ℕ) → IsTrue (list_all (λ portion. is_arrived portion.arrival count) handed) → count < number → portions_in handed number ≡ []
none_new [] count number h new = refl
none_new (portion ∷ handed) count number h new =
    let parts = and_parts (is_arrived portion.arrival count) (list_all (λ portion. is_arrived portion.arrival count) handed) h in
    let low : portion.arrival ≤ count = leb-true portion.arrival count (and_parts (nat_le 1 portion.arrival) (nat_le portion.arrival count) parts.0).1 in
    let elsewhere : (portion.arrival == number) ≡ false = ne_eqb portion.arrival number (omega arith) in
    rw elsewhere (none_new handed count number parts.1 new)

-- more arrivals leave what has arrived
pub arrived_grown : (handed : List HandedOut) (count more : ℕ) → count ≤ more → IsTrue (list_all (λ portion. is_arrived portion.arrival count) handed)
    → IsTrue (list_all (λ portion. is_arrived portion.arrival more) handed)
arrived_grown [] count more h all = refl
arrived_grown (portion ∷ handed) count more h all =
    let parts = and_parts (is_arrived portion.arrival count) (list_all (λ portion. is_arrived portion.arrival count) handed) all in
    let bounds = and_parts (nat_le 1 portion.arrival) (nat_le portion.arrival count) parts.0 in
    let low : portion.arrival ≤ count = leb-true portion.arrival count bounds.1 in
    and_from (is_arrived portion.arrival more) (list_all (λ portion. is_arrived portion.arrival more) handed)
    (and_from (nat_le 1 portion.arrival) (nat_le portion.arrival more) bounds.0 (le-leb portion.arrival more (omega arith))) (arrived_grown handed count more h parts.1)
