-- One more portion of a message: what is left of it, and when it is handed out whole.
use Rattle.std.proofs.Common.{◌≡◌, ℕ, Bool, true, false, not, ◌||◌, List, [], ◌∷◌, ◌++◌, map, refl, sym, ap, ◌∙◌, inl, inr, subst, eq-eqb, append_assoc}
use Rattle.std.specs.Prelude.{◌⊎◌, ◌==◌, IsTrue}
use Rattle.std.specs.List.{concat, list_all, list_any}
use Rattle.std.proofs.lemmas.Bool.{eqb-true, and_parts, and_from, or_parts, or_from, or_left, or_right, not_from_false, cases_Bool, true≢false}
use Rattle.std.proofs.lemmas.List.{append-nil, map-append}
use Rattle.std.proofs.lemmas.List.Folds.{concat-append, list_all-append, list_any-append}
use Rattle.com_msg.specs.declared.message.RawMessage.{RawMessage}
use Rattle.com_msg.specs.declared.message.Message.{Message}
use Rattle.com_msg.specs.Portion.{with_pieces}
use Rattle.com_state.specs.Wholeness.{HandedOut, Arrival, is_last_key, texts_of, are_ended_once, IsWholeMessage, IsHandedTo, IsLeftWith, IsGivenWhole}
use Rattle.com_state.proofs.Taken.{is_nothing_left}
use Rattle.com_state.proofs.Accounts.{IsRest}
use Rattle.com_state.specs.State.{State}
use Rattle.com_recv.specs.declared.lists.Held.{Held}
use Rattle.com_recv.specs.Incoming.{with_held}
use Rattle.com_recv.proofs.Members.{Among}

-- the text of one portion more
texts_more : (portions : List HandedOut) (portion : HandedOut) → texts_of (portions ++ portion ∷ []) ≡ texts_of portions ++ portion.text
texts_more portions portion =
    let text = λ (p : HandedOut). p.text in
    ap concat (map-append text portions (portion ∷ [])) ∙ (concat-append (map text portions) (portion.text ∷ []) ∙ ap (λ last. texts_of portions ++ last) (append-nil portion.text))

-- one more that passes, after others that do
pub all_more : {X : Type 0} (p : X → Bool) (xs : List X) (x : X) → list_all p xs ≡ true → p x ≡ true → list_all p (xs ++ x ∷ []) ≡ true
all_more {X} p xs x all one = list_all-append p xs (x ∷ []) ∙ and_from (list_all p xs) (list_all p (x ∷ [])) all (and_from (p x) true one refl)

-- no portion but the last may end a message
ended_more : (portions : List HandedOut) (portion : HandedOut) → list_any (λ (p : HandedOut). is_last_key p.end_key) portions ≡ false → IsTrue (are_ended_once (portions ++ portion ∷ []))
ended_more [] portion h = refl
ended_more (one ∷ []) portion h =
    let goes : is_last_key one.end_key ≡ false = (or_parts (is_last_key one.end_key) false h).0 in
    and_from (not (is_last_key one.end_key)) true (not_from_false (is_last_key one.end_key) goes) refl
ended_more (one ∷ two ∷ portions) portion h =
    let parts = or_parts (is_last_key one.end_key) (list_any (λ (p : HandedOut). is_last_key p.end_key) (two ∷ portions)) h in
    and_from (not (is_last_key one.end_key)) (are_ended_once (two ∷ (portions ++ portion ∷ []))) (not_from_false (is_last_key one.end_key) parts.0) (ended_more (two ∷ portions) portion parts.1)

-- what a portion takes of a rest, and the pieces that it leaves
pub record IsTaken (unit leaf : ℕ) (rest : Message) (portion : HandedOut) (left : List (List ℕ)) : Type 0 where
  pub unit_is : portion.unit ≡ unit
  pub leaf_is : portion.leaf ≡ leaf
  pub text : portion.text ++ concat left ≡ concat rest.segments
  pub key : is_last_key portion.end_key ≡ is_nothing_left left

-- with what is left, the portions are the text of the message
text_more : (arrivals : List Arrival) (portions : List HandedOut) (unit leaf : ℕ) (rest : Message) (portion : HandedOut) (left : List (List ℕ))
    → (h : IsRest arrivals portions unit leaf rest) → IsTaken unit leaf rest portion left → texts_of (portions ++ portion ∷ []) ++ concat left ≡ concat h.message.segments
text_more arrivals portions unit leaf rest portion left h taken =
    ap (λ front. front ++ concat left) (texts_more portions portion) ∙ (append_assoc (texts_of portions) portion.text (concat left) ∙ (ap (λ behind. texts_of portions ++ behind) taken.text ∙ h.text))

-- all of them are of the unit
unit_more : (arrivals : List Arrival) (portions : List HandedOut) (unit leaf : ℕ) (rest : Message) (portion : HandedOut) (left : List (List ℕ))
    → IsRest arrivals portions unit leaf rest → IsTaken unit leaf rest portion left → IsTrue (list_all (λ (p : HandedOut). p.unit == unit) (portions ++ portion ∷ []))
unit_more arrivals portions unit leaf rest portion left h taken = all_more (λ (p : HandedOut). p.unit == unit) portions portion h.one_unit (eq-eqb portion.unit unit taken.unit_is)

-- what is left is a rest again
pub rest_more : (arrivals : List Arrival) (portions : List HandedOut) (unit leaf : ℕ) (rest : Message) (portion : HandedOut) (left : List (List ℕ))
    → IsRest arrivals portions unit leaf rest → IsTaken unit leaf rest portion left → is_nothing_left left ≡ false → IsRest arrivals (portions ++ portion ∷ []) unit leaf (with_pieces left rest)
rest_more arrivals portions unit leaf rest portion left h taken more = record {
  place = h.place;
  message = h.message;
  number = h.number;
  arrived = h.arrived;
  one_unit = unit_more arrivals portions unit leaf rest portion left h taken;
  one_leaf = all_more (λ (p : HandedOut). p.leaf == leaf) portions portion h.one_leaf (eq-eqb portion.leaf leaf taken.leaf_is);
  unended = list_any-append (λ (p : HandedOut). is_last_key p.end_key) portions (portion ∷ [])
      ∙ or_from (list_any (λ (p : HandedOut). is_last_key p.end_key) portions) (is_last_key portion.end_key || false) h.unended (or_from (is_last_key portion.end_key) false (taken.key ∙ more) refl);
  text = text_more arrivals portions unit leaf rest portion left h taken;
}

-- where nothing is left, the message is handed out whole
given_more : (arrivals : List Arrival) (portions : List HandedOut) (unit leaf : ℕ) (rest : Message) (portion : HandedOut) (left : List (List ℕ))
    → (h : IsRest arrivals portions unit leaf rest) → IsTaken unit leaf rest portion left → is_nothing_left left ≡ true → IsGivenWhole (portions ++ portion ∷ []) h.message
given_more arrivals portions unit leaf rest portion [] h taken none = (
  sym (append-nil (texts_of (portions ++ portion ∷ []))) ∙ text_more arrivals portions unit leaf rest portion [] h taken,
  list_any-append (λ (p : HandedOut). is_last_key p.end_key) portions (portion ∷ [])
      ∙ or_right (list_any (λ (p : HandedOut). is_last_key p.end_key) portions) (is_last_key portion.end_key || false) (or_left (is_last_key portion.end_key) false taken.key),
)
given_more arrivals portions unit leaf rest portion (piece ∷ left) h taken none = absurd (true≢false (sym none))

-- a message that is handed to one unit is whole
whole_from : (S : State) (number : ℕ) (message : RawMessage) (portions : List HandedOut) (unit : ℕ) → IsHandedTo S number message portions unit → IsWholeMessage S number message portions
whole_from S number message [] unit h = tt
whole_from S number message (portion ∷ portions) unit h =
    let its : portion.unit ≡ unit = eqb-true portion.unit unit (and_parts (portion.unit == unit) (list_all (λ (p : HandedOut). p.unit == unit) portions) h.one_unit).0 in
    subst (IsHandedTo S number message (portion ∷ portions)) (sym its) h

-- after the portion, the message is whole, where the unit holds what is left
pub whole_more : (arrivals : List Arrival) (portions : List HandedOut) (unit leaf : ℕ) (rest : Message) (portion : HandedOut) (left : List (List ℕ)) (S : State) (number : ℕ)
    → (h : IsRest arrivals portions unit leaf rest) → IsTaken unit leaf rest portion left → (is_nothing_left left ≡ false → IsLeftWith S unit number) → IsWholeMessage S number h.message (portions ++ portion ∷ [])
whole_more arrivals portions unit leaf rest portion left S number h taken holds = whole_from S number h.message (portions ++ portion ∷ []) unit record {
  one_unit = unit_more arrivals portions unit leaf rest portion left h taken;
  front = (concat left, sym (text_more arrivals portions unit leaf rest portion left h taken));
  once = ended_more portions portion h.unended;
  whole = elim (cases_Bool (is_nothing_left left)) [
    | inl none ↦ inl (given_more arrivals portions unit leaf rest portion left h taken none)
    | inr more ↦ inr (holds more)
  ];
}

-- what is held then: what is left, and what was held besides
pub held_cases : (unit leaf : ℕ) (rest : Message) (left : List (List ℕ)) (held : List Held) (h : Held) → Among h (with_held unit leaf rest left held)
    → ((is_nothing_left left ≡ false) × (h ≡ record { unit = unit; leaf = record { number = leaf }; rest = rest })) ⊎ Among h held
held_cases unit leaf rest [] held h among = inr among
held_cases unit leaf rest (piece ∷ left) held h (inl e) = inl (refl, e)
held_cases unit leaf rest (piece ∷ left) held h (inr among) = inr among

pub held_besides : (unit leaf : ℕ) (rest : Message) (left : List (List ℕ)) (held : List Held) (h : Held) → Among h held → Among h (with_held unit leaf rest left held)
held_besides unit leaf rest [] held h among = among
held_besides unit leaf rest (piece ∷ left) held h among = inr among

pub held_left : (unit leaf : ℕ) (rest : Message) (left : List (List ℕ)) (held : List Held) → is_nothing_left left ≡ false → Among (record { unit = unit; leaf = record { number = leaf }; rest = rest }) (with_held unit leaf rest left held)
held_left unit leaf rest [] held more = absurd (true≢false more)
held_left unit leaf rest (piece ∷ left) held more = inl refl
