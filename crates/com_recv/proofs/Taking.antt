-- Taking out what stands at a place of a list, and giving a portion of it.
use Rattle.std.proofs.Common.{◌≡◌, ℕ, zero, suc, ◌<◌, Bool, true, false, List, [], ◌∷◌, length, set, get_or, Some, refl, ap, ◌∙◌, arith}
use Rattle.std.specs.Prelude.{slice_get, ◌==◌}
use Rattle.std.proofs.lemmas.Bool.Decides.{nat_tests}
use Rattle.std.proofs.lemmas.Option.{same_Some, get_or_from_slice_get}
use Rattle.std.proofs.lemmas.List.{get_or-set_same}
use Rattle.std.specs.List.{remove, filter}
use Rattle.com_msg.specs.declared.message.Message.{Message}
use Rattle.com_msg.specs.declared.rest.Portion.{Portion}
use Rattle.com_msg.specs.Portion.{take_portion}
use Rattle.com_tree.specs.declared.tree.TreeRow.{TreeRow}
use Rattle.com_recv.specs.declared.giving.Request.{Request}
use Rattle.com_recv.specs.declared.lists.Held.{Held}
use Rattle.com_recv.specs.Incoming.{is_held_on, without_held, with_held, holding}
use Rattle.com_recv.specs.Areas.{given_area}
use Rattle.com_recv.specs.Giving.{Gives}

-- the others stay, whatever was written there
pub others_stay : {X : Type 0} → (xs : List X) (at : ℕ) (new : X) → remove (set xs at new) at ≡ remove xs at
others_stay [] at new = refl
others_stay (x ∷ xs) zero new = refl
others_stay (x ∷ xs) (suc at) new = ap (λ rest. x ∷ rest) (others_stay xs at new)

-- an element that does not pass is missed by no filter
pub filter_remove : {X : Type 0} (p : X → Bool) → (xs : List X) (at : ℕ) (x : X) → slice_get xs at ≡ Some x → p x ≡ false → filter p (remove xs at) ≡ filter p xs
filter_remove p [] zero x is fails = refl
filter_remove p [] (suc at) x is fails = refl
filter_remove p (y ∷ xs) zero x is fails =
    let same : y ≡ x = same_Some y x is in
    let here : p y ≡ false = rw same fails in
    rw here refl
filter_remove p (y ∷ xs) (suc at) x is fails = rw (filter_remove p xs at x is fails) refl

-- a portion is told of by the message that it was taken from
pub gives : (tree : List TreeRow) (request : Request) (leaf : ℕ) (message rest : Message) (portion : Portion) (held before : List Held) (area told : List ℕ) (left : List Held)
    → (portion, rest) ≡ take_portion request.kind request.size message → told ≡ given_area tree leaf rest portion area
    → left ≡ holding request.unit leaf rest before → without_held request.unit leaf before ≡ without_held request.unit leaf held
    → Gives tree request leaf message held area told left portion.text
gives tree request leaf message rest portion held before area told left taken shown kept others =
    let all = take_portion request.kind request.size message in
    let same : rest ≡ all.1 = ap (λ t. t.1) taken in
    let given : portion ≡ all.0 = ap (λ t. t.0) taken in
    record {
      given = ap (λ p. p.text) given;
      shown = shown ∙ (ap (λ r. given_area tree leaf r portion area) same ∙ ap (λ p. given_area tree leaf message p area) given);
      kept = kept ∙ (ap (λ r. holding request.unit leaf r before) same ∙ ap (λ o. with_held request.unit leaf all.1 all.1.segments o) others);
    }

-- what is taken out of a place is what was written there
pub taken_out : {X : Type 0} → (xs : List X) (at : ℕ) (new found : X) → at < length xs → found ≡ get_or (set xs at new) at found → found ≡ new
taken_out xs at new found within is = is ∙ get_or-set_same xs at new found within

-- what is lent is what stands there
pub lent : {X : Type 0} → (xs : List X) (at : ℕ) (x y : X) → at < length xs → x ≡ get_or xs at x → slice_get xs at ≡ Some y → x ≡ y
lent xs at x y within is there = is ∙ get_or_from_slice_get xs at y x there

same_number : (n : ℕ) → (n == n) ≡ true
same_number n = grind (arith, nat_tests)

-- what stands at a place is held by its unit from its leaf
pub passes : (h : Held) → is_held_on h.unit h.leaf.number h ≡ true
passes h = rw (same_number h.unit, same_number h.leaf.number) refl
