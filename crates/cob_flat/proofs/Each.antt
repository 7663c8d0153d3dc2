-- Lists that are made of lists, one for one.
use Rattle.std.proofs.Common.{◌≡◌, ℕ, ◌+◌, ◌<◌, ◌≤◌, Bool, List, [], ◌∷◌, ◌++◌, length, drop, get_or, append_assoc, append-nil, Option, Some, None, refl, sym, ap, ◌∙◌, subst, arith}
use Rattle.std.specs.List.{AllByRecursion}
use Rattle.std.proofs.lemmas.List.{drop_more, drop_all}
use Rattle.cob_proc.specs.declared.tree.Condition.{Condition}
use Rattle.cob_proc.specs.declared.tree.Identifier.{Identifier}
use Rattle.cob_proc.specs.declared.tree.Joint.{Joint}
use Rattle.cob_proc.specs.declared.tree.Simple.{Simple}
use Rattle.cob_data.specs.declared.tree.ItemPlace.{ItemPlace}
use Rattle.cob_meaning.specs.Layouts.{Layout, ◌>>=◌}
use Rattle.cob_meaning.specs.Storage.{Storage, with_prefix}
use Rattle.cob_meaning.specs.Moves.{Content, filled, item_at, moved}
use Rattle.cob_meaning.specs.Conditions.{holds, part_holds, parts_hold, together}
use Rattle.cob_flat.specs.declared.operands.SimpleTest.{SimpleTest}
use Rattle.cob_flat.specs.declared.operands.Spot.{Spot}
use Rattle.cob_flat.specs.declared.operands.Test.{Test}
use Rattle.cob_flat.specs.Effects.{filled_by, holds_by, item_by, part_by, parts_by}
use Rattle.cob_flat.specs.Flat.{IsTestOf}
use Rattle.cob_flat.specs.inner.Operands.{AreEach, IsPartOf, IsSpotOf}

-- what is made of all, once it is made of those that are left
abbrev pub AreMade : {A B : Type 0} → (A → B → Type 0) → List A → List A → List B → Type 0
AreMade {A} {B} R all left made = (others : List B) → AreEach R left others → AreEach R all (made ++ others)

pub one_more : {A B : Type 0} (R : A → B → Type 0) (all : List A) (i : ℕ) (d : A) (made new : List B) (y : B) → i < length all → R (get_or all i d) y → new ≡ made ++ y ∷ []
    → AreMade R all (drop i all) made → AreMade R all (drop (i + 1) all) new
one_more R all i d made new y lt r n h others e =
    subst (λ l. AreEach R all l) (sym (ap (λ l. l ++ others) n ∙ append_assoc made (y ∷ []) others))
    (h (y ∷ others) (subst (λ l. AreEach R l (y ∷ others)) (sym (drop_more all i d lt)) (r, e)))

pub all_made : {A B : Type 0} (R : A → B → Type 0) (all : List A) (i : ℕ) (made rows : List B) → length all ≤ i → rows ≡ made → AreMade R all (drop i all) made → AreEach R all rows
all_made R all i made rows past same h =
    let none = drop_all i all past in
    subst (λ l. AreEach R all l) (append-nil made ∙ sym same) (h [] (subst (λ l. AreEach R l []) (sym none) tt))

-- the first of those that are left
pub first_left : {A : Type 0} (P : A → Type 0) (all : List A) (i : ℕ) (d : A) → i < length all → AllByRecursion P (drop i all) → P (get_or all i d) × AllByRecursion P (drop (i + 1) all)
first_left P all i d lt h = subst (AllByRecursion P) (drop_more all i d lt) h

-- PARTS OF A CONDITION

part_and : (a b : Option Bool) (p q : Option (List Bool)) → a ≡ b → p ≡ q → a >>= (λ one. p >>= (λ others. Some (one ∷ others))) ≡ b >>= (λ one. q >>= (λ others. Some (one ∷ others)))
part_and a b p q e f = ap (λ x. x >>= (λ one. p >>= (λ others. Some (one ∷ others)))) e ∙ ap (λ x. b >>= (λ one. x >>= (λ others. Some (one ∷ others)))) f

parts_so : (layout : Layout) (simples : List Simple) (tests : List SimpleTest) → AreEach (IsPartOf layout) simples tests → (storage : Storage) → parts_by tests storage ≡ parts_hold layout storage simples
parts_so layout [] [] e storage = refl
parts_so layout (x ∷ xs) (y ∷ ys) e storage =
    part_and (part_by y storage) (part_holds layout storage x) (parts_by ys storage) (parts_hold layout storage xs) (e.0 storage) (parts_so layout xs ys e.1 storage)
parts_so layout (x ∷ xs) [] e storage = absurd e
parts_so layout [] (y ∷ ys) e storage = absurd e

pub holds_so : (layout : Layout) (condition : Condition) (test : Test) → test.joint ≡ condition.joint → AreEach (IsPartOf layout) condition.parts test.parts → IsTestOf layout condition test
holds_so layout condition test j e storage =
    ap (λ o. o >>= (λ parts. Some (together test.joint parts))) (parts_so layout condition.parts test.parts e storage)
    ∙ ap (λ x. parts_hold layout storage condition.parts >>= (λ parts. Some (together x parts))) j

-- THE TARGETS OF A MOVE

abbrev fill_one : (Storage → Option Storage) → Content → Storage → Option ItemPlace → Option Storage
fill_one next content storage place = place >>= (λ item. moved content item.sort item.length >>= (λ characters. next (with_prefix item characters storage)))

fill_next : (f g : Storage → Option Storage) → ((storage : Storage) → f storage ≡ g storage) → (content : Content) (storage : Storage) (place : Option ItemPlace) → fill_one f content storage place ≡ fill_one g content storage place
fill_next f g e content storage None = refl
fill_next f g e content storage (Some item) = by (moved content item.sort item.length)
  where
    by : (o : Option (List ℕ)) → o >>= (λ characters. f (with_prefix item characters storage)) ≡ o >>= (λ characters. g (with_prefix item characters storage))
    by None = refl
    by (Some characters) = e (with_prefix item characters storage)

pub filled_so : (layout : Layout) (identifiers : List Identifier) (spots : List Spot) → AreEach (IsSpotOf layout) identifiers spots → (content : Content) (storage : Storage)
    → filled_by content spots storage ≡ filled layout content identifiers storage
filled_so layout [] [] e content storage = refl
filled_so layout (x ∷ xs) (y ∷ ys) e content storage =
    ap (fill_one (filled_by content ys) content storage) (e.0 storage)
    ∙ fill_next (filled_by content ys) (filled layout content xs) (filled_so layout xs ys e.1 content) content storage (item_at layout x storage)
filled_so layout (x ∷ xs) [] e content storage = absurd e
filled_so layout [] (y ∷ ys) e content storage = absurd e
