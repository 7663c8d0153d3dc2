-- Names that were taken by the tables so far.
use Rattle.std.proofs.Common.{◌≡◌, ℕ, ◌+◌, ◌<◌, Bool, true, false, not, List, [], ◌∷◌, ◌++◌, map, length, get_or, take, drop, Bor, refl, sym, ap, ◌∙◌, add-one, if◌then◌else◌, inl, inr}
use Rattle.std.specs.List.{list_any}
use Rattle.std.specs.Str.{bytes_eq}
use Rattle.std.proofs.Math.Seq.{take-suc}
use Rattle.std.proofs.lemmas.Bool.{cases_Bool}
use Rattle.std.proofs.lemmas.List.{map-append, drop_more}
use Rattle.com_net.specs.declared.keys.Section.{Section}
use Rattle.com_net.specs.declared.keys.Key.TheVariants as key
use Rattle.com_net.specs.declared.places.TableAt.{TableAt}
use Rattle.com_net.specs.Values.{string_at}
use Rattle.com_net.specs.Places.{Place}
use Rattle.com_net.specs.inner.Seen.{seen}
use Rattle.com_net.specs.NameFaults.{names_of, clashes, clash_behind}

-- the names that a set of references has
abbrev pub known : List (Bor (List ℕ)) → List (List ℕ)
known keys = map (λ k. k.now) keys

-- a name is among references as it is among what they refer to
pub any_now : (name : List ℕ) (keys : List (Bor (List ℕ))) → list_any (λ k. bytes_eq name k.now) keys ≡ list_any (bytes_eq name) (known keys)
any_now name [] = refl
any_now name (k ∷ keys) = rw (any_now name keys)

-- one more table, and its name where it is of the kind
pub names_of_more : (test : Section → Bool) (before : List Place) (place : Place)
    → names_of test (before ++ place ∷ []) ≡ names_of test before ++ (if test place.section then string_at key.Name place.table ∷ [] else [])
names_of_more test [] place = elim (cases_Bool (test place.section)) [
  | inl here ↦ rw here refl
  | inr other ↦ rw other refl
]
names_of_more test (first ∷ before) place = elim (cases_Bool (test first.section)) [
  | inl here ↦ rw (here, names_of_more test before place) refl
  | inr other ↦ rw (other, names_of_more test before place) refl
]

-- the tables up to a place, and one more
pub one_more : (places : List TableAt) (at : ℕ) (d : TableAt) → at < length places → map seen (take (at + 1) places) ≡ map seen (take at places) ++ seen (get_or places at d) ∷ []
one_more places at d within = rw (add-one) (ap (map seen) (take-suc places at d within) ∙ map-append seen (take at places) (get_or places at d ∷ []))

-- the tables from a place on
pub from_here : (places : List TableAt) (at : ℕ) (x : TableAt) → at < length places → x ≡ get_or places at x → map seen (drop at places) ≡ seen x ∷ map seen (drop (at + 1) places)
from_here places at x within is = ap (map seen) (drop_more places at x within) ∙ ap (λ y. seen y ∷ map seen (drop (at + 1) places)) (sym is)

-- where the first of the tables that are left does not clash, the others are left
pub goes_on : (before rest : List Place) (place : Place) → clashes place before ≡ false → clash_behind before (place ∷ rest) ≡ clash_behind (before ++ place ∷ []) rest
goes_on before rest place other = rw other refl

pub flipped : (b : Bool) → not (not b) ≡ b
flipped true = refl
flipped false = refl
