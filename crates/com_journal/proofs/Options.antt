-- Steps of readers that answer an option.
use Rattle.std.proofs.Common.{◌≡◌, true, None, Some, Option, Bool, false, refl, option_map, cond, List, ℕ}
use Rattle.std.specs.Str.{bytes_eq}
use Rattle.std.proofs.lemmas.Option.{none-some, same_Some}
use Rattle.std.proofs.lemmas.Slice.Eq.{bytes_eq-Decides}
use Rattle.com_journal.specs.inner.Outcomes.{◌>>=◌}

-- what a step of a reader found, where the reader found something
pub step : {A B P : Type 0} (o : Option A) (f : A → Option B) (y : B) → (o >>= f) ≡ Some y → ((x : A) → o ≡ Some x → f x ≡ Some y → P) → P
step None f y h next = absurd (none-some y h)
step (Some x) f y h next = next x refl h

-- what an option held that was mapped to this
pub option_map-Some : {A B : Type 0} (f : A → B) (o : Option A) (y : B) → option_map f o ≡ Some y → (x : A) × (o ≡ Some x) × (f x ≡ y)
option_map-Some f None y h = absurd (none-some y h)
option_map-Some f (Some x) y h = (x, refl, same_Some (f x) y h)

-- what a reader under a test found, where the test passes
pub if-Some : {A : Type 0} (b : Bool) (o : Option A) (y : A) → cond b o None ≡ Some y → (b ≡ true) × (o ≡ Some y)
if-Some true o y h = (refl, h)
if-Some false o y h = absurd (none-some y h)

-- what cannot be found is none
pub None-of : {A : Type 0} (o : Option A) → ((x : A) → o ≡ Some x → ⊥) → None ≡ o
None-of None h = refl
None-of (Some x) h = absurd (h x refl)

-- equal bytes pass the test for it, and no others
pub eq-bytes_eq : (xs ys : List ℕ) → xs ≡ ys → bytes_eq xs ys ≡ true
eq-bytes_eq xs ys e = (bytes_eq-Decides xs ys).1 e

pub bytes_eq-true : (xs ys : List ℕ) → bytes_eq xs ys ≡ true → xs ≡ ys
bytes_eq-true xs ys e = (bytes_eq-Decides xs ys).0 e
