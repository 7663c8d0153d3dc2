-- Laws of the images of a disk in memory.
use Rattle.std.specs.Prelude.{◌≡◌, ℕ, ◌+◌, ◌-◌, ◌≤◌, min, List, [], ◌∷◌, ◌++◌, length, take, drop, map}
use Rattle.std.proofs.Common.{refl, ap, subst, ◌∙◌, arith, le_refl, le_antisymm, length-append, length-take, length-drop, append_assoc}
use Rattle.std.proofs.lemmas.List.{take_at, drop_at, length-map}
use Rattle.com_disk.specs.Disks.{IsTorn}
use Rattle.com_disk.specs.Memory.{Memory, State, Pending, put, place, written, content_of, image_of, IsImage, IsImageOf, HadImage, state_at, state_of}
use Rattle.com_disk.specs.declared.torn.Torn.{Torn}
use Rattle.com_disk.specs.declared.torn.Torn.TheVariants.{Old, New, Ones}

-- bytes that were written are one outcome of a write that was cut short
pub put_torn : (old bytes : List ℕ) (at : ℕ) → at ≤ length old → IsTorn at (length bytes) old (put old at bytes)
put_torn old bytes at le =
    let front : length (take at old) ≡ at = omega (arith, length-take at old) in
    let long : length (take at old ++ bytes) ≡ at + length bytes = omega (arith, front, length-append (take at old) bytes) in
    let all : length (put old at bytes) ≡ at + length bytes + length (drop (at + length bytes) old) = omega (arith, long, length-append (take at old ++ bytes) (drop (at + length bytes) old)) in
    record {
      before = ap (take at) (append_assoc (take at old) bytes (drop (at + length bytes) old)) ∙ take_at (take at old) (bytes ++ drop (at + length bytes) old) at front;
      after = drop_at (take at old ++ bytes) (drop (at + length bytes) old) (at + length bytes) long;
      no_shorter = omega (arith, all, length-drop (at + length bytes) old);
      no_longer = omega (arith, all, length-drop (at + length bytes) old);
    }

pub put_length : (old bytes : List ℕ) (at : ℕ) → at ≤ length old → length (put old at bytes) ≡ at + length bytes + (length old - (at + length bytes))
put_length old bytes at le = omega (arith, length-take at old, length-append (take at old) bytes, length-append (take at old ++ bytes) (drop (at + length bytes) old), length-drop (at + length bytes) old)

content_is_one : (base : List ℕ) (pending : Pending) → IsImage base pending (written (λ bytes. bytes) base pending)
content_is_one base [] = refl
content_is_one base (write ∷ older) = (
  written (λ bytes. bytes) base older,
  content_is_one base older,
  put_torn (written (λ bytes. bytes) base older) write.1 (place (written (λ bytes. bytes) base older) write.0) (omega arith),
)

pub content_is_image : (s : State) → IsImageOf s (content_of s)
content_is_image s = content_is_one s.base s.pending

module _ (base : List ℕ) where
  old_is_one : (pending : Pending) → IsImage base pending base
  old_is_one [] = refl
  old_is_one (write ∷ older) = (base, old_is_one older, record { before = refl; after = refl; no_shorter = omega arith; no_longer = omega arith })

  same_length : (pending : Pending) → length (written (map (λ _. 1)) base pending) ≡ length (written (λ bytes. bytes) base pending)
  same_length [] = refl
  same_length (write ∷ older) =
      let ones = written (map (λ _. 1)) base older in
      let now = written (λ bytes. bytes) base older in
      omega (arith, same_length older, put_length ones (map (λ _. 1) write.1) (place ones write.0) (omega arith), put_length now write.1 (place now write.0) (omega arith), length-map {A = ℕ} {B = ℕ} write.1 (λ _. 1))

  ones_is_one : (pending : Pending) → IsImage base pending (written (map (λ _. 1)) base pending)
  ones_is_one [] = refl
  ones_is_one (write ∷ older) =
      let ones = written (map (λ _. 1)) base older in
      let now = written (λ bytes. bytes) base older in (
        ones,
        ones_is_one older,
        subst (λ n. IsTorn (place now write.0) n ones (put ones (place ones write.0) (map (λ _. 1) write.1))) (length-map {A = ℕ} {B = ℕ} write.1 (λ _. 1))
            (subst (λ p. IsTorn p (length {A = ℕ} (map (λ _. 1) write.1)) ones (put ones (place ones write.0) (map (λ _. 1) write.1))) (ap (min write.0) (same_length older)) (put_torn ones (map (λ _. 1) write.1) (place ones write.0) (omega arith))),
      )

-- what a crash leaves is one of the images
pub torn_image : (torn : Torn) (s : State) → IsImageOf s (image_of torn s)
torn_image Old s = old_is_one s.base s.pending
torn_image New s = content_is_image s
torn_image Ones s = ones_is_one s.base s.pending

pub had_now : (m : Memory) (t : ℕ) (c : List ℕ) → t ≤ m.calls → IsImageOf (state_of m) c → HadImage m t c
had_now m t c le now = (m.calls, le, le_refl m.calls, now)

pub had_only : (m : Memory) (c : List ℕ) → HadImage m m.calls c → IsImageOf (state_of m) c
had_only m c had = subst (λ k. IsImageOf (state_at m.first m.writes k) c) (le_antisymm had.2 had.1) had.3
