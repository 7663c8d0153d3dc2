-- Writing bytes piece by piece.
use Rattle.std.proofs.Common.{◌≡◌, ℕ, ◌+◌, ◌-◌, List, ◌++◌, length, take, drop, Option, Some, None, ap, ◌∙◌, append_assoc, arith, length-drop}
use Rattle.std.proofs.lemmas.List.{take_all}
use Rattle.std.proofs.Math.Seq.{take-add}
use Rattle.std.specs.Io.KnownBytes.{Appends, Keeps}

-- known bytes that grew twice
pub appends_more : (first mid last : Option (List ℕ)) (front more : List ℕ) → Appends first mid front → Appends mid last more → Appends first last (front ++ more)
appends_more None mid last front more a b = tt
appends_more (Some xs) None last front more a b = elim a [ ]
appends_more (Some xs) (Some ys) None front more a b = b
appends_more (Some xs) (Some ys) (Some zs) front more a b = b ∙ (ap (λ s. s ++ more) a ∙ append_assoc xs front more)

-- a further piece of the bytes was written
pub appends_piece : (first mid last : Option (List ℕ)) (bytes : List ℕ) (at n : ℕ) → Appends first mid (take at bytes) → Appends mid last (take n (drop at bytes)) → Appends first last (take (at + n) bytes)
appends_piece first mid last bytes at n a b = rw take-add (appends_more first mid last (take at bytes) (take n (drop at bytes)) a b)

-- what stays has grown by nothing more
pub appends_kept : (first mid last : Option (List ℕ)) (front : List ℕ) → Appends first mid front → Keeps mid last → Appends first last front
appends_kept None mid last front a k = tt
appends_kept (Some xs) None last front a k = elim a [ ]
appends_kept (Some xs) (Some ys) (Some zs) front a k = k ∙ a
appends_kept (Some xs) (Some ys) None front a k = k

-- what a slice from a place on holds
pub slice_rest : (bytes : List ℕ) (at : ℕ) → take (length bytes - at) (drop at bytes) ≡ drop at bytes
slice_rest bytes at = take_all (length bytes - at) (drop at bytes) (omega (arith, length-drop at bytes))

pub slice_length : (bytes : List ℕ) (at : ℕ) → length (take (length bytes - at) (drop at bytes)) ≡ length bytes - at
slice_length bytes at = ap length (slice_rest bytes at) ∙ length-drop at bytes
