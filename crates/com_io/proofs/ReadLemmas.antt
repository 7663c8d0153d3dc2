-- Reading a file chunk by chunk.
use Rattle.std.proofs.Common.{◌≡◌, ℕ, ◌+◌, ◌≤◌, List, ◌++◌, length, take, drop, Option, Some, None, refl, ap, sym, ◌∙◌, arith, append_assoc, length-append}
use Rattle.std.specs.Prelude.{IfSome}
use Rattle.std.specs.Io.KnownBytes.{Consumes, IsAtEnd, Keeps}
use Rattle.std.proofs.lemmas.List.{take_all, drop-drop}
use Rattle.std.proofs.Math.Seq.{take-append_seam, drop-append_seam}
use Rattle.com_io.specs.Reads.{HasReadAll, HasTaken}

-- a chunk goes on where the bytes before it ended
pub consumes_more : (told left rest : Option (List ℕ)) (bytes chunk : List ℕ) → Consumes told left bytes → Consumes left rest chunk → Consumes told rest (bytes ++ chunk)
consumes_more None left rest bytes chunk a b = tt
consumes_more (Some xs) None rest bytes chunk a b = elim a [ ]
consumes_more (Some xs) (Some ys) None bytes chunk a b = b
consumes_more (Some xs) (Some ys) (Some zs) bytes chunk a b = a ∙ (ap (λ s. bytes ++ s) b ∙ sym (append_assoc bytes chunk zs))

-- what was read is a front of the file, and the rest is left
pub consumes_front : (xs ys bytes : List ℕ) → xs ≡ bytes ++ ys → bytes ≡ take (length bytes) xs
consumes_front xs ys bytes e = rw (e, take-append_seam bytes ys) refl

pub consumes_rest : (xs ys bytes : List ℕ) → xs ≡ bytes ++ ys → ys ≡ drop (length bytes) xs
consumes_rest xs ys bytes e = rw (e, drop-append_seam bytes ys) refl

-- at one byte past the limit all is read that is wanted
pub read_full : (limit : ℕ) (told left : Option (List ℕ)) (bytes : List ℕ) → Consumes told left bytes → length bytes ≡ limit + 1 → IfSome told (HasReadAll limit bytes left)
read_full limit None left bytes h full = tt
read_full limit (Some xs) None bytes h full = elim h [ ]
read_full limit (Some xs) (Some ys) bytes h full = record {
  all = consumes_front xs ys bytes h ∙ ap (λ n. take n xs) full;
  rest = ap Some (consumes_rest xs ys bytes h);
}

-- and so it is at the end of the file
pub read_end : (limit : ℕ) (told left : Option (List ℕ)) (bytes : List ℕ) → Consumes told left bytes → length bytes ≤ limit + 1 → IsAtEnd left → IfSome told (HasReadAll limit bytes left)
read_end limit None left bytes h short ended = tt
read_end limit (Some xs) None bytes h short ended = elim h [ ]
read_end limit (Some xs) (Some ys) bytes h short ended =
    let whole : length xs ≡ length bytes = omega (arith, ap length h, ap length ended, length-append bytes ys) in
    record {
      all = consumes_front xs ys bytes h ∙ (take_all (length bytes) xs (omega arith) ∙ sym (take_all (limit + 1) xs (omega arith)));
      rest = ap Some (consumes_rest xs ys bytes h);
    }

-- no more than one byte past the limit was taken
pub taken_by : (limit before : ℕ) (told left : Option (List ℕ)) (bytes : List ℕ) → Consumes told left bytes → before + length bytes ≤ limit + 1 → IfSome told (HasTaken limit before left)
taken_by limit before None left bytes h few = tt
taken_by limit before (Some xs) None bytes h few = elim h [ ]
taken_by limit before (Some xs) (Some ys) bytes h few = record { count = length bytes; few = few; rest = ap Some (consumes_rest xs ys bytes h) }

pub taken_none : (limit before : ℕ) (told left : Option (List ℕ)) → Keeps told left → before ≤ limit + 1 → IfSome told (HasTaken limit before left)
taken_none limit before None left h few = tt
taken_none limit before (Some xs) None h few = elim h [ ]
taken_none limit before (Some xs) (Some ys) h few = record { count = 0; few = omega arith; rest = ap Some h }

-- what was taken after the bytes that were read
pub taken_behind : (limit : ℕ) (told left rest : Option (List ℕ)) (bytes : List ℕ) → Consumes told left bytes → IfSome left (HasTaken limit (length bytes) rest) → IfSome told (HasTaken limit 0 rest)
taken_behind limit None left rest bytes h t = tt
taken_behind limit (Some xs) None rest bytes h t = elim h [ ]
taken_behind limit (Some xs) (Some ys) rest bytes h t = record {
  count = length bytes + t.count;
  few = omega (arith, t.few);
  rest = t.rest ∙ ap Some (rw (consumes_rest xs ys bytes h, drop-drop t.count (length bytes) xs) refl);
}
