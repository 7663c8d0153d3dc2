-- What was read from a source so far, beside what it has left.
use Rattle.std.specs.Prelude.{◌≡◌, ℕ, ◌+◌, ◌≤◌, List, ◌++◌, length, drop, Option, Some}
use Rattle.std.specs.Io.KnownBytes.{Consumes, IsAtEnd}
use Rattle.com_io.specs.Files.{bytes_read}

-- the bytes are the file, or its front to one byte past the limit, and the source has the rest
pub record HasReadAll (limit : ℕ) (bytes : List ℕ) (left : Option (List ℕ))
    (file : List ℕ) : Type 0 where
  pub all : bytes ≡ bytes_read limit file
  pub rest : left ≡ Some (drop (length bytes) file)

-- Some bytes were taken: with those before, at most one past the limit. The source has the rest.
pub record HasTaken (limit before : ℕ) (left : Option (List ℕ)) (file : List ℕ) : Type 0 where
  pub count : ℕ
  pub few : before + count ≤ limit + 1
  pub rest : left ≡ Some (drop count file)

-- `n` bytes were read behind those before; none only at the end
pub record ReadsChunk (limit n : ℕ) (before after : List ℕ)
    (left rest : Option (List ℕ)) : Type 0 where
  pub chunk : List ℕ
  pub many : length chunk ≡ n
  pub appended : after ≡ before ++ chunk
  pub short : length before + n ≤ limit + 1
  pub taken : Consumes left rest chunk
  pub ended : n ≡ 0 → IsAtEnd rest
