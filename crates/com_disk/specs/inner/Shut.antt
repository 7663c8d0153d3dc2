-- Bytes that a closed gate shuts, for the function that writes a record.
use Rattle.std.specs.Prelude.{◌≡◌, ◌⊎◌, ℕ, List, ◌∷◌, ◌++◌, length}
use Rattle.com_disk.specs.Disks.{Only}
use Rattle.com_disk.specs.Logs.{IsShut}

-- the content is shut after a front of this length, and nothing is pending
pub record IsShutAt {D : Type 0} (content : D → List ℕ) (images : D → List ℕ → Type 0)
    (at : ℕ) (disk : D) (front : List ℕ) : Type 0 where
  pub shut : IsShut front (content disk)
  pub place : length front ≡ at
  pub durable : Only (content disk) (images disk)

-- the image is shut after the front, or after the front with an open gate and these bytes
abbrev pub IsShutOrLonger : List ℕ → List ℕ → List ℕ → Type 0
IsShutOrLonger front bytes image = IsShut front image ⊎ IsShut (front ++ 1 ∷ bytes) image
