-- What an adapter makes of any reader and writer.
use Rattle.std.specs.Prelude.{ℕ, List, take, Option}
use Rattle.std.specs.Io.KnownBytes.{Appends}

-- known bytes grew by a front of these
pub record AppendsFront (before after : Option (List ℕ)) (bytes : List ℕ) : Type 0 where
  pub count : ℕ
  pub appended : Appends before after (take count bytes)
