-- The versions of the text of journals.
use Rattle.std.specs.Prelude.{◌≡◌, ℕ}

-- the one version that there is
abbrev pub IsVersion : ℕ → Type 0
IsVersion version = version ≡ 1
