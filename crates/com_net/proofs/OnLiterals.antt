-- What an answer unfolds to compute a description that is written out.
use Rattle.std.specs.Prelude.{⊤}
use Rattle.std.specs.Fmt.{digits}
use Rattle.std.specs.Str.{is_utf8, chars}
use Rattle.toml.proofs.OnLiterals.{toml_on_literals}

unfoldable pub on_literals : ⊤
unfolding toml_on_literals digits is_utf8 chars
on_literals = tt
