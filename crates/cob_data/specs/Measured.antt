-- What is kept of an entry beside its tokens.
use Rattle.std.specs.Prelude.{◌≡◌, ◌≤◌, ℕ, List}
use Rattle.cob_lex.specs.declared.token.Token.{Token}
use Rattle.cob_data.specs.Levels as levels

-- the rank and the size of an entry are those that its tokens give
pub record IsMeasured (entry : List Token) (rank size : ℕ) : Type 0 where
  pub rank_is : rank ≡ levels.rank entry
  pub size_is : size ≡ levels.own_size entry
  pub most : size ≤ 2000
