-- Tokens that say some divisions.
use Rattle.std.specs.Prelude.{ℕ, List}
use Rattle.cob_lex.specs.declared.token.Token.{Token}
use Rattle.cob_data.specs.declared.tree.DataDivision.{DataDivision}
use Rattle.cob_data.specs.Divisions.{IsDivisionOf}

-- these tokens say some divisions, up to some place of the word PROCEDURE
pub record HasDivision (ts : List Token) : Type 0 where
  pub place : ℕ
  pub division : DataDivision
  pub is_division : IsDivisionOf ts place division
