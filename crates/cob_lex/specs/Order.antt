-- Tokens in the order in which they stand.
use Rattle.std.specs.Prelude.{◌≡◌, Bool, true, ◌&&◌, ◌||◌, ◌==◌, nat_lt, List, [], ◌∷◌}
use Rattle.cob_lex.specs.declared.token.Token.{Token}

-- a token stands before another: in an earlier line, or in its line at an earlier column
abbrev pub stands_before : Token → Token → Bool
stands_before t u = nat_lt t.line u.line || (t.line == u.line && nat_lt t.column u.column)

-- a token stands before each of some
abbrev pub StandsBeforeAll : Token → List Token → Type 0
StandsBeforeAll t [] = Unit {0}
StandsBeforeAll t (u ∷ us) = (stands_before t u ≡ true) × StandsBeforeAll t us

-- each token stands before all that follow it
abbrev pub AreInOrder : List Token → Type 0
AreInOrder [] = Unit {0}
AreInOrder (t ∷ ts) = StandsBeforeAll t ts × AreInOrder ts
