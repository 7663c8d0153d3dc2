-- The first of several faults, and where a token is wanted.
use Rattle.std.specs.Prelude.{ℕ, zero, suc, ◌-◌, Bool, true, false, ◌&&◌, ◌||◌, ◌==◌, nat_lt, List, [], ◌∷◌, length, take, drop, Option, Some, None, if◌then◌else◌}
use Rattle.cob_lex.specs.declared.fault.SourceFault.{SourceFault}
use Rattle.cob_lex.specs.declared.fault.SourceKind.{SourceKind}
use Rattle.cob_lex.specs.declared.fault.SourceKind.TheVariants as faults
use Rattle.cob_lex.specs.declared.token.Token.{Token}
use Rattle.cob_forms.specs.Forms.{Reading, ends, wanted}

-- the order of kinds at one place
abbrev pub rank : SourceKind → ℕ
rank faults.BadCharacter = 0
rank faults.BadColumn = 1
rank faults.BadWord = 2
rank faults.BadPicture = 3
rank faults.WantedWord = 4
rank faults.TwiceDeclared = 5
rank faults.UnknownName = 6
rank faults.WrongKind = 7
rank faults.WrongLength = 8
rank faults.LeavesRange = 9
rank faults.PerformsItself = 10
rank faults.TwoInitial = 11
rank faults.OverLimit = 12

-- a fault stands before another: in an earlier line, or column, or of an earlier kind
abbrev pub is_before : SourceFault → SourceFault → Bool
is_before x y =
    nat_lt x.line y.line
    || (x.line == y.line && (nat_lt x.column y.column || (x.column == y.column && nat_lt (rank x.kind) (rank y.kind))))

abbrev pub earlier : Option SourceFault → Option SourceFault → Option SourceFault
earlier None other = other
earlier (Some x) None = Some x
earlier (Some x) (Some y) = if is_before y x then Some y else Some x

-- the first of all
abbrev pub first : List SourceFault → Option SourceFault
first [] = None
first (x ∷ xs) = earlier (Some x) (first xs)

abbrev pub fault : ℕ → ℕ → SourceKind → SourceFault
fault line column kind = record { line = line; column = column; kind = kind }

-- a fault at a token, where there is one
abbrev pub noted : Bool → SourceKind → Token → List SourceFault
noted true kind t = fault t.line t.column kind ∷ []
noted false kind t = []

-- a fault at the first of some tokens, or at line 1 column 1 where there is none
abbrev pub at_first : SourceKind → List Token → SourceFault
at_first kind [] = fault 1 1 kind
at_first kind (t ∷ ts) = fault t.line t.column kind

-- how many tokens stand before the place where another is wanted: where the tokens end too early, that
-- is the last one
abbrev pub before_wanted : List Token → ℕ → ℕ
before_wanted ts zero = length ts - 1
before_wanted ts (suc left) = length ts - suc left

-- the fault of a reading that stopped, and the tokens that count for other faults
abbrev pub wanted_word : List Token → Reading → Option SourceFault
wanted_word ts (ends left) = None
wanted_word ts (wanted left) = Some (at_first faults.WantedWord (drop (before_wanted ts left) ts))

abbrev pub counting : List Token → Reading → List Token
counting ts (ends left) = take (length ts - length left) ts
counting ts (wanted left) = take (before_wanted ts left) ts
