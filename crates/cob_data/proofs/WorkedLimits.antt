-- How many names and characters a program may have: the limits, and which characters count, worked out by hand.
use Rattle.std.proofs.Common.{◌≡◌, ℕ, ◌*◌, ◌^◌, List, [], ◌∷◌, Option, Some, None, refl, codes}
use Rattle.cob_lex.specs.declared.fault.SourceFault.{SourceFault}
use Rattle.cob_lex.specs.declared.fault.SourceKind.TheVariants as faults
use Rattle.cob_lex.specs.declared.token.Token.{Token}
use Rattle.cob_lex.specs.Fronts.{front_of}
use Rattle.cob_lex.specs.Lexing.{lines_tokens, text_tokens, tokens_of}
use Rattle.cob_forms.specs.Forms.{next, reading}
use Rattle.cob_forms.specs.Faults.{fault, first}
use Rattle.cob_data.specs.Faults.{Limits, data_faults, division_reading, faults_by}
use Rattle.cob_data.proofs.Sources.{tokens_in, entries}

-- the limits of every program: 2,000 names, and 65,536 characters
limits_are : (ts : List Token) → data_faults ts ≡ faults_by (record { names = 2 * 10 ^ 3; characters = 2 ^ 16 }) ts (division_reading ts)
limits_are ts = refl

abbrev up_to : ℕ → Limits
up_to most = record { names = 5; characters = most }

abbrev fault_up_to : ℕ → List Token → Option SourceFault
fault_up_to most ts = first (faults_by (up_to most) ts (division_reading ts))

-- two records over one CD, each of the 23 characters of its area
abbrev two_records : List Token
two_records = tokens_in (tokens_of (entries (codes "       CD  C OUTPUT." ∷ codes "       01  R." ∷ codes "           02 A PIC X(11)." ∷ codes "           02 FILLER PIC X(12)." ∷ codes "       01  S PIC X(23)." ∷ [])))

-- the characters of both count, and those of the area itself do not
as_many_as_may_be : fault_up_to 46 two_records ≡ None
unfolding lines_tokens text_tokens front_of next reading
as_many_as_may_be = refl

-- the second is one too many
second_record_too_many : fault_up_to 45 two_records ≡ Some (fault 9 8 faults.OverLimit)
unfolding lines_tokens text_tokens front_of next reading
second_record_too_many = refl

-- an item inside the first is told at its own level
item_too_many : fault_up_to 22 two_records ≡ Some (fault 8 12 faults.OverLimit)
unfolding lines_tokens text_tokens front_of next reading
item_too_many = refl
