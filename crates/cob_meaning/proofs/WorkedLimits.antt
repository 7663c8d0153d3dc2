-- The limits of units and of sources.
use Rattle.std.proofs.Common.{◌≡◌, ◌^◌, ℕ, List, length, Some, refl, arith}
use Rattle.cob_lex.specs.declared.fault.SourceFault.{SourceFault}
use Rattle.cob_lex.specs.declared.fault.SourceKind.TheVariants as faults
use Rattle.cob_forms.specs.Faults.{fault}
use Rattle.cob_meaning.specs.Meaning.{unit_limits}
use Rattle.cob_meaning.specs.Sources.{IsSourceFaultOf, of_length, of_text, text_fault}

-- 1,000,000 statements and turns, and 10,000 verbs
limits_are : unit_limits ≡ record { statements = 10 ^ 6; verbs = 10 ^ 4 }
unfolding unit_limits
limits_are = refl

-- a source of one byte more than may be is refused, whatever it is
one_byte_more : (source : List ℕ) → length source ≡ 1048577 → IsSourceFaultOf source (fault 1 1 faults.OverLimit)
one_byte_more source e = of_length (omega (arith, e))

-- one of just as many has the fault that its text has
longest_source : (source : List ℕ) (found : SourceFault) → length source ≡ 1048576 → text_fault source ≡ Some found → IsSourceFaultOf source found
longest_source source found e f = of_text (omega (arith, e)) f
