-- What a pass answers in place of its result.
use Rattle.std.specs.Prelude.{◌≡◌, Option, Some}
use Rattle.cob_lex.specs.declared.fault.SourceError.{SourceError}
use Rattle.cob_lex.specs.declared.fault.SourceError.TheVariants as errors
use Rattle.cob_lex.specs.declared.fault.SourceFault.{SourceFault}

-- a refusal tells the fault; memory may run out at any time
abbrev pub IsRefused : SourceError → Option SourceFault → Type 0
IsRefused (errors.Refused fault) found = found ≡ Some fault
IsRefused (errors.Memory error) found = Unit {0}
