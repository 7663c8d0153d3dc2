-- What the calls answer, by the definitions of tokens.
use Rattle.std.specs.Prelude.{◌≡◌, List, ◌++◌, Result, Ok, Err}
use Rattle.cob_lex.specs.declared.fault.SourceFault.{SourceFault}
use Rattle.cob_lex.specs.declared.fault.SourceError.{SourceError}
use Rattle.cob_lex.specs.declared.fault.SourceError.TheVariants.{Refused, Memory}
use Rattle.cob_lex.specs.declared.token.Token.{Token}
use Rattle.cob_lex.specs.Lexing.{Taken, taken}

-- An error is the refusal of the fault that is meant. Out of memory says nothing.
abbrev pub IsRefusal : {A : Type 0} → SourceError → Result A SourceFault → Type 0
IsRefusal (Refused fault) meant = meant ≡ Err fault
IsRefusal (Memory error) meant = Unit {0}

-- what was taken after tokens that were there before
abbrev pub with_front : List Token → Result Taken SourceFault → Result Taken SourceFault
with_front tokens (Ok others) = Ok (taken (tokens ++ others.tokens) others.awaited)
with_front tokens (Err fault) = Err fault

-- tokens after tokens that were there before
abbrev pub with_tokens : List Token → Result (List Token) SourceFault → Result (List Token) SourceFault
with_tokens tokens (Ok others) = Ok (tokens ++ others)
with_tokens tokens (Err fault) = Err fault
