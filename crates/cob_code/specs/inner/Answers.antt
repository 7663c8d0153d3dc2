-- What the two passes answer.
use Rattle.std.specs.Prelude.{List, Option, Some, None}
use Rattle.cob_lex.specs.declared.fault.SourceFault.{SourceFault}
use Rattle.cob_proc.specs.Trees.{ParagraphTree}
use Rattle.cob_meaning.specs.Meaning.{Program}
use Rattle.cob_meaning.specs.Ranges.{IsFirstOf, IsRangesFault}
use Rattle.cob_meaning.specs.Sources.{HasNoTreesFault, IsTreesFaultOf}

-- the first fault of ranges, or none
abbrev pub IsRangesAnswer : List ParagraphTree → Option SourceFault → Type 0
IsRangesAnswer text (Some fault) = IsFirstOf (IsRangesFault text) fault
IsRangesAnswer text None = (fault : SourceFault) → IsRangesFault text fault → ⊥

-- the first fault of both passes, or none
abbrev pub IsAnswer : Program → Option SourceFault → Type 0
IsAnswer program (Some fault) = IsTreesFaultOf program fault
IsAnswer program None = HasNoTreesFault program
