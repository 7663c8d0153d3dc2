-- Words that stand for one another, and words that may be left out, worked out by hand.
use Rattle.std.proofs.Common.{◌≡◌, ℕ, List, [], ◌∷◌, Option, None, refl, codes}
use Rattle.cob_lex.specs.declared.fault.SourceFault.{SourceFault}
use Rattle.cob_lex.specs.Fronts.{front_of}
use Rattle.cob_lex.specs.Lexing.{lines_tokens, text_tokens, tokens_of}
use Rattle.cob_forms.specs.Forms.{next, reading}
use Rattle.cob_proc.specs.Faults.{procedure_fault}
use Rattle.cob_proc.proofs.WorkedSources.{tokens_in, statements}

-- the first fault of a source
abbrev fault_in : List ℕ → Option SourceFault
fault_in source = procedure_fault (tokens_in (tokens_of source))

-- SPACE, SPACES, ZERO, ZEROS and ZEROES
constants : fault_in (statements (codes "MOVE SPACE TO A MOVE SPACES TO A MOVE ZERO TO A" ∷ codes "MOVE ZEROS TO A MOVE ZEROES TO A." ∷ [])) ≡ None
unfolding lines_tokens text_tokens front_of next reading
constants = refl

-- relations with and without TO and THAN
relations : fault_in (statements (codes "IF A EQUAL B AND A EQUAL TO B AND A GREATER B" ∷ codes "AND A GREATER THAN B AND A LESS B AND A LESS THAN B EXIT." ∷ [])) ≡ None
unfolding lines_tokens text_tokens front_of next reading
relations = refl

-- the ends of a SEND with and without WITH
ends : fault_in (statements (codes "SEND C ESI SEND C WITH ESI SEND C EMI SEND C WITH EMI" ∷ codes "SEND C EGI SEND C WITH EGI SEND C FROM A EGI." ∷ [])) ≡ None
unfolding lines_tokens text_tokens front_of next reading
ends = refl

-- how a text is advanced
advances : fault_in (statements (codes "SEND C EMI BEFORE PAGE SEND C EMI AFTER ADVANCING PAGE" ∷ codes "SEND C EMI BEFORE 2 LINE SEND C EMI AFTER N (1) LINES" ∷ codes "SEND C EMI BEFORE N." ∷ [])) ≡ None
unfolding lines_tokens text_tokens front_of next reading
advances = refl
