-- The faults of a Procedure Division, beside the names of its data: the first of all by place and then by kind.
use Rattle.std.specs.Prelude.{ℕ, Bool, true, false, not, ◌&&◌, ◌||◌, ◌==◌, nat_le, List, [], ◌∷◌, ◌++◌, length, drop, Option, Some, None, codes, bytes_eq, if◌then◌else◌, option_to_list}
use Rattle.std.specs.List.{list_any}
use Rattle.cob_lex.specs.declared.fault.SourceFault.{SourceFault}
use Rattle.cob_lex.specs.declared.fault.SourceKind.{SourceKind}
use Rattle.cob_lex.specs.declared.fault.SourceKind.TheVariants as faults
use Rattle.cob_lex.specs.declared.token.Token.{Token}
use Rattle.cob_forms.specs.Sorts.{in_area_a, is, name, reserved}
use Rattle.cob_forms.specs.Forms.{Reading, reading, starts}
use Rattle.cob_forms.specs.Faults.{counting, first, noted, wanted_word}
use Rattle.cob_forms.specs.Readers.{begins}
use Rattle.cob_proc.specs.declared.limits.TheConstants.{MAX_IFS, MAX_PARAGRAPHS}
use Rattle.cob_proc.specs.Forms.{constant_alternatives, relation_alternatives, period, procedure_division, alternatives_of}

-- whether a token names a paragraph: it is a name behind a period
abbrev pub names_paragraph : Option Token → Token → Bool
names_paragraph None t = false
names_paragraph (Some before) t = is period before && is name t

abbrev pub in_same_line : Option Token → Token → Bool
in_same_line None t = false
in_same_line (Some before) t = before.line == t.line

-- The word PROCEDURE, which is the first, and the names of paragraphs begin in area A. No other token does,
-- unless it follows one in its line.
abbrev pub heads : Option Token → Token → Bool
heads None t = true
heads (Some before) t = names_paragraph (Some before) t

abbrev pub stands_well : Option Token → Token → Bool
stands_well before t = if heads before t then in_area_a t else in_same_line before t || not (in_area_a t)

abbrev pub bad_columns : Option Token → List Token → List SourceFault
bad_columns before [] = []
bad_columns before (t ∷ ts) = noted (not (stands_well before t)) faults.BadColumn t ++ bad_columns (Some t) ts

-- the fault of the token that comes next
abbrev pub column_behind : Token → List Token → List SourceFault
column_behind before [] = []
column_behind before (t ∷ ts) = noted (not (stands_well (Some before) t)) faults.BadColumn t

-- the tokens that name paragraphs, in order
abbrev pub paragraph_names : Option Token → List Token → List Token
paragraph_names before [] = []
paragraph_names before (t ∷ ts) = if names_paragraph before t then t ∷ paragraph_names (Some t) ts else paragraph_names (Some t) ts

-- the token that comes next, where it names a paragraph
abbrev pub name_behind : Token → List Token → List Token
name_behind before [] = []
name_behind before (t ∷ ts) = if names_paragraph (Some before) t then t ∷ [] else []

-- paragraphs whose name stands before
abbrev pub named_again : List (List ℕ) → List Token → List SourceFault
named_again before [] = []
named_again before (t ∷ ts) = noted (list_any (λ text. bytes_eq t.text text) before) faults.TwiceDeclared t ++ named_again (t.text ∷ before) ts

-- the paragraph with which their number passes the limit
abbrev pub at_next : SourceKind → List Token → List SourceFault
at_next kind [] = []
at_next kind (t ∷ ts) = noted true kind t

abbrev pub too_many : ℕ → List Token → List SourceFault
too_many limit names = at_next faults.OverLimit (drop limit names)

-- The IFs that are open, the nearest first, each with whether its ELSE has come. An ELSE belongs to the
-- nearest IF without one and ends those before it, and a period ends all.
abbrev pub behind_else : List Bool → List Bool
behind_else [] = []
behind_else (true ∷ ifs) = behind_else ifs
behind_else (false ∷ ifs) = true ∷ ifs

abbrev pub open_behind : List Bool → Token → List Bool
open_behind ifs t =
    if is period t then []
    else (if is (reserved (codes "IF")) t then false ∷ ifs
    else (if is (reserved (codes "ELSE")) t then behind_else ifs else ifs))

-- the IFs that stand in as many as may be
abbrev pub deep_ifs : ℕ → List Bool → List Token → List SourceFault
deep_ifs limit ifs [] = []
deep_ifs limit ifs (t ∷ ts) =
    noted (is (reserved (codes "IF")) t && nat_le limit (length ifs)) faults.OverLimit t ++ deep_ifs limit (open_behind ifs t) ts

-- a literal, a number, SPACE, ZERO or one of their kin
abbrev pub is_constant : Token → Bool
is_constant = starts constant_alternatives

-- the tokens behind a word that may be left out
abbrev pub behind_word : List ℕ → List Token → List Token
behind_word text [] = []
behind_word text (t ∷ ts) = if is (reserved text) t then ts else t ∷ ts

abbrev pub relates_constant : List Token → Bool
relates_constant [] = false
relates_constant (t ∷ ts) = starts relation_alternatives t && begins is_constant (behind_word (codes "TO") (behind_word (codes "THAN") ts))

-- a simple condition between two constants
abbrev pub compares_constants : List Token → Bool
compares_constants [] = false
compares_constants (t ∷ ts) = is_constant t && relates_constant (behind_word (codes "NOT") (behind_word (codes "IS") ts))

abbrev pub without_identifier : List Token → List SourceFault
without_identifier [] = []
without_identifier (t ∷ ts) = noted (compares_constants (t ∷ ts)) faults.WrongKind t ++ without_identifier ts

-- the faults of some tokens that were read
abbrev pub read_faults : List Token → List SourceFault
read_faults ts =
    bad_columns None ts ++ named_again [] (paragraph_names None ts) ++ too_many MAX_PARAGRAPHS (paragraph_names None ts) ++ deep_ifs MAX_IFS [] ts ++ without_identifier ts

-- all faults of the division: another word is wanted where reading stops, and the other faults count before it
abbrev pub faults_by : List Token → Reading → List SourceFault
faults_by ts read = option_to_list (wanted_word ts read) ++ read_faults (counting ts read)

abbrev pub procedure_faults : List Token → List SourceFault
procedure_faults ts = faults_by ts (reading alternatives_of procedure_division ts)

-- the first, by place and then by kind
abbrev pub procedure_fault : List Token → Option SourceFault
procedure_fault ts = first (procedure_faults ts)
