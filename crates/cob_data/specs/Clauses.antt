-- The clauses of a CD entry, and the fields that they name.
use Rattle.std.specs.Prelude.{ℕ, ◌+◌, ◌*◌, Bool, true, false, not, ◌&&◌, ◌||◌, if◌then◌else◌, List, [], ◌∷◌, find, codes, Option, Some, None, option_map}
use Rattle.cob_data.specs.Numerals.{numeral}
use Rattle.cob_lex.specs.declared.token.Token.{Token}
use Rattle.cob_lex.specs.declared.token.TokenKind.TheVariants as tokens
use Rattle.cob_forms.specs.Sorts.{reserved, name, of_kind, is}
use Rattle.cob_forms.specs.Readers.{begins}
use Rattle.com_cd.specs.declared.input_area.InField.{InField}
use Rattle.com_cd.specs.declared.input_area.InField.TheVariants as cd
use Rattle.com_cd.specs.declared.output_area.OutField.{OutField}
use Rattle.com_cd.specs.declared.output_area.OutField.TheVariants as out
use Rattle.cob_data.specs.Entries.{pieces, all_but_last, has, behind}

-- a CD entry is for input
abbrev pub is_input : List Token → Bool
is_input entry = has (codes "INPUT") entry

-- what stands behind INPUT or OUTPUT
abbrev pub body_of : List Token → List Token
body_of entry = behind (λ t. is (reserved (codes "INPUT")) t
    || is (reserved (codes "OUTPUT")) t) entry

-- a token is a name or FILLER
abbrev pub is_name_or_filler : Token → Bool
is_name_or_filler t = is name t || is (reserved (codes "FILLER")) t

-- the eleven names of an input CD stand in place of clauses
abbrev pub lists_names : List Token → Bool
lists_names [] = false
lists_names (t ∷ ts) = is_name_or_filler t

-- a clause ends with its name, or with the number of a table and its TIMES
abbrev pub ends_clause : Token → List Token → Bool
ends_clause t ts =
    is name t || is (reserved (codes "TIMES")) t
    || (is (of_kind tokens.Number) t && not (begins (is (reserved (codes "TIMES"))) ts))

-- the clauses behind which a further token stands
abbrev pub all_clauses : List Token → List (List Token)
all_clauses body = all_but_last (pieces ends_clause body)

-- the clauses of a CD entry, none where it lists names
abbrev pub clauses_of : List Token → List (List Token)
clauses_of entry = if lists_names (body_of entry) then [] else all_clauses (body_of entry)

-- The words by which the clauses of an input CD are told apart. The first of them that stands in a
-- clause is the clause's.
abbrev pub input_words : List (List ℕ × InField)
input_words =
    (codes "QUEUE", cd.Queue) ∷ (codes "SUB-QUEUE-1", cd.Sub1) ∷ (codes "SUB-QUEUE-2", cd.Sub2)
    ∷ (codes "SUB-QUEUE-3", cd.Sub3) ∷ (codes "DATE", cd.Date) ∷ (codes "TIME", cd.Time)
    ∷ (codes "SOURCE", cd.Source) ∷ (codes "LENGTH", cd.Length) ∷ (codes "END", cd.EndKey)
    ∷ (codes "STATUS", cd.Status) ∷ (codes "COUNT", cd.Count) ∷ []

-- Those of an output CD, with None for the clause of its table. The names for ERROR KEY and for
-- SYMBOLIC DESTINATION are those of the first occurrence.
abbrev pub output_words : List (List ℕ × Option OutField)
output_words =
    (codes "COUNT", Some out.Count) ∷ (codes "LENGTH", Some out.Length)
    ∷ (codes "STATUS", Some out.Status)
    ∷ (codes "TABLE", None) ∷ (codes "ERROR", Some (out.Error 0))
    ∷ (codes "DESTINATION", Some (out.Destination 0)) ∷ []

-- the first pair whose word stands in a clause
abbrev pub first_pair : {A : Type 0} → List (List ℕ × A) → List Token → Option (List ℕ × A)
first_pair words clause = find (λ pair. has pair.0 clause) words

-- the field that a clause is for
unfoldable pub input_field_of : List Token → Option InField
input_field_of clause = option_map (λ pair. pair.1) (first_pair input_words clause)

-- the field that a clause of an output CD is for, or that it is the table
unfoldable pub output_field_of : List Token → Option (Option OutField)
output_field_of clause = option_map (λ pair. pair.1) (first_pair output_words clause)

-- the word of a pair, and no characters where there is none
abbrev pub word_of_pair : {A : Type 0} → Option (List ℕ × A) → List ℕ
word_of_pair None = []
word_of_pair (Some pair) = pair.0

-- the word that tells the clause of an input or output CD from others of its CD
abbrev pub clause_word : Bool → List Token → List ℕ
clause_word true clause = word_of_pair (first_pair input_words clause)
clause_word false clause = word_of_pair (first_pair output_words clause)

-- the first number among some tokens
abbrev pub number_in : List Token → Option Token
number_in ts = find (is (of_kind tokens.Number)) ts

-- how often the destinations of an output CD occur, and how long the area of a CD is
abbrev pub occurrences : List Token → Option ℕ
occurrences entry = option_map (λ t. numeral t.text) (number_in entry)

-- one, where no number is given
abbrev pub or_one : Option ℕ → ℕ
or_one None = 1
or_one (Some n) = n

-- how many characters the area of a CD has
abbrev pub area_length : List Token → ℕ
area_length entry = if is_input entry then 87 else 10 + 13 * or_one (occurrences entry)
