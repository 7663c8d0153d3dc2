-- The lines of a source in reference format: where they end, and which of them are read.
use Rattle.std.specs.Prelude.{◌≡◌, ℕ, ◌+◌, Bool, true, false, not, ◌&&◌, ◌||◌, ◌==◌, nat_lt, if◌then◌else◌, List, [], ◌∷◌, length, slice_index, take, drop, take_while, codes, bytes_eq}
use Rattle.std.specs.List.{list_all, slice_split}
use Rattle.cob_lex.specs.declared.lines.Place.{Place}
use Rattle.cob_lex.specs.declared.lines.LineKind.{LineKind}
use Rattle.cob_lex.specs.declared.lines.LineKind.TheVariants as kinds
use Rattle.cob_lex.specs.Characters.{is_space, is_line_feed, is_return, is_period, is_word_byte, is_spacing, space_next, without_last}

abbrev pub place : ℕ → ℕ → Place
place line start = record { line = line; start = start }

-- Lines end with LF or CR LF. Of what stands between LFs, from a line and its place on, each part
-- is a line without its end; the last one has no end, and is no line where it is empty.
abbrev pub placed : ℕ → ℕ → List (List ℕ) → List (Place × List ℕ)
placed line start [] = []
placed line start (part ∷ []) = if length part == 0 then [] else (place line start, part) ∷ []
placed line start (part ∷ next ∷ parts) =
    (place line start, without_last is_return part) ∷ placed (line + 1) (start + length part + 1) (next ∷ parts)

-- the lines of a source, each with where it stands and without its end
abbrev pub lines : List ℕ → List (Place × List ℕ)
lines source = placed 1 0 (slice_split is_line_feed source)

-- the first line of bytes, without its end, and with how many bytes it has it
abbrev pub IsFirstLine : List ℕ → List ℕ → ℕ → Type 0
IsFirstLine bytes first n = (line start : ℕ) →
    placed line start (slice_split is_line_feed bytes)
    ≡ (place line start, first) ∷ placed (line + 1) (start + n) (slice_split is_line_feed (drop n bytes))

-- columns 8 to 72
abbrev pub text_of : List ℕ → List ℕ
text_of line = drop 7 (take 72 line)

-- columns 8 to 11 hold spaces alone
abbrev pub is_area_a_blank : List ℕ → Bool
is_area_a_blank text = list_all is_space (take 4 text)

-- what is left after spaces, and commas and semicolons that are like one
abbrev pub behind_spacing : List ℕ → List ℕ
behind_spacing [] = []
behind_spacing (byte ∷ rest) = if is_spacing byte rest then behind_spacing rest else byte ∷ rest

-- the separator period comes next
abbrev pub period_next : List ℕ → Bool
period_next [] = false
period_next (byte ∷ rest) = is_period byte && space_next rest

-- the words that head a comment-entry
abbrev pub heads_comment : List ℕ → Bool
heads_comment word =
    bytes_eq word (codes "AUTHOR") || bytes_eq word (codes "INSTALLATION") || bytes_eq word (codes "DATE-WRITTEN")
    || bytes_eq word (codes "DATE-COMPILED") || bytes_eq word (codes "SECURITY")

-- a rest begins with one of these words, and the next token is a period
abbrev pub is_comment_heading : List ℕ → Bool
is_comment_heading rest =
    let word = take_while is_word_byte rest in
    heads_comment word && period_next (behind_spacing (drop (length word) rest))

-- the first token of the text is such a word, in area A
abbrev pub begins_paragraph : List ℕ → Bool
begins_paragraph text =
    let rest = behind_spacing text in
    nat_lt (length text) (length rest + 4) && is_comment_heading rest

-- * or / in column 7
abbrev pub is_comment_sign : ℕ → Bool
is_comment_sign byte = (byte == 0x2A) || (byte == 0x2F)

-- what a line with a space in column 7 is, by its columns 8 to 72
abbrev pub text_kind : Bool → List ℕ → LineKind
text_kind in_paragraph text =
    if in_paragraph && is_area_a_blank text then kinds.Comment
    else if begins_paragraph text then kinds.CommentParagraph
    else kinds.Text

-- what a line is, where it may come after a heading of a comment-entry
abbrev pub line_kind : Bool → List ℕ → LineKind
line_kind in_paragraph line =
    if nat_lt (length line) 7 then kinds.Comment
    else if is_comment_sign (slice_index line 6) then kinds.Comment
    else if not (is_space (slice_index line 6)) then kinds.BadColumn
    else text_kind in_paragraph (text_of line)

-- whether a comment-entry goes on after a line
abbrev pub paragraph_behind : Bool → LineKind → Bool
paragraph_behind in_paragraph kinds.Comment = in_paragraph
paragraph_behind in_paragraph kinds.CommentParagraph = true
paragraph_behind in_paragraph kinds.BadColumn = false
paragraph_behind in_paragraph kinds.Text = false

-- a line, where it stands, and what it is
pub record Line : Type 0 where
  pub place : Place
  pub bytes : List ℕ
  pub kind : LineKind

abbrev pub line_at : Bool → Place × List ℕ → Line
line_at in_paragraph line = record { place = line.0; bytes = line.1; kind = line_kind in_paragraph line.1 }

abbrev pub with_kinds : Bool → List (Place × List ℕ) → List Line
with_kinds in_paragraph [] = []
with_kinds in_paragraph (line ∷ lines) =
    line_at in_paragraph line ∷ with_kinds (paragraph_behind in_paragraph (line_kind in_paragraph line.1)) lines

-- the lines of a source, each with what it is
abbrev pub source_lines : List ℕ → List Line
source_lines source = with_kinds false (lines source)
