-- What is at the beginning of the rest of a line.
use Rattle.std.specs.Prelude.{ℕ, ◌≤◌, ◌+◌, ◌-◌, Bool, true, false, not, ◌&&◌, ◌||◌, ◌==◌, nat_le, if◌then◌else◌, List, length, slice_index, take, drop, take_while, Option, Some, None, codes, bytes_eq}
use Rattle.std.specs.List.{list_all, list_any}
use Rattle.com_text.specs.Name.{is_letter, is_digit, is_hyphen}
use Rattle.cob_lex.specs.declared.fault.SourceKind.TheVariants as faults
use Rattle.cob_lex.specs.declared.token.TokenKind.{TokenKind}
use Rattle.cob_lex.specs.declared.token.TokenKind.TheVariants as tokens
use Rattle.cob_lex.specs.declared.front.Awaited.{Awaited}
use Rattle.cob_lex.specs.declared.front.Awaited.TheVariants as awaited
use Rattle.cob_lex.specs.declared.front.Front.{Front}
use Rattle.cob_lex.specs.declared.front.Front.TheVariants as fronts
use Rattle.cob_lex.specs.Literals.{closing, is_literal}
use Rattle.cob_lex.specs.Characters.{is_word_byte, is_no_space, is_quote, is_period, is_separator, is_spacing, space_next, without_last}

-- no hyphen stands at either end
abbrev pub is_hyphen_free : List ℕ → Bool
is_hyphen_free run = not (is_hyphen (slice_index run 0) || is_hyphen (slice_index run (length run - 1)))

-- a word: at most 30 characters, at least one letter, and no hyphen at either end
abbrev pub is_word : List ℕ → Bool
is_word run = list_any is_letter run && (nat_le (length run) 30 && is_hyphen_free run)

-- a number: at most 18 digits
abbrev pub is_number : List ℕ → Bool
is_number run = list_all is_digit run && nat_le (length run) 18

-- a longest run of letters, digits and hyphens
abbrev pub run_front : List ℕ → Front
run_front run =
    if is_word run then fronts.Token tokens.Word (length run)
    else if is_number run then fronts.Token tokens.Number (length run)
    else fronts.Fault faults.BadWord

-- a literal, by the bytes after its opening quotation mark
abbrev pub literal_front : List ℕ → Option ℕ → Front
literal_front rest None = fronts.Fault faults.BadCharacter
literal_front rest (Some n) =
    if is_literal (take n rest) then fronts.Token tokens.Literal (n + 2) else fronts.Fault faults.BadWord

-- the tokens of one character; a period separates before a space or the end of the line alone
abbrev pub sign_kind : ℕ → List ℕ → Option TokenKind
sign_kind byte rest =
    if is_period byte && space_next rest then Some tokens.Period
    else if byte == 0x28 then Some tokens.Open
    else if byte == 0x29 then Some tokens.Close
    else if byte == 0x3D then Some tokens.Equal
    else if byte == 0x3E then Some tokens.Greater
    else if byte == 0x3C then Some tokens.Less
    else None

abbrev pub sign_front : Option TokenKind → Front
sign_front None = fronts.Fault faults.BadCharacter
sign_front (Some kind) = fronts.Token kind 1

-- what stands at the front where it is no picture
abbrev pub plain_front : List ℕ → Front
plain_front bytes =
    let byte = slice_index bytes 0 in
    let rest = drop 1 bytes in
    if is_spacing byte rest then fronts.Spacing
    else if is_word_byte byte then run_front (take_while is_word_byte bytes)
    else if is_quote byte then literal_front rest (closing rest)
    else sign_front (sign_kind byte rest)

-- the run up to a space or the end of the line, less one last period, comma or semicolon
abbrev pub picture_run : List ℕ → List ℕ
picture_run rest = without_last is_separator (take_while is_no_space rest)

-- the word IS, where it may come before a picture
abbrev pub is_awaited_is : Awaited → List ℕ → Bool
is_awaited_is awaited.Nothing text = false
is_awaited_is awaited.IsOrPicture text = bytes_eq text (codes "IS")
is_awaited_is awaited.Picture text = false

abbrev pub may_be_picture : Awaited → Bool
may_be_picture awaited.Nothing = false
may_be_picture awaited.IsOrPicture = true
may_be_picture awaited.Picture = true

-- a picture or its IS: there is a run, and it may be one
abbrev pub is_picture_front : Awaited → List ℕ → Bool
is_picture_front awaits run = may_be_picture awaits && nat_le 1 (length run)

abbrev pub picture_front : Awaited → List ℕ → Front
picture_front awaits run =
    if is_awaited_is awaits run then fronts.Token tokens.Word (length run)
    else fronts.Token tokens.Picture (length run)

-- what stands at the beginning of bytes, of which there is one at least
unfoldable pub front_of : Awaited → List ℕ → Front
front_of awaits bytes =
    if is_picture_front awaits (picture_run bytes)
    then picture_front awaits (picture_run bytes)
    else plain_front bytes

-- a token at the front has a byte, and no more than there are
abbrev pub FitsIn : Front → ℕ → Type 0
FitsIn fronts.Spacing size = Unit {0}
FitsIn (fronts.Token kind n) size = (1 ≤ n) × (n ≤ size)
FitsIn (fronts.Fault kind) size = Unit {0}

-- the words after which a picture comes
abbrev pub is_picture_word : List ℕ → Bool
is_picture_word text = bytes_eq text (codes "PIC") || bytes_eq text (codes "PICTURE")

-- what is awaited after a token
abbrev pub awaited_behind : Awaited → TokenKind → List ℕ → Awaited
awaited_behind awaits tokens.Word text =
    if is_picture_word text then awaited.IsOrPicture
    else if is_awaited_is awaits text then awaited.Picture
    else awaited.Nothing
awaited_behind awaits kind text = awaited.Nothing
