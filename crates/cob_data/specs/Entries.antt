-- The entries of a text, each up to its period, and what the tokens of an entry are by where they
-- stand.
use Rattle.std.specs.Prelude.{ℕ, suc, ◌-◌, Bool, true, false, not, ◌&&◌, if◌then◌else◌, List, [], ◌∷◌, length, take, map, filter, codes, find, slice_get, Option, None}
use Rattle.std.specs.List.{list_any}
use Rattle.cob_lex.specs.declared.token.Token.{Token}
use Rattle.cob_lex.specs.declared.token.TokenKind.TheVariants as tokens
use Rattle.cob_forms.specs.Sorts.{reserved, of_kind, is}
use Rattle.cob_data.specs.Forms.{period}

-- a token at the front of the first of some lists, or by itself in a list before them
abbrev pub put : Bool → Token → List (List Token) → List (List Token)
put true t lists = (t ∷ []) ∷ lists
put false t [] = (t ∷ []) ∷ []
put false t (ts ∷ lists) = (t ∷ ts) ∷ lists

-- The pieces of a text, each up to a token that ends it by what is behind it. The last one may lack
-- it.
abbrev pub pieces : (Token → List Token → Bool) → List Token → List (List Token)
pieces ends [] = []
pieces ends (t ∷ ts) = put (ends t ts) t (pieces ends ts)

-- how many tokens the first piece has
abbrev pub piece_length : (Token → List Token → Bool) → List Token → ℕ
piece_length ends [] = 0
piece_length ends (t ∷ ts) = if ends t ts then 1 else suc (piece_length ends ts)

-- The entries of a text: a header, an item or a CD entry up to its period. The last one may lack
-- it.
abbrev pub ends_entry : Token → List Token → Bool
ends_entry t ts = is period t

-- the entries of a text, each up to its period
abbrev pub entries_of : List Token → List (List Token)
entries_of ts = pieces ends_entry ts

-- a list without its last element
abbrev pub all_but_last : {A : Type 0} → List A → List A
all_but_last list = take (length list - 1) list

-- it begins with the word
abbrev pub leads : List ℕ → List Token → Bool
leads word [] = false
leads word (t ∷ ts) = is (reserved word) t

-- a header behind which the program chooses a word, as `PROGRAM-ID.`
abbrev pub wants_word : List Token → Bool
wants_word entry = list_any (λ word. leads word entry) (codes "PROGRAM-ID"
    ∷ codes "SOURCE-COMPUTER" ∷ codes "OBJECT-COMPUTER" ∷ [])

-- each entry, and whether it is such a word; the first one is where that is said of it
abbrev pub word_flags : Bool → List (List Token) → List (Bool × List Token)
word_flags word [] = []
word_flags word (entry ∷ entries) = (word, entry)
    ∷ word_flags (not word && wants_word entry) entries

-- the entries that are no such words: headers, items and CD entries
abbrev pub described : List Token → List (List Token)
described ts = map (λ x. x.1) (filter (λ x. not x.0) (word_flags false (entries_of ts)))

-- the first token, if there is one
abbrev pub first_token : List Token → Option Token
first_token ts = slice_get ts 0

-- the second token, if there is one
abbrev pub second_token : List Token → Option Token
second_token ts = slice_get ts 1

-- the last token, if there is one
abbrev pub last_token : List Token → Option Token
last_token ts = slice_get ts (length ts - 1)

-- the word behind a header
abbrev pub chosen_word : List ℕ → List (Bool × List Token) → Option Token
chosen_word header [] = None
chosen_word header (x ∷ []) = None
chosen_word header (x ∷ y ∷ others) =
    if not x.0 && leads header x.1 then first_token y.1 else chosen_word header (y ∷ others)

-- an item begins with a number, and a CD entry with CD
abbrev pub is_item : List Token → Bool
is_item [] = false
is_item (t ∷ ts) = is (of_kind tokens.Number) t

-- an entry is that of a CD
abbrev pub is_cd : List Token → Bool
is_cd entry = leads (codes "CD") entry

-- a reserved word occurs among some tokens
abbrev pub has : List ℕ → List Token → Bool
has word ts = list_any (is (reserved word)) ts

-- the tokens behind the first one that passes a test
abbrev pub behind : (Token → Bool) → List Token → List Token
behind test [] = []
behind test (t ∷ ts) = if test t then ts else behind test ts

-- the picture of an item, and its value, which stands behind VALUE [IS]
abbrev pub picture_in : List Token → Option Token
picture_in entry = find (is (of_kind tokens.Picture)) entry

-- the value of an item: the first token after VALUE that is not IS
abbrev pub value_in : List Token → Option Token
value_in entry =
    find (λ t. not (is (reserved (codes "IS")) t)) (behind (is (reserved (codes "VALUE"))) entry)

-- A header or a CD entry, with the items behind it.
pub record Run : Type 0 where
  pub head : List Token
  pub items : List (List Token)

-- a run by its parts
abbrev pub run : List Token → List (List Token) → Run
run head items = record { head = head; items = items }

-- items that stand before the first of some runs, and the runs
abbrev pub put_in_runs : Bool → List Token → List (List Token) × List Run
    → List (List Token) × List Run
put_in_runs true item others = (item ∷ others.0, others.1)
put_in_runs false head others = ([], run head others.0 ∷ others.1)

-- the items before the first header or CD entry, and the runs
abbrev pub split_runs : List (List Token) → List (List Token) × List Run
split_runs [] = ([], [])
split_runs (entry ∷ entries) = put_in_runs (is_item entry) entry (split_runs entries)

-- the runs of a text
abbrev pub runs_of : List Token → List Run
runs_of ts = (split_runs (described ts)).1

-- the items of the first WORKING-STORAGE SECTION
abbrev pub storage_items : List Run → List (List Token)
storage_items [] = []
storage_items (r ∷ runs) =
    if leads (codes "WORKING-STORAGE") r.head then r.items else storage_items runs

-- the CD entries with their items
abbrev pub cd_runs : List Run → List Run
cd_runs runs = filter (λ r. is_cd r.head) runs
