-- Words behind headers, how many entries there are, and the first tokens of the divisions.
use Rattle.std.proofs.Common.{◌≡◌, ◌≤◌, ◌<◌, ℕ, zero, suc, ◌+◌, ◌-◌, Bool, true, false, not, ◌&&◌, List, [], ◌∷◌, ◌++◌, length, map, filter, take, drop, get_or, Option, Some, None, codes, refl, sym, ap, ◌∙◌, arith, drop-cons, length-append}
use Rattle.std.proofs.lemmas.Option.{slice_get-get_or}
use Rattle.std.specs.Prelude.{cond, if◌then◌else◌, max, option_map, slice_get}
use Rattle.cob_lex.specs.declared.fault.SourceKind.TheVariants as kinds
use Rattle.cob_lex.specs.declared.token.Token.{Token}
use Rattle.cob_lex.specs.declared.token.TokenKind.TheVariants as tokens
use Rattle.cob_forms.specs.Sorts.{Sort, is, reserved, any_word, of_kind}
use Rattle.cob_forms.specs.Faults.{at_first, before_wanted, fault, wanted_word}
use Rattle.cob_forms.specs.Forms.{Part, token, maybe, ends, wanted, goes_on, next, reading}
use Rattle.cob_data.specs.Forms.{Form, alternatives_of, data_division, environment}
use Rattle.cob_data.specs.Forms as all
use Rattle.cob_forms.specs.Written.{name_of}
use Rattle.cob_data.specs.declared.tree.CdEntry.{CdEntry}
use Rattle.cob_data.specs.declared.tree.DataDivision.{DataDivision}
use Rattle.cob_data.specs.Divisions.{IsDivisionOf, IsDivisionBefore, cd_named, communication_of, word_behind, working_storage_of}
use Rattle.cob_data.specs.Entries.{Run, second_token, chosen_word, described, ends_entry, entries_of, first_token, leads, pieces, put, word_flags, wants_word}

-- WORDS BEHIND HEADERS

-- the word behind a header that may stand before some entries
abbrev pub word_from : Bool → List ℕ → List (Bool × List Token) → Option Token
word_from true header [] = None
word_from true header (y ∷ ys) = first_token y.1
word_from false header ys = chosen_word header ys

none_left : (b : Bool) (header : List ℕ) → word_from b header [] ≡ None
none_left true header = refl
none_left false header = refl

either_way : (b : Bool) (header : List ℕ) (y : Bool × List Token) (ys : List (Bool × List Token)) → word_from b header (y ∷ ys) ≡ (if b then first_token y.1 else chosen_word header (y ∷ ys))
either_way true header y ys = refl
either_way false header y ys = refl

pub header_next : (header : List ℕ) (x : Bool × List Token) (xs : List (Bool × List Token)) (whole : Option Token) → word_from false header (x ∷ xs) ≡ whole → word_from (not x.0 && leads header x.1) header xs ≡ whole
header_next header x [] whole h = none_left (not x.0 && leads header x.1) header ∙ h
header_next header x (y ∷ ys) whole h = either_way (not x.0 && leads header x.1) header y ys ∙ h

-- HOW MANY ENTRIES

put_length : (b : Bool) (t : Token) (lists : List (List Token)) → length (put b t lists) ≤ suc (length lists)
put_length true t lists = omega arith
put_length false t [] = omega arith
put_length false t (ts ∷ lists) = omega arith

pieces_fit : (ends_piece : Token → List Token → Bool) (ts : List Token) → length (pieces ends_piece ts) ≤ length ts
pieces_fit ends_piece [] = omega arith
pieces_fit ends_piece (t ∷ ts) = omega (arith, put_length (ends_piece t ts) t (pieces ends_piece ts), pieces_fit ends_piece ts)

told_length : (word : Bool) (entries : List (List Token)) → length (word_flags word entries) ≡ length entries
told_length word [] = refl
told_length word (entry ∷ entries) = ap suc (told_length (not word && wants_word entry) entries)

kept_by : {A : Type 0} (b : Bool) (x : A) (xs : List A) (n : ℕ) → length xs ≤ n → length (cond b (x ∷ xs) xs) ≤ suc n
kept_by true x xs n h = omega (arith, h)
kept_by false x xs n h = omega (arith, h)

kept_fit : {A : Type 0} (test : A → Bool) (xs : List A) → length (filter test xs) ≤ length xs
kept_fit test [] = omega arith
kept_fit test (x ∷ xs) = kept_by (test x) x (filter test xs) (length xs) (kept_fit test xs)

mapped : {A B : Type 0} (f : A → B) (xs : List A) → length (map f xs) ≡ length xs
mapped f [] = refl
mapped f (x ∷ xs) = ap suc (mapped f xs)

pub described_fit : (ts : List Token) → length (described ts) ≤ length ts
described_fit ts =
    let entries = word_flags false (entries_of ts) in
    omega (arith, mapped (λ x. x.1) (filter (λ x. not x.0) entries), kept_fit (λ x. not x.0) entries, told_length false (entries_of ts), pieces_fit ends_entry ts)

-- so far, with what is left
pub few_described : (list others : List (List Token)) (ts : List Token) → list ++ others ≡ described ts → length list ≤ length ts
few_described list others ts same =
    let sizes : length list + length others ≡ length (described ts) = sym (length-append list others) ∙ ap length same in
    omega (arith, sizes, described_fit ts)

-- WHERE A TOKEN IS WANTED

before_is : (ts : List Token) (left : ℕ) → before_wanted ts left ≡ length ts - max left 1
before_is ts zero = refl
before_is ts (suc left) =
    let more : max (suc left) 1 ≡ suc left = omega arith in
    ap (λ k. length ts - k) (sym more)

pub at_token : (ts : List Token) (left place : ℕ) (t : Token) → place ≡ length ts - max left 1 → place < length ts → t ≡ get_or ts place t → wanted_word ts (wanted left) ≡ Some (fault t.line t.column kinds.WantedWord)
at_token ts left place t here within at_place =
    let same : before_wanted ts left ≡ place = before_is ts left ∙ sym here in
    let front : drop place ts ≡ t ∷ drop (suc place) ts = drop-cons ts place t within ∙ ap (λ u. u ∷ drop (suc place) ts) (sym at_place) in
    ap (λ k. Some (at_first kinds.WantedWord (drop k ts))) same ∙ ap (λ us. Some (at_first kinds.WantedWord us)) front

none_behind : (ts : List Token) (place : ℕ) → length ts ≤ place → drop place ts ≡ []
none_behind [] zero h = refl
none_behind [] (suc place) h = refl
none_behind (t ∷ ts) zero h = absurd (omega (arith, h))
none_behind (t ∷ ts) (suc place) h = none_behind ts place (omega (arith, h))

pub at_no_token : (ts : List Token) (left place : ℕ) → place ≡ length ts - max left 1 → length ts ≤ place → wanted_word ts (wanted left) ≡ Some (fault 1 1 kinds.WantedWord)
at_no_token ts left place here outside =
    let same : before_wanted ts left ≡ place = before_is ts left ∙ sym here in
    ap (λ k. Some (at_first kinds.WantedWord (drop k ts))) same ∙ ap (λ us. Some (at_first kinds.WantedWord us)) (none_behind ts place outside)

-- THE FIRST TOKENS

tokens_of : List Sort → List (Part Form) → List (Part Form)
tokens_of [] parts = parts
tokens_of (sort ∷ sorts) parts = token sort ∷ tokens_of sorts parts

not_wanted : (left : ℕ) (rest : List Token) → wanted left ≡ ends rest → ⊥
not_wanted left rest h = cc

pub step_by : (b : Bool) (parts : List (Part Form)) (us rest : List Token) (n : ℕ) → goes_on (if b then Some parts else None) (λ left. reading alternatives_of left us) n ≡ ends rest → reading alternatives_of parts us ≡ ends rest
step_by true parts us rest n h = h
step_by false parts us rest n h = absurd (not_wanted n rest h)

tokens_first : (sorts : List Sort) (parts : List (Part Form)) (ts rest : List Token) → reading alternatives_of (tokens_of sorts parts) ts ≡ ends rest → length sorts ≤ length ts
unfolding reading next tokens_of
tokens_first [] parts ts rest h = omega arith
tokens_first (sort ∷ sorts) parts [] rest h = absurd (not_wanted 0 rest h)
tokens_first (sort ∷ sorts) parts (t ∷ ts) rest h = omega (arith, tokens_first sorts parts ts rest (step_by (is sort t) (tokens_of sorts parts) ts rest _ h))

first_sorts : List Sort
first_sorts =
    reserved (codes "IDENTIFICATION") ∷ reserved (codes "DIVISION") ∷ of_kind tokens.Period ∷ reserved (codes "PROGRAM-ID") ∷ of_kind tokens.Period ∷ any_word ∷ []

name_behind : List (Part Form)
name_behind =
    token (of_kind tokens.Period) ∷ maybe environment ∷ token (reserved (codes "DATA")) ∷ token (reserved (codes "DIVISION")) ∷ token (of_kind tokens.Period)
    ∷ maybe all.working_storage ∷ maybe all.communication ∷ token (reserved (codes "PROCEDURE")) ∷ []

pub none_at : {A : Type 0} (xs : List A) (i : ℕ) → length xs ≤ i → slice_get xs i ≡ None
none_at [] i h = refl
none_at (x ∷ xs) zero h = absurd (omega (arith, h))
none_at (x ∷ xs) (suc i) h = none_at xs i (omega (arith, h))

pub has_name : (ts rest : List Token) → reading alternatives_of data_division ts ≡ ends rest → 5 < length ts
unfolding tokens_of reading first_sorts name_behind
has_name ts rest h = omega (arith, tokens_first first_sorts name_behind ts rest h)

-- WHAT IS TOLD

nothing_added : {A : Type 0} (xs : List A) → xs ≡ xs ++ []
nothing_added [] = refl
nothing_added (x ∷ xs) = ap (λ ys. x ∷ ys) (nothing_added xs)

pub no_second : (list : List CdEntry) (head : List Token) (area : ℕ) (cd : Run) → length head ≤ 1 → list ≡ list ++ cd_named (second_token head) area cd
no_second list head area cd h = rw (none_at head 1 h) (nothing_added list)

pub told_division : (ts before : List Token) (named : Token) (place : ℕ) (d : DataDivision) → reading alternatives_of data_division ts ≡ ends (drop (place + 1) ts) → place < length ts → before ≡ take place ts → named ≡ get_or ts 5 named
    → IsDivisionBefore named before d → IsDivisionOf ts place d
told_division ts before named place d read inside front at_name is_told = record {
  complete = read;
  within = inside;
  program =
      let sixth : slice_get ts 5 ≡ Some named = slice_get-get_or ts 5 named (has_name ts (drop (place + 1) ts) read) ∙ ap Some (sym at_name) in
      ap (λ t. option_map name_of t) sixth ∙ ap Some (sym is_told.program);
  source_computer = ap (word_behind (codes "SOURCE-COMPUTER")) (sym front) ∙ sym is_told.source_computer;
  object_computer = ap (word_behind (codes "OBJECT-COMPUTER")) (sym front) ∙ sym is_told.object_computer;
  working_storage = ap working_storage_of (sym front) ∙ sym is_told.working_storage;
  communication = ap communication_of (sym front) ∙ sym is_told.communication;
}
