-- The clauses of an output CD as they are read. A number occurs only in the clause of a table.
use Rattle.std.proofs.Common.{◌≡◌, ◌≤◌, ℕ, zero, suc, Bool, true, false, not, ◌&&◌, ◌||◌, List, [], ◌∷◌, ◌++◌, length, Option, Some, None, codes, refl, sym, ap, ◌∙◌, inl, inr, append_assoc, arith, length-append}
use Rattle.std.specs.Prelude.{◌⊎◌, if◌then◌else◌, cond}
use Rattle.std.specs.Option.{option_or}
use Rattle.std.specs.List.{list_all}
use Rattle.std.specs.Str.{bytes_eq}
use Rattle.cob_lex.specs.declared.token.Token.{Token}
use Rattle.cob_lex.specs.declared.token.TokenKind.TheVariants as tokens
use Rattle.com_cd.specs.declared.output_area.OutField.{OutField}
use Rattle.cob_forms.specs.Sorts.{Sort, any_word, is, name, of_kind, reserved}
use Rattle.cob_forms.specs.Forms.{Alternatives, Part, token, form, maybe, more, behind, may_end, with_tail}
use Rattle.cob_forms.specs.Readers.{begins}
use Rattle.cob_forms.proofs.Only.{apart, differ}
use Rattle.cob_data.specs.Clauses.{ends_clause, is_name_or_filler, number_in, output_field_of}
use Rattle.cob_data.specs.Entries.{has, pieces, put}
use Rattle.cob_data.specs.Forms.{Form, alternatives_of, destination_clause, out_clause, out_clause_alternatives, output_body, period, the, word_times, is_and_name}
use Rattle.cob_data.proofs.NumeralLaws.{both, joined}
use Rattle.cob_data.proofs.OccurrenceLaws.{all_of_both}
use Rattle.cob_data.proofs.ReadSteps.{Reads, Entered, LeftOut, Turned, Here, There, alternative, form_step, maybe_step, more_step, no_alternative, token_step}
use Rattle.cob_data.proofs.Sentences.{Closed, Parted, closes, sentence}
use Rattle.cob_data.proofs.Tests.{not_true}

-- TOKENS OF A CLAUSE BEFORE ITS LAST ONE

abbrev times : Sort
times = reserved (codes "TIMES")

abbrev number : Sort
number = of_kind tokens.Number

-- no clause ends with a token of this sort
abbrev is_inner : Sort → Bool
is_inner s = (differ s name && differ s times) && (differ s number && differ s period)

-- no clause ends with the token, whatever comes after it, and it is neither a number nor a period
abbrev inner : Token → Bool
inner t = (not (is name t) && not (is times t)) && (not (is number t) && not (is period t))

inner_sound : (s : Sort) (t : Token) → is_inner s ≡ true → is s t ≡ true → inner t ≡ true
inner_sound s t h k =
    let all = both (differ s name && differ s times) (differ s number && differ s period) h in
    let one = both (differ s name) (differ s times) all.0 in
    let two = both (differ s number) (differ s period) all.1 in
    joined (not (is name t) && not (is times t)) (not (is number t) && not (is period t))
    (joined (not (is name t)) (not (is times t)) (ap not (apart s name t k one.0)) (ap not (apart s times t k one.1)))
    (joined (not (is number t)) (not (is period t)) (ap not (apart s number t k two.0)) (ap not (apart s period t k two.1)))

record IsInner (t : Token) : Type 0 where
  no_name : is name t ≡ false
  no_times : is times t ≡ false
  no_number : is number t ≡ false
  no_period : is period t ≡ false

inner_parts : (t : Token) → inner t ≡ true → IsInner t
inner_parts t h =
    let all = both (not (is name t) && not (is times t)) (not (is number t) && not (is period t)) h in
    let one = both (not (is name t)) (not (is times t)) all.0 in
    let two = both (not (is number t)) (not (is period t)) all.1 in
    record {
      no_name = not_true (is name t) one.0;
      no_times = not_true (is times t) one.1;
      no_number = not_true (is number t) two.0;
      no_period = not_true (is period t) two.1;
    }

abbrev all_inner : List Token → Bool
all_inner ts = list_all inner ts

-- PIECES

goes_by : (a b c : Bool) → a ≡ false → b ≡ false → c ≡ false → (x : Bool) → ((a || b) || (c && x)) ≡ false
goes_by a b c h k l x = rw (h, k, l) refl

inner_goes_on : (t : Token) (ts : List Token) → inner t ≡ true → ends_clause t ts ≡ false
inner_goes_on t ts h = let p = inner_parts t h in goes_by (is name t) (is times t) (is number t) p.no_name p.no_times p.no_number (not (begins (is times) ts))

-- inner tokens belong to the piece after them
pieces_behind : (init xs : List Token) (p : List Token) (ps : List (List Token)) → all_inner init ≡ true → pieces ends_clause xs ≡ p ∷ ps → pieces ends_clause (init ++ xs) ≡ (init ++ p) ∷ ps
pieces_behind [] xs p ps h e = e
pieces_behind (t ∷ init) xs p ps h e =
    let all = both (inner t) (all_inner init) h in
    ap (λ b. put b t (pieces ends_clause (init ++ xs))) (inner_goes_on t (init ++ xs) all.0) ∙ ap (put false t) (pieces_behind init xs p ps all.1 e)

last_piece : (t : Token) (ts : List Token) → ends_clause t ts ≡ true → pieces ends_clause (t ∷ ts) ≡ (t ∷ []) ∷ pieces ends_clause ts
last_piece t ts h = ap (λ b. put b t (pieces ends_clause ts)) h

-- NUMBERS

inner_number : (init xs : List Token) → all_inner init ≡ true → number_in (init ++ xs) ≡ number_in xs
inner_number [] xs h = refl
inner_number (t ∷ init) xs h =
    let all = both (inner t) (all_inner init) h in
    ap (λ b. cond b (Some t) (number_in (init ++ xs))) (inner_parts t all.0).no_number ∙ inner_number init xs all.1

pub no_number_here : (t : Token) (ts : List Token) → is number t ≡ false → number_in (t ∷ ts) ≡ number_in ts
no_number_here t ts h = ap (λ b. cond b (Some t) (number_in ts)) h

either_number : (xs ys : List Token) → number_in (xs ++ ys) ≡ option_or (number_in xs) (number_in ys)
either_number [] ys = refl
either_number (t ∷ xs) ys = by (is number t) (either_number xs ys)
  where
    by : (b : Bool) → number_in (xs ++ ys) ≡ option_or (number_in xs) (number_in ys) → cond b (Some t) (number_in (xs ++ ys)) ≡ option_or (cond b (Some t) (number_in xs)) (number_in ys)
    by true h = refl
    by false h = h

-- A CLAUSE

-- the number of a clause, if the clause is that of a table
abbrev pub clause_token : Option (Option OutField) → List Token → Option Token
clause_token (Some None) clause = number_in clause
clause_token other clause = None

-- the number of the first table among some clauses
abbrev pub table_token : List (List Token) → Option Token
table_token [] = None
table_token (clause ∷ clauses) = option_or (clause_token (output_field_of clause) clause) (table_token clauses)

abbrev no_period : List Token → Bool
no_period ts = list_all (λ t. not (is period t)) ts

-- A clause before other tokens: one piece, with no period in it. If it has a number, it is that of
-- a table.
record IsClause (front back : List Token) : Type 0 where
  first : Token
  others : List Token
  whole : front ≡ first ∷ others
  no_list : is_name_or_filler first ≡ false
  no_times : is times first ≡ false
  one : (after : List Token) → begins (is times) after ≡ begins (is times) back → pieces ends_clause (front ++ after) ≡ front ∷ pieces ends_clause after
  number : number_in front ≡ clause_token (output_field_of front) front
  plain : no_period front ≡ true

none_by : (o : Option (Option OutField)) (front : List Token) → number_in front ≡ None → number_in front ≡ clause_token o front
none_by None front h = h
none_by (Some None) front h = refl
none_by (Some (Some f)) front h = h

inner_no_period : (ts : List Token) → all_inner ts ≡ true → no_period ts ≡ true
inner_no_period [] h = refl
inner_no_period (t ∷ ts) h =
    let all = both (inner t) (all_inner ts) h in
    joined (not (is period t)) (no_period ts) (ap not (inner_parts t all.0).no_period) (inner_no_period ts all.1)

no_filler : (t : Token) → inner t ≡ true → is (reserved (codes "FILLER")) t ≡ false → is_name_or_filler t ≡ false
no_filler t h k = rw ((inner_parts t h).no_name, k) refl

names_clause : (t : Token) (ts : List Token) → is name t ≡ true → ends_clause t ts ≡ true
names_clause t ts h = rw h refl

-- inner tokens and a name
abbrev ends_named : Sort → Bool
ends_named (reserved text) = false
ends_named name = true
ends_named any_word = false
ends_named (of_kind kind) = false

named_sound : (s : Sort) (t : Token) → ends_named s ≡ true → is s t ≡ true → is name t ≡ true
named_sound (reserved text) t h k = let no : ⊥ = cc in absurd no
named_sound name t h k = k
named_sound any_word t h k = let no : ⊥ = cc in absurd no
named_sound (of_kind kind) t h k = let no : ⊥ = cc in absurd no

named_number : (body : List Token) (end : Token) → all_inner body ≡ true → is name end ≡ true → number_in (body ++ end ∷ []) ≡ None
named_number body end h k = inner_number body (end ∷ []) h ∙ no_number_here end [] (apart name number end k refl)

named_piece : (body : List Token) (end : Token) (after : List Token) → all_inner body ≡ true → is name end ≡ true → pieces ends_clause ((body ++ end ∷ []) ++ after) ≡ (body ++ end ∷ []) ∷ pieces ends_clause after
named_piece body end after h k =
    ap (pieces ends_clause) (append_assoc body (end ∷ []) after) ∙ pieces_behind body (end ∷ after) (end ∷ []) (pieces ends_clause after) h (last_piece end after (names_clause end after k))

named_plain : (body : List Token) (end : Token) → all_inner body ≡ true → is name end ≡ true → no_period (body ++ end ∷ []) ≡ true
named_plain body end h k = all_of_both (λ t. not (is period t)) body (end ∷ []) (inner_no_period body h) (joined (not (is period end)) true (ap not (apart name period end k refl)) refl)

-- a first word, inner tokens, and a name
named_clause : (first : Token) (front back : List Token) → inner first ≡ true → is (reserved (codes "FILLER")) first ≡ false → Closed inner (is name) front → IsClause (first ∷ front) back
named_clause first front back h k c =
    let body = first ∷ c.body in
    let whole : first ∷ front ≡ body ++ c.end ∷ [] = ap (λ us. first ∷ us) c.whole in
    let passes : all_inner body ≡ true = joined (inner first) (all_inner c.body) h c.passes in
    record {
      first = first;
      others = front;
      whole = refl;
      no_list = no_filler first h k;
      no_times = (inner_parts first h).no_times;
      one = λ after same. ap (λ us. pieces ends_clause (us ++ after)) whole ∙ named_piece body c.end after passes c.closed ∙ ap (λ us. us ∷ pieces ends_clause after) (sym whole);
      number = none_by (output_field_of (first ∷ front)) (first ∷ front) (ap number_in whole ∙ named_number body c.end passes c.closed);
      plain = ap no_period whole ∙ named_plain body c.end passes c.closed;
    }

-- THE CLAUSE OF A TABLE

number_inside : (n : Token) (ts : List Token) → is number n ≡ true → begins (is times) ts ≡ false → ends_clause n ts ≡ true
number_inside n ts h k = by (is name n) (is times n) (is number n) (begins (is times) ts) h k
  where
    by : (a b c d : Bool) → c ≡ true → d ≡ false → ((a || b) || (c && not d)) ≡ true
    by true b c d h k = refl
    by false true c d h k = refl
    by false false c d h k = rw (h, k) refl

times_behind : (n t : Token) (ts : List Token) → is number n ≡ true → is times t ≡ true → ends_clause n (t ∷ ts) ≡ false
times_behind n t ts h k = rw (apart number name n h refl, apart number times n h refl, h, k) refl

times_ends : (t : Token) (ts : List Token) → is times t ≡ true → ends_clause t ts ≡ true
times_ends t ts h = by (is name t) (is times t) (is number t && not (begins (is times) ts)) h
  where
    by : (a b c : Bool) → b ≡ true → ((a || b) || c) ≡ true
    by true b c h = refl
    by false b c h = rw h refl

-- a number and TIMES end one piece
timed_piece : (n t : Token) (after : List Token) → is number n ≡ true → is times t ≡ true → pieces ends_clause (n ∷ t ∷ after) ≡ (n ∷ t ∷ []) ∷ pieces ends_clause after
timed_piece n t after h k = ap (λ b. put b n (pieces ends_clause (t ∷ after))) (times_behind n t after h k) ∙ ap (put false n) (last_piece t after (times_ends t after k))

-- DESTINATION TABLE OCCURS
record IsTable (one two three : Token) : Type 0 where
  destination : is (reserved (codes "DESTINATION")) one ≡ true
  table : is (reserved (codes "TABLE")) two ≡ true
  occurs : is (reserved (codes "OCCURS")) three ≡ true

table_inner : (one two three : Token) → IsTable one two three → all_inner (one ∷ two ∷ three ∷ []) ≡ true
table_inner one two three h =
    joined (inner one) (inner two && (inner three && true)) (inner_sound (reserved (codes "DESTINATION")) one refl h.destination)
    (joined (inner two) (inner three && true) (inner_sound (reserved (codes "TABLE")) two refl h.table)
    (joined (inner three) true (inner_sound (reserved (codes "OCCURS")) three refl h.occurs) refl))

-- a word that is none of the three is not among them
no_word : (word : List ℕ) (one two three : Token) (others : List Token) → IsTable one two three → bytes_eq (codes "DESTINATION") word ≡ false → bytes_eq (codes "TABLE") word ≡ false → bytes_eq (codes "OCCURS") word ≡ false
    → has word others ≡ false → has word (one ∷ two ∷ three ∷ others) ≡ false
no_word word one two three others h a b c d =
    rw (apart (reserved (codes "DESTINATION")) (reserved word) one h.destination (ap not a), apart (reserved (codes "TABLE")) (reserved word) two h.table (ap not b), apart (reserved (codes "OCCURS")) (reserved word) three h.occurs (ap not c)) d

has_table : (one two three : Token) (others : List Token) → IsTable one two three → has (codes "TABLE") (one ∷ two ∷ three ∷ others) ≡ true
has_table one two three others h = rw (apart (reserved (codes "DESTINATION")) (reserved (codes "TABLE")) one h.destination refl, h.table) refl

-- a word is not among some tokens
abbrev HasNone : List ℕ → List Token → Type 0
HasNone word others = has word others ≡ false

table_field : (one two three : Token) (others : List Token) → IsTable one two three → HasNone (codes "COUNT") others → HasNone (codes "LENGTH") others → HasNone (codes "STATUS") others
    → output_field_of (one ∷ two ∷ three ∷ others) ≡ Some None
unfolding output_field_of
table_field one two three others h count length status =
    rw (no_word (codes "COUNT") one two three others h refl refl refl count, no_word (codes "LENGTH") one two three others h refl refl refl length, no_word (codes "STATUS") one two three others h refl refl refl status, has_table one two three others h) refl

none_in_number : (word : List ℕ) (n : Token) → is number n ≡ true → HasNone word (n ∷ [])
none_in_number word n h = rw (apart number (reserved word) n h refl) refl

none_in_timed : (word : List ℕ) (n t : Token) → is number n ≡ true → is times t ≡ true → bytes_eq (codes "TIMES") word ≡ false → HasNone word (n ∷ t ∷ [])
none_in_timed word n t h k e = rw (apart number (reserved word) n h refl, apart times (reserved word) t k (ap not e)) refl

filler_no : (t : Token) → is (reserved (codes "DESTINATION")) t ≡ true → is (reserved (codes "FILLER")) t ≡ false
filler_no t h = apart (reserved (codes "DESTINATION")) (reserved (codes "FILLER")) t h refl

first_inner : (one two three : Token) → IsTable one two three → inner one ≡ true
first_inner one two three h = inner_sound (reserved (codes "DESTINATION")) one refl h.destination

no_period_in : (t : Token) → is period t ≡ false → no_period (t ∷ []) ≡ true
no_period_in t h = rw h refl

table_clause : (one two three n : Token) (back : List Token) → IsTable one two three → is number n ≡ true → begins (is times) back ≡ false → IsClause (one ∷ two ∷ three ∷ n ∷ []) back
table_clause one two three n back h k ends = record {
  first = one;
  others = two ∷ three ∷ n ∷ [];
  whole = refl;
  no_list = no_filler one (first_inner one two three h) (filler_no one h.destination);
  no_times = (inner_parts one (first_inner one two three h)).no_times;
  one = λ after same. pieces_behind (one ∷ two ∷ three ∷ []) (n ∷ after) (n ∷ []) (pieces ends_clause after) (table_inner one two three h) (last_piece n after (number_inside n after k (same ∙ ends)));
  number = ap (λ o. clause_token o (one ∷ two ∷ three ∷ n ∷ [])) (sym (table_field one two three (n ∷ []) h (none_in_number (codes "COUNT") n k) (none_in_number (codes "LENGTH") n k) (none_in_number (codes "STATUS") n k)));
  plain = all_of_both (λ t. not (is period t)) (one ∷ two ∷ three ∷ []) (n ∷ []) (inner_no_period (one ∷ two ∷ three ∷ []) (table_inner one two three h)) (no_period_in n (apart number period n k refl));
}

timed_clause : (one two three n t : Token) (back : List Token) → IsTable one two three → is number n ≡ true → is times t ≡ true → IsClause (one ∷ two ∷ three ∷ n ∷ t ∷ []) back
timed_clause one two three n t back h k l = record {
  first = one;
  others = two ∷ three ∷ n ∷ t ∷ [];
  whole = refl;
  no_list = no_filler one (first_inner one two three h) (filler_no one h.destination);
  no_times = (inner_parts one (first_inner one two three h)).no_times;
  one = λ after same. pieces_behind (one ∷ two ∷ three ∷ []) (n ∷ t ∷ after) (n ∷ t ∷ []) (pieces ends_clause after) (table_inner one two three h) (timed_piece n t after k l);
  number = ap (λ o. clause_token o (one ∷ two ∷ three ∷ n ∷ t ∷ []))
      (sym (table_field one two three (n ∷ t ∷ []) h (none_in_timed (codes "COUNT") n t k l refl) (none_in_timed (codes "LENGTH") n t k l refl) (none_in_timed (codes "STATUS") n t k l refl)));
  plain = all_of_both (λ t. not (is period t)) (one ∷ two ∷ three ∷ []) (n ∷ t ∷ []) (inner_no_period (one ∷ two ∷ three ∷ []) (table_inner one two three h))
      (all_of_both (λ t. not (is period t)) (n ∷ []) (t ∷ []) (no_period_in n (apart number period n k refl)) (no_period_in t (apart times period t l refl)));
}

-- ONE CLAUSE

-- a clause was read
record Clause (below : List (Part Form)) (ts rest : List Token) : Type 0 where
  front : List Token
  back : List Token
  whole : ts ≡ front ++ back
  here : IsClause front back
  read : Reads below back rest

-- a first word, and parts that a name closes
named_by : (word : List ℕ) (n : ℕ) (t : Token) (us rest : List Token) (own below : List (Part Form)) → is (reserved word) t ≡ true → is_inner (reserved word) ≡ true → bytes_eq word (codes "FILLER") ≡ false → closes is_inner ends_named n own ≡ true → may_end below ≡ false
    → Reads (own ++ below) us rest → Clause below (t ∷ us) rest
named_by word n t us rest own below h inside filler k e r =
    let p : Parted (Closed inner (is name)) below us rest = sentence is_inner inner inner_sound ends_named (is name) named_sound n own below us rest k e r in
    record {
      front = t ∷ p.front;
      back = p.back;
      whole = ap (λ vs. t ∷ vs) p.whole;
      here = named_clause t p.front p.back (inner_sound (reserved word) t inside h) (apart (reserved word) (reserved (codes "FILLER")) t h (ap not filler)) p.here;
      read = p.read;
    }

with_inner : (t : Token) (front : List Token) → inner t ≡ true → Closed inner (is name) front → Closed inner (is name) (t ∷ front)
with_inner t front h c = record { body = t ∷ c.body; end = c.end; whole = ap (λ us. t ∷ us) c.whole; passes = joined (inner t) (all_inner c.body) h c.passes; closed = c.closed }

-- DESTINATION, with another word and parts that a name closes
destination_by : (word : List ℕ) (n : ℕ) (t u : Token) (us others rest : List Token) (own below : List (Part Form)) → is (reserved (codes "DESTINATION")) t ≡ true → us ≡ u ∷ others → is (reserved word) u ≡ true → is_inner (reserved word) ≡ true
    → closes is_inner ends_named n own ≡ true → may_end below ≡ false → Reads (own ++ below) others rest → Clause below (t ∷ us) rest
destination_by word n t u us others rest own below h w g inside k e r =
    let p : Parted (Closed inner (is name)) below others rest = sentence is_inner inner inner_sound ends_named (is name) named_sound n own below others rest k e r in
    record {
      front = t ∷ u ∷ p.front;
      back = p.back;
      whole = ap (λ vs. t ∷ vs) (w ∙ ap (λ vs. u ∷ vs) p.whole);
      here = named_clause t (u ∷ p.front) p.back (inner_sound (reserved (codes "DESTINATION")) t refl h) (filler_no t h) (with_inner u p.front (inner_sound (reserved word) u inside g) p.here);
      read = p.read;
    }

-- DESTINATION and a name
destination_named : (t u : Token) (us others rest : List Token) (below : List (Part Form)) → is (reserved (codes "DESTINATION")) t ≡ true → us ≡ u ∷ others → is name u ≡ true → Reads below others rest → Clause below (t ∷ us) rest
destination_named t u us others rest below h w g r = record {
  front = t ∷ u ∷ [];
  back = others;
  whole = ap (λ vs. t ∷ vs) w;
  here = named_clause t (u ∷ []) others (inner_sound (reserved (codes "DESTINATION")) t refl h) (filler_no t h) (record { body = []; end = u; whole = refl; passes = refl; closed = g });
  read = r;
}

-- after the number of a table
no_times_next : (t : Token) → behind (alternatives_of word_times) t ≡ None → is times t ≡ false
no_times_next t h = by (is times t) [] h
  where
    by : (b : Bool) (parts : List (Part Form)) → (if b then Some parts else None) ≡ None → b ≡ false
    by true parts h = let no : ⊥ = cc in absurd no
    by false parts h = refl

begins_no : (t : Token) (ts us : List Token) → ts ≡ t ∷ us → is times t ≡ false → begins (is times) ts ≡ false
begins_no t ts us w h = rw w h

times_next : (t : Token) (parts : List (Part Form)) → behind (alternatives_of word_times) t ≡ Some parts → (is times t ≡ true) × (parts ≡ [])
times_next t parts h = by (alternative times [] [] parts t h)
  where
    by : Here times [] parts t ⊎ There times [] parts t → (is times t ≡ true) × (parts ≡ [])
    by (inl here) = (here.test, sym here.same)
    by (inr there) = absurd (no_alternative t parts there.found)

table_by : (t u : Token) (us others rest : List Token) (p : Part Form) (below : List (Part Form)) → is (reserved (codes "DESTINATION")) t ≡ true → us ≡ u ∷ others → is (reserved (codes "TABLE")) u ≡ true → may_end (p ∷ below) ≡ false
    → Reads (the (codes "OCCURS") ∷ token (of_kind tokens.Number) ∷ maybe word_times ∷ p ∷ below) others rest → Clause (p ∷ below) (t ∷ us) rest
table_by t u us others rest p below h w g e r =
    let three = token_step (reserved (codes "OCCURS")) (token (of_kind tokens.Number) ∷ maybe word_times ∷ p ∷ below) others rest r in
    let four = token_step (of_kind tokens.Number) (maybe word_times ∷ p ∷ below) three.others rest three.read in
    let table : IsTable t u three.one = record { destination = h; table = g; occurs = three.here } in
    let whole : t ∷ us ≡ t ∷ u ∷ three.one ∷ four.one ∷ four.others = ap (λ vs. t ∷ vs) (w ∙ ap (λ vs. u ∷ vs) (three.whole ∙ ap (λ vs. three.one ∷ vs) four.whole)) in
    by three.one four.one four.others table four.here whole (maybe_step word_times p below four.others rest e four.read)
  where
    by : (v n : Token) (after : List Token) → IsTable t u v → is number n ≡ true → t ∷ us ≡ t ∷ u ∷ v ∷ n ∷ after → Entered word_times (p ∷ below) after rest ⊎ LeftOut word_times (p ∷ below) after rest → Clause (p ∷ below) (t ∷ us) rest
    by v n after table k whole (inl entered) =
        let next = times_next entered.taken.one entered.parts entered.taken.here in
        record {
          front = t ∷ u ∷ v ∷ n ∷ entered.taken.one ∷ [];
          back = entered.taken.others;
          whole = whole ∙ ap (λ vs. t ∷ u ∷ v ∷ n ∷ vs) entered.taken.whole;
          here = timed_clause t u v n entered.taken.one entered.taken.others table k next.0;
          read = rw next.1 at entered.taken.read;
        }
    by v n after table k whole (inr skipped) = record {
      front = t ∷ u ∷ v ∷ n ∷ [];
      back = after;
      whole = whole;
      here = table_clause t u v n after table k (begins_no skipped.one after skipped.others skipped.whole (no_times_next skipped.one skipped.here));
      read = skipped.read;
    }

-- the parts after DESTINATION TABLE
abbrev of_table : List (Part Form)
of_table = the (codes "OCCURS") ∷ token (of_kind tokens.Number) ∷ maybe word_times ∷ []

abbrev last_two : Alternatives Form
last_two = (reserved (codes "IS"), token name ∷ []) ∷ (name, []) ∷ []

abbrev last_three : Alternatives Form
last_three = (reserved (codes "TABLE"), of_table) ∷ last_two

module _ (t : Token) (us rest : List Token) (p : Part Form) (below : List (Part Form)) (h : is (reserved (codes "DESTINATION")) t ≡ true) (e : may_end (p ∷ below) ≡ false) where
  fourth : (parts : List (Part Form)) (u : Token) (others : List Token) → us ≡ u ∷ others → Reads (parts ++ p ∷ below) others rest → Here name [] parts u ⊎ There name [] parts u → Clause (p ∷ below) (t ∷ us) rest
  fourth parts u others w r (inl here) = destination_named t u us others rest (p ∷ below) h w here.test (rw (sym here.same) at r)
  fourth parts u others w r (inr there) = absurd (no_alternative u parts there.found)

  third : (parts : List (Part Form)) (u : Token) (others : List Token) → us ≡ u ∷ others → Reads (parts ++ p ∷ below) others rest → Here (reserved (codes "IS")) (token name ∷ []) parts u ⊎ There (reserved (codes "IS")) ((name, []) ∷ []) parts u → Clause (p ∷ below) (t ∷ us) rest
  third parts u others w r (inl here) = destination_by (codes "IS") 1 t u us others rest (token name ∷ []) (p ∷ below) h w here.test refl refl e (rw (sym here.same) at r)
  third parts u others w r (inr there) = fourth parts u others w r (alternative name [] [] parts u there.found)

  second : (parts : List (Part Form)) (u : Token) (others : List Token) → us ≡ u ∷ others → Reads (parts ++ p ∷ below) others rest → Here (reserved (codes "TABLE")) of_table parts u ⊎ There (reserved (codes "TABLE")) last_two parts u → Clause (p ∷ below) (t ∷ us) rest
  second parts u others w r (inl here) = table_by t u us others rest p below h w here.test e (rw (sym here.same) at r)
  second parts u others w r (inr there) = third parts u others w r (alternative (reserved (codes "IS")) (token name ∷ []) ((name, []) ∷ []) parts u there.found)

  first : (parts : List (Part Form)) (u : Token) (others : List Token) → us ≡ u ∷ others → Reads (parts ++ p ∷ below) others rest → Here (reserved (codes "COUNT")) is_and_name parts u ⊎ There (reserved (codes "COUNT")) last_three parts u → Clause (p ∷ below) (t ∷ us) rest
  first parts u others w r (inl here) = destination_by (codes "COUNT") 2 t u us others rest is_and_name (p ∷ below) h w here.test refl refl e (rw (sym here.same) at r)
  first parts u others w r (inr there) = second parts u others w r (alternative (reserved (codes "TABLE")) of_table last_two parts u there.found)

  destination : Reads (form destination_clause ∷ p ∷ below) us rest → Clause (p ∷ below) (t ∷ us) rest
  destination r =
      let f = form_step destination_clause (p ∷ below) us rest r in
      first f.parts f.taken.one f.taken.others f.taken.whole f.taken.read (alternative (reserved (codes "COUNT")) is_and_name last_three f.parts f.taken.one f.taken.here)

abbrev keyed : List (Part Form)
keyed = the (codes "KEY") ∷ is_and_name

abbrev of_symbolic : List (Part Form)
of_symbolic = the (codes "DESTINATION") ∷ is_and_name

abbrev of_text : List (Part Form)
of_text = the (codes "LENGTH") ∷ is_and_name

abbrev from_status : Alternatives Form
from_status = (reserved (codes "STATUS"), keyed) ∷ (reserved (codes "ERROR"), keyed) ∷ []

abbrev from_text : Alternatives Form
from_text = (reserved (codes "TEXT"), of_text) ∷ from_status

abbrev from_symbolic : Alternatives Form
from_symbolic = (reserved (codes "SYMBOLIC"), of_symbolic) ∷ from_text

module _ (t : Token) (us rest : List Token) (p : Part Form) (below : List (Part Form)) (e : may_end (p ∷ below) ≡ false) (parts : List (Part Form)) (r : Reads (parts ++ p ∷ below) us rest) where
  error_clause : Here (reserved (codes "ERROR")) keyed parts t ⊎ There (reserved (codes "ERROR")) [] parts t → Clause (p ∷ below) (t ∷ us) rest
  error_clause (inl here) = named_by (codes "ERROR") 2 t us rest keyed (p ∷ below) here.test refl refl refl e (rw (sym here.same) at r)
  error_clause (inr there) = absurd (no_alternative t parts there.found)

  status_clause : Here (reserved (codes "STATUS")) keyed parts t ⊎ There (reserved (codes "STATUS")) ((reserved (codes "ERROR"), keyed) ∷ []) parts t → Clause (p ∷ below) (t ∷ us) rest
  status_clause (inl here) = named_by (codes "STATUS") 2 t us rest keyed (p ∷ below) here.test refl refl refl e (rw (sym here.same) at r)
  status_clause (inr there) = error_clause (alternative (reserved (codes "ERROR")) keyed [] parts t there.found)

  text_clause : Here (reserved (codes "TEXT")) of_text parts t ⊎ There (reserved (codes "TEXT")) from_status parts t → Clause (p ∷ below) (t ∷ us) rest
  text_clause (inl here) = named_by (codes "TEXT") 2 t us rest of_text (p ∷ below) here.test refl refl refl e (rw (sym here.same) at r)
  text_clause (inr there) = status_clause (alternative (reserved (codes "STATUS")) keyed ((reserved (codes "ERROR"), keyed) ∷ []) parts t there.found)

  symbolic_clause : Here (reserved (codes "SYMBOLIC")) of_symbolic parts t ⊎ There (reserved (codes "SYMBOLIC")) from_text parts t → Clause (p ∷ below) (t ∷ us) rest
  symbolic_clause (inl here) = named_by (codes "SYMBOLIC") 2 t us rest of_symbolic (p ∷ below) here.test refl refl refl e (rw (sym here.same) at r)
  symbolic_clause (inr there) = text_clause (alternative (reserved (codes "TEXT")) of_text from_status parts t there.found)

  any_clause : Here (reserved (codes "DESTINATION")) (form destination_clause ∷ []) parts t ⊎ There (reserved (codes "DESTINATION")) from_symbolic parts t → Clause (p ∷ below) (t ∷ us) rest
  any_clause (inl here) = destination t us rest p below here.test e (rw (sym here.same) at r)
  any_clause (inr there) = symbolic_clause (alternative (reserved (codes "SYMBOLIC")) of_symbolic from_text parts t there.found)

  clause : behind out_clause_alternatives t ≡ Some parts → Clause (p ∷ below) (t ∷ us) rest
  clause h = any_clause (alternative (reserved (codes "DESTINATION")) (form destination_clause ∷ []) from_symbolic parts t h)

-- ALL CLAUSES UP TO THE PERIOD

-- the clauses of an output CD up to the period: the number in them is that of their first table
pub record IsOutputTail (front : List Token) : Type 0 where
  pub first : Token
  pub others : List Token
  pub whole : front ≡ first ∷ others
  pub no_list : is_name_or_filler first ≡ false
  pub no_times : is (reserved (codes "TIMES")) first ≡ false
  pub list : List (List Token)
  pub last : List Token
  pub cut : pieces ends_clause front ≡ list ++ last ∷ []
  pub numbers : number_in front ≡ table_token list
  pub closed : Closed (λ t. not (is period t)) (is period) front

one_piece : (b : Bool) (t : Token) → put b t [] ≡ (t ∷ []) ∷ []
one_piece true t = refl
one_piece false t = refl

only_period : (t : Token) → is period t ≡ true → IsOutputTail (t ∷ [])
only_period t h = record {
  first = t;
  others = [];
  whole = refl;
  no_list = rw (apart period name t h refl, apart period (reserved (codes "FILLER")) t h refl) refl;
  no_times = apart period times t h refl;
  list = [];
  last = t ∷ [];
  cut = one_piece (ends_clause t []) t;
  numbers = no_number_here t [] (apart period number t h refl);
  closed = record { body = []; end = t; whole = refl; passes = refl; closed = h };
}

begins_same : (front back whole others : List Token) (first : Token) → front ≡ first ∷ others → whole ≡ front ++ back → begins (is times) front ≡ begins (is times) whole
begins_same front back whole others first e w = ap (begins (is times)) e ∙ sym (ap (begins (is times)) (w ∙ ap (λ us. us ++ back) e))

closed_behind : (front others : List Token) → no_period front ≡ true → Closed (λ t. not (is period t)) (is period) others → Closed (λ t. not (is period t)) (is period) (front ++ others)
closed_behind front others h c = record {
  body = front ++ c.body;
  end = c.end;
  whole = ap (λ us. front ++ us) c.whole ∙ sym (append_assoc front c.body (c.end ∷ []));
  passes = all_of_both (λ t. not (is period t)) front c.body h c.passes;
  closed = c.closed;
}

one_more : (front back others after : List Token) → IsClause front back → back ≡ others ++ after → IsOutputTail others → IsOutputTail (front ++ others)
one_more front back others after c w tail = record {
  first = c.first;
  others = c.others ++ others;
  whole = ap (λ us. us ++ others) c.whole;
  no_list = c.no_list;
  no_times = c.no_times;
  list = front ∷ tail.list;
  last = tail.last;
  cut = c.one others (begins_same others after back tail.others tail.first tail.whole w) ∙ ap (λ us. front ∷ us) tail.cut;
  numbers = either_number front others ∙ ap (λ o. option_or o (number_in others)) c.number ∙ ap (option_or (clause_token (output_field_of front) front)) tail.numbers;
  closed = closed_behind front others c.plain tail.closed;
}

module _ (below : List (Part Form)) (e : may_end below ≡ false) (rest : List Token) where
  abbrev Tail : List Token → Type 0
  Tail ts = Parted IsOutputTail below ts rest

  period_tail : (ts us : List Token) (t : Token) → ts ≡ t ∷ us → is period t ≡ true → Reads below us rest → Tail ts
  period_tail ts us t w h r = record { front = t ∷ []; back = us; whole = w; here = only_period t h; read = r }

  joined_tail : (ts front back : List Token) → ts ≡ front ++ back → IsClause front back → Tail back → Tail ts
  joined_tail ts front back w c others = record {
    front = front ++ others.front;
    back = others.back;
    whole = w ∙ ap (λ vs. front ++ vs) others.whole ∙ sym (append_assoc front others.front others.back);
    here = one_more front back others.front others.back c others.whole others.here;
    read = others.read;
  }

  clause_shorter : (us front back others : List Token) (t first : Token) → front ≡ first ∷ others → t ∷ us ≡ front ++ back → length back ≤ length us
  clause_shorter us front back others t first e w = omega (arith, ap length w, length-append front back, ap length e)

  clause_tail : (ts us : List Token) (t : Token) (parts : List (Part Form)) → ts ≡ t ∷ us → behind out_clause_alternatives t ≡ Some parts → Reads (parts ++ more out_clause ∷ token period ∷ below) us rest
      → ((vs : List Token) → length vs ≤ length us → Reads (more out_clause ∷ token period ∷ below) vs rest → Tail vs) → Tail ts
  clause_tail ts us t parts w h r next = by (clause t us rest (more out_clause) (token period ∷ below) refl parts r h)
    where
      by : Clause (more out_clause ∷ token period ∷ below) (t ∷ us) rest → Tail ts
      by c = joined_tail ts c.front c.back (w ∙ c.whole) c.here (next c.back (clause_shorter us c.front c.back c.here.others t c.here.first c.here.whole c.whole) c.read)

  tails : (n : ℕ) (ts : List Token) → length ts ≤ n → Reads (more out_clause ∷ token period ∷ below) ts rest → Tail ts
  tails zero ts le h = by (more_step out_clause (token period) below ts rest refl h)
    where
      by : Turned out_clause (token period ∷ below) ts rest ⊎ LeftOut out_clause (token period ∷ below) ts rest → Tail ts
      by (inl turned) = absurd (omega (arith, ap length turned.taken.whole, le))
      by (inr skipped) = absurd (omega (arith, ap length skipped.whole, le))
  tails (suc n) ts le h = by (more_step out_clause (token period) below ts rest refl h) (tails n)
    where
      by : Turned out_clause (token period ∷ below) ts rest ⊎ LeftOut out_clause (token period ∷ below) ts rest → ((vs : List Token) → length vs ≤ n → Reads (more out_clause ∷ token period ∷ below) vs rest → Tail vs) → Tail ts
      by (inl turned) next =
          let t = turned.taken in
          clause_tail ts t.others t.one turned.parts t.whole t.here t.read (λ vs short r. next vs (omega (arith, short, ap length t.whole, le)) r)
      by (inr skipped) next = let t = token_step period below ts rest skipped.read in period_tail ts t.others t.one t.whole t.here t.read

  -- an alternative with a tail is one without it, before the tail
  record Own (list : Alternatives Form) (tail parts : List (Part Form)) (t : Token) : Type 0 where
    own : List (Part Form)
    found : behind list t ≡ Some own
    same : parts ≡ own ++ tail

  own_by : (b : Bool) (sort : Sort) (parts tail got : List (Part Form)) (list : Alternatives Form) (t : Token) → (if b then Some (parts ++ tail) else behind (with_tail tail list) t) ≡ Some got
      → (behind (with_tail tail list) t ≡ Some got → Own list tail got t) → is sort t ≡ b → Own ((sort, parts) ∷ list) tail got t
  own_by true sort parts tail got list t h g e = let same : got ≡ parts ++ tail = cc in record { own = parts; found = rw e refl; same = same }
  own_by false sort parts tail got list t h g e = let o = g h in record { own = o.own; found = rw e o.found; same = o.same }

  own_parts : (list : Alternatives Form) (tail got : List (Part Form)) (t : Token) → behind (with_tail tail list) t ≡ Some got → Own list tail got t
  own_parts [] tail got t h = absurd (no_alternative t got h)
  own_parts (a ∷ list) tail got t h = own_by (is a.0 t) a.0 a.1 tail got list t h (own_parts list tail got t) refl

  abbrev clauses_and_period : List (Part Form)
  clauses_and_period = more out_clause ∷ token period ∷ []

  -- what comes after OUTPUT
  pub output_tail : (ts : List Token) → Reads (form output_body ∷ below) ts rest → Tail ts
  output_tail ts h =
      let f = form_step output_body below ts rest h in
      by f.parts f.taken.one f.taken.others f.taken.whole f.taken.read (alternative period [] (with_tail clauses_and_period out_clause_alternatives) f.parts f.taken.one f.taken.here)
    where
      by : (parts : List (Part Form)) (t : Token) (us : List Token) → ts ≡ t ∷ us → Reads (parts ++ below) us rest → Here period [] parts t ⊎ There period (with_tail clauses_and_period out_clause_alternatives) parts t → Tail ts
      by parts t us w r (inl here) = period_tail ts us t w here.test (rw (sym here.same) at r)
      by parts t us w r (inr there) =
          let o = own_parts out_clause_alternatives clauses_and_period parts t there.found in
          clause_tail ts us t o.own w o.found (rw (append_assoc o.own clauses_and_period below) at (rw o.same at r)) (λ vs le k. tails (length us) vs le k)
