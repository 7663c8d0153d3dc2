-- The shapes of entries as they are read: headers, items and CD entries.
use Rattle.std.proofs.Common.{◌≡◌, ◌≤◌, ℕ, zero, suc, ◌-◌, Bool, true, false, not, ◌||◌, ◌==◌, List, [], ◌∷◌, ◌++◌, length, take, map, filter, Some, codes, refl, sym, ap, ◌∙◌, inl, inr, append_assoc, arith, length-append}
use Rattle.std.specs.Prelude.{◌⊎◌, if◌then◌else◌}
use Rattle.std.specs.List.{AllByRecursion, list_all}
use Rattle.std.proofs.lemmas.List.{take_at}
use Rattle.std.proofs.lemmas.Grind.{common_steps}
use Rattle.std.proofs.lemmas.Bool.Decides.{nat_tests}
use Rattle.cob_lex.specs.declared.token.Token.{Token}
use Rattle.cob_lex.specs.declared.token.TokenKind.TheVariants as tokens
use Rattle.cob_forms.specs.Sorts.{Sort, any_word, is, kind_code, name, of_kind, reserved}
use Rattle.cob_forms.specs.Forms.{Alternatives, Part, token, form, more, behind, may_end}
use Rattle.cob_forms.proofs.Only.{apart, differ}
use Rattle.cob_data.specs.Clauses.{all_clauses, body_of, clauses_of, is_input, is_name_or_filler, lists_names, number_in}
use Rattle.cob_data.specs.Entries.{all_but_last, described, entries_of, is_cd, is_item, put, wants_word, word_flags}
use Rattle.cob_data.specs.Forms.{Form, alternatives_of, cd_use, clauses, direction, direction_alternatives, input_body, item, name_or_filler, output_body, period}
use Rattle.cob_data.proofs.NumeralLaws.{both, joined}
use Rattle.cob_data.proofs.ReadSteps.{Reads, Entered, LeftOut, Turned, Here, There, alternative, form_step, more_step, no_alternative, token_step}
use Rattle.cob_data.proofs.Sentences.{AllPass, Closed, Parted, closes, sentence}
use Rattle.cob_data.proofs.OutputClauses.{IsOutputTail, no_number_here, output_tail, table_token}
use Rattle.cob_data.proofs.Tests.{each_of_both, not_true}

-- SENTENCES UP TO A PERIOD

abbrev is_plain : Sort → Bool
is_plain s = differ s period

abbrev no_period : Token → Bool
no_period t = not (is period t)

plain_sound : (s : Sort) (t : Token) → is_plain s ≡ true → is s t ≡ true → no_period t ≡ true
plain_sound s t h k = ap not (apart s period t k h)

abbrev pub ends_period : Sort → Bool
ends_period (reserved text) = false
ends_period name = false
ends_period any_word = false
ends_period (of_kind kind) = kind_code kind == 4

same_kind : (a b : ℕ) → (b == 4) ≡ true → (a == b) ≡ true → (a == 4) ≡ true
same_kind a b h k = grind (arith, common_steps, nat_tests)

period_sound : (s : Sort) (t : Token) → ends_period s ≡ true → is s t ≡ true → is period t ≡ true
period_sound (reserved text) t h k = let no : ⊥ = cc in absurd no
period_sound name t h k = let no : ⊥ = cc in absurd no
period_sound any_word t h k = let no : ⊥ = cc in absurd no
period_sound (of_kind kind) t h k = same_kind (kind_code t.kind) (kind_code kind) h k

-- tokens with one period, the last of them
abbrev pub IsSentence : List Token → Type 0
IsSentence front = Closed no_period (is period) front

pub to_period : (n : ℕ) (ps below : List (Part Form)) (ts rest : List Token) → closes is_plain ends_period n ps ≡ true → may_end below ≡ false → Reads (ps ++ below) ts rest → Parted IsSentence below ts rest
to_period n ps below ts rest k e r = sentence is_plain no_period plain_sound ends_period (is period) period_sound n ps below ts rest k e r

pub with_plain : (t : Token) (front : List Token) → is period t ≡ false → IsSentence front → IsSentence (t ∷ front)
with_plain t front h c = record { body = t ∷ c.body; end = c.end; whole = ap (λ us. t ∷ us) c.whole; passes = joined (no_period t) (list_all no_period c.body) (ap not h) c.passes; closed = c.closed }

-- ENTRIES

-- an item: a level, a name or FILLER, and its clauses
pub record IsItemEntry (entry : List Token) : Type 0 where
  pub level : Token
  pub named : Token
  pub others : List Token
  pub whole : entry ≡ level ∷ named ∷ others
  pub number : is (of_kind tokens.Number) level ≡ true
  pub name : is_name_or_filler named ≡ true

-- A CD entry: CD, a name, and its use. The number in that of an output CD is that of its first table.
pub record IsCdEntry (entry : List Token) : Type 0 where
  pub word : Token
  pub named : Token
  pub others : List Token
  pub whole : entry ≡ word ∷ named ∷ others
  pub numbers : is_input entry ≡ false → number_in entry ≡ table_token (clauses_of entry)

-- an item or a CD entry has its form
pub record IsShaped (entry : List Token) : Type 0 where
  pub item : is_item entry ≡ true → IsItemEntry entry
  pub cd : is_cd entry ≡ true → IsCdEntry entry

-- tokens are these entries, whatever tokens come after them
pub record AreEntries (front : List Token) : Type 0 where
  pub list : List (List Token)
  pub described : (after : List Token) → described (front ++ after) ≡ list ++ described after
  pub shaped : AllByRecursion IsShaped list

-- one entry, after which no word is chosen
pub record IsEntry (front : List Token) : Type 0 where
  pub sentence : IsSentence front
  pub shaped : IsShaped front
  pub no_word : wants_word front ≡ false

sentence_by : (body : List Token) (end : Token) (after : List Token) → AllPass no_period body → is period end ≡ true → entries_of ((body ++ end ∷ []) ++ after) ≡ (body ++ end ∷ []) ∷ entries_of after
sentence_by [] end after h k = ap (λ b. put b end (entries_of after)) k
sentence_by (t ∷ body) end after h k =
    let all = both (no_period t) (list_all no_period body) h in
    ap (λ b. put b t (entries_of ((body ++ end ∷ []) ++ after))) (not_true (is period t) all.0) ∙ ap (put false t) (sentence_by body end after all.1 k)

sentence_entry : (front after : List Token) → IsSentence front → entries_of (front ++ after) ≡ front ∷ entries_of after
sentence_entry front after c = ap (λ us. entries_of (us ++ after)) c.whole ∙ sentence_by c.body c.end after c.passes c.closed ∙ ap (λ us. us ∷ entries_of after) (sym c.whole)

-- the entries that are not chosen words, by whether the first one is
abbrev kept : Bool → List (List Token) → List (List Token)
kept word entries = map (λ x. x.1) (filter (λ x. not x.0) (word_flags word entries))

one_kept : (b : Bool) (entry : List Token) (entries : List (List Token)) → wants_word entry ≡ b → kept false (entry ∷ entries) ≡ entry ∷ kept b entries
one_kept b entry entries h = ap (λ c. entry ∷ kept c entries) h

pub one_entry : (front : List Token) → IsEntry front → AreEntries front
one_entry front e = record {
  list = front ∷ [];
  described = λ after. ap (kept false) (sentence_entry front after e.sentence) ∙ one_kept false front (entries_of after) e.no_word;
  shaped = (e.shaped, tt);
}

-- a header, and the word that is chosen after it
pub with_word : (front word : List Token) → IsSentence front → IsSentence word → IsShaped front → wants_word front ≡ true → AreEntries (front ++ word)
with_word front word e w s h = record {
  list = front ∷ [];
  described = λ after.
      ap (λ us. kept false (entries_of us)) (append_assoc front word after) ∙ ap (kept false) (sentence_entry front (word ++ after) e) ∙ one_kept true front (entries_of (word ++ after)) h
      ∙ ap (λ us. front ∷ kept true us) (sentence_entry word after w);
  shaped = (s, tt);
}

pub no_entries : AreEntries []
no_entries = record { list = []; described = λ after. refl; shaped = tt }

pub both_entries : (xs ys : List Token) → AreEntries xs → AreEntries ys → AreEntries (xs ++ ys)
both_entries xs ys a b = record {
  list = a.list ++ b.list;
  described = λ after. ap described (append_assoc xs ys after) ∙ a.described (ys ++ after) ∙ ap (λ us. a.list ++ us) (b.described after) ∙ sym (append_assoc a.list b.list (described after));
  shaped = each_of_both IsShaped a.list b.list a.shaped b.shaped;
}

-- ITEMS

pub no_words : (t : Token) (front : List Token) → is (reserved (codes "PROGRAM-ID")) t ≡ false → is (reserved (codes "SOURCE-COMPUTER")) t ≡ false → is (reserved (codes "OBJECT-COMPUTER")) t ≡ false → wants_word (t ∷ front) ≡ false
no_words t front a b c = rw (a, b, c) refl

item_shaped : (level named : Token) (others : List Token) → is (of_kind tokens.Number) level ≡ true → is_name_or_filler named ≡ true → IsShaped (level ∷ named ∷ others)
item_shaped level named others h k = record {
  item = λ e. record { level = level; named = named; others = others; whole = refl; number = h; name = k };
  cd = λ e. let no : is_cd (level ∷ named ∷ others) ≡ false = apart (of_kind tokens.Number) (reserved (codes "CD")) level h refl in let wrong : ⊥ = cc in absurd wrong;
}

item_entry : (level named : Token) (front : List Token) → is (of_kind tokens.Number) level ≡ true → is_name_or_filler named ≡ true → is period named ≡ false → IsSentence front → IsEntry (level ∷ named ∷ front)
item_entry level named front h k l c = record {
  sentence = with_plain level (named ∷ front) (apart (of_kind tokens.Number) period level h refl) (with_plain named front l c);
  shaped = item_shaped level named front h k;
  no_word = no_words level (named ∷ front) (apart (of_kind tokens.Number) (reserved (codes "PROGRAM-ID")) level h refl) (apart (of_kind tokens.Number) (reserved (codes "SOURCE-COMPUTER")) level h refl)
      (apart (of_kind tokens.Number) (reserved (codes "OBJECT-COMPUTER")) level h refl);
}

abbrev filler : Sort
filler = reserved (codes "FILLER")

named_by_name : (t : Token) → is name t ≡ true → is_name_or_filler t ≡ true
named_by_name t h = rw h refl

named_by_filler : (t : Token) → is filler t ≡ true → is_name_or_filler t ≡ true
named_by_filler t h = by (is name t) (is filler t) h
  where
    by : (a b : Bool) → b ≡ true → (a || b) ≡ true
    by true b h = refl
    by false b h = h

-- a name or FILLER was read
record IsNamed (t : Token) (parts : List (Part Form)) : Type 0 where
  name : is_name_or_filler t ≡ true
  no_period : is period t ≡ false
  none : parts ≡ []

named_read : (t : Token) (parts : List (Part Form)) → behind (alternatives_of name_or_filler) t ≡ Some parts → IsNamed t parts
named_read t parts h = by (alternative name [] ((filler, []) ∷ []) parts t h)
  where
    then_filler : Here filler [] parts t ⊎ There filler [] parts t → IsNamed t parts
    then_filler (inl here) = record { name = named_by_filler t here.test; no_period = apart filler period t here.test refl; none = sym here.same }
    then_filler (inr there) = absurd (no_alternative t parts there.found)

    by : Here name [] parts t ⊎ There name ((filler, []) ∷ []) parts t → IsNamed t parts
    by (inl here) = record { name = named_by_name t here.test; no_period = apart name period t here.test refl; none = sym here.same }
    by (inr there) = then_filler (alternative filler [] [] parts t there.found)

-- an entry was read
pub record Entry (below : List (Part Form)) (ts rest : List Token) : Type 0 where
  pub front : List Token
  pub back : List Token
  pub whole : ts ≡ front ++ back
  pub some : 1 ≤ length front
  pub here : IsEntry front
  pub read : Reads below back rest

module _ (below : List (Part Form)) (e : may_end below ≡ false) (rest : List Token) where
  item_behind : (ts us : List Token) (level : Token) → ts ≡ level ∷ us → is (of_kind tokens.Number) level ≡ true → Reads (form name_or_filler ∷ form clauses ∷ below) us rest → Entry below ts rest
  item_behind ts us level w h r = by (form_step name_or_filler (form clauses ∷ below) us rest r)
    where
      two : (named : Token) (vs : List Token) → us ≡ named ∷ vs → is_name_or_filler named ≡ true → is period named ≡ false → Parted IsSentence below vs rest → Entry below ts rest
      two named vs w' k l p = record {
        front = level ∷ named ∷ p.front;
        back = p.back;
        whole = w ∙ ap (λ xs. level ∷ xs) (w' ∙ ap (λ xs. named ∷ xs) p.whole);
        some = omega arith;
        here = item_entry level named p.front h k l p.here;
        read = p.read;
      }

      by : Entered name_or_filler (form clauses ∷ below) us rest → Entry below ts rest
      by f = let k = named_read f.taken.one f.parts f.taken.here in
          two f.taken.one f.taken.others f.taken.whole k.name k.no_period (to_period 6 (form clauses ∷ []) below f.taken.others rest refl e (rw k.none at f.taken.read))

  item_read : (ts us : List Token) (t : Token) (parts : List (Part Form)) → ts ≡ t ∷ us → behind (alternatives_of item) t ≡ Some parts → Reads (parts ++ below) us rest → Entry below ts rest
  item_read ts us t parts w h r = by (alternative (of_kind tokens.Number) (form name_or_filler ∷ form clauses ∷ []) [] parts t h)
    where
      by : Here (of_kind tokens.Number) (form name_or_filler ∷ form clauses ∷ []) parts t ⊎ There (of_kind tokens.Number) [] parts t → Entry below ts rest
      by (inl here) = item_behind ts us t w here.test (rw (sym here.same) at r)
      by (inr there) = absurd (no_alternative t parts there.found)

-- entries, and others after them
pub then_entries : (below : List (Part Form)) (rest ts front back : List Token) → ts ≡ front ++ back → AreEntries front → Parted AreEntries below back rest → Parted AreEntries below ts rest
then_entries below rest ts front back w e others = record {
  front = front ++ others.front;
  back = others.back;
  whole = w ∙ ap (λ vs. front ++ vs) others.whole ∙ sym (append_assoc front others.front others.back);
  here = both_entries front others.front e others.here;
  read = others.read;
}

pub nothing_read : (below : List (Part Form)) (rest ts : List Token) → Reads below ts rest → Parted AreEntries below ts rest
nothing_read below rest ts r = record { front = []; back = ts; whole = refl; here = no_entries; read = r }

pub shorter : {A : Type 0} (ts us front back : List A) (t : A) → ts ≡ t ∷ us → ts ≡ front ++ back → 1 ≤ length front → length back ≤ length us
shorter ts us front back t w v some = omega (arith, ap length w, ap length v, length-append front back, some)

module _ (p : Part Form) (below : List (Part Form)) (e : may_end (p ∷ below) ≡ false) (rest : List Token) where
  abbrev Items : List Token → Type 0
  Items ts = Parted AreEntries (p ∷ below) ts rest

  items_from : (ts us : List Token) (t : Token) → ts ≡ t ∷ us → Entry (more item ∷ p ∷ below) ts rest → ((vs : List Token) → length vs ≤ length us → Reads (more item ∷ p ∷ below) vs rest → Items vs) → Items ts
  items_from ts us t w i next = then_entries (p ∷ below) rest ts i.front i.back i.whole (one_entry i.front i.here) (next i.back (shorter ts us i.front i.back t w i.whole i.some) i.read)

  pub items : (n : ℕ) (ts : List Token) → length ts ≤ n → Reads (more item ∷ p ∷ below) ts rest → Items ts
  items zero ts le h = by (more_step item p below ts rest e h)
    where
      by : Turned item (p ∷ below) ts rest ⊎ LeftOut item (p ∷ below) ts rest → Items ts
      by (inl turned) = absurd (omega (arith, ap length turned.taken.whole, le))
      by (inr skipped) = nothing_read (p ∷ below) rest ts skipped.read
  items (suc n) ts le h = by (more_step item p below ts rest e h) (items n)
    where
      by : Turned item (p ∷ below) ts rest ⊎ LeftOut item (p ∷ below) ts rest → ((vs : List Token) → length vs ≤ n → Reads (more item ∷ p ∷ below) vs rest → Items vs) → Items ts
      by (inl turned) next =
          let t = turned.taken in
          items_from ts t.others t.one t.whole (item_read (more item ∷ p ∷ below) e rest ts t.others t.one turned.parts t.whole t.here t.read) (λ vs short r. next vs (omega (arith, short, ap length t.whole, le)) r)
      by (inr skipped) next = nothing_read (p ∷ below) rest ts skipped.read

-- CD ENTRIES

-- what comes after the name of an output CD
pub record IsOutputUse (front : List Token) : Type 0 where
  pub tail : List Token
  pub output : IsOutputTail tail
  pub body : body_of front ≡ tail
  pub numbers : number_in front ≡ number_in tail

-- what comes after the name of a CD
pub record IsUse (front : List Token) : Type 0 where
  pub sentence : IsSentence front
  pub kind : (is_input front ≡ true) ⊎ IsOutputUse front

abbrev input : Sort
input = reserved (codes "INPUT")

abbrev output : Sort
output = reserved (codes "OUTPUT")

abbrev initial : Sort
initial = reserved (codes "INITIAL")

abbrev for : Sort
for = reserved (codes "FOR")

input_behind : (t : Token) (front : List Token) → is_input front ≡ true → is_input (t ∷ front) ≡ true
input_behind t front h = by (is input t) (is_input front) h
  where
    by : (a b : Bool) → b ≡ true → (a || b) ≡ true
    by true b h = refl
    by false b h = h

input_here : (t : Token) (front : List Token) → is input t ≡ true → is_input (t ∷ front) ≡ true
input_here t front h = rw h refl

-- one more token before it
use_behind : (t : Token) (front : List Token) → is input t ≡ false → is output t ≡ false → is (of_kind tokens.Number) t ≡ false → IsOutputUse front → IsOutputUse (t ∷ front)
use_behind t front a b c u = record { tail = u.tail; output = u.output; body = by (is input t) (is output t) a b ∙ u.body; numbers = no_number_here t front c ∙ u.numbers }
  where
    by : (a b : Bool) → a ≡ false → b ≡ false → (if a || b then front else body_of front) ≡ body_of front
    by true b h k = let no : ⊥ = cc in absurd no
    by false true h k = let no : ⊥ = cc in absurd no
    by false false h k = refl

kind_behind : (t : Token) (front : List Token) → is input t ≡ false → is output t ≡ false → is (of_kind tokens.Number) t ≡ false → (is_input front ≡ true) ⊎ IsOutputUse front → (is_input (t ∷ front) ≡ true) ⊎ IsOutputUse (t ∷ front)
kind_behind t front a b c (inl k) = inl (input_behind t front k)
kind_behind t front a b c (inr u) = inr (use_behind t front a b c u)

output_here : (t : Token) (tail : List Token) → is output t ≡ true → IsOutputTail tail → IsOutputUse (t ∷ tail)
output_here t tail h o = record { tail = tail; output = o; body = by (is input t) (is output t) h; numbers = no_number_here t tail (apart output (of_kind tokens.Number) t h refl) }
  where
    by : (a b : Bool) → b ≡ true → (if a || b then tail else body_of tail) ≡ tail
    by true b h = refl
    by false true h = refl
    by false false h = let no : ⊥ = cc in absurd no

last_left : (list : List (List Token)) (last : List Token) → all_but_last (list ++ last ∷ []) ≡ list
last_left list last =
    let n : length (list ++ last ∷ []) - 1 ≡ length list = omega (arith, length-append list (last ∷ [])) in
    ap (λ k. take k (list ++ last ∷ [])) n ∙ take_at list (last ∷ []) (length list) refl

-- the first number is that of the first table
tail_number : (tail : List Token) (o : IsOutputTail tail) → number_in tail ≡ table_token (if lists_names tail then [] else all_clauses tail)
tail_number tail o =
    let lists : lists_names tail ≡ false = ap lists_names o.whole ∙ o.no_list in
    let all : all_clauses tail ≡ o.list = ap all_but_last o.cut ∙ last_left o.list o.last in
    o.numbers ∙ ap table_token (sym all) ∙ ap (λ b. table_token (if b then [] else all_clauses tail)) (sym lists)

use_number : (front : List Token) → IsOutputUse front → number_in front ≡ table_token (clauses_of front)
use_number front u = u.numbers ∙ tail_number u.tail u.output ∙ ap (λ body. table_token (if lists_names body then [] else all_clauses body)) (sym u.body)

not_input : (front : List Token) → (is_input front ≡ true) ⊎ IsOutputUse front → is_input front ≡ false → number_in front ≡ table_token (clauses_of front)
not_input front (inl k) h = let no : ⊥ = cc in absurd no
not_input front (inr u) h = use_number front u

-- the directions but INITIAL
abbrev from_input : Alternatives Form
from_input = (input, form input_body ∷ []) ∷ (output, form output_body ∷ []) ∷ []

module _ (below : List (Part Form)) (e : may_end below ≡ false) (rest : List Token) where
  abbrev Use : List Token → Type 0
  Use ts = Parted IsUse below ts rest

  input_use : (ts us : List Token) (t : Token) → ts ≡ t ∷ us → is input t ≡ true → Reads (form input_body ∷ below) us rest → Use ts
  input_use ts us t w h r =
      let p = to_period 6 (form input_body ∷ []) below us rest refl e r in
      record {
        front = t ∷ p.front;
        back = p.back;
        whole = w ∙ ap (λ vs. t ∷ vs) p.whole;
        here = record { sentence = with_plain t p.front (apart input period t h refl) p.here; kind = inl (input_here t p.front h) };
        read = p.read;
      }

  output_use : (ts us : List Token) (t : Token) → ts ≡ t ∷ us → is output t ≡ true → Reads (form output_body ∷ below) us rest → Use ts
  output_use ts us t w h r =
      let p = output_tail below e rest us r in
      record {
        front = t ∷ p.front;
        back = p.back;
        whole = w ∙ ap (λ vs. t ∷ vs) p.whole;
        here = record { sentence = with_plain t p.front (apart output period t h refl) p.here.closed; kind = inr (output_here t p.front h p.here) };
        read = p.read;
      }

  -- INITIAL or FOR before it
  use_with : (ts us : List Token) (t : Token) → ts ≡ t ∷ us → is period t ≡ false → is input t ≡ false → is output t ≡ false → is (of_kind tokens.Number) t ≡ false → Use us → Use ts
  use_with ts us t w z a b c p = record {
    front = t ∷ p.front;
    back = p.back;
    whole = w ∙ ap (λ vs. t ∷ vs) p.whole;
    here = record { sentence = with_plain t p.front z p.here.sentence; kind = kind_behind t p.front a b c p.here.kind };
    read = p.read;
  }

  initial_use : (ts us : List Token) (t : Token) → ts ≡ t ∷ us → is initial t ≡ true → Reads (token input ∷ form input_body ∷ below) us rest → Use ts
  initial_use ts us t w h r =
      let i = token_step input (form input_body ∷ below) us rest r in
      use_with ts us t w (apart initial period t h refl) (apart initial input t h refl) (apart initial output t h refl) (apart initial (of_kind tokens.Number) t h refl) (input_use us i.others i.one i.whole i.here i.read)

  module _ (ts us : List Token) (t : Token) (parts : List (Part Form)) (w : ts ≡ t ∷ us) (r : Reads (parts ++ below) us rest) where
    third_direction : Here output (form output_body ∷ []) parts t ⊎ There output [] parts t → Use ts
    third_direction (inl here) = output_use ts us t w here.test (rw (sym here.same) at r)
    third_direction (inr there) = absurd (no_alternative t parts there.found)

    second_direction : Here input (form input_body ∷ []) parts t ⊎ There input ((output, form output_body ∷ []) ∷ []) parts t → Use ts
    second_direction (inl here) = input_use ts us t w here.test (rw (sym here.same) at r)
    second_direction (inr there) = third_direction (alternative output (form output_body ∷ []) [] parts t there.found)

    first_direction : Here initial (token input ∷ form input_body ∷ []) parts t ⊎ There initial from_input parts t → Use ts
    first_direction (inl here) = initial_use ts us t w here.test (rw (sym here.same) at r)
    first_direction (inr there) = second_direction (alternative input (form input_body ∷ []) ((output, form output_body ∷ []) ∷ []) parts t there.found)

    directed : behind direction_alternatives t ≡ Some parts → Use ts
    directed h = first_direction (alternative initial (token input ∷ form input_body ∷ []) from_input parts t h)

  direction_use : (ts : List Token) → Reads (form direction ∷ below) ts rest → Use ts
  direction_use ts r = by (form_step direction below ts rest r)
    where
      by : Entered direction below ts rest → Use ts
      by f = directed ts f.taken.others f.taken.one f.parts f.taken.whole f.taken.read f.taken.here

  for_use : (ts us : List Token) (t : Token) → ts ≡ t ∷ us → is for t ≡ true → Reads (form direction ∷ below) us rest → Use ts
  for_use ts us t w h r = use_with ts us t w (apart for period t h refl) (apart for input t h refl) (apart for output t h refl) (apart for (of_kind tokens.Number) t h refl) (direction_use us r)

  pub any_use : (ts : List Token) → Reads (form cd_use ∷ below) ts rest → Use ts
  any_use ts r = by (form_step cd_use below ts rest r)
    where
      two : (parts : List (Part Form)) (t : Token) (us : List Token) → ts ≡ t ∷ us → Reads (parts ++ below) us rest → Here for (form direction ∷ []) parts t ⊎ There for direction_alternatives parts t → Use ts
      two parts t us w r (inl here) = for_use ts us t w here.test (rw (sym here.same) at r)
      two parts t us w r (inr there) = directed ts us t parts w r there.found

      by : Entered cd_use below ts rest → Use ts
      by f = two f.parts f.taken.one f.taken.others f.taken.whole f.taken.read (alternative for (form direction ∷ []) direction_alternatives f.parts f.taken.one f.taken.here)

-- CD, a name, and its use
abbrev pub cd_word : Sort
cd_word = reserved (codes "CD")

cd_numbers : (t named : Token) (front : List Token) → is cd_word t ≡ true → is name named ≡ true → IsUse front → is_input (t ∷ named ∷ front) ≡ false → number_in (t ∷ named ∷ front) ≡ table_token (clauses_of (t ∷ named ∷ front))
cd_numbers t named front h k u =
    not_input (t ∷ named ∷ front)
    (kind_behind t (named ∷ front) (apart cd_word input t h refl) (apart cd_word output t h refl) (apart cd_word (of_kind tokens.Number) t h refl)
    (kind_behind named front (apart name input named k refl) (apart name output named k refl) (apart name (of_kind tokens.Number) named k refl) u.kind))

cd_shaped : (t named : Token) (front : List Token) → is cd_word t ≡ true → is name named ≡ true → IsUse front → IsShaped (t ∷ named ∷ front)
cd_shaped t named front h k u = record {
  item = λ e. let no : is_item (t ∷ named ∷ front) ≡ false = apart cd_word (of_kind tokens.Number) t h refl in let wrong : ⊥ = cc in absurd wrong;
  cd = λ e. record { word = t; named = named; others = front; whole = refl; numbers = cd_numbers t named front h k u };
}

pub cd_is_entry : (t named : Token) (front : List Token) → is cd_word t ≡ true → is name named ≡ true → IsUse front → IsEntry (t ∷ named ∷ front)
cd_is_entry t named front h k u = record {
  sentence = with_plain t (named ∷ front) (apart cd_word period t h refl) (with_plain named front (apart name period named k refl) u.sentence);
  shaped = cd_shaped t named front h k u;
  no_word = no_words t (named ∷ front) (apart cd_word (reserved (codes "PROGRAM-ID")) t h refl) (apart cd_word (reserved (codes "SOURCE-COMPUTER")) t h refl) (apart cd_word (reserved (codes "OBJECT-COMPUTER")) t h refl);
}
