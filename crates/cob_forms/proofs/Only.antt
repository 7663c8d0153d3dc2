-- What is spelled so is read so: nothing else is read from these tokens.
use Rattle.std.proofs.Common.{◌≡◌, ℕ, zero, suc, ◌≤◌, ◌<◌, Bool, true, false, not, ◌&&◌, ◌==◌, List, [], ◌∷◌, length, Option, Some, None, Result, Ok, Err, refl, sym, ap, inl, inr, arith}
use Rattle.std.specs.Prelude.{is_some, if◌then◌else◌}
use Rattle.std.proofs.lemmas.Slice.Eq.{bytes_eq-Decides}
use Rattle.std.specs.Str.{bytes_eq}
use Rattle.std.proofs.lemmas.Grind.{common_steps}
use Rattle.std.proofs.lemmas.Bool.Decides.{nat_tests}
use Rattle.cob_lex.specs.declared.token.Token.{Token}
use Rattle.cob_lex.specs.declared.token.TokenKind.TheVariants as tokens
use Rattle.cob_forms.specs.Sorts.{Sort, is, reserved, name, any_word, of_kind, is_reserved, kind_code, is_of_kind}
use Rattle.cob_forms.specs.Written.{name_of, number_of, literal_of}
use Rattle.cob_forms.specs.Readers as readers
use Rattle.cob_forms.specs.Readers.{Reader, begins, go_on, found, at, turns}
use Rattle.cob_forms.specs.Forms.{Part, Alternatives, behind, starts}
use Rattle.cob_forms.specs.Spelling.{Spelling, the, made, perhaps, written, unless, all_of, some_of, maybe_of, IsName, IsNumber, IsLiteral}
use Rattle.cob_forms.proofs.Agreement.{Enters, Opens}

-- no token is of both sorts
abbrev pub differ : Sort → Sort → Bool
differ (reserved p) (reserved q) = not (bytes_eq p q)
differ (reserved p) name = is_reserved p
differ (reserved p) any_word = false
differ (reserved p) (of_kind k) = not (0 == kind_code k)
differ name (reserved q) = is_reserved q
differ name name = false
differ name any_word = false
differ name (of_kind k) = not (0 == kind_code k)
differ any_word (reserved q) = false
differ any_word name = false
differ any_word any_word = false
differ any_word (of_kind k) = not (0 == kind_code k)
differ (of_kind k) (reserved q) = not (0 == kind_code k)
differ (of_kind k) name = not (0 == kind_code k)
differ (of_kind k) any_word = not (0 == kind_code k)
differ (of_kind k) (of_kind l) = not (kind_code l == kind_code k)

both_first : (a b : Bool) → (a && b) ≡ true → a ≡ true
both_first true b h = refl
both_first false b h = h

both_second : (a b : Bool) → (a && b) ≡ true → b ≡ true
both_second true b h = h
both_second false b h = cc

either_false : (a b : Bool) → b ≡ false → (a && b) ≡ false
either_false true b h = h
either_false false b h = refl

not_true : (b : Bool) → not b ≡ true → b ≡ false
not_true true h = cc
not_true false h = refl

other_code : (c n m : ℕ) → (c == n) ≡ true → (n == m) ≡ false → (c == m) ≡ false
other_code c n m h k = grind (arith, common_steps, nat_tests)

not_zero : (c n : ℕ) → (c == n) ≡ true → (0 == n) ≡ false → (c == 0) ≡ false
not_zero c n h k = grind (arith, common_steps, nat_tests)

not_word : (c n : ℕ) (b : Bool) → (c == n) ≡ true → (0 == n) ≡ false → ((c == 0) && b) ≡ false
not_word c n b h k = rw (not_zero c n h k) refl

other_kind : (c n m : ℕ) → (c == n) ≡ true → (m == n) ≡ false → (c == m) ≡ false
other_kind c n m h k = grind (arith, common_steps, nat_tests)

other_word : (text p q : List ℕ) → bytes_eq text p ≡ true → bytes_eq p q ≡ false → bytes_eq text q ≡ false
other_word text p q h k = let same : text ≡ p = (bytes_eq-Decides text p).0 h in rw same k

is_taken : (text p : List ℕ) → bytes_eq text p ≡ true → is_reserved p ≡ true → not (is_reserved text) ≡ false
is_taken text p h k = let same : text ≡ p = (bytes_eq-Decides text p).0 h in let taken : is_reserved text ≡ true = rw same k in ap not taken

not_taken : (text q : List ℕ) (b : Bool) → bytes_eq text q ≡ b → not (is_reserved text) ≡ true → is_reserved q ≡ true → b ≡ false
not_taken text q false e h k = refl
not_taken text q true e h k = let taken : not (is_reserved text) ≡ false = is_taken text q e k in let no : ⊥ = cc in absurd no

pub apart : (sort other : Sort) (t : Token) → is sort t ≡ true → differ sort other ≡ true → is other t ≡ false
apart (reserved p) (reserved q) t h d = either_false (is_of_kind tokens.Word t) (bytes_eq t.text q) (other_word t.text p q (both_second (is_of_kind tokens.Word t) (bytes_eq t.text p) h) (not_true (bytes_eq p q) d))
apart (reserved p) name t h d = either_false (is_of_kind tokens.Word t) (not (is_reserved t.text)) (is_taken t.text p (both_second (is_of_kind tokens.Word t) (bytes_eq t.text p) h) d)
apart (reserved p) any_word t h d = let no : ⊥ = cc in absurd no
apart (reserved p) (of_kind k) t h d = other_code (kind_code t.kind) 0 (kind_code k) (both_first (is_of_kind tokens.Word t) (bytes_eq t.text p) h) (not_true (0 == kind_code k) d)
apart name (reserved q) t h d =
    either_false (is_of_kind tokens.Word t) (bytes_eq t.text q) (not_taken t.text q (bytes_eq t.text q) refl (both_second (is_of_kind tokens.Word t) (not (is_reserved t.text)) h) d)
apart name name t h d = let no : ⊥ = cc in absurd no
apart name any_word t h d = let no : ⊥ = cc in absurd no
apart name (of_kind k) t h d = other_code (kind_code t.kind) 0 (kind_code k) (both_first (is_of_kind tokens.Word t) (not (is_reserved t.text)) h) (not_true (0 == kind_code k) d)
apart any_word (reserved q) t h d = let no : ⊥ = cc in absurd no
apart any_word name t h d = let no : ⊥ = cc in absurd no
apart any_word any_word t h d = let no : ⊥ = cc in absurd no
apart any_word (of_kind k) t h d = other_code (kind_code t.kind) 0 (kind_code k) h (not_true (0 == kind_code k) d)
apart (of_kind k) (reserved q) t h d = not_word (kind_code t.kind) (kind_code k) (bytes_eq t.text q) h (not_true (0 == kind_code k) d)
apart (of_kind k) name t h d = not_word (kind_code t.kind) (kind_code k) (not (is_reserved t.text)) h (not_true (0 == kind_code k) d)
apart (of_kind k) any_word t h d = not_zero (kind_code t.kind) (kind_code k) h (not_true (0 == kind_code k) d)
apart (of_kind k) (of_kind l) t h d = other_kind (kind_code t.kind) (kind_code k) (kind_code l) h (not_true (kind_code l == kind_code k) d)

-- a token of a sort
pub word_ok : (sort : Sort) (t : Token) (ts rest : List Token) → the sort t ts rest → readers.one sort ts ≡ Ok (t, rest)
word_ok sort t ts rest h = rw (h.1, h.0) refl

pub is_next : (sort : Sort) (t : Token) (ts rest : List Token) → the sort t ts rest → begins (is sort) ts ≡ true
is_next sort t ts rest h = rw (h.1) (h.0)

-- tokens that begin with one sort begin with no other
pub begins_other : (sort other : Sort) (ts : List Token) → begins (is sort) ts ≡ true → differ sort other ≡ true → begins (is other) ts ≡ false
begins_other sort other [] h d = refl
begins_other sort other (t ∷ ts) h d = apart sort other t h d

-- a token of another sort
pub not_next : (sort other : Sort) (t : Token) (ts rest : List Token) → the sort t ts rest → differ sort other ≡ true → begins (is other) ts ≡ false
not_next sort other t ts rest h d = begins_other sort other ts (is_next sort t ts rest h) d

pub made_ok : {A : Type 0} (sort : Sort) (make : Token → A) (x : A) (ts rest : List Token) → made sort make x ts rest → go_on (λ t. found (make t)) (readers.one sort ts) ≡ Ok (x, rest)
made_ok sort make x ts rest h = rw (word_ok sort h.0 ts rest h.2, h.1) refl

-- a name, a number and a literal
pub name_ok : (x : _) (ts rest : List Token) → IsName x ts rest → readers.read_name ts ≡ Ok (x, rest)
name_ok x ts rest h = made_ok name name_of x ts rest h

pub number_ok : (x : _) (ts rest : List Token) → IsNumber x ts rest → readers.read_number ts ≡ Ok (x, rest)
number_ok x ts rest h = made_ok (of_kind tokens.Number) number_of x ts rest h

pub literal_ok : (x : _) (ts rest : List Token) → IsLiteral x ts rest → readers.read_literal ts ≡ Ok (x, rest)
literal_ok x ts rest h = made_ok (of_kind tokens.Literal) literal_of x ts rest h

-- an optional word
pub perhaps_ok : (sort : Sort) (ts rest : List Token) → perhaps sort ts rest → (b : Bool) × (readers.optional sort ts ≡ Ok (b, rest))
perhaps_ok sort ts rest (inl h) = let n : begins (is sort) ts ≡ false = rw (← h.0) (h.1) in (false, rw n (ap (λ r. Ok (false, r)) (sym h.0)))
perhaps_ok sort ts rest (inr h) = (true, rw (is_next sort h.0 ts rest h.1, word_ok sort h.0 ts rest h.1) refl)

pub written_ok : (b : Bool) (sort : Sort) (ts rest : List Token) → written b sort ts rest → readers.optional sort ts ≡ Ok (b, rest)
written_ok true sort ts rest h = rw (is_next sort h.0 ts rest h.1, word_ok sort h.0 ts rest h.1) refl
written_ok false sort ts rest h = let n : begins (is sort) ts ≡ false = rw (← h.0) (h.1) in rw n (ap (λ r. Ok (false, r)) (sym h.0))

begun_at : {Form A : Type 0} (alternatives_of : Form → Alternatives Form) (res : Result (A × List Token) ℕ) (o : Option (List (Part Form))) (t : Token) (ts : List Token) (x : A) (rest : List Token) → Enters alternatives_of res o t ts → res ≡ Ok (x, rest) → is_some o ≡ true
begun_at alternatives_of res None t ts x rest h e = let no : ⊥ = cc in absurd no
begun_at alternatives_of res (Some parts) t ts x rest h e = refl

-- what is read begins with a sort with which its form begins
pub begun : {Form A : Type 0} {n : ℕ} {alternatives_of : Form → Alternatives Form} {r : Reader A} {alternatives : Alternatives Form} → Opens n alternatives_of r alternatives → (x : A) (ts rest : List Token) → length ts ≤ n → r ts ≡ Ok (x, rest) → begins (starts alternatives) ts ≡ true
begun {r = r} h x [] rest le e = let k : r [] ≡ Err 0 = h.nothing in let no : ⊥ = cc in absurd no
begun {alternatives_of = alternatives_of} {r = r} {alternatives = alternatives} h x (t ∷ ts) rest le e = begun_at alternatives_of (r (t ∷ ts)) (behind alternatives t) t ts x rest (h.on t ts le) e

module _ {A : Type 0} (test : Token → Bool) (r : Reader A) (S : A → Spelling) (bound : ℕ)
    (ok : (x : A) (ts rest : List Token) → length ts ≤ bound → S x ts rest → r ts ≡ Ok (x, rest))
    (begins_with : (x : A) (ts rest : List Token) → length ts ≤ bound → r ts ≡ Ok (x, rest) → begins test ts ≡ true) where
  -- a part that may be left out
  pub maybe_ok : (o : Option A) (ts rest : List Token) → length ts ≤ bound → maybe_of test S o ts rest → readers.maybe test r ts ≡ Ok (o, rest)
  maybe_ok None ts rest lt h = let n : begins test ts ≡ false = rw (← h.0) (h.1) in rw n (ap (λ r. Ok (None, r)) (sym h.0))
  maybe_ok (Some x) ts rest lt h = rw (begins_with x ts rest lt (ok x ts rest lt h), ok x ts rest lt h) refl

  module _ (takes : (x : A) (ts rest : List Token) → length ts ≤ bound → r ts ≡ Ok (x, rest) → length rest < length ts) where
    none_more : (n : ℕ) (ts rest : List Token) → unless test ts rest → turns n test r ts ≡ Ok ([], rest)
    unfolding turns
    none_more zero ts rest h = ap (λ u. Ok ([], u)) (sym h.0)
    none_more (suc n) ts rest h = let b : begins test ts ≡ false = rw (← h.0) (h.1) in rw b (ap (λ u. Ok ([], u)) (sym h.0))

    turns_ok : (n : ℕ) (xs : List A) (ts rest : List Token) → length ts ≤ n → length ts ≤ bound → all_of test S xs ts rest → turns n test r ts ≡ Ok (xs, rest)
    unfolding turns
    turns_ok n [] ts rest le lt e = none_more n ts rest e
    turns_ok zero (x ∷ xs) ts rest le lt e =
        let one : r ts ≡ Ok (x, e.0) = ok x ts e.0 lt e.1 in
        let less : length e.0 < length ts = takes x ts e.0 lt one in
        absurd (omega arith)
    turns_ok (suc n) (x ∷ xs) ts rest le lt e =
        let one : r ts ≡ Ok (x, e.0) = ok x ts e.0 lt e.1 in
        let less : length e.0 < length ts = takes x ts e.0 lt one in
        rw (begins_with x ts e.0 lt one, one, turns_ok n xs e.0 rest (omega arith) (omega arith) e.2) refl

    pub any_ok : (xs : List A) (ts rest : List Token) → length ts ≤ bound → all_of test S xs ts rest → readers.any test r ts ≡ Ok (xs, rest)
    any_ok xs ts rest lt e = turns_ok (length ts) xs ts rest (omega arith) lt e

    -- further ones
    pub more_ok : (x : A) (xs : List A) (ts rest : List Token) → length ts ≤ bound → all_of test S xs ts rest → readers.more test r x ts ≡ Ok (x ∷ xs, rest)
    more_ok x xs ts rest lt e = rw (any_ok xs ts rest lt e) refl

    -- one or more
    pub some_ok : (xs : List A) (ts rest : List Token) → length ts ≤ bound → some_of test S xs ts rest → readers.some test r ts ≡ Ok (xs, rest)
    some_ok [] ts rest lt e = absurd e
    some_ok (x ∷ xs) ts rest lt e =
        let one : r ts ≡ Ok (x, e.0) = ok x ts e.0 lt e.1 in
        let less : length e.0 < length ts = takes x ts e.0 lt one in
        rw (one, more_ok x xs e.0 rest (omega arith) e.2) refl

    -- further ones, at least one
    pub further_ok : (x : A) (xs : List A) (ts rest : List Token) → length ts ≤ bound → some_of test S xs ts rest → (begins test ts ≡ true) × (readers.more test r x ts ≡ Ok (x ∷ xs, rest))
    further_ok x [] ts rest lt e = absurd e
    further_ok x (y ∷ ys) ts rest lt e = (begins_with y ts e.0 lt (ok y ts e.0 lt e.1), more_ok x (y ∷ ys) ts rest lt e)

-- tokens that begin with none of the sorts with which a form begins
abbrev pub NoneOf : {Form : Type 0} → Alternatives Form → List Token → Type 0
NoneOf [] ts = Unit {0}
NoneOf (alternative ∷ alternatives) ts = (begins (is alternative.0) ts ≡ false) × NoneOf alternatives ts

none_at : {Form : Type 0} (parts : List (Part Form)) (o : Option (List (Part Form))) (b : Bool) → b ≡ false → is_some o ≡ false → is_some (if b then Some parts else o) ≡ false
none_at parts o true h k = h
none_at parts o false h k = k

pub none_starts : {Form : Type 0} (alternatives : Alternatives Form) (ts : List Token) → NoneOf alternatives ts → begins (starts alternatives) ts ≡ false
none_starts alternatives [] h = refl
none_starts [] (t ∷ ts) h = refl
none_starts (alternative ∷ alternatives) (t ∷ ts) h = none_at alternative.1 (behind alternatives t) (is alternative.0 t) (h.0) (none_starts alternatives (t ∷ ts) h.1)

none_here : {Form : Type 0} (parts : List (Part Form)) (o : Option (List (Part Form))) (b : Bool) → is_some (if b then Some parts else o) ≡ false → (b ≡ false) × (is_some o ≡ false)
none_here parts o true h = let no : ⊥ = cc in absurd no
none_here parts o false h = (refl, h)

none_of_none : {Form : Type 0} (alternatives : Alternatives Form) → NoneOf alternatives []
none_of_none [] = tt
none_of_none (alternative ∷ alternatives) = (refl, none_of_none alternatives)

pub starts_none : {Form : Type 0} (alternatives : Alternatives Form) (ts : List Token) → begins (starts alternatives) ts ≡ false → NoneOf alternatives ts
starts_none alternatives [] h = none_of_none alternatives
starts_none [] (t ∷ ts) h = tt
starts_none (alternative ∷ alternatives) (t ∷ ts) h = let k = none_here alternative.1 (behind alternatives t) (is alternative.0 t) h in (k.0, starts_none alternatives (t ∷ ts) k.1)
