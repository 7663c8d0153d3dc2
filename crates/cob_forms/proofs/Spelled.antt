-- What a reader finds is spelled by the tokens that it takes.
use Rattle.std.proofs.Common.{◌≡◌, ℕ, zero, suc, Bool, true, false, List, [], ◌∷◌, length, ◌<◌, ◌≤◌, arith, Some, None, Result, Ok, Err, refl, inl, inr}
use Rattle.std.specs.Bool.{if◌then◌else◌}
use Rattle.cob_lex.specs.declared.token.Token.{Token}
use Rattle.cob_lex.specs.declared.token.TokenKind.TheVariants as tokens
use Rattle.cob_forms.specs.Sorts.{Sort, is, name, of_kind}
use Rattle.cob_forms.specs.Written.{name_of, number_of, literal_of}
use Rattle.cob_forms.specs.Readers as readers
use Rattle.cob_forms.specs.Readers.{Reader, begins, go_on, found, turns}
use Rattle.cob_forms.specs.Spelling.{Spelling, the, a, made, perhaps, written, all_of, some_of, maybe_of, IsName, IsNumber, IsLiteral}

-- what holds of what was found and the tokens behind it
abbrev pub Holds : {A : Type 0} → Result (A × List Token) ℕ → (A → List Token → Type 0) → Type 0
Holds (Ok x) P = P x.0 x.1
Holds (Err left) P = Unit {0}

pub record Finds {A : Type 0} (res : Result (A × List Token) ℕ) (P : A → List Token → Type 0) : Type 0 where
  pub holds : Holds res P

step_at : {A B : Type 0} (res : Result (A × List Token) ℕ) (f : A → Reader B) (P : A → List Token → Type 0) (G : B → List Token → Type 0) → Holds res P → ((x : A) (mid : List Token) → P x mid → Finds (f x mid) G) → Holds (go_on f res) G
step_at (Ok x) f P G h k = (k x.0 x.1 h).holds
step_at (Err left) f P G h k = tt

-- one part, and then the others
pub step : {A B : Type 0} {res : Result (A × List Token) ℕ} {f : A → Reader B} {P : A → List Token → Type 0} {G : B → List Token → Type 0} → Finds res P → ((x : A) (mid : List Token) → P x mid → Finds (f x mid) G) → Finds (go_on f res) G
step {res = res} {f = f} {P = P} {G = G} h k = record { holds = step_at res f P G h.holds k }

pub end : {A : Type 0} (P : A → List Token → Type 0) (x : A) (rest : List Token) → P x rest → Finds (Ok (x, rest)) P
end P x rest h = record { holds = h }

-- nothing is found
pub nowhere_found : {A : Type 0} (ts : List Token) {P : A → List Token → Type 0} → Finds (readers.wanted ts) P
nowhere_found ts = record { holds = tt }

weaker_at : {A : Type 0} (res : Result (A × List Token) ℕ) (P Q : A → List Token → Type 0) → Holds res P → ((x : A) (rest : List Token) → P x rest → Q x rest) → Holds res Q
weaker_at (Ok x) P Q h k = k x.0 x.1 h
weaker_at (Err left) P Q h k = tt

pub weaker : {A : Type 0} {res : Result (A × List Token) ℕ} {P Q : A → List Token → Type 0} → Finds res P → ((x : A) (rest : List Token) → P x rest → Q x rest) → Finds res Q
weaker {res = res} {P = P} {Q = Q} h k = record { holds = weaker_at res P Q h.holds k }

one_if : (sort : Sort) (t : Token) (ts : List Token) (left : ℕ) (b : Bool) → is sort t ≡ b → Holds (if b then Ok (t, ts) else Err left) (λ u rest. the sort u (t ∷ ts) rest)
one_if sort t ts left true e = (e, refl)
one_if sort t ts left false e = tt

one_at : (sort : Sort) (ts : List Token) → Holds (readers.one sort ts) (λ t rest. the sort t ts rest)
one_at sort [] = tt
one_at sort (t ∷ ts) = one_if sort t ts (length (t ∷ ts)) (is sort t) refl

-- a token of a sort
pub one : (sort : Sort) (ts : List Token) → Finds (readers.one sort ts) (λ t rest. the sort t ts rest)
one sort ts = record { holds = one_at sort ts }

-- a word
pub word_found : (sort : Sort) (ts : List Token) → Finds (readers.one sort ts) (λ t rest. a sort ts rest)
word_found sort ts = weaker (one sort ts) (λ t rest h. (t, h))

pub made_found : {A : Type 0} (sort : Sort) (make : Token → A) (ts : List Token) → Finds (go_on (λ t. found (make t)) (readers.one sort ts)) (λ x rest. made sort make x ts rest)
made_found sort make ts = step (one sort ts) (λ t m h. end (λ x rest. made sort make x ts rest) (make t) m (t, refl, h))

-- a name, a number and a literal
pub name_found : (ts : List Token) → Finds (readers.read_name ts) (λ x rest. IsName x ts rest)
name_found ts = made_found name name_of ts

pub number_found : (ts : List Token) → Finds (readers.read_number ts) (λ x rest. IsNumber x ts rest)
number_found ts = made_found (of_kind tokens.Number) number_of ts

pub literal_found : (ts : List Token) → Finds (readers.read_literal ts) (λ x rest. IsLiteral x ts rest)
literal_found ts = made_found (of_kind tokens.Literal) literal_of ts

by_test_at : {A : Type 0} (here other : Result (A × List Token) ℕ) (b : Bool) (P : A → List Token → Type 0) → (b ≡ true → Finds here P) → (b ≡ false → Finds other P) → Holds (if b then here else other) P
by_test_at here other true P h k = (h refl).holds
by_test_at here other false P h k = (k refl).holds

-- one of two alternatives, by the test
pub by_test : {A : Type 0} {here other : Result (A × List Token) ℕ} (b : Bool) {P : A → List Token → Type 0} → (b ≡ true → Finds here P) → (b ≡ false → Finds other P) → Finds (if b then here else other) P
by_test {here = here} {other = other} b {P = P} h k = record { holds = by_test_at here other b P h k }

-- one of two alternatives
pub one_of_two : {A : Type 0} {here other : Result (A × List Token) ℕ} (b : Bool) {P : A → List Token → Type 0} → Finds here P → Finds other P → Finds (if b then here else other) P
one_of_two b h k = by_test b (λ _. h) (λ _. k)

-- an optional word
pub optional_found : (sort : Sort) (ts : List Token) → Finds (readers.optional sort ts) (λ b rest. written b sort ts rest)
optional_found sort ts = by_test (begins (is sort) ts)
    (λ b. step (one sort ts) (λ t m h. end (λ b rest. written b sort ts rest) true m (t, h)))
    (λ b. end (λ b rest. written b sort ts rest) false ts (refl, b))

pub perhaps_found : (sort : Sort) (ts : List Token) → Finds (readers.optional sort ts) (λ b rest. perhaps sort ts rest)
perhaps_found sort ts = by_test (begins (is sort) ts)
    (λ b. step (one sort ts) (λ t m h. end (λ b rest. perhaps sort ts rest) true m (inr (t, h))))
    (λ b. end (λ b rest. perhaps sort ts rest) false ts (inl (refl, b)))

-- a part that may be left out
pub maybe_found : {A : Type 0} (test : Token → Bool) (r : Reader A) (S : A → Spelling) (ts : List Token) → Finds (r ts) (λ x rest. S x ts rest) → Finds (readers.maybe test r ts) (λ o rest. maybe_of test S o ts rest)
maybe_found test r S ts h = by_test (begins test ts)
    (λ b. step h (λ x m k. end (λ o rest. maybe_of test S o ts rest) (Some x) m k))
    (λ b. end (λ o rest. maybe_of test S o ts rest) None ts (refl, b))

noted_at : {A : Type 0} (res : Result (A × List Token) ℕ) (P Q : A → List Token → Type 0) → Holds res P → ((x : A) (rest : List Token) → res ≡ Ok (x, rest) → Q x rest) → Holds res (λ x rest. P x rest × Q x rest)
noted_at (Ok x) P Q h k = (h, k x.0 x.1 refl)
noted_at (Err left) P Q h k = tt

-- and what is known of each result
pub noted : {A : Type 0} {res : Result (A × List Token) ℕ} {P Q : A → List Token → Type 0} → Finds res P → ((x : A) (rest : List Token) → res ≡ Ok (x, rest) → Q x rest) → Finds res (λ x rest. P x rest × Q x rest)
noted {res = res} {P = P} {Q = Q} h k = record { holds = noted_at res P Q h.holds k }

-- lists, turn by turn
module _ {A : Type 0} (test : Token → Bool) (r : Reader A) (S : A → Spelling) (bound : ℕ) (sound : (ts : List Token) → length ts ≤ bound → Finds (r ts) (λ x rest. S x ts rest))
    (takes : (x : A) (ts rest : List Token) → length ts ≤ bound → r ts ≡ Ok (x, rest) → length rest < length ts) where
  none_begin : (ts : List Token) → length ts ≤ 0 → begins test ts ≡ false
  none_begin [] le = refl
  none_begin (t ∷ ts) le = absurd (omega arith)

  pub turns_found : (n : ℕ) (ts : List Token) → length ts ≤ n → length ts ≤ bound → Finds (turns n test r ts) (λ xs rest. all_of test S xs ts rest)
  unfolding turns
  turns_found zero ts le lt = end (λ xs rest. all_of test S xs ts rest) [] ts (refl, none_begin ts le)
  turns_found (suc n) ts le lt = by_test (begins test ts)
      (λ b. step (noted {Q = λ x m. length m < length ts} (sound ts lt) (λ x m e. takes x ts m lt e))
      (λ x m h. step (turns_found n m (omega (arith, h.1)) (omega (arith, h.1))) (λ xs m2 h2. end (λ xs rest. all_of test S xs ts rest) (x ∷ xs) m2 (m, h.0, h2))))
      (λ b. end (λ xs rest. all_of test S xs ts rest) [] ts (refl, b))

  pub any_found : (ts : List Token) → length ts ≤ bound → Finds (readers.any test r ts) (λ xs rest. all_of test S xs ts rest)
  any_found ts lt = turns_found (length ts) ts (omega arith) lt

  pub more_found : (x : A) (ts : List Token) → length ts ≤ bound → Finds (readers.more test r x ts) (λ xs rest. (ys : List A) × (xs ≡ x ∷ ys) × all_of test S ys ts rest)
  more_found x ts lt = step (any_found ts lt) (λ ys m h. end (λ xs rest. (ys : List A) × (xs ≡ x ∷ ys) × all_of test S ys ts rest) (x ∷ ys) m (ys, refl, h))

  pub some_found : (ts : List Token) → length ts ≤ bound → Finds (readers.some test r ts) (λ xs rest. some_of test S xs ts rest)
  some_found ts lt = step (noted {Q = λ x m. length m < length ts} (sound ts lt) (λ x m e. takes x ts m lt e)) (λ x m h. step (any_found m (omega (arith, h.1))) (λ ys m2 h2. end (λ xs rest. some_of test S xs ts rest) (x ∷ ys) m2 (m, h.0, h2)))

  -- where a further one begins there is one
  entered_some : (ys : List A) (ts rest : List Token) → begins test ts ≡ true → all_of test S ys ts rest → some_of test S ys ts rest
  entered_some [] ts rest b h = let same : begins test ts ≡ begins test rest = rw (h.0) refl in let no : ⊥ = cc in absurd no
  entered_some (y ∷ ys) ts rest b h = h

  pub further_found : (x : A) (ts : List Token) → length ts ≤ bound → begins test ts ≡ true → Finds (readers.more test r x ts) (λ xs rest. (ys : List A) × (xs ≡ x ∷ ys) × some_of test S ys ts rest)
  further_found x ts lt b = weaker (more_found x ts lt) (λ xs rest h. (h.0, h.1, entered_some h.0 ts rest b h.2))
