-- What is at the beginning of bytes is the longest token there.
use Rattle.std.proofs.Common.{◌≡◌, ℕ, suc, ◌+◌, ◌≤◌, Bool, true, false, ◌&&◌, cond, List, [], ◌∷◌, length, take, drop, ◌⊎◌, inl, inr, refl, ap, subst, ◌∙◌, arith}
use Rattle.std.specs.List.{list_all, list_any, prefix_len, take_while}
use Rattle.std.proofs.lemmas.List.Folds.{length-prefix_len}
use Rattle.std.proofs.lemmas.List.Sums.{prefix_len-le-length}
use Rattle.cob_lex.specs.declared.fault.SourceKind.TheVariants as faults
use Rattle.cob_lex.specs.declared.token.TokenKind.{TokenKind}
use Rattle.cob_lex.specs.declared.token.TokenKind.TheVariants as tokens
use Rattle.cob_lex.specs.declared.front.Awaited.{Awaited}
use Rattle.cob_lex.specs.declared.front.Front.{Front}
use Rattle.cob_lex.specs.declared.front.Front.TheVariants as fronts
use Rattle.cob_lex.specs.Characters.{is_word_byte}
use Rattle.cob_lex.specs.Fronts.{is_number, is_word, run_front}
use Rattle.cob_lex.specs.Spelled.{IsLongest, IsPlain, IsRun, is_next}

-- which way a test went
pub chosen : {A : Type 0} (b : Bool) (x y z : A) → cond b x y ≡ z → ((b ≡ true) × (x ≡ z)) ⊎ ((b ≡ false) × (y ≡ z))
chosen true x y z h = inl (refl, h)
chosen false x y z h = inr (refl, h)

-- the longest run at the front
module _ (test : ℕ → Bool) where
  run_ends_at : (b : Bool) (x : ℕ) (xs : List ℕ) → test x ≡ b → is_next test (drop (prefix_len test xs) xs) ≡ false → is_next test (drop (cond b (1 + prefix_len test xs) 0) (x ∷ xs)) ≡ false
  run_ends_at true x xs is h = let e : 1 + prefix_len test xs ≡ suc (prefix_len test xs) = omega arith in ap (λ n. is_next test (drop n (x ∷ xs))) e ∙ h
  run_ends_at false x xs is h = is

  pub run_ends : (xs : List ℕ) → is_next test (drop (prefix_len test xs) xs) ≡ false
  run_ends [] = refl
  run_ends (x ∷ xs) = run_ends_at (test x) x xs refl (run_ends xs)

  run_passes_at : (b : Bool) (x : ℕ) (xs : List ℕ) → test x ≡ b → list_all test (take (prefix_len test xs) xs) ≡ true → list_all test (take (cond b (1 + prefix_len test xs) 0) (x ∷ xs)) ≡ true
  run_passes_at true x xs is h =
      let e : 1 + prefix_len test xs ≡ suc (prefix_len test xs) = omega arith in
      ap (λ n. list_all test (take n (x ∷ xs))) e ∙ ap (λ b. b && list_all test (take (prefix_len test xs) xs)) is ∙ h
  run_passes_at false x xs is h = refl

  pub run_passes : (xs : List ℕ) → list_all test (take_while test xs) ≡ true
  run_passes [] = refl
  run_passes (x ∷ xs) = run_passes_at (test x) x xs refl (run_passes xs)

-- what a front says of the bytes
pub record Fronts (awaits : Awaited) (kind : TokenKind) (n : ℕ) (bytes : List ℕ) : Type 0 where
  pub some : 1 ≤ n
  pub within : n ≤ length bytes
  pub longest : IsLongest awaits kind (take n bytes) (drop n bytes)

pub record Plainly (kind : TokenKind) (n : ℕ) (bytes : List ℕ) : Type 0 where
  pub some : 1 ≤ n
  pub within : n ≤ length bytes
  pub plain : IsPlain kind (take n bytes) (drop n bytes)

kind_in : Front → TokenKind
kind_in fronts.Spacing = tokens.Period
kind_in (fronts.Token kind n) = kind
kind_in (fronts.Fault fault) = tokens.Period

size_in : Front → ℕ
size_in fronts.Spacing = 0
size_in (fronts.Token kind n) = n
size_in (fronts.Fault fault) = 0

pub same_kind : (k l : TokenKind) (m n : ℕ) → fronts.Token k m ≡ fronts.Token l n → k ≡ l
unfolding kind_in
same_kind k l m n h = ap kind_in h

pub same_size : (k l : TokenKind) (m n : ℕ) → fronts.Token k m ≡ fronts.Token l n → m ≡ n
unfolding size_in
same_size k l m n h = ap size_in h

-- from what is said of a token to the same of an equal one
pub plainly_same : (k l : TokenKind) (m n : ℕ) (bytes : List ℕ) → fronts.Token k m ≡ fronts.Token l n → Plainly k m bytes → Plainly l n bytes
plainly_same k l m n bytes h p =
    let P : TokenKind → Type 0 = λ kind. Plainly kind m bytes in
    let Q : ℕ → Type 0 = λ size. Plainly l size bytes in
    subst Q (same_size k l m n h) (subst P (same_kind k l m n h) p)

-- words and numbers
letters_some : (test : ℕ → Bool) (xs : List ℕ) → list_any test xs ≡ true → 1 ≤ length xs
letters_some test [] h = cc
letters_some test (x ∷ xs) h = omega arith

module _ (x : ℕ) (xs : List ℕ) where
  run_size : length (take_while is_word_byte (x ∷ xs)) ≡ prefix_len is_word_byte (x ∷ xs)
  run_size = length-prefix_len is_word_byte (x ∷ xs)

  run_taken : take (length (take_while is_word_byte (x ∷ xs))) (x ∷ xs) ≡ take_while is_word_byte (x ∷ xs)
  run_taken = ap (λ n. take n (x ∷ xs)) run_size

  run_is_longest : IsRun (take (length (take_while is_word_byte (x ∷ xs))) (x ∷ xs)) (drop (length (take_while is_word_byte (x ∷ xs))) (x ∷ xs))
  run_is_longest = record {
    inside = ap (list_all is_word_byte) run_taken ∙ run_passes is_word_byte (x ∷ xs);
    longest = ap (λ n. is_next is_word_byte (drop n (x ∷ xs))) run_size ∙ run_ends is_word_byte (x ∷ xs);
  }

  run_within : length (take_while is_word_byte (x ∷ xs)) ≤ length (x ∷ xs)
  run_within = omega (arith, run_size, prefix_len-le-length is_word_byte (x ∷ xs))

  run_some : is_word_byte x ≡ true → 1 ≤ length (take_while is_word_byte (x ∷ xs))
  run_some h =
      let e : prefix_len is_word_byte (x ∷ xs) ≡ 1 + prefix_len is_word_byte xs = ap (λ b. cond b (1 + prefix_len is_word_byte xs) 0) h in
      omega (arith, run_size, e)

  pub run_plainly : (kind : TokenKind) (n : ℕ) → is_word_byte x ≡ true → run_front (take_while is_word_byte (x ∷ xs)) ≡ fronts.Token kind n → Plainly kind n (x ∷ xs)
  run_plainly kind n here h =
      let run : List ℕ = take_while is_word_byte (x ∷ xs) in
      let some = run_some here in
      elim (chosen (is_word run) _ _ _ h) [
        | inl w ↦ plainly_same tokens.Word kind (length run) n (x ∷ xs) w.1
            (record { some = some; within = run_within; plain = (ap is_word run_taken ∙ w.0, run_is_longest) })
        | inr w ↦ elim (chosen (is_number run) _ _ _ w.1) [
          | inl v ↦ plainly_same tokens.Number kind (length run) n (x ∷ xs) v.1
              (record { some = some; within = run_within; plain = (ap is_number run_taken ∙ v.0, run_is_longest) })
          | inr v ↦ let e : fronts.Fault faults.BadWord ≡ fronts.Token kind n = v.1 in cc
        ]
      ]
