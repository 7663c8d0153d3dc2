-- Each field is read as it stands, and nothing else is read as one.
use Rattle.std.proofs.Common.{◌≡◌, ℕ, ◌+◌, ◌<◌, ◌≤◌, ◌^◌, Bool, true, not, ◌&&◌, None, Some, Option, List, [], ◌∷◌, ◌++◌, length, get_or, take, drop, refl, sym, ap, ◌∙◌, inl, inr, nat_lt, nat_le, cond, ◌*◌, arith}
use Rattle.std.specs.Prelude.{◌==◌, decimal, codes, if◌then◌else◌}
use Rattle.std.specs.List.{list_all, position_or_len}
use Rattle.std.specs.Str.{bytes_eq}
use Rattle.std.proofs.lemmas.Bool.{and_from, and_parts, cases_Bool, eq-eqb, eqb-true, le-leb, le-ltb, leb-true}
use Rattle.std.proofs.lemmas.Bool.Decides.{nat_tests}
use Rattle.std.proofs.lemmas.List.{append-nil, get_or_append_left, get_or_at, length-append, take_at, drop_at, take-append-drop, length-take-le}
use Rattle.std.proofs.lemmas.List.Sums.{position_or_len_is, AllPass-from_list_all}
use Rattle.std.proofs.lemmas.Option.{cond_some, none-some, some_pair_parts}
use Rattle.com_text.specs.Counted.{counted_field, IsCountable}
use Rattle.com_text.specs.Text.{IsText, is_text}
use Rattle.com_cd.specs.InputArea.{IsInputArea}
use Rattle.com_cd.specs.OutputArea.{IsOutputArea, occurrences_of}
use Rattle.com_journal.specs.inner.Outcomes.{◌>>=◌}
use Rattle.com_journal.specs.inner.Reading.{behind, is_space, word_at, expected, number_in, number_at, chunk_at, counted_at, is_text_of, text_at, is_input_area, in_area_at, is_output_area, out_area_at}
use Rattle.com_journal.proofs.Options.{step, eq-bytes_eq, bytes_eq-true}
use Rattle.com_journal.proofs.Numbers.{IsNumberIn-number_in, number_in-word}
use Rattle.com_journal.proofs.Fields.{behind-Some, split_counted-front, front-split_counted, HasNoSpace, HasNoSpace-decimal}

-- a field ends before a space or at the end
abbrev pub IsEnd : List ℕ → Type 0
IsEnd [] = Unit {0}
IsEnd (byte ∷ bytes) = byte ≡ 32

-- the reader reads just the fields of what is in its range
pub record Reads {A : Type 0} (Is : A → Type 0) (field : A → List ℕ) (read : List ℕ → Option (A × List ℕ)) : Type 0 where
  pub sound : (bytes : List ℕ) (x : A) (rest : List ℕ) → read bytes ≡ Some (x, rest) → Is x × (bytes ≡ 32 ∷ (field x ++ rest))
  pub complete : (x : A) (rest : List ℕ) → Is x → IsEnd rest → read (32 ∷ (field x ++ rest)) ≡ Some (x, rest)

-- where a closed word has no space, none of its bytes is one
pub no_space : (word : List ℕ) → list_all (λ byte. not (is_space byte)) word ≡ true → HasNoSpace word
no_space word h k lt = grind (arith, nat_tests, AllPass-from_list_all (λ byte. not (is_space byte)) word h k 0 lt)

here_space : (word rest : List ℕ) → IsEnd rest → length word < length (word ++ rest) → is_space (get_or (word ++ rest) (length word) 0) ≡ true
here_space word [] h lt = absurd (omega (arith, ap length (append-nil word)))
here_space word (byte ∷ rest) h lt = ap is_space (get_or_at word byte rest 0 (length word) refl ∙ h)

place_of_space : (word rest : List ℕ) → HasNoSpace word → IsEnd rest → position_or_len is_space (word ++ rest) ≡ length word
place_of_space word rest none end =
    let whole = word ++ rest in
    let before = λ (k : ℕ) (lt : k < length word). ap is_space (get_or_append_left word rest 0 k lt) ∙ none k lt in
    position_or_len_is is_space whole (length word) 0 (omega (arith, length-append word rest)) before (here_space word rest end)

-- words
pub word-complete : (word rest : List ℕ) → HasNoSpace word → IsEnd rest → word_at (32 ∷ (word ++ rest)) ≡ Some (word, rest)
unfolding word_at
word-complete word rest none end =
    rw (place_of_space word rest none end, take_at word rest (length word) refl, drop_at word rest (length word) refl) refl

pub word-sound : (bytes word rest : List ℕ) → word_at bytes ≡ Some (word, rest) → bytes ≡ 32 ∷ (word ++ rest)
unfolding word_at
word-sound bytes word rest h =
    step (behind (codes " ") bytes) _ (word, rest) h (λ field space h1.
    let end = position_or_len is_space field in
    let parts = some_pair_parts (take end field) word (drop end field) rest h1 in
    behind-Some (codes " ") bytes field space ∙ ap (λ xs. 32 ∷ xs) (sym (take-append-drop end field) ∙ rw (parts.0, parts.1) refl))

pub expected-complete : (word rest : List ℕ) → HasNoSpace word → IsEnd rest → expected word (32 ∷ (word ++ rest)) ≡ Some rest
unfolding expected
expected-complete word rest none end = rw (word-complete word rest none end, eq-bytes_eq word word refl) refl

pub expected-sound : (word bytes rest : List ℕ) → expected word bytes ≡ Some rest → bytes ≡ 32 ∷ (word ++ rest)
unfolding expected
expected-sound word bytes rest h =
    step (word_at bytes) _ rest h (λ found is h1.
    let p = cond_some (bytes_eq found.0 word) found.1 rest h1 in
    word-sound bytes found.0 found.1 is ∙ rw (bytes_eq-true found.0 word p.0, p.1) refl)

-- numbers
abbrev pub IsWithin : ℕ → ℕ → ℕ → Type 0
IsWithin least most n = (least ≤ n) × (n ≤ most)

pub reads_number : (least most : ℕ) → most < 10 ^ 18 → Reads (IsWithin least most) decimal (number_at least most)
unfolding number_at
reads_number least most small = record {
  sound = λ bytes n rest h.
      step (word_at bytes) _ (n, rest) h (λ word is h1.
      step (number_in least most word.0) _ (n, rest) h1 (λ found number h2.
      let parts = some_pair_parts found n word.1 rest h2 in
      let written = IsNumberIn-number_in least most word.0 n (number ∙ ap Some parts.0) in
      ((written.low, written.high), word-sound bytes word.0 word.1 is ∙ rw (written.digits, parts.1) refl)));
  complete = λ n rest h end.
      let fits : n < 2 ^ 64 = omega (arith, small, h.1) in
      rw (word-complete (decimal n) rest (HasNoSpace-decimal n fits) end, number_in-word least most (decimal n) n small record { low = h.0; high = h.1; digits = refl }) refl;
}

chunk_parts : (n : ℕ) (field chunk rest : List ℕ) → cond {A = Option (List ℕ × List ℕ)} (nat_lt (length field) n) None (Some (take n field, drop n field)) ≡ Some (chunk, rest) → (length chunk ≡ n) × (field ≡ chunk ++ rest)
chunk_parts n field chunk rest h = elim (cases_Bool (nat_lt (length field) n)) [
  | inl short ↦ absurd (none-some _ (rw short at h))
  | inr long ↦
      let parts = some_pair_parts (take n field) chunk (drop n field) rest (rw long at h) in
      let room : n ≤ length field = grind (arith, nat_tests) in
      (ap length (sym parts.0) ∙ length-take-le n field room, sym (take-append-drop n field) ∙ rw (parts.0, parts.1) refl)
]

-- so many bytes
pub reads_chunk : (n : ℕ) → Reads (λ chunk. length chunk ≡ n) (λ chunk. chunk) (chunk_at n)
unfolding chunk_at
reads_chunk n = record {
  sound = λ bytes chunk rest h.
      step (behind (codes " ") bytes) _ (chunk, rest) h (λ field space h1.
      let p = chunk_parts n field chunk rest h1 in
      (p.0, behind-Some (codes " ") bytes field space ∙ ap (λ xs. 32 ∷ xs) p.1));
  complete = λ chunk rest e end.
      let long : n ≤ length (chunk ++ rest) = omega (arith, length-append chunk rest) in
      rw (le-ltb (length (chunk ++ rest)) n long, drop_at chunk rest n e, take_at chunk rest n e) refl;
}

-- counted fields
pub reads_counted : Reads IsCountable counted_field counted_at
unfolding counted_at
reads_counted = record {
  sound = λ bytes content rest h.
      step (behind (codes " ") bytes) _ (content, rest) h (λ field space h1.
      let front = front-split_counted field content rest h1 in
      (front.0, behind-Some (codes " ") bytes field space ∙ ap (λ xs. 32 ∷ xs) front.1));
  complete = λ content rest few end. split_counted-front (counted_field content ++ rest) content rest few refl;
}

-- counted fields whose content passes a test
record Tests (test : List ℕ → Bool) (Is : List ℕ → Type 0) : Type 0 where
  passes : (content : List ℕ) → test content ≡ true → Is content
  is : (content : List ℕ) → Is content → test content ≡ true
  few : (content : List ℕ) → Is content → IsCountable content

abbrev tested : (List ℕ → Bool) → List ℕ → Option (List ℕ × List ℕ)
tested test bytes = counted_at bytes >>= (λ found. if test found.0 then Some found else None)

reads_tested : (test : List ℕ → Bool) (Is : List ℕ → Type 0) → Tests test Is → Reads Is counted_field (tested test)
reads_tested test Is t = record {
  sound = λ bytes content rest h.
      step (counted_at bytes) _ (content, rest) h (λ found is h1.
      let p = cond_some (test found.0) found (content, rest) h1 in
      let first : found.0 ≡ content = ap (λ (x : List ℕ × List ℕ). x.0) p.1 in
      let behind_it : found.1 ≡ rest = ap (λ (x : List ℕ × List ℕ). x.1) p.1 in
      (t.passes content (ap test (sym first) ∙ p.0), (reads_counted.sound bytes found.0 found.1 is).1 ∙ rw (first, behind_it) refl));
  complete = λ content rest h end. rw (reads_counted.complete content rest (t.few content h) end, t.is content h) refl;
}

-- a text of so many characters
pub record IsTextOf (least most : ℕ) (content : List ℕ) : Type 0 where
  pub text : IsText content
  pub low : least ≤ length content
  pub high : length content ≤ most

tests_text : (least most : ℕ) → most ≤ 999999 → Tests (is_text_of least most) (IsTextOf least most)
tests_text least most small = record {
  passes = λ content h.
      let p = and_parts (nat_le least (length content) && nat_le (length content) most) (is_text content) h in
      let q = and_parts (nat_le least (length content)) (nat_le (length content) most) p.0 in
      record { text = p.1; low = leb-true least (length content) q.0; high = leb-true (length content) most q.1 };
  is = λ content h. and_from _ _ (and_from _ _ (le-leb least (length content) h.low) (le-leb (length content) most h.high)) h.text;
  few = λ content h. omega (arith, h.high);
}

pub reads_text : (least most : ℕ) → most ≤ 999999 → Reads (IsTextOf least most) counted_field (text_at least most)
unfolding text_at
reads_text least most small = reads_tested (is_text_of least most) (IsTextOf least most) (tests_text least most small)

-- areas
tests_input : Tests is_input_area IsInputArea
tests_input = record {
  passes = λ content h.
      let p = and_parts (length content == 87) (is_text content) h in
      record { length = eqb-true (length content) 87 p.0; text = p.1 };
  is = λ content h. and_from _ _ (eq-eqb (length content) 87 h.length) h.text;
  few = λ content h. omega (arith, h.length);
}

pub reads_in_area : Reads IsInputArea counted_field in_area_at
unfolding in_area_at
reads_in_area = reads_tested is_input_area IsInputArea tests_input

tests_output : Tests is_output_area IsOutputArea
tests_output = record {
  passes = λ content h.
      let n = occurrences_of content in
      let p = and_parts ((nat_le 1 n && nat_le n 8) && (length content == 10 + 13 * n)) (is_text content) h in
      let q = and_parts (nat_le 1 n && nat_le n 8) (length content == 10 + 13 * n) p.0 in
      let r = and_parts (nat_le 1 n) (nat_le n 8) q.0 in
      record { some = leb-true 1 n r.0; few = leb-true n 8 r.1; whole = eqb-true (length content) (10 + 13 * n) q.1; text = p.1 };
  is = λ content h.
      and_from _ _ (and_from _ _ (and_from _ _ (le-leb 1 _ h.some) (le-leb _ 8 h.few)) (eq-eqb (length content) _ h.whole)) h.text;
  few = λ content h. omega (arith, h.whole, h.few);
}

pub reads_out_area : Reads IsOutputArea counted_field out_area_at
unfolding out_area_at
reads_out_area = reads_tested is_output_area IsOutputArea tests_output
