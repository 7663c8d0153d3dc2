-- The run of a picture, and that it is the longest.
use Rattle.std.proofs.Common.{◌≡◌, ℕ, zero, suc, ◌-◌, Bool, true, false, not, ◌&&◌, ◌||◌, cond, List, [], ◌∷◌, ◌++◌, length, take, drop, slice_index, ◌⊎◌, inl, inr, refl, ap, sym, ◌∙◌, arith, append_assoc}
use Rattle.std.specs.List.{list_all, prefix_len, take_while}
use Rattle.std.proofs.lemmas.Bool.{and_parts}
use Rattle.std.proofs.lemmas.Bool.Decides.{nat_tests}
use Rattle.std.proofs.lemmas.List.{take-append-drop}
use Rattle.std.proofs.lemmas.List.Folds.{list_all-append}
use Rattle.cob_lex.specs.Characters.{is_comma, is_no_space, is_period, is_separator, is_space, is_spacing, space_next}
use Rattle.cob_lex.specs.Fronts.{picture_run}
use Rattle.cob_lex.specs.Spelled.{IsPictureRun, is_next, is_to_space}
use Rattle.cob_lex.proofs.Longest.{chosen, run_ends, run_passes}

-- bytes are a picture's run and what is after it
pub record Splits (bytes : List ℕ) : Type 0 where
  pub behind : List ℕ
  pub written : bytes ≡ picture_run bytes ++ behind
  pub longest : IsPictureRun (picture_run bytes) behind

-- a list that is not empty and its last item
last_split : (xs : List ℕ) (k : ℕ) → length xs ≡ suc k → xs ≡ take k xs ++ slice_index xs k ∷ []
last_split [] k h = absurd (omega arith)
last_split (x ∷ []) zero h = refl
last_split (x ∷ []) (suc k) h = absurd (omega arith)
last_split (x ∷ y ∷ ys) zero h = absurd (omega arith)
last_split (x ∷ y ∷ ys) (suc k) h = ap (λ zs. x ∷ zs) (last_split (y ∷ ys) k (omega arith))

no_not : (b : Bool) → not b ≡ false → b ≡ true
no_not true h = refl
no_not false h = cc

-- a space or the end of the line is after the run
space_is_next : (rest : List ℕ) → is_next is_no_space rest ≡ false → space_next rest ≡ true
space_is_next [] h = refl
space_is_next (y ∷ ys) h = no_not (is_space y) h

plain_end : (text rest : List ℕ) → is_separator (slice_index text (length text - 1)) ≡ false → is_next is_no_space rest ≡ false → is_to_space text rest ≡ true
plain_end text [] last h = ap not last
plain_end text (y ∷ ys) last h = ap (λ b. cond b (not (is_separator (slice_index text (length text - 1)))) (is_separator y && space_next ys)) (space_is_next (y ∷ ys) h) ∙ ap not last

no_space : (byte : ℕ) → is_separator byte ≡ true → is_space byte ≡ false
no_space byte h = grind (arith, nat_tests)

separator_end : (text rest : List ℕ) (byte : ℕ) → is_separator byte ≡ true → is_next is_no_space rest ≡ false → is_to_space text (byte ∷ rest) ≡ true
separator_end text rest byte sep h =
    ap (λ b. cond b (not (is_separator (slice_index text (length text - 1)))) (is_separator byte && space_next rest)) (no_space byte sep)
    ∙ ap (λ b. b && space_next rest) sep ∙ space_is_next rest h

separator_some : (xs : List ℕ) → is_separator (slice_index xs (length xs - 1)) ≡ true → length xs ≡ suc (length xs - 1)
separator_some [] h = cc
separator_some (x ∷ xs) h = omega arith

module _ (bytes : List ℕ) where
  abbrev whole : List ℕ
  whole = take_while is_no_space bytes

  abbrev behind : List ℕ
  behind = drop (prefix_len is_no_space bytes) bytes

  together : bytes ≡ whole ++ behind
  together = sym (take-append-drop (prefix_len is_no_space bytes) bytes)

  picture_at : (b : Bool) → is_separator (slice_index whole (length whole - 1)) ≡ b
      → (behind : List ℕ) × (bytes ≡ cond b (take (length whole - 1) whole) whole ++ behind) × IsPictureRun (cond b (take (length whole - 1) whole) whole) behind
  picture_at false is = (behind, together, record { inside = run_passes is_no_space bytes; longest = plain_end whole behind is (run_ends is_no_space bytes) })
  picture_at true is =
      let k : ℕ = length whole - 1 in
      let last : ℕ = slice_index whole k in
      let split : whole ≡ take k whole ++ last ∷ [] = last_split whole k (separator_some whole is) in
      let both : (list_all is_no_space (take k whole) && list_all is_no_space (last ∷ [])) ≡ true = sym (list_all-append is_no_space (take k whole) (last ∷ [])) ∙ sym (ap (list_all is_no_space) split) ∙ run_passes is_no_space bytes in (
        last ∷ behind,
        together ∙ ap (λ w. w ++ behind) split ∙ append_assoc (take k whole) (last ∷ []) behind,
        record {
          inside = (and_parts (list_all is_no_space (take k whole)) (list_all is_no_space (last ∷ [])) both).0;
          longest = separator_end (take k whole) behind last is (run_ends is_no_space bytes);
        },
      )

pub picture_splits : (bytes : List ℕ) → Splits bytes
picture_splits bytes =
    let (behind, written, longest) = picture_at bytes (is_separator (slice_index (whole bytes) (length (whole bytes) - 1))) refl in
    record { behind = behind; written = written; longest = longest }

period_or_comma : (byte : ℕ) → is_separator byte ≡ true → (is_period byte ≡ true) ⊎ (is_comma byte ≡ true)
period_or_comma byte h = elim (is_period byte) as (λ b. (b || is_comma byte) ≡ true → (b ≡ true) ⊎ (is_comma byte ≡ true)) [ true ↦ λ k. inl refl | false ↦ λ k. inr k ] h

or_true : (b c : Bool) → c ≡ true → (b || c) ≡ true
or_true true c h = refl
or_true false c h = h

lone_end : (x : ℕ) (xs : List ℕ) → is_to_space [] (x ∷ xs) ≡ true → (is_spacing x xs ≡ true) ⊎ ((is_period x ≡ true) × (space_next xs ≡ true))
lone_end x xs h =
    elim (chosen (is_space x) _ _ _ h) [
      | inl w ↦ inl (ap (λ b. b || (is_comma x && space_next xs)) w.0)
      | inr w ↦
          let (separates, spaced) = and_parts (is_separator x) (space_next xs) w.1 in
          elim (period_or_comma x separates) [
            | inl period ↦ inr (period, spaced)
            | inr comma ↦ inl (or_true (is_space x) (is_comma x && space_next xs) (ap (λ b. b && space_next xs) comma ∙ spaced))
          ]
    ]

nothing : (xs : List ℕ) → length xs ≡ 0 → xs ≡ []
nothing [] h = refl
nothing (x ∷ xs) h = absurd (omega arith)

-- no run: a space stands there, or a period, comma or semicolon that separates
pub no_run : (x : ℕ) (xs : List ℕ) → length (picture_run (x ∷ xs)) ≡ 0 → (is_spacing x xs ≡ true) ⊎ ((is_period x ≡ true) × (space_next xs ≡ true))
no_run x xs h =
    let s = picture_splits (x ∷ xs) in
    let none : picture_run (x ∷ xs) ≡ [] = nothing (picture_run (x ∷ xs)) h in
    let all : x ∷ xs ≡ s.behind = s.written ∙ ap (λ r. r ++ s.behind) none in
    lone_end x xs (ap (is_to_space []) all ∙ ap (λ r. is_to_space r s.behind) (sym none) ∙ s.longest.longest)
