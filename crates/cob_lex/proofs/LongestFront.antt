-- A token at the beginning of bytes is the longest there.
use Rattle.std.proofs.Common.{◌≡◌, ◌≢◌, ℕ, ◌+◌, ◌≤◌, true, false, ◌&&◌, ◌==◌, cond, nat_le, List, [], ◌∷◌, length, take, drop, Option, Some, None, inl, inr, refl, ap, sym, subst, ◌∙◌, arith, codes, length-append}
use Rattle.std.specs.List.{take_while}
use Rattle.std.specs.Str.{bytes_eq}
use Rattle.std.proofs.lemmas.Bool.{and_parts, eqb-true}
use Rattle.std.proofs.lemmas.Bool.Decides.{nat_tests}
use Rattle.std.proofs.lemmas.Slice.Eq.{bytes_eq-Decides}
use Rattle.cob_lex.specs.declared.fault.SourceKind.TheVariants as faults
use Rattle.cob_lex.specs.declared.token.TokenKind.{TokenKind}
use Rattle.cob_lex.specs.declared.token.TokenKind.TheVariants as tokens
use Rattle.cob_lex.specs.declared.front.Awaited.{Awaited}
use Rattle.cob_lex.specs.declared.front.Awaited.TheVariants as awaited
use Rattle.cob_lex.specs.declared.front.Front.TheVariants as fronts
use Rattle.cob_lex.specs.Characters.{is_period, is_quote, is_spacing, is_word_byte, space_next}
use Rattle.cob_lex.specs.Literals.{closing, is_literal}
use Rattle.cob_lex.specs.Fronts.{front_of, is_awaited_is, is_number, is_picture_front, is_word, literal_front, picture_front, picture_run, plain_front, run_front, sign_front, sign_kind}
use Rattle.cob_lex.specs.Spelled.{IsLongest, IsPictureRun, IsPlain}
use Rattle.cob_lex.proofs.Longest.{Fronts, Plainly, chosen, plainly_same, run_plainly, same_kind, same_size}
use Rattle.cob_lex.proofs.LongestLiteral.{drop_before, literal_plainly, take_before}
use Rattle.cob_lex.proofs.LongestPicture.{no_run, picture_splits}

-- tokens of one character
kind_of : Option TokenKind → TokenKind
kind_of None = tokens.Period
kind_of (Some kind) = kind

some_kind : (k l : TokenKind) → Some k ≡ Some l → k ≡ l
unfolding kind_of
some_kind k l h = ap kind_of h

module _ (x : ℕ) (xs : List ℕ) where
  sign_same : (k l : TokenKind) → Some k ≡ Some l → IsPlain k (x ∷ []) xs → IsPlain l (x ∷ []) xs
  sign_same k l h p = let P : TokenKind → Type 0 = λ kind. IsPlain kind (x ∷ []) xs in subst P (some_kind k l h) p

  character : (code : ℕ) → (x == code) ≡ true → x ∷ [] ≡ code ∷ []
  character code h = ap (λ y. y ∷ []) (eqb-true x code h)

  sign_is : (kind : TokenKind) → sign_kind x xs ≡ Some kind → IsPlain kind (x ∷ []) xs
  sign_is kind h =
      elim (chosen (is_period x && space_next xs) _ _ _ h) [
        | inl w ↦ let (period, spaced) = and_parts (is_period x) (space_next xs) w.0 in sign_same tokens.Period kind w.1 (character 0x2E period, spaced)
        | inr a ↦ elim (chosen (x == 0x28) _ _ _ a.1) [
          | inl w ↦ sign_same tokens.Open kind w.1 (character 0x28 w.0)
          | inr b ↦ elim (chosen (x == 0x29) _ _ _ b.1) [
            | inl w ↦ sign_same tokens.Close kind w.1 (character 0x29 w.0)
            | inr d ↦ elim (chosen (x == 0x3D) _ _ _ d.1) [
              | inl w ↦ sign_same tokens.Equal kind w.1 (character 0x3D w.0)
              | inr e ↦ elim (chosen (x == 0x3E) _ _ _ e.1) [
                | inl w ↦ sign_same tokens.Greater kind w.1 (character 0x3E w.0)
                | inr f ↦ elim (chosen (x == 0x3C) _ _ _ f.1) [
                  | inl w ↦ sign_same tokens.Less kind w.1 (character 0x3C w.0)
                  | inr g ↦ let none : None ≡ Some kind = g.1 in cc
                ]
              ]
            ]
          ]
        ]
      ]

  sign_plainly : (kind : TokenKind) (n : ℕ) (o : Option TokenKind) → sign_kind x xs ≡ o → sign_front o ≡ fronts.Token kind n → Plainly kind n (x ∷ xs)
  sign_plainly kind n None found h = cc
  sign_plainly kind n (Some k) found h = plainly_same k kind 1 n (x ∷ xs) h (record { some = omega arith; within = omega arith; plain = sign_is k found })

  pub plain_plainly : (kind : TokenKind) (n : ℕ) → plain_front (x ∷ xs) ≡ fronts.Token kind n → Plainly kind n (x ∷ xs)
  plain_plainly kind n h =
      elim (chosen (is_spacing x xs) _ _ _ h) [
        | inl w ↦ let e : fronts.Spacing ≡ fronts.Token kind n = w.1 in cc
        | inr a ↦ elim (chosen (is_word_byte x) _ _ _ a.1) [
          | inl w ↦ run_plainly x xs kind n w.0 w.1
          | inr b ↦ elim (chosen (is_quote x) _ _ _ b.1) [
            | inl w ↦ literal_plainly x xs kind n (closing xs) w.0 refl w.1
            | inr d ↦ sign_plainly kind n (sign_kind x xs) refl d.1
          ]
        ]
      ]

  -- the token where there is no run of a picture is a period
  lone_period : is_period x ≡ true → space_next xs ≡ true → plain_front (x ∷ xs) ≡ fronts.Token tokens.Period 1
  lone_period period spaced =
      let P : ℕ → Type 0 = λ byte. plain_front (byte ∷ xs) ≡ fronts.Token tokens.Period 1 in
      subst P (sym (eqb-true x 0x2E period)) (ap (λ b. sign_front (cond b (Some tokens.Period) None)) spaced)

  no_run_plainly : (kind : TokenKind) (n : ℕ) → length (picture_run (x ∷ xs)) ≡ 0 → plain_front (x ∷ xs) ≡ fronts.Token kind n → (kind ≡ tokens.Period) × Plainly kind n (x ∷ xs)
  no_run_plainly kind n none h =
      elim (no_run x xs none) [
        | inl spacing ↦ elim (chosen (is_spacing x xs) _ _ _ h) [
          | inl w ↦ let e : fronts.Spacing ≡ fronts.Token kind n = w.1 in cc
          | inr w ↦ let e : true ≡ false = sym spacing ∙ w.0 in cc
        ]
        | inr period ↦ (sym (same_kind tokens.Period kind 1 n (sym (lone_period period.0 period.1) ∙ h)), plain_plainly kind n h)
      ]

-- what a picture's run is, where it is so long
run_fronts : (bytes : List ℕ) → (take (length (picture_run bytes)) bytes ≡ picture_run bytes) × IsPictureRun (take (length (picture_run bytes)) bytes) (drop (length (picture_run bytes)) bytes) × (length (picture_run bytes) ≤ length bytes)
run_fronts bytes =
    let s = picture_splits bytes in
    let run : List ℕ = picture_run bytes in
    let taken : take (length run) bytes ≡ run = ap (take (length run)) s.written ∙ take_before run s.behind in
    let left : drop (length run) bytes ≡ s.behind = ap (drop (length run)) s.written ∙ drop_before run s.behind in
    let P : List ℕ → Type 0 = λ text. IsPictureRun text (drop (length run) bytes) in
    let Q : List ℕ → Type 0 = λ behind. IsPictureRun run behind in
    let all : length bytes ≡ length run + length s.behind = ap length s.written ∙ length-append run s.behind in
    (taken, subst P (sym taken) (subst Q (sym left) s.longest), omega arith)

one_at_least : (n : ℕ) → nat_le 1 n ≡ true → 1 ≤ n
one_at_least n h = grind (arith, nat_tests)

none_at_all : (n : ℕ) → nat_le 1 n ≡ false → n ≡ 0
none_at_all n h = grind (arith, nat_tests)

fronts_same : (awaits : Awaited) (k l : TokenKind) (m n : ℕ) (bytes : List ℕ) → fronts.Token k m ≡ fronts.Token l n → Fronts awaits k m bytes → Fronts awaits l n bytes
fronts_same awaits k l m n bytes h p =
    let P : TokenKind → Type 0 = λ kind. Fronts awaits kind m bytes in
    let Q : ℕ → Type 0 = λ size. Fronts awaits l size bytes in
    subst Q (same_size k l m n h) (subst P (same_kind k l m n h) p)

-- the same word, by the test of bytes
is_the_word : (text word : List ℕ) → bytes_eq text word ≡ true → text ≡ word
is_the_word text word h = (bytes_eq-Decides text word).0 h

is_another : (text word : List ℕ) → bytes_eq text word ≡ false → text ≢ word
is_another text word h e = let both : true ≡ false = sym ((bytes_eq-Decides text word).1 e) ∙ h in cc

a_period : (awaits : Awaited) (text behind : List ℕ) → IsPlain tokens.Period text behind → IsLongest awaits tokens.Period text behind
a_period awaited.Nothing text behind h = h
a_period awaited.IsOrPicture text behind h = h
a_period awaited.Picture text behind h = h

period_there : (awaits : Awaited) (kind : TokenKind) (n : ℕ) (bytes : List ℕ) → kind ≡ tokens.Period → Plainly kind n bytes → Fronts awaits kind n bytes
period_there awaits kind n bytes is p =
    let P : TokenKind → Type 0 = λ k. IsPlain k (take n bytes) (drop n bytes) in
    let Q : TokenKind → Type 0 = λ k. IsLongest awaits k (take n bytes) (drop n bytes) in
    record { some = p.some; within = p.within; longest = subst Q (sym is) (a_period awaits (take n bytes) (drop n bytes) (subst P is p.plain)) }

pub front_token : (awaits : Awaited) (x : ℕ) (xs : List ℕ) (kind : TokenKind) (n : ℕ) → front_of awaits (x ∷ xs) ≡ fronts.Token kind n → Fronts awaits kind n (x ∷ xs)
unfolding front_of
front_token awaited.Nothing x xs kind n h =
    let p = plain_plainly x xs kind n h in
    record { some = p.some; within = p.within; longest = p.plain }
front_token awaited.IsOrPicture x xs kind n h =
    let bytes : List ℕ = x ∷ xs in
    let run : List ℕ = picture_run bytes in
    let (taken, longest, within) = run_fronts bytes in
    elim (chosen (nat_le 1 (length run)) _ _ _ h) [
      | inl w ↦ elim (chosen (bytes_eq run (codes "IS")) _ _ _ w.1) [
        | inl v ↦ fronts_same awaited.IsOrPicture tokens.Word kind (length run) n bytes v.1
            (record { some = one_at_least (length run) w.0; within = within; longest = (taken ∙ is_the_word run (codes "IS") v.0, longest) })
        | inr v ↦ fronts_same awaited.IsOrPicture tokens.Picture kind (length run) n bytes v.1
            (record { some = one_at_least (length run) w.0; within = within; longest = ((λ e. is_another run (codes "IS") v.0 (sym taken ∙ e)), longest) })
      ]
      | inr w ↦
          let (is, p) = no_run_plainly x xs kind n (none_at_all (length run) w.0) w.1 in
          period_there awaited.IsOrPicture kind n bytes is p
    ]
front_token awaited.Picture x xs kind n h =
    let bytes : List ℕ = x ∷ xs in
    let run : List ℕ = picture_run bytes in
    let (taken, longest, within) = run_fronts bytes in
    elim (chosen (nat_le 1 (length run)) _ _ _ h) [
      | inl w ↦ fronts_same awaited.Picture tokens.Picture kind (length run) n bytes w.1
          (record { some = one_at_least (length run) w.0; within = within; longest = longest })
      | inr w ↦
          let (is, p) = no_run_plainly x xs kind n (none_at_all (length run) w.0) w.1 in
          period_there awaited.Picture kind n bytes is p
    ]

-- what stands between tokens
module _ (x : ℕ) (xs : List ℕ) where
  no_sign : (o : Option TokenKind) → sign_front o ≡ fronts.Spacing → ⊥
  no_sign None h = cc
  no_sign (Some kind) h = cc

  no_literal : (o : Option ℕ) → literal_front xs o ≡ fronts.Spacing → ⊥
  no_literal None h = cc
  no_literal (Some m) h = elim (chosen (is_literal (take m xs)) (fronts.Token tokens.Literal (m + 2)) (fronts.Fault faults.BadWord) fronts.Spacing h) [ inl w ↦ let e : fronts.Token tokens.Literal (m + 2) ≡ fronts.Spacing = w.1 in cc | inr w ↦ let e : fronts.Fault faults.BadWord ≡ fronts.Spacing = w.1 in cc ]

  no_run_front : (run : List ℕ) → run_front run ≡ fronts.Spacing → ⊥
  no_run_front run h =
      elim (chosen (is_word run) _ _ _ h) [
        | inl w ↦ let e : fronts.Token tokens.Word (length run) ≡ fronts.Spacing = w.1 in cc
        | inr a ↦ elim (chosen (is_number run) _ _ _ a.1) [ inl w ↦ let e : fronts.Token tokens.Number (length run) ≡ fronts.Spacing = w.1 in cc | inr w ↦ let e : fronts.Fault faults.BadWord ≡ fronts.Spacing = w.1 in cc ]
      ]

  plain_spacing : plain_front (x ∷ xs) ≡ fronts.Spacing → is_spacing x xs ≡ true
  plain_spacing h =
      elim (chosen (is_spacing x xs) _ _ _ h) [
        | inl w ↦ w.0
        | inr a ↦ elim (chosen (is_word_byte x) _ _ _ a.1) [
          | inl w ↦ absurd (no_run_front (take_while is_word_byte (x ∷ xs)) w.1)
          | inr b ↦ elim (chosen (is_quote x) _ _ _ b.1) [
            | inl w ↦ absurd (no_literal (closing xs) w.1)
            | inr d ↦ absurd (no_sign (sign_kind x xs) d.1)
          ]
        ]
      ]

  no_picture : (awaits : Awaited) (run : List ℕ) → picture_front awaits run ≡ fronts.Spacing → ⊥
  no_picture awaits run h = elim (chosen (is_awaited_is awaits run) _ _ _ h) [ inl w ↦ let e : fronts.Token tokens.Word (length run) ≡ fronts.Spacing = w.1 in cc | inr w ↦ let e : fronts.Token tokens.Picture (length run) ≡ fronts.Spacing = w.1 in cc ]

  pub front_spacing : (awaits : Awaited) → front_of awaits (x ∷ xs) ≡ fronts.Spacing → is_spacing x xs ≡ true
  unfolding front_of
  front_spacing awaits h =
      elim (chosen (is_picture_front awaits (picture_run (x ∷ xs))) _ _ _ h) [ inl w ↦ absurd (no_picture awaits (picture_run (x ∷ xs)) w.1) | inr w ↦ plain_spacing w.1 ]
