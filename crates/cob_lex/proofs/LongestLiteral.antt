-- Where a literal ends, and that it is the longest.
use Rattle.std.proofs.Common.{◌≡◌, ℕ, suc, ◌+◌, true, false, not, ◌&&◌, cond, List, [], ◌∷◌, ◌++◌, length, take, drop, Option, Some, None, inl, inr, refl, ap, sym, ◌∙◌, arith, append_assoc, length-append}
use Rattle.std.specs.Option.{option_map}
use Rattle.std.proofs.lemmas.Bool.{eqb-true}
use Rattle.cob_lex.specs.declared.fault.SourceKind.TheVariants as faults
use Rattle.cob_lex.specs.declared.token.TokenKind.{TokenKind}
use Rattle.cob_lex.specs.declared.token.TokenKind.TheVariants as tokens
use Rattle.cob_lex.specs.declared.front.Front.TheVariants as fronts
use Rattle.cob_lex.specs.Characters.{is_quote}
use Rattle.cob_lex.specs.Literals.{closing, is_literal}
use Rattle.cob_lex.specs.Fronts.{literal_front}
use Rattle.cob_lex.specs.Spelled.{is_next, is_paired}
use Rattle.cob_lex.proofs.Longest.{Plainly, chosen, plainly_same}

pub take_before : (a b : List ℕ) → take (length a) (a ++ b) ≡ a
take_before [] b = refl
take_before (x ∷ a) b = ap (λ zs. x ∷ zs) (take_before a b)

pub drop_before : (a b : List ℕ) → drop (length a) (a ++ b) ≡ b
drop_before [] b = refl
drop_before (x ∷ a) b = drop_before a b

-- the bytes before the closing quotation mark, and those after it
pub record Closes (rest : List ℕ) (n : ℕ) : Type 0 where
  pub inside : List ℕ
  pub behind : List ℕ
  pub written : rest ≡ inside ++ 0x22 ∷ behind
  pub size : length inside ≡ n
  pub paired : is_paired inside ≡ true
  pub longest : is_next is_quote behind ≡ false

value_in : Option ℕ → ℕ
value_in None = 0
value_in (Some n) = n

same_value : (m n : ℕ) → Some m ≡ Some n → m ≡ n
unfolding value_in
same_value m n h = ap value_in h

mapped : (f : ℕ → ℕ) (o : Option ℕ) (n : ℕ) → option_map f o ≡ Some n → (m : ℕ) × (o ≡ Some m) × (f m ≡ n)
mapped f None n h = cc
mapped f (Some m) n h = (m, refl, same_value (f m) n h)

paired_more : (x : ℕ) (xs : List ℕ) → is_quote x ≡ false → is_paired xs ≡ true → is_paired (x ∷ xs) ≡ true
paired_more x [] other h = ap not other
paired_more x (y ∷ ys) other h = ap (λ b. cond b (is_quote y && is_paired ys) (is_paired (y ∷ ys))) other ∙ h

paired_twice : (x y : ℕ) (xs : List ℕ) → is_quote x ≡ true → is_quote y ≡ true → is_paired xs ≡ true → is_paired (x ∷ y ∷ xs) ≡ true
paired_twice x y xs one two h = ap (λ b. cond b (is_quote y && is_paired xs) (is_paired (y ∷ xs))) one ∙ ap (λ b. b && is_paired xs) two ∙ h

-- the closing quotation mark at once
at_once : (x : ℕ) (behind : List ℕ) (n : ℕ) → is_quote x ≡ true → is_next is_quote behind ≡ false → Some 0 ≡ Some n → Closes (x ∷ behind) n
at_once x behind n quote longest h = record {
  inside = [];
  behind = behind;
  written = ap (λ y. y ∷ behind) (eqb-true x 0x22 quote);
  size = same_value 0 n h;
  paired = refl;
  longest = longest;
}

pub closes : (rest : List ℕ) (n : ℕ) → closing rest ≡ Some n → Closes rest n
closes [] n h = cc
closes (x ∷ []) n h = elim (chosen (is_quote x) _ _ _ h) [ inl w ↦ at_once x [] n w.0 refl w.1 | inr w ↦ let e : None ≡ Some n = w.1 in cc ]
closes (x ∷ y ∷ rest) n h =
    elim (chosen (is_quote x) _ _ _ h) [
      | inl w ↦ elim (chosen (is_quote y) _ _ _ w.1) [
        | inl v ↦
            let (m, found, two) = mapped (λ k. 2 + k) (closing rest) n v.1 in
            let others = closes rest m found in
            let size : suc (suc (length others.inside)) ≡ n = omega (arith, others.size) in
            record {
              inside = x ∷ y ∷ others.inside;
              behind = others.behind;
              written = ap (λ zs. x ∷ y ∷ zs) others.written;
              size = size;
              paired = paired_twice x y others.inside w.0 v.0 others.paired;
              longest = others.longest;
            }
        | inr v ↦ at_once x (y ∷ rest) n w.0 v.0 v.1
      ]
      | inr w ↦
          let (m, found, one) = mapped (λ k. 1 + k) (closing (y ∷ rest)) n w.1 in
          let others = closes (y ∷ rest) m found in
          let size : suc (length others.inside) ≡ n = omega (arith, others.size) in
          record {
            inside = x ∷ others.inside;
            behind = others.behind;
            written = ap (λ zs. x ∷ zs) others.written;
            size = size;
            paired = paired_more x others.inside w.0 others.paired;
            longest = others.longest;
          }
    ]

-- a literal of so many bytes after its opening quotation mark
quoted : (x : ℕ) (xs : List ℕ) (m : ℕ) → is_quote x ≡ true → Closes xs m → is_literal (take m xs) ≡ true → Plainly tokens.Literal (m + 2) (x ∷ xs)
quoted x xs m quote c sized =
    let inside : List ℕ = c.inside in
    let front : List ℕ = inside ++ 0x22 ∷ [] in
    let written : xs ≡ front ++ c.behind = c.written ∙ sym (append_assoc inside (0x22 ∷ []) c.behind) in
    let long : length front ≡ suc m = omega (arith, length-append inside (0x22 ∷ []), c.size) in
    let two : m + 2 ≡ suc (suc m) = omega arith in
    let taken : take (suc m) xs ≡ front = ap (take (suc m)) written ∙ ap (λ n. take n (front ++ c.behind)) (sym long) ∙ take_before front c.behind in
    let left : drop (suc m) xs ≡ c.behind = ap (drop (suc m)) written ∙ ap (λ n. drop n (front ++ c.behind)) (sym long) ∙ drop_before front c.behind in
    let text : take (m + 2) (x ∷ xs) ≡ x ∷ front = ap (λ n. take n (x ∷ xs)) two ∙ ap (λ zs. x ∷ zs) taken in
    let rest : drop (m + 2) (x ∷ xs) ≡ c.behind = ap (λ n. drop n (x ∷ xs)) two ∙ left in
    let insides : take m xs ≡ inside = ap (take m) c.written ∙ ap (λ n. take n (inside ++ 0x22 ∷ c.behind)) (sym c.size) ∙ take_before inside (0x22 ∷ c.behind) in
    let total : length xs ≡ suc m + length c.behind = ap length written ∙ length-append front c.behind ∙ ap (λ n. n + length c.behind) long in
    record {
      some = omega arith;
      within = omega arith;
      plain = record {
        inside = inside;
        written = text ∙ ap (λ y. y ∷ front) (eqb-true x 0x22 quote);
        paired = c.paired;
        sized = ap is_literal (sym insides) ∙ sized;
        longest = ap (is_next is_quote) rest ∙ c.longest;
      };
    }

pub literal_plainly : (x : ℕ) (xs : List ℕ) (kind : TokenKind) (n : ℕ) (o : Option ℕ) → is_quote x ≡ true → closing xs ≡ o → literal_front xs o ≡ fronts.Token kind n → Plainly kind n (x ∷ xs)
literal_plainly x xs kind n None quote found h = cc
literal_plainly x xs kind n (Some m) quote found h =
    elim (chosen (is_literal (take m xs)) _ _ _ h) [
      | inl w ↦ plainly_same tokens.Literal kind (m + 2) n (x ∷ xs) w.1 (quoted x xs m quote (closes xs m found) w.0)
      | inr w ↦ let e : fronts.Fault faults.BadWord ≡ fronts.Token kind n = w.1 in cc
    ]
