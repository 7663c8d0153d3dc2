-- Fields that are written from the left or from the right, and numbers in them.
use Rattle.std.proofs.Common.{◌≡◌, ℕ, ◌+◌, ◌-◌, ◌<◌, ◌≤◌, ◌^◌, min, Bool, true, false, cond, List, [], ◌++◌, length, take, drop, replicate, Option, Some, None, IsSome, IfSome, ◌↔◌, refl, sym, ap, ◌∙◌, subst, arith, ⊎_elim, append-nil, true≢false}
use Rattle.std.specs.Str.{all_ascii_digits}
use Rattle.std.proofs.lemmas.Bool.{cases_lt}
use Rattle.std.proofs.lemmas.List.{take-append-le, take-replicate, drop-append-le, drop-replicate, length-take-le, length-replicate, length-drop}
use Rattle.std.proofs.Math.Seq.{take-append-add, drop-append-add, take-length}
use Rattle.com_text.specs.Name.{spaces}
use Rattle.com_text.specs.Digits.{IsNumber, number}
use Rattle.com_text.proofs.Numerals.{number-lt}
use Rattle.com_cd.specs.InputArea.{zeros}
use Rattle.com_cd.specs.Parts.{with_part}
use Rattle.cob_meaning.specs.Moves.{from_left, from_right}
use Rattle.cob_meaning.specs.Storage.{number_in}

-- the characters as far as there is room, and spaces
left_is : (width : ℕ) (characters : List ℕ) → take (min (length characters) width) characters ++ spaces (width - min (length characters) width) ≡ from_left width characters
left_is width characters = ⊎_elim short long (cases_lt (length characters) width)
  where
    Goal : ℕ → Type 0
    Goal n = take n characters ++ spaces (width - n) ≡ from_left width characters

    short : length characters < width → Goal (min (length characters) width)
    short lt =
        let m : min (length characters) width ≡ length characters = omega arith in
        let whole : length characters + (width - length characters) ≡ width = omega arith in
        subst Goal (sym m)
        (ap (λ l. l ++ spaces (width - length characters)) (take-length characters)
        ∙ ap (λ l. characters ++ l) (sym (take-replicate (width - length characters) width 32 (omega arith)))
        ∙ sym (take-append-add characters (spaces width) (width - length characters))
        ∙ ap (λ n. take n (characters ++ spaces width)) whole)

    long : width ≤ length characters → Goal (min (length characters) width)
    long le =
        let m : min (length characters) width ≡ width = omega arith in
        let no : width - width ≡ 0 = omega arith in
        subst Goal (sym m)
        (ap (λ n. take width characters ++ spaces n) no ∙ append-nil (take width characters) ∙ sym (take-append-le width characters (spaces width) le))

pub left_written : (width len : ℕ) (characters field : List ℕ) → len ≡ min (length characters) width → field ≡ with_part 0 (length (take len characters)) (spaces width) (take len characters) → field ≡ from_left width characters
left_written width len characters field e h =
    let size : length (take len characters) ≡ len = length-take-le len characters (omega (arith, e)) in
    let at : 0 + length (take len characters) ≡ len = omega (arith, size) in
    h ∙ ap (λ n. take len characters ++ drop n (spaces width)) at ∙ ap (λ l. take len characters ++ l) (drop-replicate len width 32)
    ∙ ap (λ n. take n characters ++ spaces (width - n)) e ∙ left_is width characters

-- zeros, and the digits from the right as far as there is room
right_is : (width : ℕ) (digits : List ℕ) → zeros (width - min (length digits) width) ++ drop (length digits - min (length digits) width) digits ≡ from_right width digits
right_is width digits = ⊎_elim short long (cases_lt (length digits) width)
  where
    Goal : ℕ → Type 0
    Goal n = zeros (width - n) ++ drop (length digits - n) digits ≡ from_right width digits

    short : length digits < width → Goal (min (length digits) width)
    short lt =
        let m : min (length digits) width ≡ length digits = omega arith in
        let no : length digits - length digits ≡ 0 = omega arith in
        let z : length (zeros width) ≡ width = length-replicate width 48 in
        subst Goal (sym m)
        (ap (λ n. zeros (width - length digits) ++ drop n digits) no
        ∙ ap (λ l. l ++ digits) (sym (drop-replicate (length digits) width 48))
        ∙ sym (drop-append-le (length digits) (zeros width) digits (omega (arith, z, lt))))

    long : width ≤ length digits → Goal (min (length digits) width)
    long le =
        let m : min (length digits) width ≡ width = omega arith in
        let no : width - width ≡ 0 = omega arith in
        let z : length (zeros width) ≡ width = length-replicate width 48 in
        let at : length (zeros width) + (length digits - width) ≡ length digits = omega (arith, z, le) in
        subst Goal (sym m)
        (ap (λ n. zeros n ++ drop (length digits - width) digits) no
        ∙ sym (drop-append-add (zeros width) digits (length digits - width))
        ∙ ap (λ n. drop n (zeros width ++ digits)) at)

pub right_written : (width len start : ℕ) (digits field : List ℕ) → len ≡ min (length digits) width → start ≡ width - len → field ≡ with_part start (length (drop (length digits - len) digits)) (zeros width) (drop (length digits - len) digits) → field ≡ from_right width digits
right_written width len start digits field e s h =
    let v = drop (length digits - len) digits in
    let size : length v ≡ len = length-drop (length digits - len) digits ∙ omega (arith, e) in
    let past : start + length v ≡ width = omega (arith, size, s, e) in
    let none_ : drop (start + length v) (zeros width) ≡ [] = ap (λ n. drop n (zeros width)) past ∙ drop-replicate width width 48 ∙ (let no : width - width ≡ 0 = omega arith in ap (λ n. replicate n 48) no) in
    h ∙ ap (λ l. (take start (zeros width) ++ v) ++ l) none_ ∙ append-nil (take start (zeros width) ++ v)
    ∙ ap (λ l. l ++ v) (take-replicate start width 48 (omega (arith, s)))
    ∙ ap (λ n. zeros n ++ v) s ∙ ap (λ n. zeros (width - n) ++ drop (length digits - n) digits) e ∙ right_is width digits

-- the same, where zeros were written first and the digits are a slice
pub right_of_slice : (width len : ℕ) (digits zeroed field : List ℕ) → len ≡ min (length digits) width → zeroed ≡ zeros width
    → field ≡ with_part (length zeroed - len) (length (take (length digits - (length digits - len)) (drop (length digits - len) digits))) zeroed (take (length digits - (length digits - len)) (drop (length digits - len) digits))
    → field ≡ from_right width digits
right_of_slice width len digits zeroed field e z h =
    let kept = length digits - len in
    let whole : take (length digits - kept) (drop kept digits) ≡ drop kept digits = ap (λ n. take n (drop kept digits)) (sym (length-drop kept digits)) ∙ take-length (drop kept digits) in
    right_written width len (length zeroed - len) digits field e (ap (λ l. length l - len) z ∙ ap (λ n. n - len) (length-replicate width 48))
    (h ∙ ap (λ l. with_part (length zeroed - len) (length l) zeroed l) whole ∙ ap (λ l. with_part (length zeroed - len) (length (drop kept digits)) l (drop kept digits)) z)

-- a number that is read, or none
pub number_read : (characters : List ℕ) (r : Option ℕ) → 1 ≤ length characters → length characters ≤ 18 → (IsSome r ↔ IsNumber characters) → IfSome r (λ n. n ≡ number characters) → r ≡ number_in characters
number_read characters r some few is n = by (all_ascii_digits characters) refl
  where
    by : (b : Bool) → all_ascii_digits characters ≡ b → r ≡ cond b (Some (number characters)) None
    by true h = found r (is.1 (record { some = some; short = few; digits = h })) n
      where
        found : (o : Option ℕ) → IsSome o → IfSome o (λ n. n ≡ number characters) → o ≡ Some (number characters)
        found (Some m) s e = ap Some e
        found None s e = cc
    by false h = lost r is
      where
        lost : (o : Option ℕ) → (IsSome o ↔ IsNumber characters) → o ≡ None
        lost None i = refl
        lost (Some m) i = let d : IsNumber characters = i.0 refl in let never : true ≡ false = sym d.digits ∙ h in absurd (true≢false never)

pub number_below : (characters : List ℕ) (r : Option ℕ) → length characters ≤ 18 → r ≡ number_in characters → IfSome r (λ n. n < 10 ^ 18)
number_below characters r few e = subst (λ o. IfSome o (λ n. n < 10 ^ 18)) (sym e) (by (all_ascii_digits characters) refl)
  where
    by : (b : Bool) → all_ascii_digits characters ≡ b → IfSome (cond b (Some (number characters)) None) (λ n. n < 10 ^ 18)
    by true h = number-lt characters 18 h few
    by false h = tt
