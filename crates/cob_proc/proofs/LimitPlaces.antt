-- Tokens up to the first with which a limit is passed.
use Rattle.std.proofs.Common.{◌≡◌, ℕ, ◌+◌, ◌-◌, ◌≤◌, Bool, true, false, ◌&&◌, ◌||◌, ◌==◌, List, [], ◌∷◌, ◌++◌, length, Option, Some, None, refl, sym, ap, ◌∙◌, append_assoc, arith, codes}
use Rattle.std.specs.Prelude.{nat_le, if◌then◌else◌}
use Rattle.std.proofs.lemmas.List.{append-nil}
use Rattle.std.proofs.lemmas.Grind.{common_steps}
use Rattle.std.proofs.lemmas.Bool.Decides.{nat_tests}
use Rattle.cob_lex.specs.declared.token.Token.{Token}
use Rattle.cob_forms.specs.Sorts.{is, name, reserved}
use Rattle.cob_proc.specs.Forms as forms
use Rattle.cob_proc.specs.declared.limits.TheConstants.{MAX_IFS, MAX_PARAGRAPHS}
use Rattle.cob_proc.specs.Faults.{names_paragraph, open_behind, paragraph_names}
use Rattle.cob_proc.specs.Limits.{ifs_behind, last_or, limit_place, passes_limit, place_behind}
use Rattle.cob_proc.proofs.Families.{length_more}
use Rattle.cob_proc.proofs.Cuts.{names_apart}

-- whether a period stands before
abbrev pub period_before : Option Token → Bool
period_before None = false
period_before (Some before) = is forms.period before

-- what is known of the tokens that were looked at
pub record Reached (tokens rest : List Token) (at left : ℕ) (ifs : List Bool) (after_period : Bool) : Type 0 where
  pub front : List Token
  pub count : at ≡ length front
  pub open_ifs : ifs ≡ ifs_behind [] front
  pub after : after_period ≡ period_before (last_or None front)
  pub fewer : left ≡ MAX_PARAGRAPHS - length (paragraph_names None front)
  pub few : length (paragraph_names None front) ≤ MAX_PARAGRAPHS
  pub so_far : place_behind front rest ≡ limit_place tokens

title_by : (before : Option Token) (x : Token) → names_paragraph before x ≡ (period_before before && is name x)
title_by None x = refl
title_by (Some before) x = refl

ifs_more : (ifs : List Bool) (ts : List Token) (x : Token) → ifs_behind ifs (ts ++ x ∷ []) ≡ open_behind (ifs_behind ifs ts) x
ifs_more ifs [] x = refl
ifs_more ifs (t ∷ ts) x = ifs_more (open_behind ifs t) ts x

last_more : (before : Option Token) (ts : List Token) (x : Token) → last_or before (ts ++ x ∷ []) ≡ Some x
last_more before [] x = refl
last_more before (t ∷ ts) x = last_more (Some t) ts x

-- one name more, or none
names_count : (ns : List Token) (x : Token) (b : Bool) → length (ns ++ (if b then x ∷ [] else [])) ≡ (if b then length ns + 1 else length ns)
names_count ns x true = length_more ns x
names_count ns x false = ap length (append-nil ns)

count_on : (most n left m : ℕ) (b : Bool) → m ≡ (if b then n + 1 else n) → left ≡ most - n → n ≤ most → (b && (left == 0)) ≡ false → ((if b then left - 1 else left) ≡ most - m) × (m ≤ most)
count_on most n left m true e f h t = (grind (arith, common_steps, nat_tests), grind (arith, common_steps, nat_tests))
count_on most n left m false e f h t = (f ∙ ap (λ k. most - k) (sym e), omega (arith, e, h))

second_false : (a b : Bool) → (a || b) ≡ false → b ≡ false
second_false true b h = let no : ⊥ = cc in absurd no
second_false false b h = h

same_tests : (p q : Bool) → (p ≡ true → q ≡ true) → (q ≡ true → p ≡ true) → p ≡ q
same_tests true q h k = sym (h refl)
same_tests false true h k = k refl
same_tests false false h k = refl

none_left : (most n left : ℕ) → left ≡ most - n → n ≤ most → (n == most) ≡ true → (left == 0) ≡ true
none_left most n left e h t = grind (arith, common_steps, nat_tests)

as_many : (most n left : ℕ) → left ≡ most - n → n ≤ most → (left == 0) ≡ true → (n == most) ≡ true
as_many most n left e h t = grind (arith, common_steps, nat_tests)

-- whether a token passes a limit, by what is known of those before it
abbrev passes_by : Token → ℕ → List Bool → Bool → Bool
passes_by x left ifs after_period = (is (reserved (codes "IF")) x && nat_le MAX_IFS (length ifs)) || ((after_period && is name x) && left == 0)

passes_is : {tokens rest : List Token} {at left : ℕ} {ifs : List Bool} {after_period : Bool} (r : Reached tokens rest at left ifs after_period) (x : Token) → passes_limit r.front x ≡ passes_by x left ifs after_period
passes_is {left = left} r x =
    let n : ℕ = length (paragraph_names None r.front) in
    let full : (n == MAX_PARAGRAPHS) ≡ (left == 0) = same_tests (n == MAX_PARAGRAPHS) (left == 0) (none_left MAX_PARAGRAPHS n left r.fewer r.few) (as_many MAX_PARAGRAPHS n left r.fewer r.few) in
    rw (title_by (last_or None r.front) x, ← r.after, ← r.open_ifs) (rw full refl)

pub reach_on : (tokens rest : List Token) (x : Token) (at left : ℕ) (ifs : List Bool) (after_period : Bool) → Reached tokens (x ∷ rest) at left ifs after_period
    → passes_by x left ifs after_period ≡ false
    → Reached tokens rest (at + 1) (if (after_period && is name x) then left - 1 else left) (open_behind ifs x) (is forms.period x)
reach_on tokens rest x at left ifs after_period r none =
    let title : names_paragraph (last_or None r.front) x ≡ (after_period && is name x) = title_by (last_or None r.front) x ∙ ap (λ b. b && is name x) (sym r.after) in
    let names : paragraph_names None (r.front ++ x ∷ []) ≡ paragraph_names None r.front ++ (if (after_period && is name x) then x ∷ [] else []) =
    names_apart None r.front (x ∷ []) ∙ ap (λ b. paragraph_names None r.front ++ (if b then x ∷ [] else [])) title in
    let count = count_on MAX_PARAGRAPHS (length (paragraph_names None r.front)) left (length (paragraph_names None (r.front ++ x ∷ []))) (after_period && is name x)
    (ap length names ∙ names_count (paragraph_names None r.front) x (after_period && is name x)) r.fewer r.few (second_false _ _ none) in
    record {
      front = r.front ++ x ∷ [];
      count = ap (λ n. n + 1) r.count ∙ sym (length_more r.front x);
      open_ifs = ap (λ i. open_behind i x) r.open_ifs ∙ sym (ifs_more [] r.front x);
      after = sym (ap period_before (last_more None r.front x));
      fewer = count.0;
      few = count.1;
      so_far = sym (ap (λ b. if b then Some (length r.front) else place_behind (r.front ++ x ∷ []) rest) (passes_is r x ∙ none)) ∙ r.so_far;
    }

pub passed_here : (tokens rest : List Token) (x : Token) (at left : ℕ) (ifs : List Bool) (after_period : Bool) → Reached tokens (x ∷ rest) at left ifs after_period
    → passes_by x left ifs after_period ≡ true → Some at ≡ limit_place tokens
passed_here tokens rest x at left ifs after_period r some =
    ap Some r.count ∙ sym (ap (λ b. if b then Some (length r.front) else place_behind (r.front ++ x ∷ []) rest) (passes_is r x ∙ some)) ∙ r.so_far

-- so many tokens stand before one with which a limit is passed
pub record PassesAt (tokens : List Token) (at : ℕ) : Type 0 where
  pub front : List Token
  pub token : Token
  pub behind : List Token
  pub split : tokens ≡ (front ++ token ∷ []) ++ behind
  pub place : at ≡ length front
  pub passes : passes_limit front token ≡ true

place_or_on : (front ts : List Token) (t : Token) (at : ℕ) (b : Bool) → passes_limit front t ≡ b → (if b then Some (length front) else place_behind (front ++ t ∷ []) ts) ≡ Some at
    → (place_behind (front ++ t ∷ []) ts ≡ Some at → PassesAt ((front ++ t ∷ []) ++ ts) at) → PassesAt ((front ++ t ∷ []) ++ ts) at
place_or_on front ts t at true passes here on = record { front = front; token = t; behind = ts; split = refl; place = let same : length front ≡ at = cc in sym same; passes = passes }
place_or_on front ts t at false passes here on = on here

passes_behind : (front ts : List Token) (at : ℕ) → place_behind front ts ≡ Some at → PassesAt (front ++ ts) at
passes_behind front [] at h = let no : ⊥ = cc in absurd no
passes_behind front (t ∷ ts) at h = rw (← append_assoc front (t ∷ []) ts) (place_or_on front ts t at (passes_limit front t) refl h (λ k. passes_behind (front ++ t ∷ []) ts at k))

pub passes_at : (tokens : List Token) (at : ℕ) → limit_place tokens ≡ Some at → PassesAt tokens at
passes_at tokens at h = passes_behind [] tokens at h
