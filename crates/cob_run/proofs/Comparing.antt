-- Two sides that are compared by characters, from the left.
use Rattle.std.proofs.Common.{◌≡◌, ℕ, ◌+◌, ◌-◌, ◌<◌, ◌≤◌, min, max, Bool, true, false, cond, List, [], ◌∷◌, ◌++◌, length, take, drop, get_or, replicate, refl, sym, ap, ◌∙◌, subst, arith, ⊎_elim, rules, tests}
use Rattle.std.specs.Prelude.{nat_lt}
use Rattle.std.proofs.lemmas.Bool.{cases_lt}
use Rattle.std.proofs.lemmas.List.{drop_more, drop_all, length-replicate, length-append, length-take, get_or-take, get_or_append_left, get_or-append_right, get_or-replicate, get_or_past, get_or_default}
use Rattle.com_text.specs.Name.{spaces}
use Rattle.cob_proc.specs.declared.tree.Relation.{Relation}
use Rattle.cob_proc.specs.declared.tree.Relation.TheVariants as relation
use Rattle.cob_meaning.specs.Conditions.{character_order, number_relation, own_length, side_characters, text_relation, then_relation}
use Rattle.cob_meaning.specs.Moves.{Content, a_number, a_text, a_group, all_spaces, all_zeros, from_left}

-- the characters of a side
abbrev pub side : Content → Content → List ℕ
side one other = side_characters (own_length other) one

-- how many characters are compared
abbrev pub size_of : Content → Content → ℕ
size_of left right = max (length (side left right)) (length (side right left))

-- what is left of both sides, from a place on
abbrev pub rest : Content → Content → ℕ → Relation
rest left right at =
    text_relation (drop at (from_left (size_of left right) (side left right))) (drop at (from_left (size_of left right) (side right left)))

longest : (n m : ℕ) → max n m ≡ max m n
longest n m = omega arith

-- SPACES and ZEROS are as long as the other side
figure_left : (n k : ℕ) → k ≡ n → max k n ≡ max 0 n
figure_left n k e = omega (arith, e)

figure_right : (n k : ℕ) → k ≡ n → max n k ≡ max n 0
figure_right n k e = omega (arith, e)

pub same_size : (left right : Content) → size_of left right ≡ max (own_length left) (own_length right)
same_size (a_number l) (a_number r) = refl
same_size (a_number l) (a_text r) = refl
same_size (a_number l) (a_group r) = refl
same_size (a_number l) all_spaces = figure_right (length l) _ (length-replicate (length l) 32)
same_size (a_number l) all_zeros = figure_right (length l) _ (length-replicate (length l) 48)
same_size (a_text l) (a_number r) = refl
same_size (a_text l) (a_text r) = refl
same_size (a_text l) (a_group r) = refl
same_size (a_text l) all_spaces = figure_right (length l) _ (length-replicate (length l) 32)
same_size (a_text l) all_zeros = figure_right (length l) _ (length-replicate (length l) 48)
same_size (a_group l) (a_number r) = refl
same_size (a_group l) (a_text r) = refl
same_size (a_group l) (a_group r) = refl
same_size (a_group l) all_spaces = figure_right (length l) _ (length-replicate (length l) 32)
same_size (a_group l) all_zeros = figure_right (length l) _ (length-replicate (length l) 48)
same_size all_spaces (a_number r) = figure_left (length r) _ (length-replicate (length r) 32)
same_size all_spaces (a_text r) = figure_left (length r) _ (length-replicate (length r) 32)
same_size all_spaces (a_group r) = figure_left (length r) _ (length-replicate (length r) 32)
same_size all_spaces all_spaces = refl
same_size all_spaces all_zeros = refl
same_size all_zeros (a_number r) = figure_left (length r) _ (length-replicate (length r) 48)
same_size all_zeros (a_text r) = figure_left (length r) _ (length-replicate (length r) 48)
same_size all_zeros (a_group r) = figure_left (length r) _ (length-replicate (length r) 48)
same_size all_zeros all_spaces = refl
same_size all_zeros all_zeros = refl

-- a character of a side that is filled with spaces
filled_at : (size at : ℕ) (xs : List ℕ) → at < size → get_or (from_left size xs) at 0 ≡ get_or xs at 32
filled_at size at xs lt = get_or-take size (xs ++ spaces size) at 0 lt ∙ ⊎_elim own beyond (cases_lt at (length xs))
  where
    own : at < length xs → get_or (xs ++ spaces size) at 0 ≡ get_or xs at 32
    own h = get_or_append_left xs (spaces size) 0 at h ∙ get_or_default xs at 0 32 h

    beyond : length xs ≤ at → get_or (xs ++ spaces size) at 0 ≡ get_or xs at 32
    beyond h =
        get_or-append_right xs (spaces size) (length xs) at 0 refl h
        ∙ get_or-replicate size (at - length xs) 32 0 (omega arith) ∙ sym (get_or_past xs at 32 h)

filled_long : (size : ℕ) (xs : List ℕ) → length (from_left size xs) ≡ size
filled_long size xs = length-take size (xs ++ spaces size) ∙ (let sp : length (spaces size) ≡ size = length-replicate size 32 in omega (arith, length-append xs (spaces size)))

next_of : (xs : List ℕ) (size at a : ℕ) → at < size → a ≡ get_or xs at 32 → drop at (from_left size xs) ≡ a ∷ drop (at + 1) (from_left size xs)
next_of xs size at a lt e =
    drop_more (from_left size xs) at 0 (let long = filled_long size xs in omega arith)
    ∙ ap (λ x. x ∷ drop (at + 1) (from_left size xs)) (filled_at size at xs lt ∙ sym e)

-- the characters at a place, and then what is left
pub rest_more : (left right : Content) (at a b : ℕ) → at < max (own_length left) (own_length right) → a ≡ get_or (side left right) at 32 → b ≡ get_or (side right left) at 32
    → rest left right at ≡ then_relation (number_relation a b) (rest left right (at + 1))
rest_more left right at a b lt e f =
    let same = same_size left right in
    let within : at < size_of left right = omega arith in
    ap (λ l. text_relation l (drop at (from_left (size_of left right) (side right left)))) (next_of (side left right) (size_of left right) at a within e)
    ∙ ap (λ l. text_relation (a ∷ drop (at + 1) (from_left (size_of left right) (side left right))) l) (next_of (side right left) (size_of left right) at b within f)

-- nothing is left
pub rest_none : (left right : Content) (at : ℕ) → max (own_length left) (own_length right) ≤ at → rest left right at ≡ relation.Equal
rest_none left right at past =
    let same = same_size left right in
    let none_ : drop at (from_left (size_of left right) (side left right)) ≡ [] = drop_all at (from_left (size_of left right) (side left right)) (let long = filled_long (size_of left right) (side left right) in omega arith) in
    ap (λ l. text_relation l (drop at (from_left (size_of left right) (side right left)))) none_

pub less : (a b : ℕ) → a < b → number_relation a b ≡ relation.Less
less a b h = search (rules, tests)

pub greater : (a b : ℕ) → b ≤ a → b < a → number_relation a b ≡ relation.Greater
greater a b h g = search (rules, tests)

pub equal : (a b : ℕ) → b ≤ a → a ≤ b → number_relation a b ≡ relation.Equal
equal a b h g = search (rules, tests)

-- the same, of what was read
module _ (left right : Content) (l r end at a b : ℕ) (whole : Relation) (ls : l ≡ own_length left) (rs : r ≡ own_length right) (es : end ≡ max l r) (so : rest left right at ≡ whole) where
  next : at < end → a ≡ get_or (side_characters r left) at 32 → b ≡ get_or (side_characters l right) at 32
      → then_relation (number_relation a b) (rest left right (at + 1)) ≡ whole
  next lt e f =
      let g : a ≡ get_or (side left right) at 32 = subst (λ n. a ≡ get_or (side_characters n left) at 32) rs e in
      let h : b ≡ get_or (side right left) at 32 = subst (λ n. b ≡ get_or (side_characters n right) at 32) ls f in
      let within : at < max (own_length left) (own_length right) = subst (λ n. at < max n (own_length right)) ls (subst (λ n. at < max l n) rs (subst (λ n. at < n) es lt)) in
      sym (rest_more left right at a b within g h) ∙ so

  pub less_here : at < end → a ≡ get_or (side_characters r left) at 32 → b ≡ get_or (side_characters l right) at 32 → a < b → relation.Less ≡ whole
  less_here lt e f h = sym (ap (λ x. then_relation x (rest left right (at + 1))) (less a b h)) ∙ next lt e f

  pub greater_here : at < end → a ≡ get_or (side_characters r left) at 32 → b ≡ get_or (side_characters l right) at 32 → b ≤ a → b < a → relation.Greater ≡ whole
  greater_here lt e f g h = sym (ap (λ x. then_relation x (rest left right (at + 1))) (greater a b g h)) ∙ next lt e f

  pub equal_here : at < end → a ≡ get_or (side_characters r left) at 32 → b ≡ get_or (side_characters l right) at 32 → b ≤ a → a ≤ b → rest left right (at + 1) ≡ whole
  equal_here lt e f g h = sym (ap (λ x. then_relation x (rest left right (at + 1))) (equal a b g h)) ∙ next lt e f

  pub over : end ≤ at → relation.Equal ≡ whole
  over past =
      let beyond : max (own_length left) (own_length right) ≤ at = subst (λ n. max n (own_length right) ≤ at) ls (subst (λ n. max l n ≤ at) rs (subst (λ n. n ≤ at) es past)) in
      sym (rest_none left right at beyond) ∙ so
