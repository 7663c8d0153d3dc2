-- Fronts of lists, and the items of one owner in them.
use Rattle.std.proofs.Common.{◌≡◌, ◌≢◌, ◌==◌, ℕ, ◌≤◌, Bool, true, false, cond, nat_lt, List, [], ◌∷◌, ◌++◌, length, drop, filter, sym, refl, ap, ◌∙◌, arith, append_assoc, length-append, eq-eqb, ne_eqb}
use Rattle.std.proofs.lemmas.List.{append-nil, drop-append-le}
use Rattle.std.proofs.lemmas.Bool.{ltb-true}
use Rattle.std.proofs.lemmas.List.Elements.{filter-append}
use Rattle.com_turn.specs.Histories.{IsPrefixOf, items_of, HasSeen, longer}
use Rattle.com_turn.proofs.Lists.{cons-nil}

module _ {X : Type 0} where
  pub prefix_refl : (xs ys : List X) → xs ≡ ys → IsPrefixOf xs ys
  prefix_refl xs ys e = ([], sym e ∙ sym (append-nil xs))

  pub prefix_trans : (xs ys zs : List X) → IsPrefixOf xs ys → IsPrefixOf ys zs → IsPrefixOf xs zs
  prefix_trans xs ys zs a b = (a.0 ++ b.0, b.1 ∙ (ap (λ l. l ++ b.0) a.1 ∙ append_assoc xs a.0 b.0))

  pub prefix_more : (xs ys : List X) (x : X) → IsPrefixOf xs ys → IsPrefixOf xs (ys ++ x ∷ [])
  prefix_more xs ys x a = prefix_trans xs ys (ys ++ x ∷ []) a (x ∷ [], refl)

  pub prefix_length : (xs ys : List X) → IsPrefixOf xs ys → length xs ≤ length ys
  prefix_length xs ys a = let e = ap length a.1 in let f = length-append xs a.0 in omega (arith, e, f)

  nil_of_length : (xs : List X) → length xs ≤ 0 → xs ≡ []
  nil_of_length [] h = refl
  nil_of_length (x ∷ xs) h = absurd (omega (arith, h))

  -- two lists that begin each other are one
  pub prefix_same : (xs ys : List X) → IsPrefixOf xs ys → length ys ≤ length xs → xs ≡ ys
  prefix_same xs ys a le =
      let e = ap length a.1 in let f = length-append xs a.0 in
      let none : a.0 ≡ [] = nil_of_length a.0 (omega (arith, e, f, le)) in
      sym (a.1 ∙ (ap (λ l. xs ++ l) none ∙ append-nil xs))

  head_tail : (x y : X) (xs ys : List X) → x ∷ xs ≡ y ∷ ys → (x ≡ y) × (xs ≡ ys)
  head_tail x y xs ys e = (cc, cc)

  -- of two fronts of one list the shorter begins the longer
  pub prefix_of_longer : (xs ys zs : List X) → IsPrefixOf xs zs → IsPrefixOf ys zs → length xs ≤ length ys → IsPrefixOf xs ys
  prefix_of_longer [] ys zs a b le = (ys, refl)
  prefix_of_longer (x ∷ xs) [] zs a b le = absurd (omega (arith, le))
  prefix_of_longer (x ∷ xs) (y ∷ ys) [] a b le = absurd (cons-nil x (xs ++ a.0) (sym a.1))
  prefix_of_longer (x ∷ xs) (y ∷ ys) (z ∷ zs) a b le =
      let p = head_tail z x zs (xs ++ a.0) a.1 in let q = head_tail z y zs (ys ++ b.0) b.1 in
      let rest = prefix_of_longer xs ys zs (a.0, p.1) (b.0, q.1) (omega (arith, le)) in
      (rest.0, λ k. (sym q.0 ∙ p.0) k ∷ rest.1 k)

  -- the longer of two lists has what both have
  pub longer_has : (P : List X → Type 0) (xs ys : List X) → P xs → P ys → P (longer xs ys)
  longer_has P xs ys p q = go (nat_lt (length xs) (length ys))
    where
      go : (b : Bool) → P (cond b ys xs)
      go true = q
      go false = p

module _ {X : Type 0} (owner : X → ℕ) (party past : ℕ) where
  items_of-append : (xs ys : List X) → past ≤ length xs → items_of owner party past (xs ++ ys) ≡ items_of owner party past xs ++ filter (λ x. owner x == party) ys
  items_of-append xs ys le = ap (filter (λ x. owner x == party)) (drop-append-le past xs ys le) ∙ filter-append (λ x. owner x == party) (drop past xs) ys

  pub items_of-own : (xs : List X) (x : X) → past ≤ length xs → owner x ≡ party → items_of owner party past (xs ++ x ∷ []) ≡ items_of owner party past xs ++ x ∷ []
  items_of-own xs x le e = items_of-append xs (x ∷ []) le ∙ ap (λ (b : Bool). items_of owner party past xs ++ cond b (x ∷ []) []) (eq-eqb (owner x) party e)

  pub items_of-other : (xs : List X) (x : X) → past ≤ length xs → owner x ≢ party → items_of owner party past (xs ++ x ∷ []) ≡ items_of owner party past xs
  items_of-other xs x le ne =
      items_of-append xs (x ∷ []) le ∙ (ap (λ (b : Bool). items_of owner party past xs ++ cond b (x ∷ []) []) (ne_eqb (owner x) party ne) ∙ append-nil (items_of owner party past xs))

  pub items_of-prefix : (xs ys : List X) → past ≤ length xs → IsPrefixOf xs ys → IsPrefixOf (items_of owner party past xs) (items_of owner party past ys)
  items_of-prefix xs ys le a = (filter (λ x. owner x == party) a.0, ap (items_of owner party past) a.1 ∙ items_of-append xs a.0 le)

  pub seen_all : (whole seen : List X) → seen ≡ whole → HasSeen owner party past whole seen
  seen_all whole seen e = record { front = prefix_refl seen whole e; own = ap (items_of owner party past) e }

  -- the whole grows by an item of another owner
  pub seen_other : (whole seen : List X) (x : X) → past ≤ length whole → owner x ≢ party → HasSeen owner party past whole seen → HasSeen owner party past (whole ++ x ∷ []) seen
  seen_other whole seen x le ne h = record { front = prefix_more seen whole x h.front; own = h.own ∙ sym (items_of-other whole x le ne) }

  -- nothing is its own
  pub seen_none : (whole seen : List X) → past ≤ length seen → IsPrefixOf seen whole → items_of owner party past whole ≡ [] → HasSeen owner party past whole seen
  seen_none whole seen le a none =
      let b = items_of-prefix seen whole le a in let n : length (items_of owner party past whole) ≡ 0 = ap length none in
      record { front = a; own = prefix_same (items_of owner party past seen) (items_of owner party past whole) b (omega (arith, n)) }

  -- a front behind one that is enough is enough too
  seen_further : (whole seen more : List X) → past ≤ length seen → length seen ≤ length more → IsPrefixOf more whole → HasSeen owner party past whole seen → HasSeen owner party past whole more
  seen_further whole seen more le far a h =
      let b = items_of-prefix seen more le (prefix_of_longer seen more whole h.front a far) in
      let c = prefix_length (items_of owner party past seen) (items_of owner party past more) b in
      let n = ap length h.own in
      record { front = a; own = prefix_same (items_of owner party past more) (items_of owner party past whole) (items_of-prefix more whole (omega (arith, le, far)) a) (omega (arith, c, n)) }

  pub seen_longer : (whole seen other : List X) → past ≤ length seen → IsPrefixOf other whole → HasSeen owner party past whole seen → HasSeen owner party past whole (longer seen other)
  seen_longer whole seen other le a h = go (nat_lt (length seen) (length other)) refl
    where
      go : (b : Bool) → nat_lt (length seen) (length other) ≡ b → HasSeen owner party past whole (cond b other seen)
      go true e = seen_further whole seen other le (let lt = ltb-true (length seen) (length other) e in omega (arith, lt)) a h
      go false e = h
