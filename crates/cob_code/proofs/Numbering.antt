-- Names and their numbers, one name after another.
use Rattle.std.proofs.Common.{◌≡◌, ℕ, ◌+◌, ◌<◌, Bool, true, false, cond, Bor, List, [], ◌∷◌, ◌++◌, length, map, take, get_or, Option, Some, None, refl, sym, ap, ◌∙◌, arith}
use Rattle.std.specs.Str.{bytes_eq}
use Rattle.std.proofs.lemmas.List.{map-append, take_more}
use Rattle.std.specs.List.{position_from}
use Rattle.std.specs.Map.{lookup}
use Rattle.std.proofs.lemmas.Slice.Eq.{bytes_eq-Decides}
use Rattle.cob_code.specs.inner.Numbers.{number_in}

abbrev pick : {A : Type 0} → Option A → Option A → Option A
pick None other = other
pick (Some x) other = Some x

-- one more at the end
position_push : {K : Type 0} (p : K → Bool) (i n : ℕ) (xs : List K) (y : K) → n ≡ i + length xs → position_from p i (xs ++ y ∷ []) ≡ pick (position_from p i xs) (cond (p y) (Some n) None)
position_push p i n [] y e = let same : n ≡ i = omega (arith, e) in ap (λ k. cond (p y) (Some k) None) (sym same)
position_push p i n (x ∷ xs) y e = by (p x) (position_push p (i + 1) n xs y (omega (arith, e)))
  where
    by : (b : Bool) → position_from p (i + 1) (xs ++ y ∷ []) ≡ pick (position_from p (i + 1) xs) (cond (p y) (Some n) None) → cond b (Some i) (position_from p (i + 1) (xs ++ y ∷ [])) ≡ pick (cond b (Some i) (position_from p (i + 1) xs)) (cond (p y) (Some n) None)
    by true h = refl
    by false h = h

lookup_push : {K X : Type 0} (test : K → Bool) (es : List (K × X)) (k : K) (v : X) → lookup test (es ++ (k, v) ∷ []) ≡ pick (lookup test es) (cond (test k) (Some v) None)
lookup_push test [] k v = refl
lookup_push test (e ∷ es) k v = by (test e.0) (lookup_push test es k v)
  where
    by : (b : Bool) → lookup test (es ++ (k, v) ∷ []) ≡ pick (lookup test es) (cond (test k) (Some v) None) → cond b (Some e.1) (lookup test (es ++ (k, v) ∷ [])) ≡ pick (cond b (Some e.1) (lookup test es)) (cond (test k) (Some v) None)
    by true h = refl
    by false h = h

pub same_way : (a b : List ℕ) → bytes_eq a b ≡ bytes_eq b a
same_way a b = by (bytes_eq a b) (bytes_eq b a) refl refl
  where
    by : (x y : Bool) → bytes_eq a b ≡ x → bytes_eq b a ≡ y → x ≡ y
    by true true h g = refl
    by false false h g = refl
    by true false h g = let e : bytes_eq b a ≡ true = (bytes_eq-Decides b a).1 (sym ((bytes_eq-Decides a b).0 h)) in cc
    by false true h g = let e : bytes_eq a b ≡ true = (bytes_eq-Decides a b).1 (sym ((bytes_eq-Decides b a).0 g)) in cc

-- a name that is new
pub gets_number : (old new : List (Bor (List ℕ) × ℕ)) (names : List (List ℕ)) (name : Bor (List ℕ)) (n : ℕ) → length names ≡ n → new ≡ old ++ (name, n) ∷ []
    → ((text : List ℕ) → lookup (λ other. bytes_eq text other.now) old ≡ number_in names text) → (text : List ℕ) → lookup (λ other. bytes_eq text other.now) new ≡ number_in (names ++ name.now ∷ []) text
gets_number old new names name n len e numbered text =
    ap (lookup (λ other. bytes_eq text other.now)) e ∙ lookup_push (λ other. bytes_eq text other.now) old name n
    ∙ ap (λ o. pick o (cond (bytes_eq text name.now) (Some n) None)) (numbered text)
    ∙ ap (λ b. pick (number_in names text) (cond b (Some n) None)) (same_way text name.now)
    ∙ sym (position_push (λ other. bytes_eq other text) 0 n names name.now (omega (arith, len)))

-- a name that has a number
pub stays_numbered : (entries : List (Bor (List ℕ) × ℕ)) (names : List (List ℕ)) (name : List ℕ) (v : ℕ) → lookup (λ other. bytes_eq name other.now) entries ≡ Some v
    → ((text : List ℕ) → lookup (λ other. bytes_eq text other.now) entries ≡ number_in names text) → (text : List ℕ) → lookup (λ other. bytes_eq text other.now) entries ≡ number_in (names ++ name ∷ []) text
stays_numbered entries names name v there numbered text =
    numbered text ∙ by (number_in names text) (bytes_eq name text) refl refl ∙ sym (position_push (λ other. bytes_eq other text) 0 (length names) names name (omega arith))
  where
    by : (o : Option ℕ) (b : Bool) → number_in names text ≡ o → bytes_eq name text ≡ b → o ≡ pick o (cond b (Some (length names)) None)
    by (Some k) b h g = refl
    by None false h g = refl
    by None true h g =
        let same : name ≡ text = (bytes_eq-Decides name text).0 g in
        let found : number_in names text ≡ Some v = sym (numbered text) ∙ ap (λ t. lookup (λ other. bytes_eq t other.now) entries) (sym same) ∙ there in
        cc

-- the names up to a place and the one there
pub one_more : (names : List (Bor (List ℕ))) (at : ℕ) (d : Bor (List ℕ)) → at < length names → map (λ name. name.now) (take (at + 1) names) ≡ map (λ name. name.now) (take at names) ++ (get_or names at d).now ∷ []
one_more names at d lt = ap (map (λ name. name.now)) (take_more names at d lt) ∙ map-append (λ name. name.now) (take at names) (get_or names at d ∷ [])
