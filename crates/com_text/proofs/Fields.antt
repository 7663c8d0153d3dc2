-- Names in their fields of 12 characters.
use Rattle.std.proofs.Common.{◌≡◌, ℕ, zero, suc, ◌-◌, ◌≤◌, true, false, List, [], ◌∷◌, ◌++◌, length, take, drop, refl, sym, ap, ◌∙◌, arith}
use Rattle.std.specs.List.{list_all, list_any, prefix_len}
use Rattle.std.proofs.lemmas.Bool.{and_parts, or_parts}
use Rattle.std.proofs.lemmas.Bool.Decides.{nat_tests}
use Rattle.std.proofs.lemmas.List.Sums.{take_while-cons}
use Rattle.std.proofs.lemmas.List.Folds.{length-prefix_len}
use Rattle.std.proofs.lemmas.List.{drop-replicate, length-append, length-replicate, length-take-le, length-drop, take-append-drop, take_at, drop_at}
use Rattle.com_text.specs.Name.{IsName, is_name_byte, is_character, spaces, field_of, before_space}

-- no byte of a name is a space
is_character-name_byte : (byte : ℕ) → is_name_byte byte ≡ true → is_character byte ≡ true
is_character-name_byte byte h = grind (arith, nat_tests)

-- what stands before the first space of a name and spaces is the name
before_space-append : (name : List ℕ) (n : ℕ) → list_all is_name_byte name ≡ true → before_space (name ++ spaces n) ≡ name
before_space-append [] zero h = refl
before_space-append [] (suc n) h = refl
before_space-append (x ∷ xs) n h =
    let p = and_parts (is_name_byte x) (list_all is_name_byte xs) h in
    let e = is_character-name_byte x p.0 in
    let rest = before_space-append xs n p.1 in
    take_while-cons is_character x (xs ++ spaces n) ∙ rw e (ap (λ ys. x ∷ ys) rest)

-- the bytes of a name are a name's bytes, of which there are one to 12
bytes-name : (name : List ℕ) → IsName name → list_all is_name_byte name ≡ true
bytes-name name h = grind (arith, nat_tests)

pub length-name : (name : List ℕ) → IsName name → (1 ≤ length name) × (length name ≤ 12)
length-name name h = grind (arith, nat_tests)

-- a name's field gives the name back
pub before_space-field_of : (name : List ℕ) → IsName name → before_space (field_of name) ≡ name
before_space-field_of name h = before_space-append name _ (bytes-name name h)

-- a name's field has 12 characters
pub length-field_of : (name : List ℕ) → IsName name → length (field_of name) ≡ 12
length-field_of name h =
    let short = length-name name h in
    simp (length-append, length-replicate) (omega arith)

-- a name written over the beginning of twelve spaces makes its field
pub field_of-written : (name : List ℕ) → IsName name → name ++ drop (length name) (spaces 12) ≡ field_of name
field_of-written name h =
    let short = (length-name name h).1 in
    ap (λ s. name ++ s) (drop-replicate (length name) 12 32)

-- two names with one field are one name
pub field_of_injective : (a b : List ℕ) → IsName a → IsName b → field_of a ≡ field_of b → a ≡ b
field_of_injective a b h k e = sym (before_space-field_of a h) ∙ (ap before_space e ∙ before_space-field_of b k)

-- no field is a prefix of another
pub field_of_front : (a b x y : List ℕ) → IsName a → IsName b → field_of a ++ x ≡ field_of b ++ y → (a ≡ b) × (x ≡ y)
field_of_front a b x y h k e =
    let fa = length-field_of a h in
    let fb = length-field_of b k in
    let front : field_of a ≡ field_of b = sym (take_at (field_of a) x 12 fa) ∙ (ap (take 12) e ∙ take_at (field_of b) y 12 fb) in
    let rest : x ≡ y = sym (drop_at (field_of a) x 12 fa) ∙ (ap (drop 12) e ∙ drop_at (field_of b) y 12 fb) in
    (field_of_injective a b h k front, rest)

-- only spaces follow a name in its field
prefix_len-field_of : (name : List ℕ) → IsName name → prefix_len is_character (field_of name) ≡ length name
prefix_len-field_of name h =
    sym (length-prefix_len is_character (field_of name)) ∙ ap length (before_space-field_of name h)

pub list_any-spaces : (n : ℕ) → list_any is_character (spaces n) ≡ false
list_any-spaces zero = refl
list_any-spaces (suc n) = list_any-spaces n

pub after_name : (name field : List ℕ) → IsName name → field ≡ field_of name
    → (prefix_len is_character field ≡ length name) × (list_any is_character (drop (prefix_len is_character field) field) ≡ false)
after_name name field h e =
    let front = prefix_len-field_of name h in
    rw (e, front, drop_at name (spaces (12 - length name)) (length name) refl) (refl, list_any-spaces (12 - length name))

-- characters that only spaces follow are a field of what stands before the spaces
pub only_spaces : (xs : List ℕ) → list_any is_character xs ≡ false → xs ≡ spaces (length xs)
only_spaces [] h = refl
only_spaces (x ∷ xs) h =
    let p = or_parts (is_character x) (list_any is_character xs) h in
    let e : x ≡ 32 = grind (arith, nat_tests) in
    rw (← only_spaces xs p.1) (ap (λ y. y ∷ xs) e)

pub field_of-before : (field : List ℕ) (n : ℕ) → length field ≡ 12 → n ≤ 12 → list_any is_character (drop n field) ≡ false → field ≡ field_of (take n field)
field_of-before field n twelve le h =
    let short : length (take n field) ≡ n = length-take-le n field (omega arith) in
    let rest : length (drop n field) ≡ 12 - n = length-drop n field ∙ ap (λ m. m - n) twelve in
    sym (take-append-drop n field) ∙ ap (λ r. take n field ++ r) (only_spaces (drop n field) h ∙ rw (rest, short) refl)
