-- Fields one after another, each after a space.
use Rattle.std.proofs.Common.{◌≡◌, ℕ, ◌+◌, ◌<◌, List, [], ◌∷◌, ◌++◌, length, map, get_or, take, refl, sym, ap, ◌∙◌, append_assoc}
use Rattle.std.proofs.lemmas.List.{append-nil, map-append, take_more}
use Rattle.com_journal.specs.Lines.{spaced}
use Rattle.com_journal.specs.inner.Writing.{written}

-- fields, and then these bytes
abbrev pub spelled : List (List ℕ) → List ℕ → List ℕ
spelled [] rest = rest
spelled (field ∷ fields) rest = 32 ∷ (field ++ spelled fields rest)

pub spelled-append : (a b : List (List ℕ)) (rest : List ℕ) → spelled (a ++ b) rest ≡ spelled a (spelled b rest)
spelled-append [] b rest = refl
spelled-append (field ∷ a) b rest = ap (λ xs. 32 ∷ (field ++ xs)) (spelled-append a b rest)

-- the bytes after fields come after them
pub spelled-rest : (fields : List (List ℕ)) (rest : List ℕ) → spelled fields [] ++ rest ≡ spelled fields rest
spelled-rest [] rest = refl
spelled-rest (field ∷ fields) rest =
    ap (λ xs. 32 ∷ xs) (append_assoc field (spelled fields []) rest ∙ ap (λ xs. field ++ xs) (spelled-rest fields rest))

-- fields with one space between two
pub spaced-spelled : (field : List ℕ) (fields : List (List ℕ)) → spaced (field ∷ fields) ≡ field ++ spelled fields []
spaced-spelled field [] = sym (append-nil field)
spaced-spelled field (next ∷ fields) = ap (λ xs. field ++ 32 ∷ xs) (spaced-spelled next fields)

-- fields that are written one after another
pub written-spelled : (bytes : List ℕ) (fields : List (List ℕ)) → written bytes fields ≡ bytes ++ spelled fields []
written-spelled bytes [] = sym (append-nil bytes)
written-spelled bytes (field ∷ fields) =
    written-spelled (bytes ++ 32 ∷ field) fields ∙ append_assoc bytes (32 ∷ field) (spelled fields [])

pub written-append : (bytes : List ℕ) (a b : List (List ℕ)) → written bytes (a ++ b) ≡ written (written bytes a) b
written-append bytes [] b = refl
written-append bytes (field ∷ a) b = written-append (bytes ++ 32 ∷ field) a b

-- one more field after those so far
pub written_more : {A : Type 0} (bytes : List ℕ) (field : A → List ℕ) (xs : List A) (i : ℕ) (x d : A) → i < length xs → x ≡ get_or xs i d
    → written bytes (map field (take (i + 1) xs)) ≡ written bytes (map field (take i xs)) ++ 32 ∷ field x
written_more bytes field xs i x d within is =
    rw (take_more xs i d within, ← is, map-append field (take i xs) (x ∷ [])) (written-append bytes (map field (take i xs)) (field x ∷ []))
