-- Paths of names in fields one after another.
use Rattle.std.proofs.Common.{◌≡◌, ℕ, zero, suc, ◌+◌, ◌-◌, ◌*◌, ◌≤◌, true, false, List, [], ◌∷◌, ◌++◌, length, take, drop, refl, sym, ap, ◌∙◌, arith}
use Rattle.std.specs.List.{All, flat_map, list_any}
use Rattle.std.proofs.lemmas.Bool.{false≢true}
use Rattle.std.proofs.lemmas.Bool.Decides.{nat_tests}
use Rattle.std.proofs.lemmas.List.{append_assoc, take_at, take-append-drop, flat_map_more}
use Rattle.std.proofs.lemmas.List.Elements.{All-head, All-tail}
use Rattle.com_text.specs.Name.{IsName, is_character, spaces, field_of}
use Rattle.com_text.proofs.Fields.{length-field_of, field_of_front, list_any-spaces, only_spaces}
use Rattle.com_cd.specs.Designation.{Designates}

-- the fields of a path's names, one after another
abbrev fields_of : List (List ℕ) → List ℕ
fields_of names = flat_map field_of names

-- the first field stands before the others
first_field : (a : List ℕ) (path : List (List ℕ)) (below : List ℕ)
    → fields_of (a ∷ path) ++ below ≡ field_of a ++ (fields_of path ++ below)
first_field a path below = append_assoc (field_of a) (fields_of path) below

-- no name's field is a prefix of spaces
name_no_spaces : (name x : List ℕ) (n : ℕ) → IsName name → field_of name ++ x ≡ spaces n → ⊥
name_no_spaces [] x n h e = false≢true h
name_no_spaces (b ∷ bs) x zero h e = cc
name_no_spaces (b ∷ bs) x (suc n) h e =
    let byte : b ≡ 32 = cc in
    grind (arith, nat_tests)

-- two paths with the same fields are one path
same_path : (path other : List (List ℕ)) (m n : ℕ) → All IsName path → All IsName other
    → fields_of path ++ spaces m ≡ fields_of other ++ spaces n → path ≡ other
same_path [] [] m n p q e = refl
same_path [] (b ∷ bs) m n p q e =
    absurd (name_no_spaces b _ m (All-head IsName b bs q) (sym (first_field b bs (spaces n)) ∙ sym e))
same_path (a ∷ cs) [] m n p q e =
    absurd (name_no_spaces a _ n (All-head IsName a cs p) (sym (first_field a cs (spaces m)) ∙ e))
same_path (a ∷ cs) (b ∷ bs) m n p q e =
    let same = sym (first_field a cs (spaces m)) ∙ (e ∙ first_field b bs (spaces n)) in
    let parts = field_of_front a b _ _ (All-head IsName a cs p) (All-head IsName b bs q) same in
    let rest = same_path cs bs m n (All-tail IsName a cs p) (All-tail IsName b bs q) parts.1 in
    rw (parts.0, rest) refl

-- where characters are left below the beginning of a path, a name's field is next
next_name : (path other : List (List ℕ)) (below : List ℕ) (n : ℕ) → All IsName path → All IsName other
    → fields_of path ++ below ≡ fields_of other ++ spaces n → list_any is_character below ≡ true
    → ((name : List ℕ) → IsName name → take 12 below ≡ field_of name → ⊥) → ⊥
next_name [] [] below n p q e some none =
    false≢true (sym (list_any-spaces n) ∙ (ap (list_any is_character) (sym e) ∙ some))
next_name [] (b ∷ bs) below n p q e some none =
    let h = All-head IsName b bs q in
    none b h (ap (take 12) (e ∙ first_field b bs (spaces n)) ∙ take_at (field_of b) _ 12 (length-field_of b h))
next_name (a ∷ cs) [] below n p q e some none =
    name_no_spaces a _ n (All-head IsName a cs p) (sym (first_field a cs below) ∙ e)
next_name (a ∷ cs) (b ∷ bs) below n p q e some none =
    let same = sym (first_field a cs below) ∙ (e ∙ first_field b bs (spaces n)) in
    let parts = field_of_front a b _ _ (All-head IsName a cs p) (All-head IsName b bs q) same in
    next_name cs bs below n (All-tail IsName a cs p) (All-tail IsName b bs q) parts.1 some none

-- an area names one path at most
pub only_path : (area : List ℕ) (path other : List (List ℕ)) → Designates area path → Designates area other → path ≡ other
only_path area path other p q = same_path path other _ _ p.names q.names (sym p.fields ∙ q.fields)

-- an area that names a path begins with a name's field
pub first_name : (area : List ℕ) (path : List (List ℕ)) → Designates area path
    → ((name : List ℕ) → IsName name → take 12 (take 48 area) ≡ field_of name → ⊥) → ⊥
first_name area [] d none = absurd (omega (arith, d.some))
first_name area (a ∷ cs) d none =
    let h = All-head IsName a cs d.names in
    none a h (ap (take 12) (d.fields ∙ first_field a cs _) ∙ take_at (field_of a) _ 12 (length-field_of a h))

-- an area with characters below the beginning of a path, and no name's field next, names no path
pub no_path : (area below : List ℕ) (path other : List (List ℕ)) → All IsName path → fields_of path ++ below ≡ take 48 area
    → list_any is_character below ≡ true → ((name : List ℕ) → IsName name → take 12 below ≡ field_of name → ⊥)
    → Designates area other → ⊥
no_path area below path other p e some none d = next_name path other below _ p d.names (e ∙ d.fields) some none

-- one more name moves from what is below a path to its end
pub longer_path : (path : List (List ℕ)) (below name : List ℕ) → take 12 below ≡ field_of name
    → fields_of (path ++ name ∷ []) ++ drop 12 below ≡ fields_of path ++ below
longer_path path below name e =
    let more = flat_map_more field_of [] path name in
    ap (λ front. front ++ drop 12 below) (sym more) ∙ (append_assoc (fields_of path) (field_of name) (drop 12 below)
    ∙ ap (λ rest. fields_of path ++ rest) (ap (λ front. front ++ drop 12 below) (sym e) ∙ take-append-drop 12 below))

-- a path with only spaces below it is the one that the area names
pub whole_path : (area below : List ℕ) (path : List (List ℕ)) → 1 ≤ length path → All IsName path
    → 12 * length path + length below ≡ 48 → fields_of path ++ below ≡ take 48 area
    → list_any is_character below ≡ false → Designates area path
whole_path area below path some names room fields none =
    let width : length below ≡ 48 - 12 * length path = omega arith in
    record {
      some = some;
      few = omega arith;
      names = names;
      fields = sym fields ∙ ap (λ rest. fields_of path ++ rest) (only_spaces below none ∙ ap spaces width);
    }
