-- The first fault of lists one after another.
use Rattle.std.proofs.Common.{◌≡◌, ℕ, ◌+◌, ◌<◌, List, ◌++◌, length, map, drop, get_or, Option, sym, ap, ◌∙◌}
use Rattle.std.specs.Prelude.{flat_map}
use Rattle.std.proofs.lemmas.List.{drop_more}
use Rattle.cob_lex.specs.declared.fault.SourceFault.{SourceFault}
use Rattle.cob_forms.specs.Faults.{earlier, first}
use Rattle.cob_forms.proofs.Order.{first-append, grouped}

pub of_two : (a b : List SourceFault) → first (a ++ b) ≡ earlier (first a) (first b)
of_two a b = first-append a b

pub of_three : (a b c : List SourceFault) → first (a ++ b ++ c) ≡ earlier (earlier (first a) (first b)) (first c)
of_three a b c = first-append (a ++ b) c ∙ ap (λ o. earlier o (first c)) (of_two a b)

pub of_four : (a b c d : List SourceFault) → first (a ++ b ++ c ++ d) ≡ earlier (earlier (earlier (first a) (first b)) (first c)) (first d)
of_four a b c d = first-append (a ++ b ++ c) d ∙ ap (λ o. earlier o (first d)) (of_three a b c)

-- ONE PART AFTER ANOTHER

one_more : (found o : Option SourceFault) (here others : List SourceFault) → o ≡ first here → earlier (earlier found o) (first others) ≡ earlier found (first (here ++ others))
one_more found o here others e = ap (λ x. earlier (earlier found x) (first others)) e ∙ sym (grouped found (first here) (first others)) ∙ ap (earlier found) (sym (first-append here others))

pub next_in : {X Y : Type 0} (h : X → Y) (f : Y → List SourceFault) (xs : List X) (i : ℕ) (x : X) (found o after total : Option SourceFault) → i < length xs → x ≡ get_or xs i x → o ≡ first (f (h x)) → after ≡ earlier found o
    → earlier found (first (flat_map f (map h (drop i xs)))) ≡ total → earlier after (first (flat_map f (map h (drop (i + 1) xs)))) ≡ total
next_in h f xs i x found o after total lt is e last all =
    ap (λ a. earlier a (first (flat_map f (map h (drop (i + 1) xs))))) last
    ∙ one_more found o (f (h (get_or xs i x))) (flat_map f (map h (drop (i + 1) xs))) (e ∙ ap (λ y. first (f (h y))) is)
    ∙ ap (λ l. earlier found (first (flat_map f (map h l)))) (sym (drop_more xs i x lt)) ∙ all

-- one more element, by its place
pub next_at : {X : Type 0} (f : X → List SourceFault) (xs : List X) (i : ℕ) (d : X) (found o after total : Option SourceFault) → i < length xs → o ≡ first (f (get_or xs i d)) → after ≡ earlier found o
    → earlier found (first (flat_map f (drop i xs))) ≡ total → earlier after (first (flat_map f (drop (i + 1) xs))) ≡ total
next_at f xs i d found o after total lt e last all =
    ap (λ a. earlier a (first (flat_map f (drop (i + 1) xs)))) last
    ∙ one_more found o (f (get_or xs i d)) (flat_map f (drop (i + 1) xs)) e
    ∙ ap (λ l. earlier found (first (flat_map f l))) (sym (drop_more xs i d lt)) ∙ all

pub next_of : {X : Type 0} (f : X → List SourceFault) (xs : List X) (i : ℕ) (x : X) (found o after total : Option SourceFault) → i < length xs → x ≡ get_or xs i x → o ≡ first (f x) → after ≡ earlier found o
    → earlier found (first (flat_map f (drop i xs))) ≡ total → earlier after (first (flat_map f (drop (i + 1) xs))) ≡ total
next_of f xs i x found o after total lt is e last all =
    ap (λ a. earlier a (first (flat_map f (drop (i + 1) xs)))) last
    ∙ one_more found o (f (get_or xs i x)) (flat_map f (drop (i + 1) xs)) (e ∙ ap (λ y. first (f y)) is)
    ∙ ap (λ l. earlier found (first (flat_map f l))) (sym (drop_more xs i x lt)) ∙ all
