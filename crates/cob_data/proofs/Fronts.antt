-- What is left of a list at a place, and the first fault so far.
use Rattle.std.proofs.Common.{◌≡◌, ◌<◌, ℕ, ◌+◌, List, [], ◌∷◌, ◌++◌, length, get_or, drop, Option, refl, sym, ap, ◌∙◌}
use Rattle.std.proofs.lemmas.List.{drop-drop, drop_more}
use Rattle.cob_lex.specs.declared.fault.SourceFault.{SourceFault}
use Rattle.cob_forms.specs.Faults.{earlier, first}
use Rattle.cob_forms.proofs.Order.{grouped}

pub front_at : {A : Type 0} (xs : List A) (i : ℕ) (x : A) → i < length xs → x ≡ get_or xs i x → drop i xs ≡ x ∷ drop (i + 1) xs
front_at xs i x within at_place = drop_more xs i x within ∙ ap (λ y. y ∷ drop (i + 1) xs) (sym at_place)

-- the first fault so far, with what the front of what is left adds to it
pub front_taken : {A : Type 0} (faults_of : List A → List SourceFault) (found here whole : Option SourceFault) (xs back : List A) (i : ℕ) → back ≡ drop i xs
    → earlier here (first (faults_of (drop 1 back))) ≡ first (faults_of back) → earlier found (first (faults_of (drop i xs))) ≡ whole → earlier (earlier found here) (first (faults_of (drop (i + 1) xs))) ≡ whole
front_taken faults_of found here whole xs back i behind front left =
    let others : drop (i + 1) xs ≡ drop 1 back = sym (ap (drop 1) behind ∙ drop-drop 1 i xs) in
    ap (λ ys. earlier (earlier found here) (first (faults_of ys))) others
    ∙ sym (grouped found here (first (faults_of (drop 1 back))))
    ∙ ap (earlier found) front
    ∙ ap (λ ys. earlier found (first (faults_of ys))) behind
    ∙ left

pub nothing_behind : {A : Type 0} (xs : List A) → xs ++ [] ≡ xs
nothing_behind [] = refl
nothing_behind (x ∷ xs) = ap (λ ys. x ∷ ys) (nothing_behind xs)
