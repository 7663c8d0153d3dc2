-- Tokens without a fault have none of each family.
use Rattle.std.proofs.Common.{◌≡◌, ◌<◌, ℕ, suc, ◌+◌, ◌-◌, Bool, true, false, List, [], ◌∷◌, ◌++◌, length, take, drop, Option, Some, None, refl, sym, ap, ◌∙◌, arith, length-drop}
use Rattle.std.specs.Prelude.{if◌then◌else◌}
use Rattle.cob_lex.specs.declared.fault.SourceFault.{SourceFault}
use Rattle.cob_lex.specs.declared.token.Token.{Token}
use Rattle.cob_forms.specs.Faults.{earlier, first, is_before}
use Rattle.cob_forms.specs.Forms.{ends, reading}
use Rattle.cob_data.specs.Faults.{data_fault, data_faults, faults_by, limits, other_faults, with_procedure}
use Rattle.cob_data.specs.Forms.{data_division, alternatives_of}

pub front_none : {A : Type 0} (xs ys : List A) → xs ++ ys ≡ [] → xs ≡ []
front_none [] ys h = refl
front_none (x ∷ xs) ys h = cc

pub behind_none : {A : Type 0} (xs ys : List A) → xs ++ ys ≡ [] → ys ≡ []
behind_none [] ys h = h
behind_none (x ∷ xs) ys h = cc

some_first : (x : SourceFault) (b : Bool) (y : SourceFault) → (if b then Some y else Some x) ≡ None → ⊥
some_first x true y h = cc
some_first x false y h = cc

not_none : (x : SourceFault) (other : Option SourceFault) → earlier (Some x) other ≡ None → ⊥
not_none x None h = cc
not_none x (Some y) h = some_first x (is_before y x) y h

pub no_fault : (xs : List SourceFault) → first xs ≡ None → xs ≡ []
no_fault [] h = refl
no_fault (x ∷ xs) h = absurd (not_none x (first xs) h)

pub some_fault : (x : SourceFault) → x ∷ [] ≡ [] → ⊥
some_fault x h = cc

faults_of : (ts rest : List Token) → faults_by limits ts (with_procedure (ends rest)) ≡ [] → other_faults limits true (take (length ts - length rest) ts) (take (length ts - suc (length rest)) ts) ≡ []
faults_of ts [] h = absurd (some_fault _ (behind_none _ _ h))
faults_of ts (t ∷ us) h = h

-- where reading comes to the word PROCEDURE
pub no_other_fault : (ts : List Token) (place : ℕ) → place < length ts → reading alternatives_of data_division ts ≡ ends (drop (place + 1) ts) → data_fault ts ≡ None
    → other_faults limits true (take (place + 1) ts) (take place ts) ≡ []
no_other_fault ts place within read none =
    let rest = drop (place + 1) ts in
    let size : length ts - length rest ≡ place + 1 = omega (arith, within, length-drop (place + 1) ts) in
    let less : length ts - suc (length rest) ≡ place = omega (arith, within, length-drop (place + 1) ts) in
    let found : faults_by limits ts (with_procedure (ends rest)) ≡ [] = ap (λ r. faults_by limits ts (with_procedure r)) (sym read) ∙ no_fault (data_faults ts) none in
    ap (λ n. other_faults limits true (take n ts) (take place ts)) (sym size) ∙ ap (λ n. other_faults limits true (take (length ts - length rest) ts) (take n ts)) (sym less) ∙ faults_of ts rest found
