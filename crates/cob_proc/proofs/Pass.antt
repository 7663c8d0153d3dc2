-- The first fault of the division by what is read.
use Rattle.std.proofs.Common.{◌≡◌, ℕ, ◌-◌, List, [], ◌∷◌, length, take, Ok, Err, refl, ap, ◌∙◌, arith}
use Rattle.cob_lex.specs.declared.token.Token.{Token}
use Rattle.cob_forms.specs.Forms.{ends, wanted, reading}
use Rattle.cob_forms.specs.Faults.{first}
use Rattle.cob_proc.specs.Faults.{faults_by, procedure_fault, read_faults}
use Rattle.cob_proc.specs.Forms.{procedure_division, alternatives_of}
use Rattle.cob_proc.specs.Trees.{ParagraphTree}
use Rattle.cob_proc.specs.DivisionReaders.{read_procedure}
use Rattle.cob_proc.proofs.DivisionAgrees.{ended, procedure_agrees}
use Rattle.cob_proc.proofs.DivisionSpelled.{procedure_spelled}

take_all : (ts : List Token) → take (length ts) ts ≡ ts
take_all [] = refl
take_all (t ∷ ts) = ap (λ us. t ∷ us) (take_all ts)

ended_faults : (ts : List Token) → faults_by ts (ends []) ≡ read_faults ts
ended_faults ts = let all : length ts - 0 ≡ length ts = omega arith in ap read_faults (ap (λ n. take n ts) all ∙ take_all ts)

-- where all is read
pub read_fault : (ts : List Token) (trees : List ParagraphTree) → read_procedure ts ≡ Ok trees → procedure_fault ts ≡ first (read_faults ts)
read_fault ts trees e =
    let same : reading alternatives_of procedure_division ts ≡ ends [] = procedure_agrees ts ∙ ap ended e in
    ap (λ read. first (faults_by ts read)) same ∙ ap first (ended_faults ts)

-- where reading stops
pub stop_fault : (ts : List Token) (left : ℕ) → read_procedure ts ≡ Err left → procedure_fault ts ≡ first (faults_by ts (wanted left))
stop_fault ts left e =
    let same : reading alternatives_of procedure_division ts ≡ wanted left = procedure_agrees ts ∙ ap ended e in
    ap (λ read. first (faults_by ts read)) same

pub ruleset pass_steps = (read_fault, stop_fault, procedure_spelled)
