-- Runs and records one by one, of which the last may count less.
use Rattle.std.proofs.Common.{◌≡◌, ℕ, suc, Bool, true, false, not, ◌&&◌, nat_lt, List, [], ◌∷◌, ◌++◌, length, if◌then◌else◌, Option, refl, sym, ap, ◌∙◌, arith}
use Rattle.std.proofs.lemmas.Grind.{common_steps}
use Rattle.std.proofs.lemmas.Bool.Decides.{nat_tests}
use Rattle.cob_lex.specs.declared.fault.SourceFault.{SourceFault}
use Rattle.cob_lex.specs.declared.token.Token.{Token}
use Rattle.cob_forms.specs.Faults.{earlier, first}
use Rattle.cob_forms.proofs.Order.{first-append}
use Rattle.cob_data.specs.Entries.{Run, is_cd}
use Rattle.cob_data.specs.Faults.{is_counted, level_faults, over, record_faults, records_faults, run_faults, runs_faults, whole_faults}
use Rattle.cob_data.specs.Levels.{records_of}
use Rattle.cob_data.proofs.Firsts.{one_more}
use Rattle.cob_data.proofs.Fronts.{nothing_behind}

some : (n : ℕ) → nat_lt 0 (suc n) ≡ true
some n = grind (arith, common_steps, nat_tests)

-- RECORDS

pub record_next : (area : Option ℕ) (is_last : Bool) (found whole : Option SourceFault) (r : List (List Token)) (all rs : List (List (List Token))) → all ≡ r ∷ rs
    → earlier found (first (records_faults is_last area all)) ≡ whole
    → earlier (earlier found (first (if is_counted is_last rs r then record_faults area r else []))) (first (records_faults is_last area rs)) ≡ whole
record_next area is_last found whole r all rs here left =
    one_more found (if is_counted is_last rs r then record_faults area r else []) (records_faults is_last area rs)
    ∙ ap (λ xs. earlier found (first (records_faults is_last area xs))) (sym here) ∙ left

-- RUNS

one_run : (f : Bool) (r : Run) (rs : List Run) → runs_faults f (r ∷ rs) ≡ run_faults (not f && not (nat_lt 0 (length rs))) r ++ runs_faults f rs
one_run true r [] = sym (nothing_behind (run_faults false r))
one_run false r [] = sym (nothing_behind (run_faults true r))
one_run true r (s ∷ ss) = refl
one_run false r (s ∷ ss) = rw (some (length ss)) refl

pub run_next : (f : Bool) (found whole : Option SourceFault) (r : Run) (all rs : List Run) → all ≡ r ∷ rs
    → earlier found (first (runs_faults f all)) ≡ whole → earlier (earlier found (first (run_faults (not f && not (nat_lt 0 (length rs))) r))) (first (runs_faults f rs)) ≡ whole
run_next f found whole r all rs here left =
    one_more found (run_faults (not f && not (nat_lt 0 (length rs))) r) (runs_faults f rs) ∙ ap (λ xs. earlier found (first xs)) (sym (ap (runs_faults f) here ∙ one_run f r rs)) ∙ left

first_of_three : (a b c : List SourceFault) → earlier (earlier (first a) (first b)) (first c) ≡ first ((a ++ b) ++ c)
first_of_three a b c = sym (first-append (a ++ b) c ∙ ap (λ o. earlier o (first c)) (first-append a b))

pub faults_of_run : (is_last : Bool) (r : Run) → earlier (earlier (first (level_faults (is_cd r.head) [] r.items)) (first (whole_faults is_last (is_cd r.head) r.items))) (first (records_faults is_last (over r) (records_of r.items))) ≡ first (run_faults is_last r)
faults_of_run is_last r = first_of_three (level_faults (is_cd r.head) [] r.items) (whole_faults is_last (is_cd r.head) r.items) (records_faults is_last (over r) (records_of r.items))
