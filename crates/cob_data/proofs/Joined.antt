-- The families of faults together, and the fault of a reading that ended or stopped.
use Rattle.std.proofs.Common.{◌≡◌, ◌<◌, ◌+◌, ◌-◌, ℕ, suc, Bool, true, false, List, [], ◌∷◌, ◌++◌, length, drop, take, append_assoc, arith, length-drop, Option, Some, sym, ap, ◌∙◌}
use Rattle.std.specs.Prelude.{filter}
use Rattle.cob_lex.specs.declared.fault.SourceFault.{SourceFault}
use Rattle.cob_lex.specs.declared.fault.SourceKind.TheVariants as kinds
use Rattle.cob_lex.specs.declared.token.Token.{Token}
use Rattle.cob_forms.specs.Faults.{at_first, before_wanted, earlier, first}
use Rattle.cob_forms.specs.Forms.{ends, wanted}
use Rattle.cob_forms.proofs.Order.{first-append, swapped}
use Rattle.cob_data.specs.Entries.{described, is_item, split_runs}
use Rattle.cob_data.specs.Faults.{bad_columns, bad_pictures, bad_tables, characters_past, clauses_twice, data_names, faults_by, limits, name_faults, name_past, names_in, other_faults, runs_faults, second_initials, whole_entries}

in_groups : (a b c d e f g h i : List SourceFault) → first ((((((((a ++ b) ++ c) ++ d) ++ e) ++ f) ++ g) ++ h) ++ i) ≡ earlier (earlier (earlier (first (a ++ b)) (first (c ++ d))) (first ((e ++ f) ++ g))) (first (h ++ i))
in_groups a b c d e f g h i =
    let four = ((a ++ b) ++ c) ++ d in
    let seven : ((four ++ e) ++ f) ++ g ≡ four ++ ((e ++ f) ++ g) = ap (λ xs. xs ++ g) (append_assoc four e f) ∙ append_assoc four (e ++ f) g in
    ap first (append_assoc (((four ++ e) ++ f) ++ g) h i ∙ ap (λ xs. xs ++ (h ++ i)) seven)
    ∙ first-append (four ++ ((e ++ f) ++ g)) (h ++ i)
    ∙ ap (λ x. earlier x (first (h ++ i)))
    (first-append four ((e ++ f) ++ g) ∙ ap (λ x. earlier x (first ((e ++ f) ++ g))) (ap first (append_assoc (a ++ b) c d) ∙ first-append (a ++ b) (c ++ d)))

-- the families in four groups
pub first_of_groups : (f : Bool) (lined ts : List Token) (entries : List (List Token)) → entries ≡ described ts
    → earlier (earlier (earlier (first (bad_columns lined ++ bad_pictures ts)) (first (name_faults [] (names_in entries) ++ name_past limits.names (data_names entries))))
    (first (second_initials entries ++ bad_tables entries ++ clauses_twice entries)))
    (first (runs_faults f (split_runs entries).1 ++ characters_past limits.characters 0 (filter is_item (whole_entries f entries))))
    ≡ first (other_faults limits f lined ts)
first_of_groups f lined ts entries all =
    rw all (sym (in_groups (bad_columns lined) (bad_pictures ts) (name_faults [] (names_in (described ts))) (name_past limits.names (data_names (described ts)))
    (second_initials (described ts)) (bad_tables (described ts)) (clauses_twice (described ts))
    (runs_faults f (split_runs (described ts)).1) (characters_past limits.characters 0 (filter is_item (whole_entries f (described ts))))))

pub of_two : (a b : List SourceFault) → earlier (first a) (first b) ≡ first (a ++ b)
of_two a b = sym (first-append a b)

pub of_three : (a b c : List SourceFault) → earlier (earlier (first a) (first b)) (first c) ≡ first (a ++ b ++ c)
of_three a b c = ap (λ x. earlier x (first c)) (sym (first-append a b)) ∙ sym (first-append (a ++ b) c)

-- where reading stopped
pub stopped : (ts front : List Token) (left : ℕ) (found : Option SourceFault) (wanted_fault word_flags : SourceFault) → front ≡ take (before_wanted ts left) ts → wanted_fault ≡ at_first kinds.WantedWord (drop (before_wanted ts left) ts)
    → found ≡ first (other_faults limits false front front) → earlier (Some wanted_fault) found ≡ Some word_flags → first (faults_by limits ts (wanted left)) ≡ Some word_flags
stopped ts front left found wanted_fault word_flags at_front wanteds founds tells =
    let here : first (other_faults limits false (take (before_wanted ts left) ts) (take (before_wanted ts left) ts)) ≡ found = ap (λ xs. first (other_faults limits false xs xs)) (sym at_front) ∙ sym founds in
    first-append (other_faults limits false (take (before_wanted ts left) ts) (take (before_wanted ts left) ts)) (at_first kinds.WantedWord (drop (before_wanted ts left) ts) ∷ [])
    ∙ rw (here, sym wanteds) (swapped found (Some wanted_fault) ∙ tells)

-- where it ended
pub ended : (ts lined before : List Token) (place : ℕ) (found : Option SourceFault) → place + 1 < length ts → lined ≡ take (place + 1) ts → before ≡ take place ts
    → found ≡ first (other_faults limits true lined before) → found ≡ first (faults_by limits ts (ends (drop (place + 1) ts)))
ended ts lined before place found within at_lined at_before founds =
    let size : length ts - length (drop (place + 1) ts) ≡ place + 1 = omega (arith, within, length-drop (place + 1) ts) in
    let less : length ts - suc (length (drop (place + 1) ts)) ≡ place = omega (arith, within, length-drop (place + 1) ts) in
    founds ∙ ap (λ xs. first (other_faults limits true xs before)) at_lined ∙ ap (λ xs. first (other_faults limits true (take (place + 1) ts) xs)) at_before
    ∙ ap (λ n. first (other_faults limits true (take n ts) (take place ts))) (sym size)
    ∙ ap (λ n. first (other_faults limits true (take (length ts - length (drop (place + 1) ts)) ts) (take n ts))) (sym less)
