-- Entries, runs and records from the front.
use Rattle.std.proofs.Common.{◌≡◌, ◌≤◌, ℕ, zero, suc, ◌+◌, ◌-◌, Bool, true, false, not, ◌&&◌, List, [], ◌∷◌, length, take, drop, refl, sym, ap, ◌∙◌, arith}
use Rattle.std.specs.Prelude.{cond, if◌then◌else◌, take_while, ◌==◌}
use Rattle.std.specs.List.{prefix_len}
use Rattle.std.proofs.lemmas.List.{drop-drop}
use Rattle.std.proofs.lemmas.List.Sums.{take_while-cons}
use Rattle.std.proofs.lemmas.Grind.{common_steps}
use Rattle.std.proofs.lemmas.Bool.Decides.{nat_tests}
use Rattle.cob_lex.specs.declared.token.Token.{Token}
use Rattle.cob_data.specs.Clauses.{all_clauses, ends_clause}
use Rattle.cob_data.specs.Entries.{run, put, pieces, piece_length, ends_entry, entries_of, all_but_last, word_flags, wants_word, is_item, put_in_runs, split_runs}
use Rattle.cob_data.specs.Levels.{is_record, joined, split}

-- THE FIRST PIECE

module _ (ends : Token → List Token → Bool) where
  piece_by : (b : Bool) (t : Token) (ts : List Token)
      → put b t (pieces ends ts) ≡ take (if b then 1 else suc (piece_length ends ts)) (t ∷ ts) ∷ pieces ends (drop (if b then 1 else suc (piece_length ends ts)) (t ∷ ts))
  piece_by true t ts = refl
  piece_by false t [] = refl
  piece_by false t (u ∷ us) = rw (piece_by (ends u us) u us) refl

  pub first_piece : (t : Token) (ts : List Token) → pieces ends (t ∷ ts) ≡ take (piece_length ends (t ∷ ts)) (t ∷ ts) ∷ pieces ends (drop (piece_length ends (t ∷ ts)) (t ∷ ts))
  first_piece t ts = piece_by (ends t ts) t ts

-- THE FRONT OF A LIST THAT PASSES A TEST

pub taken : {A : Type 0} (k : ℕ) (xs : List A) → take (length (take k xs)) xs ≡ take k xs
taken zero xs = refl
taken (suc k) [] = refl
taken (suc k) (x ∷ xs) = ap (λ ys. x ∷ ys) (taken k xs)

pub front_taken : {A : Type 0} (test : A → Bool) (xs : List A) → take (length (take_while test xs)) xs ≡ take_while test xs
front_taken test xs = taken (prefix_len test xs) xs

same_first : {A : Type 0} (a b : A) (xs ys : List A) → a ∷ xs ≡ b ∷ ys → a ≡ b
same_first a b xs ys h = cc

not_both : {A : Type 0} (a : A) (xs : List A) → [] ≡ a ∷ xs → ⊥
not_both a xs h = cc

stop_by : {A : Type 0} (test : A → Bool) (b : Bool) (y : A) (ys : List A) (x : A) (behind : List A) → test y ≡ b → (drop (length (take_while test ys)) ys ≡ x ∷ behind → test x ≡ false)
    → drop (length (cond b (y ∷ take_while test ys) [])) (y ∷ ys) ≡ x ∷ behind → test x ≡ false
stop_by test true y ys x behind h k e = k e
stop_by test false y ys x behind h k e = ap test (sym (same_first y x ys behind e)) ∙ h

-- the first that is left does not pass
pub stops : {A : Type 0} (test : A → Bool) (xs : List A) (x : A) (behind : List A) → drop (length (take_while test xs)) xs ≡ x ∷ behind → test x ≡ false
stops test [] x behind h = absurd (not_both x behind h)
stops test (y ∷ ys) x behind h =
    stop_by test (test y) y ys x behind refl (stops test ys x behind) (ap (λ zs. drop (length zs) (y ∷ ys)) (sym (take_while-cons test y ys)) ∙ h)

-- RUNS

run_here : (entry : List Token) (entries : List (List Token)) → is_item entry ≡ false → (split_runs (entry ∷ entries)).1 ≡ run entry (split_runs entries).0 ∷ (split_runs entries).1
run_here entry entries h = rw h refl

items_by : (b : Bool) (entry : List Token) (entries : List (List Token)) → (split_runs entries).0 ≡ take_while is_item entries
    → (put_in_runs b entry (split_runs entries)).0 ≡ cond b (entry ∷ take_while is_item entries) []
items_by true entry entries h = ap (λ xs. entry ∷ xs) h
items_by false entry entries h = refl

items_here : (entries : List (List Token)) → (split_runs entries).0 ≡ take_while is_item entries
items_here [] = refl
items_here (entry ∷ entries) = items_by (is_item entry) entry entries (items_here entries) ∙ sym (take_while-cons is_item entry entries)

runs_by : (b : Bool) (entry : List Token) (entries : List (List Token)) → is_item entry ≡ b → (split_runs entries).1 ≡ (split_runs (drop (length (take_while is_item entries)) entries)).1
    → (put_in_runs b entry (split_runs entries)).1 ≡ (split_runs (drop (length (cond b (entry ∷ take_while is_item entries) [])) (entry ∷ entries))).1
runs_by true entry entries h k = k
runs_by false entry entries h k = rw h refl

runs_behind : (entries : List (List Token)) → (split_runs entries).1 ≡ (split_runs (drop (length (take_while is_item entries)) entries)).1
runs_behind [] = refl
runs_behind (entry ∷ entries) =
    runs_by (is_item entry) entry entries refl (runs_behind entries)
    ∙ ap (λ xs. (split_runs (drop (length xs) (entry ∷ entries))).1) (sym (take_while-cons is_item entry entries))

pub next_run : (entries rest behind items others : List (List Token)) (head : List Token) (n m : ℕ) → n ≡ length (take_while is_item entries) → rest ≡ drop n entries → rest ≡ head ∷ behind
    → m ≡ length (take_while is_item behind) → items ≡ take m behind → others ≡ drop m behind → (split_runs entries).1 ≡ run head items ∷ (split_runs others).1
next_run entries rest behind items others head n m size left front count at_items at_others =
    let here : drop (length (take_while is_item entries)) entries ≡ head ∷ behind = ap (λ k. drop k entries) (sym size) ∙ sym left ∙ front in
    let these : (split_runs behind).0 ≡ items = items_here behind ∙ sym (front_taken is_item behind) ∙ ap (λ k. take k behind) (sym count) ∙ sym at_items in
    let those : (split_runs behind).1 ≡ (split_runs others).1 = runs_behind behind ∙ ap (λ k. (split_runs (drop k behind)).1) (sym count) ∙ ap (λ xs. (split_runs xs).1) (sym at_others) in
    runs_behind entries ∙ ap (λ xs. (split_runs xs).1) here ∙ run_here head behind (stops is_item entries head behind here)
    ∙ ap (λ xs. run head xs ∷ (split_runs behind).1) these ∙ ap (λ runs. run head items ∷ runs) those

pub no_next_run : (entries rest : List (List Token)) (n : ℕ) → n ≡ length (take_while is_item entries) → rest ≡ drop n entries → rest ≡ [] → (split_runs entries).1 ≡ []
no_next_run entries rest n size left none =
    runs_behind entries ∙ ap (λ k. (split_runs (drop k entries)).1) (sym size) ∙ ap (λ xs. (split_runs xs).1) (sym left ∙ none)

-- RECORDS

abbrev is_below : List Token → Bool
is_below item = not (is_record item)

below_by : (b : Bool) (item : List Token) (items : List (List Token)) → (split items).0 ≡ take_while is_below items
    → (joined b item (split items)).0 ≡ cond (not b) (item ∷ take_while is_below items) []
below_by true item items h = refl
below_by false item items h = ap (λ xs. item ∷ xs) h

below_here : (items : List (List Token)) → (split items).0 ≡ take_while is_below items
below_here [] = refl
below_here (item ∷ items) = below_by (is_record item) item items (below_here items) ∙ sym (take_while-cons is_below item items)

records_by : (b : Bool) (item : List Token) (items : List (List Token)) → is_record item ≡ b → (split items).1 ≡ (split (drop (length (take_while is_below items)) items)).1
    → (joined b item (split items)).1 ≡ (split (drop (length (cond (not b) (item ∷ take_while is_below items) [])) (item ∷ items))).1
records_by true item items h k = rw h refl
records_by false item items h k = k

records_behind : (items : List (List Token)) → (split items).1 ≡ (split (drop (length (take_while is_below items)) items)).1
records_behind [] = refl
records_behind (item ∷ items) =
    records_by (is_record item) item items refl (records_behind items)
    ∙ ap (λ xs. (split (drop (length xs) (item ∷ items))).1) (sym (take_while-cons is_below item items))

record_here : (item : List Token) (items : List (List Token)) → is_record item ≡ true → (split (item ∷ items)).1 ≡ (item ∷ (split items).0) ∷ (split items).1
record_here item items h = rw h refl

was_true : (b : Bool) → not b ≡ false → b ≡ true
was_true true h = refl
was_true false h = cc

pub next_record : (items rest behind whole others : List (List Token)) (first : List Token) (n m : ℕ) → n ≡ length (take_while is_below items) → rest ≡ drop n items → rest ≡ first ∷ behind
    → m ≡ length (take_while is_below behind) → whole ≡ take (1 + m) rest → others ≡ drop (1 + m) rest → (split items).1 ≡ whole ∷ (split others).1
next_record items rest behind whole others first n m size left front count at_record at_others =
    let here : drop (length (take_while is_below items)) items ≡ first ∷ behind = ap (λ k. drop k items) (sym size) ∙ sym left ∙ front in
    let next : 1 + m ≡ suc m = omega arith in
    let these : first ∷ (split behind).0 ≡ whole =
    ap (λ xs. first ∷ xs) (below_here behind ∙ sym (front_taken is_below behind) ∙ ap (λ k. take k behind) (sym count))
    ∙ ap (λ xs. take (suc m) xs) (sym front) ∙ ap (λ k. take k rest) (sym next) ∙ sym at_record in
    let rest_of : drop m behind ≡ others = ap (λ xs. drop (suc m) xs) (sym front) ∙ ap (λ k. drop k rest) (sym next) ∙ sym at_others in
    let those : (split behind).1 ≡ (split others).1 = records_behind behind ∙ ap (λ k. (split (drop k behind)).1) (sym count) ∙ ap (λ xs. (split xs).1) rest_of in
    records_behind items ∙ ap (λ xs. (split xs).1) here ∙ record_here first behind (was_true (is_record first) (stops is_below items first behind here))
    ∙ ap (λ xs. xs ∷ (split behind).1) these ∙ ap (λ records. whole ∷ records) those

pub no_next_record : (items rest : List (List Token)) (n : ℕ) → n ≡ length (take_while is_below items) → rest ≡ drop n items → rest ≡ [] → (split items).1 ≡ []
no_next_record items rest n size left none =
    records_behind items ∙ ap (λ k. (split (drop k items)).1) (sym size) ∙ ap (λ xs. (split xs).1) (sym left ∙ none)

-- THE NEXT ENTRY

pub next_entry : (word next : Bool) (ts front back : List Token) (n : ℕ) → 1 ≤ length ts → n ≡ piece_length ends_entry ts → front ≡ take n ts → back ≡ drop n ts → next ≡ (not word && wants_word front)
    → word_flags word (entries_of ts) ≡ (word, front) ∷ word_flags next (entries_of back)
next_entry word next [] front back n some size at_front behind flag = absurd (omega (arith, some))
next_entry word next (t ∷ ts) front back n some size at_front behind flag = rw flag (rw behind (rw at_front (rw size (rw (first_piece ends_entry t ts) refl))))

-- THE NEXT CLAUSE

pub all_but_more : {A : Type 0} (x : A) (others : List A) → 1 ≤ length others → all_but_last (x ∷ others) ≡ x ∷ all_but_last others
all_but_more x [] some = absurd (omega (arith, some))
all_but_more x (other ∷ others) some =
    let one_more : length (x ∷ other ∷ others) - 1 ≡ suc (length (other ∷ others) - 1) = omega arith in
    ap (λ k. take k (x ∷ other ∷ others)) one_more

some_piece : (ends : Token → List Token → Bool) (t : Token) (ts : List Token) → 1 ≤ length (pieces ends (t ∷ ts))
some_piece ends t ts = rw (first_piece ends t ts) (omega arith)

clause_before : (ts front : List Token) (t : Token) (back : List Token) (n : ℕ) → n ≡ piece_length ends_clause ts → front ≡ take n ts → t ∷ back ≡ drop n ts → all_clauses ts ≡ front ∷ all_clauses (t ∷ back)
clause_before [] front t back n size at_front behind = absurd (not_both t back (sym (behind ∙ ap (λ k. drop k []) size)))
clause_before (u ∷ us) front t back n size at_front behind =
    ap all_but_last (first_piece ends_clause u us)
    ∙ ap (λ k. all_but_last (take k (u ∷ us) ∷ pieces ends_clause (drop k (u ∷ us)))) (sym size)
    ∙ ap (λ xs. all_but_last (xs ∷ pieces ends_clause (drop n (u ∷ us)))) (sym at_front)
    ∙ ap (λ xs. all_but_last (front ∷ pieces ends_clause xs)) (sym behind)
    ∙ all_but_more front (pieces ends_clause (t ∷ back)) (some_piece ends_clause t back)

pub next_clause : (ts front back : List Token) (n : ℕ) → n ≡ piece_length ends_clause ts → front ≡ take n ts → back ≡ drop n ts → 1 ≤ length back → all_clauses ts ≡ front ∷ all_clauses back
next_clause ts front [] n size at_front behind some = absurd (omega (arith, some))
next_clause ts front (t ∷ back) n size at_front behind some = clause_before ts front t back n size at_front behind

pub no_next_clause : (ts back : List Token) (n : ℕ) → n ≡ piece_length ends_clause ts → back ≡ [] → back ≡ drop n ts → all_clauses ts ≡ []
no_next_clause [] back n size none behind = refl
no_next_clause (u ∷ us) back n size none behind =
    ap all_but_last (first_piece ends_clause u us)
    ∙ ap (λ k. all_but_last (take (piece_length ends_clause (u ∷ us)) (u ∷ us) ∷ pieces ends_clause (drop k (u ∷ us)))) (sym size)
    ∙ ap (λ xs. all_but_last (take (piece_length ends_clause (u ∷ us)) (u ∷ us) ∷ pieces ends_clause xs)) (sym behind ∙ none)

none_less : (n : ℕ) (b : Bool) → b ≡ (suc n == 0) → b ≡ true → ⊥
none_less n b same h = grind (arith, common_steps, nat_tests)

pub is_nil : {A : Type 0} (xs : List A) (b : Bool) → b ≡ (length xs == 0) → b ≡ true → xs ≡ []
is_nil [] b same h = refl
is_nil (x ∷ xs) b same h = absurd (none_less (length xs) b same h)

pub not_empty : (n : ℕ) (b : Bool) → b ≡ (n == 0) → b ≡ false → 1 ≤ n
not_empty n b same h = grind (arith, common_steps, nat_tests)

-- BY PLACES

behind_both : {A : Type 0} (from skipped size past : ℕ) (xs left rest others : List A) → left ≡ drop from xs → rest ≡ drop skipped left → others ≡ drop size rest → past ≡ from + skipped + size → others ≡ drop past xs
behind_both from skipped size past xs left rest others at_left at_rest at_others sum =
    let sums : from + (skipped + size) ≡ past = omega (arith, sum) in
    at_others ∙ ap (drop size) at_rest ∙ drop-drop size skipped left ∙ ap (drop (skipped + size)) at_left ∙ drop-drop (skipped + size) from xs ∙ ap (λ k. drop k xs) sums

pub run_from : (entries left rest behind items : List (List Token)) (head : List Token) (from skipped count past : ℕ) → left ≡ drop from entries → skipped ≡ length (take_while is_item left) → rest ≡ drop skipped left
    → rest ≡ head ∷ behind → count ≡ length (take_while is_item behind) → items ≡ take count behind → past ≡ from + skipped + 1 + count
    → (split_runs (drop from entries)).1 ≡ run head items ∷ (split_runs (drop past entries)).1
run_from entries left rest behind items head from skipped count past at_left skips at_rest front counts at_items sum =
    let size : 1 + count ≡ suc count = omega arith in
    let sums : past ≡ from + skipped + (1 + count) = omega (arith, sum) in
    let others : drop count behind ≡ drop (1 + count) rest = ap (drop (suc count)) (sym front) ∙ ap (λ k. drop k rest) (sym size) in
    ap (λ xs. (split_runs xs).1) (sym at_left) ∙ next_run left rest behind items (drop count behind) head skipped count skips at_rest front counts at_items refl
    ∙ ap (λ xs. run head items ∷ (split_runs xs).1) (behind_both from skipped (1 + count) past entries left rest (drop count behind) at_left at_rest others sums)

pub no_run_from : (entries left rest : List (List Token)) (from skipped : ℕ) → left ≡ drop from entries → skipped ≡ length (take_while is_item left) → rest ≡ drop skipped left → rest ≡ [] → (split_runs (drop from entries)).1 ≡ []
no_run_from entries left rest from skipped at_left skips at_rest none = ap (λ xs. (split_runs xs).1) (sym at_left) ∙ no_next_run left rest skipped skips at_rest none

pub record_from : (items left rest behind whole : List (List Token)) (first : List Token) (from skipped below count past : ℕ) → left ≡ drop from items → skipped ≡ length (take_while is_below left) → rest ≡ drop skipped left
    → rest ≡ first ∷ behind → below ≡ length (take_while is_below behind) → count ≡ 1 + below → whole ≡ take count rest → past ≡ from + skipped + count
    → (split (drop from items)).1 ≡ whole ∷ (split (drop past items)).1
record_from items left rest behind whole first from skipped below count past at_left skips at_rest front counts size at_whole sum =
    ap (λ xs. (split xs).1) (sym at_left)
    ∙ next_record left rest behind whole (drop count rest) first skipped below skips at_rest front counts (at_whole ∙ ap (λ k. take k rest) size) (ap (λ k. drop k rest) size)
    ∙ ap (λ xs. whole ∷ (split xs).1) (behind_both from skipped count past items left rest (drop count rest) at_left at_rest refl sum)

pub no_record_from : (items left rest : List (List Token)) (from skipped : ℕ) → left ≡ drop from items → skipped ≡ length (take_while is_below left) → rest ≡ drop skipped left → rest ≡ [] → (split (drop from items)).1 ≡ []
no_record_from items left rest from skipped at_left skips at_rest none = ap (λ xs. (split xs).1) (sym at_left) ∙ no_next_record left rest skipped skips at_rest none
