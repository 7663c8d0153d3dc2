-- Whether an item stands under a group, by the levels that are open at it.
use Rattle.std.proofs.Common.{◌≡◌, ◌≤◌, ◌<◌, ℕ, ◌+◌, Bool, true, false, ◌&&◌, ◌==◌, nat_lt, List, [], ◌∷◌, ◌++◌, length, get_or, drop, Option, Some, None, refl, sym, ap, ◌∙◌, arith}
use Rattle.std.specs.Prelude.{if◌then◌else◌}
use Rattle.std.proofs.lemmas.Grind.{common_steps}
use Rattle.std.proofs.lemmas.Bool.Decides.{nat_tests}
use Rattle.cob_lex.specs.declared.fault.SourceFault.{SourceFault}
use Rattle.cob_lex.specs.declared.fault.SourceKind.TheVariants as faults
use Rattle.cob_lex.specs.declared.token.Token.{Token}
use Rattle.cob_forms.specs.Faults.{earlier, first}
use Rattle.cob_data.proofs.Firsts.{one_more}
use Rattle.cob_data.proofs.Fronts.{front_at}
use Rattle.cob_data.specs.declared.open_levels.Level.{Level}
use Rattle.cob_data.specs.Entries.{first_token}
use Rattle.cob_data.specs.Levels.{is_group, rank, sort_of_item}
use Rattle.cob_data.specs.Faults.{is_as, is_level_right, is_under_group, level_faults, unless}
use Rattle.cob_data.specs.OpenLevels.{closed, is_level_under, is_under, open_faults, open_after, stands_under}

-- The levels that are open behind some items, of which the last is first. This is what the code keeps of them.
abbrev pub levels_of : List (List Token) → List Level
levels_of [] = []
levels_of (x ∷ before) = open_after x (levels_of before)

-- `is_under_group` over the open levels alone
abbrev is_below : ℕ → Option ℕ → List Level → Bool
is_below own behind [] = false
is_below own behind (x ∷ levels) = if nat_lt x.rank own then x.is_group && is_as own behind else is_below own (Some x.first) levels

not_lower : (own r p : ℕ) → own ≤ r → nat_lt p r ≡ false → nat_lt p own ≡ false
not_lower own r p h k = grind (arith, common_steps, nat_tests)

-- levels that an item of a rank closes say nothing of items of no higher rank but by the first item below the last that stays
closed_by : (b : Bool) (own r first : ℕ) (x : Level) (levels : List Level) → nat_lt x.rank r ≡ b → own ≤ r
    → is_below own (Some x.first) levels ≡ is_below own (Some (closed r x.first levels).0) (closed r x.first levels).1
    → is_below own (Some first) (x ∷ levels) ≡ is_below own (Some (if b then (first, x ∷ levels) else closed r x.first levels).0) (if b then (first, x ∷ levels) else closed r x.first levels).1
closed_by true own r first x levels is le h = refl
closed_by false own r first x levels is le h = rw (not_lower own r x.rank le is) h

closed_tells : (own r first : ℕ) (levels : List Level) → own ≤ r → is_below own (Some first) levels ≡ is_below own (Some (closed r first levels).0) (closed r first levels).1
closed_tells own r first [] le = refl
closed_tells own r first (x ∷ levels) le = closed_by (nat_lt x.rank r) own r first x levels refl le (closed_tells own r x.first levels le)

lower_or_not : (own r : ℕ) → nat_lt r own ≡ false → own ≤ r
lower_or_not own r h = grind (arith, common_steps, nat_tests)

one_back : (b : Bool) (own : ℕ) (behind : Option ℕ) (x : List Token) (before : List (List Token)) → nat_lt (rank x) own ≡ b
    → is_under_group own (Some (rank x)) before ≡ is_below own (Some (rank x)) (levels_of before)
    → (if b then is_group (sort_of_item x) && is_as own behind else is_under_group own (Some (rank x)) before)
    ≡ (if b then is_group (sort_of_item x) && is_as own behind else is_below own (Some (closed (rank x) (rank x) (levels_of before)).0) (closed (rank x) (rank x) (levels_of before)).1)
one_back true own behind x before is h = refl
one_back false own behind x before is h = h ∙ closed_tells own (rank x) (rank x) (levels_of before) (lower_or_not own (rank x) is)

-- THE LOOK BACK OVER ALL ITEMS IS THE ONE OVER THE OPEN LEVELS

looks_back : (own : ℕ) (behind : Option ℕ) (before : List (List Token)) → is_under_group own behind before ≡ is_below own behind (levels_of before)
looks_back own behind [] = refl
looks_back own behind (x ∷ before) = one_back (nat_lt (rank x) own) own behind x before refl (looks_back own (Some (rank x)) before)

same : (own : ℕ) → (own == own) ≡ true
same own = grind (arith, common_steps, nat_tests)

behind_by : (b : Bool) (own : ℕ) (x : Level) (levels : List Level) → (if b then x.is_group && true else is_below own (Some x.first) levels) ≡ (if b then x.is_group && (own == own) else is_below own (Some x.first) levels)
behind_by true own x levels = rw (same own) refl
behind_by false own x levels = refl

-- no item behind the last one is as one of the same rank
none_behind : (own : ℕ) (levels : List Level) → is_below own None levels ≡ is_below own (Some own) levels
none_behind own [] = refl
none_behind own (x ∷ levels) = behind_by (nat_lt x.rank own) own x levels

under_by : (b : Bool) (own first : ℕ) (x : Level) (levels : List Level) → is_below own (Some x.first) levels ≡ is_under own (closed own x.first levels).0 (closed own x.first levels).1
    → (if b then x.is_group && (own == first) else is_below own (Some x.first) levels) ≡ is_under own (if b then (first, x ∷ levels) else closed own x.first levels).0 (if b then (first, x ∷ levels) else closed own x.first levels).1
under_by true own first x levels h = refl
under_by false own first x levels h = h

closed_under : (own first : ℕ) (levels : List Level) → is_below own (Some first) levels ≡ is_under own (closed own first levels).0 (closed own first levels).1
closed_under own first [] = refl
closed_under own first (x ∷ levels) = under_by (nat_lt x.rank own) own first x levels (closed_under own x.first levels)

pub under_group : (own : ℕ) (before : List (List Token)) → is_under_group own None before ≡ stands_under own (levels_of before)
under_group own before = looks_back own None before ∙ none_behind own (levels_of before) ∙ closed_under own own (levels_of before)

-- THE FAULTS OF LEVELS

level_right : (over_cd : Bool) (before : List (List Token)) (item : List Token) → is_level_right over_cd before item ≡ is_level_under over_cd (stands_under (rank item) (levels_of before)) item
level_right over_cd before item = ap (λ under. is_level_under over_cd under item) (under_group (rank item) before)

pub levels_tell : (over_cd : Bool) (before items : List (List Token)) → level_faults over_cd before items ≡ open_faults over_cd (levels_of before) items
levels_tell over_cd before [] = refl
levels_tell over_cd before (item ∷ items) =
    ap (λ b. unless b faults.WrongKind (first_token item) ++ level_faults over_cd (item ∷ before) items) (level_right over_cd before item)
    ∙ ap (λ ys. unless (is_level_under over_cd (stands_under (rank item) (levels_of before)) item) faults.WrongKind (first_token item) ++ ys) (levels_tell over_cd (item ∷ before) items)

pub level_next : (over_cd : Bool) (found whole : Option SourceFault) (levels : List Level) (items : List (List Token)) (i : ℕ) (item : List Token) → i < length items → item ≡ get_or items i item
    → earlier found (first (open_faults over_cd levels (drop i items))) ≡ whole
    → earlier (earlier found (first (unless (is_level_under over_cd (stands_under (rank item) levels) item) faults.WrongKind (first_token item)))) (first (open_faults over_cd (open_after item levels) (drop (i + 1) items))) ≡ whole
level_next over_cd found whole levels items i item within at_place left =
    one_more found (unless (is_level_under over_cd (stands_under (rank item) levels) item) faults.WrongKind (first_token item)) (open_faults over_cd (open_after item levels) (drop (i + 1) items))
    ∙ ap (λ xs. earlier found (first (open_faults over_cd levels xs))) (sym (front_at items i item within at_place)) ∙ left
