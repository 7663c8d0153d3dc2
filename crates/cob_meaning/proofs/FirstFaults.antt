-- The first of some faults, by place and then by kind.
use Rattle.std.proofs.Common.{◌≡◌, inl, inr, ℕ, Bool, true, false, ◌||◌, ◌&&◌, ◌==◌, nat_lt, if◌then◌else◌, List, [], ◌∷◌, Option, Some, None, refl, sym, ap, subst, ◌∙◌, arith}
use Rattle.std.proofs.lemmas.Grind.{common_steps}
use Rattle.std.proofs.lemmas.Bool.Decides.{nat_tests}
use Rattle.cob_lex.specs.declared.fault.SourceFault.{SourceFault}
use Rattle.cob_lex.specs.declared.fault.SourceKind.{SourceKind}
use Rattle.cob_lex.specs.declared.fault.SourceKind.TheVariants as faults
use Rattle.cob_forms.specs.Faults.{earlier, first, is_before, rank}
use Rattle.cob_meaning.specs.Ranges.{IsFirstOf}
use Rattle.cob_meaning.proofs.Members.{Member}

-- the order of two keys, each a number and what is tested where they are equal
abbrev under : ℕ → ℕ → Bool → Bool
under p q then_below = nat_lt p q || (p == q && then_below)

under_false : (p q r : ℕ) (h k m : Bool) → (h ≡ false → k ≡ false → m ≡ false) → under p q h ≡ false → under q r k ≡ false → under p r m ≡ false
under_false p q r h k m inner one two = grind (arith, common_steps, nat_tests)

last_false : (p q r : ℕ) → nat_lt p q ≡ false → nat_lt q r ≡ false → nat_lt p r ≡ false
last_false p q r h k = grind (arith, common_steps, nat_tests)

not_before : (x y z : SourceFault) → is_before x y ≡ false → is_before y z ≡ false → is_before x z ≡ false
not_before x y z =
    under_false x.line y.line z.line _ _ _
    (under_false x.column y.column z.column _ _ _ (last_false (rank x.kind) (rank y.kind) (rank z.kind)))

under_itself : (p : ℕ) (h : Bool) → h ≡ false → under p p h ≡ false
under_itself p h e = grind (arith, common_steps, nat_tests)

not_before_itself : (x : SourceFault) → is_before x x ≡ false
not_before_itself x = under_itself x.line _ (under_itself x.column _ (grind (arith, common_steps, nat_tests)))

under_turned : (p q : ℕ) (h k : Bool) → (h ≡ true → k ≡ false) → under p q h ≡ true → under q p k ≡ false
under_turned p q h k inner e = grind (arith, common_steps, nat_tests)

turned : (x y : SourceFault) → is_before x y ≡ true → is_before y x ≡ false
turned x y = under_turned x.line y.line _ _ (under_turned x.column y.column _ _ (λ e. grind (arith, common_steps, nat_tests)))

-- none before the other: the keys are equal
under_neither : (p q : ℕ) (h k : Bool) → under p q h ≡ false → under q p k ≡ false → (p ≡ q) × (h ≡ false) × (k ≡ false)
under_neither p q h k e f = (grind (arith, common_steps, nat_tests), grind (arith, common_steps, nat_tests), grind (arith, common_steps, nat_tests))

same_number : (p q : ℕ) → nat_lt p q ≡ false → nat_lt q p ≡ false → p ≡ q
same_number p q e f = grind (arith, common_steps, nat_tests)

kind_of : ℕ → SourceKind
kind_of n =
    if n == 0 then faults.BadCharacter else (if n == 1 then faults.BadColumn else (if n == 2 then faults.BadWord else (if n == 3 then faults.BadPicture
    else (if n == 4 then faults.WantedWord else (if n == 5 then faults.TwiceDeclared else (if n == 6 then faults.UnknownName else (if n == 7 then faults.WrongKind
    else (if n == 8 then faults.WrongLength else (if n == 9 then faults.LeavesRange else (if n == 10 then faults.PerformsItself
    else (if n == 11 then faults.TwoInitial else faults.OverLimit)))))))))))

of_its_rank : (k : SourceKind) → kind_of (rank k) ≡ k
unfolding kind_of
of_its_rank faults.BadCharacter = refl
of_its_rank faults.BadColumn = refl
of_its_rank faults.BadWord = refl
of_its_rank faults.BadPicture = refl
of_its_rank faults.WantedWord = refl
of_its_rank faults.TwiceDeclared = refl
of_its_rank faults.UnknownName = refl
of_its_rank faults.WrongKind = refl
of_its_rank faults.WrongLength = refl
of_its_rank faults.LeavesRange = refl
of_its_rank faults.PerformsItself = refl
of_its_rank faults.TwoInitial = refl
of_its_rank faults.OverLimit = refl

same_fault : (x y : SourceFault) → x.line ≡ y.line → x.column ≡ y.column → x.kind ≡ y.kind → x ≡ y
same_fault x y l c k =
    ap (λ n. record x { line = n }) l ∙ ap (λ n. record x { line = y.line; column = n }) c ∙ ap (λ n. record x { line = y.line; column = y.column; kind = n }) k

neither_before : (x y : SourceFault) → is_before x y ≡ false → is_before y x ≡ false → x ≡ y
neither_before x y e f =
    let lines = under_neither x.line y.line _ _ e f in
    let columns = under_neither x.column y.column _ _ lines.1 lines.2 in
    let kinds = same_number (rank x.kind) (rank y.kind) columns.1 columns.2 in
    same_fault x y lines.0 columns.0 (sym (of_its_rank x.kind) ∙ ap kind_of kinds ∙ of_its_rank y.kind)

-- two that are first are one
pub one_first : (P : SourceFault → Type 0) (x y : SourceFault) → IsFirstOf P x → IsFirstOf P y → x ≡ y
one_first P x y a b = neither_before x y (b.none_before x a.is_fault) (a.none_before y b.is_fault)

same_some : (x y : SourceFault) → Some x ≡ Some y → x ≡ y
same_some x y e = cc

pub no_faults : (xs : List SourceFault) → first xs ≡ None → xs ≡ []
no_faults [] e = refl
no_faults (x ∷ xs) e = absurd (by (first xs) e)
  where
    pick : (b : Bool) (y : SourceFault) → (if b then Some y else Some x) ≡ None → ⊥
    pick true y e = absurd cc
    pick false y e = absurd cc

    by : (o : Option SourceFault) → earlier (Some x) o ≡ None → ⊥
    by None e = absurd cc
    by (Some y) e = pick (is_before y x) y e

-- the first of a list is the first of its members
pub first_is_first : (xs : List SourceFault) (z : SourceFault) → first xs ≡ Some z → IsFirstOf (λ y. Member y xs) z
first_is_first [] z e = absurd cc
first_is_first (x ∷ xs) z e = by (first xs) (λ y n. first_is_first xs y n) refl e
  where
    pick : (b : Bool) (y : SourceFault) → is_before y x ≡ b → IsFirstOf (λ u. Member u xs) y → (if b then Some y else Some x) ≡ Some z → IsFirstOf (λ u. Member u (x ∷ xs)) z
    pick true y t a f = let same = same_some y z f in rw (← same) (record { is_fault = inr a.is_fault; none_before = others })
      where
        others : (u : SourceFault) → Member u (x ∷ xs) → is_before u y ≡ false
        others u (inl e) = rw e (turned y x t)
        others u (inr m) = a.none_before u m
    pick false y t a f = let same = same_some x z f in rw (← same) (record { is_fault = inl refl; none_before = others })
      where
        others : (u : SourceFault) → Member u (x ∷ xs) → is_before u x ≡ false
        others u (inl e) = rw e (not_before_itself x)
        others u (inr m) = not_before u y x (a.none_before u m) t

    by : (o : Option SourceFault) → ((y : SourceFault) → first xs ≡ Some y → IsFirstOf (λ u. Member u xs) y) → first xs ≡ o → earlier (Some x) o ≡ Some z → IsFirstOf (λ u. Member u (x ∷ xs)) z
    by None step n f = let same = same_some x z f in rw (← same) (record { is_fault = inl refl; none_before = others })
      where
        others : (u : SourceFault) → Member u (x ∷ xs) → is_before u x ≡ false
        others u (inl e) = rw e (not_before_itself x)
        others u (inr m) = absurd (subst (λ l. Member u l) (no_faults xs n) m)
    by (Some y) step n f = pick (is_before y x) y refl (step y n) f

-- the first of those that are the same
pub first_as : (P Q : SourceFault → Type 0) (z : SourceFault) → ((x : SourceFault) → P x → Q x) → ((x : SourceFault) → Q x → P x) → IsFirstOf P z → IsFirstOf Q z
first_as P Q z there back a = record { is_fault = there z a.is_fault; none_before = λ x h. a.none_before x (back x h) }
