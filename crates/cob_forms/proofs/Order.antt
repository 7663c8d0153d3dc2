-- Which of several faults is the first does not depend on how they are grouped.
use Rattle.std.proofs.Common.{◌≡◌, ℕ, zero, suc, Bool, true, false, ◌&&◌, ◌||◌, ◌==◌, nat_lt, if◌then◌else◌, List, [], ◌∷◌, ◌++◌, Option, Some, None, refl, sym, ap, ◌∙◌, arith}
use Rattle.std.proofs.lemmas.Grind.{common_steps}
use Rattle.std.proofs.lemmas.Bool.Decides.{nat_tests}
use Rattle.cob_lex.specs.declared.fault.SourceFault.{SourceFault}
use Rattle.cob_lex.specs.declared.fault.SourceKind.{SourceKind}
use Rattle.cob_lex.specs.declared.fault.SourceKind.TheVariants as faults
use Rattle.cob_forms.specs.Faults.{earlier, fault, first, is_before, rank}

-- the order of two keys, each a number and what is tested where they are equal
abbrev under : ℕ → ℕ → Bool → Bool
under p q then_below = nat_lt p q || (p == q && then_below)

under_false : (p q r : ℕ) (h k m : Bool) → (h ≡ false → k ≡ false → m ≡ false) → under p q h ≡ false → under q r k ≡ false → under p r m ≡ false
under_false p q r h k m inner first second = grind (arith, common_steps, nat_tests)

under_true : (p q r : ℕ) (h k m : Bool) → (h ≡ true → k ≡ true → m ≡ true) → under p q h ≡ true → under q r k ≡ true → under p r m ≡ true
under_true p q r h k m inner first second = grind (arith, common_steps, nat_tests)

last_false : (p q r : ℕ) → nat_lt p q ≡ false → nat_lt q r ≡ false → nat_lt p r ≡ false
last_false p q r h k = grind (arith, common_steps, nat_tests)

last_true : (p q r : ℕ) → nat_lt p q ≡ true → nat_lt q r ≡ true → nat_lt p r ≡ true
last_true p q r h k = grind (arith, common_steps, nat_tests)

not_before : (x y z : SourceFault) → is_before x y ≡ false → is_before y z ≡ false → is_before x z ≡ false
not_before x y z =
    under_false x.line y.line z.line _ _ _
    (under_false x.column y.column z.column _ _ _ (last_false (rank x.kind) (rank y.kind) (rank z.kind)))

before : (x y z : SourceFault) → is_before x y ≡ true → is_before y z ≡ true → is_before x z ≡ true
before x y z =
    under_true x.line y.line z.line _ _ _
    (under_true x.column y.column z.column _ _ _ (last_true (rank x.kind) (rank y.kind) (rank z.kind)))

chosen : (x y z : SourceFault) (p q r : Bool) → (p ≡ true → q ≡ true → r ≡ true) → (p ≡ false → q ≡ false → r ≡ false)
    → (if q then (if r then Some z else Some x) else (if p then Some y else Some x)) ≡ (if p then (if q then Some z else Some y) else (if r then Some z else Some x))
chosen x y z true true r h g = rw (h refl refl) refl
chosen x y z true false r h g = refl
chosen x y z false true r h g = refl
chosen x y z false false r h g = rw (g refl refl) refl

-- the tests pushed inside
one_side : (x y z : SourceFault) (q : Bool) → earlier (Some x) (if q then Some z else Some y) ≡ (if q then earlier (Some x) (Some z) else earlier (Some x) (Some y))
one_side x y z true = refl
one_side x y z false = refl

other_side : (x y z : SourceFault) (p : Bool) → earlier (if p then Some y else Some x) (Some z) ≡ (if p then earlier (Some y) (Some z) else earlier (Some x) (Some z))
other_side x y z true = refl
other_side x y z false = refl

at_none : (x y : SourceFault) (p : Bool) → (if p then Some y else Some x) ≡ earlier (if p then Some y else Some x) None
at_none x y true = refl
at_none x y false = refl

pub grouped : (a b c : Option SourceFault) → earlier a (earlier b c) ≡ earlier (earlier a b) c
grouped None b c = refl
grouped (Some x) None c = refl
grouped (Some x) (Some y) None = at_none x y (is_before y x)
grouped (Some x) (Some y) (Some z) =
    one_side x y z (is_before z y)
    ∙ chosen x y z (is_before y x) (is_before z y) (is_before z x)
    (λ h g. before z y x g h)
    (λ h g. not_before z y x g h)
    ∙ sym (other_side x y z (is_before y x))

pub first-append : (xs ys : List SourceFault) → first (xs ++ ys) ≡ earlier (first xs) (first ys)
first-append [] ys = refl
first-append (x ∷ xs) ys = ap (earlier (Some x)) (first-append xs ys) ∙ grouped (Some x) (first xs) (first ys)

-- the order of two faults, both ways
under_mixed : (p q r : ℕ) (h k m : Bool) → (h ≡ false → k ≡ true → m ≡ true) → under p q h ≡ false → under p r k ≡ true → under q r m ≡ true
under_mixed p q r h k m inner first second = grind (arith, common_steps, nat_tests)

last_mixed : (p q r : ℕ) → nat_lt p q ≡ false → nat_lt p r ≡ true → nat_lt q r ≡ true
last_mixed p q r h k = grind (arith, common_steps, nat_tests)

-- what stands behind one fault stands behind each that is not behind it
pub still_behind : (x y z : SourceFault) → is_before x y ≡ false → is_before x z ≡ true → is_before y z ≡ true
still_behind x y z =
    under_mixed x.line y.line z.line _ _ _
    (under_mixed x.column y.column z.column _ _ _ (last_mixed (rank x.kind) (rank y.kind) (rank z.kind)))

under_same : (p q : ℕ) (h k : Bool) → under p q h ≡ false → under q p k ≡ false → (p ≡ q) × (h ≡ false) × (k ≡ false)
under_same p q h k first second = (grind (arith, common_steps, nat_tests), grind (arith, common_steps, nat_tests), grind (arith, common_steps, nat_tests))

last_same : (p q : ℕ) → nat_lt p q ≡ false → nat_lt q p ≡ false → p ≡ q
last_same p q h k = grind (arith, common_steps, nat_tests)

kind_among : List SourceKind → ℕ → SourceKind
kind_among [] n = faults.OverLimit
kind_among (kind ∷ kinds) zero = kind
kind_among (kind ∷ kinds) (suc n) = kind_among kinds n

abbrev kind_at : ℕ → SourceKind
kind_at = kind_among (faults.BadCharacter ∷ faults.BadColumn ∷ faults.BadWord ∷ faults.BadPicture ∷ faults.WantedWord ∷ faults.TwiceDeclared ∷ faults.UnknownName ∷ faults.WrongKind ∷ faults.WrongLength ∷ faults.LeavesRange ∷ faults.PerformsItself ∷ faults.TwoInitial ∷ [])

kind_of_rank : (kind : SourceKind) → kind_at (rank kind) ≡ kind
unfolding kind_among
kind_of_rank faults.BadCharacter = refl
kind_of_rank faults.BadColumn = refl
kind_of_rank faults.BadWord = refl
kind_of_rank faults.BadPicture = refl
kind_of_rank faults.WantedWord = refl
kind_of_rank faults.TwiceDeclared = refl
kind_of_rank faults.UnknownName = refl
kind_of_rank faults.WrongKind = refl
kind_of_rank faults.WrongLength = refl
kind_of_rank faults.LeavesRange = refl
kind_of_rank faults.PerformsItself = refl
kind_of_rank faults.TwoInitial = refl
kind_of_rank faults.OverLimit = refl

same_fields : (l m c d : ℕ) (j k : SourceKind) → l ≡ m → c ≡ d → j ≡ k → fault l c j ≡ fault m d k
same_fields l m c d j k e f g = rw (e, f, g) refl

neither_before : (x y : SourceFault) → is_before x y ≡ false → is_before y x ≡ false → x ≡ y
neither_before x y h k =
    let line = under_same x.line y.line _ _ h k in
    let column = under_same x.column y.column _ _ line.1 line.2 in
    let ranks : rank x.kind ≡ rank y.kind = last_same (rank x.kind) (rank y.kind) column.1 column.2 in
    same_fields x.line y.line x.column y.column x.kind y.kind line.0 column.0 (sym (kind_of_rank x.kind) ∙ ap kind_at ranks ∙ kind_of_rank y.kind)

not_before_itself : (l c r : ℕ) → under l l (under c c (nat_lt r r)) ≡ false
not_before_itself l c r = grind (arith, common_steps, nat_tests)

one_way : (x y : SourceFault) → is_before x y ≡ true → is_before y x ≡ true → ⊥
one_way x y h k =
    let itself : is_before x x ≡ true = before x y x h k in
    let none : is_before x x ≡ false = not_before_itself x.line x.column (rank x.kind) in
    cc

either_way : (x y : SourceFault) (p q : Bool) → is_before y x ≡ p → is_before x y ≡ q → (if p then Some y else Some x) ≡ (if q then Some x else Some y)
either_way x y true true h k = absurd (one_way x y k h)
either_way x y true false h k = refl
either_way x y false true h k = refl
either_way x y false false h k = ap Some (neither_before x y k h)

-- it does not matter which of two faults is named first
pub swapped : (a b : Option SourceFault) → earlier a b ≡ earlier b a
swapped None None = refl
swapped None (Some y) = refl
swapped (Some x) None = refl
swapped (Some x) (Some y) = either_way x y (is_before y x) (is_before x y) refl refl

-- pairs of faults, the first of each and the second of each
pub paired : (a b c d : Option SourceFault) → earlier (earlier a b) (earlier c d) ≡ earlier (earlier a c) (earlier b d)
paired a b c d =
    sym (grouped a b (earlier c d)) ∙ ap (earlier a) (grouped b c d ∙ ap (λ x. earlier x d) (swapped b c) ∙ sym (grouped c b d)) ∙ grouped a c (earlier b d)

-- faults that stand behind another
abbrev pub AreBehind : SourceFault → List SourceFault → Type 0
AreBehind x [] = Unit {0}
AreBehind x (y ∷ ys) = (is_before x y ≡ true) × AreBehind x ys

pub behind_all : (x y : SourceFault) (zs : List SourceFault) → is_before x y ≡ false → AreBehind x zs → AreBehind y zs
behind_all x y [] h k = tt
behind_all x y (z ∷ zs) h k = (still_behind x y z h k.0, behind_all x y zs h k.1)

pub not_first : (x : SourceFault) (ys : List SourceFault) → AreBehind x ys → earlier (first ys) (Some x) ≡ Some x
not_first x [] h = refl
not_first x (y ∷ ys) h = sym (grouped (Some y) (first ys) (Some x)) ∙ ap (earlier (Some y)) (not_first x ys h.1) ∙ rw (h.0) refl

not_both : (x y : SourceFault) (b : Bool) → is_before x y ≡ b → is_before y x ≡ true → b ≡ false
not_both x y true h k = absurd (one_way x y h k)
not_both x y false h k = refl

chosen_not_later : (x y g : SourceFault) (b : Bool) → is_before y x ≡ b → (if b then Some y else Some x) ≡ Some g → is_before x g ≡ false
chosen_not_later x y g true h e = let same : y ≡ g = cc in rw (← same) (not_both x y (is_before x y) refl h)
chosen_not_later x y g false h e = let same : x ≡ g = cc in rw (← same) (not_before_itself x.line x.column (rank x.kind))

-- the first of a fault and others is not behind the fault
pub not_later : (x g : SourceFault) (o : Option SourceFault) → earlier (Some x) o ≡ Some g → is_before x g ≡ false
not_later x g None e = let same : x ≡ g = cc in rw (← same) (not_before_itself x.line x.column (rank x.kind))
not_later x g (Some y) e = chosen_not_later x y g (is_before y x) refl e
