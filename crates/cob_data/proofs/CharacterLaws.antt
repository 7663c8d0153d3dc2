-- Items whose characters are counted together.
use Rattle.std.proofs.Common.{◌≡◌, ◌<◌, ◌≤◌, ℕ, ◌+◌, Bool, true, false, ◌||◌, nat_lt, List, [], ◌∷◌, ◌++◌, length, get_or, drop, filter, Option, refl, sym, ap, ◌∙◌, arith}
use Rattle.std.specs.Prelude.{cond, nat_le}
use Rattle.std.proofs.lemmas.Grind.{common_steps}
use Rattle.std.proofs.lemmas.Bool.Decides.{nat_tests}
use Rattle.cob_lex.specs.declared.fault.SourceFault.{SourceFault}
use Rattle.cob_lex.specs.declared.fault.SourceKind.TheVariants as faults
use Rattle.cob_lex.specs.declared.token.Token.{Token}
use Rattle.cob_forms.specs.Faults.{first}
use Rattle.cob_data.specs.Entries.{first_token, is_item}
use Rattle.cob_data.specs.Faults.{characters_past, unless}
use Rattle.cob_data.specs.Levels.{own_size}
use Rattle.cob_data.proofs.Fronts.{front_at, nothing_behind}

-- whether the limit is met with one item more
abbrev fits : ℕ → ℕ → ℕ → Bool
fits limit total sum = nat_lt limit total || nat_le sum limit

is_past : (limit total sum : ℕ) → total ≤ limit → limit < sum → fits limit total sum ≡ false
is_past limit total sum h k = grind (arith, common_steps, nat_tests)

was_past : (limit total sum : ℕ) → limit < total → fits limit total sum ≡ true
was_past limit total sum h = grind (arith, common_steps, nat_tests)

kept : (b : Bool) (x : List Token) (xs : List (List Token)) → is_item x ≡ b → filter is_item (x ∷ xs) ≡ cond b (x ∷ filter is_item xs) (filter is_item xs)
kept b x xs h = rw h refl

-- once they are too many, no further item is told
none_past : (limit total : ℕ) (xs : List (List Token)) → limit < total → characters_past limit total xs ≡ []
none_past limit total [] h = refl
none_past limit total (x ∷ xs) h = rw (was_past limit total (total + own_size x) h) (none_past limit (total + own_size x) xs (omega (arith, h)))

one_past : (limit total : ℕ) (x : List Token) (xs : List (List Token)) → total ≤ limit → limit < total + own_size x → characters_past limit total (x ∷ xs) ≡ unless false faults.OverLimit (first_token x)
one_past limit total x xs h k =
    rw (is_past limit total (total + own_size x) h k) (ap (λ ys. unless false faults.OverLimit (first_token x) ++ ys) (none_past limit (total + own_size x) xs k) ∙ nothing_behind (unless false faults.OverLimit (first_token x)))

-- the item at a place is one too many
pub item_past : (limit total size i : ℕ) (x : List Token) (xs : List (List Token)) (whole : Option SourceFault) → i < length xs → x ≡ get_or xs i x → is_item x ≡ true → size ≡ own_size x → total ≤ limit → limit < total + size
    → first (characters_past limit total (filter is_item (drop i xs))) ≡ whole → first (unless false faults.OverLimit (first_token x)) ≡ whole
item_past limit total size i x xs whole within at_place some sizes fit past left =
    let items : filter is_item (drop i xs) ≡ x ∷ filter is_item (drop (i + 1) xs) = ap (filter is_item) (front_at xs i x within at_place) ∙ kept true x (drop (i + 1) xs) some in
    let same : characters_past limit total (filter is_item (drop i xs)) ≡ unless false faults.OverLimit (first_token x) =
    ap (characters_past limit total) items ∙ one_past limit total x (filter is_item (drop (i + 1) xs)) fit (omega (arith, sizes, past)) in
    ap first (sym same) ∙ left
