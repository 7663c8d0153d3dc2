-- Reading some tokens and reading them with others behind them.
use Rattle.std.proofs.Common.{◌≡◌, ℕ, zero, suc, ◌+◌, ◌≤◌, Bool, true, false, List, [], ◌∷◌, ◌++◌, length, Option, Some, None, ap, ◌∙◌, arith}
use Rattle.std.specs.Prelude.{if◌then◌else◌}
use Rattle.cob_lex.specs.declared.token.Token.{Token}
use Rattle.cob_forms.specs.Forms.{Part, Alternatives, Reading, ends, wanted, goes_on, may_end, next, reading}

-- reading went over all of the tokens
abbrev pub Passed : Reading → Type 0
Passed (ends []) = Unit {0}
Passed (ends (t ∷ ts)) = ⊥
Passed (wanted zero) = Unit {0}
Passed (wanted (suc left)) = ⊥

-- no more than so many tokens are left
abbrev pub Within : ℕ → Reading → Type 0
Within most (ends ts) = length ts ≤ most
Within most (wanted left) = left ≤ most

longer : (most : ℕ) (read : Reading) → Within most read → Within (suc most) read
longer most (ends ts) h = omega (arith, h)
longer most (wanted left) h = omega (arith, h)

no_part : (b : Bool) → Within 0 (if b then ends [] else wanted 0)
no_part true = omega arith
no_part false = omega arith

next_within : {Form : Type 0} (alternatives_of : Form → Alternatives Form) (o : Option (List (Part Form))) (ts : List Token) → ((parts : List (Part Form)) → Within (length ts) (reading alternatives_of parts ts))
    → Within (suc (length ts)) (goes_on o (λ left. reading alternatives_of left ts) (suc (length ts)))
next_within alternatives_of None ts h = omega arith
next_within alternatives_of (Some parts) ts h = longer (length ts) (reading alternatives_of parts ts) (h parts)

pub within : {Form : Type 0} (alternatives_of : Form → Alternatives Form) (parts : List (Part Form)) (ts : List Token) → Within (length ts) (reading alternatives_of parts ts)
unfolding reading
within alternatives_of [] ts = omega arith
within alternatives_of (part ∷ parts) [] = no_part (may_end (part ∷ parts))
within alternatives_of (part ∷ parts) (t ∷ ts) = next_within alternatives_of (next alternatives_of (part ∷ parts) t) ts (λ left. within alternatives_of left ts)

-- where reading some tokens goes over all of them, so does reading with others behind them
passes_next : {Form : Type 0} (alternatives_of : Form → Alternatives Form) (o : Option (List (Part Form))) (ts behind : List Token)
    → ((parts : List (Part Form)) → Passed (reading alternatives_of parts ts) → Within (length behind) (reading alternatives_of parts (ts ++ behind)))
    → Passed (goes_on o (λ left. reading alternatives_of left ts) (suc (length ts))) → Within (length behind) (goes_on o (λ left. reading alternatives_of left (ts ++ behind)) (suc (length (ts ++ behind))))
passes_next alternatives_of None ts behind h k = absurd k
passes_next alternatives_of (Some parts) ts behind h k = h parts k

pub passes : {Form : Type 0} (alternatives_of : Form → Alternatives Form) (parts : List (Part Form)) (ts behind : List Token) → Passed (reading alternatives_of parts ts) → Within (length behind) (reading alternatives_of parts (ts ++ behind))
unfolding reading
passes alternatives_of parts [] behind h = within alternatives_of parts behind
passes alternatives_of [] (t ∷ ts) behind h = absurd h
passes alternatives_of (part ∷ parts) (t ∷ ts) behind h = passes_next alternatives_of (next alternatives_of (part ∷ parts) t) ts behind (λ left. passes alternatives_of left ts behind) h

-- where it stops at one of them, it stops there whatever is behind them
plus : (n m : ℕ) → suc (n + m) ≡ suc n + m
plus n m = omega arith

length_of_both : (ts behind : List Token) → length (ts ++ behind) ≡ length ts + length behind
length_of_both [] behind = omega arith
length_of_both (t ∷ ts) behind = ap suc (length_of_both ts behind) ∙ plus (length ts) (length behind)

none_left : (b : Bool) (left : ℕ) → (if b then ends [] else wanted 0) ≡ wanted (suc left) → ⊥
none_left true left h = cc
none_left false left h = cc

abbrev left_of : Reading → ℕ
left_of (ends ts) = 0
left_of (wanted left) = left

stops_next : {Form : Type 0} (alternatives_of : Form → Alternatives Form) (o : Option (List (Part Form))) (ts behind : List Token) (left : ℕ)
    → ((parts : List (Part Form)) → reading alternatives_of parts ts ≡ wanted (suc left) → reading alternatives_of parts (ts ++ behind) ≡ wanted (suc left + length behind))
    → goes_on o (λ left. reading alternatives_of left ts) (suc (length ts)) ≡ wanted (suc left) → goes_on o (λ left. reading alternatives_of left (ts ++ behind)) (suc (length (ts ++ behind))) ≡ wanted (suc left + length behind)
stops_next alternatives_of None ts behind left h k =
    let same : suc (length ts) ≡ suc left = ap left_of k in
    let both : length (ts ++ behind) ≡ length ts + length behind = length_of_both ts behind in
    let all : suc (length (ts ++ behind)) ≡ suc left + length behind = omega (arith, same, both) in
    ap wanted all
stops_next alternatives_of (Some parts) ts behind left h k = h parts k

pub stops : {Form : Type 0} (alternatives_of : Form → Alternatives Form) (parts : List (Part Form)) (ts behind : List Token) (left : ℕ) → reading alternatives_of parts ts ≡ wanted (suc left) → reading alternatives_of parts (ts ++ behind) ≡ wanted (suc left + length behind)
unfolding reading
stops alternatives_of [] ts behind left h = let no : ⊥ = cc in absurd no
stops alternatives_of (part ∷ parts) [] behind left h = absurd (none_left (may_end (part ∷ parts)) left h)
stops alternatives_of (part ∷ parts) (t ∷ ts) behind left h = stops_next alternatives_of (next alternatives_of (part ∷ parts) t) ts behind left (λ qs. stops alternatives_of qs ts behind left) h
