-- Names one by one.
use Rattle.std.proofs.Common.{◌≡◌, ℕ, zero, suc, ◌+◌, ◌<◌, ◌≤◌, Bool, true, false, not, Bor, List, [], ◌∷◌, ◌++◌, length, get_or, map, filter, drop, append_assoc, arith, Option, Some, None, refl, sym, ap, ◌∙◌}
use Rattle.std.specs.List.{list_any}
use Rattle.std.specs.Prelude.{cond, if◌then◌else◌}
use Rattle.std.specs.Str.{bytes_eq}
use Rattle.std.proofs.lemmas.List.{drop_more}
use Rattle.cob_lex.specs.declared.fault.SourceFault.{SourceFault}
use Rattle.cob_lex.specs.declared.fault.SourceKind.TheVariants as faults
use Rattle.cob_lex.specs.declared.token.Token.{Token}
use Rattle.cob_forms.specs.Faults.{earlier, fault, first}
use Rattle.cob_forms.specs.Sorts.{is, name}
use Rattle.cob_data.specs.Faults.{name_faults, name_past, names_in, unless}
use Rattle.cob_data.proofs.Firsts.{one_more}
use Rattle.cob_data.proofs.SeenTexts.{SameTexts, more_texts}

abbrev pub shown : List (Bor Token) → List Token
shown tokens = map (λ t. t.now) tokens

-- which texts stood before is all that counts of them
pub same_name_faults : (names : List Token) (xs ys : List (List ℕ)) → SameTexts xs ys → name_faults xs names ≡ name_faults ys names
same_name_faults [] xs ys same = refl
same_name_faults (t ∷ ts) xs ys same =
    ap (λ b. unless (not b) faults.TwiceDeclared (Some t) ++ name_faults (t.text ∷ xs) ts) (same t.text)
    ∙ ap (λ others. unless (not (list_any (bytes_eq t.text) ys)) faults.TwiceDeclared (Some t) ++ others) (same_name_faults ts (t.text ∷ xs) (t.text ∷ ys) (more_texts t.text xs ys same))

pub name_at : (names : List (Bor Token)) (at : ℕ) (x : Bor Token) (found : Option SourceFault) (texts next : List (List ℕ)) → at < length names → x ≡ get_or names at x → SameTexts next (x.now.text ∷ texts)
    → earlier (earlier found (first (unless (not (list_any (bytes_eq x.now.text) texts)) faults.TwiceDeclared (Some x.now)))) (first (name_faults next (shown (drop (at + 1) names)))) ≡ earlier found (first (name_faults texts (shown (drop at names))))
name_at names at x found texts next within at_place same =
    let split : drop at names ≡ x ∷ drop (at + 1) names = drop_more names at x within ∙ ap (λ y. y ∷ drop (at + 1) names) (sym at_place) in
    let here = unless (not (list_any (bytes_eq x.now.text) texts)) faults.TwiceDeclared (Some x.now) in
    ap (λ fs. earlier (earlier found (first here)) (first fs)) (same_name_faults (shown (drop (at + 1) names)) next (x.now.text ∷ texts) same)
    ∙ one_more found here (name_faults (x.now.text ∷ texts) (shown (drop (at + 1) names)))
    ∙ ap (λ ns. earlier found (first (name_faults texts (shown ns)))) (sym split)

-- the name behind as many as there may be
past_at : (n : ℕ) (names : List (Bor Token)) (x : Bor Token) → n < length names → x ≡ get_or names n x → name_past n (shown names) ≡ fault x.now.line x.now.column faults.OverLimit ∷ []
past_at n [] x lt is = absurd (omega (arith, lt))
past_at zero (y ∷ ys) x lt is = ap (λ z. fault z.now.line z.now.column faults.OverLimit ∷ []) (sym is)
past_at (suc n) (y ∷ ys) x lt is = past_at n ys x (omega (arith, lt)) is

pub past_first : (n : ℕ) (names : List (Bor Token)) (x : Bor Token) → n < length names → x ≡ get_or names n x → first (name_past n (shown names)) ≡ Some (fault x.now.line x.now.column faults.OverLimit)
past_first n names x lt is = ap first (past_at n names x lt is)

none_past : (n : ℕ) (names : List (Bor Token)) → length names ≤ n → name_past n (shown names) ≡ []
none_past zero [] le = refl
none_past (suc n) [] le = refl
none_past zero (y ∷ ys) le = absurd (omega (arith, le))
none_past (suc n) (y ∷ ys) le = none_past n ys (omega (arith, le))

pub past_none : (n : ℕ) (names : List (Bor Token)) → length names ≤ n → first (name_past n (shown names)) ≡ None
past_none n names le = ap first (none_past n names le)

-- names token by token, and entry by entry
names_by : (b : Bool) (t : Token) (ts : List Token) → (if b then t ∷ [] else []) ++ ts ≡ cond b (t ∷ ts) ts
names_by true t ts = refl
names_by false t ts = refl

pub name_next : (b : Bool) (front before : List Token) (ts : List Token) (i : ℕ) (t : Token) → i < length ts → t ≡ get_or ts i t → is name t ≡ b → front ≡ before ++ (if b then t ∷ [] else [])
    → front ++ filter (is name) (drop (i + 1) ts) ≡ before ++ filter (is name) (drop i ts)
name_next b front before ts i t within at_place test added =
    let split : drop i ts ≡ t ∷ drop (i + 1) ts = drop_more ts i t within ∙ ap (λ y. y ∷ drop (i + 1) ts) (sym at_place) in
    let others = filter (is name) (drop (i + 1) ts) in
    ap (λ xs. xs ++ others) added ∙ append_assoc before (if b then t ∷ [] else []) others
    ∙ ap (λ xs. before ++ xs) (names_by b t others ∙ ap (λ c. cond c (t ∷ others) others) (sym test) ∙ ap (filter (is name)) (sym split))

pub entry_next : (tokens_of : List Token → List Token) (front before : List Token) (entries : List (List Token)) (i : ℕ) (e : List Token) → i < length entries → e ≡ get_or entries i e
    → front ≡ before ++ filter (is name) (tokens_of e) → front ++ names_in (map tokens_of (drop (i + 1) entries)) ≡ before ++ names_in (map tokens_of (drop i entries))
entry_next tokens_of front before entries i e within at_place added =
    let split : drop i entries ≡ e ∷ drop (i + 1) entries = drop_more entries i e within ∙ ap (λ y. y ∷ drop (i + 1) entries) (sym at_place) in
    let others = names_in (map tokens_of (drop (i + 1) entries)) in
    ap (λ xs. xs ++ others) added ∙ append_assoc before (filter (is name) (tokens_of e)) others
    ∙ ap (λ es. before ++ names_in (map tokens_of es)) (sym split)

pub all_same : (entries : List (List Token)) → names_in (map (λ e. e) entries) ≡ names_in entries
all_same [] = refl
all_same (e ∷ es) = ap (λ ns. filter (is name) e ++ ns) (all_same es)
