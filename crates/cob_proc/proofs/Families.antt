-- The faults of read tokens, family by family, and of one token more.
use Rattle.std.proofs.Common.{◌≡◌, ℕ, zero, suc, ◌+◌, ◌<◌, ◌≤◌, Bool, true, false, not, ◌||◌, Bor, List, [], ◌∷◌, ◌++◌, length, get_or, map, drop, take, append_assoc, arith, Option, Some, None, refl, sym, ap, ◌∙◌}
use Rattle.std.specs.List.{list_any}
use Rattle.std.specs.Str.{bytes_eq}
use Rattle.std.specs.Prelude.{if◌then◌else◌}
use Rattle.cob_lex.specs.declared.fault.SourceKind.TheVariants as faults
use Rattle.cob_lex.specs.declared.fault.SourceFault.{SourceFault}
use Rattle.cob_lex.specs.declared.token.Token.{Token}
use Rattle.cob_forms.specs.Faults.{earlier, fault, first, noted}
use Rattle.std.proofs.lemmas.List.{drop_all, drop_more}
use Rattle.cob_forms.proofs.Order.{first-append, grouped}
use Rattle.cob_proc.specs.declared.limits.TheConstants.{MAX_IFS, MAX_PARAGRAPHS}
use Rattle.cob_forms.specs.Sorts.{in_area_a}
use Rattle.cob_proc.specs.Faults.{bad_columns, column_behind, deep_ifs, name_behind, named_again, names_paragraph, paragraph_names, read_faults, too_many, without_identifier}

-- what is found so far, and what one token more and those behind it have
pub one_more : (found : Option SourceFault) (here others : List SourceFault) → earlier (earlier found (first here)) (first others) ≡ earlier found (first (here ++ others))
one_more found here others = sym (ap (earlier found) (first-append here others) ∙ grouped found (first here) (first others))

first_of_five : (a b c d e : List SourceFault) → first ((((a ++ b) ++ c) ++ d) ++ e) ≡ earlier (earlier (earlier (earlier (first a) (first b)) (first c)) (first d)) (first e)
first_of_five a b c d e =
    first-append (((a ++ b) ++ c) ++ d) e ∙ ap (λ o. earlier o (first e)) (first-append ((a ++ b) ++ c) d ∙ ap (λ o. earlier o (first d)) (first-append (a ++ b) c ∙ ap (λ o. earlier o (first c)) (first-append a b)))

pub first_of_all : (ts : List Token) → first (read_faults ts) ≡ earlier (earlier (earlier (earlier (first (bad_columns None ts)) (first (named_again [] (paragraph_names None ts))))
    (first (too_many MAX_PARAGRAPHS (paragraph_names None ts)))) (first (deep_ifs MAX_IFS [] ts))) (first (without_identifier ts))
first_of_all ts = first_of_five (bad_columns None ts) (named_again [] (paragraph_names None ts)) (too_many MAX_PARAGRAPHS (paragraph_names None ts)) (deep_ifs MAX_IFS [] ts) (without_identifier ts)

-- what is left where the first token has been looked at
abbrev pub columns_behind : List Token → List SourceFault
columns_behind [] = []
columns_behind (t ∷ ts) = bad_columns (Some t) ts

pub one_column : (found : Option SourceFault) (t : Token) (ts : List Token) → earlier (earlier found (first (column_behind t ts))) (first (columns_behind ts)) ≡ earlier found (first (columns_behind (t ∷ ts)))
one_column found t [] = sym (grouped found None None)
one_column found t (u ∷ us) = one_more found (column_behind t (u ∷ us)) (bad_columns (Some u) us)

pub all_columns : (t : Token) (ts : List Token) → earlier (first (noted (not (in_area_a t)) faults.BadColumn t)) (first (columns_behind (t ∷ ts))) ≡ first (bad_columns None (t ∷ ts))
all_columns t ts = sym (first-append (noted (not (in_area_a t)) faults.BadColumn t) (bad_columns (Some t) ts))

abbrev pub names_behind : List Token → List Token
names_behind [] = []
names_behind (t ∷ ts) = paragraph_names (Some t) ts

names_if : (b : Bool) (u : Token) (others : List Token) → (if b then u ∷ [] else []) ++ others ≡ (if b then u ∷ others else others)
names_if true u others = refl
names_if false u others = refl

pub one_name : (t : Token) (ts : List Token) → name_behind t ts ++ names_behind ts ≡ names_behind (t ∷ ts)
one_name t [] = refl
one_name t (u ∷ us) = names_if (names_paragraph (Some t) u) u (paragraph_names (Some u) us)

pub all_names : (ts : List Token) → names_behind ts ≡ paragraph_names None ts
all_names [] = refl
all_names (t ∷ ts) = refl

-- texts of names, the last first
abbrev pub texts_behind : List (List ℕ) → List Token → List (List ℕ)
texts_behind texts [] = texts
texts_behind texts (t ∷ ts) = texts_behind (t.text ∷ texts) ts

or_moved : (a b c : Bool) → ((a || b) || c) ≡ (b || (a || c))
or_moved true true c = refl
or_moved true false c = refl
or_moved false true c = refl
or_moved false false c = refl

or_none : (a : Bool) → a ≡ (a || false)
or_none true = refl
or_none false = refl

any_texts : (text : List ℕ) (texts : List (List ℕ)) (front : List (Bor Token))
    → list_any (λ other. bytes_eq text other) (texts_behind texts (map (λ t. t.now) front)) ≡ (list_any (λ other. bytes_eq text other) texts || list_any (λ other. bytes_eq text other.now.text) front)
any_texts text texts [] = or_none (list_any (λ other. bytes_eq text other) texts)
any_texts text texts (x ∷ xs) =
    any_texts text (x.now.text ∷ texts) xs ∙ or_moved (bytes_eq text x.now.text) (list_any (λ other. bytes_eq text other) texts) (list_any (λ other. bytes_eq text other.now.text) xs)

texts_more : (texts : List (List ℕ)) (front : List (Bor Token)) (x : Bor Token) → texts_behind texts (map (λ t. t.now) (front ++ x ∷ [])) ≡ x.now.text ∷ texts_behind texts (map (λ t. t.now) front)
texts_more texts [] x = refl
texts_more texts (y ∷ ys) x = texts_more (y.now.text ∷ texts) ys x

pub take_front : {A : Type 0} (xs ys : List A) → take (length xs) (xs ++ ys) ≡ xs
take_front [] ys = refl
take_front (x ∷ xs) ys = ap (λ zs. x ∷ zs) (take_front xs ys)

pub length_more : {A : Type 0} (xs : List A) (x : A) → length (xs ++ x ∷ []) ≡ length xs + 1
length_more [] x = refl
length_more (y ∷ ys) x = let more : length (ys ++ x ∷ []) ≡ length ys + 1 = length_more ys x in omega (arith, more)

-- names that were looked at, and those behind them
pub record Looked (names rest : List (Bor Token)) (at : ℕ) (found : Option SourceFault) : Type 0 where
  pub front : List (Bor Token)
  pub split : names ≡ front ++ rest
  pub count : at ≡ length front
  pub so_far : earlier found (first (named_again (texts_behind [] (map (λ t. t.now) front)) (map (λ t. t.now) rest))) ≡ first (named_again [] (map (λ t. t.now) names))

pub look_on : (names : List (Bor Token)) (x : Bor Token) (rest : List (Bor Token)) (at : ℕ) (found : Option SourceFault) → Looked names (x ∷ rest) at found
    → Looked names rest (at + 1) (earlier found (first (noted (list_any (λ other. bytes_eq x.now.text other.now.text) (take at names)) faults.TwiceDeclared x.now)))
look_on names x rest at found l =
    let seen : take at names ≡ l.front = rw (l.count, l.split) (take_front l.front (x ∷ rest)) in
    let again : list_any (λ other. bytes_eq x.now.text other.now.text) (take at names) ≡ list_any (λ text. bytes_eq x.now.text text) (texts_behind [] (map (λ t. t.now) l.front)) =
    ap (list_any (λ other. bytes_eq x.now.text other.now.text)) seen ∙ sym (any_texts x.now.text [] l.front) in
    record {
      front = l.front ++ x ∷ [];
      split = l.split ∙ sym (append_assoc l.front (x ∷ []) rest);
      count = ap (λ n. n + 1) l.count ∙ sym (length_more l.front x);
      so_far = rw (texts_more [] l.front x, again) (one_more found (noted (list_any (λ text. bytes_eq x.now.text text) (texts_behind [] (map (λ t. t.now) l.front))) faults.TwiceDeclared x.now) (named_again (x.now.text ∷ texts_behind [] (map (λ t. t.now) l.front)) (map (λ t. t.now) rest)) ∙ l.so_far);
    }

pub look_at : (names : List (Bor Token)) (at : ℕ) (x : Bor Token) (found : Option SourceFault) → at < length names → x ≡ get_or names at x → Looked names (drop at names) at found
    → Looked names (drop (at + 1) names) (at + 1) (earlier found (first (noted (list_any (λ other. bytes_eq x.now.text other.now.text) (take at names)) faults.TwiceDeclared x.now)))
look_at names at x found within is l =
    let left : drop at names ≡ x ∷ drop (at + 1) names = drop_more names at x within ∙ ap (λ y. y ∷ drop (at + 1) names) (sym is) in
    look_on names x (drop (at + 1) names) at found (rw left at l)

no_other : (found : Option SourceFault) → earlier found None ≡ found
no_other None = refl
no_other (Some x) = refl

pub looked_all : (names : List (Bor Token)) (at : ℕ) (found : Option SourceFault) → length names ≤ at → Looked names (drop at names) at found → found ≡ first (named_again [] (map (λ t. t.now) names))
looked_all names at found le l =
    let none : drop at names ≡ [] = drop_all at names le in
    let all : Looked names [] at found = rw none at l in
    sym (no_other found) ∙ all.so_far

pub look_first : (names : List (Bor Token)) → Looked names (drop 0 names) 0 None
look_first names = record { front = []; split = refl; count = refl; so_far = refl }

-- the paragraph behind as many as may be
surplus_at : (n : ℕ) (names : List (Bor Token)) (x : Bor Token) → n < length names → x ≡ get_or names n x → too_many n (map (λ t. t.now) names) ≡ noted true faults.OverLimit x.now
surplus_at n [] x lt is = absurd (omega (arith, lt))
surplus_at zero (y ∷ ys) x lt is = ap (λ z. noted true faults.OverLimit z.now) (sym is)
surplus_at (suc n) (y ∷ ys) x lt is = surplus_at n ys x (omega (arith, lt)) is

pub surplus_first : (n : ℕ) (names : List (Bor Token)) (x : Bor Token) → n < length names → x ≡ get_or names n x → first (too_many n (map (λ t. t.now) names)) ≡ Some (fault x.now.line x.now.column faults.OverLimit)
surplus_first n names x lt is = ap first (surplus_at n names x lt is)

none_too_many : (n : ℕ) (names : List (Bor Token)) → length names ≤ n → too_many n (map (λ t. t.now) names) ≡ []
none_too_many zero [] le = refl
none_too_many (suc n) [] le = refl
none_too_many zero (y ∷ ys) le = absurd (omega (arith, le))
none_too_many (suc n) (y ∷ ys) le = none_too_many n ys (omega (arith, le))

pub surplus_none : (n : ℕ) (names : List (Bor Token)) → length names ≤ n → first (too_many n (map (λ t. t.now) names)) ≡ None
surplus_none n names le = ap first (none_too_many n names le)
