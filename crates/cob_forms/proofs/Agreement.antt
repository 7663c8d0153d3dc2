-- A reader goes as the parts of its form say, whatever has to come behind it.
use Rattle.std.proofs.Common.{◌≡◌, ℕ, suc, ◌≤◌, ◌<◌, Bool, true, false, List, [], ◌∷◌, ◌++◌, length, Option, Some, None, Result, Ok, Err, refl, ◌∙◌, append_assoc, arith}
use Rattle.std.specs.Prelude.{is_some}
use Rattle.std.specs.Bool.{if◌then◌else◌}
use Rattle.cob_lex.specs.declared.token.Token.{Token}
use Rattle.cob_forms.specs.Sorts.{Sort, is}
use Rattle.cob_forms.specs.Readers as readers
use Rattle.cob_forms.specs.Readers.{Reader, go_on, found, at, begins, ◌>>=◌, ◌>>◌}
use Rattle.cob_forms.specs.Forms.{Part, Alternatives, wanted, token, form, maybe, never, behind, next, reading, with_tail, starts}

-- What is found, or where another token is wanted, is what reading these parts first comes to, with one
-- part more or several behind them.
abbrev pub Agrees : {Form A : Type 0} → (Form → Alternatives Form) → Result (A × List Token) ℕ → List (Part Form) → List Token → Type 0
Agrees {Form} alternatives_of (Ok x) parts ts =
    (length x.1 ≤ length ts) × ((part : Part Form) (below : List (Part Form)) → reading alternatives_of (parts ++ part ∷ below) ts ≡ reading alternatives_of (part ∷ below) x.1)
Agrees {Form} alternatives_of (Err left) parts ts = (part : Part Form) (below : List (Part Form)) → reading alternatives_of (parts ++ part ∷ below) ts ≡ wanted left

pub record Follows {Form A : Type 0} (n : ℕ) (alternatives_of : Form → Alternatives Form) (r : Reader A) (parts : List (Part Form)) : Type 0 where
  pub on : (ts : List Token) → length ts ≤ n → Agrees alternatives_of (r ts) parts ts

-- with further parts behind the first
onto : {Form : Type 0} (alternatives_of : Form → Alternatives Form) (ps qs : List (Part Form)) (ts rest : List Token)
    → ((part : Part Form) (below : List (Part Form)) → reading alternatives_of (ps ++ part ∷ below) ts ≡ reading alternatives_of (part ∷ below) rest)
    → (part : Part Form) (below : List (Part Form)) → reading alternatives_of (ps ++ (qs ++ part ∷ below)) ts ≡ reading alternatives_of (qs ++ part ∷ below) rest
onto alternatives_of ps [] ts rest h part below = h part below
onto alternatives_of ps (q ∷ qs) ts rest h part below = h q (qs ++ part ∷ below)

stopped : {Form : Type 0} (alternatives_of : Form → Alternatives Form) (ps qs : List (Part Form)) (ts : List Token) (left : ℕ)
    → ((part : Part Form) (below : List (Part Form)) → reading alternatives_of (ps ++ part ∷ below) ts ≡ wanted left)
    → (part : Part Form) (below : List (Part Form)) → reading alternatives_of (ps ++ (qs ++ part ∷ below)) ts ≡ wanted left
stopped alternatives_of ps [] ts left h part below = h part below
stopped alternatives_of ps (q ∷ qs) ts left h part below = h q (qs ++ part ∷ below)

-- one after the other
pub after : {Form A : Type 0} (alternatives_of : Form → Alternatives Form) (res : Result (A × List Token) ℕ) (ps qs : List (Part Form)) (ts rest : List Token) → length rest ≤ length ts
    → ((part : Part Form) (below : List (Part Form)) → reading alternatives_of (ps ++ part ∷ below) ts ≡ reading alternatives_of (part ∷ below) rest)
    → Agrees alternatives_of res qs rest → Agrees alternatives_of res (ps ++ qs) ts
after alternatives_of (Ok y) ps qs ts rest le h a = (omega (arith, a.0), λ part below. rw append_assoc (onto alternatives_of ps qs ts rest h part below ∙ a.1 part below))
after alternatives_of (Err left) ps qs ts rest le h a = λ part below. rw append_assoc (onto alternatives_of ps qs ts rest h part below ∙ a part below)

pub bind_at : {Form A B : Type 0} {n : ℕ} (alternatives_of : Form → Alternatives Form) (res : Result (A × List Token) ℕ) (f : A → Reader B) (ps qs : List (Part Form)) (ts : List Token) → length ts ≤ n
    → Agrees alternatives_of res ps ts → ((x : A) → Follows n alternatives_of (f x) qs) → Agrees alternatives_of (go_on f res) (ps ++ qs) ts
bind_at alternatives_of (Ok x) f ps qs ts le h k = after alternatives_of (f x.0 x.1) ps qs ts x.1 h.0 h.1 ((k x.0).on x.1 (omega (arith, h.0, le)))
bind_at alternatives_of (Err left) f ps qs ts le h k = λ part below. rw append_assoc (stopped alternatives_of ps qs ts left h part below)

pub bind : {Form A B : Type 0} {n : ℕ} {alternatives_of : Form → Alternatives Form} {r : Reader A} {f : A → Reader B} {ps qs : List (Part Form)}
    → Follows n alternatives_of r ps → ((x : A) → Follows n alternatives_of (f x) qs) → Follows n alternatives_of (r >>= f) (ps ++ qs)
bind {alternatives_of = alternatives_of} {r = r} {f = f} {ps = ps} {qs = qs} h k = record { on = λ ts le. bind_at alternatives_of (r ts) f ps qs ts le (h.on ts le) k }

pub done : {Form A : Type 0} {n : ℕ} {alternatives_of : Form → Alternatives Form} (x : A) → Follows n alternatives_of (found x) []
done x = record { on = λ ts le. (omega arith, λ part below. refl) }

token_test : {Form : Type 0} (alternatives_of : Form → Alternatives Form) (sort : Sort) (t : Token) (ts : List Token) (b : Bool) → is sort t ≡ b
    → Agrees alternatives_of (if b then Ok (t, ts) else Err (length (t ∷ ts))) (token sort ∷ []) (t ∷ ts)
unfolding reading next
token_test alternatives_of sort t ts true h = (omega arith, λ part below. rw h refl)
token_test alternatives_of sort t ts false h = λ part below. rw h refl

token_at : {Form : Type 0} (alternatives_of : Form → Alternatives Form) (sort : Sort) (ts : List Token) → Agrees alternatives_of (readers.one sort ts) (token sort ∷ []) ts
unfolding reading
token_at alternatives_of sort [] = λ part below. refl
token_at alternatives_of sort (t ∷ ts) = token_test alternatives_of sort t ts (is sort t) refl

pub takes : {Form : Type 0} {n : ℕ} {alternatives_of : Form → Alternatives Form} (sort : Sort) → Follows n alternatives_of (readers.one sort) (token sort ∷ [])
takes {alternatives_of = alternatives_of} sort = record { on = λ ts le. token_at alternatives_of sort ts }

-- The reader enters a form exactly where the next token is of a sort with which the form begins, and goes on with the parts behind it.
abbrev pub Enters : {Form A : Type 0} → (Form → Alternatives Form) → Result (A × List Token) ℕ → Option (List (Part Form)) → Token → List Token → Type 0
Enters alternatives_of res None t ts = res ≡ Err (length (t ∷ ts))
Enters alternatives_of res (Some parts) t ts = Agrees alternatives_of res parts ts

pub record Opens {Form A : Type 0} (n : ℕ) (alternatives_of : Form → Alternatives Form) (r : Reader A) (alternatives : Alternatives Form) : Type 0 where
  pub nothing : r [] ≡ Err 0
  pub on : (t : Token) (ts : List Token) → length (t ∷ ts) ≤ n → Enters alternatives_of (r (t ∷ ts)) (behind alternatives t) t ts

-- the same where the form may be left out
abbrev pub MayEnter : {Form A : Type 0} → (Form → Alternatives Form) → Result (A × List Token) ℕ → Option (List (Part Form)) → Token → List Token → Type 0
MayEnter {Form} {A} alternatives_of res None t ts = (x : A) × (res ≡ Ok (x, t ∷ ts))
MayEnter alternatives_of res (Some parts) t ts = Agrees alternatives_of res parts ts

pub record MayOpen {Form A : Type 0} (n : ℕ) (alternatives_of : Form → Alternatives Form) (r : Reader A) (alternatives : Alternatives Form) : Type 0 where
  pub nothing : (x : A) × (r [] ≡ Ok (x, []))
  pub on : (t : Token) (ts : List Token) → length (t ∷ ts) ≤ n → MayEnter alternatives_of (r (t ∷ ts)) (behind alternatives t) t ts

-- from an entered form to a part
form_none : {Form A : Type 0} (alternatives_of : Form → Alternatives Form) (f : Form) (res : Result (A × List Token) ℕ) (t : Token) (ts : List Token) → behind (alternatives_of f) t ≡ None → res ≡ Err (length (t ∷ ts))
    → Agrees alternatives_of res (form f ∷ []) (t ∷ ts)
unfolding reading next
form_none alternatives_of f res t ts h e = rw e (λ part below. rw h refl)

form_at : {Form A : Type 0} (alternatives_of : Form → Alternatives Form) (f : Form) (res : Result (A × List Token) ℕ) (t : Token) (ts : List Token) (o : Option (List (Part Form))) → behind (alternatives_of f) t ≡ o
    → Enters alternatives_of res o t ts → Agrees alternatives_of res (form f ∷ []) (t ∷ ts)
unfolding reading next
form_at alternatives_of f (Ok x) t ts (Some parts) h a = (omega (arith, a.0), λ part below. rw h (a.1 part below))
form_at alternatives_of f (Err left) t ts (Some parts) h a = λ part below. rw h (a part below)
form_at alternatives_of f res t ts None h a = form_none alternatives_of f res t ts h a

form_all : {Form A : Type 0} (n : ℕ) (alternatives_of : Form → Alternatives Form) (f : Form) (r : Reader A) → Opens n alternatives_of r (alternatives_of f) → (ts : List Token) → length ts ≤ n → Agrees alternatives_of (r ts) (form f ∷ []) ts
unfolding reading
form_all n alternatives_of f r o [] le = rw (o.nothing) (λ part below. refl)
form_all n alternatives_of f r o (t ∷ ts) le = form_at alternatives_of f (r (t ∷ ts)) t ts (behind (alternatives_of f) t) refl (o.on t ts le)

pub is_form : {Form A : Type 0} {n : ℕ} {alternatives_of : Form → Alternatives Form} (f : Form) {r : Reader A} → Opens n alternatives_of r (alternatives_of f) → Follows n alternatives_of r (form f ∷ [])
is_form {n = n} {alternatives_of = alternatives_of} f {r = r} o = record { on = form_all n alternatives_of f r o }

-- from a form that may be left out to a part
skipped_at : {Form A : Type 0} (alternatives_of : Form → Alternatives Form) (f : Form) (x : A) (t : Token) (ts : List Token) → behind (alternatives_of f) t ≡ None → Agrees alternatives_of (Ok (x, t ∷ ts)) (maybe f ∷ []) (t ∷ ts)
unfolding reading next
skipped_at alternatives_of f x t ts h = (omega arith, λ part below. rw h refl)

maybe_at : {Form A : Type 0} (alternatives_of : Form → Alternatives Form) (f : Form) (res : Result (A × List Token) ℕ) (t : Token) (ts : List Token) (o : Option (List (Part Form))) → behind (alternatives_of f) t ≡ o
    → MayEnter alternatives_of res o t ts → Agrees alternatives_of res (maybe f ∷ []) (t ∷ ts)
unfolding reading next
maybe_at alternatives_of f (Ok x) t ts (Some parts) h a = (omega (arith, a.0), λ part below. rw h (a.1 part below))
maybe_at alternatives_of f (Err left) t ts (Some parts) h a = λ part below. rw h (a part below)
maybe_at alternatives_of f res t ts None h a = rw (a.1) (skipped_at alternatives_of f a.0 t ts h)

at_end : {Form : Type 0} (alternatives_of : Form → Alternatives Form) (f : Form) (part : Part Form) (below : List (Part Form)) → reading alternatives_of (maybe f ∷ part ∷ below) [] ≡ reading alternatives_of (part ∷ below) []
unfolding reading
at_end alternatives_of f part below = refl

maybe_all : {Form A : Type 0} (n : ℕ) (alternatives_of : Form → Alternatives Form) (f : Form) (r : Reader A) → MayOpen n alternatives_of r (alternatives_of f) → (ts : List Token) → length ts ≤ n → Agrees alternatives_of (r ts) (maybe f ∷ []) ts
maybe_all n alternatives_of f r o [] le = rw (o.nothing.1) (omega arith, at_end alternatives_of f)
maybe_all n alternatives_of f r o (t ∷ ts) le = maybe_at alternatives_of f (r (t ∷ ts)) t ts (behind (alternatives_of f) t) refl (o.on t ts le)

pub is_maybe : {Form A : Type 0} {n : ℕ} {alternatives_of : Form → Alternatives Form} (f : Form) {r : Reader A} → MayOpen n alternatives_of r (alternatives_of f) → Follows n alternatives_of r (maybe f ∷ [])
is_maybe {n = n} {alternatives_of = alternatives_of} f {r = r} o = record { on = maybe_all n alternatives_of f r o }

-- the alternatives of a form, one after another
last_at : {Form A : Type 0} {n : ℕ} (alternatives_of : Form → Alternatives Form) (f : Token → Reader A) (parts : List (Part Form)) (t : Token) (ts : List Token) (b : Bool) → length ts ≤ n → Follows n alternatives_of (f t) parts
    → Enters alternatives_of (go_on f (if b then Ok (t, ts) else Err (length (t ∷ ts)))) (if b then Some parts else None) t ts
last_at alternatives_of f parts t ts true le k = k.on ts le
last_at alternatives_of f parts t ts false le k = refl

pub alternative : {Form A : Type 0} {n : ℕ} {alternatives_of : Form → Alternatives Form} (sort : Sort) (f : Token → Reader A) {parts : List (Part Form)} → ((t : Token) → Follows n alternatives_of (f t) parts)
    → Opens n alternatives_of (readers.one sort >>= f) ((sort, parts) ∷ [])
alternative {alternatives_of = alternatives_of} sort f {parts = parts} k = record { nothing = refl; on = λ t ts le. last_at alternatives_of f parts t ts (is sort t) (omega (arith, le)) (k t) }

-- of one token more
pub alternative_of_more : {Form A : Type 0} {n : ℕ} {alternatives_of : Form → Alternatives Form} (sort : Sort) (f : Token → Reader A) {parts : List (Part Form)} → ((t : Token) → Follows n alternatives_of (f t) parts)
    → Opens (suc n) alternatives_of (readers.one sort >>= f) ((sort, parts) ∷ [])
alternative_of_more {alternatives_of = alternatives_of} sort f {parts = parts} k = record { nothing = refl; on = λ t ts le. last_at alternatives_of f parts t ts (is sort t) (omega (arith, le)) (k t) }

-- no alternative is entered
pub no_alternative : {Form A : Type 0} {n : ℕ} {alternatives_of : Form → Alternatives Form} → Opens {A = A} n alternatives_of readers.wanted []
no_alternative = record { nothing = refl; on = λ t ts le. refl }

chosen : {Form A : Type 0} (alternatives_of : Form → Alternatives Form) (here other : Result (A × List Token) ℕ) (parts : List (Part Form)) (o : Option (List (Part Form))) (t : Token) (ts : List Token) (b : Bool)
    → Enters alternatives_of here (if b then Some parts else None) t ts → Enters alternatives_of other o t ts → Enters alternatives_of (if b then here else other) (if b then Some parts else o) t ts
chosen alternatives_of here other parts o t ts true h k = h
chosen alternatives_of here other parts o t ts false h k = k

pub or_alternative : {Form A : Type 0} {n : ℕ} {alternatives_of : Form → Alternatives Form} {sort : Sort} {r other : Reader A} {parts : List (Part Form)} {alternatives : Alternatives Form}
    → Opens n alternatives_of r ((sort, parts) ∷ []) → Opens n alternatives_of other alternatives → Opens n alternatives_of (at (is sort) r other) ((sort, parts) ∷ alternatives)
or_alternative {alternatives_of = alternatives_of} {sort = sort} {r = r} {other = other} {parts = parts} {alternatives = alternatives} h k = record {
  nothing = k.nothing;
  on = λ t ts le. chosen alternatives_of (r (t ∷ ts)) (other (t ∷ ts)) parts (behind alternatives t) t ts (is sort t) (h.on t ts le) (k.on t ts le);
}

may_chosen : {Form A : Type 0} (alternatives_of : Form → Alternatives Form) (here other : Result (A × List Token) ℕ) (parts : List (Part Form)) (o : Option (List (Part Form))) (t : Token) (ts : List Token) (b : Bool)
    → Enters alternatives_of here (if b then Some parts else None) t ts → MayEnter alternatives_of other o t ts → MayEnter alternatives_of (if b then here else other) (if b then Some parts else o) t ts
may_chosen alternatives_of here other parts o t ts true h k = h
may_chosen alternatives_of here other parts o t ts false h k = k

pub or_skip : {Form A : Type 0} {n : ℕ} {alternatives_of : Form → Alternatives Form} {sort : Sort} {r other : Reader A} {parts : List (Part Form)} {alternatives : Alternatives Form}
    → Opens n alternatives_of r ((sort, parts) ∷ []) → MayOpen n alternatives_of other alternatives → MayOpen n alternatives_of (at (is sort) r other) ((sort, parts) ∷ alternatives)
or_skip {alternatives_of = alternatives_of} {sort = sort} {r = r} {other = other} {parts = parts} {alternatives = alternatives} h k = record {
  nothing = k.nothing;
  on = λ t ts le. may_chosen alternatives_of (r (t ∷ ts)) (other (t ∷ ts)) parts (behind alternatives t) t ts (is sort t) (h.on t ts le) (k.on t ts le);
}

pub skip : {Form A : Type 0} {n : ℕ} {alternatives_of : Form → Alternatives Form} (x : A) → MayOpen n alternatives_of (found x) []
skip x = record { nothing = (x, refl); on = λ t ts le. (x, refl) }

word_opens : {Form : Type 0} (alternatives_of : Form → Alternatives Form) (t : Token) (ts : List Token) (b : Bool)
    → Enters alternatives_of (if b then Ok (t, ts) else Err (length (t ∷ ts))) (if b then Some [] else None) t ts
word_opens alternatives_of t ts true = (omega arith, λ part below. refl)
word_opens alternatives_of t ts false = refl

-- a alternative with nothing behind
pub only_token : {Form : Type 0} {n : ℕ} {alternatives_of : Form → Alternatives Form} (sort : Sort) → Opens n alternatives_of (readers.one sort) ((sort, []) ∷ [])
only_token {alternatives_of = alternatives_of} sort = record { nothing = refl; on = λ t ts le. word_opens alternatives_of t ts (is sort t) }

-- a reader that may be left out, under a test of the sorts with which it begins
may_enter : {Form A : Type 0} (alternatives_of : Form → Alternatives Form) (res : Result (A × List Token) ℕ) (t : Token) (ts : List Token) (o : Option (List (Part Form))) → Enters alternatives_of res o t ts
    → MayEnter alternatives_of (if is_some o then go_on (λ x. found (Some x)) res else Ok (None, t ∷ ts)) o t ts
may_enter alternatives_of res t ts None h = (None, refl)
may_enter alternatives_of (Ok x) t ts (Some parts) h = h
may_enter alternatives_of (Err left) t ts (Some parts) h = h

pub may : {Form A : Type 0} {n : ℕ} {alternatives_of : Form → Alternatives Form} {r : Reader A} {alternatives : Alternatives Form} → Opens n alternatives_of r alternatives → MayOpen n alternatives_of (readers.maybe (starts alternatives) r) alternatives
may {alternatives_of = alternatives_of} {r = r} {alternatives = alternatives} h = record { nothing = (None, refl); on = λ t ts le. may_enter alternatives_of (r (t ∷ ts)) t ts (behind alternatives t) (h.on t ts le) }

pub may_word : {Form : Type 0} {n : ℕ} {alternatives_of : Form → Alternatives Form} (sort : Sort) → MayOpen n alternatives_of (readers.optional sort) ((sort, []) ∷ [])
may_word sort = or_skip (alternative sort _ (λ _. done true)) (skip false)

plain_enter : {Form A : Type 0} (alternatives_of : Form → Alternatives Form) (y : A) (res : Result (A × List Token) ℕ) (t : Token) (ts : List Token) (o : Option (List (Part Form))) → Enters alternatives_of res o t ts
    → MayEnter alternatives_of (if is_some o then res else Ok (y, t ∷ ts)) o t ts
plain_enter alternatives_of y res t ts None h = (y, refl)
plain_enter alternatives_of y res t ts (Some parts) h = h

pub may_else : {Form A : Type 0} {n : ℕ} {alternatives_of : Form → Alternatives Form} (y : A) {r : Reader A} {alternatives : Alternatives Form} → Opens n alternatives_of r alternatives → MayOpen n alternatives_of (at (starts alternatives) r (found y)) alternatives
may_else {alternatives_of = alternatives_of} y {r = r} {alternatives = alternatives} h = record { nothing = (y, refl); on = λ t ts le. plain_enter alternatives_of y (r (t ∷ ts)) t ts (behind alternatives t) (h.on t ts le) }

optional_at : {Form A : Type 0} {n : ℕ} (alternatives_of : Form → Alternatives Form) (k : Bool → Reader A) (parts : List (Part Form)) (o : Option (List (Part Form))) (t : Token) (ts : List Token) (b : Bool) → length (t ∷ ts) ≤ n
    → Follows n alternatives_of (k true) parts → Enters alternatives_of (k false (t ∷ ts)) o t ts
    → Enters alternatives_of (go_on k (if b then go_on (λ _. found true) (if b then Ok (t, ts) else Err (length (t ∷ ts))) else Ok (false, t ∷ ts))) (if b then Some parts else o) t ts
optional_at alternatives_of k parts o t ts true le h e = h.on ts (omega (arith, le))
optional_at alternatives_of k parts o t ts false le h e = e

-- an optional word, whose alternative stands before those of what comes behind it
pub or_optional : {Form A : Type 0} {n : ℕ} {alternatives_of : Form → Alternatives Form} (sort : Sort) (k : Bool → Reader A) {parts : List (Part Form)} {alternatives : Alternatives Form}
    → Follows n alternatives_of (k true) parts → Opens n alternatives_of (k false) alternatives → Opens n alternatives_of (readers.optional sort >>= k) ((sort, parts) ∷ alternatives)
or_optional {alternatives_of = alternatives_of} sort k {parts = parts} {alternatives = alternatives} h e = record {
  nothing = e.nothing;
  on = λ t ts le. optional_at alternatives_of k parts (behind alternatives t) t ts (is sort t) le h (e.on t ts le);
}

-- what is found is put into something
put_at : {Form A B : Type 0} (alternatives_of : Form → Alternatives Form) (g : A → B) (res : Result (A × List Token) ℕ) (o : Option (List (Part Form))) (t : Token) (ts : List Token) → Enters alternatives_of res o t ts
    → Enters alternatives_of (go_on (λ x. found (g x)) res) o t ts
put_at alternatives_of g (Ok x) (Some parts) t ts a = a
put_at alternatives_of g (Err left) (Some parts) t ts a = a
put_at alternatives_of g res None t ts a = rw a refl

pub then_done : {Form A B : Type 0} {n : ℕ} {alternatives_of : Form → Alternatives Form} (g : A → B) {r : Reader A} {alternatives : Alternatives Form} → Opens n alternatives_of r alternatives → Opens n alternatives_of (r >>= λ x. found (g x)) alternatives
then_done {alternatives_of = alternatives_of} g {r = r} {alternatives = alternatives} h = record { nothing = rw (h.nothing) refl; on = λ t ts le. put_at alternatives_of g (r (t ∷ ts)) (behind alternatives t) t ts (h.on t ts le) }

-- what follows each alternative
alternative_or : {Form A B : Type 0} {n : ℕ} (alternatives_of : Form → Alternatives Form) (res : Result (A × List Token) ℕ) (k : A → Reader B) (qs ps : List (Part Form)) (o u : Option (List (Part Form))) (t : Token) (ts : List Token) (b : Bool) → length (t ∷ ts) ≤ n
    → ((x : A) → Follows n alternatives_of (k x) ps) → (Enters alternatives_of res o t ts → Enters alternatives_of (go_on k res) u t ts)
    → Enters alternatives_of res (if b then Some qs else o) t ts → Enters alternatives_of (go_on k res) (if b then Some (qs ++ ps) else u) t ts
alternative_or alternatives_of res k qs ps o u t ts true le h e a = bind_at alternatives_of res k qs ps ts (omega (arith, le)) a h
alternative_or alternatives_of res k qs ps o u t ts false le h e a = e a

alternatives_bound : {Form A B : Type 0} {n : ℕ} (alternatives_of : Form → Alternatives Form) (res : Result (A × List Token) ℕ) (k : A → Reader B) (ps : List (Part Form)) (alternatives : Alternatives Form) (t : Token) (ts : List Token) → length (t ∷ ts) ≤ n
    → ((x : A) → Follows n alternatives_of (k x) ps) → Enters alternatives_of res (behind alternatives t) t ts → Enters alternatives_of (go_on k res) (behind (with_tail ps alternatives) t) t ts
alternatives_bound alternatives_of res k ps [] t ts le h a = rw a refl
alternatives_bound alternatives_of res k ps (alternative ∷ alternatives) t ts le h a =
    alternative_or alternatives_of res k alternative.1 ps (behind alternatives t) (behind (with_tail ps alternatives) t) t ts (is alternative.0 t) le h (λ e. alternatives_bound alternatives_of res k ps alternatives t ts le h e) a

pub alternatives_then : {Form A B : Type 0} {n : ℕ} {alternatives_of : Form → Alternatives Form} {r : Reader A} {k : A → Reader B} {ps : List (Part Form)} (alternatives : Alternatives Form)
    → Opens n alternatives_of r alternatives → ((x : A) → Follows n alternatives_of (k x) ps) → Opens n alternatives_of (r >>= k) (with_tail ps alternatives)
alternatives_then {alternatives_of = alternatives_of} {r = r} {k = k} {ps = ps} alternatives h f = record {
  nothing = rw (h.nothing) refl;
  on = λ t ts le. alternatives_bound alternatives_of (r (t ∷ ts)) k ps alternatives t ts le f (h.on t ts le);
}

-- what follows a single alternative
pub alternative_then : {Form A B : Type 0} {n : ℕ} {alternatives_of : Form → Alternatives Form} {sort : Sort} {r : Reader A} {k : A → Reader B} {qs ps : List (Part Form)}
    → Opens n alternatives_of r ((sort, qs) ∷ []) → ((x : A) → Follows n alternatives_of (k x) ps) → Opens n alternatives_of (r >>= k) ((sort, qs ++ ps) ∷ [])
alternative_then {sort = sort} {qs = qs} h f = alternatives_then ((sort, qs) ∷ []) h f

-- alternatives, and what follows each
chosen_then : {Form A B : Type 0} (alternatives_of : Form → Alternatives Form) (k : A → Reader B) (here other : Result (A × List Token) ℕ) (parts : List (Part Form)) (o : Option (List (Part Form))) (t : Token) (ts : List Token) (b : Bool)
    → Enters alternatives_of (go_on k here) (if b then Some parts else None) t ts → Enters alternatives_of (go_on k other) o t ts → Enters alternatives_of (go_on k (if b then here else other)) (if b then Some parts else o) t ts
chosen_then alternatives_of k here other parts o t ts true h e = h
chosen_then alternatives_of k here other parts o t ts false h e = e

pub or_alternative_then : {Form A B : Type 0} {n : ℕ} {alternatives_of : Form → Alternatives Form} {sort : Sort} {r other : Reader A} (k : A → Reader B) {parts : List (Part Form)} {alternatives : Alternatives Form}
    → Opens n alternatives_of (r >>= k) ((sort, parts) ∷ []) → Opens n alternatives_of (other >>= k) alternatives → Opens n alternatives_of (at (is sort) r other >>= k) ((sort, parts) ∷ alternatives)
or_alternative_then {alternatives_of = alternatives_of} {sort = sort} {r = r} {other = other} k {parts = parts} {alternatives = alternatives} h e = record {
  nothing = e.nothing;
  on = λ t ts le. chosen_then alternatives_of k (r (t ∷ ts)) (other (t ∷ ts)) parts (behind alternatives t) t ts (is sort t) (h.on t ts le) (e.on t ts le);
}

-- the same reader, otherwise grouped
same_on : {Form A : Type 0} (alternatives_of : Form → Alternatives Form) (here there : Result (A × List Token) ℕ) (o : Option (List (Part Form))) (t : Token) (ts : List Token) → there ≡ here → Enters alternatives_of here o t ts → Enters alternatives_of there o t ts
same_on alternatives_of here there o t ts e h = rw e h

pub same : {Form A : Type 0} {n : ℕ} {alternatives_of : Form → Alternatives Form} {r s : Reader A} {alternatives : Alternatives Form} → ((ts : List Token) → s ts ≡ r ts) → Opens n alternatives_of r alternatives → Opens n alternatives_of s alternatives
same {alternatives_of = alternatives_of} {r = r} {s = s} {alternatives = alternatives} e h = record { nothing = e [] ∙ h.nothing; on = λ t ts le. same_on alternatives_of (r (t ∷ ts)) (s (t ∷ ts)) (behind alternatives t) t ts (e (t ∷ ts)) (h.on t ts le) }

pub grouped : {A B C : Type 0} (g : A → Reader B) (k : B → Reader C) (res : Result (A × List Token) ℕ) → go_on k (go_on g res) ≡ go_on (λ x. g x >>= k) res
grouped g k (Ok x) = refl
grouped g k (Err left) = refl

-- a reader that is only used where it is entered
may_if : {Form A : Type 0} (alternatives_of : Form → Alternatives Form) (here other : Result (A × List Token) ℕ) (parts : List (Part Form)) (o : Option (List (Part Form))) (t : Token) (ts : List Token) (b : Bool)
    → (b ≡ true → Agrees alternatives_of here parts ts) → MayEnter alternatives_of other o t ts → MayEnter alternatives_of (if b then here else other) (if b then Some parts else o) t ts
may_if alternatives_of here other parts o t ts true h k = h refl
may_if alternatives_of here other parts o t ts false h k = k

pub or_skip_if : {Form A : Type 0} {n : ℕ} {alternatives_of : Form → Alternatives Form} {sort : Sort} {r other : Reader A} {parts : List (Part Form)} {alternatives : Alternatives Form}
    → ((t : Token) (ts : List Token) → length (t ∷ ts) ≤ n → is sort t ≡ true → Agrees alternatives_of (r (t ∷ ts)) parts ts) → MayOpen n alternatives_of other alternatives → MayOpen n alternatives_of (at (is sort) r other) ((sort, parts) ∷ alternatives)
or_skip_if {alternatives_of = alternatives_of} {sort = sort} {r = r} {other = other} {parts = parts} {alternatives = alternatives} h k = record {
  nothing = k.nothing;
  on = λ t ts le. may_if alternatives_of (r (t ∷ ts)) (other (t ∷ ts)) parts (behind alternatives t) t ts (is sort t) (h t ts le) (k.on t ts le);
}

-- a token of a sort may not come next
never_test : {Form A : Type 0} (alternatives_of : Form → Alternatives Form) (sort : Sort) (x : A) (t : Token) (ts : List Token) (b : Bool) → is sort t ≡ b
    → Agrees alternatives_of (if b then Err (length (t ∷ ts)) else Ok (x, t ∷ ts)) (never sort ∷ []) (t ∷ ts)
unfolding reading next
never_test alternatives_of sort x t ts true h = λ part below. rw h refl
never_test alternatives_of sort x t ts false h = (omega arith, λ part below. rw h refl)

never_end : {Form : Type 0} (alternatives_of : Form → Alternatives Form) (sort : Sort) (part : Part Form) (below : List (Part Form)) → reading alternatives_of (never sort ∷ part ∷ below) [] ≡ reading alternatives_of (part ∷ below) []
unfolding reading
never_end alternatives_of sort part below = refl

never_at : {Form A : Type 0} (alternatives_of : Form → Alternatives Form) (sort : Sort) (x : A) (ts : List Token) → Agrees alternatives_of (readers.before_no sort x ts) (never sort ∷ []) ts
never_at alternatives_of sort x [] = (omega arith, never_end alternatives_of sort)
never_at alternatives_of sort x (t ∷ ts) = never_test alternatives_of sort x t ts (is sort t) refl

pub bars : {Form A : Type 0} {n : ℕ} {alternatives_of : Form → Alternatives Form} (sort : Sort) (x : A) → Follows n alternatives_of (readers.before_no sort x) (never sort ∷ [])
bars {alternatives_of = alternatives_of} sort x = record { on = λ ts le. never_at alternatives_of sort x ts }

-- what is read takes a token
entered_shorter : {Form A : Type 0} (alternatives_of : Form → Alternatives Form) (res : Result (A × List Token) ℕ) (o : Option (List (Part Form))) (t : Token) (ts : List Token) (x : A) (rest : List Token) → Enters alternatives_of res o t ts → res ≡ Ok (x, rest)
    → length rest < length (t ∷ ts)
entered_shorter alternatives_of res None t ts x rest h e = let no : ⊥ = cc in absurd no
entered_shorter alternatives_of (Ok y) (Some parts) t ts x rest h e = let s : y.1 ≡ rest = cc in rw (← s) (omega (arith, h.0))
entered_shorter alternatives_of (Err left) (Some parts) t ts x rest h e = let no : ⊥ = cc in absurd no

none_read : {A : Type 0} (res : Result (A × List Token) ℕ) (x : A) (rest : List Token) → res ≡ Err 0 → res ≡ Ok (x, rest) → ⊥
none_read res x rest h e = cc

pub shorter : {Form A : Type 0} {n : ℕ} {alternatives_of : Form → Alternatives Form} {r : Reader A} {alternatives : Alternatives Form} → Opens n alternatives_of r alternatives → (x : A) (ts rest : List Token) → length ts ≤ n → r ts ≡ Ok (x, rest) → length rest < length ts
shorter {r = r} h x [] rest le e = let no : ⊥ = none_read (r []) x rest h.nothing e in absurd no
shorter {alternatives_of = alternatives_of} {r = r} {alternatives = alternatives} h x (t ∷ ts) rest le e = entered_shorter alternatives_of (r (t ∷ ts)) (behind alternatives t) t ts x rest (h.on t ts le) e

longer_at : {Form A : Type 0} (alternatives_of : Form → Alternatives Form) (res : Result (A × List Token) ℕ) (parts : List (Part Form)) (ts : List Token) (x : A) (rest : List Token) → Agrees alternatives_of res parts ts → res ≡ Ok (x, rest) → length rest ≤ length ts
longer_at alternatives_of (Ok y) parts ts x rest h e = let s : y.1 ≡ rest = cc in rw (← s) (h.0)
longer_at alternatives_of (Err left) parts ts x rest h e = let no : ⊥ = cc in absurd no

-- no reader gives back more tokens than there were
pub no_longer : {Form A : Type 0} {n : ℕ} {alternatives_of : Form → Alternatives Form} {r : Reader A} {parts : List (Part Form)} → Follows n alternatives_of r parts → (x : A) (ts rest : List Token) → length ts ≤ n → r ts ≡ Ok (x, rest) → length rest ≤ length ts
no_longer {alternatives_of = alternatives_of} {r = r} {parts = parts} h x ts rest le e = longer_at alternatives_of (r ts) parts ts x rest (h.on ts le) e

-- a tail does not change where alternatives begin
one_tail : {Form : Type 0} (b : Bool) (p q : List (Part Form)) (o u : Option (List (Part Form))) → is_some o ≡ is_some u → is_some (if b then Some p else o) ≡ is_some (if b then Some q else u)
one_tail true p q o u h = refl
one_tail false p q o u h = h

pub same_begin : {Form : Type 0} (ps : List (Part Form)) (alternatives : Alternatives Form) (t : Token) → starts alternatives t ≡ starts (with_tail ps alternatives) t
same_begin ps [] t = refl
same_begin ps (alternative ∷ alternatives) t = one_tail (is alternative.0 t) alternative.1 (alternative.1 ++ ps) (behind alternatives t) (behind (with_tail ps alternatives) t) (same_begin ps alternatives t)
