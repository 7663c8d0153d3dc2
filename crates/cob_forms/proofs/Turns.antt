-- Readers of lists go as the further turns of a form do.
use Rattle.std.proofs.Common.{◌≡◌, ℕ, zero, suc, ◌≤◌, List, [], ◌∷◌, ◌++◌, length, Option, Some, None, Result, Ok, Err, refl, sym, ◌∙◌, append_assoc, arith}
use Rattle.cob_lex.specs.declared.token.Token.{Token}
use Rattle.cob_forms.specs.Readers as readers
use Rattle.cob_forms.specs.Readers.{Reader, go_on, found, turns}
use Rattle.cob_forms.specs.Forms.{Part, Alternatives, Reading, ends, wanted, form, more, behind, next, reading, starts}
use Rattle.cob_forms.proofs.Agreement.{Agrees, Follows, Enters, Opens, after, bind, is_form}

-- what is found is put into something
pub mapped : {Form A B : Type 0} (alternatives_of : Form → Alternatives Form) (g : A → B) (res : Result (A × List Token) ℕ) (ps : List (Part Form)) (ts : List Token) → Agrees alternatives_of res ps ts
    → Agrees alternatives_of (go_on (λ x. found (g x)) res) ps ts
mapped alternatives_of g (Ok x) ps ts a = a
mapped alternatives_of g (Err left) ps ts a = a

then_more : {Form A : Type 0} (alternatives_of : Form → Alternatives Form) (f : Form) (t : Token) (ts rest : List Token) (parts : List (Part Form)) (res : Result (A × List Token) ℕ) → behind (alternatives_of f) t ≡ Some parts → length rest ≤ length ts
    → ((part : Part Form) (below : List (Part Form)) → reading alternatives_of (parts ++ part ∷ below) ts ≡ reading alternatives_of (part ∷ below) rest)
    → Agrees alternatives_of res (more f ∷ []) rest → Agrees alternatives_of res (more f ∷ []) (t ∷ ts)
unfolding reading next
then_more alternatives_of f t ts rest parts (Ok y) h le k a = (omega (arith, a.0), λ part below. rw h (k (more f) (part ∷ below) ∙ a.1 part below))
then_more alternatives_of f t ts rest parts (Err left) h le k a = λ part below. rw h (k (more f) (part ∷ below) ∙ a part below)

-- one turn, and what follows
one_turn : {Form A : Type 0} (alternatives_of : Form → Alternatives Form) (f : Form) (others : Reader (List A)) (t : Token) (ts : List Token) (parts : List (Part Form)) (res : Result (A × List Token) ℕ) → behind (alternatives_of f) t ≡ Some parts
    → Agrees alternatives_of res parts ts → ((rest : List Token) → length rest ≤ length ts → Agrees alternatives_of (others rest) (more f ∷ []) rest)
    → Agrees alternatives_of (go_on (λ x. λ rest. go_on (λ xs. found (x ∷ xs)) (others rest)) res) (more f ∷ []) (t ∷ ts)
unfolding reading next
one_turn alternatives_of f others t ts parts (Ok x) h a k =
    then_more alternatives_of f t ts x.1 parts (go_on (λ xs. found (x.0 ∷ xs)) (others x.1)) h a.0 a.1 (mapped alternatives_of (λ xs. x.0 ∷ xs) (others x.1) (more f ∷ []) x.1 (k x.1 a.0))
one_turn alternatives_of f others t ts parts (Err left) h a k = λ part below. rw h (a (more f) (part ∷ below))

no_turn : {Form : Type 0} (A : Type 0) (alternatives_of : Form → Alternatives Form) (f : Form) (t : Token) (ts : List Token) → behind (alternatives_of f) t ≡ None → Agrees {A = List A} alternatives_of (Ok ([], t ∷ ts)) (more f ∷ []) (t ∷ ts)
unfolding reading next
no_turn A alternatives_of f t ts h = (omega arith, λ part below. rw h refl)

at_end : {Form : Type 0} (alternatives_of : Form → Alternatives Form) (f : Form) (part : Part Form) (below : List (Part Form)) → reading alternatives_of (more f ∷ part ∷ below) [] ≡ reading alternatives_of (part ∷ below) []
unfolding reading
at_end alternatives_of f part below = refl

turn_then : {Form A : Type 0} (alternatives_of : Form → Alternatives Form) (f : Form) (others : Reader (List A)) (ts : List Token) (parts : List (Part Form)) (res : Result (A × List Token) ℕ) → Agrees alternatives_of res parts ts
    → ((rest : List Token) → length rest ≤ length ts → Agrees alternatives_of (others rest) (more f ∷ []) rest)
    → Agrees alternatives_of (go_on (λ x. λ rest. go_on (λ xs. found (x ∷ xs)) (others rest)) res) (parts ++ more f ∷ []) ts
turn_then alternatives_of f others ts parts (Ok x) a k =
    after alternatives_of (go_on (λ xs. found (x.0 ∷ xs)) (others x.1)) parts (more f ∷ []) ts x.1 a.0 a.1 (mapped alternatives_of (λ xs. x.0 ∷ xs) (others x.1) (more f ∷ []) x.1 (k x.1 a.0))
turn_then alternatives_of f others ts parts (Err left) a k = λ part below. rw append_assoc (a (more f) (part ∷ below))

-- how reading ends where these turns are all that is left
abbrev pub whole_of : {A : Type 0} → Result (A × List Token) ℕ → Reading
whole_of (Ok (x, [])) = ends []
whole_of (Ok (x, t ∷ ts)) = wanted (length (t ∷ ts))
whole_of (Err left) = wanted left

whole_mapped : {A B : Type 0} (g : A → B) (res : Result (A × List Token) ℕ) → whole_of (go_on (λ x. found (g x)) res) ≡ whole_of res
whole_mapped g (Ok (x, [])) = refl
whole_mapped g (Ok (x, t ∷ ts)) = refl
whole_mapped g (Err left) = refl

-- one part, and then all that is left
pub whole_then : {Form A B : Type 0} (alternatives_of : Form → Alternatives Form) (res : Result (A × List Token) ℕ) (k : A → Reader B) (ps : List (Part Form)) (q : Part Form) (qs : List (Part Form)) (ts : List Token) → Agrees alternatives_of res ps ts
    → ((x : A) (rest : List Token) → length rest ≤ length ts → reading alternatives_of (q ∷ qs) rest ≡ whole_of (k x rest))
    → reading alternatives_of (ps ++ q ∷ qs) ts ≡ whole_of (go_on k res)
whole_then alternatives_of (Ok x) k ps q qs ts a h = a.1 q qs ∙ h x.0 x.1 a.0
whole_then alternatives_of (Err left) k ps q qs ts a h = a q qs

whole_turn : {Form A : Type 0} (alternatives_of : Form → Alternatives Form) (f : Form) (others : Reader (List A)) (ts : List Token) (parts : List (Part Form)) (res : Result (A × List Token) ℕ) → Agrees alternatives_of res parts ts
    → ((rest : List Token) → length rest ≤ length ts → reading alternatives_of (more f ∷ []) rest ≡ whole_of (others rest))
    → reading alternatives_of (parts ++ more f ∷ []) ts ≡ whole_of (go_on (λ x. λ rest. go_on (λ xs. found (x ∷ xs)) (others rest)) res)
whole_turn alternatives_of f others ts parts (Ok x) a k = a.1 (more f) [] ∙ k x.1 a.0 ∙ sym (whole_mapped (λ xs. x.0 ∷ xs) (others x.1))
whole_turn alternatives_of f others ts parts (Err left) a k = a (more f) []

module _ {Form A : Type 0} (alternatives_of : Form → Alternatives Form) (f : Form) (r : Reader A) (n : ℕ) (opens : Opens n alternatives_of r (alternatives_of f)) where
  turn_at : (m : ℕ) (t : Token) (ts : List Token) (o : Option (List (Part Form))) → behind (alternatives_of f) t ≡ o → Enters alternatives_of (r (t ∷ ts)) o t ts
      → ((rest : List Token) → length rest ≤ m → length rest ≤ n → Agrees alternatives_of (turns m (starts (alternatives_of f)) r rest) (more f ∷ []) rest) → length ts ≤ m → length (t ∷ ts) ≤ n
      → Agrees alternatives_of (turns (suc m) (starts (alternatives_of f)) r (t ∷ ts)) (more f ∷ []) (t ∷ ts)
  unfolding turns
  turn_at m t ts None h e k le lt = rw h (no_turn A alternatives_of f t ts h)
  turn_at m t ts (Some parts) h e k le lt = rw h (one_turn alternatives_of f (turns m (starts (alternatives_of f)) r) t ts parts (r (t ∷ ts)) h e (λ rest less. k rest (omega arith) (omega arith)))

  turns_at : (m : ℕ) (ts : List Token) → length ts ≤ m → length ts ≤ n → Agrees alternatives_of (turns m (starts (alternatives_of f)) r ts) (more f ∷ []) ts
  unfolding turns
  turns_at zero [] le lt = (omega arith, at_end alternatives_of f)
  turns_at zero (t ∷ ts) le lt = absurd (omega arith)
  turns_at (suc m) [] le lt = (omega arith, at_end alternatives_of f)
  turns_at (suc m) (t ∷ ts) le lt = turn_at m t ts (behind (alternatives_of f) t) refl (opens.on t ts lt) (turns_at m) (omega arith) lt

  whole_at : (m : ℕ) (t : Token) (ts : List Token) (o : Option (List (Part Form))) → behind (alternatives_of f) t ≡ o → Enters alternatives_of (r (t ∷ ts)) o t ts
      → ((rest : List Token) → length rest ≤ m → length rest ≤ n → reading alternatives_of (more f ∷ []) rest ≡ whole_of (turns m (starts (alternatives_of f)) r rest)) → length ts ≤ m → length (t ∷ ts) ≤ n
      → reading alternatives_of (more f ∷ []) (t ∷ ts) ≡ whole_of (turns (suc m) (starts (alternatives_of f)) r (t ∷ ts))
  unfolding turns reading next
  whole_at m t ts None h e k le lt = rw h refl
  whole_at m t ts (Some parts) h e k le lt = rw h (whole_turn alternatives_of f (turns m (starts (alternatives_of f)) r) ts parts (r (t ∷ ts)) e (λ rest less. k rest (omega arith) (omega arith)))

  -- turns that are all that is left
  pub whole_turns : (m : ℕ) (ts : List Token) → length ts ≤ m → length ts ≤ n → reading alternatives_of (more f ∷ []) ts ≡ whole_of (turns m (starts (alternatives_of f)) r ts)
  unfolding turns reading
  whole_turns zero [] le lt = refl
  whole_turns zero (t ∷ ts) le lt = absurd (omega arith)
  whole_turns (suc m) [] le lt = refl
  whole_turns (suc m) (t ∷ ts) le lt = whole_at m t ts (behind (alternatives_of f) t) refl (opens.on t ts lt) (whole_turns m) (omega arith) lt

  -- one or more that are all that is left
  pub whole_list : (ts : List Token) → length ts ≤ n → reading alternatives_of (form f ∷ more f ∷ []) ts ≡ whole_of (readers.some (starts (alternatives_of f)) r ts)
  whole_list ts lt = whole_then alternatives_of (r ts) (readers.more (starts (alternatives_of f)) r) (form f ∷ []) (more f) [] ts ((is_form f opens).on ts lt)
      (λ x rest le. whole_turns (length rest) rest (omega arith) (omega (arith, le, lt)) ∙ sym (whole_mapped (λ xs. x ∷ xs) (turns (length rest) (starts (alternatives_of f)) r rest)))

  pub is_more : (x : A) → Follows n alternatives_of (readers.more (starts (alternatives_of f)) r x) (more f ∷ [])
  is_more x = record { on = λ ts lt. mapped alternatives_of (λ xs. x ∷ xs) (turns (length ts) (starts (alternatives_of f)) r ts) (more f ∷ []) ts (turns_at (length ts) ts (omega arith) lt) }

  pub is_any : Follows n alternatives_of (readers.any (starts (alternatives_of f)) r) (more f ∷ [])
  is_any = record { on = λ ts lt. turns_at (length ts) ts (omega arith) lt }

  -- one or more
  pub is_list : Follows n alternatives_of (readers.some (starts (alternatives_of f)) r) (form f ∷ more f ∷ [])
  is_list = bind (is_form f opens) is_more

  -- further ones, where the first has been entered
  pub entered_at : (x : A) (t : Token) (ts : List Token) (parts : List (Part Form)) → behind (alternatives_of f) t ≡ Some parts → length (t ∷ ts) ≤ n → Enters alternatives_of (r (t ∷ ts)) (Some parts) t ts
      → Agrees alternatives_of (readers.more (starts (alternatives_of f)) r x (t ∷ ts)) (parts ++ more f ∷ []) ts
  unfolding turns
  entered_at x t ts parts h lt e =
      mapped alternatives_of (λ xs. x ∷ xs) (turns (suc (length ts)) (starts (alternatives_of f)) r (t ∷ ts)) (parts ++ more f ∷ []) ts
      (rw h (turn_then alternatives_of f (turns (length ts) (starts (alternatives_of f)) r) ts parts (r (t ∷ ts)) e (λ rest le. turns_at (length ts) rest le (omega (arith, lt, le)))))
