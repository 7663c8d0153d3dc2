-- The faults of some tokens and of those behind them, apart: so where a limit is passed, what stands behind tells no earlier fault.
use Rattle.std.proofs.Common.{◌≡◌, ℕ, zero, suc, Bool, true, false, not, ◌&&◌, ◌||◌, ◌==◌, nat_lt, nat_le, List, [], ◌∷◌, ◌++◌, length, drop, Option, Some, refl, sym, ap, ◌∙◌, append_assoc, codes}
use Rattle.std.specs.Prelude.{if◌then◌else◌}
use Rattle.std.specs.List.{list_any}
use Rattle.std.specs.Str.{bytes_eq}
use Rattle.cob_lex.specs.declared.fault.SourceFault.{SourceFault}
use Rattle.cob_lex.specs.declared.fault.SourceKind.{SourceKind}
use Rattle.cob_lex.specs.declared.fault.SourceKind.TheVariants as faults
use Rattle.cob_lex.specs.declared.token.Token.{Token}
use Rattle.cob_lex.specs.Order.{StandsBeforeAll, stands_before}
use Rattle.cob_forms.specs.Sorts.{is, reserved}
use Rattle.cob_forms.specs.Forms.{starts}
use Rattle.cob_forms.specs.Readers.{begins}
use Rattle.cob_forms.specs.Faults.{fault, noted}
use Rattle.cob_forms.proofs.Order.{AreBehind}
use Rattle.cob_proc.specs.Forms.{relation_alternatives}
use Rattle.cob_proc.proofs.Families.{texts_behind}
use Rattle.cob_proc.specs.Limits.{ifs_behind, last_or}
use Rattle.cob_proc.specs.Faults.{at_next, bad_columns, behind_word, compares_constants, deep_ifs, is_constant, named_again, names_paragraph, open_behind, paragraph_names, relates_constant, stands_well, too_many, without_identifier}

-- a fault at one token, and those at tokens behind it
key_cases : (a b p q : Bool) → (a || (b && p)) ≡ true → (a || (b && (p || q))) ≡ true
key_cases true b p q h = refl
key_cases false true true q h = refl
key_cases false true false q h = let no : ⊥ = cc in absurd no
key_cases false false p q h = h

at_key : (l c r m d s : ℕ) → (nat_lt l m || (l == m && nat_lt c d)) ≡ true → (nat_lt l m || (l == m && (nat_lt c d || (c == d && nat_lt r s)))) ≡ true
at_key l c r m d s h = key_cases (nat_lt l m) (l == m) (nat_lt c d) (c == d && nat_lt r s) h

pub noted_behind : (kind : SourceKind) (x u : Token) (b : Bool) (k : SourceKind) → stands_before x u ≡ true → AreBehind (fault x.line x.column kind) (noted b k u)
noted_behind kind x u true k h = (at_key x.line x.column _ u.line u.column _ h, tt)
noted_behind kind x u false k h = tt

both_behind : (f : SourceFault) (xs ys : List SourceFault) → AreBehind f xs → AreBehind f ys → AreBehind f (xs ++ ys)
both_behind f [] ys h k = k
both_behind f (x ∷ xs) ys h k = (h.0, both_behind f xs ys h.1 k)

-- columns
pub columns_apart : (before : Option Token) (ts us : List Token) → bad_columns before (ts ++ us) ≡ bad_columns before ts ++ bad_columns (last_or before ts) us
columns_apart before [] us = refl
columns_apart before (t ∷ ts) us =
    ap (λ fs. noted (not (stands_well before t)) faults.BadColumn t ++ fs) (columns_apart (Some t) ts us) ∙ sym (append_assoc (noted (not (stands_well before t)) faults.BadColumn t) _ _)

pub columns_later : (kind : SourceKind) (x : Token) (before : Option Token) (us : List Token) → StandsBeforeAll x us → AreBehind (fault x.line x.column kind) (bad_columns before us)
columns_later kind x before [] h = tt
columns_later kind x before (u ∷ us) h = both_behind _ (noted (not (stands_well before u)) faults.BadColumn u) _ (noted_behind kind x u (not (stands_well before u)) faults.BadColumn h.0) (columns_later kind x (Some u) us h.1)

-- names of paragraphs
names_one : (b : Bool) (t : Token) (ts us : List Token) → (if b then t ∷ (ts ++ us) else ts ++ us) ≡ (if b then t ∷ ts else ts) ++ us
names_one true t ts us = refl
names_one false t ts us = refl

pub names_apart : (before : Option Token) (ts us : List Token) → paragraph_names before (ts ++ us) ≡ paragraph_names before ts ++ paragraph_names (last_or before ts) us
names_apart before [] us = refl
names_apart before (t ∷ ts) us = rw (names_apart (Some t) ts us) (names_one (names_paragraph before t) t (paragraph_names (Some t) ts) (paragraph_names (last_or (Some t) ts) us))

names_if : (x : Token) (b : Bool) (u : Token) (us : List Token) → stands_before x u ≡ true → StandsBeforeAll x us → StandsBeforeAll x (if b then u ∷ us else us)
names_if x true u us h k = (h, k)
names_if x false u us h k = k

pub names_later : (x : Token) (before : Option Token) (us : List Token) → StandsBeforeAll x us → StandsBeforeAll x (paragraph_names before us)
names_later x before [] h = tt
names_later x before (u ∷ us) h = names_if x (names_paragraph before u) u (paragraph_names (Some u) us) h.0 (names_later x (Some u) us h.1)

-- names that stand twice
pub again_apart : (texts : List (List ℕ)) (ts us : List Token) → named_again texts (ts ++ us) ≡ named_again texts ts ++ named_again (texts_behind texts ts) us
again_apart texts [] us = refl
again_apart texts (t ∷ ts) us =
    ap (λ fs. noted (list_any (λ text. bytes_eq t.text text) texts) faults.TwiceDeclared t ++ fs) (again_apart (t.text ∷ texts) ts us)
    ∙ sym (append_assoc (noted (list_any (λ text. bytes_eq t.text text) texts) faults.TwiceDeclared t) _ _)

pub again_later : (kind : SourceKind) (x : Token) (texts : List (List ℕ)) (us : List Token) → StandsBeforeAll x us → AreBehind (fault x.line x.column kind) (named_again texts us)
again_later kind x texts [] h = tt
again_later kind x texts (u ∷ us) h =
    both_behind _ (noted (list_any (λ text. bytes_eq u.text text) texts) faults.TwiceDeclared u) _ (noted_behind kind x u (list_any (λ text. bytes_eq u.text text) texts) faults.TwiceDeclared h.0) (again_later kind x (u.text ∷ texts) us h.1)

-- too many
next_later : (kind k : SourceKind) (x : Token) (limit : ℕ) (us : List Token) → StandsBeforeAll x us → AreBehind (fault x.line x.column kind) (at_next k (drop limit us))
next_later kind k x zero [] h = tt
next_later kind k x zero (u ∷ us) h = noted_behind kind x u true k h.0
next_later kind k x (suc limit) [] h = tt
next_later kind k x (suc limit) (u ∷ us) h = next_later kind k x limit us h.1

-- what some tokens tell, and what those behind them tell besides
pub record Apart (x : Token) (kind : SourceKind) (all here : List SourceFault) : Type 0 where
  pub others : List SourceFault
  pub both : all ≡ here ++ others
  pub behind : AreBehind (fault x.line x.column kind) others

pub surplus_apart : (kind : SourceKind) (x : Token) (limit : ℕ) (ts us : List Token) → StandsBeforeAll x us → Apart x kind (too_many limit (ts ++ us)) (too_many limit ts)
surplus_apart kind x zero [] us h = record { others = too_many 0 us; both = refl; behind = next_later kind faults.OverLimit x 0 us h }
surplus_apart kind x zero (t ∷ ts) us h = record { others = []; both = refl; behind = tt }
surplus_apart kind x (suc limit) [] us h = record { others = too_many (suc limit) us; both = refl; behind = next_later kind faults.OverLimit x (suc limit) us h }
surplus_apart kind x (suc limit) (t ∷ ts) us h = surplus_apart kind x limit ts us h

-- IFs
pub ifs_apart : (limit : ℕ) (ifs : List Bool) (ts us : List Token) → deep_ifs limit ifs (ts ++ us) ≡ deep_ifs limit ifs ts ++ deep_ifs limit (ifs_behind ifs ts) us
ifs_apart limit ifs [] us = refl
ifs_apart limit ifs (t ∷ ts) us =
    let here : List SourceFault = noted (is (reserved (codes "IF")) t && nat_le limit (length ifs)) faults.OverLimit t in
    ap (λ fs. here ++ fs) (ifs_apart limit (open_behind ifs t) ts us) ∙ sym (append_assoc here (deep_ifs limit (open_behind ifs t) ts) (deep_ifs limit (ifs_behind (open_behind ifs t) ts) us))

pub ifs_later : (kind : SourceKind) (x : Token) (limit : ℕ) (ifs : List Bool) (us : List Token) → StandsBeforeAll x us → AreBehind (fault x.line x.column kind) (deep_ifs limit ifs us)
ifs_later kind x limit ifs [] h = tt
ifs_later kind x limit ifs (u ∷ us) h =
    let deep : Bool = is (reserved (codes "IF")) u && nat_le limit (length ifs) in
    both_behind (fault x.line x.column kind) (noted deep faults.OverLimit u) (deep_ifs limit (open_behind ifs u) us) (noted_behind kind x u deep faults.OverLimit h.0) (ifs_later kind x limit (open_behind ifs u) us h.1)

-- comparisons: the last token is no part of one
pub record IsNoPart (x : Token) : Type 0 where
  pub constant : is_constant x ≡ false
  pub relation : starts relation_alternatives x ≡ false
  pub is_word : is (reserved (codes "IS")) x ≡ false
  pub not_word : is (reserved (codes "NOT")) x ≡ false
  pub than_word : is (reserved (codes "THAN")) x ≡ false
  pub to_word : is (reserved (codes "TO")) x ≡ false

-- tokens up to the last, and then others
abbrev up_to : List Token → Token → List Token → List Token
up_to ts x us = (ts ++ x ∷ []) ++ us

skip_if : (b : Bool) (t : Token) (ts : List Token) (x : Token) → (vs : List Token) × ((us : List Token) → (if b then up_to ts x us else t ∷ up_to ts x us) ≡ up_to vs x us)
skip_if true t ts x = (ts, λ us. refl)
skip_if false t ts x = (t ∷ ts, λ us. refl)

last_stays : (b : Bool) (x : Token) (us : List Token) → b ≡ false → (if b then us else x ∷ us) ≡ x ∷ us
last_stays true x us h = let no : ⊥ = cc in absurd no
last_stays false x us h = refl

word_apart : (text : List ℕ) (ts : List Token) (x : Token) → is (reserved text) x ≡ false → (vs : List Token) × ((us : List Token) → behind_word text (up_to ts x us) ≡ up_to vs x us)
word_apart text [] x h = ([], λ us. last_stays (is (reserved text) x) x us h)
word_apart text (t ∷ ts) x h = skip_if (is (reserved text) t) t ts x

begins_apart : (test : Token → Bool) (ts : List Token) (x : Token) (us : List Token) → begins test (up_to ts x us) ≡ begins test (up_to ts x [])
begins_apart test [] x us = refl
begins_apart test (t ∷ ts) x us = refl

constant_apart : (ts : List Token) (x : Token) (us : List Token) → IsNoPart x
    → begins is_constant (behind_word (codes "TO") (behind_word (codes "THAN") (up_to ts x us))) ≡ begins is_constant (behind_word (codes "TO") (behind_word (codes "THAN") (up_to ts x [])))
constant_apart ts x us n =
    let one = word_apart (codes "THAN") ts x n.than_word in
    let two = word_apart (codes "TO") one.0 x n.to_word in
    rw (one.1 us, two.1 us, one.1 [], two.1 []) (begins_apart is_constant two.0 x us)

relates_apart : (ts : List Token) (x : Token) (us : List Token) → IsNoPart x → relates_constant (up_to ts x us) ≡ relates_constant (up_to ts x [])
relates_apart [] x us n = rw (n.relation) refl
relates_apart (t ∷ ts) x us n = ap (λ b. starts relation_alternatives t && b) (constant_apart ts x us n)

compares_apart : (ts : List Token) (x : Token) (us : List Token) → IsNoPart x → compares_constants (up_to ts x us) ≡ compares_constants (up_to ts x [])
compares_apart [] x us n = rw (n.constant) refl
compares_apart (t ∷ ts) x us n =
    let one = word_apart (codes "IS") ts x n.is_word in
    let two = word_apart (codes "NOT") one.0 x n.not_word in
    ap (λ b. is_constant t && b) (rw (one.1 us, two.1 us, one.1 [], two.1 []) (relates_apart two.0 x us n))

pub constants_apart : (ts : List Token) (x : Token) (us : List Token) → IsNoPart x → without_identifier (up_to ts x us) ≡ without_identifier (up_to ts x []) ++ without_identifier us
constants_apart [] x us n = rw (compares_apart [] x us n, n.constant) refl
constants_apart (t ∷ ts) x us n =
    rw (compares_apart (t ∷ ts) x us n) (ap (λ fs. noted (compares_constants (t ∷ up_to ts x [])) faults.WrongKind t ++ fs) (constants_apart ts x us n) ∙ sym (append_assoc (noted (compares_constants (t ∷ up_to ts x [])) faults.WrongKind t) _ _))

pub constants_later : (kind : SourceKind) (x : Token) (us : List Token) → StandsBeforeAll x us → AreBehind (fault x.line x.column kind) (without_identifier us)
constants_later kind x [] h = tt
constants_later kind x (u ∷ us) h =
    let constants : Bool = compares_constants (u ∷ us) in
    both_behind (fault x.line x.column kind) (noted constants faults.WrongKind u) (without_identifier us) (noted_behind kind x u constants faults.WrongKind h.0) (constants_later kind x us h.1)
