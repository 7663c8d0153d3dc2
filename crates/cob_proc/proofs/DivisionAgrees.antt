-- The readers of RECEIVE, IF, sentences, paragraphs and the division go as the parts of their forms say.
use Rattle.std.proofs.Common.{◌≡◌, ℕ, zero, suc, ◌≤◌, List, [], ◌∷◌, ◌++◌, length, Result, Ok, Err, refl, ◌∙◌, arith, codes}
use Rattle.cob_lex.specs.declared.token.Token.{Token}
use Rattle.cob_forms.specs.Sorts.{reserved}
use Rattle.cob_forms.specs.Readers as readers
use Rattle.cob_forms.specs.Readers.{Reader, at, found, ◌>>=◌, ◌>>◌, read_name}
use Rattle.cob_forms.specs.Forms.{Reading, token, form, maybe, more, ends, wanted, reading}
use Rattle.cob_forms.proofs.Agreement.{Follows, MayOpen, Opens, bars, bind, done, grouped, is_form, is_maybe, or_alternative, or_skip, alternative, alternative_of_more, alternative_then, alternatives_then, same, skip, takes, then_done}
use Rattle.cob_forms.proofs.Turns.{is_any, is_list, is_more, whole_list, whole_of, whole_then}
use Rattle.cob_proc.specs.Forms as forms
use Rattle.cob_proc.specs.Forms.{Form, alternatives_of, period, procedure_division, receiving, statement_alternatives}
use Rattle.cob_proc.specs.Trees.{Tree, plain}
use Rattle.cob_proc.specs.DivisionReaders as division
use Rattle.cob_proc.specs.DivisionReaders.{whole}
use Rattle.cob_proc.proofs.FormsAgree.{follows_name, opens_condition, opens_identifier, opens_name, opens_plain}

opens_unit : {n : ℕ} → Opens n alternatives_of division.unit_of_text (alternatives_of forms.unit_of_text)
unfolding division.unit_of_text
opens_unit = or_alternative (alternative (reserved (codes "MESSAGE")) _ (λ _. done _)) (alternative (reserved (codes "SEGMENT")) _ (λ _. done _))

opens_head : {n : ℕ} → Opens n alternatives_of division.receive_head ((reserved (codes "RECEIVE"), receiving) ∷ [])
unfolding division.receive_head
opens_head = alternative (reserved (codes "RECEIVE")) _ (λ _. bind follows_name (λ cd. bind (is_form forms.unit_of_text opens_unit) (λ segment. bind (takes (reserved (codes "INTO"))) (λ _. bind (is_form forms.identifier opens_identifier) (λ into. done _)))))

opens_alone : {n : ℕ} → Opens n alternatives_of division.receive_alone ((reserved (codes "RECEIVE"), receiving) ∷ [])
unfolding division.receive_alone
opens_alone = alternative_then opens_head (λ head. done _)

pub opens_inner : {n : ℕ} → Opens n alternatives_of division.inner (alternatives_of forms.inner)
unfolding division.inner
opens_inner = or_alternative opens_alone (then_done plain opens_plain)

follows_inners : {n : ℕ} → Follows n alternatives_of division.inners (form forms.inner ∷ more forms.inner ∷ [])
unfolding division.inners
follows_inners {n = n} = is_list alternatives_of forms.inner division.inner n opens_inner

may_no_data : {n : ℕ} → MayOpen n alternatives_of division.no_data (alternatives_of forms.no_data)
unfolding division.no_data
may_no_data = or_skip (alternative (reserved (codes "NO")) _ (λ _. bind (takes (reserved (codes "DATA"))) (λ _. bind follows_inners (λ trees. bars (reserved (codes "IF")) trees)))) (skip [])

opens_receive : {n : ℕ} → Opens n alternatives_of division.receive ((reserved (codes "RECEIVE"), receiving ++ maybe forms.no_data ∷ []) ∷ [])
unfolding division.receive
opens_receive = alternative_then opens_head (λ head. bind (is_maybe forms.no_data may_no_data) (λ _. done _))

may_otherwise : {n : ℕ} (statements : Reader (List Tree)) → Follows n alternatives_of statements (form forms.statement ∷ more forms.statement ∷ []) → MayOpen n alternatives_of (division.otherwise statements) (alternatives_of forms.otherwise)
unfolding division.otherwise
may_otherwise statements h = or_skip (alternative (reserved (codes "ELSE")) _ (λ _. h)) (skip [])

opens_branch : {n : ℕ} (statements : Reader (List Tree)) → Follows n alternatives_of statements (form forms.statement ∷ more forms.statement ∷ [])
    → Opens (suc n) alternatives_of (division.branch statements) ((reserved (codes "IF"), form forms.condition ∷ form forms.statement ∷ more forms.statement ∷ maybe forms.otherwise ∷ []) ∷ [])
unfolding division.branch
opens_branch statements h = alternative_of_more (reserved (codes "IF")) _ (λ sign. bind (is_form forms.condition opens_condition) (λ tested. bind h (λ holds. bind (is_maybe forms.otherwise (may_otherwise statements h)) (λ _. done _))))

pub opens_statement : (n : ℕ) → Opens n alternatives_of (division.read_statement n) (alternatives_of forms.statement)
unfolding division.read_statement
opens_statement zero = record { nothing = refl; on = λ t ts le. absurd (omega (arith, le)) }
opens_statement (suc n) =
    or_alternative (opens_branch _ (is_list alternatives_of forms.statement (division.read_statement n) n (opens_statement n)))
    (or_alternative opens_receive (then_done plain opens_plain))

pub opens_sentence : (n : ℕ) → Opens n alternatives_of (division.read_sentence n) (alternatives_of forms.sentence)
unfolding division.read_sentence division.read_statements
opens_sentence n = same (λ ts. grouped _ _ (division.read_statement n ts)) (alternatives_then statement_alternatives (opens_statement n)
    (λ first. bind (is_more alternatives_of forms.statement (division.read_statement n) n (opens_statement n) first) (λ trees. bind (takes period) (λ _. done _))))

pub opens_paragraph : (n : ℕ) → Opens n alternatives_of (division.read_paragraph n) (alternatives_of forms.paragraph)
unfolding division.read_paragraph division.read_sentences
opens_paragraph n = alternative_then opens_name (λ title. bind (takes period) (λ _. bind (is_any alternatives_of forms.sentence (division.read_sentence n) n (opens_sentence n)) (λ sentences. done _)))

-- the whole division
paragraphs_agree : (n : ℕ) (ts : List Token) → length ts ≤ n → reading alternatives_of (form forms.paragraph ∷ more forms.paragraph ∷ []) ts ≡ whole_of (division.read_paragraphs n ts)
unfolding division.read_paragraphs
paragraphs_agree n ts le = whole_list alternatives_of forms.paragraph (division.read_paragraph n) n (opens_paragraph n) ts le

division_agrees : (n : ℕ) (ts : List Token) → length ts ≤ n → reading alternatives_of procedure_division ts ≡ whole_of (division.read_division n ts)
unfolding division.read_division
division_agrees n ts le =
    whole_then alternatives_of (readers.one (reserved (codes "PROCEDURE")) ts) _ (token (reserved (codes "PROCEDURE")) ∷ []) _ _ ts ((takes {n = n} (reserved (codes "PROCEDURE"))).on ts le)
    (λ _ ts2 le2. whole_then alternatives_of (readers.one (reserved (codes "DIVISION")) ts2) _ (token (reserved (codes "DIVISION")) ∷ []) _ _ ts2 ((takes {n = n} (reserved (codes "DIVISION"))).on ts2 (omega (arith, le, le2)))
    (λ _ ts3 le3. whole_then alternatives_of (readers.one period ts3) _ (token period ∷ []) _ _ ts3 ((takes {n = n} period).on ts3 (omega (arith, le, le2, le3)))
    (λ _ ts4 le4. paragraphs_agree n ts4 (omega (arith, le, le2, le3, le4)))))

-- how reading by parts ends, by what is read
abbrev pub ended : {A : Type 0} → Result A ℕ → Reading
ended (Ok x) = ends []
ended (Err left) = wanted left

same_end : {A : Type 0} (res : Result (A × List Token) ℕ) → whole_of res ≡ ended (whole res)
same_end (Ok (x, [])) = refl
same_end (Ok (x, t ∷ ts)) = refl
same_end (Err left) = refl

-- Reading by the parts of the division ends as reading its trees does.
pub procedure_agrees : (ts : List Token) → reading alternatives_of procedure_division ts ≡ ended (division.read_procedure ts)
procedure_agrees ts = division_agrees (length ts) ts (omega arith) ∙ same_end (division.read_division (length ts) ts)
