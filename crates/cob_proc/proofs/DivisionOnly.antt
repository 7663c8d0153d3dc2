-- What is spelled as a division is read so, so the trees of some tokens are one.
use Rattle.std.proofs.Common.{◌≡◌, ℕ, zero, suc, ◌≤◌, ◌<◌, Bool, true, false, List, [], ◌∷◌, length, Result, Ok, refl, sym, ap, arith, codes}
use Rattle.std.specs.Bool.{if◌then◌else◌}
use Rattle.cob_lex.specs.declared.token.Token.{Token}
use Rattle.cob_forms.specs.declared.written.Name.{Name}
use Rattle.cob_forms.specs.declared.written.Position.{Position}
use Rattle.cob_forms.specs.Sorts.{is, reserved}
use Rattle.cob_forms.specs.Readers as readers
use Rattle.cob_forms.specs.Readers.{Reader, at, begins, found, go_on, ◌>>=◌, ◌>>◌, read_name}
use Rattle.cob_forms.specs.Forms.{form, more}
use Rattle.cob_forms.specs.Spelling.{word, all_of, some_of}
use Rattle.cob_proc.specs.declared.tree.Condition.{Condition}
use Rattle.cob_proc.specs.declared.tree.Identifier.{Identifier}
use Rattle.cob_proc.specs.Forms as forms
use Rattle.cob_proc.specs.Forms.{alternatives_of, period, inner_alternatives, statement_alternatives}
use Rattle.cob_proc.specs.Spelled.{begins_form, IsInner, AreInner, IsNoData, IsReceive, IsStatement, AreStatements, AreFurther, IsElse, IsSentence, IsParagraph, IsProcedure}
use Rattle.cob_proc.specs.Trees.{Tree, plain, branches, receives, Block, none, lead, block_of, ParagraphTree}
use Rattle.cob_proc.specs.DivisionReaders as division
use Rattle.cob_proc.specs.DivisionReaders.{whole}
use Rattle.cob_forms.proofs.Agreement.{Follows, no_longer, shorter}
use Rattle.cob_forms.proofs.Only.{any_ok, begun, is_next, name_ok, none_starts, not_next, some_ok, starts_none, word_ok}
use Rattle.cob_forms.proofs.Turns.{is_list}
use Rattle.cob_proc.proofs.FormsAgree.{opens_condition, opens_name, opens_plain}
use Rattle.cob_proc.proofs.DivisionAgrees.{opens_inner, opens_paragraph, opens_sentence, opens_statement}
use Rattle.cob_proc.proofs.PartsOnly.{condition_ok, identifier_ok}
use Rattle.cob_proc.proofs.StatementsOnly.{no_if, plain_ok}

-- blocks as lists
abbrev list_of : Block → List Tree
list_of none = []
list_of (lead t others) = t ∷ list_of others

block_list : (b : Block) → block_of (list_of b) ≡ b
block_list none = refl
block_list (lead t others) = ap (lead t) (block_list others)

-- RECEIVE
unit_ok : (segment : Bool) (ts rest : List Token) → word (if segment then codes "SEGMENT" else codes "MESSAGE") ts rest → division.unit_of_text ts ≡ Ok (segment, rest)
unfolding division.unit_of_text
unit_ok true ts rest w = rw (not_next (reserved (codes "SEGMENT")) (reserved (codes "MESSAGE")) w.0 ts rest w.1 refl, word_ok (reserved (codes "SEGMENT")) w.0 ts rest w.1) refl
unit_ok false ts rest w = rw (is_next (reserved (codes "MESSAGE")) w.0 ts rest w.1, word_ok (reserved (codes "MESSAGE")) w.0 ts rest w.1) refl

head_ok : (cd : Name) (segment : Bool) (into : Identifier) (ts rest : List Token) → IsReceive cd segment into ts rest → division.receive_head ts ≡ Ok ((cd, segment, into), rest)
unfolding division.receive_head
head_ok cd segment into ts rest (m, w, (m2, h, (m3, u, (m4, i, k)))) =
    rw (word_ok (reserved (codes "RECEIVE")) w.0 ts m w.1, name_ok cd m m2 h, unit_ok segment m2 m3 u, word_ok (reserved (codes "INTO")) i.0 m3 m4 i.1, identifier_ok into m4 rest k) refl

head_next : (cd : Name) (segment : Bool) (into : Identifier) (ts rest : List Token) → IsReceive cd segment into ts rest → begins (is (reserved (codes "RECEIVE"))) ts ≡ true
head_next cd segment into ts rest (m, w, k) = is_next (reserved (codes "RECEIVE")) w.0 ts m w.1

head_no_if : (cd : Name) (segment : Bool) (into : Identifier) (ts rest : List Token) → IsReceive cd segment into ts rest → begins (is (reserved (codes "IF"))) ts ≡ false
head_no_if cd segment into ts rest (m, w, k) = not_next (reserved (codes "RECEIVE")) (reserved (codes "IF")) w.0 ts m w.1 refl

inner_ok : (t : Tree) (ts rest : List Token) → IsInner t ts rest → division.inner ts ≡ Ok (t, rest)
unfolding division.inner division.receive_alone
inner_ok (plain s) ts rest h = rw ((no_if s ts rest h).1, plain_ok s ts rest h) refl
inner_ok (branches position c holds others) ts rest h = absurd h
inner_ok (receives cd segment into none) ts rest h = rw (head_next cd segment into ts rest h, head_ok cd segment into ts rest h) refl
inner_ok (receives cd segment into (lead t others)) ts rest h = absurd h

inner_list : (b : Block) (ts rest : List Token) → AreInner b ts rest → all_of (begins_form forms.inner) IsInner (list_of b) ts rest × (begins (is (reserved (codes "IF"))) rest ≡ false)
inner_list none ts rest h = let n = starts_none statement_alternatives rest h.1 in ((h.0, none_starts inner_alternatives rest n.1), n.0)
inner_list (lead t others) ts rest h = let k = inner_list others h.0 rest h.2 in ((h.0, h.1, k.0), k.1)

inners_ok : (xs : List Tree) (ts rest : List Token) → some_of (begins_form forms.inner) IsInner xs ts rest → division.inners ts ≡ Ok (xs, rest)
unfolding division.inners
inners_ok xs ts rest h = some_ok (begins_form forms.inner) division.inner IsInner (length ts) (λ x u v _ e. inner_ok x u v e) (begun opens_inner) (shorter opens_inner) xs ts rest (omega arith) h

no_data_ok : (b : Block) (ts rest : List Token) → IsNoData b ts rest → division.no_data ts ≡ Ok (list_of b, rest)
unfolding division.no_data
no_data_ok none ts rest u =
    let n = starts_none (alternatives_of forms.no_data) rest u.1 in
    let b : begins (is (reserved (codes "NO"))) ts ≡ false = rw (← u.0) n.0 in
    rw b (ap (λ r. Ok ([], r)) (sym u.0))
no_data_ok (lead t others) ts rest (m, w, (m2, d, (m3, i, k))) =
    let l = inner_list others m3 rest k in
    rw (is_next (reserved (codes "NO")) w.0 ts m w.1, word_ok (reserved (codes "NO")) w.0 ts m w.1, word_ok (reserved (codes "DATA")) d.0 m m2 d.1, inners_ok (t ∷ list_of others) m2 rest (m3, i, l.0), l.1) refl

receive_ok : (cd : Name) (segment : Bool) (into : Identifier) (b : Block) (ts rest : List Token) → IsStatement (receives cd segment into b) ts rest → division.receive ts ≡ Ok (receives cd segment into b, rest)
unfolding division.receive
receive_ok cd segment into b ts rest (m, h, k) = rw (head_ok cd segment into ts m h, no_data_ok b m rest k) (ap (λ x. Ok (receives cd segment into x, rest)) (block_list b))

-- statements one after another
further_list : (b : Block) (ts rest : List Token) → AreFurther b ts rest → all_of (begins_form forms.statement) IsStatement (list_of b) ts rest
further_list none ts rest h = h
further_list (lead t others) ts rest h = (h.0, h.1, further_list others h.0 rest h.2)

statements_list : (b : Block) (ts rest : List Token) → AreStatements b ts rest → some_of (begins_form forms.statement) IsStatement (list_of b) ts rest
statements_list none ts rest h = absurd h
statements_list (lead t others) ts rest h = (h.0, h.1, further_list others h.0 rest h.2)

-- IF, over its statements
module _ (n : ℕ) (statements : Reader (List Tree)) (follows : Follows n alternatives_of statements (form forms.statement ∷ more forms.statement ∷ []))
    (ok : (b : Block) (ts rest : List Token) → length ts ≤ n → AreStatements b ts rest → statements ts ≡ Ok (list_of b, rest)) where
  else_ok : (b : Block) (ts rest : List Token) → length ts ≤ n → IsElse b ts rest → division.otherwise statements ts ≡ Ok (list_of b, rest)
  unfolding division.otherwise
  else_ok none ts rest le u =
      let n = starts_none (alternatives_of forms.otherwise) rest u.1 in
      let b : begins (is (reserved (codes "ELSE"))) ts ≡ false = rw (← u.0) n.0 in
      rw b (ap (λ r. Ok ([], r)) (sym u.0))
  else_ok (lead t others) ts rest le (m, w, k) =
      let e : length ts ≡ suc (length m) = ap length w.1.1 in
      rw (is_next (reserved (codes "ELSE")) w.0 ts m w.1, word_ok (reserved (codes "ELSE")) w.0 ts m w.1) (ok (lead t others) m rest (omega (arith, e, le)) k)

  branch_ok : (position : Position) (c : Condition) (holds others : Block) (ts rest : List Token) → length ts ≤ suc n → IsStatement (branches position c holds others) ts rest
      → division.branch statements ts ≡ Ok (branches position c holds others, rest)
  unfolding division.branch
  branch_ok position c holds others ts rest le (m, w, (m2, h, (m3, k, l))) =
      let e : length ts ≡ suc (length m) = ap length w.2.1 in
      let one : length m2 < length m = shorter {n = length m} opens_condition c m m2 (omega arith) (condition_ok c m m2 h) in
      let le2 : length m2 ≤ n = omega (arith, e, one, le) in
      let two : length m3 ≤ length m2 = no_longer follows (list_of holds) m2 m3 le2 (ok holds m2 m3 le2 k) in
      rw (word_ok (reserved (codes "IF")) w.0 ts m w.2, condition_ok c m m2 h, ok holds m2 m3 le2 k, else_ok others m3 rest (omega (arith, le2, two)) l, block_list holds, block_list others, w.1) refl

blocks_ok : (n : ℕ) → ((t : Tree) (ts rest : List Token) → length ts ≤ n → IsStatement t ts rest → division.read_statement n ts ≡ Ok (t, rest)) → (b : Block) (ts rest : List Token) → length ts ≤ n → AreStatements b ts rest
    → readers.some (begins_form forms.statement) (division.read_statement n) ts ≡ Ok (list_of b, rest)
blocks_ok n ok b ts rest le h =
    some_ok (begins_form forms.statement) (division.read_statement n) IsStatement n ok (begun (opens_statement n)) (shorter (opens_statement n)) (list_of b) ts rest le (statements_list b ts rest h)

takes_one : (t : Tree) (ts rest : List Token) → IsStatement t ts rest → 0 < length ts
takes_one (plain s) ts rest h = let less : length rest < length ts = shorter {n = length ts} opens_plain s ts rest (omega arith) (plain_ok s ts rest h) in omega (arith, less)
takes_one (branches position c holds others) ts rest h = let e : length ts ≡ suc (length h.0) = ap length h.1.2.1 in omega (arith, e)
takes_one (receives cd segment into b) ts rest h = let e : length ts ≡ suc (length h.1.0) = ap length h.1.1.1.1 in omega (arith, e)

pub statement_ok : (n : ℕ) (t : Tree) (ts rest : List Token) → length ts ≤ n → IsStatement t ts rest → division.read_statement n ts ≡ Ok (t, rest)
unfolding division.read_statement
statement_ok zero t ts rest le h = let some : 0 < length ts = takes_one t ts rest h in absurd (omega (arith, some, le))
statement_ok (suc n) (plain s) ts rest le h = rw ((no_if s ts rest h).0, (no_if s ts rest h).1, plain_ok s ts rest h) refl
statement_ok (suc n) (branches position c holds others) ts rest le h =
    rw (is_next (reserved (codes "IF")) h.1.0 ts h.0 h.1.2)
    (branch_ok n _ (is_list alternatives_of forms.statement (division.read_statement n) n (opens_statement n)) (blocks_ok n (statement_ok n)) position c holds others ts rest le h)
statement_ok (suc n) (receives cd segment into b) ts rest le h =
    rw (head_no_if cd segment into ts h.0 h.1, head_next cd segment into ts h.0 h.1) (receive_ok cd segment into b ts rest h)

statements_ok : (n : ℕ) (b : Block) (ts rest : List Token) → length ts ≤ n → AreStatements b ts rest → division.read_statements n ts ≡ Ok (list_of b, rest)
unfolding division.read_statements
statements_ok n b ts rest le h = blocks_ok n (statement_ok n) b ts rest le h

sentence_ok : (n : ℕ) (b : Block) (ts rest : List Token) → length ts ≤ n → IsSentence b ts rest → division.read_sentence n ts ≡ Ok (b, rest)
unfolding division.read_sentence
sentence_ok n b ts rest le (m, h, w) = rw (statements_ok n b ts m le h, word_ok period w.0 m rest w.1) (ap (λ x. Ok (x, rest)) (block_list b))

sentences_ok : (n : ℕ) (xs : List Block) (ts rest : List Token) → length ts ≤ n → all_of (begins_form forms.sentence) IsSentence xs ts rest → division.read_sentences n ts ≡ Ok (xs, rest)
unfolding division.read_sentences
sentences_ok n xs ts rest le h = any_ok (begins_form forms.sentence) (division.read_sentence n) IsSentence n (sentence_ok n) (begun (opens_sentence n)) (shorter (opens_sentence n)) xs ts rest le h

paragraph_ok : (n : ℕ) (p : ParagraphTree) (ts rest : List Token) → length ts ≤ n → IsParagraph p ts rest → division.read_paragraph n ts ≡ Ok (p, rest)
unfolding division.read_paragraph
paragraph_ok n p ts rest le (m, h, (m2, w, k)) =
    let one : length m < length ts = shorter {n = n} opens_name p.name ts m le (name_ok p.name ts m h) in
    let e : length m ≡ suc (length m2) = ap length w.1.1 in
    rw (name_ok p.name ts m h, word_ok period w.0 m m2 w.1, sentences_ok n p.sentences m2 rest (omega (arith, one, e, le)) k) refl

paragraphs_ok : (n : ℕ) (xs : List ParagraphTree) (ts rest : List Token) → length ts ≤ n → some_of (begins_form forms.paragraph) IsParagraph xs ts rest → division.read_paragraphs n ts ≡ Ok (xs, rest)
unfolding division.read_paragraphs
paragraphs_ok n xs ts rest le h = some_ok (begins_form forms.paragraph) (division.read_paragraph n) IsParagraph n (paragraph_ok n) (begun (opens_paragraph n)) (shorter (opens_paragraph n)) xs ts rest le h

division_ok : (n : ℕ) (xs : List ParagraphTree) (ts : List Token) → length ts ≤ n → IsProcedure xs ts → division.read_division n ts ≡ Ok (xs, [])
unfolding division.read_division
division_ok n xs ts le (m, w, (m2, w2, (m3, w3, k))) =
    let e : length ts ≡ suc (length m) = ap length w.1.1 in
    let e2 : length m ≡ suc (length m2) = ap length w2.1.1 in
    let e3 : length m2 ≡ suc (length m3) = ap length w3.1.1 in
    rw (word_ok (reserved (codes "PROCEDURE")) w.0 ts m w.1, word_ok (reserved (codes "DIVISION")) w2.0 m m2 w2.1, word_ok period w3.0 m2 m3 w3.1) (paragraphs_ok n xs m3 [] (omega (arith, e, e2, e3, le)) k)

-- Trees that the tokens spell are those that are read.
pub procedure_only : (ts : List Token) (trees : List ParagraphTree) → IsProcedure trees ts → division.read_procedure ts ≡ Ok trees
procedure_only ts trees h = let read : division.read_division (length ts) ts ≡ Ok (trees, []) = division_ok (length ts) trees ts (omega arith) h in ap whole read

same_ok : (xs ys : List ParagraphTree) (res : Result (List ParagraphTree) ℕ) → res ≡ Ok xs → res ≡ Ok ys → xs ≡ ys
same_ok xs ys res h k = cc

-- Two trees of the same tokens are one.
pub one_tree : (xs ys : List ParagraphTree) (ts : List Token) → IsProcedure xs ts → IsProcedure ys ts → xs ≡ ys
one_tree xs ys ts h k = same_ok xs ys (division.read_procedure ts) (procedure_only ts xs h) (procedure_only ts ys k)
