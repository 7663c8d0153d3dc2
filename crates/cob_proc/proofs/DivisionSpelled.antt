-- What the readers of statements, sentences, paragraphs and the division find is spelled so.
use Rattle.std.proofs.Common.{◌≡◌, ℕ, zero, suc, ◌≤◌, ◌<◌, Bool, true, false, List, [], ◌∷◌, length, Result, Ok, Err, refl, ap, arith, codes}
use Rattle.std.specs.Bool.{if◌then◌else◌}
use Rattle.cob_lex.specs.declared.token.Token.{Token}
use Rattle.cob_forms.specs.declared.written.Name.{Name}
use Rattle.cob_forms.specs.Sorts.{is, reserved}
use Rattle.cob_forms.specs.Written.{position_of}
use Rattle.cob_forms.specs.Readers as readers
use Rattle.cob_forms.specs.Readers.{Reader, at, begins, found, go_on, ◌>>=◌, ◌>>◌, read_name}
use Rattle.cob_forms.specs.Forms.{form, more}
use Rattle.cob_forms.specs.Spelling.{Spelling, ◌⊙◌, a, word, all_of, some_of}
use Rattle.cob_proc.specs.declared.tree.Identifier.{Identifier}
use Rattle.cob_proc.specs.Forms as forms
use Rattle.cob_proc.specs.Forms.{alternatives_of, period, inner_alternatives, statement_alternatives}
use Rattle.cob_proc.specs.Spelled.{begins_form, IsInner, AreInner, IsNoData, IsReceive, IsStatement, AreStatements, AreFurther, IsElse, IsSentence, IsParagraph, IsProcedure}
use Rattle.cob_proc.specs.Trees.{Tree, plain, branches, receives, Block, none, lead, block_of, ParagraphTree}
use Rattle.cob_proc.specs.DivisionReaders as division
use Rattle.cob_proc.specs.DivisionReaders.{whole}
use Rattle.cob_forms.proofs.Agreement.{Follows, no_longer, shorter}
use Rattle.cob_forms.proofs.Only.{none_starts, starts_none}
use Rattle.cob_forms.proofs.Spelled.{Finds, Holds, any_found, by_test, end, name_found, noted, nowhere_found, one, one_of_two, some_found, step, weaker, word_found}
use Rattle.cob_forms.proofs.Turns.{is_list}
use Rattle.cob_proc.proofs.FormsAgree.{opens_condition, opens_name}
use Rattle.cob_proc.proofs.DivisionAgrees.{opens_inner, opens_paragraph, opens_sentence, opens_statement}
use Rattle.cob_proc.proofs.PartsSpelled.{condition_found, identifier_found}
use Rattle.cob_proc.proofs.StatementsSpelled.{plain_found}

-- RECEIVE
unit_found : (ts : List Token) → Finds (division.unit_of_text ts) (λ segment rest. word (if segment then codes "SEGMENT" else codes "MESSAGE") ts rest)
unfolding division.unit_of_text
unit_found ts = one_of_two _
    (step (word_found (reserved (codes "MESSAGE")) ts) (λ _ m h. end (λ segment rest. word (if segment then codes "SEGMENT" else codes "MESSAGE") ts rest) false m h))
    (step (word_found (reserved (codes "SEGMENT")) ts) (λ _ m h. end (λ segment rest. word (if segment then codes "SEGMENT" else codes "MESSAGE") ts rest) true m h))

head_found : (ts : List Token) → Finds (division.receive_head ts) (λ x rest. IsReceive x.0 x.1 x.2 ts rest)
unfolding division.receive_head
head_found ts = step (word_found (reserved (codes "RECEIVE")) ts) (λ _ m h. step (name_found m) (λ cd m2 h2. step (unit_found m2) (λ segment m3 h3. step (word_found (reserved (codes "INTO")) m3) (λ _ m4 h4. step (identifier_found m4)
    (λ into m5 h5. end (λ (x : Name × Bool × Identifier) rest. IsReceive x.0 x.1 x.2 ts rest) (cd, segment, into) m5 (m, h, (m2, h2, (m3, h3, (m4, h4, h5)))))))))

inner_found : (ts : List Token) → Finds (division.inner ts) (λ t rest. IsInner t ts rest)
unfolding division.inner division.receive_alone
inner_found ts = one_of_two _
    (step (head_found ts) (λ head m h. end (λ t rest. IsInner t ts rest) (receives head.0 head.1 head.2 none) m h))
    (step (plain_found ts) (λ s m h. end (λ t rest. IsInner t ts rest) (plain s) m h))

inners_found : (ts : List Token) → Finds (division.inners ts) (λ xs rest. some_of (begins_form forms.inner) IsInner xs ts rest)
unfolding division.inners
inners_found ts = some_found (begins_form forms.inner) division.inner IsInner (length ts) (λ u _. inner_found u) (shorter opens_inner) ts (omega arith)

inner_block : (xs : List Tree) (ts rest : List Token) → all_of (begins_form forms.inner) IsInner xs ts rest → begins (is (reserved (codes "IF"))) rest ≡ false → AreInner (block_of xs) ts rest
inner_block [] ts rest h b = (h.0, none_starts statement_alternatives rest (b, starts_none inner_alternatives rest h.1))
inner_block (x ∷ xs) ts rest h b = (h.0, h.1, inner_block xs h.0 rest h.2 b)

no_data_block : (xs : List Tree) (ts m m2 rest : List Token) → word (codes "NO") ts m → word (codes "DATA") m m2 → some_of (begins_form forms.inner) IsInner xs m2 rest → begins (is (reserved (codes "IF"))) rest ≡ false → IsNoData (block_of xs) ts rest
no_data_block [] ts m m2 rest h h2 k b = absurd k
no_data_block (x ∷ xs) ts m m2 rest h h2 k b = (m, h, (m2, h2, (k.0, k.1, inner_block xs k.0 rest k.2 b)))

no_data_found : (ts : List Token) → Finds (division.no_data ts) (λ xs rest. IsNoData (block_of xs) ts rest)
unfolding division.no_data
no_data_found ts = by_test (begins (is (reserved (codes "NO"))) ts)
    (λ _. step (word_found (reserved (codes "NO")) ts) (λ _ m h. step (word_found (reserved (codes "DATA")) m) (λ _ m2 h2. step (inners_found m2) (λ xs m3 k. by_test (begins (is (reserved (codes "IF"))) m3)
    (λ _. nowhere_found m3)
    (λ b. end (λ xs rest. IsNoData (block_of xs) ts rest) xs m3 (no_data_block xs ts m m2 m3 h h2 k b))))))
    (λ b. end (λ xs rest. IsNoData (block_of xs) ts rest) [] ts (refl, none_starts (alternatives_of forms.no_data) ts (b, tt)))

receive_found : (ts : List Token) → Finds (division.receive ts) (λ t rest. IsStatement t ts rest)
unfolding division.receive
receive_found ts = step (head_found ts) (λ head m h. step (no_data_found m) (λ xs m2 k. end (λ t rest. IsStatement t ts rest) (receives head.0 head.1 head.2 (block_of xs)) m2 (m, h, k)))

-- statements one after another
further_block : (xs : List Tree) (ts rest : List Token) → all_of (begins_form forms.statement) IsStatement xs ts rest → AreFurther (block_of xs) ts rest
further_block [] ts rest h = h
further_block (x ∷ xs) ts rest h = (h.0, h.1, further_block xs h.0 rest h.2)

statements_block : (xs : List Tree) (ts rest : List Token) → some_of (begins_form forms.statement) IsStatement xs ts rest → AreStatements (block_of xs) ts rest
statements_block [] ts rest h = absurd h
statements_block (x ∷ xs) ts rest h = (h.0, h.1, further_block xs h.0 rest h.2)

else_block : (b : Block) (ts m rest : List Token) → word (codes "ELSE") ts m → AreStatements b m rest → IsElse b ts rest
else_block none ts m rest w h = absurd h
else_block (lead t others) ts m rest w h = (m, w, h)

-- IF, over its statements
module _ (n : ℕ) (statements : Reader (List Tree)) (follows : Follows n alternatives_of statements (form forms.statement ∷ more forms.statement ∷ []))
    (sound : (ts : List Token) → length ts ≤ n → Finds (statements ts) (λ xs rest. AreStatements (block_of xs) ts rest)) where
  else_found : (ts : List Token) → length ts ≤ n → Finds (division.otherwise statements ts) (λ xs rest. IsElse (block_of xs) ts rest)
  unfolding division.otherwise
  else_found ts le = by_test (begins (is (reserved (codes "ELSE"))) ts)
      (λ _. step (one (reserved (codes "ELSE")) ts) (λ w m h. let e : length ts ≡ suc (length m) = ap length h.1 in
      weaker (sound m (omega (arith, e, le))) (λ xs rest k. else_block (block_of xs) ts m rest (w, h) k)))
      (λ b. end (λ xs rest. IsElse (block_of xs) ts rest) [] ts (refl, none_starts (alternatives_of forms.otherwise) ts (b, tt)))

  branch_found : (ts : List Token) → length ts ≤ suc n → Finds (division.branch statements ts) (λ t rest. IsStatement t ts rest)
  unfolding division.branch
  branch_found ts le = step (one (reserved (codes "IF")) ts) (λ sign m h. let e : length ts ≡ suc (length m) = ap length h.1 in
      step (noted {Q = λ _ r. length r < length m} (condition_found m) (λ c r k. shorter {n = length m} opens_condition c m r (omega arith) k)) (λ c m2 k2. let le2 : length m2 ≤ n = omega (arith, e, le, k2.1) in
      step (noted {Q = λ _ r. length r ≤ length m2} (sound m2 le2) (λ xs r k. no_longer follows xs m2 r le2 k)) (λ holds m3 k3.
      step (else_found m3 (omega (arith, le2, k3.1))) (λ others m4 k4.
      end (λ t rest. IsStatement t ts rest) (branches (position_of sign) c (block_of holds) (block_of others)) m4 (m, (sign, refl, h), (m2, k2.0, (m3, k3.0, k4)))))))

blocks_found : (n : ℕ) → ((ts : List Token) → length ts ≤ n → Finds (division.read_statement n ts) (λ t rest. IsStatement t ts rest)) → (ts : List Token) → length ts ≤ n
    → Finds (readers.some (begins_form forms.statement) (division.read_statement n) ts) (λ xs rest. AreStatements (block_of xs) ts rest)
blocks_found n sound ts le = weaker (some_found (begins_form forms.statement) (division.read_statement n) IsStatement n sound (shorter (opens_statement n)) ts le) (λ xs rest h. statements_block xs ts rest h)

pub statement_found : (n : ℕ) (ts : List Token) → length ts ≤ n → Finds (division.read_statement n ts) (λ t rest. IsStatement t ts rest)
unfolding division.read_statement
statement_found zero ts le = nowhere_found ts
statement_found (suc n) ts le =
    one_of_two _ (branch_found n _ (is_list alternatives_of forms.statement (division.read_statement n) n (opens_statement n)) (blocks_found n (statement_found n)) ts le)
    (one_of_two _ (receive_found ts) (step (plain_found ts) (λ s m h. end (λ t rest. IsStatement t ts rest) (plain s) m h)))

statements_found : (n : ℕ) (ts : List Token) → length ts ≤ n → Finds (division.read_statements n ts) (λ xs rest. AreStatements (block_of xs) ts rest)
unfolding division.read_statements
statements_found n ts le = blocks_found n (statement_found n) ts le

sentence_found : (n : ℕ) (ts : List Token) → length ts ≤ n → Finds (division.read_sentence n ts) (λ b rest. IsSentence b ts rest)
unfolding division.read_sentence
sentence_found n ts le = step (statements_found n ts le) (λ xs m h. step (word_found period m) (λ _ m2 h2. end (λ b rest. IsSentence b ts rest) (block_of xs) m2 (m, h, h2)))

sentences_found : (n : ℕ) (ts : List Token) → length ts ≤ n → Finds (division.read_sentences n ts) (λ xs rest. all_of (begins_form forms.sentence) IsSentence xs ts rest)
unfolding division.read_sentences
sentences_found n ts le = any_found (begins_form forms.sentence) (division.read_sentence n) IsSentence n (sentence_found n) (shorter (opens_sentence n)) ts le

paragraph_found : (n : ℕ) (ts : List Token) → length ts ≤ n → Finds (division.read_paragraph n ts) (λ p rest. IsParagraph p ts rest)
unfolding division.read_paragraph
paragraph_found n ts le = step (noted {Q = λ _ r. length r < length ts} (name_found ts) (λ x r k. shorter {n = n} opens_name x ts r le k)) (λ title m h.
    step (one period m) (λ dot m2 h2. let e : length m ≡ suc (length m2) = ap length h2.1 in
    step (sentences_found n m2 (omega (arith, e, le, h.1))) (λ xs m3 h3. end (λ p rest. IsParagraph p ts rest) (record { name = title; sentences = xs }) m3 (m, h.0, (m2, (dot, h2), h3)))))

paragraphs_found : (n : ℕ) (ts : List Token) → length ts ≤ n → Finds (division.read_paragraphs n ts) (λ xs rest. some_of (begins_form forms.paragraph) IsParagraph xs ts rest)
unfolding division.read_paragraphs
paragraphs_found n ts le = some_found (begins_form forms.paragraph) (division.read_paragraph n) IsParagraph n (paragraph_found n) (shorter (opens_paragraph n)) ts le

-- the whole division, from some tokens to those behind it
abbrev IsDivision : List ParagraphTree → Spelling
IsDivision xs = word (codes "PROCEDURE") ⊙ word (codes "DIVISION") ⊙ a period ⊙ some_of (begins_form forms.paragraph) IsParagraph xs

division_found : (n : ℕ) (ts : List Token) → length ts ≤ n → Finds (division.read_division n ts) (λ xs rest. IsDivision xs ts rest)
unfolding division.read_division
division_found n ts le = step (one (reserved (codes "PROCEDURE")) ts) (λ w m h. let e : length ts ≡ suc (length m) = ap length h.1 in
    step (one (reserved (codes "DIVISION")) m) (λ w2 m2 h2. let e2 : length m ≡ suc (length m2) = ap length h2.1 in
    step (one period m2) (λ w3 m3 h3. let e3 : length m2 ≡ suc (length m3) = ap length h3.1 in
    weaker (paragraphs_found n m3 (omega (arith, e, e2, e3, le))) (λ xs rest k. (m, (w, h), (m2, (w2, h2), (m3, (w3, h3), k)))))))

whole_holds : {A : Type 0} (res : Result (A × List Token) ℕ) (P : A → List Token → Type 0) (x : A) → Holds res P → whole res ≡ Ok x → P x []
whole_holds (Ok (y, [])) P x h e = let same : y ≡ x = cc in rw (← same) h
whole_holds (Ok (y, t ∷ ts)) P x h e = let no : ⊥ = cc in absurd no
whole_holds (Err left) P x h e = let no : ⊥ = cc in absurd no

-- The trees that are read are spelled by the tokens.
pub procedure_spelled : (ts : List Token) (trees : List ParagraphTree) → division.read_procedure ts ≡ Ok trees → IsProcedure trees ts
procedure_spelled ts trees e = whole_holds (division.read_division (length ts) ts) (λ xs rest. IsDivision xs ts rest) trees ((division_found (length ts) ts (omega arith)).holds) e
