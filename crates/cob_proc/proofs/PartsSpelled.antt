-- What the readers of operands and conditions find is spelled so.
use Rattle.std.proofs.Common.{◌≡◌, ℕ, Bool, true, List, [], ◌∷◌, length, refl, inl, inr, arith, codes}
use Rattle.cob_lex.specs.declared.token.Token.{Token}
use Rattle.cob_lex.specs.declared.token.TokenKind.TheVariants as tokens
use Rattle.cob_forms.specs.declared.written.Position.{Position}
use Rattle.cob_forms.specs.Sorts.{is, name, of_kind, reserved}
use Rattle.cob_forms.specs.Written.{position_of}
use Rattle.cob_forms.specs.Readers.{begins}
use Rattle.cob_forms.specs.Spelling.{Spelling, ◌⊙◌, the, a, word, maybe_word, written, some_of, IsName, IsNumber}
use Rattle.cob_proc.specs.declared.tree.Addend.TheVariants as addends
use Rattle.cob_proc.specs.declared.tree.Identifier.{Identifier}
use Rattle.cob_proc.specs.declared.tree.Joint.TheVariants as joints
use Rattle.cob_proc.specs.declared.tree.Key.TheVariants as keys
use Rattle.cob_proc.specs.declared.tree.Operand.{Operand}
use Rattle.cob_proc.specs.declared.tree.Operand.TheVariants as operands
use Rattle.cob_proc.specs.declared.tree.Relation.TheVariants as relations
use Rattle.cob_proc.specs.declared.tree.Simple.{Simple}
use Rattle.cob_proc.specs.declared.tree.Simple.TheVariants as simples
use Rattle.cob_proc.specs.declared.tree.Subscript.{Subscript}
use Rattle.cob_proc.specs.declared.tree.Subscript.TheVariants as subscripts
use Rattle.cob_proc.specs.Forms as forms
use Rattle.cob_proc.specs.Forms.{alternatives_of}
use Rattle.cob_proc.specs.Spelled.{begins_form, open_sign, close_sign, IsSubscript, IsIdentifier, IsOperand, IsAddend, IsKey, IsRelation, IsSimple, IsCondition}
use Rattle.cob_proc.specs.PartReaders as parts
use Rattle.cob_forms.proofs.Agreement.{shorter}
use Rattle.cob_forms.proofs.Only.{none_starts}
use Rattle.cob_forms.proofs.Spelled.{Finds, by_test, end, further_found, literal_found, maybe_found, name_found, number_found, one, one_of_two, optional_found, perhaps_found, some_found, step, weaker, word_found}
use Rattle.cob_proc.proofs.FormsAgree.{opens_identifier, opens_joined_part}

-- what stands in the parentheses at a position
abbrev pub Within : Position → Subscript → Spelling
Within position (subscripts.Item p item) ts rest = (p ≡ position) × IsName item ts rest
Within position (subscripts.Number p number) ts rest = (p ≡ position) × IsNumber number ts rest

value_found : (position : Position) (ts : List Token) → Finds (parts.subscript_value position ts) (λ s rest. Within position s ts rest)
unfolding parts.subscript_value
value_found position ts = one_of_two (begins (is name) ts)
    (step (name_found ts) (λ item m h. end (λ s rest. Within position s ts rest) (subscripts.Item position item) m (refl, h)))
    (step (number_found ts) (λ number m h. end (λ s rest. Within position s ts rest) (subscripts.Number position number) m (refl, h)))

closed : (s : Subscript) (sign : Token) (ts m m2 rest : List Token) → the open_sign sign ts m → Within (position_of sign) s m m2 → a close_sign m2 rest → IsSubscript s ts rest
closed (subscripts.Item p item) sign ts m m2 rest o w c = (m, (sign, w.0, o), (m2, w.1, c))
closed (subscripts.Number p number) sign ts m m2 rest o w c = (m, (sign, w.0, o), (m2, w.1, c))

pub subscript_found : (ts : List Token) → Finds (parts.subscript ts) (λ s rest. IsSubscript s ts rest)
unfolding parts.subscript
subscript_found ts = step (one open_sign ts) (λ sign m h. step (value_found (position_of sign) m) (λ s m2 h2. step (word_found close_sign m2)
    (λ _ m3 h3. end (λ s rest. IsSubscript s ts rest) s m3 (closed s sign ts m m2 m3 h h2 h3))))

pub identifier_found : (ts : List Token) → Finds (parts.identifier ts) (λ i rest. IsIdentifier i ts rest)
unfolding parts.identifier
identifier_found ts = step (name_found ts) (λ item m h. step (maybe_found (begins_form forms.subscript) parts.subscript IsSubscript m (subscript_found m))
    (λ s m2 h2. end (λ i rest. IsIdentifier i ts rest) (record { name = item; subscript = s }) m2 (m, h, h2)))

pub identifiers_found : (ts : List Token) → Finds (parts.identifiers ts) (λ xs rest. some_of (begins_form forms.identifier) IsIdentifier xs ts rest)
unfolding parts.identifiers
identifiers_found ts = some_found (begins_form forms.identifier) parts.identifier IsIdentifier (length ts) (λ u _. identifier_found u) (shorter opens_identifier) ts (omega arith)

pub constant_found : (ts : List Token) → Finds (parts.constant ts) (λ o rest. IsOperand o ts rest)
unfolding parts.constant
constant_found ts =
    one_of_two _ (step (literal_found ts) (λ x m h. end (λ o rest. IsOperand o ts rest) (operands.Literal x) m h))
    (one_of_two _ (step (number_found ts) (λ x m h. end (λ o rest. IsOperand o ts rest) (operands.Number x) m h))
    (one_of_two _ (step (one (reserved (codes "SPACE")) ts) (λ t m h. end (λ o rest. IsOperand o ts rest) (operands.Spaces (position_of t)) m (inl (t, refl, h))))
    (one_of_two _ (step (one (reserved (codes "SPACES")) ts) (λ t m h. end (λ o rest. IsOperand o ts rest) (operands.Spaces (position_of t)) m (inr (inl (t, refl, h)))))
    (one_of_two _ (step (one (reserved (codes "ZERO")) ts) (λ t m h. end (λ o rest. IsOperand o ts rest) (operands.Zeros (position_of t)) m (inl (t, refl, h))))
    (one_of_two _ (step (one (reserved (codes "ZEROS")) ts) (λ t m h. end (λ o rest. IsOperand o ts rest) (operands.Zeros (position_of t)) m (inr (inl (t, refl, h)))))
    (step (one (reserved (codes "ZEROES")) ts) (λ t m h. end (λ o rest. IsOperand o ts rest) (operands.Zeros (position_of t)) m (inr (inr (inl (t, refl, h)))))))))))

pub operand_found : (ts : List Token) → Finds (parts.operand ts) (λ o rest. IsOperand o ts rest)
unfolding parts.operand
operand_found ts = one_of_two _ (step (identifier_found ts) (λ x m h. end (λ o rest. IsOperand o ts rest) (operands.Item x) m h)) (constant_found ts)

pub addend_found : (ts : List Token) → Finds (parts.addend ts) (λ o rest. IsAddend o ts rest)
unfolding parts.addend
addend_found ts = one_of_two _ (step (identifier_found ts) (λ x m h. end (λ o rest. IsAddend o ts rest) (addends.Item x) m h))
    (step (number_found ts) (λ x m h. end (λ o rest. IsAddend o ts rest) (addends.Number x) m h))

pub key_found : (ts : List Token) → Finds (parts.key ts) (λ o rest. IsKey o ts rest)
unfolding parts.key
key_found ts = one_of_two _ (step (identifier_found ts) (λ x m h. end (λ o rest. IsKey o ts rest) (keys.Item x) m h))
    (step (literal_found ts) (λ x m h. end (λ o rest. IsKey o ts rest) (keys.Literal x) m h))

-- conditions
relation_found : (ts : List Token) → Finds (parts.relation ts) (λ r rest. IsRelation r ts rest)
unfolding parts.relation
relation_found ts =
    one_of_two _ (step (word_found (of_kind tokens.Equal) ts) (λ _ m h. end (λ r rest. IsRelation r ts rest) relations.Equal m (inl h)))
    (one_of_two _ (step (word_found (reserved (codes "EQUAL")) ts) (λ _ m h. step (perhaps_found (reserved (codes "TO")) m) (λ _ m2 h2. end (λ r rest. IsRelation r ts rest) relations.Equal m2 (inr (m, h, h2)))))
    (one_of_two _ (step (word_found (of_kind tokens.Greater) ts) (λ _ m h. end (λ r rest. IsRelation r ts rest) relations.Greater m (inl h)))
    (one_of_two _ (step (word_found (reserved (codes "GREATER")) ts) (λ _ m h. step (perhaps_found (reserved (codes "THAN")) m) (λ _ m2 h2. end (λ r rest. IsRelation r ts rest) relations.Greater m2 (inr (m, h, h2)))))
    (one_of_two _ (step (word_found (of_kind tokens.Less) ts) (λ _ m h. end (λ r rest. IsRelation r ts rest) relations.Less m (inl h)))
    (step (word_found (reserved (codes "LESS")) ts) (λ _ m h. step (perhaps_found (reserved (codes "THAN")) m) (λ _ m2 h2. end (λ r rest. IsRelation r ts rest) relations.Less m2 (inr (m, h, h2)))))))))

-- a comparison behind its left side, and NUMERIC too
abbrev pub IsCompared : Operand → Bool → Simple → Spelling
IsCompared left denied (simples.Compares l d how right) ts rest = (l ≡ left) × (d ≡ denied) × (IsRelation how ⊙ IsOperand right) ts rest
IsCompared left denied (simples.Numeric item d) ts rest = ⊥

abbrev pub IsTested : Identifier → Bool → Simple → Spelling
IsTested item denied (simples.Compares l d how right) ts rest = (l ≡ operands.Item item) × (d ≡ denied) × (IsRelation how ⊙ IsOperand right) ts rest
IsTested item denied (simples.Numeric i d) ts rest = (i ≡ item) × (d ≡ denied) × word (codes "NUMERIC") ts rest

compared_found : (left : Operand) (denied : Bool) (ts : List Token) → Finds (parts.compared left denied ts) (λ s rest. IsCompared left denied s ts rest)
unfolding parts.compared
compared_found left denied ts = step (relation_found ts) (λ how m h. step (operand_found m) (λ right m2 h2. end (λ s rest. IsCompared left denied s ts rest) (simples.Compares left denied how right) m2 (refl, refl, (m, h, h2))))

compared_tested : (item : Identifier) (denied : Bool) (s : Simple) (ts rest : List Token) → IsCompared (operands.Item item) denied s ts rest → IsTested item denied s ts rest
compared_tested item denied (simples.Compares l d how right) ts rest h = h
compared_tested item denied (simples.Numeric i d) ts rest h = absurd h

tested_found : (item : Identifier) (denied : Bool) (ts : List Token) → Finds (parts.tested item denied ts) (λ s rest. IsTested item denied s ts rest)
unfolding parts.tested
tested_found item denied ts = one_of_two _
    (step (word_found (reserved (codes "NUMERIC")) ts) (λ _ m h. end (λ s rest. IsTested item denied s ts rest) (simples.Numeric item denied) m (refl, refl, h)))
    (weaker (compared_found (operands.Item item) denied ts) (λ s rest h. compared_tested item denied s ts rest h))

tested_simple : (item : Identifier) (denied : Bool) (s : Simple) (ts m m2 m3 rest : List Token) → IsIdentifier item ts m → maybe_word (codes "IS") m m2 → written denied (reserved (codes "NOT")) m2 m3 → IsTested item denied s m3 rest → IsSimple s ts rest
tested_simple item denied (simples.Compares l d how right) ts m m2 m3 rest h i w t = rw (t.0, t.1) (m, h, (m3, (m2, i, w), t.2))
tested_simple item denied (simples.Numeric j d) ts m m2 m3 rest h i w t = rw (t.0, t.1) (m, h, (m3, (m2, i, w), t.2))

compared_simple : (left : Operand) (denied : Bool) (s : Simple) (ts m m2 m3 rest : List Token) → IsOperand left ts m → maybe_word (codes "IS") m m2 → written denied (reserved (codes "NOT")) m2 m3 → IsCompared left denied s m3 rest → IsSimple s ts rest
compared_simple left denied (simples.Compares l d how right) ts m m2 m3 rest h i w t = rw (t.0, t.1) (m, h, (m3, (m2, i, w), t.2))
compared_simple left denied (simples.Numeric j d) ts m m2 m3 rest h i w t = absurd t

pub simple_found : (ts : List Token) → Finds (parts.simple ts) (λ s rest. IsSimple s ts rest)
unfolding parts.simple parts.perhaps_denied
simple_found ts = one_of_two _
    (step (identifier_found ts) (λ item m h. step (perhaps_found (reserved (codes "IS")) m) (λ _ m2 i. step (optional_found (reserved (codes "NOT")) m2)
    (λ denied m3 w. weaker (tested_found item denied m3) (λ s rest t. tested_simple item denied s ts m m2 m3 rest h i w t)))))
    (step (constant_found ts) (λ left m h. step (perhaps_found (reserved (codes "IS")) m) (λ _ m2 i. step (optional_found (reserved (codes "NOT")) m2)
    (λ denied m3 w. weaker (compared_found left denied m3) (λ s rest t. compared_simple left denied s ts m m2 m3 rest h i w t)))))

-- a further simple condition
abbrev pub IsPart : List ℕ → Simple → Spelling
IsPart text other = word text ⊙ IsSimple other

part_found : (text : List ℕ) (ts : List Token) → Finds (parts.joined_part text ts) (λ s rest. IsPart text s ts rest)
unfolding parts.joined_part
part_found text ts = step (word_found (reserved text) ts) (λ _ m h. weaker (simple_found m) (λ s rest k. (m, h, k)))

joined_found : (text : List ℕ) (first : Simple) (ts : List Token) → begins (is (reserved text)) ts ≡ true
    → Finds (parts.joined text first ts) (λ xs rest. (ys : List Simple) × (xs ≡ first ∷ ys) × some_of (is (reserved text)) (IsPart text) ys ts rest)
unfolding parts.joined
joined_found text first ts b = further_found (is (reserved text)) (parts.joined_part text) (IsPart text) (length ts) (λ u _. part_found text u) (shorter (opens_joined_part text)) first ts (omega arith) b

pub condition_found : (ts : List Token) → Finds (parts.condition ts) (λ c rest. IsCondition c ts rest)
unfolding parts.condition
condition_found ts = step (simple_found ts) (λ first m h.
    by_test (begins (is (reserved (codes "AND"))) m) (λ b. step (joined_found (codes "AND") first m b) (λ xs m2 k. end (λ c rest. IsCondition c ts rest) (record { joint = joints.And; parts = xs }) m2 (rw (k.1) (m, h, k.2))))
    (λ b. by_test (begins (is (reserved (codes "OR"))) m) (λ c. step (joined_found (codes "OR") first m c) (λ xs m2 k. end (λ c rest. IsCondition c ts rest) (record { joint = joints.Or; parts = xs }) m2 (rw (k.1) (m, h, k.2))))
    (λ c. end (λ c rest. IsCondition c ts rest) (record { joint = joints.Alone; parts = first ∷ [] }) m (m, h, (refl, none_starts (alternatives_of forms.joined) m (b, (c, tt)))))))
