-- What is spelled as an operand or a condition is read so.
use Rattle.std.proofs.Common.{◌≡◌, ℕ, ◌≤◌, Bool, true, false, List, [], ◌∷◌, length, Ok, refl, sym, ap, ◌∙◌, inl, inr, arith, codes}
use Rattle.cob_lex.specs.declared.token.Token.{Token}
use Rattle.cob_lex.specs.declared.token.TokenKind.TheVariants as tokens
use Rattle.cob_forms.specs.declared.written.Name.{Name}
use Rattle.cob_forms.specs.declared.written.Position.{Position}
use Rattle.cob_forms.specs.Sorts.{is, name, of_kind, reserved}
use Rattle.cob_forms.specs.Written.{position_of}
use Rattle.cob_forms.specs.Readers.{Reader, begins}
use Rattle.cob_forms.specs.Spelling.{Spelling, ◌⊙◌, the, word, some_of, IsName, IsNumber, IsLiteral}
use Rattle.cob_proc.specs.declared.tree.Addend.{Addend}
use Rattle.cob_proc.specs.declared.tree.Addend.TheVariants as addends
use Rattle.cob_proc.specs.declared.tree.Condition.{Condition}
use Rattle.cob_proc.specs.declared.tree.Identifier.{Identifier}
use Rattle.cob_proc.specs.declared.tree.Joint.{Joint}
use Rattle.cob_proc.specs.declared.tree.Joint.TheVariants as joints
use Rattle.cob_proc.specs.declared.tree.Key.{Key}
use Rattle.cob_proc.specs.declared.tree.Key.TheVariants as keys
use Rattle.cob_proc.specs.declared.tree.Operand.{Operand}
use Rattle.cob_proc.specs.declared.tree.Operand.TheVariants as operands
use Rattle.cob_proc.specs.declared.tree.Relation.{Relation}
use Rattle.cob_proc.specs.declared.tree.Relation.TheVariants as relations
use Rattle.cob_proc.specs.declared.tree.Simple.{Simple}
use Rattle.cob_proc.specs.declared.tree.Simple.TheVariants as simples
use Rattle.cob_proc.specs.declared.tree.Subscript.{Subscript}
use Rattle.cob_proc.specs.declared.tree.Subscript.TheVariants as subscripts
use Rattle.cob_proc.specs.Forms as forms
use Rattle.cob_proc.specs.Forms.{alternatives_of}
use Rattle.cob_proc.specs.Spelled.{begins_form, open_sign, close_sign, IsSubscript, IsIdentifier, IsOperand, IsAddend, IsKey, IsRelation, is_denied, IsSimple, IsCondition}
use Rattle.cob_proc.specs.PartReaders as parts
use Rattle.cob_forms.proofs.Agreement.{shorter}
use Rattle.cob_forms.proofs.Only.{begins_other, begun, further_ok, is_next, literal_ok, maybe_ok, name_ok, not_next, number_ok, perhaps_ok, some_ok, starts_none, word_ok, written_ok}
use Rattle.cob_forms.specs.Forms.{form}
use Rattle.cob_proc.proofs.FormsAgree.{opens_identifier, opens_joined_part, opens_subscript, single}
use Rattle.cob_proc.proofs.PartsSpelled.{IsPart}

-- a name, a number and a literal begin as such
pub named : (x : Name) (ts rest : List Token) → IsName x ts rest → begins (is name) ts ≡ true
named x ts rest h = is_next name h.0 ts rest h.2

pub numbered : (x : _) (ts rest : List Token) → IsNumber x ts rest → begins (is (of_kind tokens.Number)) ts ≡ true
numbered x ts rest h = is_next (of_kind tokens.Number) h.0 ts rest h.2

pub quoted : (x : _) (ts rest : List Token) → IsLiteral x ts rest → begins (is (of_kind tokens.Literal)) ts ≡ true
quoted x ts rest h = is_next (of_kind tokens.Literal) h.0 ts rest h.2

item_ok : (position : Position) (x : Name) (ts rest : List Token) → IsName x ts rest → parts.subscript_value position ts ≡ Ok (subscripts.Item position x, rest)
unfolding parts.subscript_value
item_ok position x ts rest h = rw (named x ts rest h, name_ok x ts rest h) refl

count_ok : (position : Position) (x : _) (ts rest : List Token) → IsNumber x ts rest → parts.subscript_value position ts ≡ Ok (subscripts.Number position x, rest)
unfolding parts.subscript_value
count_ok position x ts rest h = rw (begins_other (of_kind tokens.Number) name ts (numbered x ts rest h) refl, number_ok x ts rest h) refl

pub subscript_ok : (s : Subscript) (ts rest : List Token) → IsSubscript s ts rest → parts.subscript ts ≡ Ok (s, rest)
unfolding parts.subscript
subscript_ok (subscripts.Item p x) ts rest (m, o, (m2, h, c)) = rw (word_ok open_sign o.0 ts m o.2, item_ok (position_of o.0) x m m2 h, word_ok close_sign c.0 m2 rest c.1, o.1) refl
subscript_ok (subscripts.Number p x) ts rest (m, o, (m2, h, c)) = rw (word_ok open_sign o.0 ts m o.2, count_ok (position_of o.0) x m m2 h, word_ok close_sign c.0 m2 rest c.1, o.1) refl

pub identifier_ok : (i : Identifier) (ts rest : List Token) → IsIdentifier i ts rest → parts.identifier ts ≡ Ok (i, rest)
unfolding parts.identifier
identifier_ok i ts rest (m, h, k) =
    rw (name_ok i.name ts m h, maybe_ok (begins_form forms.subscript) parts.subscript IsSubscript (length m) (λ x u v _ e. subscript_ok x u v e) (begun opens_subscript) i.subscript m rest (omega arith) k) refl

pub identified : (i : Identifier) (ts rest : List Token) → IsIdentifier i ts rest → begins (is name) ts ≡ true
identified i ts rest h = named i.name ts h.0 h.1

pub identifiers_ok : (xs : List Identifier) (ts rest : List Token) → some_of (begins_form forms.identifier) IsIdentifier xs ts rest → parts.identifiers ts ≡ Ok (xs, rest)
unfolding parts.identifiers
identifiers_ok xs ts rest h =
    some_ok (begins_form forms.identifier) parts.identifier IsIdentifier (length ts) (λ x u v _ e. identifier_ok x u v e) (begun opens_identifier) (shorter opens_identifier) xs ts rest (omega arith) h

space_ok : (t : Token) (ts rest : List Token) → the (reserved (codes "SPACE")) t ts rest → parts.constant ts ≡ Ok (operands.Spaces (position_of t), rest)
unfolding parts.constant
space_ok t ts rest h = rw (not_next (reserved (codes "SPACE")) (of_kind tokens.Literal) t ts rest h refl, not_next (reserved (codes "SPACE")) (of_kind tokens.Number) t ts rest h refl, is_next (reserved (codes "SPACE")) t ts rest h, word_ok (reserved (codes "SPACE")) t ts rest h) refl

spaces_ok : (t : Token) (ts rest : List Token) → the (reserved (codes "SPACES")) t ts rest → parts.constant ts ≡ Ok (operands.Spaces (position_of t), rest)
unfolding parts.constant
spaces_ok t ts rest h = rw (not_next (reserved (codes "SPACES")) (of_kind tokens.Literal) t ts rest h refl, not_next (reserved (codes "SPACES")) (of_kind tokens.Number) t ts rest h refl, not_next (reserved (codes "SPACES")) (reserved (codes "SPACE")) t ts rest h refl, is_next (reserved (codes "SPACES")) t ts rest h, word_ok (reserved (codes "SPACES")) t ts rest h) refl

zero_ok : (t : Token) (ts rest : List Token) → the (reserved (codes "ZERO")) t ts rest → parts.constant ts ≡ Ok (operands.Zeros (position_of t), rest)
unfolding parts.constant
zero_ok t ts rest h = rw (not_next (reserved (codes "ZERO")) (of_kind tokens.Literal) t ts rest h refl, not_next (reserved (codes "ZERO")) (of_kind tokens.Number) t ts rest h refl, not_next (reserved (codes "ZERO")) (reserved (codes "SPACE")) t ts rest h refl, not_next (reserved (codes "ZERO")) (reserved (codes "SPACES")) t ts rest h refl, is_next (reserved (codes "ZERO")) t ts rest h, word_ok (reserved (codes "ZERO")) t ts rest h) refl

zeros_ok : (t : Token) (ts rest : List Token) → the (reserved (codes "ZEROS")) t ts rest → parts.constant ts ≡ Ok (operands.Zeros (position_of t), rest)
unfolding parts.constant
zeros_ok t ts rest h = rw (not_next (reserved (codes "ZEROS")) (of_kind tokens.Literal) t ts rest h refl, not_next (reserved (codes "ZEROS")) (of_kind tokens.Number) t ts rest h refl, not_next (reserved (codes "ZEROS")) (reserved (codes "SPACE")) t ts rest h refl, not_next (reserved (codes "ZEROS")) (reserved (codes "SPACES")) t ts rest h refl, not_next (reserved (codes "ZEROS")) (reserved (codes "ZERO")) t ts rest h refl, is_next (reserved (codes "ZEROS")) t ts rest h, word_ok (reserved (codes "ZEROS")) t ts rest h) refl

zeroes_ok : (t : Token) (ts rest : List Token) → the (reserved (codes "ZEROES")) t ts rest → parts.constant ts ≡ Ok (operands.Zeros (position_of t), rest)
unfolding parts.constant
zeroes_ok t ts rest h = rw (not_next (reserved (codes "ZEROES")) (of_kind tokens.Literal) t ts rest h refl, not_next (reserved (codes "ZEROES")) (of_kind tokens.Number) t ts rest h refl, not_next (reserved (codes "ZEROES")) (reserved (codes "SPACE")) t ts rest h refl, not_next (reserved (codes "ZEROES")) (reserved (codes "SPACES")) t ts rest h refl, not_next (reserved (codes "ZEROES")) (reserved (codes "ZERO")) t ts rest h refl, not_next (reserved (codes "ZEROES")) (reserved (codes "ZEROS")) t ts rest h refl, word_ok (reserved (codes "ZEROES")) t ts rest h) refl

literal_constant : (x : _) (ts rest : List Token) → IsLiteral x ts rest → parts.constant ts ≡ Ok (operands.Literal x, rest)
unfolding parts.constant
literal_constant x ts rest h = rw (quoted x ts rest h, literal_ok x ts rest h) refl

number_constant : (x : _) (ts rest : List Token) → IsNumber x ts rest → parts.constant ts ≡ Ok (operands.Number x, rest)
unfolding parts.constant
number_constant x ts rest h = rw (begins_other (of_kind tokens.Number) (of_kind tokens.Literal) ts (numbered x ts rest h) refl, numbered x ts rest h, number_ok x ts rest h) refl

-- what is no identifier
abbrev pub IsConstant : Operand → Spelling
IsConstant (operands.Item item) ts rest = ⊥
IsConstant (operands.Literal x) ts rest = IsLiteral x ts rest
IsConstant (operands.Number x) ts rest = IsNumber x ts rest
IsConstant (operands.Spaces p) ts rest = IsOperand (operands.Spaces p) ts rest
IsConstant (operands.Zeros p) ts rest = IsOperand (operands.Zeros p) ts rest

pub constant_ok : (o : Operand) (ts rest : List Token) → IsConstant o ts rest → parts.constant ts ≡ Ok (o, rest)
constant_ok (operands.Item item) ts rest h = absurd h
constant_ok (operands.Literal x) ts rest h = literal_constant x ts rest h
constant_ok (operands.Number x) ts rest h = number_constant x ts rest h
constant_ok (operands.Spaces p) ts rest (inl (t, e, h)) = rw e (space_ok t ts rest h)
constant_ok (operands.Spaces p) ts rest (inr (inl (t, e, h))) = rw e (spaces_ok t ts rest h)
constant_ok (operands.Spaces p) ts rest (inr (inr h)) = absurd h
constant_ok (operands.Zeros p) ts rest (inl (t, e, h)) = rw e (zero_ok t ts rest h)
constant_ok (operands.Zeros p) ts rest (inr (inl (t, e, h))) = rw e (zeros_ok t ts rest h)
constant_ok (operands.Zeros p) ts rest (inr (inr (inl (t, e, h)))) = rw e (zeroes_ok t ts rest h)
constant_ok (operands.Zeros p) ts rest (inr (inr (inr h))) = absurd h

-- it begins with no name
pub no_name : (o : Operand) (ts rest : List Token) → IsConstant o ts rest → begins (is name) ts ≡ false
no_name (operands.Item item) ts rest h = absurd h
no_name (operands.Literal x) ts rest h = begins_other (of_kind tokens.Literal) name ts (quoted x ts rest h) refl
no_name (operands.Number x) ts rest h = begins_other (of_kind tokens.Number) name ts (numbered x ts rest h) refl
no_name (operands.Spaces p) ts rest (inl (t, e, h)) = not_next (reserved (codes "SPACE")) name t ts rest h refl
no_name (operands.Spaces p) ts rest (inr (inl (t, e, h))) = not_next (reserved (codes "SPACES")) name t ts rest h refl
no_name (operands.Spaces p) ts rest (inr (inr h)) = absurd h
no_name (operands.Zeros p) ts rest (inl (t, e, h)) = not_next (reserved (codes "ZERO")) name t ts rest h refl
no_name (operands.Zeros p) ts rest (inr (inl (t, e, h))) = not_next (reserved (codes "ZEROS")) name t ts rest h refl
no_name (operands.Zeros p) ts rest (inr (inr (inl (t, e, h)))) = not_next (reserved (codes "ZEROES")) name t ts rest h refl
no_name (operands.Zeros p) ts rest (inr (inr (inr h))) = absurd h

item_operand : (i : Identifier) (ts rest : List Token) → IsIdentifier i ts rest → parts.operand ts ≡ Ok (operands.Item i, rest)
unfolding parts.operand
item_operand i ts rest h = rw (identified i ts rest h, identifier_ok i ts rest h) refl

constant_operand : (o : Operand) (ts rest : List Token) → IsConstant o ts rest → parts.operand ts ≡ Ok (o, rest)
unfolding parts.operand
constant_operand o ts rest h = rw (no_name o ts rest h) (constant_ok o ts rest h)

pub operand_ok : (o : Operand) (ts rest : List Token) → IsOperand o ts rest → parts.operand ts ≡ Ok (o, rest)
operand_ok (operands.Item i) ts rest h = item_operand i ts rest h
operand_ok (operands.Literal x) ts rest h = constant_operand (operands.Literal x) ts rest h
operand_ok (operands.Number x) ts rest h = constant_operand (operands.Number x) ts rest h
operand_ok (operands.Spaces p) ts rest h = constant_operand (operands.Spaces p) ts rest h
operand_ok (operands.Zeros p) ts rest h = constant_operand (operands.Zeros p) ts rest h

pub addend_ok : (x : Addend) (ts rest : List Token) → IsAddend x ts rest → parts.addend ts ≡ Ok (x, rest)
unfolding parts.addend
addend_ok (addends.Item i) ts rest h = rw (identified i ts rest h, identifier_ok i ts rest h) refl
addend_ok (addends.Number x) ts rest h = rw (begins_other (of_kind tokens.Number) name ts (numbered x ts rest h) refl, number_ok x ts rest h) refl

pub key_ok : (x : Key) (ts rest : List Token) → IsKey x ts rest → parts.key ts ≡ Ok (x, rest)
unfolding parts.key
key_ok (keys.Item i) ts rest h = rw (identified i ts rest h, identifier_ok i ts rest h) refl
key_ok (keys.Literal x) ts rest h = rw (begins_other (of_kind tokens.Literal) name ts (quoted x ts rest h) refl, literal_ok x ts rest h) refl

-- conditions
relation_ok : (r : Relation) (ts rest : List Token) → IsRelation r ts rest → parts.relation ts ≡ Ok (r, rest)
unfolding parts.relation
relation_ok relations.Equal ts rest (inl h) = rw (is_next (of_kind tokens.Equal) h.0 ts rest h.1, word_ok (of_kind tokens.Equal) h.0 ts rest h.1) refl
relation_ok relations.Equal ts rest (inr h) = rw (not_next (reserved (codes "EQUAL")) (of_kind tokens.Equal) h.1.0 ts h.0 h.1.1 refl, is_next (reserved (codes "EQUAL")) h.1.0 ts h.0 h.1.1, word_ok (reserved (codes "EQUAL")) h.1.0 ts h.0 h.1.1, (perhaps_ok (reserved (codes "TO")) h.0 rest h.2).1) refl
relation_ok relations.Greater ts rest (inl h) = rw (not_next (of_kind tokens.Greater) (of_kind tokens.Equal) h.0 ts rest h.1 refl, not_next (of_kind tokens.Greater) (reserved (codes "EQUAL")) h.0 ts rest h.1 refl, is_next (of_kind tokens.Greater) h.0 ts rest h.1, word_ok (of_kind tokens.Greater) h.0 ts rest h.1) refl
relation_ok relations.Greater ts rest (inr h) = rw (not_next (reserved (codes "GREATER")) (of_kind tokens.Equal) h.1.0 ts h.0 h.1.1 refl, not_next (reserved (codes "GREATER")) (reserved (codes "EQUAL")) h.1.0 ts h.0 h.1.1 refl, not_next (reserved (codes "GREATER")) (of_kind tokens.Greater) h.1.0 ts h.0 h.1.1 refl, is_next (reserved (codes "GREATER")) h.1.0 ts h.0 h.1.1, word_ok (reserved (codes "GREATER")) h.1.0 ts h.0 h.1.1, (perhaps_ok (reserved (codes "THAN")) h.0 rest h.2).1) refl
relation_ok relations.Less ts rest (inl h) = rw (not_next (of_kind tokens.Less) (of_kind tokens.Equal) h.0 ts rest h.1 refl, not_next (of_kind tokens.Less) (reserved (codes "EQUAL")) h.0 ts rest h.1 refl, not_next (of_kind tokens.Less) (of_kind tokens.Greater) h.0 ts rest h.1 refl, not_next (of_kind tokens.Less) (reserved (codes "GREATER")) h.0 ts rest h.1 refl, is_next (of_kind tokens.Less) h.0 ts rest h.1, word_ok (of_kind tokens.Less) h.0 ts rest h.1) refl
relation_ok relations.Less ts rest (inr h) = rw (not_next (reserved (codes "LESS")) (of_kind tokens.Equal) h.1.0 ts h.0 h.1.1 refl, not_next (reserved (codes "LESS")) (reserved (codes "EQUAL")) h.1.0 ts h.0 h.1.1 refl, not_next (reserved (codes "LESS")) (of_kind tokens.Greater) h.1.0 ts h.0 h.1.1 refl, not_next (reserved (codes "LESS")) (reserved (codes "GREATER")) h.1.0 ts h.0 h.1.1 refl, not_next (reserved (codes "LESS")) (of_kind tokens.Less) h.1.0 ts h.0 h.1.1 refl, word_ok (reserved (codes "LESS")) h.1.0 ts h.0 h.1.1, (perhaps_ok (reserved (codes "THAN")) h.0 rest h.2).1) refl

compared_ok : (left : Operand) (denied : Bool) (how : Relation) (right : Operand) (ts rest : List Token) → (IsRelation how ⊙ IsOperand right) ts rest → parts.compared left denied ts ≡ Ok (simples.Compares left denied how right, rest)
unfolding parts.compared
compared_ok left denied how right ts rest (m, h, k) = rw (relation_ok how ts m h, operand_ok right m rest k) refl

-- a relation is no NUMERIC
not_numeric : (r : Relation) (ts rest : List Token) → IsRelation r ts rest → begins (is (reserved (codes "NUMERIC"))) ts ≡ false
not_numeric relations.Equal ts rest (inl h) = not_next (of_kind tokens.Equal) (reserved (codes "NUMERIC")) h.0 ts rest h.1 refl
not_numeric relations.Equal ts rest (inr h) = not_next (reserved (codes "EQUAL")) (reserved (codes "NUMERIC")) h.1.0 ts h.0 h.1.1 refl
not_numeric relations.Greater ts rest (inl h) = not_next (of_kind tokens.Greater) (reserved (codes "NUMERIC")) h.0 ts rest h.1 refl
not_numeric relations.Greater ts rest (inr h) = not_next (reserved (codes "GREATER")) (reserved (codes "NUMERIC")) h.1.0 ts h.0 h.1.1 refl
not_numeric relations.Less ts rest (inl h) = not_next (of_kind tokens.Less) (reserved (codes "NUMERIC")) h.0 ts rest h.1 refl
not_numeric relations.Less ts rest (inr h) = not_next (reserved (codes "LESS")) (reserved (codes "NUMERIC")) h.1.0 ts h.0 h.1.1 refl

item_compared : (i : Identifier) (denied : Bool) (how : Relation) (right : Operand) (ts rest : List Token) → (IsRelation how ⊙ IsOperand right) ts rest → parts.tested i denied ts ≡ Ok (simples.Compares (operands.Item i) denied how right, rest)
unfolding parts.tested
item_compared i denied how right ts rest h = rw (not_numeric how ts h.0 h.1) (compared_ok (operands.Item i) denied how right ts rest h)

numeric_ok : (i : Identifier) (denied : Bool) (ts rest : List Token) → word (codes "NUMERIC") ts rest → parts.tested i denied ts ≡ Ok (simples.Numeric i denied, rest)
unfolding parts.tested
numeric_ok i denied ts rest h = rw (is_next (reserved (codes "NUMERIC")) h.0 ts rest h.1, word_ok (reserved (codes "NUMERIC")) h.0 ts rest h.1) refl

-- behind [IS] [NOT]
denied_ok : (behind : Bool → Reader Simple) (denied : Bool) (ts m : List Token) → is_denied denied ts m → parts.perhaps_denied behind ts ≡ behind denied m
unfolding parts.perhaps_denied
denied_ok behind denied ts m (n, i, w) = rw ((perhaps_ok (reserved (codes "IS")) ts n i).1, written_ok denied (reserved (codes "NOT")) n m w) refl

item_simple : (i : Identifier) (denied : Bool) (s : Simple) (ts m m2 rest : List Token) → IsIdentifier i ts m → is_denied denied m m2 → parts.tested i denied m2 ≡ Ok (s, rest) → parts.simple ts ≡ Ok (s, rest)
unfolding parts.simple
item_simple i denied s ts m m2 rest h d e = rw (identified i ts m h, identifier_ok i ts m h) (denied_ok (parts.tested i) denied m m2 d ∙ e)

constant_simple : (o : Operand) (denied : Bool) (how : Relation) (right : Operand) (ts rest : List Token) → (IsConstant o ⊙ is_denied denied ⊙ IsRelation how ⊙ IsOperand right) ts rest → parts.simple ts ≡ Ok (simples.Compares o denied how right, rest)
unfolding parts.simple
constant_simple o denied how right ts rest (m, h, (m2, d, k)) = rw (no_name o ts m h, constant_ok o ts m h) (denied_ok (parts.compared o) denied m m2 d ∙ compared_ok o denied how right m2 rest k)

pub simple_ok : (s : Simple) (ts rest : List Token) → IsSimple s ts rest → parts.simple ts ≡ Ok (s, rest)
simple_ok (simples.Compares (operands.Item i) denied how right) ts rest (m, h, (m2, d, k)) = item_simple i denied (simples.Compares (operands.Item i) denied how right) ts m m2 rest h d (item_compared i denied how right m2 rest k)
simple_ok (simples.Compares (operands.Literal x) denied how right) ts rest h = constant_simple (operands.Literal x) denied how right ts rest h
simple_ok (simples.Compares (operands.Number x) denied how right) ts rest h = constant_simple (operands.Number x) denied how right ts rest h
simple_ok (simples.Compares (operands.Spaces p) denied how right) ts rest h = constant_simple (operands.Spaces p) denied how right ts rest h
simple_ok (simples.Compares (operands.Zeros p) denied how right) ts rest h = constant_simple (operands.Zeros p) denied how right ts rest h
simple_ok (simples.Numeric i denied) ts rest (m, h, (m2, d, k)) = item_simple i denied (simples.Numeric i denied) ts m m2 rest h d (numeric_ok i denied m2 rest k)

part_ok : (text : List ℕ) (s : Simple) (ts rest : List Token) → IsPart text s ts rest → parts.joined_part text ts ≡ Ok (s, rest)
unfolding parts.joined_part
part_ok text s ts rest (m, w, h) = rw (word_ok (reserved text) w.0 ts m w.1) (simple_ok s m rest h)

part_begins : (text : List ℕ) (bound : ℕ) (s : Simple) (ts rest : List Token) → length ts ≤ bound → parts.joined_part text ts ≡ Ok (s, rest) → begins (is (reserved text)) ts ≡ true
part_begins text bound s ts rest le e = rw (single (reserved text) (form forms.simple ∷ [])) (begun {n = bound} (opens_joined_part text) s ts rest le e)

joined_ok : (text : List ℕ) (first : Simple) (others : List Simple) (ts rest : List Token) → some_of (is (reserved text)) (IsPart text) others ts rest → (begins (is (reserved text)) ts ≡ true) × (parts.joined text first ts ≡ Ok (first ∷ others, rest))
unfolding parts.joined
joined_ok text first others ts rest h =
    further_ok (is (reserved text)) (parts.joined_part text) (IsPart text) (length ts) (λ x u v _ e. part_ok text x u v e) (part_begins text (length ts)) (shorter (opens_joined_part text)) first others ts rest (omega arith) h

parts_ok : (joint : Joint) (xs : List Simple) (ts rest : List Token) → IsCondition (record { joint = joint; parts = xs }) ts rest → parts.condition ts ≡ Ok (record { joint = joint; parts = xs }, rest)
unfolding parts.condition
parts_ok joints.Alone [] ts rest h = absurd h
parts_ok joints.Alone (x ∷ []) ts rest (m, h, u) =
    let none = starts_none (alternatives_of forms.joined) rest u.1 in
    let a : begins (is (reserved (codes "AND"))) m ≡ false = rw (← u.0) none.0 in
    let b : begins (is (reserved (codes "OR"))) m ≡ false = rw (← u.0) none.1.0 in
    rw (simple_ok x ts m h, a, b) (ap (λ r. Ok (record { joint = joints.Alone; parts = x ∷ [] }, r)) (sym u.0))
parts_ok joints.Alone (x ∷ y ∷ ys) ts rest h = absurd h
parts_ok joints.And [] ts rest h = absurd h
parts_ok joints.And (x ∷ xs) ts rest (m, h, k) = let j = joined_ok (codes "AND") x xs m rest k in rw (simple_ok x ts m h, j.0, j.1) refl
parts_ok joints.Or [] ts rest h = absurd h
parts_ok joints.Or (x ∷ xs) ts rest (m, h, k) = let j = joined_ok (codes "OR") x xs m rest k in rw (simple_ok x ts m h, begins_other (reserved (codes "OR")) (reserved (codes "AND")) m j.0 refl, j.0, j.1) refl

pub condition_ok : (c : Condition) (ts rest : List Token) → IsCondition c ts rest → parts.condition ts ≡ Ok (c, rest)
condition_ok c ts rest h = parts_ok c.joint c.parts ts rest h
