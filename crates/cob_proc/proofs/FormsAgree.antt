-- Each reader goes as the parts of its form say.
use Rattle.std.proofs.Common.{◌≡◌, ℕ, ◌≤◌, Bool, true, false, List, [], ◌∷◌, length, Some, None, refl, codes}
use Rattle.std.proofs.Math.Path.{fun_ext}
use Rattle.std.specs.Prelude.{is_some}
use Rattle.std.specs.Bool.{if◌then◌else◌}
use Rattle.cob_lex.specs.declared.token.Token.{Token}
use Rattle.cob_lex.specs.declared.token.TokenKind.TheVariants as tokens
use Rattle.cob_forms.specs.declared.written.Position.{Position}
use Rattle.cob_forms.specs.Sorts.{Sort, is, name, of_kind, reserved}
use Rattle.cob_forms.specs.Written.{position_of}
use Rattle.cob_forms.specs.Readers.{Reader, ◌>>=◌, read_name, read_number, read_literal}
use Rattle.cob_forms.specs.Forms.{Part, token, form, maybe, more, behind, starts}
use Rattle.cob_forms.proofs.Agreement.{Agrees, Enters, Follows, MayOpen, Opens, bind, done, is_form, is_maybe, may, may_word, or_optional, or_alternative, or_alternative_then, or_skip, or_skip_if, alternative, alternative_then, alternatives_then, skip, takes, then_done}
use Rattle.cob_forms.proofs.Turns.{entered_at, is_list, mapped}
use Rattle.cob_proc.specs.declared.tree.Addend.{Addend}
use Rattle.cob_proc.specs.declared.tree.Identifier.{Identifier}
use Rattle.cob_proc.specs.declared.tree.Indicator.{Indicator}
use Rattle.cob_proc.specs.declared.tree.Lines.{Lines}
use Rattle.cob_proc.specs.declared.tree.Operand.{Operand}
use Rattle.cob_proc.specs.declared.tree.Operand.TheVariants as operands
use Rattle.cob_proc.specs.declared.tree.Simple.{Simple}
use Rattle.cob_proc.specs.Forms as forms
use Rattle.cob_proc.specs.Forms.{Form, alternatives_of, constant_alternatives, relation_alternatives, numeric_alternatives, plain_alternatives, receiving, indicator_alternatives, a_number, a_literal, period}
use Rattle.cob_proc.specs.Spelled.{open_sign, close_sign}
use Rattle.cob_proc.specs.PartReaders as parts
use Rattle.cob_proc.specs.StatementReaders as statements

-- names, numbers and literals
pub opens_name : {n : ℕ} → Opens n alternatives_of read_name ((name, []) ∷ [])
opens_name = alternative name _ (λ t. done _)

pub opens_number : {n : ℕ} → Opens n alternatives_of read_number ((a_number, []) ∷ [])
opens_number = alternative a_number _ (λ t. done _)

opens_literal : {n : ℕ} → Opens n alternatives_of read_literal ((a_literal, []) ∷ [])
opens_literal = alternative a_literal _ (λ t. done _)

pub follows_name : {n : ℕ} → Follows n alternatives_of read_name (token name ∷ [])
follows_name = bind (takes name) (λ t. done _)

-- identifiers and operands
opens_subscript_value : {n : ℕ} (position : Position) → Opens n alternatives_of (parts.subscript_value position) (alternatives_of forms.subscript_value)
unfolding parts.subscript_value
opens_subscript_value position = or_alternative (then_done _ opens_name) (then_done _ opens_number)

pub opens_subscript : {n : ℕ} → Opens n alternatives_of parts.subscript (alternatives_of forms.subscript)
unfolding parts.subscript
opens_subscript = alternative open_sign _ (λ sign. bind (is_form forms.subscript_value (opens_subscript_value (position_of sign))) (λ value. bind (takes close_sign) (λ _. done value)))

pub opens_identifier : {n : ℕ} → Opens n alternatives_of parts.identifier (alternatives_of forms.identifier)
unfolding parts.identifier
opens_identifier = alternative_then opens_name (λ item. bind (is_maybe forms.subscript (may opens_subscript)) (λ behind. done _))

follows_identifiers : {n : ℕ} → Follows n alternatives_of parts.identifiers (form forms.identifier ∷ more forms.identifier ∷ [])
unfolding parts.identifiers
follows_identifiers {n = n} = is_list alternatives_of forms.identifier parts.identifier n opens_identifier

pub opens_constant : {n : ℕ} → Opens n alternatives_of parts.constant constant_alternatives
unfolding parts.constant
opens_constant =
    or_alternative (then_done _ opens_literal)
    (or_alternative (then_done _ opens_number)
    (or_alternative (alternative (reserved (codes "SPACE")) _ (λ t. done _))
    (or_alternative (alternative (reserved (codes "SPACES")) _ (λ t. done _))
    (or_alternative (alternative (reserved (codes "ZERO")) _ (λ t. done _))
    (or_alternative (alternative (reserved (codes "ZEROS")) _ (λ t. done _))
    (alternative (reserved (codes "ZEROES")) _ (λ t. done _)))))))

pub opens_operand : {n : ℕ} → Opens n alternatives_of parts.operand (alternatives_of forms.operand)
unfolding parts.operand
opens_operand = or_alternative (then_done _ opens_identifier) opens_constant

pub opens_addend : {n : ℕ} → Opens n alternatives_of parts.addend (alternatives_of forms.addend)
unfolding parts.addend
opens_addend = or_alternative (then_done _ opens_identifier) (then_done _ opens_number)

pub opens_key : {n : ℕ} → Opens n alternatives_of parts.key (alternatives_of forms.key_value)
unfolding parts.key
opens_key = or_alternative (then_done _ opens_identifier) (then_done _ opens_literal)

-- conditions
pub opens_compared : {n : ℕ} (left : Operand) (denied : Bool) → Opens n alternatives_of (parts.compared left denied) relation_alternatives
unfolding parts.compared parts.relation
opens_compared left denied =
    or_alternative_then _ (alternative_then (alternative (of_kind tokens.Equal) _ (λ _. done _)) (λ _. bind (is_form forms.operand opens_operand) (λ _. done _)))
    (or_alternative_then _ (alternative_then (alternative (reserved (codes "EQUAL")) _ (λ _. bind (is_maybe forms.word_to (may_word (reserved (codes "TO")))) (λ _. done _))) (λ _. bind (is_form forms.operand opens_operand) (λ _. done _)))
    (or_alternative_then _ (alternative_then (alternative (of_kind tokens.Greater) _ (λ _. done _)) (λ _. bind (is_form forms.operand opens_operand) (λ _. done _)))
    (or_alternative_then _ (alternative_then (alternative (reserved (codes "GREATER")) _ (λ _. bind (is_maybe forms.word_than (may_word (reserved (codes "THAN")))) (λ _. done _))) (λ _. bind (is_form forms.operand opens_operand) (λ _. done _)))
    (or_alternative_then _ (alternative_then (alternative (of_kind tokens.Less) _ (λ _. done _)) (λ _. bind (is_form forms.operand opens_operand) (λ _. done _)))
    (alternative_then (alternative (reserved (codes "LESS")) _ (λ _. bind (is_maybe forms.word_than (may_word (reserved (codes "THAN")))) (λ _. done _))) (λ _. bind (is_form forms.operand opens_operand) (λ _. done _)))))))

pub opens_tested : {n : ℕ} (item : Identifier) (denied : Bool) → Opens n alternatives_of (parts.tested item denied) numeric_alternatives
unfolding parts.tested
opens_tested item denied = or_alternative (alternative (reserved (codes "NUMERIC")) _ (λ _. done _)) (opens_compared (operands.Item item) denied)

opens_test : {n : ℕ} (item : Identifier) → Opens n alternatives_of (parts.perhaps_denied (parts.tested item)) (alternatives_of forms.test)
unfolding parts.perhaps_denied
opens_test item =
    or_optional (reserved (codes "IS")) _
    (is_form forms.behind_is (or_optional (reserved (codes "NOT")) _ (is_form forms.behind_not (opens_tested item true)) (opens_tested item false)))
    (or_optional (reserved (codes "NOT")) _ (is_form forms.behind_not (opens_tested item true)) (opens_tested item false))

opens_comparison : {n : ℕ} (left : Operand) → Opens n alternatives_of (parts.perhaps_denied (parts.compared left)) (alternatives_of forms.comparison)
unfolding parts.perhaps_denied
opens_comparison left =
    or_optional (reserved (codes "IS")) _
    (is_form forms.compared_is (or_optional (reserved (codes "NOT")) _ (is_form forms.compared_not (opens_compared left true)) (opens_compared left false)))
    (or_optional (reserved (codes "NOT")) _ (is_form forms.compared_not (opens_compared left true)) (opens_compared left false))

pub opens_simple : {n : ℕ} → Opens n alternatives_of parts.simple (alternatives_of forms.simple)
unfolding parts.simple
opens_simple =
    or_alternative (alternative_then opens_identifier (λ item. is_form forms.test (opens_test item)))
    (alternatives_then constant_alternatives opens_constant (λ left. is_form forms.comparison (opens_comparison left)))

pub opens_joined_part : {n : ℕ} (text : List ℕ) → Opens n alternatives_of (parts.joined_part text) ((reserved text, form forms.simple ∷ []) ∷ [])
unfolding parts.joined_part
opens_joined_part text = alternative (reserved text) _ (λ _. is_form forms.simple opens_simple)

one_alternative : (sort : Sort) (ps : List (Part Form)) (t : Token) (b : Bool) → b ≡ is_some (if b then Some ps else None)
one_alternative sort ps t true = refl
one_alternative sort ps t false = refl

pub single : (sort : Sort) (ps : List (Part Form)) → is sort ≡ starts ((sort, ps) ∷ [])
single sort ps = fun_ext (λ t. one_alternative sort ps t (is sort t))

enters_of : {A : Type 0} (n : ℕ) (sort : Sort) (ps : List (Part Form)) (r : Reader A) (t : Token) (ts : List Token) → Opens n alternatives_of r ((sort, ps) ∷ []) → length (t ∷ ts) ≤ n → is sort t ≡ true → Enters alternatives_of (r (t ∷ ts)) (Some ps) t ts
enters_of n sort ps r t ts o le h = let e : behind ((sort, ps) ∷ []) t ≡ Some ps = rw h refl in rw e at (o.on t ts le)

and_entered : (n : ℕ) (first : Simple) (t : Token) (ts : List Token) → length (t ∷ ts) ≤ n → is (reserved (codes "AND")) t ≡ true
    → Agrees alternatives_of (parts.joined (codes "AND") first (t ∷ ts)) (form forms.simple ∷ more forms.and_part ∷ []) ts
unfolding parts.joined
and_entered n first t ts le h =
    rw (single (reserved (codes "AND")) (form forms.simple ∷ []))
    (entered_at alternatives_of forms.and_part (parts.joined_part (codes "AND")) n (opens_joined_part (codes "AND")) first t ts (form forms.simple ∷ []) (rw h refl) le
    (enters_of n (reserved (codes "AND")) (form forms.simple ∷ []) (parts.joined_part (codes "AND")) t ts (opens_joined_part (codes "AND")) le h))

or_entered : (n : ℕ) (first : Simple) (t : Token) (ts : List Token) → length (t ∷ ts) ≤ n → is (reserved (codes "OR")) t ≡ true
    → Agrees alternatives_of (parts.joined (codes "OR") first (t ∷ ts)) (form forms.simple ∷ more forms.or_part ∷ []) ts
unfolding parts.joined
or_entered n first t ts le h =
    rw (single (reserved (codes "OR")) (form forms.simple ∷ []))
    (entered_at alternatives_of forms.or_part (parts.joined_part (codes "OR")) n (opens_joined_part (codes "OR")) first t ts (form forms.simple ∷ []) (rw h refl) le
    (enters_of n (reserved (codes "OR")) (form forms.simple ∷ []) (parts.joined_part (codes "OR")) t ts (opens_joined_part (codes "OR")) le h))

pub opens_condition : {n : ℕ} → Opens n alternatives_of parts.condition (alternatives_of forms.condition)
unfolding parts.condition
opens_condition {n = n} = alternatives_then (alternatives_of forms.simple) opens_simple (λ first. is_maybe forms.joined
    (or_skip_if (λ t ts le h. mapped alternatives_of _ (parts.joined (codes "AND") first (t ∷ ts)) (form forms.simple ∷ more forms.and_part ∷ []) ts (and_entered n first t ts le h))
    (or_skip_if (λ t ts le h. mapped alternatives_of _ (parts.joined (codes "OR") first (t ∷ ts)) (form forms.simple ∷ more forms.or_part ∷ []) ts (or_entered n first t ts le h))
    (skip _))))

-- statements in which no others stand
opens_move : {n : ℕ} → Opens n alternatives_of statements.read_move ((reserved (codes "MOVE"), form forms.operand ∷ token (reserved (codes "TO")) ∷ form forms.identifier ∷ more forms.identifier ∷ []) ∷ [])
unfolding statements.read_move
opens_move = alternative (reserved (codes "MOVE")) _ (λ _. bind (is_form forms.operand opens_operand) (λ _. bind (takes (reserved (codes "TO"))) (λ _. bind follows_identifiers (λ _. done _))))

opens_add : {n : ℕ} → Opens n alternatives_of statements.read_add ((reserved (codes "ADD"), form forms.addend ∷ token (reserved (codes "TO")) ∷ form forms.identifier ∷ []) ∷ [])
unfolding statements.read_add
opens_add = alternative (reserved (codes "ADD")) _ (λ _. bind (is_form forms.addend opens_addend) (λ _. bind (takes (reserved (codes "TO"))) (λ _. bind (is_form forms.identifier opens_identifier) (λ _. done _))))

opens_subtract : {n : ℕ} → Opens n alternatives_of statements.read_subtract ((reserved (codes "SUBTRACT"), form forms.addend ∷ token (reserved (codes "FROM")) ∷ form forms.identifier ∷ []) ∷ [])
unfolding statements.read_subtract
opens_subtract = alternative (reserved (codes "SUBTRACT")) _ (λ _. bind (is_form forms.addend opens_addend) (λ _. bind (takes (reserved (codes "FROM"))) (λ _. bind (is_form forms.identifier opens_identifier) (λ _. done _))))

pub opens_through : {n : ℕ} → Opens n alternatives_of statements.through (alternatives_of forms.through)
unfolding statements.through
opens_through = or_alternative_then _ (alternative (reserved (codes "THRU")) _ (λ _. follows_name)) (alternative (reserved (codes "THROUGH")) _ (λ _. follows_name))

follows_times : {n : ℕ} (count : Addend) → Follows n alternatives_of (statements.times count) (token (reserved (codes "TIMES")) ∷ [])
unfolding statements.times
follows_times count = bind (takes (reserved (codes "TIMES"))) (λ _. done _)

may_repetition : {n : ℕ} → MayOpen n alternatives_of statements.repetition (alternatives_of forms.repetition)
unfolding statements.repetition
may_repetition =
    or_skip (alternative_then opens_identifier (λ item. follows_times _))
    (or_skip (alternative_then opens_number (λ number. follows_times _))
    (or_skip (alternative (reserved (codes "UNTIL")) _ (λ _. bind (is_form forms.condition opens_condition) (λ _. done _)))
    (skip _)))

opens_perform : {n : ℕ} → Opens n alternatives_of statements.read_perform ((reserved (codes "PERFORM"), token name ∷ maybe forms.through ∷ maybe forms.repetition ∷ []) ∷ [])
unfolding statements.read_perform
opens_perform = alternative (reserved (codes "PERFORM")) _ (λ _. bind follows_name (λ _. bind (is_maybe forms.through (may opens_through)) (λ _. bind (is_maybe forms.repetition may_repetition) (λ _. done _))))

opens_go : {n : ℕ} → Opens n alternatives_of statements.read_go ((reserved (codes "GO"), maybe forms.word_to ∷ token name ∷ []) ∷ [])
unfolding statements.read_go
opens_go = alternative (reserved (codes "GO")) _ (λ _. bind (is_maybe forms.word_to (may_word (reserved (codes "TO")))) (λ _. bind follows_name (λ _. done _)))

opens_exit : {n : ℕ} → Opens n alternatives_of statements.read_exit ((reserved (codes "EXIT"), []) ∷ [])
unfolding statements.read_exit
opens_exit = alternative (reserved (codes "EXIT")) _ (λ _. done _)

opens_stop : {n : ℕ} → Opens n alternatives_of statements.read_stop ((reserved (codes "STOP"), token (reserved (codes "RUN")) ∷ []) ∷ [])
unfolding statements.read_stop
opens_stop = alternative (reserved (codes "STOP")) _ (λ _. bind (takes (reserved (codes "RUN"))) (λ _. done _))

-- SEND
mark_then : {n : ℕ} {B : Type 0} (k : Indicator → Reader B) (ps : List (Part Form)) → ((what : Indicator) → Follows n alternatives_of (k what) ps) → Opens n alternatives_of (statements.mark >>= k) (indicator_alternatives ps)
unfolding statements.mark
mark_then k ps h =
    or_alternative_then k (alternative_then (alternative (reserved (codes "ESI")) _ (λ _. done _)) h)
    (or_alternative_then k (alternative_then (alternative (reserved (codes "EMI")) _ (λ _. done _)) h)
    (alternative_then (alternative (reserved (codes "EGI")) _ (λ _. done _)) h))

opens_mark : {n : ℕ} → Opens n alternatives_of statements.mark (indicator_alternatives [])
unfolding statements.mark
opens_mark = or_alternative (alternative (reserved (codes "ESI")) _ (λ _. done _)) (or_alternative (alternative (reserved (codes "EMI")) _ (λ _. done _)) (alternative (reserved (codes "EGI")) _ (λ _. done _)))

opens_with : {n : ℕ} → Opens n alternatives_of statements.with_what (alternatives_of forms.indicator)
unfolding statements.with_what
opens_with = or_alternative (then_done _ opens_identifier) opens_mark

may_lines : {n : ℕ} (count : Lines) → MayOpen n alternatives_of (statements.perhaps_lines count) (alternatives_of forms.line_word)
unfolding statements.perhaps_lines
may_lines count = or_skip (alternative (reserved (codes "LINE")) _ (λ _. done _)) (or_skip (alternative (reserved (codes "LINES")) _ (λ _. done _)) (skip _))

opens_lines : {n : ℕ} → Opens n alternatives_of statements.lines_or_page (alternatives_of forms.lines)
unfolding statements.lines_or_page
opens_lines =
    or_alternative (alternative_then opens_identifier (λ item. is_maybe forms.line_word (may_lines _)))
    (or_alternative (alternative_then opens_number (λ number. is_maybe forms.line_word (may_lines _)))
    (alternative (reserved (codes "PAGE")) _ (λ _. done _)))

opens_advanced : {n : ℕ} → Opens n alternatives_of statements.advanced (alternatives_of forms.advanced)
unfolding statements.advanced
opens_advanced = or_optional (reserved (codes "ADVANCING")) _ (is_form forms.lines opens_lines) opens_lines

pub opens_advancing : {n : ℕ} → Opens n alternatives_of statements.advancing (alternatives_of forms.advancing)
unfolding statements.advancing
opens_advancing =
    or_alternative_then _ (alternative_then (alternative (reserved (codes "BEFORE")) _ (λ _. done _)) (λ _. bind (is_form forms.advanced opens_advanced) (λ _. done _)))
    (alternative_then (alternative (reserved (codes "AFTER")) _ (λ _. done _)) (λ _. bind (is_form forms.advanced opens_advanced) (λ _. done _)))

pub opens_ending : {n : ℕ} → Opens n alternatives_of statements.ending (alternatives_of forms.ending)
unfolding statements.ending statements.indicator
opens_ending =
    or_alternative_then _ (alternative_then (alternative (reserved (codes "WITH")) _ (λ _. is_form forms.indicator opens_with)) (λ what. bind (is_maybe forms.advancing (may opens_advancing)) (λ _. done _)))
    (mark_then _ (maybe forms.advancing ∷ []) (λ what. bind (is_maybe forms.advancing (may opens_advancing)) (λ _. done _)))

opens_sent : {n : ℕ} → Opens n alternatives_of statements.sent (alternatives_of forms.sending)
unfolding statements.sent
opens_sent =
    or_alternative (alternative (reserved (codes "FROM")) _ (λ _. bind (is_form forms.identifier opens_identifier) (λ item. bind (is_maybe forms.ending (may opens_ending)) (λ _. done _))))
    (then_done _ opens_ending)

opens_send : {n : ℕ} → Opens n alternatives_of statements.read_send ((reserved (codes "SEND"), token name ∷ form forms.sending ∷ []) ∷ [])
unfolding statements.read_send
opens_send = alternative (reserved (codes "SEND")) _ (λ _. bind follows_name (λ cd. bind (is_form forms.sending opens_sent) (λ what. done _)))

-- ENABLE, DISABLE and ACCEPT
opens_switched : {n : ℕ} → Opens n alternatives_of statements.switched (alternatives_of forms.switched)
unfolding statements.switched
opens_switched =
    or_alternative (alternative (reserved (codes "INPUT")) _ (λ _. bind (is_maybe forms.word_terminal (may_word (reserved (codes "TERMINAL")))) (λ _. done _)))
    (alternative (reserved (codes "OUTPUT")) _ (λ _. done _))

opens_switch : {n : ℕ} (text : List ℕ) (on : Bool) → Opens n alternatives_of (statements.read_switch text on)
    ((reserved text, form forms.switched ∷ token name ∷ maybe forms.word_with ∷ token (reserved (codes "KEY")) ∷ form forms.key_value ∷ []) ∷ [])
unfolding statements.read_switch
opens_switch text on = alternative (reserved text) _ (λ _. bind (is_form forms.switched opens_switched) (λ which. bind follows_name (λ cd. bind (is_maybe forms.word_with (may_word (reserved (codes "WITH"))))
    (λ _. bind (takes (reserved (codes "KEY"))) (λ _. bind (is_form forms.key_value opens_key) (λ _. done _))))))

opens_accept : {n : ℕ} → Opens n alternatives_of statements.read_accept ((reserved (codes "ACCEPT"), token name ∷ maybe forms.word_message ∷ token (reserved (codes "COUNT")) ∷ []) ∷ [])
unfolding statements.read_accept
opens_accept = alternative (reserved (codes "ACCEPT")) _ (λ _. bind follows_name (λ cd. bind (is_maybe forms.word_message (may_word (reserved (codes "MESSAGE")))) (λ _. bind (takes (reserved (codes "COUNT"))) (λ _. done _))))

pub opens_plain : {n : ℕ} → Opens n alternatives_of statements.read_plain plain_alternatives
unfolding statements.read_plain
opens_plain =
    or_alternative opens_move (or_alternative opens_add (or_alternative opens_subtract (or_alternative opens_perform (or_alternative opens_go (or_alternative opens_exit (or_alternative opens_stop (or_alternative opens_send
    (or_alternative (opens_switch (codes "ENABLE") true) (or_alternative (opens_switch (codes "DISABLE") false) opens_accept)))))))))
