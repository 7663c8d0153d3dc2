-- How a Procedure Division is spelled: which tokens stand for its trees.
use Rattle.std.specs.Prelude.{ℕ, Bool, List, [], ◌∷◌, Option, Some, None, codes, if◌then◌else◌}
use Rattle.cob_lex.specs.declared.token.Token.{Token}
use Rattle.cob_lex.specs.declared.token.TokenKind.TheVariants as tokens
use Rattle.cob_forms.specs.declared.written.Name.{Name}
use Rattle.cob_forms.specs.declared.written.Position.{Position}
use Rattle.cob_forms.specs.Sorts.{Sort, is, reserved, of_kind}
use Rattle.cob_forms.specs.Forms.{starts}
use Rattle.cob_forms.specs.Spelling.{Spelling, ◌⊙◌, nowhere, a, word, maybe_word, placed, unless, written, either, maybe_of, all_of, some_of, IsName, IsNumber, IsLiteral}
use Rattle.cob_proc.specs.declared.tree.Addend.{Addend}
use Rattle.cob_proc.specs.declared.tree.Addend.TheVariants as addends
use Rattle.cob_proc.specs.declared.tree.Advancing.{Advancing}
use Rattle.cob_proc.specs.declared.tree.Condition.{Condition}
use Rattle.cob_proc.specs.declared.tree.Ending.{Ending}
use Rattle.cob_proc.specs.declared.tree.Identifier.{Identifier}
use Rattle.cob_proc.specs.declared.tree.Indicator.{Indicator}
use Rattle.cob_proc.specs.declared.tree.Indicator.TheVariants as indicators
use Rattle.cob_proc.specs.declared.tree.Joint.{Joint}
use Rattle.cob_proc.specs.declared.tree.Joint.TheVariants as joints
use Rattle.cob_proc.specs.declared.tree.Key.{Key}
use Rattle.cob_proc.specs.declared.tree.Key.TheVariants as keys
use Rattle.cob_proc.specs.declared.tree.Lines.{Lines}
use Rattle.cob_proc.specs.declared.tree.Lines.TheVariants as lines
use Rattle.cob_proc.specs.declared.tree.Operand.{Operand}
use Rattle.cob_proc.specs.declared.tree.Operand.TheVariants as operands
use Rattle.cob_proc.specs.declared.tree.Relation.{Relation}
use Rattle.cob_proc.specs.declared.tree.Relation.TheVariants as relations
use Rattle.cob_proc.specs.declared.tree.Repetition.{Repetition}
use Rattle.cob_proc.specs.declared.tree.Repetition.TheVariants as repetitions
use Rattle.cob_proc.specs.declared.tree.Simple.{Simple}
use Rattle.cob_proc.specs.declared.tree.Simple.TheVariants as simples
use Rattle.cob_proc.specs.declared.tree.Subscript.{Subscript}
use Rattle.cob_proc.specs.declared.tree.Subscript.TheVariants as subscripts
use Rattle.cob_proc.specs.Forms as forms
use Rattle.cob_proc.specs.Forms.{alternatives_of, period}
use Rattle.cob_proc.specs.Trees.{Plain, moves, adds, subtracts, performs, goes, exits, stops, sends, switches_input, switches_output, accepts, Tree, plain, branches, receives, Block, none, lead, ParagraphTree}

-- whether a token begins a form
abbrev pub begins_form : forms.Form → Token → Bool
begins_form form = starts (alternatives_of form)

-- identifiers and operands
abbrev pub open_sign : Sort
open_sign = of_kind tokens.Open

abbrev pub close_sign : Sort
close_sign = of_kind tokens.Close

abbrev pub IsSubscript : Subscript → Spelling
IsSubscript (subscripts.Number position number) = placed open_sign position ⊙ IsNumber number ⊙ a close_sign
IsSubscript (subscripts.Item position item) = placed open_sign position ⊙ IsName item ⊙ a close_sign

abbrev pub IsIdentifier : Identifier → Spelling
IsIdentifier item = IsName item.name ⊙ maybe_of (begins_form forms.subscript) IsSubscript item.subscript

abbrev pub one_of : List (List ℕ) → Position → Spelling
one_of [] position = nowhere
one_of (text ∷ texts) position = either (placed (reserved text) position) (one_of texts position)

abbrev pub IsOperand : Operand → Spelling
IsOperand (operands.Item item) = IsIdentifier item
IsOperand (operands.Literal literal) = IsLiteral literal
IsOperand (operands.Number number) = IsNumber number
IsOperand (operands.Spaces position) = one_of (codes "SPACE" ∷ codes "SPACES" ∷ []) position
IsOperand (operands.Zeros position) = one_of (codes "ZERO" ∷ codes "ZEROS" ∷ codes "ZEROES" ∷ []) position

abbrev pub IsAddend : Addend → Spelling
IsAddend (addends.Item item) = IsIdentifier item
IsAddend (addends.Number number) = IsNumber number

abbrev pub IsKey : Key → Spelling
IsKey (keys.Item item) = IsIdentifier item
IsKey (keys.Literal literal) = IsLiteral literal

-- conditions
abbrev pub IsRelation : Relation → Spelling
IsRelation relations.Equal = either (a (of_kind tokens.Equal)) (word (codes "EQUAL") ⊙ maybe_word (codes "TO"))
IsRelation relations.Greater = either (a (of_kind tokens.Greater)) (word (codes "GREATER") ⊙ maybe_word (codes "THAN"))
IsRelation relations.Less = either (a (of_kind tokens.Less)) (word (codes "LESS") ⊙ maybe_word (codes "THAN"))

abbrev pub is_denied : Bool → Spelling
is_denied denied = maybe_word (codes "IS") ⊙ written denied (reserved (codes "NOT"))

abbrev pub IsSimple : Simple → Spelling
IsSimple (simples.Compares left denied relation right) = IsOperand left ⊙ is_denied denied ⊙ IsRelation relation ⊙ IsOperand right
IsSimple (simples.Numeric item denied) = IsIdentifier item ⊙ is_denied denied ⊙ word (codes "NUMERIC")

-- a simple condition, and further ones behind the same word
abbrev pub are_joined : List ℕ → List Simple → Spelling
are_joined text [] = nowhere
are_joined text (part ∷ parts) = IsSimple part ⊙ some_of (is (reserved text)) (λ other. word text ⊙ IsSimple other) parts

abbrev pub is_alone : List Simple → Spelling
is_alone [] = nowhere
is_alone (part ∷ []) = IsSimple part ⊙ unless (begins_form forms.joined)
is_alone (part ∷ other ∷ others) = nowhere

abbrev pub are_parts : Joint → List Simple → Spelling
are_parts joints.Alone = is_alone
are_parts joints.And = are_joined (codes "AND")
are_parts joints.Or = are_joined (codes "OR")

abbrev pub IsCondition : Condition → Spelling
IsCondition condition = are_parts condition.joint condition.parts

-- PERFORM
abbrev pub IsThrough : Name → Spelling
IsThrough last = either (word (codes "THRU")) (word (codes "THROUGH")) ⊙ IsName last

abbrev pub IsRepetition : Repetition → Spelling
IsRepetition repetitions.Once = unless (begins_form forms.repetition)
IsRepetition (repetitions.Times addend) = IsAddend addend ⊙ word (codes "TIMES")
IsRepetition (repetitions.Until condition) = word (codes "UNTIL") ⊙ IsCondition condition

-- SEND
abbrev pub IsIndicator : Indicator → Spelling
IsIndicator (indicators.Item item) = word (codes "WITH") ⊙ IsIdentifier item
IsIndicator indicators.Esi = maybe_word (codes "WITH") ⊙ word (codes "ESI")
IsIndicator indicators.Emi = maybe_word (codes "WITH") ⊙ word (codes "EMI")
IsIndicator indicators.Egi = maybe_word (codes "WITH") ⊙ word (codes "EGI")

abbrev pub line_or_lines : Spelling
line_or_lines = either (unless (begins_form forms.line_word)) (either (word (codes "LINE")) (word (codes "LINES")))

abbrev pub IsLines : Lines → Spelling
IsLines (lines.Count addend) = IsAddend addend ⊙ line_or_lines
IsLines lines.Page = word (codes "PAGE")

abbrev pub IsAdvancing : Advancing → Spelling
IsAdvancing advancing = word (if advancing.after then codes "AFTER" else codes "BEFORE") ⊙ maybe_word (codes "ADVANCING") ⊙ IsLines advancing.lines

abbrev pub IsEnding : Ending → Spelling
IsEnding ending = IsIndicator ending.indicator ⊙ maybe_of (begins_form forms.advancing) IsAdvancing ending.advancing

-- a text, an end or both
abbrev pub IsSent : Option Identifier → Option Ending → Spelling
IsSent (Some item) ending = word (codes "FROM") ⊙ IsIdentifier item ⊙ maybe_of (begins_form forms.ending) IsEnding ending
IsSent None (Some ending) = IsEnding ending
IsSent None None = nowhere

-- ENABLE and DISABLE
abbrev pub is_switch : Bool → Spelling
is_switch on = word (if on then codes "ENABLE" else codes "DISABLE")

abbrev pub is_keyed : Name → Key → Spelling
is_keyed cd key = IsName cd ⊙ maybe_word (codes "WITH") ⊙ word (codes "KEY") ⊙ IsKey key

-- statements
abbrev pub IsPlain : Plain → Spelling
IsPlain (moves source targets) = word (codes "MOVE") ⊙ IsOperand source ⊙ word (codes "TO") ⊙ some_of (begins_form forms.identifier) IsIdentifier targets
IsPlain (adds addend target) = word (codes "ADD") ⊙ IsAddend addend ⊙ word (codes "TO") ⊙ IsIdentifier target
IsPlain (subtracts addend target) = word (codes "SUBTRACT") ⊙ IsAddend addend ⊙ word (codes "FROM") ⊙ IsIdentifier target
IsPlain (performs first last repetition) = word (codes "PERFORM") ⊙ IsName first ⊙ maybe_of (begins_form forms.through) IsThrough last ⊙ IsRepetition repetition
IsPlain (goes target) = word (codes "GO") ⊙ maybe_word (codes "TO") ⊙ IsName target
IsPlain exits = word (codes "EXIT")
IsPlain stops = word (codes "STOP") ⊙ word (codes "RUN")
IsPlain (sends cd from ending) = word (codes "SEND") ⊙ IsName cd ⊙ IsSent from ending
IsPlain (switches_input on terminal cd key) = is_switch on ⊙ word (codes "INPUT") ⊙ written terminal (reserved (codes "TERMINAL")) ⊙ is_keyed cd key
IsPlain (switches_output on cd key) = is_switch on ⊙ word (codes "OUTPUT") ⊙ is_keyed cd key
IsPlain (accepts cd) = word (codes "ACCEPT") ⊙ IsName cd ⊙ maybe_word (codes "MESSAGE") ⊙ word (codes "COUNT")

abbrev pub IsReceive : Name → Bool → Identifier → Spelling
IsReceive cd segment into =
    word (codes "RECEIVE") ⊙ IsName cd ⊙ word (if segment then codes "SEGMENT" else codes "MESSAGE") ⊙ word (codes "INTO") ⊙ IsIdentifier into

-- inside NO DATA neither an IF nor a second NO DATA stands
abbrev pub IsInner : Tree → Spelling
IsInner (plain statement) = IsPlain statement
IsInner (branches position condition holds otherwise) = nowhere
IsInner (receives cd segment into none) = IsReceive cd segment into
IsInner (receives cd segment into (lead tree others)) = nowhere

-- further statements of NO DATA, and behind them no other and no IF
abbrev pub AreInner : Block → Spelling
AreInner none = unless (begins_form forms.statement)
AreInner (lead tree others) = IsInner tree ⊙ AreInner others

abbrev pub IsNoData : Block → Spelling
IsNoData none = unless (begins_form forms.no_data)
IsNoData (lead tree others) = word (codes "NO") ⊙ word (codes "DATA") ⊙ IsInner tree ⊙ AreInner others

-- An ELSE belongs to the nearest IF without one, and statements go on as far as they can.
abbrev mutual
  pub IsStatement : Tree → Spelling
  IsStatement (plain statement) = IsPlain statement
  IsStatement (branches position condition holds otherwise) = placed (reserved (codes "IF")) position ⊙ IsCondition condition ⊙ AreStatements holds ⊙ IsElse otherwise
  IsStatement (receives cd segment into no_data) = IsReceive cd segment into ⊙ IsNoData no_data

  -- one statement or more
  pub AreStatements : Block → Spelling
  AreStatements none = nowhere
  AreStatements (lead tree others) = IsStatement tree ⊙ AreFurther others

  pub AreFurther : Block → Spelling
  AreFurther none = unless (begins_form forms.statement)
  AreFurther (lead tree others) = IsStatement tree ⊙ AreFurther others

  pub IsElse : Block → Spelling
  IsElse none = unless (begins_form forms.otherwise)
  IsElse (lead tree others) = word (codes "ELSE") ⊙ IsStatement tree ⊙ AreFurther others

-- sentences and paragraphs
abbrev pub IsSentence : Block → Spelling
IsSentence block = AreStatements block ⊙ a period

abbrev pub IsParagraph : ParagraphTree → Spelling
IsParagraph paragraph = IsName paragraph.name ⊙ a period ⊙ all_of (begins_form forms.sentence) IsSentence paragraph.sentences

-- the whole division, of all of the tokens
abbrev pub IsProcedure : List ParagraphTree → List Token → Type 0
IsProcedure paragraphs ts =
    (word (codes "PROCEDURE") ⊙ word (codes "DIVISION") ⊙ a period ⊙ some_of (begins_form forms.paragraph) IsParagraph paragraphs) ts []
