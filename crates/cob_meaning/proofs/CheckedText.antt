-- Statements are as their spelling and the freedom from faults say, and so is the whole text of a program.
use Rattle.std.proofs.Common.{◌≡◌, ◌⊎◌, codes, ◌≤◌, ◌<◌, inl, inr, ℕ, suc, ◌+◌, Bool, true, false, not, ◌&&◌, ◌||◌, nat_le, List, [], ◌∷◌, ◌++◌, length, drop, cond, Option, Some, None, arith, bytes_eq}
use Rattle.std.specs.List.{AllByRecursion, flat_map, list_any}
use Rattle.std.specs.Prelude.{IfSome}
use Rattle.std.proofs.lemmas.Bool.{and_parts}
use Rattle.std.proofs.lemmas.Bool.Decides.{nat_tests}
use Rattle.com_text.specs.Digits.{number}
use Rattle.cob_lex.specs.declared.token.Token.{Token}
use Rattle.cob_forms.specs.declared.written.Name.{Name}
use Rattle.cob_forms.specs.Sorts.{Sort, reserved}
use Rattle.cob_forms.specs.Spelling.{◌⊙◌, a, all_of, some_of, maybe_of}
use Rattle.cob_proc.specs.declared.tree.Addend.TheVariants as addends
use Rattle.cob_proc.specs.declared.tree.Advancing.{Advancing}
use Rattle.cob_proc.specs.declared.tree.Condition.{Condition}
use Rattle.cob_proc.specs.declared.tree.Ending.{Ending}
use Rattle.cob_proc.specs.declared.tree.Identifier.{Identifier}
use Rattle.cob_proc.specs.declared.tree.Indicator.{Indicator}
use Rattle.cob_proc.specs.declared.tree.Indicator.TheVariants as indicators
use Rattle.cob_proc.specs.declared.tree.Joint.{Joint}
use Rattle.cob_proc.specs.declared.tree.Joint.TheVariants as joints
use Rattle.cob_proc.specs.declared.tree.Key.{Key}
use Rattle.cob_proc.specs.declared.tree.Key.TheVariants as keys
use Rattle.cob_proc.specs.declared.tree.Lines.{Lines}
use Rattle.cob_proc.specs.declared.tree.Lines.TheVariants as lines
use Rattle.cob_proc.specs.declared.tree.Relation.{Relation}
use Rattle.cob_proc.specs.declared.tree.Relation.TheVariants as relations
use Rattle.cob_proc.specs.declared.tree.Repetition.{Repetition}
use Rattle.cob_proc.specs.declared.tree.Repetition.TheVariants as repetitions
use Rattle.cob_proc.specs.declared.tree.Simple.{Simple}
use Rattle.cob_proc.specs.declared.tree.Simple.TheVariants as simples
use Rattle.cob_proc.specs.Spelled.{AreFurther, AreInner, AreStatements, IsAdvancing, IsCondition, IsElse, IsEnding, IsIndicator, IsInner, IsKey, IsLines, IsNoData, IsParagraph, IsPlain, IsProcedure, IsReceive, IsRelation, IsRepetition, IsSent, IsSentence, IsSimple, IsStatement, IsThrough, are_joined, are_parts, is_alone, is_denied, is_keyed, line_or_lines, IsIdentifier}
use Rattle.cob_proc.specs.Trees.{Plain, moves, adds, subtracts, performs, goes, exits, stops, sends, switches_input, switches_output, accepts, Tree, plain, branches, receives, Block, none, lead, ParagraphTree}
use Rattle.cob_meaning.specs.Checked.{AreChecked, AreCheckedLines, AreCheckedParagraphs, IsCheckedCondition, IsCheckedEnding, IsCheckedIdentifier, IsCheckedIndicator, IsCheckedKey, IsCheckedPlain, IsCheckedRepetition, IsCheckedSimple, IsCheckedStatement, IsCheckedText, IsInputCd, IsParagraphName}
use Rattle.cob_meaning.specs.Layouts.{Layout}
use Rattle.cob_meaning.specs.Meaning.{Program, paragraph_number}
use Rattle.cob_meaning.specs.Names.{advancing_faults, all_faults, any_item, condition_faults, ending_faults, identifier_faults, indicator_faults, input_faults, item_of_length, key_faults, lines_faults, names_faults, operand_faults, output_faults, paragraph_faults, plain_faults, repetition_faults, sentences_faults, simple_faults, some_identifier_faults, some_paragraph_faults, spaces_faults, statement_faults, is_number_operand, names_number, addend_faults, numeric_item}
use Rattle.cob_meaning.specs.Sources.{IsProgramOf}
use Rattle.cob_meaning.proofs.CheckedParts.{Asks, Sound, addend, Takes, TakesNone, after_a, after_made, after_perhaps, after_two, after_unless, after_written, any, identifier, input_named, numeral, numeric, operand, output_named, quotation}
use Rattle.cob_meaning.proofs.FirstFaults.{no_faults}
use Rattle.cob_meaning.proofs.SoundTokens.{drop_sound, tokens_sound}
use Rattle.cob_meaning.proofs.WellFormed.{both_empty, holds_where_wanted}

-- a length within bounds
within : (least most n : ℕ) → nat_le least n && nat_le n most ≡ true → (least ≤ n) × (n ≤ most)
within least most n e = let h = and_parts (nat_le least n) (nat_le n most) e in (grind (arith, nat_tests), grind (arith, nat_tests))

asks_key : Asks (item_of_length 1 10) (λ item. (1 ≤ item.length) × (item.length ≤ 10))
asks_key = record { says = λ position item e. within 1 10 item.length (holds_where_wanted (nat_le 1 item.length && nat_le item.length 10) position _ e) }

one_only : (n : ℕ) → (1 ≤ n) × (n ≤ 1) → n ≡ 1
one_only n h = let a = h.0 in let b = h.1 in omega arith

asks_one : Asks (item_of_length 1 1) (λ item. item.length ≡ 1)
asks_one = record { says = λ position item e. one_only item.length (within 1 1 item.length (holds_where_wanted (nat_le 1 item.length && nat_le item.length 1) position _ e)) }

some_named : (text : List ParagraphTree) (x : Name) → list_any (λ paragraph. bytes_eq paragraph.name.text x.text) text ≡ true → paragraph_number text x < length text
some_named [] x e = absurd cc
some_named (p ∷ ps) x e = by (bytes_eq p.name.text x.text) (λ e. some_named ps x e) e
  where
    by : (b : Bool) → (list_any (λ paragraph. bytes_eq paragraph.name.text x.text) ps ≡ true → paragraph_number ps x < length ps) → b || list_any (λ paragraph. bytes_eq paragraph.name.text x.text) ps ≡ true
        → cond (not b) (1 + paragraph_number ps x) 0 < suc (length ps)
    by true others e = omega arith
    by false others e = let h = others e in omega arith

paragraph_named : (layout : Layout) (text : List ParagraphTree) (x : Name) → paragraph_faults text x ≡ [] → IsParagraphName layout text x
paragraph_named layout text x e = some_named text x (holds_where_wanted (list_any (λ paragraph. bytes_eq paragraph.name.text x.text) text) _ _ e)

some_paragraph_named : (layout : Layout) (text : List ParagraphTree) (o : Option Name) → some_paragraph_faults text o ≡ [] → IfSome o (IsParagraphName layout text)
some_paragraph_named layout text None e = tt
some_paragraph_named layout text (Some x) e = paragraph_named layout text x e

module _ (layout : Layout) where
  -- CONDITIONS

  after_denied : (denied : Bool) (ts rest : List Token) → is_denied denied ts rest → Sound ts → Sound rest
  after_denied denied ts rest h s = after_written denied (reserved (codes "NOT")) h.0 rest h.2 (after_perhaps h.1 s)

  after_either : {X Y Z : Token → Type 0} {V : Type 0} {ts rest : List Token}
      → Takes X ts rest ⊎ ((mid : List Token) × Takes Y ts mid × (TakesNone V mid rest ⊎ Takes Z mid rest)) → Sound ts → Sound rest
  after_either (inl h) s = after_a h s
  after_either (inr h) s = after_perhaps h.2 (after_a h.1 s)

  after_relation : (r : Relation) (ts rest : List Token) → IsRelation r ts rest → Sound ts → Sound rest
  after_relation relations.Equal ts rest h s = after_either h s
  after_relation relations.Greater ts rest h s = after_either h s
  after_relation relations.Less ts rest h s = after_either h s

  simple : (x : Simple) (ts rest : List Token) → IsSimple x ts rest → Sound ts → simple_faults layout x ≡ [] → IsCheckedSimple layout x × Sound rest
  simple (simples.Compares left denied relation right) ts rest h s e =
      let all = both_empty (operand_faults layout left ++ operand_faults layout right ++ spaces_faults left (is_number_operand layout right)) (spaces_faults right (is_number_operand layout left)) e in
      let more = both_empty (operand_faults layout left ++ operand_faults layout right) (spaces_faults left (is_number_operand layout right)) all.0 in
      let two = both_empty (operand_faults layout left) (operand_faults layout right) more.0 in
      let l = operand layout left ts h.0 h.1 s two.0 in
      let r = operand layout right h.2.2.0 rest h.2.2.2 (after_relation relation h.2.0 h.2.2.0 h.2.2.1 (after_denied denied h.0 h.2.0 h.2.1 l.1)) two.1 in
      ((l.0, r.0), r.1)
  simple (simples.Numeric i denied) ts rest h s e =
      let l = any layout i ts h.0 h.1 s e in
      (l.0, after_a h.2.2 (after_denied denied h.0 h.2.0 h.2.1 l.1))

  abbrev Parts : List Simple → Type 0
  Parts xs = AllByRecursion (IsCheckedSimple layout) xs

  further_parts : (sort : Sort) (test : Token → Bool) (xs : List Simple) (ts rest : List Token) → all_of test (λ other. a sort ⊙ IsSimple other) xs ts rest → Sound ts
      → flat_map (simple_faults layout) xs ≡ [] → Parts xs × Sound rest
  further_parts sort test [] ts rest h s e = (tt, after_unless h s)
  further_parts sort test (x ∷ xs) ts rest h s e =
      let two = both_empty (simple_faults layout x) (flat_map (simple_faults layout) xs) e in
      let one = simple x h.1.0 h.0 h.1.2 (after_a h.1.1 s) two.0 in
      let others = further_parts sort test xs h.0 rest h.2 one.1 two.1 in
      ((one.0, others.0), others.1)

  some_parts : (sort : Sort) (test : Token → Bool) (xs : List Simple) (ts rest : List Token) → some_of test (λ other. a sort ⊙ IsSimple other) xs ts rest → Sound ts
      → flat_map (simple_faults layout) xs ≡ [] → Parts xs × Sound rest
  some_parts sort test [] ts rest h s e = absurd h
  some_parts sort test (x ∷ xs) ts rest h s e = further_parts sort test (x ∷ xs) ts rest h s e

  parts_joined : (text : List ℕ) (xs : List Simple) (ts rest : List Token) → are_joined text xs ts rest → Sound ts → flat_map (simple_faults layout) xs ≡ [] → Parts xs × Sound rest
  parts_joined text [] ts rest h s e = absurd h
  parts_joined text (x ∷ xs) ts rest h s e =
      let two = both_empty (simple_faults layout x) (flat_map (simple_faults layout) xs) e in
      let one = simple x ts h.0 h.1 s two.0 in
      let others = some_parts (reserved text) _ xs h.0 rest h.2 one.1 two.1 in
      ((one.0, others.0), others.1)

  part_alone : (xs : List Simple) (ts rest : List Token) → is_alone xs ts rest → Sound ts → flat_map (simple_faults layout) xs ≡ [] → Parts xs × Sound rest
  part_alone [] ts rest h s e = absurd h
  part_alone (x ∷ []) ts rest h s e =
      let one = simple x ts h.0 h.1 s (both_empty (simple_faults layout x) [] e).0 in
      ((one.0, tt), after_unless h.2 one.1)
  part_alone (x ∷ y ∷ xs) ts rest h s e = absurd h

  condition : (x : Condition) (ts rest : List Token) → IsCondition x ts rest → Sound ts → condition_faults layout x ≡ [] → IsCheckedCondition layout x × Sound rest
  condition x ts rest h s e = by x.joint h
    where
      by : (joint : Joint) → are_parts joint x.parts ts rest → Parts x.parts × Sound rest
      by joints.Alone h = part_alone x.parts ts rest h s e
      by joints.And h = parts_joined _ x.parts ts rest h s e
      by joints.Or h = parts_joined _ x.parts ts rest h s e

  -- PERFORM

  after_through : (x : Name) (ts rest : List Token) → IsThrough x ts rest → Sound ts → Sound rest
  after_through x ts rest h s = after_made h.2 (after_two h.1 s)

  after_some_through : (test : Token → Bool) (o : Option Name) (ts rest : List Token) → maybe_of test IsThrough o ts rest → Sound ts → Sound rest
  after_some_through test None ts rest h s = after_unless h s
  after_some_through test (Some x) ts rest h s = after_through x ts rest h s

  repetition : (x : Repetition) (ts rest : List Token) → IsRepetition x ts rest → Sound ts → repetition_faults layout x ≡ [] → IsCheckedRepetition layout x × Sound rest
  repetition repetitions.Once ts rest h s e = (tt, after_unless h s)
  repetition (repetitions.Times counted) ts rest h s e = let one = addend layout counted ts h.0 h.1 s e in (one.0, after_a h.2 one.1)
  repetition (repetitions.Until tested) ts rest h s e = condition tested h.0 rest h.2 (after_a h.1 s) e

  -- SEND

  key : (x : Key) (ts rest : List Token) → IsKey x ts rest → Sound ts → key_faults layout x ≡ [] → IsCheckedKey layout x × Sound rest
  key (keys.Item i) ts rest h s e = identifier layout (item_of_length 1 10) (λ item. (1 ≤ item.length) × (item.length ≤ 10)) asks_key i ts rest h s e
  key (keys.Literal l) ts rest h s e =
      let one = quotation l ts rest h s in
      ((one.0, (within 1 10 (length l.characters) (holds_where_wanted (nat_le 1 (length l.characters) && nat_le (length l.characters) 10) _ _ e)).1), one.1)

  indicator : (x : Indicator) (ts rest : List Token) → IsIndicator x ts rest → Sound ts → indicator_faults layout x ≡ [] → IsCheckedIndicator layout x × Sound rest
  indicator (indicators.Item i) ts rest h s e = identifier layout (item_of_length 1 1) (λ item. item.length ≡ 1) asks_one i h.0 rest h.2 (after_a h.1 s) e
  indicator indicators.Esi ts rest h s e = (tt, after_a h.2 (after_perhaps h.1 s))
  indicator indicators.Emi ts rest h s e = (tt, after_a h.2 (after_perhaps h.1 s))
  indicator indicators.Egi ts rest h s e = (tt, after_a h.2 (after_perhaps h.1 s))

  after_lines_word : (ts rest : List Token) → line_or_lines ts rest → Sound ts → Sound rest
  after_lines_word ts rest (inl h) s = after_unless h s
  after_lines_word ts rest (inr h) s = after_two h s

  few_lines : (n : ℕ) → nat_le n 99 ≡ true → n ≤ 99
  few_lines n e = grind (arith, nat_tests)

  lines_checked : (x : Lines) (ts rest : List Token) → IsLines x ts rest → Sound ts → lines_faults layout x ≡ [] → AreCheckedLines layout x × Sound rest
  lines_checked (lines.Count (addends.Item i)) ts rest h s e = let one = numeric layout i ts h.0 h.1 s e in (one.0, after_lines_word h.0 rest h.2 one.1)
  lines_checked (lines.Count (addends.Number n)) ts rest h s e =
      let one = numeral n ts h.0 h.1 s in
      ((one.0, few_lines (number n.digits) (holds_where_wanted (nat_le (number n.digits) 99) _ _ e)), after_lines_word h.0 rest h.2 one.1)
  lines_checked lines.Page ts rest h s e = (tt, after_a h s)

  advancing : (x : Advancing) (ts rest : List Token) → IsAdvancing x ts rest → Sound ts → lines_faults layout x.lines ≡ [] → AreCheckedLines layout x.lines × Sound rest
  advancing x ts rest h s e = lines_checked x.lines h.2.0 rest h.2.2 (after_perhaps h.2.1 (after_a h.1 s)) e

  some_advancing : (test : Token → Bool) (o : Option Advancing) (ts rest : List Token) → maybe_of test IsAdvancing o ts rest → Sound ts → advancing_faults layout o ≡ []
      → IfSome o (λ x. AreCheckedLines layout x.lines) × Sound rest
  some_advancing test None ts rest h s e = (tt, after_unless h s)
  some_advancing test (Some x) ts rest h s e = advancing x ts rest h s e

  ending : (x : Ending) (ts rest : List Token) → IsEnding x ts rest → Sound ts → ending_faults layout (Some x) ≡ [] → IsCheckedEnding layout x × Sound rest
  ending x ts rest h s e =
      let two = both_empty (indicator_faults layout x.indicator) (advancing_faults layout x.advancing) e in
      let one = indicator x.indicator ts h.0 h.1 s two.0 in
      let other = some_advancing _ x.advancing h.0 rest h.2 one.1 two.1 in
      (record { indicator = one.0; advancing = other.0 }, other.1)

  some_ending : (test : Token → Bool) (o : Option Ending) (ts rest : List Token) → maybe_of test IsEnding o ts rest → Sound ts → ending_faults layout o ≡ []
      → IfSome o (IsCheckedEnding layout) × Sound rest
  some_ending test None ts rest h s e = (tt, after_unless h s)
  some_ending test (Some x) ts rest h s e = ending x ts rest h s e

  sent : (from : Option Identifier) (end : Option Ending) (ts rest : List Token) → IsSent from end ts rest → Sound ts → some_identifier_faults layout from ≡ [] → ending_faults layout end ≡ []
      → (IfSome from (IsCheckedIdentifier layout) × IfSome end (IsCheckedEnding layout)) × Sound rest
  sent (Some i) end ts rest h s e f =
      let one = any layout i h.0 h.2.0 h.2.1 (after_a h.1 s) e in
      let other = some_ending _ end h.2.0 rest h.2.2 one.1 f in
      ((one.0, other.0), other.1)
  sent None (Some end) ts rest h s e f = let other = ending end ts rest h s f in ((tt, other.0), other.1)
  sent None None ts rest h s e f = absurd h

  keyed : (cd : Name) (x : Key) (ts rest : List Token) → is_keyed cd x ts rest → Sound ts → key_faults layout x ≡ [] → IsCheckedKey layout x × Sound rest
  keyed cd x ts rest h s e = key x h.2.2.0 rest h.2.2.2 (after_a h.2.2.1 (after_perhaps h.2.1 (after_made h.1 s))) e

  -- MOVE

  further_targets : (test : Token → Bool) (xs : List Identifier) (ts rest : List Token) → all_of test IsIdentifier xs ts rest → Sound ts
      → flat_map (identifier_faults layout any_item) xs ≡ [] → AllByRecursion (IsCheckedIdentifier layout) xs × Sound rest
  further_targets test [] ts rest h s e = (tt, after_unless h s)
  further_targets test (x ∷ xs) ts rest h s e =
      let two = both_empty (identifier_faults layout any_item x) (flat_map (identifier_faults layout any_item) xs) e in
      let one = any layout x ts h.0 h.1 s two.0 in
      let others = further_targets test xs h.0 rest h.2 one.1 two.1 in
      ((one.0, others.0), others.1)

  targets_checked : (test : Token → Bool) (xs : List Identifier) (ts rest : List Token) → some_of test IsIdentifier xs ts rest → Sound ts
      → flat_map (identifier_faults layout any_item) xs ≡ [] → AllByRecursion (IsCheckedIdentifier layout) xs × Sound rest
  targets_checked test [] ts rest h s e = absurd h
  targets_checked test (x ∷ xs) ts rest h s e = further_targets test (x ∷ xs) ts rest h s e

  module _ (text : List ParagraphTree) where
    plain_checked : (x : Plain) (ts rest : List Token) → IsPlain x ts rest → Sound ts → plain_faults layout text x ≡ [] → IsCheckedPlain layout text x × Sound rest
    plain_checked (moves source targets) ts rest h s e =
        let all = both_empty (operand_faults layout source ++ flat_map (identifier_faults layout any_item) targets) (spaces_faults source (list_any (names_number layout) targets)) e in
        let two = both_empty (operand_faults layout source) (flat_map (identifier_faults layout any_item) targets) all.0 in
        let one = operand layout source h.0 h.2.0 h.2.1 (after_a h.1 s) two.0 in
        let others = targets_checked _ targets h.2.2.0 rest h.2.2.2 (after_a h.2.2.1 one.1) two.1 in
        ((one.0, others.0), others.1)
    plain_checked (adds x target) ts rest h s e =
        let two = both_empty (addend_faults layout x) (identifier_faults layout numeric_item target) e in
        let one = addend layout x h.0 h.2.0 h.2.1 (after_a h.1 s) two.0 in
        let other = numeric layout target h.2.2.0 rest h.2.2.2 (after_a h.2.2.1 one.1) two.1 in
        ((one.0, other.0), other.1)
    plain_checked (subtracts x target) ts rest h s e =
        let two = both_empty (addend_faults layout x) (identifier_faults layout numeric_item target) e in
        let one = addend layout x h.0 h.2.0 h.2.1 (after_a h.1 s) two.0 in
        let other = numeric layout target h.2.2.0 rest h.2.2.2 (after_a h.2.2.1 one.1) two.1 in
        ((one.0, other.0), other.1)
    plain_checked (performs begin last often) ts rest h s e =
        let all = both_empty (paragraph_faults text begin ++ some_paragraph_faults text last) (repetition_faults layout often) e in
        let two = both_empty (paragraph_faults text begin) (some_paragraph_faults text last) all.0 in
        let after = after_some_through _ last h.2.0 h.2.2.0 h.2.2.1 (after_made h.2.1 (after_a h.1 s)) in
        let how = repetition often h.2.2.0 rest h.2.2.2 after all.1 in
        ((paragraph_named layout text begin two.0, some_paragraph_named layout text last two.1, how.0), how.1)
    plain_checked (goes target) ts rest h s e =
        (paragraph_named layout text target e, after_made h.2.2 (after_perhaps h.2.1 (after_a h.1 s)))
    plain_checked exits ts rest h s e = (tt, after_a h s)
    plain_checked stops ts rest h s e = (tt, after_a h.2 (after_a h.1 s))
    plain_checked (sends cd from end) ts rest h s e =
        let all = both_empty (output_faults layout cd ++ some_identifier_faults layout from) (ending_faults layout end) e in
        let two = both_empty (output_faults layout cd) (some_identifier_faults layout from) all.0 in
        let what = sent from end h.2.0 rest h.2.2 (after_made h.2.1 (after_a h.1 s)) two.1 all.1 in
        ((output_named layout cd two.0, what.0.0, what.0.1), what.1)
    plain_checked (switches_input on terminal cd x) ts rest h s e =
        let two = both_empty (input_faults layout cd) (key_faults layout x) e in
        let one = keyed cd x h.2.2.0 rest h.2.2.2 (after_written terminal (reserved (codes "TERMINAL")) h.2.0 h.2.2.0 h.2.2.1 (after_a h.2.1 (after_a h.1 s))) two.1 in
        ((input_named layout cd two.0, one.0), one.1)
    plain_checked (switches_output on cd x) ts rest h s e =
        let two = both_empty (output_faults layout cd) (key_faults layout x) e in
        let one = keyed cd x h.2.0 rest h.2.2 (after_a h.2.1 (after_a h.1 s)) two.1 in
        ((output_named layout cd two.0, one.0), one.1)
    plain_checked (accepts cd) ts rest h s e =
        (input_named layout cd e, after_a h.2.2.2 (after_perhaps h.2.2.1 (after_made h.2.1 (after_a h.1 s))))

    receive_checked : (cd : Name) (segment : Bool) (into : Identifier) (ts rest : List Token) → IsReceive cd segment into ts rest → Sound ts
        → input_faults layout cd ++ identifier_faults layout any_item into ≡ [] → (IsInputCd layout cd × IsCheckedIdentifier layout into) × Sound rest
    receive_checked cd segment into ts rest h s e =
        let two = both_empty (input_faults layout cd) (identifier_faults layout any_item into) e in
        let one = any layout into h.2.2.2.0 rest h.2.2.2.2 (after_a h.2.2.2.1 (after_a h.2.2.1 (after_made h.2.1 (after_a h.1 s)))) two.1 in
        ((input_named layout cd two.0, one.0), one.1)

    -- NO DATA

    inner : (x : Tree) (ts rest : List Token) → IsInner x ts rest → Sound ts → statement_faults layout text x ≡ [] → IsCheckedStatement layout text x × Sound rest
    inner (plain x) ts rest h s e = plain_checked x ts rest h s e
    inner (branches position c one other) ts rest h s e = absurd h
    inner (receives cd segment into none) ts rest h s e =
        let one = receive_checked cd segment into ts rest h s (both_empty (input_faults layout cd ++ identifier_faults layout any_item into) [] e).0 in
        ((one.0.0, one.0.1, tt), one.1)
    inner (receives cd segment into (lead x others)) ts rest h s e = absurd h

    inners : (b : Block) (ts rest : List Token) → AreInner b ts rest → Sound ts → all_faults layout text b ≡ [] → AreChecked layout text b × Sound rest
    inners none ts rest h s e = (tt, after_unless h s)
    inners (lead x others) ts rest h s e =
        let two = both_empty (statement_faults layout text x) (all_faults layout text others) e in
        let one = inner x ts h.0 h.1 s two.0 in
        let more = inners others h.0 rest h.2 one.1 two.1 in
        ((one.0, more.0), more.1)

    no_data : (b : Block) (ts rest : List Token) → IsNoData b ts rest → Sound ts → all_faults layout text b ≡ [] → AreChecked layout text b × Sound rest
    no_data none ts rest h s e = (tt, after_unless h s)
    no_data (lead x others) ts rest h s e =
        let two = both_empty (statement_faults layout text x) (all_faults layout text others) e in
        let one = inner x h.2.0 h.2.2.0 h.2.2.1 (after_a h.2.1 (after_a h.1 s)) two.0 in
        let more = inners others h.2.2.0 rest h.2.2.2 one.1 two.1 in
        ((one.0, more.0), more.1)

    -- STATEMENTS

    mutual
      statement : (x : Tree) (ts rest : List Token) → IsStatement x ts rest → Sound ts → statement_faults layout text x ≡ [] → IsCheckedStatement layout text x × Sound rest
      statement (plain x) ts rest h s e = plain_checked x ts rest h s e
      statement (branches position c one other) ts rest h s e =
          let all = both_empty (condition_faults layout c ++ all_faults layout text one) (all_faults layout text other) e in
          let two = both_empty (condition_faults layout c) (all_faults layout text one) all.0 in
          let tested = condition c h.0 h.2.0 h.2.1 (after_made h.1 s) two.0 in
          let first = statements one h.2.0 h.2.2.0 h.2.2.1 tested.1 two.1 in
          let second = otherwise other h.2.2.0 rest h.2.2.2 first.1 all.1 in
          ((tested.0, first.0, second.0), second.1)
      statement (receives cd segment into block) ts rest h s e =
          let two = both_empty (input_faults layout cd ++ identifier_faults layout any_item into) (all_faults layout text block) e in
          let one = receive_checked cd segment into ts h.0 h.1 s two.0 in
          let other = no_data block h.0 rest h.2 one.1 two.1 in
          ((one.0.0, one.0.1, other.0), other.1)

      statements : (b : Block) (ts rest : List Token) → AreStatements b ts rest → Sound ts → all_faults layout text b ≡ [] → AreChecked layout text b × Sound rest
      statements none ts rest h s e = absurd h
      statements (lead x others) ts rest h s e =
          let two = both_empty (statement_faults layout text x) (all_faults layout text others) e in
          let one = statement x ts h.0 h.1 s two.0 in
          let more = further others h.0 rest h.2 one.1 two.1 in
          ((one.0, more.0), more.1)

      further : (b : Block) (ts rest : List Token) → AreFurther b ts rest → Sound ts → all_faults layout text b ≡ [] → AreChecked layout text b × Sound rest
      further none ts rest h s e = (tt, after_unless h s)
      further (lead x others) ts rest h s e =
          let two = both_empty (statement_faults layout text x) (all_faults layout text others) e in
          let one = statement x ts h.0 h.1 s two.0 in
          let more = further others h.0 rest h.2 one.1 two.1 in
          ((one.0, more.0), more.1)

      otherwise : (b : Block) (ts rest : List Token) → IsElse b ts rest → Sound ts → all_faults layout text b ≡ [] → AreChecked layout text b × Sound rest
      otherwise none ts rest h s e = (tt, after_unless h s)
      otherwise (lead x others) ts rest h s e =
          let two = both_empty (statement_faults layout text x) (all_faults layout text others) e in
          let one = statement x h.0 h.2.0 h.2.1 (after_a h.1 s) two.0 in
          let more = further others h.2.0 rest h.2.2 one.1 two.1 in
          ((one.0, more.0), more.1)

    sentences : (test : Token → Bool) (xs : List Block) (ts rest : List Token) → all_of test IsSentence xs ts rest → Sound ts → flat_map (all_faults layout text) xs ≡ []
        → AllByRecursion (AreChecked layout text) xs × Sound rest
    sentences test [] ts rest h s e = (tt, after_unless h s)
    sentences test (x ∷ xs) ts rest h s e =
        let two = both_empty (all_faults layout text x) (flat_map (all_faults layout text) xs) e in
        let one = statements x ts h.1.0 h.1.1 s two.0 in
        let more = sentences test xs h.0 rest h.2 (after_a h.1.2 one.1) two.1 in
        ((one.0, more.0), more.1)

    further_paragraphs : (test : Token → Bool) (xs : List ParagraphTree) (ts rest : List Token) → all_of test IsParagraph xs ts rest → Sound ts → flat_map (sentences_faults layout text) xs ≡ []
        → AreCheckedParagraphs layout text xs × Sound rest
    further_paragraphs test [] ts rest h s e = (tt, after_unless h s)
    further_paragraphs test (x ∷ xs) ts rest h s e =
        let two = both_empty (sentences_faults layout text x) (flat_map (sentences_faults layout text) xs) e in
        let one = sentences _ x.sentences h.1.2.0 h.0 h.1.2.2 (after_a h.1.2.1 (after_made h.1.1 s)) two.0 in
        let more = further_paragraphs test xs h.0 rest h.2 one.1 two.1 in
        ((one.0, more.0), more.1)

    paragraphs : (test : Token → Bool) (xs : List ParagraphTree) (ts rest : List Token) → some_of test IsParagraph xs ts rest → Sound ts → flat_map (sentences_faults layout text) xs ≡ []
        → AreCheckedParagraphs layout text xs × Sound rest
    paragraphs test [] ts rest h s e = absurd h
    paragraphs test (x ∷ xs) ts rest h s e = further_paragraphs test (x ∷ xs) ts rest h s e

  procedure : (text : List ParagraphTree) (ts : List Token) → IsProcedure text ts → Sound ts → flat_map (sentences_faults layout text) text ≡ [] → IsCheckedText layout text
  procedure text ts h s e = (paragraphs text _ text h.2.2.0 [] h.2.2.2 (after_a h.2.2.1 (after_a h.2.1 (after_a h.1 s))) e).0

pub checked : (source : List ℕ) (program : Program) → IsProgramOf source program → IsCheckedText program.layout program.text
checked source program h =
    procedure program.layout program.text (drop h.spells.place h.tokens) h.spells.is_procedure (drop_sound h.spells.place h.tokens (tokens_sound source h.tokens h.are_tokens))
    (no_faults (names_faults program) h.no_fault.names)
