-- The parts of statements are as their spelling and the freedom from faults say.
use Rattle.std.proofs.Common.{◌≡◌, codes, ◌⊎◌, ◌≤◌, inl, inr, ℕ, Bool, true, false, ◌&&◌, nat_le, List, [], ◌∷◌, Option, Some, None, refl, sym, ap, subst, ◌∙◌, arith}
use Rattle.std.specs.List.{AllByRecursion}
use Rattle.std.specs.Prelude.{IfSome}
use Rattle.std.proofs.lemmas.Bool.{and_parts}
use Rattle.std.proofs.lemmas.Bool.Decides.{nat_tests}
use Rattle.com_text.specs.Digits.{number}
use Rattle.cob_lex.specs.declared.fault.SourceFault.{SourceFault}
use Rattle.cob_lex.specs.declared.token.Token.{Token}
use Rattle.cob_forms.specs.declared.written.Literal.{Literal}
use Rattle.cob_forms.specs.declared.written.Name.{Name}
use Rattle.cob_forms.specs.declared.written.Number.{Number}
use Rattle.cob_forms.specs.declared.written.Position.{Position}
use Rattle.cob_forms.specs.Sorts.{Sort}
use Rattle.cob_forms.specs.Spelling.{written, maybe_of, IsNumber, IsLiteral}
use Rattle.cob_data.specs.declared.tree.ItemPlace.{ItemPlace}
use Rattle.cob_data.specs.declared.tree.ItemSort.{ItemSort}
use Rattle.cob_data.specs.declared.tree.ItemSort.TheVariants.{Alphanumeric, Numeric, Group}
use Rattle.cob_data.specs.Layout.{Referent, data_at, input_cd, output_cd}
use Rattle.cob_proc.specs.declared.tree.Addend.{Addend}
use Rattle.cob_proc.specs.declared.tree.Addend.TheVariants as addends
use Rattle.cob_proc.specs.declared.tree.Identifier.{Identifier}
use Rattle.cob_proc.specs.declared.tree.Operand.{Operand}
use Rattle.cob_proc.specs.declared.tree.Operand.TheVariants as operands
use Rattle.cob_proc.specs.declared.tree.Subscript.{Subscript}
use Rattle.cob_proc.specs.declared.tree.Subscript.TheVariants as subscripts
use Rattle.cob_proc.specs.Spelled.{IsAddend, IsIdentifier, IsOperand, IsSubscript, one_of}
use Rattle.cob_meaning.specs.Checked.{IsCheckedAddend, IsCheckedIdentifier, IsCheckedItem, IsCheckedNumber, IsCheckedOperand, IsInputCd, IsNumeral, IsOutputCd, IsQuotation, IsSubscripted}
use Rattle.cob_meaning.specs.Layouts.{Layout, referent}
use Rattle.cob_meaning.specs.Names.{ItemRule, addend_faults, any_item, data_faults, data_faults_by, identifier_faults, input_faults, input_faults_by, is_numeric, is_single, numeric_item, operand_faults, output_faults, output_faults_by, subscripted_faults}
use Rattle.cob_meaning.proofs.SoundTokens.{IsSoundToken, a_numeral, a_quotation}
use Rattle.cob_meaning.proofs.WellFormed.{both_empty, holds_where_wanted, no_fault}

-- TOKENS

-- the tokens that are left have their sizes
abbrev pub Sound : List Token → Type 0
Sound ts = AllByRecursion IsSoundToken ts

-- one token is taken, or none
abbrev pub Takes : (Token → Type 0) → List Token → List Token → Type 0
Takes X ts rest = (t : Token) × (X t × (ts ≡ t ∷ rest))

abbrev pub TakesNone : Type 0 → List Token → List Token → Type 0
TakesNone Y ts rest = (rest ≡ ts) × Y

pub after_a : {X : Token → Type 0} {ts rest : List Token} → Takes X ts rest → Sound ts → Sound rest
after_a h s = (subst Sound h.1.1 s).1

pub after_made : {X Y : Token → Type 0} {ts rest : List Token} → ((t : Token) × Y t × (X t × (ts ≡ t ∷ rest))) → Sound ts → Sound rest
after_made h s = (subst Sound h.2.1 s).1

pub after_unless : {Y : Type 0} {ts rest : List Token} → TakesNone Y ts rest → Sound ts → Sound rest
after_unless h s = subst Sound (sym h.0) s

pub after_perhaps : {X : Token → Type 0} {Y : Type 0} {ts rest : List Token} → TakesNone Y ts rest ⊎ Takes X ts rest → Sound ts → Sound rest
after_perhaps (inl h) s = after_unless h s
after_perhaps (inr h) s = after_a h s

pub after_two : {X Y : Token → Type 0} {ts rest : List Token} → Takes X ts rest ⊎ Takes Y ts rest → Sound ts → Sound rest
after_two (inl h) s = after_a h s
after_two (inr h) s = after_a h s

pub after_written : (b : Bool) (sort : Sort) (ts rest : List Token) → written b sort ts rest → Sound ts → Sound rest
after_written true sort ts rest h s = after_a h s
after_written false sort ts rest h s = after_unless h s

pub numeral : (x : Number) (ts rest : List Token) → IsNumber x ts rest → Sound ts → IsNumeral x.digits × Sound rest
numeral x ts rest h s =
    let both = subst Sound h.2.1 s in
    (subst (λ (y : Number). IsNumeral y.digits) (sym h.1) (a_numeral h.0 h.2.0 both.0), both.1)

pub quotation : (x : Literal) (ts rest : List Token) → IsLiteral x ts rest → Sound ts → IsQuotation x.characters × Sound rest
quotation x ts rest h s =
    let both = subst Sound h.2.1 s in
    (subst (λ (y : Literal). IsQuotation y.characters) (sym h.1) (a_quotation h.0 h.2.0 both.0), both.1)

-- IDENTIFIERS

-- a number that is a subscript
abbrev pub IsRightSubscript : Subscript → Type 0
IsRightSubscript (subscripts.Number position n) = IsNumeral n.digits
IsRightSubscript (subscripts.Item position x) = Unit {0}

subscript_right : (x : Subscript) (ts rest : List Token) → IsSubscript x ts rest → Sound ts → IsRightSubscript x × Sound rest
subscript_right (subscripts.Number position n) ts rest h s =
    let one = numeral n h.0 h.2.0 h.2.1 (after_made h.1 s) in
    (one.0, after_a h.2.2 one.1)
subscript_right (subscripts.Item position x) ts rest h s =
    (tt, after_a h.2.2 (after_made h.2.1 (after_made h.1 s)))

pub identifier_right : (x : Identifier) (ts rest : List Token) → IsIdentifier x ts rest → Sound ts → IfSome x.subscript IsRightSubscript × Sound rest
identifier_right x ts rest h s = by _ h.0 x.subscript h.2 (after_made h.1 s)
  where
    by : (test : Token → Bool) (mid : List Token) (o : Option Subscript) → maybe_of test IsSubscript o mid rest → Sound mid → IfSome o IsRightSubscript × Sound rest
    by test mid None h s = (tt, after_unless h s)
    by test mid (Some y) h s = subscript_right y mid rest h s

-- what has no fault is data
pub record IsData (layout : Layout) (x : Name) (others : ItemPlace → Option ℕ → List SourceFault) : Type 0 where
  pub item : ItemPlace
  pub occurs : Option ℕ
  pub stands_for : referent layout x ≡ Some (data_at item occurs)
  pub right : others item occurs ≡ []

pub is_data : (layout : Layout) (x : Name) (others : ItemPlace → Option ℕ → List SourceFault) → data_faults layout x others ≡ [] → IsData layout x others
is_data layout x others e = by (referent layout x) refl e
  where
    by : (r : Option Referent) → referent layout x ≡ r → data_faults_by r x.position others ≡ [] → IsData layout x others
    by None f e = absurd (no_fault _ _ e)
    by (Some (data_at item occurs)) f e = record { item = item; occurs = occurs; stands_for = f; right = e }
    by (Some (input_cd area)) f e = absurd (no_fault _ _ e)
    by (Some (output_cd area occurrences)) f e = absurd (no_fault _ _ e)

-- a rule for items, by what it asks for
pub record Asks (rule : ItemRule) (IsRight : ItemPlace → Type 0) : Type 0 where
  pub says : (position : Position) (item : ItemPlace) → rule position item ≡ [] → IsRight item

pub asks_nothing : Asks any_item (λ item. Unit {0})
asks_nothing = record { says = λ position item e. tt }

numeric_sort : (sort : ItemSort) → is_numeric sort ≡ true → sort ≡ Numeric
numeric_sort Numeric e = refl
numeric_sort Alphanumeric e = absurd cc
numeric_sort Group e = absurd cc

pub asks_number : Asks numeric_item (λ item. item.sort ≡ Numeric)
asks_number = record { says = λ position item e. numeric_sort item.sort (holds_where_wanted (is_numeric item.sort) position _ e) }

single : (o : Option ℕ) → is_single o ≡ true → o ≡ None
single None e = refl
single (Some n) e = absurd cc

in_range : (n occurs : ℕ) → nat_le 1 n && nat_le n occurs ≡ true → (1 ≤ n) × (n ≤ occurs)
in_range n occurs e = let h = and_parts (nat_le 1 n) (nat_le n occurs) e in (grind (arith, nat_tests), grind (arith, nat_tests))

module _ (layout : Layout) where
  subscript_checked : (position : Position) (occurs : Option ℕ) (o : Option Subscript) → IfSome o IsRightSubscript → subscripted_faults layout position occurs o ≡ [] → IsSubscripted layout occurs o
  subscript_checked position None None r e = tt
  subscript_checked position None (Some x) r e = absurd (no_fault _ _ e)
  subscript_checked position (Some occurs) None r e = absurd (no_fault _ _ e)
  subscript_checked position (Some occurs) (Some (subscripts.Number p n)) r e =
      let range = in_range (number n.digits) occurs (holds_where_wanted (nat_le 1 (number n.digits) && nat_le (number n.digits) occurs) _ _ e) in
      (r, range.0, range.1)
  subscript_checked position (Some occurs) (Some (subscripts.Item p x)) r e =
      let d = is_data layout x _ e in
      let parts = and_parts (is_single d.occurs) (is_numeric d.item.sort) (holds_where_wanted (is_single d.occurs && is_numeric d.item.sort) _ _ d.right) in
      (d.item, d.stands_for ∙ ap (λ o. Some (data_at d.item o)) (single d.occurs parts.0), numeric_sort d.item.sort parts.1)

  pub item_checked : (rule : ItemRule) (IsRight : ItemPlace → Type 0) → Asks rule IsRight → (x : Identifier) → IfSome x.subscript IsRightSubscript → identifier_faults layout rule x ≡ [] → IsCheckedItem layout IsRight x
  item_checked rule IsRight asks x r e =
      let d = is_data layout x.name _ e in
      let parts = both_empty (rule x.name.position d.item) (subscripted_faults layout x.name.position d.occurs x.subscript) d.right in
      record {
        item = d.item;
        occurs = d.occurs;
        stands_for = d.stands_for;
        is_right = asks.says x.name.position d.item parts.0;
        subscripted = subscript_checked x.name.position d.occurs x.subscript r parts.1;
      }

  pub identifier : (rule : ItemRule) (IsRight : ItemPlace → Type 0) → Asks rule IsRight → (x : Identifier) (ts rest : List Token) → IsIdentifier x ts rest → Sound ts
      → identifier_faults layout rule x ≡ [] → IsCheckedItem layout IsRight x × Sound rest
  identifier rule IsRight asks x ts rest h s e = let r = identifier_right x ts rest h s in (item_checked rule IsRight asks x r.0 e, r.1)

  pub any : (x : Identifier) (ts rest : List Token) → IsIdentifier x ts rest → Sound ts → identifier_faults layout any_item x ≡ [] → IsCheckedIdentifier layout x × Sound rest
  any = identifier any_item (λ item. Unit {0}) asks_nothing

  pub numeric : (x : Identifier) (ts rest : List Token) → IsIdentifier x ts rest → Sound ts → identifier_faults layout numeric_item x ≡ [] → IsCheckedNumber layout x × Sound rest
  numeric = identifier numeric_item (λ item. item.sort ≡ Numeric) asks_number

  -- CDS

  pub input_named : (x : Name) → input_faults layout x ≡ [] → IsInputCd layout x
  input_named x e = by (referent layout x) refl e
    where
      by : (r : Option Referent) → referent layout x ≡ r → input_faults_by r x.position ≡ [] → IsInputCd layout x
      by None f e = absurd (no_fault _ _ e)
      by (Some (input_cd area)) f e = (area, f)
      by (Some (output_cd area occurrences)) f e = absurd (no_fault _ _ e)
      by (Some (data_at item occurs)) f e = absurd (no_fault _ _ e)

  pub output_named : (x : Name) → output_faults layout x ≡ [] → IsOutputCd layout x
  output_named x e = by (referent layout x) refl e
    where
      by : (r : Option Referent) → referent layout x ≡ r → output_faults_by r x.position ≡ [] → IsOutputCd layout x
      by None f e = absurd (no_fault _ _ e)
      by (Some (output_cd area occurrences)) f e = (area, occurrences, f)
      by (Some (input_cd area)) f e = absurd (no_fault _ _ e)
      by (Some (data_at item occurs)) f e = absurd (no_fault _ _ e)

  -- OPERANDS

  pub addend : (x : Addend) (ts rest : List Token) → IsAddend x ts rest → Sound ts → addend_faults layout x ≡ [] → IsCheckedAddend layout x × Sound rest
  addend (addends.Item i) ts rest h s e = numeric i ts rest h s e
  addend (addends.Number n) ts rest h s e = numeral n ts rest h s

  after_words : (texts : List (List ℕ)) (position : Position) (ts rest : List Token) → one_of texts position ts rest → Sound ts → Sound rest
  after_words [] position ts rest h s = absurd h
  after_words (text ∷ texts) position ts rest (inl h) s = after_made h s
  after_words (text ∷ texts) position ts rest (inr h) s = after_words texts position ts rest h s

  pub operand : (x : Operand) (ts rest : List Token) → IsOperand x ts rest → Sound ts → operand_faults layout x ≡ [] → IsCheckedOperand layout x × Sound rest
  operand (operands.Item i) ts rest h s e = any i ts rest h s e
  operand (operands.Literal l) ts rest h s e = quotation l ts rest h s
  operand (operands.Number n) ts rest h s e = numeral n ts rest h s
  operand (operands.Spaces position) ts rest h s e = (tt, after_words (codes "SPACE" ∷ codes "SPACES" ∷ []) position ts rest h s)
  operand (operands.Zeros position) ts rest h s e = (tt, after_words (codes "ZERO" ∷ codes "ZEROS" ∷ codes "ZEROES" ∷ []) position ts rest h s)
