-- The storage of a run keeps the lengths of its areas, and holds texts.
use Rattle.std.proofs.Common.{cond, ◌≡◌, ◌⊎◌, inl, inr, ℕ, zero, suc, ◌+◌, ◌-◌, ◌*◌, ◌≤◌, Bool, true, false, List, [], ◌∷◌, ◌++◌, length, drop, Option, Some, None, refl, sym, ap, subst, ◌∙◌, arith, length-append, length-drop, ◌&&◌, nat_le, bytes_eq, if◌then◌else◌}
use Rattle.std.specs.List.{AllByRecursion}
use Rattle.std.specs.Prelude.{find, option_map}
use Rattle.std.proofs.lemmas.List.{length-take, length-replicate}
use Rattle.std.proofs.lemmas.Bool.{and_parts}
use Rattle.std.proofs.lemmas.Bool.Decides.{nat_tests}
use Rattle.std.specs.Str.{all_ascii_digits}
use Rattle.com_text.specs.Text.{IsText}
use Rattle.com_text.specs.Name.{spaces}
use Rattle.com_text.specs.Digits.{in_digits}
use Rattle.com_text.proofs.Texts.{IsText-append, IsText-take, IsText-drop, IsText-spaces, IsText-in_digits}
use Rattle.com_text.proofs.Numerals.{length-in_digits}
use Rattle.com_cd.specs.InputArea.{zeros}
use Rattle.com_cd.proofs.Parted.{IsText-with_part, length-with_part}
use Rattle.cob_forms.specs.declared.written.Name.{Name}
use Rattle.cob_proc.specs.declared.tree.Addend.{Addend}
use Rattle.cob_proc.specs.declared.tree.Identifier.{Identifier}
use Rattle.cob_proc.specs.declared.tree.Operand.{Operand}
use Rattle.cob_proc.specs.declared.tree.Operand.TheVariants as operands
use Rattle.cob_proc.specs.declared.tree.Subscript.{Subscript}
use Rattle.cob_data.specs.declared.tree.ItemPlace.{ItemPlace}
use Rattle.cob_data.specs.declared.tree.ItemSort.{ItemSort}
use Rattle.cob_data.specs.declared.tree.ItemSort.TheVariants.{Alphanumeric, Numeric, Group}
use Rattle.cob_data.specs.Layout.{Declared, Referent, data_at, input_cd, output_cd}
use Rattle.cob_meaning.specs.Layouts.{◌>>=◌, Layout, occurrence, referent, step}
use Rattle.cob_meaning.specs.Moves.{Content, a_number, a_text, a_group, all_spaces, all_zeros, addend_number, combined, content_at, content_of, filled, from_left, from_right, item_at, item_by, move, moved, subscript_number, subscripted_item}
use Rattle.cob_meaning.specs.Sound.{IsItemIn, IsReferentIn, IsSound}
use Rattle.cob_meaning.specs.Storage.{Storage, area_in, held_by, number_held, number_in, with_area, with_prefix}

-- each area holds a text, as long as at the beginning
abbrev pub IsStorage : List (List ℕ) → Storage → Type 0
IsStorage opening storage = (k : ℕ) → IsText (area_in storage k) × (length (area_in storage k) ≡ length (area_in opening k))

-- an item as it stands without a subscript, in its area
pub record IsPlaced (opening : List (List ℕ)) (item : ItemPlace) : Type 0 where
  pub some : 1 ≤ item.length
  pub few : item.length ≤ 2000
  pub within : item.start + item.length ≤ length (area_in opening item.area)

pub opens : (opening : List (List ℕ)) → AllByRecursion IsText opening → IsStorage opening opening
opens [] h k = (refl, refl)
opens (area ∷ areas) h zero = (h.0, refl)
opens (area ∷ areas) h (suc k) = opens areas h.1 k

area_set : (storage : Storage) (k : ℕ) (characters : List ℕ) (j : ℕ)
    → ((j ≡ k) × (area_in (with_area k characters storage) j ≡ characters)) ⊎ (area_in (with_area k characters storage) j ≡ area_in storage j)
area_set [] k characters j = inr refl
area_set (area ∷ areas) zero characters zero = inl (refl, refl)
area_set (area ∷ areas) zero characters (suc j) = inr refl
area_set (area ∷ areas) (suc k) characters zero = inr refl
area_set (area ∷ areas) (suc k) characters (suc j) = by (area_set areas k characters j)
  where
    by : ((j ≡ k) × (area_in (with_area k characters areas) j ≡ characters)) ⊎ (area_in (with_area k characters areas) j ≡ area_in areas j)
        → ((suc j ≡ suc k) × (area_in (with_area k characters areas) j ≡ characters)) ⊎ (area_in (with_area k characters areas) j ≡ area_in areas j)
    by (inl h) = inl (ap suc h.0, h.1)
    by (inr h) = inr h

-- an area is replaced by a text of its length
pub with_area_stored : (opening : List (List ℕ)) (storage : Storage) (k : ℕ) (characters : List ℕ) → IsStorage opening storage
    → IsText characters → length characters ≡ length (area_in opening k) → IsStorage opening (with_area k characters storage)
with_area_stored opening storage k characters h text same j = by (area_set storage k characters j)
  where
    by : ((j ≡ k) × (area_in (with_area k characters storage) j ≡ characters)) ⊎ (area_in (with_area k characters storage) j ≡ area_in storage j)
        → IsText (area_in (with_area k characters storage) j) × (length (area_in (with_area k characters storage) j) ≡ length (area_in opening j))
    by (inl e) = (subst IsText (sym e.1) text, ap length e.1 ∙ same ∙ ap (λ i. length (area_in opening i)) (sym e.0))
    by (inr e) = (subst IsText (sym e) (h j).0, ap length e ∙ (h j).1)

pub with_prefix_stored : (opening : List (List ℕ)) (storage : Storage) (item : ItemPlace) (characters : List ℕ) → IsStorage opening storage → IsPlaced opening item
    → IsText characters → length characters ≤ item.length → IsStorage opening (with_prefix item characters storage)
with_prefix_stored opening storage item characters h p text few =
    with_area_stored opening storage item.area _ h
    (IsText-with_part item.start (length characters) (area_in storage item.area) characters (h item.area).0 text)
    (length-with_part item.start (length characters) (area_in storage item.area) characters (omega (arith, (h item.area).1, p.within)) refl ∙ (h item.area).1)

-- what an item holds is a text of its length
pub held_text : (opening : List (List ℕ)) (storage : Storage) (item : ItemPlace) → IsStorage opening storage → IsText (held_by item storage)
held_text opening storage item h =
    IsText-take (item.start + item.length - item.start) (drop item.start (area_in storage item.area)) (IsText-drop item.start (area_in storage item.area) (h item.area).0)

pub held_length : (opening : List (List ℕ)) (storage : Storage) (item : ItemPlace) → IsStorage opening storage → IsPlaced opening item → length (held_by item storage) ≡ item.length
held_length opening storage item h p =
    omega (
      arith,
      (h item.area).1,
      p.within,
      length-drop item.start (area_in storage item.area),
      length-take (item.start + item.length - item.start) (drop item.start (area_in storage item.area)),
    )

-- ITEMS

pub bind_some : {A B : Type 0} (o : Option A) (f : A → Option B) (y : B) → (o >>= f) ≡ Some y → (x : A) × (o ≡ Some x) × (f x ≡ Some y)
bind_some None f y e = absurd cc
bind_some (Some x) f y e = (x, refl, e)

pub some_same : {A : Type 0} (x y : A) → Some x ≡ Some y → x ≡ y
some_same x y e = cc

some_referent : (opening : List (List ℕ)) (names : List Declared) (text : List ℕ) (r : Referent) → AllByRecursion (λ entry. IsReferentIn opening entry.1) names
    → option_map (λ entry. entry.1) (find (λ entry. bytes_eq entry.0 text) names) ≡ Some r → IsReferentIn opening r
some_referent opening [] text r h e = absurd cc
some_referent opening (entry ∷ entries) text r h e = by (bytes_eq entry.0 text) (λ e. some_referent opening entries text r h.1 e) e
  where
    by : (b : Bool) → (option_map (λ entry. entry.1) (find (λ entry. bytes_eq entry.0 text) entries) ≡ Some r → IsReferentIn opening r)
        → option_map (λ (entry : Declared). entry.1) (cond b (Some entry) (find (λ entry. bytes_eq entry.0 text) entries)) ≡ Some r → IsReferentIn opening r
    by true others e = subst (IsReferentIn opening) (some_same entry.1 r e) h.0
    by false others e = others e

-- what a name stands for is in its area
pub referent_is_sound : (layout : Layout) → IsSound layout → (name : Name) (r : Referent) → referent layout name ≡ Some r → IsReferentIn layout.opening r
referent_is_sound layout sound name r e = some_referent layout.opening layout.names name.text r sound.names e

-- an item of an identifier, beside the item of its name without a subscript
pub record Found (layout : Layout) (identifier : Identifier) (item : ItemPlace) : Type 0 where
  pub base : ItemPlace
  pub occurs : Option ℕ
  pub stands_for : referent layout identifier.name ≡ Some (data_at base occurs)
  pub size : item.length ≡ base.length
  pub placed : IsPlaced layout.opening item

one_occurrence : (opening : List (List ℕ)) (base : ItemPlace) (times n : ℕ) → IsItemIn opening base (Some times) → 1 ≤ n → n ≤ times
    → IsPlaced opening (record base { start = base.start + step * (n - 1) })
one_occurrence opening base times n lies first last =
    let all : base.start + (base.length + 13 * (times - 1)) ≤ length (area_in opening base.area) = lies.within in
    let moved : base.start + 13 * (n - 1) + base.length ≤ length (area_in opening base.area) = omega arith in
    record { some = lies.some; few = lies.few; within = moved }

in_range : (n times : ℕ) → (nat_le 1 n && nat_le n times) ≡ true → (1 ≤ n) × (n ≤ times)
in_range n times e = let h = and_parts (nat_le 1 n) (nat_le n times) e in (grind (arith, nat_tests), grind (arith, nat_tests))

pub found_item : (layout : Layout) → IsSound layout → (identifier : Identifier) (storage : Storage) (item : ItemPlace) → item_at layout identifier storage ≡ Some item → Found layout identifier item
found_item layout sound identifier storage item e = outer (bind_some (referent layout identifier.name) (item_by layout storage identifier.subscript) item e)
  where
    by_occurrence : (base : ItemPlace) (times n : ℕ) → referent layout identifier.name ≡ Some (data_at base (Some times)) → (b : Bool) → (nat_le 1 n && nat_le n times) ≡ b
        → (if b then Some (record base { start = base.start + step * (n - 1) }) else None) ≡ Some item → Found layout identifier item
    by_occurrence base times n named true range e =
        let same : (record base { start = base.start + step * (n - 1) }) ≡ item = some_same _ item e in
        let bounds = in_range n times range in
        record {
          base = base;
          occurs = Some times;
          stands_for = named;
          size = ap (λ (i : ItemPlace). i.length) (sym same);
          placed = subst (IsPlaced layout.opening) same (one_occurrence layout.opening base times n (referent_is_sound layout sound identifier.name _ named) bounds.0 bounds.1);
        }
    by_occurrence base times n named false range e = absurd cc

    inner : (base : ItemPlace) (o : Option ℕ) (s : Option Subscript) → referent layout identifier.name ≡ Some (data_at base o) → subscripted_item layout storage base o s ≡ Some item → Found layout identifier item
    inner base None None named e =
        let same = some_same base item e in
        let lies = referent_is_sound layout sound identifier.name _ named in
        record {
          base = base;
          occurs = None;
          stands_for = named;
          size = ap (λ (i : ItemPlace). i.length) (sym same);
          placed = subst (IsPlaced layout.opening) same (record { some = lies.some; few = lies.few; within = lies.within });
        }
    inner base (Some times) (Some s) named e =
        let h = bind_some (subscript_number layout s storage) (occurrence times base) item e in
        by_occurrence base times h.0 named (nat_le 1 h.0 && nat_le h.0 times) refl h.2
    inner base None (Some s) named e = absurd cc
    inner base (Some times) None named e = absurd cc

    by_kind : (r : Referent) → referent layout identifier.name ≡ Some r → item_by layout storage identifier.subscript r ≡ Some item → Found layout identifier item
    by_kind (data_at base occurs) named e = inner base occurs identifier.subscript named e
    by_kind (input_cd area) named e = absurd cc
    by_kind (output_cd area occurrences) named e = absurd cc

    outer : ((r : Referent) × (referent layout identifier.name ≡ Some r) × (item_by layout storage identifier.subscript r ≡ Some item)) → Found layout identifier item
    outer h = by_kind h.0 h.1 h.2

-- WHAT IS MOVED

IsText-zeros : (n : ℕ) → IsText (zeros n)
IsText-zeros zero = refl
IsText-zeros (suc n) = IsText-zeros n

abbrev IsTextContent : Content → Type 0
IsTextContent (a_number digits) = IsText digits
IsTextContent (a_text characters) = IsText characters
IsTextContent (a_group characters) = IsText characters
IsTextContent all_spaces = Unit {0}
IsTextContent all_zeros = Unit {0}

-- so many characters of a text
abbrev IsFilling : ℕ → List ℕ → Type 0
IsFilling width characters = IsText characters × (length characters ≡ width)

left_filling : (width : ℕ) (characters : List ℕ) → IsText characters → IsFilling width (from_left width characters)
left_filling width characters h = (
  IsText-take width _ (IsText-append characters _ h (IsText-spaces width)),
  omega (arith, length-take width (characters ++ spaces width), length-append characters (spaces width), length-replicate {A = ℕ} width 32),
)

right_filling : (width : ℕ) (digits : List ℕ) → IsText digits → IsFilling width (from_right width digits)
right_filling width digits h = (
  IsText-drop (length digits) _ (IsText-append (zeros width) digits (IsText-zeros width) h),
  omega (arith, length-drop (length digits) (zeros width ++ digits), length-append (zeros width) digits, length-replicate {A = ℕ} width 48),
)

spaces_filling : (width : ℕ) → IsFilling width (spaces width)
spaces_filling width = (IsText-spaces width, length-replicate {A = ℕ} width 32)

zeros_filling : (width : ℕ) → IsFilling width (zeros width)
zeros_filling width = (IsText-zeros width, length-replicate {A = ℕ} width 48)

digits_filling : (n width : ℕ) → IsFilling width (in_digits n width)
digits_filling n width = (IsText-in_digits n width, length-in_digits n width)

moved_filling : (content : Content) (sort : ItemSort) (width : ℕ) (out : List ℕ) → IsTextContent content → moved content sort width ≡ Some out → IsFilling width out
moved_filling (a_number digits) Numeric width out h e =
    let b = bind_some (number_in digits) (λ n. Some (in_digits n width)) out e in
    subst (IsFilling width) (some_same _ out b.2) (digits_filling b.0 width)
moved_filling (a_number digits) Alphanumeric width out h e = subst (IsFilling width) (some_same _ out e) (left_filling width digits h)
moved_filling (a_number digits) Group width out h e = subst (IsFilling width) (some_same _ out e) (left_filling width digits h)
moved_filling (a_text characters) Numeric width out h e = by (all_ascii_digits characters) e
  where
    by : (b : Bool) → (if b then Some (from_right width characters) else None) ≡ Some out → IsFilling width out
    by true e = subst (IsFilling width) (some_same _ out e) (right_filling width characters h)
    by false e = absurd cc
moved_filling (a_text characters) Alphanumeric width out h e = subst (IsFilling width) (some_same _ out e) (left_filling width characters h)
moved_filling (a_text characters) Group width out h e = subst (IsFilling width) (some_same _ out e) (left_filling width characters h)
moved_filling (a_group characters) Alphanumeric width out h e = subst (IsFilling width) (some_same _ out e) (left_filling width characters h)
moved_filling (a_group characters) Numeric width out h e = subst (IsFilling width) (some_same _ out e) (left_filling width characters h)
moved_filling (a_group characters) Group width out h e = subst (IsFilling width) (some_same _ out e) (left_filling width characters h)
moved_filling all_spaces Alphanumeric width out h e = subst (IsFilling width) (some_same _ out e) (spaces_filling width)
moved_filling all_spaces Numeric width out h e = subst (IsFilling width) (some_same _ out e) (spaces_filling width)
moved_filling all_spaces Group width out h e = subst (IsFilling width) (some_same _ out e) (spaces_filling width)
moved_filling all_zeros Alphanumeric width out h e = subst (IsFilling width) (some_same _ out e) (zeros_filling width)
moved_filling all_zeros Numeric width out h e = subst (IsFilling width) (some_same _ out e) (zeros_filling width)
moved_filling all_zeros Group width out h e = subst (IsFilling width) (some_same _ out e) (zeros_filling width)

-- the literals and numbers that are moved are texts
abbrev pub IsTextOperand : Operand → Type 0
IsTextOperand (operands.Literal literal) = IsText literal.characters
IsTextOperand (operands.Number n) = IsText n.digits
IsTextOperand _ = Unit {0}

module _ (layout : Layout) (sound : IsSound layout) where
  -- the area in which an item lies is changed by as many characters as the item has, or fewer
  pub filled_stored : (content : Content) → IsTextContent content → (targets : List Identifier) (storage after : Storage) → IsStorage layout.opening storage
      → filled layout content targets storage ≡ Some after → IsStorage layout.opening after
  filled_stored content t [] storage after h e = subst (IsStorage layout.opening) (some_same storage after e) h
  filled_stored content t (target ∷ targets) storage after h e =
      let a = bind_some (item_at layout target storage) (λ item. moved content item.sort item.length >>= λ characters. filled layout content targets (with_prefix item characters storage)) after e in
      let b = bind_some (moved content a.0.sort a.0.length) (λ characters. filled layout content targets (with_prefix a.0 characters storage)) after a.2 in
      let found = found_item layout sound target storage a.0 a.1 in
      let filling = moved_filling content a.0.sort a.0.length b.0 t b.1 in
      filled_stored content t targets (with_prefix a.0 b.0 storage) after
      (with_prefix_stored layout.opening storage a.0 b.0 h found.placed filling.0 (omega (arith, filling.1))) b.2

  content_text : (source : Operand) → IsTextOperand source → (storage : Storage) (content : Content) → IsStorage layout.opening storage → content_at layout source storage ≡ Some content → IsTextContent content
  content_text (operands.Item identifier) t storage content h e =
      let a = bind_some (item_at layout identifier storage) (λ item. Some (content_of item.sort (held_by item storage))) content e in
      subst IsTextContent (some_same _ content a.2) (by a.0.sort (held_by a.0 storage) (held_text layout.opening storage a.0 h))
    where
      by : (sort : ItemSort) (held : List ℕ) → IsText held → IsTextContent (content_of sort held)
      by Alphanumeric held h = h
      by Numeric held h = h
      by Group held h = h
  content_text (operands.Literal literal) t storage content h e = subst IsTextContent (some_same _ content e) t
  content_text (operands.Number n) t storage content h e = subst IsTextContent (some_same _ content e) t
  content_text (operands.Spaces position) t storage content h e = subst IsTextContent (some_same _ content e) tt
  content_text (operands.Zeros position) t storage content h e = subst IsTextContent (some_same _ content e) tt

  pub move_stored : (source : Operand) → IsTextOperand source → (targets : List Identifier) (storage after : Storage) → IsStorage layout.opening storage
      → move layout source targets storage ≡ Some after → IsStorage layout.opening after
  move_stored source t targets storage after h e =
      let a = bind_some (content_at layout source storage) (λ content. filled layout content targets storage) after e in
      filled_stored a.0 (content_text source t storage a.0 h a.1) targets storage after h a.2

  pub combined_stored : (together : ℕ → ℕ → ℕ) (other : Addend) (target : Identifier) (storage after : Storage) → IsStorage layout.opening storage
      → combined together layout other target storage ≡ Some after → IsStorage layout.opening after
  combined_stored together other target storage after h e =
      let a = bind_some (addend_number layout other storage) (λ n. item_at layout target storage >>= λ item. number_held item storage >>= λ m. Some (with_prefix item (in_digits (together m n) item.length) storage)) after e in
      let b = bind_some (item_at layout target storage) (λ item. number_held item storage >>= λ m. Some (with_prefix item (in_digits (together m a.0) item.length) storage)) after a.2 in
      let c = bind_some (number_held b.0 storage) (λ m. Some (with_prefix b.0 (in_digits (together m a.0) b.0.length) storage)) after b.2 in
      let found = found_item layout sound target storage b.0 b.1 in
      let filling = digits_filling (together c.0 a.0) b.0.length in
      let out : Storage = with_prefix b.0 (in_digits (together c.0 a.0) b.0.length) storage in
      subst (IsStorage layout.opening) {x = out} (some_same out after c.2)
      (with_prefix_stored layout.opening storage b.0 (in_digits (together c.0 a.0) b.0.length) h found.placed filling.0 (omega (arith, filling.1)))
