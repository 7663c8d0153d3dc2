-- The names of divisions as they are kept.
use Rattle.std.proofs.Common.{◌≡◌, ℕ, suc, ◌+◌, ◌-◌, ◌≤◌, Bool, true, false, cond, List, [], ◌∷◌, ◌++◌, map, Option, Some, None, refl, sym, ap, ◌∙◌, arith}
use Rattle.std.specs.Prelude.{flat_map, zip, find, option_map, slice_get, bytes_eq}
use Rattle.std.specs.List.{position_from}
use Rattle.std.proofs.lemmas.List.{map-append}
use Rattle.cob_forms.specs.declared.written.Name.{Name}
use Rattle.cob_data.specs.Layout as layout
use Rattle.cob_data.specs.Layout.{declared}
use Rattle.cob_data.specs.declared.tree.CdBody.{CdBody}
use Rattle.cob_data.specs.declared.tree.CdBody.TheVariants as bodies
use Rattle.cob_data.specs.declared.tree.CdEntry.{CdEntry}
use Rattle.cob_data.specs.declared.tree.DataDivision.{DataDivision}
use Rattle.cob_data.specs.declared.tree.InputClause.{InputClause}
use Rattle.com_cd.specs.declared.input_area.InField.{InField}
use Rattle.cob_data.specs.declared.tree.Item.{Item as DataItem}
use Rattle.cob_data.specs.declared.tree.ItemPlace.{ItemPlace}
use Rattle.cob_data.specs.declared.tree.OutputClause.{OutputClause}
use Rattle.cob_data.specs.declared.tree.OutputClause.TheVariants as clauses
use Rattle.cob_meaning.specs.Layouts.{Layout, referent}
use Rattle.cob_meaning.specs.Sources.{layout_of}
use Rattle.cob_code.specs.declared.names.Entry.{Entry}
use Rattle.cob_code.specs.declared.referent.Referent.{Referent}
use Rattle.cob_code.specs.declared.referent.Referent.TheVariants.{Item}
use Rattle.cob_code.specs.inner.Numbers.{number_in}
use Rattle.cob_code.specs.inner.Referents.{body_entries, cd_entries, cd_referent, division_entries, input_entries, item_entries, listed, looked_at, named, names_entries, output_entries, output_entry, input_item, seen}

one_name : (name : Option Name) (place : ItemPlace) (occurs : Option ℕ) → looked_at (layout.for_data name place occurs) ≡ named name (record { length = place.length; sort = place.sort; occurs = occurs })
one_name None place occurs = refl
one_name (Some name) place occurs = refl

two : (a b : List layout.Declared) (x y : List (List ℕ × Referent)) → looked_at a ≡ x → looked_at b ≡ y → looked_at (a ++ b) ≡ x ++ y
two a b x y e f = map-append _ a b ∙ ap (λ l. l ++ looked_at b) e ∙ ap (λ l. x ++ l) f

items : (list : List DataItem) → looked_at (layout.item_names list) ≡ item_entries list
items [] = refl
items (item ∷ list) = two (layout.for_data item.name item.place None) (layout.item_names list) _ _ (one_name item.name item.place None) (items list)

inputs : (area : ℕ) (list : List InputClause) → looked_at (flat_map (λ clause. layout.for_data (Some clause.name) (layout.input_place area clause.field) None) list) ≡ input_entries list
inputs area [] = refl
inputs area (clause ∷ list) = ap (λ l. (clause.name.text, Item (input_item clause.field)) ∷ l) (inputs area list)

in_order : (area : ℕ) (names : List (Option Name)) (fields : List InField) → looked_at (flat_map (λ pair. layout.for_data pair.0 (layout.input_place area pair.1) None) (zip names fields)) ≡ names_entries names fields
in_order area [] fields = refl
in_order area (name ∷ names) [] = refl
in_order area (name ∷ names) (field ∷ fields) =
    two (layout.for_data name (layout.input_place area field) None) _ _ _ (one_name name (layout.input_place area field) None) (in_order area names fields)

output : (area : ℕ) (occurs : Option ℕ) (clause : OutputClause) → looked_at (layout.output_name area occurs clause) ≡ output_entry occurs clause
output area occurs (clauses.Field position field name) = refl
output area occurs (clauses.Table position number) = refl

outputs : (area : ℕ) (occurs : Option ℕ) (list : List OutputClause) → looked_at (flat_map (layout.output_name area occurs) list) ≡ output_entries occurs list
outputs area occurs [] = refl
outputs area occurs (clause ∷ list) = two (layout.output_name area occurs clause) _ _ _ (output area occurs clause) (outputs area occurs list)

body : (area : ℕ) (b : CdBody) → looked_at (layout.body_names area b) ≡ body_entries b
body area (bodies.Input initial list) = inputs area list
body area (bodies.InputNames initial names) = in_order area names layout.input_fields
body area (bodies.Output list) = outputs area (layout.table_of list) list

of_cd : (area : ℕ) (b : CdBody) → seen (layout.cd_referent area b) ≡ cd_referent b
of_cd area (bodies.Input initial list) = refl
of_cd area (bodies.InputNames initial names) = refl
of_cd area (bodies.Output list) = refl

cd : (entry : CdEntry) → looked_at (layout.cd_names entry) ≡ cd_entries entry
cd entry =
    two ((entry.name.text, layout.cd_referent entry.area entry.body) ∷ layout.body_names entry.area entry.body) (layout.item_names entry.records) _ _
    (ap (λ r. (entry.name.text, r) ∷ looked_at (layout.body_names entry.area entry.body)) (of_cd entry.area entry.body) ∙ ap (λ l. (entry.name.text, cd_referent entry.body) ∷ l) (body entry.area entry.body))
    (items entry.records)

cds : (list : List CdEntry) → looked_at (flat_map layout.cd_names list) ≡ flat_map cd_entries list
cds [] = refl
cds (entry ∷ list) = two (layout.cd_names entry) _ _ _ (cd entry) (cds list)

pub division : (d : DataDivision) → looked_at (declared d) ≡ division_entries d
division d = two (layout.item_names d.working_storage) (flat_map layout.cd_names d.communication) _ _ (items d.working_storage) (cds d.communication)

-- A NAME AMONG THEM

found_behind : (e : List ℕ × Referent) (es : List (List ℕ × Referent)) (text : List ℕ) (i n : ℕ) (b : Bool) → bytes_eq e.0 text ≡ b
    → (position_from (λ t. bytes_eq t text) (i + 1) (map (λ x. x.0) es) ≡ Some n → (i + 1 ≤ n) × (slice_get es (n - (i + 1)) ≡ find (λ x. bytes_eq x.0 text) es))
    → cond b (Some i) (position_from (λ t. bytes_eq t text) (i + 1) (map (λ x. x.0) es)) ≡ Some n → (i ≤ n) × (slice_get (e ∷ es) (n - i) ≡ cond b (Some e) (find (λ x. bytes_eq x.0 text) es))
found_behind e es text i n true h others at =
    let same : i ≡ n = cc in
    let none : n - i ≡ 0 = omega (arith, same) in
    (omega (arith, same), ap (slice_get (e ∷ es)) none)
found_behind e es text i n false h others at =
    let found = others at in
    let next : n - i ≡ suc (n - (i + 1)) = omega (arith, found.0) in
    (omega (arith, found.0), ap (slice_get (e ∷ es)) next ∙ found.1)

found : (es : List (List ℕ × Referent)) (text : List ℕ) (i n : ℕ) → position_from (λ t. bytes_eq t text) i (map (λ x. x.0) es) ≡ Some n → (i ≤ n) × (slice_get es (n - i) ≡ find (λ x. bytes_eq x.0 text) es)
found [] text i n at = cc
found (e ∷ es) text i n at = found_behind e es text i n (bytes_eq e.0 text) refl (found es text (i + 1) n) at

not_found : (es : List (List ℕ × Referent)) (text : List ℕ) (i : ℕ) → position_from (λ t. bytes_eq t text) i (map (λ x. x.0) es) ≡ None → find (λ x. bytes_eq x.0 text) es ≡ None
not_found [] text i at = refl
not_found (e ∷ es) text i at = by (bytes_eq e.0 text) at (not_found es text (i + 1))
  where
    by : (b : Bool) → cond b (Some i) (position_from (λ t. bytes_eq t text) (i + 1) (map (λ x. x.0) es)) ≡ None
        → (position_from (λ t. bytes_eq t text) (i + 1) (map (λ x. x.0) es) ≡ None → find (λ x. bytes_eq x.0 text) es ≡ None) → cond b (Some e) (find (λ x. bytes_eq x.0 text) es) ≡ None
    by true h others = cc
    by false h others = others h

seen_found : (text : List ℕ) (list : List layout.Declared) → option_map (λ x. x.1) (find (λ x. bytes_eq x.0 text) (looked_at list)) ≡ option_map seen (option_map (λ x. x.1) (find (λ x. bytes_eq x.0 text) list))
seen_found text [] = refl
seen_found text (e ∷ list) = by (bytes_eq e.0 text) (seen_found text list)
  where
    by : (b : Bool) → option_map (λ x. x.1) (find (λ x. bytes_eq x.0 text) (looked_at list)) ≡ option_map seen (option_map (λ x. x.1) (find (λ x. bytes_eq x.0 text) list))
        → option_map (λ x. x.1) (cond b (Some (e.0, seen e.1)) (find (λ x. bytes_eq x.0 text) (looked_at list))) ≡ option_map seen (option_map (λ x. x.1) (cond b (Some e) (find (λ x. bytes_eq x.0 text) list)))
    by true h = refl
    by false h = h

pub has_referent : (d : DataDivision) (es : List (List ℕ × Referent)) (text : List ℕ) (n : ℕ) → es ≡ division_entries d → position_from (λ t. bytes_eq t text) 0 (map (λ x. x.0) es) ≡ Some n
    → option_map (λ x. x.1) (slice_get es n) ≡ option_map seen (option_map (λ x. x.1) (find (λ x. bytes_eq x.0 text) (declared d)))
has_referent d es text n e at =
    let whole : n ≡ n - 0 = omega arith in
    ap (λ k. option_map (λ x. x.1) (slice_get es k)) whole ∙ ap (option_map (λ x. x.1)) ((found es text 0 n at).1 ∙ ap (find (λ x. bytes_eq x.0 text)) (e ∙ sym (division d))) ∙ seen_found text (declared d)

pub has_none : (d : DataDivision) (es : List (List ℕ × Referent)) (text : List ℕ) → es ≡ division_entries d → position_from (λ t. bytes_eq t text) 0 (map (λ x. x.0) es) ≡ None
    → None ≡ option_map seen (option_map (λ x. x.1) (find (λ x. bytes_eq x.0 text) (declared d)))
has_none d es text e at =
    ap (option_map (λ x. x.1)) (sym (not_found es text 0 at) ∙ ap (find (λ x. bytes_eq x.0 text)) (e ∙ sym (division d))) ∙ seen_found text (declared d)

-- THE NAMES AS THEY ARE KEPT

same_texts : (entries : List Entry) → map (λ x. x.0) (listed entries) ≡ map (λ entry. entry.name.now) entries
same_texts [] = refl
same_texts (e ∷ es) = ap (λ l. e.name.now ∷ l) (same_texts es)

module _ (d : DataDivision) (entries : List Entry) (layout : Layout) (name : Name) (written : List ℕ) (view : layout_of d ≡ layout) (all : listed entries ≡ division_entries d) (same : written ≡ name.text) where
  numbered : number_in (map (λ x. x.0) (listed entries)) name.text ≡ number_in (map (λ entry. entry.name.now) entries) written
  numbered = ap (λ l. number_in l name.text) (same_texts entries) ∙ ap (number_in (map (λ entry. entry.name.now) entries)) (sym same)

  pub is_there : (n : ℕ) → number_in (map (λ entry. entry.name.now) entries) written ≡ Some n → option_map (λ x. x.1) (slice_get (listed entries) n) ≡ option_map seen (referent layout name)
  is_there n at = has_referent d (listed entries) name.text n all (numbered ∙ at) ∙ ap (λ l. option_map seen (referent l name)) view

  pub is_nowhere : number_in (map (λ entry. entry.name.now) entries) written ≡ None → None ≡ option_map seen (referent layout name)
  is_nowhere at = has_none d (listed entries) name.text all (numbered ∙ at) ∙ ap (λ l. option_map seen (referent l name)) view
