-- The arrays of a document, as the code goes over them.
use Rattle.std.proofs.Common.{◌≡◌, ℕ, zero, suc, arith, ◌+◌, ◌<◌, ◌≤◌, true, ◌&&◌, List, [], ◌∷◌, length, get_or, drop, refl, sym, ap, ◌∙◌, is_some}
use Rattle.std.specs.List.{list_all}
use Rattle.std.proofs.lemmas.Bool.{and_parts}
use Rattle.std.proofs.lemmas.List.{drop_all, drop_more}
use Rattle.toml.specs.declared.value.Value.{Value}
use Rattle.toml.specs.Data.{Data, string, integer, float, boolean, datetime, array, table, Items, no_items, item, as_table, as_str}
use Rattle.toml.specs.View.{view, items_view}
use Rattle.com_text.specs.Name.{is_name}
use Rattle.com_net.specs.inner.Seen.{texts_in}
use Rattle.com_net.specs.Values.{are_tables, tables_of, text_in, are_strings, strings_of}

pub are_tables-item : (value : Data) (items : Items) → are_tables (item value items) ≡ (is_some (as_table value) && are_tables items)
are_tables-item (string x) items = refl
are_tables-item (integer x) items = refl
are_tables-item (float x) items = refl
are_tables-item (boolean x) items = refl
are_tables-item (datetime x) items = refl
are_tables-item (array x) items = refl
are_tables-item (table x) items = refl

pub are_strings-item : (value : Data) (items : Items) → are_strings (item value items) ≡ (is_some (as_str value) && are_strings items)
are_strings-item (string x) items = refl
are_strings-item (integer x) items = refl
are_strings-item (float x) items = refl
are_strings-item (boolean x) items = refl
are_strings-item (datetime x) items = refl
are_strings-item (array x) items = refl
are_strings-item (table x) items = refl

-- an element and those after it
pub next_item : (values : List Value) (at : ℕ) (value : Value) → at < length values → value ≡ get_or values at value
    → items_view (drop at values) ≡ item (view value) (items_view (drop (at + 1) values))
next_item values at value within is = ap items_view (drop_more values at value within) ∙ ap (λ v. item (view v) (items_view (drop (at + 1) values))) (sym is)

pub past_items : (values : List Value) (at : ℕ) → length values ≤ at → items_view (drop at values) ≡ no_items
past_items values at past = ap items_view (drop_all at values past)

-- a test of each element
pub all_tables : (values : List Value) → are_tables (items_view values) ≡ list_all (λ value. is_some (as_table (view value))) values
all_tables [] = refl
all_tables (value ∷ values) = are_tables-item (view value) (items_view values) ∙ ap (λ rest. is_some (as_table (view value)) && rest) (all_tables values)

pub all_strings : (values : List Value) → are_strings (items_view values) ≡ list_all (λ value. is_some (as_str (view value))) values
all_strings [] = refl
all_strings (value ∷ values) = are_strings-item (view value) (items_view values) ∙ ap (λ rest. is_some (as_str (view value)) && rest) (all_strings values)

-- an array of strings has as many strings as elements
pub as_many_strings : (values : List Value) → are_strings (items_view values) ≡ true → length (strings_of (items_view values)) ≡ length values
as_many_strings [] h = refl
as_many_strings (value ∷ values) h =
    let parts = and_parts (is_some (as_str (view value))) (are_strings (items_view values)) (sym (are_strings-item (view value) (items_view values)) ∙ h) in
    one_more (view value) parts.0 (as_many_strings values parts.1)
  where
    one_more : (one : Data) → is_some (as_str one) ≡ true → length (strings_of (items_view values)) ≡ length values → length (strings_of (item one (items_view values))) ≡ length (value ∷ values)
    one_more (string text) some rest = rw rest
    one_more (integer x) some rest = cc
    one_more (float x) some rest = cc
    one_more (boolean x) some rest = cc
    one_more (datetime x) some rest = cc
    one_more (array x) some rest = cc
    one_more (table x) some rest = cc

-- an array of tables has as many tables as elements
pub as_many_tables : (values : List Value) → are_tables (items_view values) ≡ true → length (tables_of (items_view values)) ≡ length values
as_many_tables [] h = refl
as_many_tables (value ∷ values) h =
    let parts = and_parts (is_some (as_table (view value))) (are_tables (items_view values)) (sym (are_tables-item (view value) (items_view values)) ∙ h) in
    one_more (view value) parts.0 (as_many_tables values parts.1)
  where
    one_more : (one : Data) → is_some (as_table one) ≡ true → length (tables_of (items_view values)) ≡ length values → length (tables_of (item one (items_view values))) ≡ length (value ∷ values)
    one_more (table content) some rest = rw rest
    one_more (string x) some rest = cc
    one_more (integer x) some rest = cc
    one_more (float x) some rest = cc
    one_more (boolean x) some rest = cc
    one_more (datetime x) some rest = cc
    one_more (array x) some rest = cc

-- the strings of an array of strings
pub own_texts : (values : List Value) → are_strings (items_view values) ≡ true → texts_in values ≡ strings_of (items_view values)
own_texts [] h = refl
own_texts (value ∷ values) h =
    let parts = and_parts (is_some (as_str (view value))) (are_strings (items_view values)) (sym (are_strings-item (view value) (items_view values)) ∙ h) in
    one_more (view value) parts.0 (own_texts values parts.1)
  where
    one_more : (one : Data) → is_some (as_str one) ≡ true → texts_in values ≡ strings_of (items_view values) → text_in one ∷ texts_in values ≡ strings_of (item one (items_view values))
    one_more (string text) some rest = ap (λ texts. text ∷ texts) rest
    one_more (integer x) some rest = cc
    one_more (float x) some rest = cc
    one_more (boolean x) some rest = cc
    one_more (datetime x) some rest = cc
    one_more (array x) some rest = cc
    one_more (table x) some rest = cc

-- each of some names is one
pub named_at : (values : List Value) (at : ℕ) (d : Value) → at < length values → list_all is_name (texts_in values) ≡ true → is_name (text_in (view (get_or values at d))) ≡ true
named_at [] at d within all = absurd (omega (arith, within))
named_at (value ∷ values) zero d within all = (and_parts (is_name (text_in (view value))) (list_all is_name (texts_in values)) all).0
named_at (value ∷ values) (suc at) d within all = named_at values at d (omega (arith, within)) (and_parts (is_name (text_in (view value))) (list_all is_name (texts_in values)) all).1
