-- Going over a document's tables.
use Rattle.std.proofs.Common.{◌≡◌, ℕ, zero, suc, ◌+◌, ◌-◌, ◌<◌, ◌≤◌, List, [], ◌∷◌, ◌++◌, length, get_or, drop, Some, None, refl, ap, ◌∙◌, arith, append_assoc}
use Rattle.std.specs.Prelude.{codes}
use Rattle.toml.specs.declared.value.Value.{Value}
use Rattle.toml.specs.Data.{Data, string, integer, float, boolean, datetime, array, table, Items, item, Members, as_table}
use Rattle.toml.specs.View.{view, items_view}
use Rattle.com_net.specs.declared.keys.Section.TheVariants as section
use Rattle.com_net.specs.declared.keys.Key.TheVariants as key
use Rattle.com_net.specs.Values.{tables_of, tables_at}
use Rattle.com_net.specs.Places.{Place, queues_from, below, element}
use Rattle.com_net.proofs.Arrays.{next_item, past_items}

table_here : (value : Data) (items : Items) (content : Members) → as_table value ≡ Some content → tables_of (item value items) ≡ content ∷ tables_of items
table_here (string x) items content is = cc
table_here (integer x) items content is = cc
table_here (float x) items content is = cc
table_here (boolean x) items content is = cc
table_here (datetime x) items content is = cc
table_here (array x) items content is = cc
table_here (table x) items content is = let same : x ≡ content = cc in rw same refl

no_table_here : (value : Data) (items : Items) → as_table value ≡ None → tables_of (item value items) ≡ tables_of items
no_table_here (string x) items is = refl
no_table_here (integer x) items is = refl
no_table_here (float x) items is = refl
no_table_here (boolean x) items is = refl
no_table_here (datetime x) items is = refl
no_table_here (array x) items is = refl
no_table_here (table x) items is = cc

-- the tables from a place on, where one stands there
pub next_table : (values : List Value) (at : ℕ) (value : Value) (content : Members) → at < length values → value ≡ get_or values at value → as_table (view value) ≡ Some content
    → tables_of (items_view (drop at values)) ≡ content ∷ tables_of (items_view (drop (at + 1) values))
next_table values at value content within is some = ap tables_of (next_item values at value within is) ∙ table_here (view value) (items_view (drop (at + 1) values)) content some

-- and where none does
pub skip_value : (values : List Value) (at : ℕ) (value : Value) → at < length values → value ≡ get_or values at value → as_table (view value) ≡ None
    → tables_of (items_view (drop at values)) ≡ tables_of (items_view (drop (at + 1) values))
skip_value values at value within is none = ap tables_of (next_item values at value within is) ∙ no_table_here (view value) (items_view (drop (at + 1) values)) none

pub no_tables_left : (values : List Value) (at : ℕ) → length values ≤ at → tables_of (items_view (drop at values)) ≡ []
no_tables_left values at past = ap tables_of (past_items values at past)

-- queues one after another
pub next_queue : (levels number : ℕ) (path : List ℕ) (content : Members) (contents : List Members) → 1 ≤ levels
    → queues_from levels number path (content ∷ contents)
    ≡ record { section = section.Queue (4 - (levels - 1)); path = element path number; table = content }
    ∷ queues_from (levels - 1) 1 (below (element path number) (codes "sub")) (tables_at key.Children content) ++ queues_from levels (number + 1) path contents
next_queue zero number path content contents some = absurd (omega (arith, some))
next_queue (suc levels) number path content contents some =
    let same : suc levels - 1 ≡ levels = omega arith in
    rw same refl

pub no_queues : (levels number : ℕ) (path : List ℕ) → queues_from levels number path [] ≡ []
no_queues zero number path = refl
no_queues (suc levels) number path = refl

-- where a queue and those below it were added, those after it are left
pub kept_queue : (levels number : ℕ) (path own : List ℕ) (old new : List Place) (content : Members) (contents : List Members) → 1 ≤ levels → own ≡ element path number
    → new ≡ old ++ record { section = section.Queue (4 - (levels - 1)); path = own; table = content }
    ∷ queues_from (levels - 1) 1 (below own (codes "sub")) (tables_at key.Children content)
    → new ++ queues_from levels (number + 1) path contents ≡ old ++ queues_from levels number path (content ∷ contents)
kept_queue levels number path own old new content contents some at is =
    rw (next_queue levels number path content contents some, is, at)
    (append_assoc old (record { section = section.Queue (4 - (levels - 1)); path = element path number; table = content }
    ∷ queues_from (levels - 1) 1 (below (element path number) (codes "sub")) (tables_at key.Children content)) (queues_from levels (number + 1) path contents))
