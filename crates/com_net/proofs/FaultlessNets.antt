-- The parts of a document without a fault are those of a network.
use Rattle.std.proofs.Common.{◌≡◌, ℕ, zero, suc, ◌+◌, ◌-◌, ◌<◌, ◌≤◌, nat_le, Bool, true, false, not, ◌&&◌, List, [], ◌∷◌, ◌++◌, map, length, get_or, Option, Some, None, inl, inr, refl, sym, ap, ◌∙◌, arith, if◌then◌else◌}
use Rattle.std.specs.Prelude.{codes, ◌||◌, ◌==◌, IsTrue, IfSome, option_map, option_and_then, slice_get}
use Rattle.std.specs.Option.{option_or}
use Rattle.std.specs.List.{list_all, flat_map, position, AllByRecursion}
use Rattle.std.specs.Cmp.Lexicographic.{pointwise}
use Rattle.std.specs.Str.{bytes_eq}
use mathlib.Core.Bool.{cond}
use Rattle.std.proofs.lemmas.Bool.{cases_Bool, false≢true, and_parts}
use Rattle.std.proofs.lemmas.Bool.Decides.{nat_tests}
use Rattle.std.proofs.lemmas.Option.{none-some, same_Some, slice_get_within, get_or_from_slice_get}
use Rattle.std.proofs.lemmas.List.{length-map, length-append}
use Rattle.std.proofs.lemmas.List.Folds.{list_all-append}
use Rattle.std.proofs.lemmas.List.Sums.{sum_by-append, sum_by-take-le, count_by_more_yes}
use Rattle.std.proofs.lemmas.List.Quantifiers.{position-Some}
use Rattle.toml.specs.Data.{Members}
use Rattle.com_text.specs.Name.{is_name}
use Rattle.com_tree.specs.declared.tree.TreeRow.{TreeRow}
use Rattle.com_tree.specs.declared.tree.Choose.TheVariants.{Ordered, Oldest}
use Rattle.com_tree.specs.declared.tree.Node.{Node}
use Rattle.com_tree.specs.declared.tree.Leaf.{Leaf}
use Rattle.com_tree.specs.Written.{is_leaf, leaf_count, top_count, IsWritten}
use Rattle.com_tree.specs.Places.{path_behind, paths_behind, paths, node_with, leaf_at, first_leaf}
use Rattle.com_tree.specs.Faults.{tree_fault}
use Rattle.com_tree.proofs.Building.{written_of}
use Rattle.com_net.specs.declared.keys.Section.{Section}
use Rattle.com_net.specs.declared.keys.Section.TheVariants as section
use Rattle.com_net.specs.declared.keys.Key.TheVariants as key
use Rattle.com_net.specs.declared.fault.NetKind.TheVariants as kind
use Rattle.com_net.specs.declared.net.Feed.{Feed}
use Rattle.com_net.specs.declared.net.Terminal.{Terminal}
use Rattle.com_net.specs.declared.net.UnitRow.{UnitRow}
use Rattle.com_net.specs.Network.{is_password, is_file_name, IsFedOf, IsScheduledOf, IsNet}
use Rattle.com_net.specs.Values.{has, string_at, strings_at, tables_at}
use Rattle.com_net.specs.Places.{Place, queues_from, places, below, element}
use Rattle.com_net.specs.KeyFaults.{first_of, missing_key, wrong_kind, unknown_key, bad_name, bad_password}
use Rattle.com_net.specs.NameFaults.{twice_named, is_over, over_limit}
use Rattle.com_net.specs.TreeFaults.{choose_of, row_of, rows_below_fourth, queue_rows, tree_rows, bad_tree, leaf_with, bad_route}
use Rattle.com_net.specs.Description.{told, told_tree, document_fault, framing_of, terminal_of, unit_of, leaf_flags, parts_of}
use Rattle.com_net.specs.inner.Sound.{has_path, has_input_name, has_names, has_password}
use Rattle.com_net.specs.inner.Checks.{early_fault, late_fault}
use Rattle.com_net.proofs.SoundTables.{neither, no_image, all_checked, all_passwords}
use Rattle.com_net.proofs.Outlines.{rows-append, rows_of_queues, is_outline-rows}
use Rattle.com_net.proofs.ApartNames.{apart_names}
use Rattle.com_net.proofs.PartsLists.{queues_in, all_places, all_tables_from, top_passwords}

-- faults in three groups
grouped : {T : Type 0} (a b c d e f g h i : Option T)
    → option_or a (option_or b (option_or c (option_or d (option_or e (option_or f (option_or g (option_or h i)))))))
    ≡ option_or (option_or a (option_or b (option_or c (option_or d e)))) (option_or f (option_or g (option_or h i)))
grouped (Some x) b c d e f g h i = refl
grouped None (Some x) c d e f g h i = refl
grouped None None (Some x) d e f g h i = refl
grouped None None None (Some x) e f g h i = refl
grouped None None None None e f g h i = refl

-- a document's fault is an early one, or one of the trees, or a late one
pub document_fault-parts : (document : Members)
    → document_fault document ≡ option_or (early_fault (places document)) (option_or (told_tree (places document)) (late_fault (tree_rows (places document)) (places document) document))
document_fault-parts document =
    let tables = places document in
    grouped (told kind.MissingKey (first_of missing_key tables)) (told kind.WrongKind (first_of wrong_kind tables)) (told kind.UnknownKey (first_of unknown_key tables)) (told kind.BadName (first_of bad_name tables))
    (told kind.TwiceNamed (twice_named tables)) (told_tree tables) (told kind.BadRoute (first_of (bad_route (tree_rows tables)) tables)) (told kind.BadPassword (first_of bad_password tables)) (told kind.OverLimit (over_limit document))

pub all_mapped : {A B : Type 0} (p : B → Bool) (f : A → B) (q : A → Bool) (xs : List A) → ((x : A) → q x ≡ true → p (f x) ≡ true) → list_all q xs ≡ true → list_all p (map f xs) ≡ true
all_mapped p f q [] gives all = refl
all_mapped p f q (x ∷ xs) gives all =
    let parts = and_parts (q x) (list_all q xs) all in
    rw (gives x parts.0, all_mapped p f q xs gives parts.1) refl

each_mapped : {A B : Type 0} (P : B → Type 0) (f : A → B) (q : A → Bool) (xs : List A) → ((x : A) → q x ≡ true → P (f x)) → list_all q xs ≡ true → AllByRecursion P (map f xs)
each_mapped P f q [] gives all = tt
each_mapped P f q (x ∷ xs) gives all =
    let parts = and_parts (q x) (list_all q xs) all in
    (gives x parts.0, each_mapped P f q xs gives parts.1)

-- there are as many paths as rows
many_paths : (names : List (List ℕ)) (rows : List TreeRow) → length (paths_behind names rows) ≡ length rows
many_paths names [] = refl
many_paths names (row ∷ rows) = ap suc (many_paths (path_behind names row) rows)

-- a node that is found is one of the rows
node_within : (rows : List TreeRow) (path : List (List ℕ)) (node : Node) → node_with rows path ≡ Some node → node.row < length rows
node_within rows path node is = by_place (position (λ other. pointwise bytes_eq other path) (paths rows)) refl is
  where
    by_place : (found : Option ℕ) → position (λ other. pointwise bytes_eq other path) (paths rows) ≡ found → option_map {T = ℕ} {U = Node} (λ place. record { row = place }) found ≡ Some node → node.row < length rows
    by_place None at is = absurd (none-some node is)
    by_place (Some place) at is =
        let here : record { row = place } ≡ node = same_Some _ node is in
        let row : place ≡ node.row = ap (λ (n : Node). n.row) here in
        let within = (position-Some (λ other. pointwise bytes_eq other path) (paths rows) place [] at).0 in
        omega (arith, within, row, many_paths [] rows)

-- a leaf that is found is one of the leaves
leaf_within : (rows : List TreeRow) (node : Node) (leaf : Leaf) → leaf_at rows node ≡ Some leaf → leaf.number < leaf_count rows
leaf_within rows node leaf is = by_row (slice_get rows node.row) refl is
  where
    by_row : (found : Option TreeRow) → slice_get rows node.row ≡ found
        → ◌≡◌ {A = Option Leaf} (elim found [ None ↦ None | Some row ↦ if is_leaf row then Some (record { number = first_leaf rows node }) else None ]) (Some leaf) → leaf.number < leaf_count rows
    by_row None at is = absurd (none-some leaf is)
    by_row (Some row) at is = elim (cases_Bool (is_leaf row)) [
      | inr inner ↦ absurd (none-some leaf (rw inner at is))
      | inl yes_leaf ↦
          let here = same_Some _ leaf (rw yes_leaf at is) in
          let number : first_leaf rows node ≡ leaf.number = ap (λ (l : Leaf). l.number) here in
          let within = slice_get_within rows node.row row at in
          let read : get_or rows node.row row ≡ row = get_or_from_slice_get rows node.row row row at in
          let more = count_by_more_yes is_leaf rows node.row row within (ap is_leaf read ∙ yes_leaf) in
          let less = sum_by-take-le (λ (r : TreeRow). cond (is_leaf r) 1 0) rows (node.row + 1) in
          omega (arith, number, more, less)
    ]

found_leaf_within : (rows : List TreeRow) (path : List (List ℕ)) (leaf : Leaf) → leaf_with rows path ≡ Some leaf → leaf.number < leaf_count rows
found_leaf_within rows path leaf is = by_node (node_with rows path) is
  where
    by_node : (found : Option Node) → option_and_then (leaf_at rows) found ≡ Some leaf → leaf.number < leaf_count rows
    by_node None is = absurd (none-some leaf is)
    by_node (Some node) is = leaf_within rows node leaf is

if_has : (there ok : Bool) → (not there || ok) ≡ true → there ≡ true → ok ≡ true
if_has true ok h t = h
if_has false ok h t = absurd (false≢true t)

fed : (rows : List TreeRow) (content : Members) → has_input_name content ≡ true → IsFedOf rows (terminal_of rows content)
fed rows content named = elim (cases_Bool (has key.Input content)) [
  | inr absent ↦ rw absent tt
  | inl there ↦ rw there (by_leaf (leaf_with rows (strings_at key.Route content)) refl (if_has (has key.Input content) (is_file_name (string_at key.Input content)) named there))
]
  where
    by_leaf : (found : Option Leaf) → leaf_with rows (strings_at key.Route content) ≡ found → is_file_name (string_at key.Input content) ≡ true
        → IfSome {T = Feed} (option_map {T = Leaf} {U = Feed} (λ leaf. record { file = string_at key.Input content; framing = framing_of content; leaf = leaf }) found) (λ feed. IsTrue (is_file_name feed.file) × (feed.leaf.number < leaf_count rows))
    by_leaf None at file = tt
    by_leaf (Some leaf) at file = (file, found_leaf_within rows (strings_at key.Route content) leaf at)

scheduled : (rows : List TreeRow) (content : Members) → IsScheduledOf rows (unit_of rows content)
scheduled rows content = elim (cases_Bool (has key.Schedule content)) [
  | inr absent ↦ rw absent tt
  | inl there ↦ rw there (by_node (node_with rows (strings_at key.Schedule content)) refl)
]
  where
    by_node : (found : Option Node) → node_with rows (strings_at key.Schedule content) ≡ found → IfSome found (λ node. node.row < length rows)
    by_node None at = tt
    by_node (Some node) at = node_within rows (strings_at key.Schedule content) node at

-- names of the rows
rows_named : (queues : List Place) → list_all has_names queues ≡ true → list_all (λ row. is_name row.name) (tree_rows queues) ≡ true
rows_named [] all = refl
rows_named (q ∷ queues) all =
    let parts = and_parts (has_names q) (list_all has_names queues) all in
    list_all-append (λ (row : TreeRow). is_name row.name) (queue_rows q.section q.table) (tree_rows queues) ∙ rw (own_rows q.section q.path q.table parts.0, rows_named queues parts.1) refl
  where
    fifth : (level : ℕ) (content : Members) (b : Bool) → is_name (string_at key.Name content) ≡ true → list_all (λ row. is_name row.name) (if b then row_of 5 content None ∷ [] else []) ≡ true
    fifth level content true named = rw named refl
    fifth level content false named = refl

    own_rows : (s : Section) (path : List ℕ) (content : Members) → has_names (record { section = s; path = path; table = content }) ≡ true → list_all (λ row. is_name row.name) (queue_rows s content) ≡ true
    own_rows section.Top path content named = refl
    own_rows section.Terminal path content named = refl
    own_rows (section.Queue level) path content named = rw (named, fifth level content (level == 4 && not (length (tables_at key.Children content) == 0)) named) refl
    own_rows section.Unit path content named = refl

top_count-append : (xs ys : List TreeRow) → top_count (xs ++ ys) ≡ top_count xs + top_count ys
top_count-append xs ys = sum_by-append (λ (r : TreeRow). cond (r.depth == 1) 1 0) xs ys

leaf_count-append : (xs ys : List TreeRow) → leaf_count (xs ++ ys) ≡ leaf_count xs + leaf_count ys
leaf_count-append xs ys = sum_by-append (λ (r : TreeRow). cond (is_leaf r) 1 0) xs ys

-- no row of a queue below the top is one of a tree of its own
no_top : (level : ℕ) (content : Members) → 2 ≤ level → top_count (queue_rows (section.Queue level) content) ≡ 0
no_top level content low =
    let other : (level == 1) ≡ false = grind (arith, nat_tests, low) in
    let own : top_count (row_of level content (choose_of content) ∷ []) ≡ 0 = rw other refl in
    omega (arith, top_count-append (row_of level content (choose_of content) ∷ []) (rows_below_fourth level content), own, fifth (level == 4 && not (length (tables_at key.Children content) == 0)))
  where
    fifth : (b : Bool) → top_count (if b then row_of 5 content None ∷ [] else []) ≡ 0
    fifth true = refl
    fifth false = refl

-- how many trees there are
no_tops_below : (levels number : ℕ) (path : List ℕ) (tables : List Members) → levels ≤ 3 → top_count (tree_rows (queues_from levels number path tables)) ≡ 0
no_tops_below zero number path tables low = refl
no_tops_below (suc levels) number path [] low = refl
no_tops_below (suc levels) number path (content ∷ tables) low =
    let lower = below (element path number) (codes "sub") in
    let here : Place = record { section = section.Queue (4 - levels); path = element path number; table = content } in
    let children = queues_from levels 1 lower (tables_at key.Children content) in
    let siblings = queues_from (suc levels) (number + 1) path tables in
    let parts = top_count-append (tree_rows (here ∷ children)) (tree_rows siblings) in
    let own = top_count-append (queue_rows (section.Queue (4 - levels)) content) (tree_rows children) in
    let all : top_count (tree_rows ((here ∷ children) ++ siblings)) ≡ top_count (tree_rows (here ∷ children)) + top_count (tree_rows siblings) = ap top_count (rows-append (here ∷ children) siblings) ∙ parts in
    let none = no_top (4 - levels) content (omega (arith, low)) in
    omega (arith, all, own, none, no_tops_below levels 1 lower (tables_at key.Children content) (omega (arith, low)), no_tops_below (suc levels) (number + 1) path tables low)

many_tops : (number : ℕ) (path : List ℕ) (tables : List Members) → top_count (tree_rows (queues_from 4 number path tables)) ≡ length tables
many_tops number path [] = refl
many_tops number path (content ∷ tables) =
    let lower = below (element path number) (codes "sub") in
    let here : Place = record { section = section.Queue 1; path = element path number; table = content } in
    let children = queues_from 3 1 lower (tables_at key.Children content) in
    let siblings = queues_from 4 (number + 1) path tables in
    let parts = top_count-append (tree_rows (here ∷ children)) (tree_rows siblings) in
    let own = top_count-append (row_of 1 content (choose_of content) ∷ []) (tree_rows children) in
    let all : top_count (tree_rows ((here ∷ children) ++ siblings)) ≡ top_count (tree_rows (here ∷ children)) + top_count (tree_rows siblings) = ap top_count (rows-append (here ∷ children) siblings) ∙ parts in
    let one : top_count (row_of 1 content (choose_of content) ∷ []) ≡ 1 = refl in
    omega (arith, all, own, one, no_tops_below 3 1 lower (tables_at key.Children content) (omega arith), many_tops (number + 1) path tables)

-- each queue without queues below it is a leaf
own_leaves : (s : Section) (path : List ℕ) (content : Members) → list_all (λ row. nat_le 1 row.depth && nat_le row.depth 4) (queue_rows s content) ≡ true
    → length (leaf_flags (record { section = s; path = path; table = content })) ≡ leaf_count (queue_rows s content)
own_leaves section.Top path content within = refl
own_leaves section.Terminal path content within = refl
own_leaves section.Unit path content within = refl
own_leaves (section.Queue level) path content within =
    let behind = (and_parts (nat_le 1 level && nat_le level 4) (list_all (λ row. nat_le 1 row.depth && nat_le row.depth 4) (rows_below_fourth level content)) within).1 in
    rw (no_fifth (level == 4 && not (length (tables_at key.Children content) == 0)) behind) (elim (cases_Bool (has key.Children content)) [
      | inl there ↦ rw there (sym (inner (bytes_eq (string_at key.Choose content) (codes "oldest"))))
      | inr absent ↦ rw absent refl
    ])
  where
    no_fifth : (b : Bool) → list_all (λ row. nat_le 1 row.depth && nat_le row.depth 4) (if b then row_of 5 content None ∷ [] else []) ≡ true → (if b then row_of 5 content None ∷ [] else []) ≡ []
    no_fifth true h = absurd (false≢true h)
    no_fifth false h = refl

    inner : (b : Bool) → leaf_count (row_of level content (if b then Some Oldest else Some Ordered) ∷ []) ≡ 0
    inner true = refl
    inner false = refl

many_leaves : (tables : List Place) → list_all (λ row. nat_le 1 row.depth && nat_le row.depth 4) (tree_rows tables) ≡ true → length (flat_map leaf_flags tables) ≡ leaf_count (tree_rows tables)
many_leaves [] within = refl
many_leaves (q ∷ tables) within =
    let parts = and_parts (list_all (λ row. nat_le 1 row.depth && nat_le row.depth 4) (queue_rows q.section q.table)) (list_all (λ row. nat_le 1 row.depth && nat_le row.depth 4) (tree_rows tables))
    (sym (list_all-append (λ (row : TreeRow). nat_le 1 row.depth && nat_le row.depth 4) (queue_rows q.section q.table) (tree_rows tables)) ∙ within) in
    let own = own_leaves q.section q.path q.table parts.0 in
    omega (arith, length-append (leaf_flags q) (flat_map leaf_flags tables), leaf_count-append (queue_rows q.section q.table) (tree_rows tables), own, many_leaves tables parts.1)

-- a number within its limits
within_limit : (limit number : ℕ) → is_over limit number ≡ false → (1 ≤ number) × (number ≤ limit)
within_limit limit number h =
    let both = and_parts (nat_le 1 number) (nat_le number limit) (flipped (nat_le 1 number && nat_le number limit) h) in
    (grind (arith, nat_tests, both.0), grind (arith, nat_tests, both.1))
  where
    flipped : (b : Bool) → not b ≡ false → b ≡ true
    flipped true h = refl
    flipped false h = absurd (false≢true (sym h))

-- both numbers are
numbers_of : (document : Members) → over_limit document ≡ None → (is_over 32 (length (tables_at key.Terminals document)) ≡ false) × (is_over 16 (length (tables_at key.Units document)) ≡ false)
numbers_of document none = elim (cases_Bool (is_over 32 (length (tables_at key.Terminals document)))) [
  | inl over ↦ absurd (none-some _ (sym (rw over at none)))
  | inr few ↦ elim (cases_Bool (is_over 16 (length (tables_at key.Units document)))) [
    | inl over ↦ absurd (none-some _ (sym (rw (few, over) at none)))
    | inr some ↦ (few, some)
  ]
]

-- what a document without a fault lacks
record IsFaultless (document : Members) : Type 0 where
  missing : first_of missing_key (places document) ≡ None
  wrong : first_of wrong_kind (places document) ≡ None
  names : first_of bad_name (places document) ≡ None
  twice : twice_named (places document) ≡ None
  tree : bad_tree (places document) ≡ None
  passwords : first_of bad_password (places document) ≡ None
  limits : over_limit document ≡ None

faultless : (document : Members) → document_fault document ≡ None → IsFaultless document
faultless document none =
    let one = neither (told _ (first_of missing_key (places document))) _ none in
    let two = neither (told _ (first_of wrong_kind (places document))) _ one.1 in
    let three = neither (told _ (first_of unknown_key (places document))) _ two.1 in
    let four = neither (told _ (first_of bad_name (places document))) _ three.1 in
    let five = neither (told _ (twice_named (places document))) _ four.1 in
    let six = neither (told_tree (places document)) _ five.1 in
    let seven = neither (told _ (first_of (bad_route (tree_rows (places document))) (places document))) _ six.1 in
    let eight = neither (told _ (first_of bad_password (places document))) _ seven.1 in
    record {
      missing = no_image _ _ one.0;
      wrong = no_image _ _ two.0;
      names = no_image _ _ four.0;
      twice = no_image _ _ five.0;
      tree = no_image _ _ six.0;
      passwords = no_image _ _ eight.0;
      limits = no_image _ _ eight.1;
    }

own_names : (rows : List TreeRow) (tables : List Members) → map (λ (terminal : Terminal). terminal.name) (map (terminal_of rows) tables) ≡ map (string_at key.Name) tables
own_names rows [] = refl
own_names rows (content ∷ tables) = ap (λ rest. string_at key.Name content ∷ rest) (own_names rows tables)

unit_own_names : (rows : List TreeRow) (tables : List Members) → map (λ (unit : UnitRow). unit.name) (map (unit_of rows) tables) ≡ map (string_at key.Name) tables
unit_own_names rows [] = refl
unit_own_names rows (content ∷ tables) = ap (λ rest. string_at key.Name content ∷ rest) (unit_own_names rows tables)

-- the parts of a document without a fault are those of a network
pub parts_are_net : (document : Members) → document_fault document ≡ None → IsNet (parts_of document)
parts_are_net document none =
    let h = faultless document none in
    let rows = tree_rows (places document) in
    let terminals = tables_at key.Terminals document in
    let units = tables_at key.Units document in
    let queues = tables_at key.Queues document in
    let named = all_places has_names document (all_checked (places document) h.missing h.wrong h.names) in
    let secret = all_places has_password document (all_passwords (places document) h.missing h.wrong h.names h.passwords) in
    let terminal_tables = all_tables_from has_names
    (λ content. is_name (string_at key.Name content) && (has_input_name content && has_path key.Input key.Route content)) section.Terminal 1 (codes "terminal") terminals (λ own content. refl) named.0 in
    let unit_tables = all_tables_from has_names
    (λ content. is_name (string_at key.Name content) && (is_file_name (string_at key.Source content) && has_path key.Schedule key.Schedule content)) section.Unit 1 (codes "unit") units (λ own content. refl) named.2 in
    let terminal_secrets = all_tables_from has_password (λ content. is_password (string_at key.Password content)) section.Terminal 1 (codes "terminal") terminals (λ own content. refl) secret.0 in
    let names = apart_names document h.twice in
    let numbers = numbers_of document h.limits in
    let few_terminals = within_limit 32 (length terminals) numbers.0 in
    let few_units = within_limit 16 (length units) numbers.1 in
    let all_rows = rows_of_queues document in
    let row_names : list_all (λ row. is_name row.name) rows ≡ true = rw all_rows (rows_named (queues_in document) named.1) in
    let written : IsWritten rows = written_of rows (is_outline-rows document) (no_image _ (tree_fault rows) h.tree) row_names in
    let tops : top_count rows ≡ length queues = ap top_count all_rows ∙ many_tops 1 (codes "queue") queues in
    record {
      trees = written;
      terminal_names = rw (own_names rows terminals) (all_mapped is_name (string_at key.Name) _ terminals (λ content own. (and_parts (is_name (string_at key.Name content)) _ own).0) terminal_tables);
      unit_names = rw (unit_own_names rows units) (all_mapped is_name (string_at key.Name) _ units (λ content own. (and_parts (is_name (string_at key.Name content)) _ own).0) unit_tables);
      some_terminal = omega (arith, few_terminals.0, length-map terminals (terminal_of rows));
      few_terminals = omega (arith, few_terminals.1, length-map terminals (terminal_of rows));
      some_unit = omega (arith, few_units.0, length-map units (unit_of rows));
      few_units = omega (arith, few_units.1, length-map units (unit_of rows));
      terminals_distinct = rw (own_names rows terminals) names.terminals;
      units_distinct = rw (unit_own_names rows units) names.units;
      apart = rw (own_names rows terminals, all_rows) names.tops;
      sources = all_mapped (λ unit. is_file_name unit.source) (unit_of rows) _ units
          (λ content own. (and_parts (is_file_name (string_at key.Source content)) (has_path key.Schedule key.Schedule content) (and_parts (is_name (string_at key.Name content)) _ own).1).0) unit_tables;
      terminal_passwords = all_mapped (λ terminal. is_password terminal.password) (terminal_of rows) (λ content. is_password (string_at key.Password content)) terminals (λ content own. own) terminal_secrets;
      passwords = length-map queues (string_at key.Password) ∙ sym tops;
      queue_passwords = all_mapped is_password (string_at key.Password) (λ content. is_password (string_at key.Password content)) queues (λ content own. own) (top_passwords 1 (codes "queue") queues secret.1);
      flags = many_leaves (places document) written.levels;
      feeds = each_mapped (IsFedOf rows) (terminal_of rows) _ terminals
          (λ content own. fed rows content (and_parts (has_input_name content) (has_path key.Input key.Route content) (and_parts (is_name (string_at key.Name content)) _ own).1).0) terminal_tables;
      schedules = each_mapped (IsScheduledOf rows) (unit_of rows) _ units (λ content own. scheduled rows content) unit_tables;
    }
