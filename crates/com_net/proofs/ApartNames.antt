-- Where no name stands twice, the names of terminals and of units are distinct, and no top queue
-- has one of a terminal.
use Rattle.std.proofs.Common.{◌≡◌, ℕ, zero, suc, ◌+◌, ◌-◌, Bool, true, false, not, ◌&&◌, List, [], ◌∷◌, ◌++◌, map, length, None, inl, inr, refl, sym, ap, ◌∙◌, append_assoc, append-nil, if◌then◌else◌}
use Rattle.std.specs.Prelude.{codes, ◌||◌, ◌==◌}
use Rattle.std.specs.List.{list_all, list_any}
use Rattle.std.specs.Str.{bytes_eq}
use Rattle.std.proofs.lemmas.Bool.{cases_Bool, false≢true, and_parts}
use Rattle.std.proofs.lemmas.Option.{none-some}
use Rattle.std.proofs.lemmas.List.Folds.{list_any-append}
use Rattle.toml.specs.Data.{Members}
use Rattle.com_tree.specs.declared.tree.TreeRow.{TreeRow}
use Rattle.com_tree.specs.Written.{has_name}
use Rattle.com_net.specs.declared.keys.Section.{Section}
use Rattle.com_net.specs.declared.keys.Section.TheVariants as section
use Rattle.com_net.specs.declared.keys.Key.TheVariants as key
use Rattle.com_net.specs.Network.{are_distinct, is_no_top}
use Rattle.com_net.specs.Values.{string_at, tables_at}
use Rattle.com_net.specs.Places.{Place, places_from, queues_from, places, below, element}
use Rattle.com_net.specs.NameFaults.{is_terminal, is_unit, names_of, clashes, clash_behind, twice_named}
use Rattle.com_net.specs.TreeFaults.{choose_of, row_of, rows_below_fourth, queue_rows, tree_rows}
use Rattle.com_net.proofs.NameLists.{same_either_way}
use Rattle.com_net.proofs.NameSets.{names_of_more}
use Rattle.com_net.proofs.Outlines.{rows-append}
use Rattle.com_net.proofs.PartsLists.{top_of, terminals_in, queues_in, units_in}

-- no clash in one part after another
pub no_clash : (before xs ys : List Place) → clash_behind before (xs ++ ys) ≡ None → (clash_behind before xs ≡ None) × (clash_behind (before ++ xs) ys ≡ None)
no_clash before [] ys none = (refl, rw (append-nil before) none)
no_clash before (x ∷ xs) ys none = elim (cases_Bool (clashes x before)) [
  | inl twice ↦ absurd (none-some _ (sym (rw twice at none)))
  | inr once ↦
      let rest = no_clash (before ++ x ∷ []) xs ys (rw once at none) in
      (rw once rest.0, rw (append_assoc before (x ∷ []) xs) at rest.1)
]

-- a table that does not clash, and those after it
first_apart : (before : List Place) (x : Place) (xs : List Place) → clash_behind before (x ∷ xs) ≡ None → (clashes x before ≡ false) × (clash_behind (before ++ x ∷ []) xs ≡ None)
first_apart before x xs none = elim (cases_Bool (clashes x before)) [
  | inl twice ↦ absurd (none-some _ (sym (rw twice at none)))
  | inr once ↦ (once, rw once at none)
]

-- none of the names is among others
abbrev are_new : List (List ℕ) → List (List ℕ) → Bool
are_new known names = list_all (λ name. not (list_any (bytes_eq name) known)) names

-- names that are new after one more: new before, and other than it
apart_from : (known : List (List ℕ)) (name : List ℕ) (names : List (List ℕ)) → are_new (known ++ name ∷ []) names ≡ true → (are_new known names ≡ true) × (list_any (bytes_eq name) names ≡ false)
apart_from known name [] new = (refl, refl)
apart_from known name (next ∷ names) new =
    let parts = and_parts (not (list_any (bytes_eq next) (known ++ name ∷ []))) (are_new (known ++ name ∷ []) names) new in
    let rest = apart_from known name names parts.1 in
    let both = neither_any (list_any (bytes_eq next) known) (bytes_eq next name) (ap not (sym (list_any-append (bytes_eq next) known (name ∷ []))) ∙ parts.0) in
    (rw (both.0, rest.0) refl, rw (same_either_way name next, both.1, rest.1) refl)
  where
    neither_any : (a b : Bool) → not (a || (b || false)) ≡ true → (a ≡ false) × (b ≡ false)
    neither_any false false h = (refl, refl)
    neither_any false true h = absurd (false≢true h)
    neither_any true b h = absurd (false≢true h)

-- tables of a kind that share the names of their own kind alone
record SharesNames (s : Section) (test : Section → Bool) : Type 0 where
  own : test s ≡ true
  names : (path : List ℕ) (content : Members) (before : List Place) → clashes (record { section = s; path = path; table = content }) before ≡ list_any (bytes_eq (string_at key.Name content)) (names_of test before)

distinct_from : (s : Section) (test : Section → Bool) (before : List Place) (number : ℕ) (path : List ℕ) (tables : List Members) → SharesNames s test → clash_behind before (places_from number s path tables) ≡ None
    → (are_distinct (map (string_at key.Name) tables) ≡ true) × (are_new (names_of test before) (map (string_at key.Name) tables) ≡ true)
distinct_from s test before number path [] shares none = (refl, refl)
distinct_from s test before number path (content ∷ tables) shares none =
    let here : Place = record { section = s; path = element path number; table = content } in
    let name = string_at key.Name content in
    let names = map (string_at key.Name) tables in
    let split = first_apart before here (places_from (number + 1) s path tables) none in
    let fresh : list_any (bytes_eq name) (names_of test before) ≡ false = sym (shares.names (element path number) content before) ∙ split.0 in
    let rest = distinct_from s test (before ++ here ∷ []) (number + 1) path tables shares split.1 in
    let more : names_of test (before ++ here ∷ []) ≡ names_of test before ++ name ∷ [] = names_of_more test before here ∙ rw shares.own refl in
    let apart = apart_from (names_of test before) name names (rw more at rest.1) in
    (rw (apart.1, rest.0) refl, rw (fresh, apart.0) refl)

terminals_share : SharesNames section.Terminal is_terminal
terminals_share = record { own = refl; names = λ path content before. refl }

units_share : SharesNames section.Unit is_unit
units_share = record { own = refl; names = λ path content before. refl }

-- the names of terminals, of terminals alone
names_all : (number : ℕ) (path : List ℕ) (tables : List Members) → names_of is_terminal (places_from number section.Terminal path tables) ≡ map (string_at key.Name) tables
names_all number path [] = refl
names_all number path (content ∷ tables) = ap (λ rest. string_at key.Name content ∷ rest) (names_all (number + 1) path tables)

-- none of these names is that of a row at the top
none_named : (row : List ℕ) (names : List (List ℕ)) → list_any (bytes_eq row) names ≡ false → list_all (λ name. not (bytes_eq row name)) names ≡ true
none_named row [] none = refl
none_named row (name ∷ names) none =
    let split = neither_or (bytes_eq row name) (list_any (bytes_eq row) names) none in
    rw (split.0, none_named row names split.1) refl
  where
    neither_or : (a b : Bool) → (a || b) ≡ false → (a ≡ false) × (b ≡ false)
    neither_or false b h = (refl, h)
    neither_or true b h = absurd (false≢true (sym h))

-- no row of these at the top has one of the names
abbrev no_tops : List TreeRow → List (List ℕ) → Bool
no_tops rows names = list_all (is_no_top rows) names

no_tops-append : (xs ys : List TreeRow) (names : List (List ℕ)) → no_tops xs names ≡ true → no_tops ys names ≡ true → no_tops (xs ++ ys) names ≡ true
no_tops-append xs ys [] a b = refl
no_tops-append xs ys (name ∷ names) a b =
    let one = and_parts (is_no_top xs name) (no_tops xs names) a in
    let two = and_parts (is_no_top ys name) (no_tops ys names) b in
    rw (ap not (list_any-append (has_name 1 name) xs ys), nor (list_any (has_name 1 name) xs) (list_any (has_name 1 name) ys) one.0 two.0, no_tops-append xs ys names one.1 two.1) refl
  where
    nor : (a b : Bool) → not a ≡ true → not b ≡ true → not (a || b) ≡ true
    nor false false h g = refl
    nor false true h g = absurd (false≢true g)
    nor true b h g = absurd (false≢true h)

all_true : (names : List (List ℕ)) → list_all (λ name. true) names ≡ true
all_true [] = refl
all_true (name ∷ names) = all_true names

-- the rows of one queue
no_tops-below : (level : ℕ) (content : Members) (names : List (List ℕ)) → no_tops (rows_below_fourth level content) names ≡ true
no_tops-below level content names = by_case (level == 4 && not (length (tables_at key.Children content) == 0))
  where
    by_case : (b : Bool) → no_tops (if b then row_of 5 content None ∷ [] else []) names ≡ true
    by_case true = all_true names
    by_case false = all_true names

flip : (b : Bool) → not b ≡ true → b ≡ false
flip false h = refl
flip true h = absurd (false≢true h)

own_top : (level : ℕ) (content : Members) (names : List (List ℕ)) → list_any (bytes_eq (string_at key.Name content)) (if level == 1 then names else []) ≡ false → no_tops (row_of level content (choose_of content) ∷ []) names ≡ true
own_top level content names none = elim (cases_Bool (level == 1)) [
  | inl top ↦ same_tests top names (none_named (string_at key.Name content) names (rw top at none))
  | inr below ↦ no_tests below names
]
  where
    same_tests : (level == 1) ≡ true → (ns : List (List ℕ)) → list_all (λ name. not (bytes_eq (string_at key.Name content) name)) ns ≡ true → no_tops (row_of level content (choose_of content) ∷ []) ns ≡ true
    same_tests top [] all = refl
    same_tests top (name ∷ ns) all =
        let parts = and_parts (not (bytes_eq (string_at key.Name content) name)) (list_all (λ n. not (bytes_eq (string_at key.Name content) n)) ns) all in
        let own : bytes_eq (string_at key.Name content) name ≡ false = flip (bytes_eq (string_at key.Name content) name) parts.0 in
        rw (top, own) (same_tests top ns parts.1)

    no_tests : (level == 1) ≡ false → (ns : List (List ℕ)) → no_tops (row_of level content (choose_of content) ∷ []) ns ≡ true
    no_tests below [] = refl
    no_tests below (name ∷ ns) = rw below (no_tests below ns)

-- the names of terminals stay as they are after queues
names_kept : (before : List Place) (level : ℕ) (path : List ℕ) (content : Members) → names_of is_terminal (before ++ record { section = section.Queue level; path = path; table = content } ∷ []) ≡ names_of is_terminal before
names_kept before level path content = names_of_more is_terminal before (record { section = section.Queue level; path = path; table = content }) ∙ append-nil (names_of is_terminal before)

-- no row of these queues at the top has the name of a terminal before them
record IsApart (before : List Place) (queues : List Place) : Type 0 where
  rows : no_tops (tree_rows queues) (names_of is_terminal before) ≡ true
  kept : names_of is_terminal (before ++ queues) ≡ names_of is_terminal before

no_queues_apart : (before : List Place) → IsApart before []
no_queues_apart before = record { rows = all_true (names_of is_terminal before); kept = ap (names_of is_terminal) (append-nil before) }

apart_queues : (before : List Place) (levels number : ℕ) (path : List ℕ) (tables : List Members) → clash_behind before (queues_from levels number path tables) ≡ None → IsApart before (queues_from levels number path tables)
apart_queues before zero number path tables none = no_queues_apart before
apart_queues before (suc levels) number path [] none = no_queues_apart before
apart_queues before (suc levels) number path (content ∷ tables) none =
    let lower = below (element path number) (codes "sub") in
    let level = 4 - levels in
    let here : Place = record { section = section.Queue level; path = element path number; table = content } in
    let children = queues_from levels 1 lower (tables_at key.Children content) in
    let siblings = queues_from (suc levels) (number + 1) path tables in
    let parts = no_clash before (here ∷ children) siblings none in
    let own = first_apart before here children parts.0 in
    let one = before ++ here ∷ [] in
    let names = names_of is_terminal before in
    let kept_here : names_of is_terminal one ≡ names = names_kept before level (element path number) content in
    let inside = apart_queues one levels 1 lower (tables_at key.Children content) own.1 in
    let after : before ++ (here ∷ children) ≡ one ++ children = sym (append_assoc before (here ∷ []) children) in
    let kept_children : names_of is_terminal (before ++ (here ∷ children)) ≡ names = ap (names_of is_terminal) after ∙ (inside.kept ∙ kept_here) in
    let behind = apart_queues (before ++ (here ∷ children)) (suc levels) (number + 1) path tables parts.1 in
    let own_row = own_top level content names own.0 in
    let own_rows = no_tops-append (row_of level content (choose_of content) ∷ []) (rows_below_fourth level content) names own_row (no_tops-below level content names) in
    let first = no_tops-append (queue_rows (section.Queue level) content) (tree_rows children) names own_rows (rw kept_here at inside.rows) in
    let all = no_tops-append (tree_rows (here ∷ children)) (tree_rows siblings) names first (rw kept_children at behind.rows) in
    record {
      rows = rw (rows-append (here ∷ children) siblings) all;
      kept = ap (names_of is_terminal) (sym (append_assoc before (here ∷ children) siblings)) ∙ (behind.kept ∙ kept_children);
    }

-- what follows from no name that stands twice
pub record HasApartNames (document : Members) : Type 0 where
  pub terminals : are_distinct (map (string_at key.Name) (tables_at key.Terminals document)) ≡ true
  pub units : are_distinct (map (string_at key.Name) (tables_at key.Units document)) ≡ true
  pub tops : list_all (is_no_top (tree_rows (queues_in document))) (map (string_at key.Name) (tables_at key.Terminals document)) ≡ true

pub apart_names : (document : Members) → twice_named (places document) ≡ None → HasApartNames document
apart_names document none =
    let top = top_of document in
    let one = no_clash [] ((top ∷ terminals_in document) ++ queues_in document) (units_in document) none in
    let two = no_clash [] (top ∷ terminals_in document) (queues_in document) one.0 in
    let three = no_clash [] (top ∷ []) (terminals_in document) two.0 in
    let queues = apart_queues (top ∷ terminals_in document) 4 1 (codes "queue") (tables_at key.Queues document) two.1 in
    let names = names_all 1 (codes "terminal") (tables_at key.Terminals document) in
    record {
      terminals = (distinct_from section.Terminal is_terminal (top ∷ []) 1 (codes "terminal") (tables_at key.Terminals document) terminals_share three.1).0;
      units = (distinct_from section.Unit is_unit ((top ∷ terminals_in document) ++ queues_in document) 1 (codes "unit") (tables_at key.Units document) units_share one.1).0;
      tops = rw names at queues.rows;
    }
