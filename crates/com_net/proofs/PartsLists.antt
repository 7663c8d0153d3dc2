-- The lists over all tables of a document are those over the tables of each kind.
use Rattle.std.proofs.Common.{◌≡◌, ℕ, zero, suc, ◌+◌, ◌-◌, ◌≤◌, Bool, true, false, List, [], ◌∷◌, ◌++◌, map, refl, sym, ap, ◌∙◌, arith, append-nil}
use Rattle.std.specs.Prelude.{codes, ◌==◌}
use Rattle.std.specs.List.{flat_map, list_all}
use Rattle.std.proofs.lemmas.Bool.{and_parts}
use Rattle.std.proofs.lemmas.Bool.Decides.{nat_tests}
use Rattle.std.proofs.lemmas.Grind.{flat_map-append}
use Rattle.std.proofs.lemmas.List.Folds.{list_all-append}
use Rattle.toml.specs.Data.{Members}
use Rattle.com_tree.specs.declared.tree.TreeRow.{TreeRow}
use Rattle.com_net.specs.declared.keys.Section.{Section}
use Rattle.com_net.specs.declared.keys.Section.TheVariants as section
use Rattle.com_net.specs.declared.keys.Key.TheVariants as key
use Rattle.com_net.specs.Network.{is_password}
use Rattle.com_net.specs.Values.{string_at, tables_at}
use Rattle.com_net.specs.Places.{Place, places_from, queues_from, places, below, element}
use Rattle.com_net.specs.TreeFaults.{tree_rows}
use Rattle.com_net.specs.Description.{terminal_of, unit_of, parts_of}
use Rattle.com_net.specs.inner.Sound.{has_password}
use Rattle.com_net.specs.inner.Lists.{terminals_of, passwords_of, units_of, parts_from}

-- the tables of a document in four parts
abbrev pub top_of : Members → Place
top_of document = record { section = section.Top; path = []; table = document }

abbrev pub terminals_in : Members → List Place
terminals_in document = places_from 1 section.Terminal (codes "terminal") (tables_at key.Terminals document)

abbrev pub queues_in : Members → List Place
queues_in document = queues_from 4 1 (codes "queue") (tables_at key.Queues document)

abbrev pub units_in : Members → List Place
units_in document = places_from 1 section.Unit (codes "unit") (tables_at key.Units document)

pub flat_places : {A : Type 0} (f : Place → List A) (document : Members) → flat_map f (places document) ≡ ((f (top_of document) ++ flat_map f (terminals_in document)) ++ flat_map f (queues_in document)) ++ flat_map f (units_in document)
flat_places f document =
    flat_map-append f ((top_of document ∷ terminals_in document) ++ queues_in document) (units_in document)
    ∙ ap (λ front. front ++ flat_map f (units_in document)) (flat_map-append f (top_of document ∷ terminals_in document) (queues_in document))

pub one_each : {A : Type 0} (f : Place → List A) (g : Members → A) (s : Section) (number : ℕ) (path : List ℕ) (tables : List Members)
    → ((own : List ℕ) (content : Members) → f (record { section = s; path = own; table = content }) ≡ g content ∷ []) → flat_map f (places_from number s path tables) ≡ map g tables
one_each f g s number path [] one = refl
one_each f g s number path (content ∷ tables) one = rw (one (element path number) content, one_each f g s (number + 1) path tables one) refl

pub none_each : {A : Type 0} (f : Place → List A) (s : Section) (number : ℕ) (path : List ℕ) (tables : List Members)
    → ((own : List ℕ) (content : Members) → f (record { section = s; path = own; table = content }) ≡ []) → flat_map f (places_from number s path tables) ≡ []
none_each f s number path [] none = refl
none_each f s number path (content ∷ tables) none = rw (none (element path number) content) (none_each f s (number + 1) path tables none)

pub no_queue : {A : Type 0} (f : Place → List A) (levels number : ℕ) (path : List ℕ) (tables : List Members)
    → ((level : ℕ) (own : List ℕ) (content : Members) → f (record { section = section.Queue level; path = own; table = content }) ≡ []) → flat_map f (queues_from levels number path tables) ≡ []
no_queue f zero number path tables none = refl
no_queue f (suc levels) number path [] none = refl
no_queue f (suc levels) number path (content ∷ tables) none =
    let lower = below (element path number) (codes "sub") in
    rw (
      flat_map-append f (record { section = section.Queue (4 - levels); path = element path number; table = content } ∷ queues_from levels 1 lower (tables_at key.Children content)) (queues_from (suc levels) (number + 1) path tables),
      none (4 - levels) (element path number) content,
      no_queue f levels 1 lower (tables_at key.Children content) none,
    )
    (no_queue f (suc levels) (number + 1) path tables none)

-- below the top no queue has a password
no_password : (levels number : ℕ) (path : List ℕ) (tables : List Members) → levels ≤ 3 → flat_map passwords_of (queues_from levels number path tables) ≡ []
no_password zero number path tables low = refl
no_password (suc levels) number path [] low = refl
no_password (suc levels) number path (content ∷ tables) low =
    let lower = below (element path number) (codes "sub") in
    let other : (4 - levels == 1) ≡ false = grind (arith, nat_tests, low) in
    rw (
      flat_map-append passwords_of (record { section = section.Queue (4 - levels); path = element path number; table = content } ∷ queues_from levels 1 lower (tables_at key.Children content)) (queues_from (suc levels) (number + 1) path tables),
      other,
      no_password levels 1 lower (tables_at key.Children content) (omega (arith, low)),
    )
    (no_password (suc levels) (number + 1) path tables low)

pub passwords_at_top : (number : ℕ) (path : List ℕ) (tables : List Members) → flat_map passwords_of (queues_from 4 number path tables) ≡ map (string_at key.Password) tables
passwords_at_top number path [] = refl
passwords_at_top number path (content ∷ tables) =
    let lower = below (element path number) (codes "sub") in
    rw (
      flat_map-append passwords_of (record { section = section.Queue 1; path = element path number; table = content } ∷ queues_from 3 1 lower (tables_at key.Children content)) (queues_from 4 (number + 1) path tables),
      no_password 3 1 lower (tables_at key.Children content) (omega arith),
    )
    (ap (λ rest. string_at key.Password content ∷ rest) (passwords_at_top (number + 1) path tables))

terminals_all : (rows : List TreeRow) (document : Members) → flat_map (terminals_of rows) (places document) ≡ map (terminal_of rows) (tables_at key.Terminals document)
terminals_all rows document =
    flat_places (terminals_of rows) document
    ∙ rw (
      one_each (terminals_of rows) (terminal_of rows) section.Terminal 1 (codes "terminal") (tables_at key.Terminals document) (λ own content. refl),
      no_queue (terminals_of rows) 4 1 (codes "queue") (tables_at key.Queues document) (λ level own content. refl),
      none_each (terminals_of rows) section.Unit 1 (codes "unit") (tables_at key.Units document) (λ own content. refl),
      append-nil (map (terminal_of rows) (tables_at key.Terminals document)),
    ) (append-nil (map (terminal_of rows) (tables_at key.Terminals document)))

passwords_all : (document : Members) → flat_map passwords_of (places document) ≡ map (string_at key.Password) (tables_at key.Queues document)
passwords_all document =
    flat_places passwords_of document
    ∙ rw (
      none_each passwords_of section.Terminal 1 (codes "terminal") (tables_at key.Terminals document) (λ own content. refl),
      passwords_at_top 1 (codes "queue") (tables_at key.Queues document),
      none_each passwords_of section.Unit 1 (codes "unit") (tables_at key.Units document) (λ own content. refl),
    ) (append-nil (map (string_at key.Password) (tables_at key.Queues document)))

units_all : (rows : List TreeRow) (document : Members) → flat_map (units_of rows) (places document) ≡ map (unit_of rows) (tables_at key.Units document)
units_all rows document =
    flat_places (units_of rows) document
    ∙ rw (
      none_each (units_of rows) section.Terminal 1 (codes "terminal") (tables_at key.Terminals document) (λ own content. refl),
      no_queue (units_of rows) 4 1 (codes "queue") (tables_at key.Queues document) (λ level own content. refl),
      one_each (units_of rows) (unit_of rows) section.Unit 1 (codes "unit") (tables_at key.Units document) (λ own content. refl),
    ) refl

-- what is gathered from all tables is what the document gives
pub gathered_all : (document : Members) → parts_from (tree_rows (places document)) (places document) ≡ parts_of document
gathered_all document =
    let rows = tree_rows (places document) in
    rw (terminals_all rows document, passwords_all document, units_all rows document) refl

-- a test of all tables is one of those of a kind
pub all_places : (p : Place → Bool) (document : Members) → list_all p (places document) ≡ true
    → (list_all p (terminals_in document) ≡ true) × (list_all p (queues_in document) ≡ true) × (list_all p (units_in document) ≡ true)
all_places p document all =
    let top = top_of document in
    let one = and_parts (list_all p ((top ∷ terminals_in document) ++ queues_in document)) (list_all p (units_in document)) (sym (list_all-append p ((top ∷ terminals_in document) ++ queues_in document) (units_in document)) ∙ all) in
    let two = and_parts (list_all p (top ∷ terminals_in document)) (list_all p (queues_in document)) (sym (list_all-append p (top ∷ terminals_in document) (queues_in document)) ∙ one.0) in
    let three = and_parts (p top) (list_all p (terminals_in document)) two.0 in
    (three.1, two.1, one.1)

pub all_tables_from : (p : Place → Bool) (q : Members → Bool) (s : Section) (number : ℕ) (path : List ℕ) (tables : List Members)
    → ((own : List ℕ) (content : Members) → p (record { section = s; path = own; table = content }) ≡ q content) → list_all p (places_from number s path tables) ≡ true → list_all q tables ≡ true
all_tables_from p q s number path [] same all = refl
all_tables_from p q s number path (content ∷ tables) same all =
    let parts = and_parts (p (record { section = s; path = element path number; table = content })) (list_all p (places_from (number + 1) s path tables)) all in
    rw (sym (same (element path number) content) ∙ parts.0, all_tables_from p q s (number + 1) path tables same parts.1) refl

-- the passwords of the queues at the top
pub top_passwords : (number : ℕ) (path : List ℕ) (tables : List Members) → list_all has_password (queues_from 4 number path tables) ≡ true → list_all (λ content. is_password (string_at key.Password content)) tables ≡ true
top_passwords number path [] all = refl
top_passwords number path (content ∷ tables) all =
    let lower = below (element path number) (codes "sub") in
    let here : Place = record { section = section.Queue 1; path = element path number; table = content } in
    let split = and_parts (list_all has_password (here ∷ queues_from 3 1 lower (tables_at key.Children content))) (list_all has_password (queues_from 4 (number + 1) path tables))
    (sym (list_all-append has_password (here ∷ queues_from 3 1 lower (tables_at key.Children content)) (queues_from 4 (number + 1) path tables)) ∙ all) in
    let own = and_parts (is_password (string_at key.Password content)) (list_all has_password (queues_from 3 1 lower (tables_at key.Children content))) split.0 in
    rw (own.0, top_passwords (number + 1) path tables split.1) refl
