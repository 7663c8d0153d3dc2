-- The rows of a description's queues are an outline.
use Rattle.std.proofs.Common.{◌≡◌, ℕ, zero, suc, ◌+◌, ◌-◌, ◌≤◌, nat_le, Bool, true, false, not, ◌&&◌, List, [], ◌∷◌, ◌++◌, length, Option, Some, None, is_some, refl, sym, ap, ◌∙◌, arith, inl, inr, ◌⊎◌, append_assoc, append-nil}
use Rattle.std.specs.Prelude.{◌||◌, ◌==◌, codes, if◌then◌else◌}
use Rattle.std.specs.Str.{bytes_eq}
use Rattle.std.proofs.lemmas.Bool.{cases_Bool, false≢true, and_parts}
use Rattle.std.proofs.lemmas.Bool.Decides.{nat_tests}
use Rattle.toml.specs.Data.{Data, Members}
use Rattle.com_tree.specs.declared.tree.TreeRow.{TreeRow}
use Rattle.com_tree.specs.declared.tree.Choose.TheVariants.{Ordered, Oldest}
use Rattle.com_tree.specs.Written.{is_leaf}
use Rattle.com_tree.specs.Faults.{may_stand_behind, are_outlined, is_outline}
use Rattle.com_net.specs.declared.keys.Section.{Section}
use Rattle.com_net.specs.declared.keys.Section.TheVariants as section
use Rattle.com_net.specs.declared.keys.Key.TheVariants as key
use Rattle.com_net.specs.Values.{value_at, has, string_at, tables_in, tables_at}
use Rattle.com_net.specs.Places.{Place, places_from, queues_from, places, below, element}
use Rattle.com_net.specs.TreeFaults.{choose_of, row_of, rows_below_fourth, queue_rows, tree_rows}

-- rows of tables one after another
pub rows-append : (xs ys : List Place) → tree_rows (xs ++ ys) ≡ tree_rows xs ++ tree_rows ys
rows-append [] ys = refl
rows-append (x ∷ xs) ys = ap (λ rest. queue_rows x.section x.table ++ rest) (rows-append xs ys) ∙ sym (append_assoc (queue_rows x.section x.table) (tree_rows xs) (tree_rows ys))

-- terminals and units have no rows
pub no_rows : (s : Section) (number : ℕ) (path : List ℕ) (tables : List Members) → ((content : Members) → queue_rows s content ≡ []) → tree_rows (places_from number s path tables) ≡ []
no_rows s number path [] none = refl
no_rows s number path (content ∷ tables) none = rw (none content) (no_rows s (number + 1) path tables none)

-- the rows of all tables are those of the queues
pub rows_of_queues : (document : Members) → tree_rows (places document) ≡ tree_rows (queues_from 4 1 (codes "queue") (tables_at key.Queues document))
rows_of_queues document =
    let terminals = places_from 1 section.Terminal (codes "terminal") (tables_at key.Terminals document) in
    let queues = queues_from 4 1 (codes "queue") (tables_at key.Queues document) in
    let units = places_from 1 section.Unit (codes "unit") (tables_at key.Units document) in
    let top : Place = record { section = section.Top; path = []; table = document } in
    rows-append ((top ∷ terminals) ++ queues) units
    ∙ rw (rows-append (top ∷ terminals) queues, no_rows section.Terminal 1 (codes "terminal") (tables_at key.Terminals document) (λ content. refl), no_rows section.Unit 1 (codes "unit") (tables_at key.Units document) (λ content. refl))
    (append-nil (tree_rows queues))

-- a row may come after one that is a parent of its level or of a level as deep
record Leads (level : ℕ) (row : TreeRow) : Type 0 where
  here : (level ≤ row.depth) ⊎ ((row.depth + 1 ≡ level) × (is_leaf row ≡ false))

behind : (level : ℕ) (row next : TreeRow) → Leads level row → next.depth ≡ level → may_stand_behind row next ≡ true
behind level row next leads at = elim leads.here [
  | inl deep ↦
      let low : nat_le next.depth row.depth ≡ true = grind (arith, nat_tests, deep, at) in
      rw (low, may_stand_behind) refl
  | inr parent ↦
      let child : (next.depth == row.depth + 1) ≡ true = grind (arith, nat_tests, parent.0, at) in
      rw (child, parent.1, may_stand_behind) (either (nat_le next.depth row.depth))
]
  where
    either : (b : Bool) → (b || true) ≡ true
    either true = refl
    either false = refl

chooses : (content : Members) (b : Bool) → is_leaf (row_of 1 content (if b then Some Oldest else Some Ordered)) ≡ false
chooses content true = refl
chooses content false = refl

no_value : (value : Option Data) → is_some value ≡ false → ◌≡◌ {A = List Members} (elim value [ None ↦ [] | Some v ↦ tables_in v ]) []
no_value None absent = refl
no_value (Some v) absent = absurd (false≢true (sym absent))

-- where there is a table below a queue, the queue is an inner node
inner_of : (level : ℕ) (content below : Members) (tables : List Members) → tables_at key.Children content ≡ below ∷ tables → is_leaf (row_of level content (choose_of content)) ≡ false
inner_of level content below tables is = elim (cases_Bool (has key.Children content)) [
  | inl there ↦ rw there (chooses content (bytes_eq (string_at key.Choose content) (codes "oldest")))
  | inr absent ↦
      let none : tables_at key.Children content ≡ [] = no_value (value_at key.Children content) absent in
      let not_none : [] ≡ below ∷ tables = sym none ∙ is in
      absurd (cc not_none)
]

one_more : (row next : TreeRow) (rows : List TreeRow) → 1 ≤ next.depth → may_stand_behind row next ≡ true → are_outlined next rows ≡ true → are_outlined row (next ∷ rows) ≡ true
one_more row next rows some may rest =
    let top : nat_le 1 next.depth ≡ true = grind (arith, nat_tests, some) in
    rw (top, may, rest) refl

not_none : (n : ℕ) → (suc n == 0) ≡ false
not_none n = grind (arith, nat_tests)

-- a queue of the lowest level, with the row below it
lowest : (level : ℕ) (content : Members) (rest : List TreeRow) (below : List Members) → level ≡ 4 → tables_at key.Children content ≡ below → ((last : TreeRow) → level ≤ last.depth → are_outlined last rest ≡ true)
    → are_outlined (row_of level content (choose_of content)) (rows_below_fourth level content ++ rest) ≡ true
lowest level content rest [] at is on =
    let none : rows_below_fourth level content ≡ [] = rw (at, is, rows_below_fourth) refl in
    rw none (on (row_of level content (choose_of content)) (omega arith))
lowest level content rest (below ∷ tables) at is on =
    let fifth = row_of 5 content None in
    let b : (level == 4 && not (length (tables_at key.Children content) == 0)) ≡ true = rw (at, is, not_none (length tables)) refl in
    let one : rows_below_fourth level content ≡ fifth ∷ [] = rw b refl in
    let own = row_of level content (choose_of content) in
    let leads : Leads 5 own = record { here = inr (omega (arith, at), inner_of level content below tables is) } in
    rw one (one_more own fifth rest (omega arith) (behind 5 own fifth leads refl) (on fifth (omega (arith, at))))

-- a queue of a higher level: nothing of its own is below it
higher : (level : ℕ) (content : Members) → level ≤ 3 → rows_below_fourth level content ≡ []
higher level content high =
    let other : (level == 4) ≡ false = grind (arith, nat_tests, high) in
    rw (other, rows_below_fourth) refl

-- what stands below a queue, by what is known of the queues below it
under : (levels level : ℕ) (path : List ℕ) (content : Members) (rest : List TreeRow) (below : List Members) → level + suc levels ≡ 5 → tables_at key.Children content ≡ below
    → ((last : TreeRow) → level ≤ last.depth → are_outlined last rest ≡ true)
    → ((own : TreeRow) → Leads (level + 1) own → are_outlined own (tree_rows (queues_from levels 1 path below) ++ rest) ≡ true)
    → are_outlined (row_of level content (choose_of content)) (rows_below_fourth level content ++ (tree_rows (queues_from levels 1 path below) ++ rest)) ≡ true
under zero level path content rest below at is on lower = lowest level content rest below (omega (arith, at)) is on
under (suc levels) level path content rest [] at is on lower = rw (higher level content (omega (arith, at))) (on (row_of level content (choose_of content)) (omega arith))
under (suc levels) level path content rest (table ∷ tables) at is on lower =
    rw (higher level content (omega (arith, at))) (lower (row_of level content (choose_of content)) (record { here = inr (omega arith, inner_of level content table tables is) }))

deep_enough : (level : ℕ) (row : TreeRow) → Leads level row → level ≤ row.depth + 1
deep_enough level row leads = elim leads.here [
  | inl deep ↦ omega (arith, deep)
  | inr parent ↦ omega (arith, parent.0)
]

regroup : (own : TreeRow) (a b c d : List TreeRow) → ((own ∷ a ++ b) ++ c) ++ d ≡ own ∷ a ++ (b ++ (c ++ d))
regroup own a b c d = simp append_assoc

outline_of : (above row : TreeRow) (rows : List TreeRow) → row.depth ≡ 1 → are_outlined above (row ∷ rows) ≡ true → is_outline (row ∷ rows) ≡ true
outline_of above row rows at all =
    let top : (row.depth == 1) ≡ true = grind (arith, nat_tests, at) in
    rw (top, (and_parts (nat_le 1 row.depth && may_stand_behind above row) (are_outlined row rows) all).1) refl

-- the rows of queues are outlined after a row that leads to their level
outlined : (levels level number : ℕ) (path : List ℕ) (tables : List Members) (row : TreeRow) (rest : List TreeRow) → level + levels ≡ 5 → 1 ≤ level → Leads level row
    → ((last : TreeRow) → level ≤ last.depth + 1 → are_outlined last rest ≡ true) → are_outlined row (tree_rows (queues_from levels number path tables) ++ rest) ≡ true
outlined zero level number path tables row rest at some leads on = on row (deep_enough level row leads)
outlined (suc levels) level number path [] row rest at some leads on = on row (deep_enough level row leads)
outlined (suc levels) level number path (content ∷ tables) row rest at some leads on =
    let lower = below (element path number) (codes "sub") in
    let own = row_of level content (choose_of content) in
    let siblings = queues_from (suc levels) (number + 1) path tables in
    let next : (last : TreeRow) → level ≤ last.depth → are_outlined last (tree_rows siblings ++ rest) ≡ true =
    λ last deep. outlined (suc levels) level (number + 1) path tables last rest at some (record { here = inl deep }) on in
    let inside = under levels level lower content (tree_rows siblings ++ rest) (tables_at key.Children content) at refl next
    (λ parent leads. outlined levels (level + 1) 1 lower (tables_at key.Children content) parent (tree_rows siblings ++ rest) (omega (arith, at)) (omega arith) leads (λ last deep. next last (omega (arith, deep)))) in
    let same : 4 - levels ≡ level = omega (arith, at) in
    let children = queues_from levels 1 lower (tables_at key.Children content) in
    let here : Place = record { section = section.Queue level; path = element path number; table = content } in
    let all : tree_rows ((here ∷ children) ++ siblings) ++ rest ≡ own ∷ rows_below_fourth level content ++ (tree_rows children ++ (tree_rows siblings ++ rest)) =
    ap (λ rows. rows ++ rest) (rows-append (here ∷ children) siblings) ∙ regroup own (rows_below_fourth level content) (tree_rows children) (tree_rows siblings) rest in
    let there : ◌≡◌ {A = Place} (record { section = section.Queue (4 - levels); path = element path number; table = content }) here = ap {A = ℕ} {B = Place} (λ n. record { section = section.Queue n; path = element path number; table = content }) same in
    let rows : tree_rows (queues_from (suc levels) number path (content ∷ tables)) ++ rest ≡ own ∷ rows_below_fourth level content ++ (tree_rows children ++ (tree_rows siblings ++ rest)) =
    ap (λ (p : Place). tree_rows ((p ∷ children) ++ siblings) ++ rest) there ∙ all in
    ap (are_outlined row) rows ∙ one_more row own (rows_below_fourth level content ++ (tree_rows children ++ (tree_rows siblings ++ rest))) some (behind level row own leads refl) inside

-- the rows of a description's queues are an outline
pub is_outline-rows : (document : Members) → is_outline (tree_rows (places document)) ≡ true
is_outline-rows document = rw (rows_of_queues document) (from_top (tables_at key.Queues document))
  where
    from_top : (tables : List Members) → is_outline (tree_rows (queues_from 4 1 (codes "queue") tables)) ≡ true
    from_top [] = refl
    from_top (content ∷ tables) =
        let above : TreeRow = record { depth = 0; name = []; choose = Some Ordered } in
        let all = outlined 4 1 1 (codes "queue") (content ∷ tables) above [] refl (omega arith) (record { here = inr (refl, refl) }) (λ last deep. refl) in
        outline_of above (row_of 1 content (choose_of content))
        (rows_below_fourth 1 content ++ tree_rows (queues_from 3 1 (below (element (codes "queue") 1) (codes "sub")) (tables_at key.Children content) ++ queues_from 4 (1 + 1) (codes "queue") tables)) refl (ap (are_outlined above) (sym (append-nil (tree_rows (queues_from 4 1 (codes "queue") (content ∷ tables))))) ∙ all)
