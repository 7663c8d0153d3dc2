-- The names of terminals and of units, in order, and a set of names that grows by one after
-- another.
use Rattle.std.proofs.Common.{◌≡◌, ℕ, Bool, true, false, not, List, [], ◌∷◌, ◌++◌, length, refl, sym, ◌∙◌, arith, append_assoc}
use Rattle.std.specs.Prelude.{fold, position, IsTrue}
use Rattle.std.specs.List.{list_any, list_all, prefix_len}
use Rattle.std.specs.Str.{bytes_eq}
use Rattle.std.proofs.lemmas.Bool.{and_parts}
use Rattle.std.proofs.lemmas.List.{append-nil}
use Rattle.std.proofs.lemmas.List.Folds.{list_any-append}
use Rattle.indexmap.specs.IndexSet.{insert_key, insert_all}
use Rattle.com_net.specs.declared.net.Terminal.{Terminal}
use Rattle.com_net.specs.declared.net.UnitRow.{UnitRow}
use Rattle.com_net.specs.Network.{are_distinct, names_of_terminals, names_of_units}

pub same_either_way : (a b : List ℕ) → bytes_eq a b ≡ bytes_eq b a
same_either_way [] [] = refl
same_either_way [] (y ∷ b) = refl
same_either_way (x ∷ a) [] = refl
same_either_way (x ∷ a) (y ∷ b) = grind (arith, same_either_way a b)

before_terminal : (name : List ℕ) (terminals : List Terminal)
    → prefix_len (λ other. not (bytes_eq other name)) (names_of_terminals terminals) ≡ prefix_len (λ terminal. not (bytes_eq terminal.name name)) terminals
before_terminal name [] = refl
before_terminal name (terminal ∷ terminals) = rw (before_terminal name terminals)

before_unit : (name : List ℕ) (units : List UnitRow) → prefix_len (λ other. not (bytes_eq other name)) (names_of_units units) ≡ prefix_len (λ unit. not (bytes_eq unit.name name)) units
before_unit name [] = refl
before_unit name (unit ∷ units) = rw (before_unit name units)

pub as_many_terminals : (terminals : List Terminal) → length (names_of_terminals terminals) ≡ length terminals
as_many_terminals [] = refl
as_many_terminals (terminal ∷ terminals) = rw (as_many_terminals terminals)

pub as_many_units : (units : List UnitRow) → length (names_of_units units) ≡ length units
as_many_units [] = refl
as_many_units (unit ∷ units) = rw (as_many_units units)

-- the place among the names of terminals is that of the terminal
pub place_of_terminal : (name : List ℕ) (terminals : List Terminal)
    → position (λ other. bytes_eq other name) (names_of_terminals terminals) ≡ position (λ terminal. bytes_eq terminal.name name) terminals
place_of_terminal name terminals = rw (before_terminal name terminals, as_many_terminals terminals) refl

pub place_of_unit : (name : List ℕ) (units : List UnitRow) → position (λ other. bytes_eq other name) (names_of_units units) ≡ position (λ unit. bytes_eq unit.name name) units
place_of_unit name units = rw (before_unit name units, as_many_units units) refl

-- none of the names is among others
abbrev are_new : List (List ℕ) → List (List ℕ) → Bool
are_new known names = list_all (λ name. not (list_any (bytes_eq name) known)) names

still_new : (known : List (List ℕ)) (name : List ℕ) (names : List (List ℕ)) → are_new known names ≡ true → list_any (bytes_eq name) names ≡ false
    → are_new (known ++ name ∷ []) names ≡ true
still_new known name [] new other = refl
still_new known name (next ∷ names) new other =
    let parts = and_parts (not (list_any (bytes_eq next) known)) (are_new known names) new in
    let rest : list_any (bytes_eq name) names ≡ false = grind (arith, other) in
    let apart : bytes_eq next name ≡ false = same_either_way next name ∙ grind (arith, other) in
    let none : list_any (bytes_eq next) known ≡ false = grind (arith, parts.0) in
    rw (list_any-append (bytes_eq next) known (name ∷ []), none, apart) (still_new known name names parts.1 rest)

-- new names that are distinct are added one after another
added : (known names : List (List ℕ)) → are_distinct names ≡ true → are_new known names ≡ true → fold (insert_key bytes_eq) known names ≡ known ++ names
added known [] distinct new = sym (append-nil known)
added known (name ∷ names) distinct new =
    let own = and_parts (not (list_any (bytes_eq name) names)) (are_distinct names) distinct in
    let parts = and_parts (not (list_any (bytes_eq name) known)) (are_new known names) new in
    let none : list_any (bytes_eq name) known ≡ false = grind (arith, parts.0) in
    let other : list_any (bytes_eq name) names ≡ false = grind (arith, own.0) in
    rw none (added (known ++ name ∷ []) names own.1 (still_new known name names parts.1 other) ∙ append_assoc known (name ∷ []) names)

all_new : (names : List (List ℕ)) → are_new [] names ≡ true
all_new [] = refl
all_new (name ∷ names) = all_new names

-- distinct names make a set that has them in order
pub all_added : (names : List (List ℕ)) → IsTrue (are_distinct names) → insert_all bytes_eq [] names ≡ names
all_added names distinct = added [] names distinct (all_new names)
