-- Where names are distinct, the k-th name is found at k.
use Rattle.std.proofs.Common.{◌≡◌, ℕ, zero, suc, ◌<◌, Bool, true, false, not, List, [], ◌∷◌, map, length, Some, refl, sym, ap, ◌∙◌, arith, inl, inr, if◌then◌else◌}
use Rattle.std.specs.Prelude.{position, slice_get, option_map, nat_lt}
use Rattle.std.specs.List.{list_any, prefix_len}
use Rattle.std.specs.Str.{bytes_eq}
use Rattle.std.proofs.lemmas.Bool.{cases_Bool, false≢true, and_parts}
use Rattle.std.proofs.lemmas.Bool.Decides.{nat_tests}
use Rattle.std.proofs.lemmas.Option.{none-some, same_Some, slice_get_within, slice_get-map}
use Rattle.std.proofs.lemmas.Slice.Eq.{bytes_eq-Decides}
use Rattle.com_net.specs.declared.net.Net.{Net}
use Rattle.com_net.specs.declared.net.Terminal.{Terminal}
use Rattle.com_net.specs.declared.net.UnitRow.{UnitRow}
use Rattle.com_net.specs.Network.{IsNet, are_distinct, names_of_terminals, names_of_units}
use Rattle.com_net.specs.Numbers.{unit_number, terminal_number}
use Rattle.com_net.proofs.NameLists.{place_of_terminal, place_of_unit}

same_name : (name : List ℕ) → bytes_eq name name ≡ true
same_name name = let e : name ≡ name = refl in grind (arith, bytes_eq-Decides name name, e)

-- where none passes, the k-th does not
none_there : (p : List ℕ → Bool) → (names : List (List ℕ)) (k : ℕ) (name : List ℕ) → list_any p names ≡ false → slice_get names k ≡ Some name → p name ≡ false
none_there p [] k name none at = absurd (none-some name at)
none_there p (first ∷ names) zero name none at = elim (cases_Bool (p first)) [
  | inl passes ↦ absurd (false≢true (sym (rw passes at none)))
  | inr fails ↦ ap p (sym (same_Some first name at)) ∙ fails
]
none_there p (first ∷ names) (suc k) name none at = elim (cases_Bool (p first)) [
  | inl passes ↦ absurd (false≢true (sym (rw passes at none)))
  | inr fails ↦ none_there p names k name (rw fails at none) at
]

-- the names before it are others
first_at : (names : List (List ℕ)) (k : ℕ) (name : List ℕ) → are_distinct names ≡ true → slice_get names k ≡ Some name → prefix_len (λ other. not (bytes_eq other name)) names ≡ k
first_at [] k name distinct at = absurd (none-some name at)
first_at (first ∷ names) zero name distinct at =
    let is : bytes_eq first name ≡ true = ap (λ other. bytes_eq other name) (same_Some first name at) ∙ same_name name in
    rw is refl
first_at (first ∷ names) (suc k) name distinct at =
    let parts = and_parts (not (list_any (bytes_eq first) names)) (are_distinct names) distinct in
    let none : list_any (bytes_eq first) names ≡ false = grind (arith, parts.0) in
    let other : bytes_eq first name ≡ false = none_there (bytes_eq first) names k name none at in
    let rest = first_at names k name parts.1 at in
    rw other (omega (arith, rest))

pub place_of_name : (names : List (List ℕ)) (k : ℕ) (name : List ℕ) → are_distinct names ≡ true → slice_get names k ≡ Some name → position (λ other. bytes_eq other name) names ≡ Some k
place_of_name names k name distinct at =
    let few : k < length names = slice_get_within names k name at in
    let test : nat_lt k (length names) ≡ true = grind (arith, nat_tests, few) in
    rw (first_at names k name distinct at, test) refl

pub number_of_unit : (net : Net) (k : ℕ) (unit : UnitRow) → IsNet net → slice_get net.units k ≡ Some unit → unit_number net unit.name ≡ Some k
number_of_unit net k unit is at =
    let name : slice_get (names_of_units net.units) k ≡ Some unit.name = slice_get-map (λ u. u.name) net.units k ∙ ap (option_map (λ u. u.name)) at in
    sym (place_of_unit unit.name net.units) ∙ place_of_name (names_of_units net.units) k unit.name is.units_distinct name

pub number_of_terminal : (net : Net) (k : ℕ) (terminal : Terminal) → IsNet net → slice_get net.terminals k ≡ Some terminal → terminal_number net terminal.name ≡ Some k
number_of_terminal net k terminal is at =
    let name : slice_get (names_of_terminals net.terminals) k ≡ Some terminal.name = slice_get-map (λ t. t.name) net.terminals k ∙ ap (option_map (λ t. t.name)) at in
    sym (place_of_terminal terminal.name net.terminals) ∙ place_of_name (names_of_terminals net.terminals) k terminal.name is.terminals_distinct name
