-- A party and its number, and the entries that stand beside a number.
use Rattle.std.proofs.Common.{◌≡◌, ◌≢◌, ℕ, zero, suc, ◌+◌, ◌-◌, ◌<◌, ◌≤◌, ◌==◌, Bool, true, false, nat_lt, List, [], ◌∷◌, ◌++◌, length, map, Option, Some, None, refl, ap, sym, ◌∙◌, subst, arith, inl, inr, if◌then◌else◌}
use Rattle.std.specs.Prelude.{IsTrue, option_map, slice_get, unwrap_or}
use Rattle.std.specs.List.{filter, zip, list_all, AllByRecursion}
use Rattle.std.specs.Str.{bytes_eq}
use Rattle.std.proofs.lemmas.Bool.{cases_Bool, cases_eq, false≢true, and_parts}
use Rattle.std.proofs.lemmas.Bool.Decides.{Decides-eqb, nat_tests, eqb_tells}
use Rattle.std.proofs.lemmas.Option.{none-some, same_Some, slice_get-map}
use Rattle.std.proofs.lemmas.Slice.Eq.{bytes_eq-Decides}
use Rattle.com_text.specs.Name.{IsName, is_name}
use Rattle.com_net.specs.declared.net.Net.{Net}
use Rattle.com_net.specs.declared.net.Terminal.{Terminal}
use Rattle.com_net.specs.declared.net.UnitRow.{UnitRow}
use Rattle.com_net.specs.Network.{IsNet, names_of_units, names_of_terminals}
use Rattle.com_net.specs.Numbers.{unit_number, terminal_number}
use Rattle.com_net.proofs.NumberedNames.{number_of_unit, number_of_terminal}
use Rattle.com_events.specs.declared.call.Party.{Party}
use Rattle.com_events.specs.declared.call.Party.TheVariants as party
use Rattle.com_events.specs.declared.entry.Entry.{Entry}
use Rattle.com_recv.proofs.Handing.{there_is}
use Rattle.com_state.specs.Parties.{is_party, entries_of}
use Rattle.com_shared.specs.Parties.{parties, unit_name, terminal_name, party_at, Item, entries, IsNumbered, AreNumbered}

pub same_name : (name : List ℕ) → bytes_eq name name ≡ true
same_name name = let e : name ≡ name = refl in grind (arith, bytes_eq-Decides name name, e)

equal_names : (a b : List ℕ) → bytes_eq a b ≡ true → a ≡ b
equal_names a b e = grind (arith, bytes_eq-Decides a b, e)

-- the number of a unit by its name, and that of a terminal
pub unit_is : (net : Net) (k : ℕ) → IsNet net → k < length net.units → unit_number net (unit_name net k) ≡ Some k
unit_is net k is few =
    let row = there_is net.units k few in
    let name : unit_name net k ≡ row.0.name = ap (λ o. unwrap_or (option_map (λ (u : UnitRow). u.name) o) []) row.1 in
    ap (unit_number net) name ∙ number_of_unit net k row.0 is row.1

pub terminal_is : (net : Net) (k : ℕ) → IsNet net → k < length net.terminals → terminal_number net (terminal_name net k) ≡ Some k
terminal_is net k is few =
    let row = there_is net.terminals k few in
    let name : terminal_name net k ≡ row.0.name = ap (λ o. unwrap_or (option_map (λ (t : Terminal). t.name) o) []) row.1 in
    ap (terminal_number net) name ∙ number_of_terminal net k row.0 is row.1

-- the party with a number is a unit or a terminal
pub at_unit : (net : Net) (k : ℕ) → k < length net.units → party_at net k ≡ party.Unit (unit_name net k)
at_unit net k few = let e : nat_lt k (length net.units) ≡ true = grind (arith, nat_tests, few) in rw e refl

pub at_terminal : (net : Net) (k : ℕ) → length net.units ≤ k → party_at net k ≡ party.Terminal (terminal_name net (k - length net.units))
at_terminal net k many = let e : nat_lt k (length net.units) ≡ false = grind (arith, nat_tests, many) in rw e refl

-- the names of two numbers are the same exactly where the numbers are
by_numbers : (name_of : ℕ → List ℕ) → (number : List ℕ → Option ℕ) → (j k : ℕ) → number (name_of j) ≡ Some j → number (name_of k) ≡ Some k → bytes_eq (name_of j) (name_of k) ≡ (j == k)
by_numbers name_of number j k first second = elim (eqb_tells j k) [
  | inl same ↦ ap (λ i. bytes_eq (name_of j) (name_of i)) (sym same.1) ∙ (same_name (name_of j) ∙ sym same.0)
  | inr other ↦ elim (cases_Bool (bytes_eq (name_of j) (name_of k))) [
    | inl e ↦ absurd (other.1 (same_Some j k (sym first ∙ (ap number (equal_names (name_of j) (name_of k) e) ∙ second))))
    | inr e ↦ e ∙ sym other.0
  ]
]

-- two numbers are of the same party exactly where they are the same
pub same_as : (net : Net) (j k : ℕ) → IsNet net → j < parties net → k < parties net → is_party (party_at net j) (party_at net k) ≡ (j == k)
same_as net j k is few less = elim (cases_Bool (nat_lt j (length net.units))) [
  | inl a ↦
      let first : j < length net.units = grind (arith, nat_tests, a) in
      elim (cases_Bool (nat_lt k (length net.units))) [
        | inl b ↦
            let second : k < length net.units = grind (arith, nat_tests, b) in
            rw (a, b) (by_numbers (unit_name net) (unit_number net) j k (unit_is net j is first) (unit_is net k is second))
        | inr b ↦ rw (a, b) (apart j k (grind (arith, nat_tests, a, b)))
      ]
  | inr a ↦
      elim (cases_Bool (nat_lt k (length net.units))) [
        | inl b ↦ rw (a, b) (apart j k (grind (arith, nat_tests, a, b)))
        | inr b ↦
            let n = length net.units in
            let first : j - n < length net.terminals = (let l : n ≤ j = grind (arith, nat_tests, a) in omega (arith, l, few)) in
            let second : k - n < length net.terminals = (let l : n ≤ k = grind (arith, nat_tests, b) in omega (arith, l, less)) in
            let l : n ≤ j = grind (arith, nat_tests, a) in
            let m : n ≤ k = grind (arith, nat_tests, b) in
            rw (a, b) (by_numbers (terminal_name net) (terminal_number net) (j - n) (k - n) (terminal_is net (j - n) is first) (terminal_is net (k - n) is second) ∙ less_by n j k l m)
      ]
]
  where
    apart : (i h : ℕ) → i ≢ h → false ≡ (i == h)
    apart i h ne = elim (eqb_tells i h) [
      | inl e ↦ absurd (ne e.1)
      | inr e ↦ sym e.0
    ]

    less_by : (n i h : ℕ) → n ≤ i → n ≤ h → ((i - n) == (h - n)) ≡ (i == h)
    less_by n i h l m = elim (eqb_tells i h) [
      | inl e ↦ rw (e.1) ((Decides-eqb (h - n) (h - n)).1 refl ∙ sym ((Decides-eqb h h).1 refl))
      | inr e ↦ elim (eqb_tells (i - n) (h - n)) [
        | inl d ↦ absurd (e.1 (let q = d.1 in omega (arith, q, l, m)))
        | inr d ↦ d.0 ∙ sym e.0
      ]
    ]

pub same_self : (net : Net) (k : ℕ) → is_party (party_at net k) (party_at net k) ≡ true
same_self net k = elim (cases_Bool (nat_lt k (length net.units))) [
  | inl a ↦ rw a (same_name (unit_name net k))
  | inr a ↦ rw a (same_name (terminal_name net (k - length net.units)))
]

-- the entries beside a number are those of its party
pub entries_by_number : (net : Net) (k : ℕ) (items : List Item) → IsNet net → k < parties net → AreNumbered net items → entries (filter (λ x. x.0 == k) items) ≡ entries_of (party_at net k) (entries items)
entries_by_number net k [] is few h = refl
entries_by_number net k (x ∷ xs) is few h =
    let s : is_party (party_at net k) x.1.party ≡ (x.0 == k) = ap (is_party (party_at net k)) h.0.party ∙ (same_as net k x.0 is few h.0.within ∙ either_way k x.0) in
    elim (cases_Bool (x.0 == k)) [
      | inl e ↦ rw (s, e) (ap (λ es. x.1 ∷ es) (entries_by_number net k xs is few h.1))
      | inr e ↦ rw (s, e) (entries_by_number net k xs is few h.1)
    ]
  where
    either_way : (i h : ℕ) → (i == h) ≡ (h == i)
    either_way i h = elim (eqb_tells i h) [
      | inl e ↦ e.0 ∙ sym ((Decides-eqb h i).1 (sym e.1))
      | inr e ↦ elim (eqb_tells h i) [
        | inl d ↦ absurd (e.1 (sym d.1))
        | inr d ↦ e.0 ∙ sym d.0
      ]
    ]

-- a name of the network is a name
nth_passes : (p : List ℕ → Bool) → (names : List (List ℕ)) (k : ℕ) (name : List ℕ) → list_all p names ≡ true → slice_get names k ≡ Some name → p name ≡ true
nth_passes p [] k name all at = absurd (none-some name at)
nth_passes p (first ∷ names) zero name all at = ap p (sym (same_Some first name at)) ∙ (and_parts (p first) (list_all p names) all).0
nth_passes p (first ∷ names) (suc k) name all at = nth_passes p names k name (and_parts (p first) (list_all p names) all).1 at

pub unit_named : (net : Net) (k : ℕ) → IsNet net → k < length net.units → IsName (unit_name net k)
unit_named net k is few =
    let row = there_is net.units k few in
    let name : unit_name net k ≡ row.0.name = ap (λ o. unwrap_or (option_map (λ (u : UnitRow). u.name) o) []) row.1 in
    let at : slice_get (names_of_units net.units) k ≡ Some row.0.name = slice_get-map (λ (u : UnitRow). u.name) net.units k ∙ ap (option_map (λ (u : UnitRow). u.name)) row.1 in
    ap is_name name ∙ nth_passes is_name (names_of_units net.units) k row.0.name is.unit_names at

pub terminal_named : (net : Net) (k : ℕ) → IsNet net → k < length net.terminals → IsName (terminal_name net k)
terminal_named net k is few =
    let row = there_is net.terminals k few in
    let name : terminal_name net k ≡ row.0.name = ap (λ o. unwrap_or (option_map (λ (t : Terminal). t.name) o) []) row.1 in
    let at : slice_get (names_of_terminals net.terminals) k ≡ Some row.0.name = slice_get-map (λ (t : Terminal). t.name) net.terminals k ∙ ap (option_map (λ (t : Terminal). t.name)) row.1 in
    ap is_name name ∙ nth_passes is_name (names_of_terminals net.terminals) k row.0.name is.terminal_names at
