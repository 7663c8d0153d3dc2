-- The parties by their numbers, and entries beside the numbers of their parties.
use Rattle.std.specs.Prelude.{◌≡◌, ℕ, ◌+◌, ◌-◌, ◌<◌, nat_lt, unwrap_or, List, [], length, map, option_map, slice_get, if◌then◌else◌}
use Rattle.std.specs.List.{AllByRecursion}
use Rattle.com_net.specs.declared.net.Net.{Net}
use Rattle.com_events.specs.declared.call.Party.{Party}
use Rattle.com_events.specs.declared.call.Party.TheVariants as party
use Rattle.com_events.specs.declared.entry.Entry.{Entry}

-- how many parties there are
abbrev pub parties : Net → ℕ
parties net = length net.units + length net.terminals

-- the name of the unit with this number
abbrev pub unit_name : Net → ℕ → List ℕ
unit_name net unit = unwrap_or (option_map (λ u. u.name) (slice_get net.units unit)) []

-- the name of the terminal with this number
abbrev pub terminal_name : Net → ℕ → List ℕ
terminal_name net terminal = unwrap_or (option_map (λ t. t.name) (slice_get net.terminals terminal)) []

-- the party with this number: the units in order, and then the terminals
abbrev pub party_at : Net → ℕ → Party
party_at net number =
    if nat_lt number (length net.units) then party.Unit (unit_name net number)
    else party.Terminal (terminal_name net (number - length net.units))

-- an entry beside the number of its party
abbrev pub Item : Type 0
Item = ℕ × Entry

-- the entries alone
abbrev pub entries : List Item → List Entry
entries items = map (λ item. item.1) items

-- The number is that of the entry's party.
pub record IsNumbered (net : Net) (item : Item) : Type 0 where
  pub within : item.0 < parties net
  pub party : item.1.party ≡ party_at net item.0

-- each entry stands beside the number of its party
abbrev pub AreNumbered : Net → List Item → Type 0
AreNumbered net items = AllByRecursion (IsNumbered net) items
