-- Terminals and units by their names.
use Rattle.std.specs.Prelude.{ℕ, List, Option}
use Rattle.std.specs.List.{position}
use Rattle.std.specs.Str.{bytes_eq}
use Rattle.com_net.specs.declared.net.Net.{Net}

-- the number of the terminal of this name
abbrev pub terminal_number : Net → List ℕ → Option ℕ
terminal_number net name = position (λ terminal. bytes_eq terminal.name name) net.terminals

-- the number of the unit of this name
abbrev pub unit_number : Net → List ℕ → Option ℕ
unit_number net name = position (λ unit. bytes_eq unit.name name) net.units
