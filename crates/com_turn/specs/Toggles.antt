-- Who is active, by the toggles of all that became active or inactive, in their order.
use Rattle.std.specs.Prelude.{ℕ, ◌==◌, Bool, false, List, fold, count_by, if◌then◌else◌}
use Rattle.std.specs.List.{range_with_len}
use Rattle.com_turn.specs.declared.view.Toggle.{Toggle}

abbrev pub toggle_of : ℕ → Bool → Toggle
toggle_of party active = record { number = party; active = active }

abbrev pub party_of : Toggle → ℕ
party_of toggle = toggle.number

-- the party's last toggle says that it became active
abbrev pub is_active : ℕ → List Toggle → Bool
is_active party toggles = fold (λ active (toggle : Toggle). if toggle.number == party then toggle.active else active) false toggles

-- how many of the parties are active
abbrev pub active_count : ℕ → List Toggle → ℕ
active_count parties toggles = count_by (λ party. is_active party toggles) (range_with_len 0 parties)
