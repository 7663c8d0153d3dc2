-- The keys of a table, as the code goes over them.
use Rattle.std.proofs.Common.{◌≡◌, ℕ, not, List, [], ◌∷◌, map, Option, refl, ap, String, Global, string_bytes}
use Rattle.std.specs.List.{find}
use Rattle.std.specs.Map.{keys_of}
use Rattle.toml.specs.declared.value.Value.{Value}
use Rattle.toml.specs.Data.{Members}
use Rattle.toml.specs.View.{members_view}
use Rattle.com_net.specs.declared.keys.Key.{Key}
use Rattle.com_net.specs.KeyFaults.{is_known, names_in}

-- the first of these keys that is not known
abbrev pub unknown : List Key → Members → List (String Global) → Option (List ℕ)
unknown keys content names = find (λ name. not (is_known keys content name)) (map string_bytes names)

pub names_of_entries : (entries : List (String Global × Value)) → map string_bytes (keys_of entries) ≡ names_in (members_view entries)
names_of_entries [] = refl
names_of_entries (entry ∷ entries) = ap (λ names. string_bytes entry.0 ∷ names) (names_of_entries entries)

-- all keys of the table are among its names
pub all_names : (keys : List Key) (entries : List (String Global × Value))
    → unknown keys (members_view entries) (keys_of entries) ≡ find (λ name. not (is_known keys (members_view entries) name)) (names_in (members_view entries))
all_names keys entries = ap (find (λ name. not (is_known keys (members_view entries) name))) (names_of_entries entries)
