-- The destinations that an output area names.
use Rattle.std.specs.Prelude.{ℕ, Bool, true, false, ◌==◌, List, map, Option, Some, None, option_map, if◌then◌else◌, codes}
use Rattle.std.specs.List.{position, range_with_len, list_any, fold, enumerate_from}
use Rattle.std.specs.Str.{bytes_eq}
use Rattle.com_text.specs.Name.{field_of}
use Rattle.com_cd.specs.OutputArea.{out_field, set_out, destination_count}
use Rattle.com_cd.specs.Status.{with_output_status}
use Rattle.com_cd.specs.declared.status.Status.{Status}
use Rattle.com_cd.specs.declared.output_area.OutField.TheVariants as field
use Rattle.com_send.specs.declared.destination.Destination.{Destination}
use Rattle.com_send.specs.Outgoing.{DestinationState, Outgoing}

-- For each occurrence that DESTINATION COUNT counts, the number of the destination that it names,
-- from 0; none where the destination is unknown.
abbrev pub Found : Type 0
Found = List (Option ℕ)

-- the number of the destination whose name the field holds
abbrev pub destination_with : List Destination → List ℕ → Option ℕ
destination_with destinations name_field =
    position (λ destination. bytes_eq (field_of destination.name) name_field) destinations

-- the destinations of the first `count` occurrences
abbrev pub found_in : List Destination → List ℕ → ℕ → Found
found_in destinations area count =
    map (λ at. destination_with destinations (out_field (field.Destination at) area))
    (range_with_len 0 count)

-- the destinations that an area names; undefined where DESTINATION COUNT is not valid
abbrev pub find_destinations : List Destination → List ℕ → Option Found
find_destinations destinations area =
    option_map (found_in destinations area) (destination_count area)

-- the occurrence names this destination
abbrev pub names : ℕ → Option ℕ → Bool
names destination None = false
names destination (Some other) = other == destination

-- some occurrence names this destination
abbrev pub is_among : Found → ℕ → Bool
is_among found destination = list_any (names destination) found

-- the destination is unknown
abbrev pub is_unknown : Option ℕ → Bool
is_unknown None = true
is_unknown (Some destination) = false

-- some destination is unknown
abbrev pub has_unknown : Found → Bool
has_unknown found = list_any is_unknown found

-- Each destination that is named is changed, once however often it is named. The others stay as
-- they are.
abbrev pub at_each : Found → (DestinationState → DestinationState) → Outgoing → Outgoing
at_each found change outgoing =
    map (λ (at, state). if is_among found at then change state else state)
    (enumerate_from 0 outgoing)

-- ERROR KEY: 1 where the destination is unknown
abbrev pub error_key : Option ℕ → List ℕ
error_key None = codes "1"
error_key (Some destination) = codes "0"

-- the occurrence at a place has its error key
abbrev pub keyed : List ℕ → ℕ × Option ℕ → List ℕ
keyed area (at, destination) = set_out (field.Error at) area (error_key destination)

-- each occurrence that was looked at has its error key
abbrev pub with_error_keys : Found → List ℕ → List ℕ
with_error_keys found area = fold keyed area (enumerate_from 0 found)

-- the area with its error keys and this status key
abbrev pub with_keys : Found → Status → List ℕ → List ℕ
with_keys found status area = with_output_status status (with_error_keys found area)
