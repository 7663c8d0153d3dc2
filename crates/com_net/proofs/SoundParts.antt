-- What is sound of a table, by its kind.
use Rattle.std.proofs.Common.{◌≡◌, true, ◌&&◌}
use Rattle.std.proofs.lemmas.Bool.{and_parts}
use Rattle.toml.specs.Data.{Members}
use Rattle.com_text.specs.Name.{is_name}
use Rattle.com_net.specs.declared.keys.Section.TheVariants as section
use Rattle.com_net.specs.declared.keys.Key.TheVariants as key
use Rattle.com_net.specs.Network.{is_file_name}
use Rattle.com_net.specs.Values.{string_at}
use Rattle.com_net.specs.Places.{Place}
use Rattle.com_net.specs.inner.Sound.{has_path, has_input_name, has_names}

pub record IsSoundTerminal (content : Members) : Type 0 where
  pub name : is_name (string_at key.Name content) ≡ true
  pub input : has_input_name content ≡ true
  pub route : has_path key.Input key.Route content ≡ true

pub sound_terminal : (place : Place) → has_names place ≡ true → place.section ≡ section.Terminal → IsSoundTerminal place.table
sound_terminal place sound at =
    let own = rw at at sound in
    let one = and_parts (is_name (string_at key.Name place.table)) (has_input_name place.table && has_path key.Input key.Route place.table) own in
    let two = and_parts (has_input_name place.table) (has_path key.Input key.Route place.table) one.1 in
    record { name = one.0; input = two.0; route = two.1 }

pub record IsSoundUnit (content : Members) : Type 0 where
  pub name : is_name (string_at key.Name content) ≡ true
  pub source : is_file_name (string_at key.Source content) ≡ true
  pub schedule : has_path key.Schedule key.Schedule content ≡ true

pub sound_unit : (place : Place) → has_names place ≡ true → place.section ≡ section.Unit → IsSoundUnit place.table
sound_unit place sound at =
    let own = rw at at sound in
    let one = and_parts (is_name (string_at key.Name place.table)) (is_file_name (string_at key.Source place.table) && has_path key.Schedule key.Schedule place.table) own in
    let two = and_parts (is_file_name (string_at key.Source place.table)) (has_path key.Schedule key.Schedule place.table) one.1 in
    record { name = one.0; source = two.0; schedule = two.1 }
