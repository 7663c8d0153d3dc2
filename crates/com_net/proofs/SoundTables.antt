-- Tables without a fault of their own have names, paths, file names and passwords.
use Rattle.std.proofs.Common.{◌≡◌, ℕ, zero, suc, ◌+◌, Bool, true, false, not, ◌&&◌, List, [], ◌∷◌, length, Option, Some, None, is_some, refl, sym, ap, ◌∙◌, inl, inr}
use Rattle.std.specs.Prelude.{◌||◌, ◌==◌, nat_le, unwrap_or, slice_get, option_map, option_and_then, if◌then◌else◌}
use Rattle.std.specs.Option.{option_or}
use Rattle.std.specs.List.{find, list_all}
use Rattle.std.proofs.lemmas.Bool.{cases_Bool, false≢true, and_parts}
use Rattle.std.proofs.lemmas.Option.{none-some, same_Some}
use Rattle.toml.specs.Data.{Data, string, integer, float, boolean, datetime, array, table, Items, Members, as_str}
use Rattle.com_text.specs.Name.{is_name}
use Rattle.com_net.specs.declared.keys.Section.{Section}
use Rattle.com_net.specs.declared.keys.Section.TheVariants as section
use Rattle.com_net.specs.declared.keys.Key.{Key}
use Rattle.com_net.specs.declared.keys.Key.TheVariants as key
use Rattle.com_net.specs.Network.{is_password, is_file_name}
use Rattle.com_net.specs.Keys.{keys_of, queue_keys}
use Rattle.com_net.specs.Values.{value_at, has, string_at, strings_of, strings_in, strings_at, are_strings, are_steps, is_string, is_path, is_of_kind}
use Rattle.com_net.specs.Places.{Place, key_path}
use Rattle.com_net.specs.KeyFaults.{is_allowed, is_needed_key, is_missing, is_wrong, has_wrong_kind, first_of, bad_text, bad_part, bad_name_in, bad_password_in, bad_value_at, bad_value, missing_key, wrong_kind, bad_name, bad_password}
use Rattle.com_net.specs.inner.Sound.{is_name_path, has_path, has_input_name, has_names, has_password}

-- where there is neither, there is no first and no second
pub neither : {T : Type 0} (o p : Option T) → option_or o p ≡ None → (o ≡ None) × (p ≡ None)
neither None p h = (refl, h)
neither (Some x) p h = absurd (none-some x (sym h))

pub no_image : {A B : Type 0} (f : A → B) (o : Option A) → option_map f o ≡ None → o ≡ None
no_image f None h = refl
no_image f (Some x) h = absurd (none-some (f x) (sym h))

-- nothing is found, so the test fails at each place
fails_at : (test : Key → Bool) (keys : List Key) (at : ℕ) (wanted : Key) → find test keys ≡ None → slice_get keys at ≡ Some wanted → test wanted ≡ false
fails_at test [] at wanted none here = absurd (none-some wanted here)
fails_at test (k ∷ keys) zero wanted none here = elim (cases_Bool (test k)) [
  | inl holds ↦ absurd (none-some k (sym (rw holds at none)))
  | inr fails ↦ rw (sym (same_Some k wanted here)) fails
]
fails_at test (k ∷ keys) (suc at) wanted none here = elim (cases_Bool (test k)) [
  | inl holds ↦ absurd (none-some k (sym (rw holds at none)))
  | inr fails ↦ fails_at test keys at wanted (rw fails at none) here
]

nothing_at : (test : Key → Option (List ℕ)) (keys : List Key) (at : ℕ) (wanted : Key) → first_of test keys ≡ None → slice_get keys at ≡ Some wanted → test wanted ≡ None
nothing_at test [] at wanted none here = absurd (none-some wanted here)
nothing_at test (k ∷ keys) zero wanted none here = rw (sym (same_Some k wanted here)) (neither (test k) (first_of test keys) none).0
nothing_at test (k ∷ keys) (suc at) wanted none here = nothing_at test keys at wanted (neither (test k) (first_of test keys) none).1 here

-- what a table without these faults has at a key
record IsRight (place : Place) (wanted : Key) : Type 0 where
  present : is_needed_key wanted ≡ true → is_allowed place.table wanted ≡ true → has wanted place.table ≡ true
  kind : is_allowed place.table wanted ≡ true → is_wrong wanted (value_at wanted place.table) ≡ false

not_missing : (needed allowed there : Bool) → ((needed && allowed) && not there) ≡ false → needed ≡ true → allowed ≡ true → there ≡ true
not_missing true true true h n a = refl
not_missing true true false h n a = absurd (false≢true (sym h))
not_missing true false there h n a = absurd (false≢true a)
not_missing false allowed there h n a = absurd (false≢true n)

not_wrong : (allowed wrong : Bool) → (allowed && wrong) ≡ false → allowed ≡ true → wrong ≡ false
not_wrong true wrong h a = h
not_wrong false wrong h a = absurd (false≢true a)

right_at : (place : Place) (at : ℕ) (wanted : Key) → missing_key place ≡ None → wrong_kind place ≡ None → slice_get (keys_of place.section) at ≡ Some wanted → IsRight place wanted
right_at place at wanted missing wrong here =
    let there = fails_at (is_missing place.table) (keys_of place.section) at wanted (no_image (key_path place) (find (is_missing place.table) (keys_of place.section)) missing) here in
    let right = fails_at (has_wrong_kind place.table) (keys_of place.section) at wanted (no_image (key_path place) (find (has_wrong_kind place.table) (keys_of place.section)) wrong) here in
    record {
      present = not_missing (is_needed_key wanted) (is_allowed place.table wanted) (has wanted place.table) there;
      kind = not_wrong (is_allowed place.table wanted) (is_wrong wanted (value_at wanted place.table)) right;
    }

not_bad : (bad : Key → Data → Option (List ℕ)) (place : Place) (at : ℕ) (wanted : Key) → bad_value bad place ≡ None → slice_get (keys_of place.section) at ≡ Some wanted
    → option_and_then (bad wanted) (value_at wanted place.table) ≡ None
not_bad bad place at wanted none here = no_image _ (option_and_then (bad wanted) (value_at wanted place.table)) (nothing_at (bad_value_at bad place) (keys_of place.section) at wanted none here)

passed : (b : Bool) → ◌≡◌ {A = Option (List ℕ)} (if b then None else Some []) None → b ≡ true
passed true h = refl
passed false h = absurd (none-some [] (sym h))

-- a string that passes the test
text_passes : (test : List ℕ → Bool) (value : Option Data) → is_some value ≡ true → elim value [ None ↦ false | Some v ↦ not (is_string v) ] ≡ false → option_and_then (bad_text test) value ≡ None
    → test (unwrap_or (option_and_then as_str value) []) ≡ true
text_passes test None some kind bad = absurd (false≢true some)
text_passes test (Some (string text)) some kind bad = passed (test text) bad
text_passes test (Some (integer x)) some kind bad = absurd (false≢true (sym kind))
text_passes test (Some (float x)) some kind bad = absurd (false≢true (sym kind))
text_passes test (Some (boolean x)) some kind bad = absurd (false≢true (sym kind))
text_passes test (Some (datetime x)) some kind bad = absurd (false≢true (sym kind))
text_passes test (Some (array x)) some kind bad = absurd (false≢true (sym kind))
text_passes test (Some (table x)) some kind bad = absurd (false≢true (sym kind))

no_bad_part : (number : ℕ) (parts : List (List ℕ)) → bad_part number parts ≡ None → list_all is_name parts ≡ true
no_bad_part number [] none = refl
no_bad_part number (part ∷ parts) none = elim (cases_Bool (is_name part)) [
  | inl named ↦ rw (named, no_bad_part (number + 1) parts (rw named at none)) refl
  | inr other ↦ absurd (none-some _ (sym (rw other at none)))
]

flipped : (b : Bool) → not b ≡ false → b ≡ true
flipped true h = refl
flipped false h = absurd (false≢true (sym h))

array_passes : (items : Items) → are_steps items ≡ true → bad_part 1 (strings_in (array items)) ≡ None → is_name_path (strings_in (array items)) ≡ true
array_passes items steps parts =
    let split = and_parts (are_strings items) (nat_le 1 (length (strings_of items)) && nat_le (length (strings_of items)) 4) steps in
    let own : strings_in (array items) ≡ strings_of items = rw split.0 refl in
    let names = no_bad_part 1 (strings_of items) (rw own at parts) in
    rw (own, split.1, names) refl

-- one to four names
path_passes : (value : Option Data) → is_some value ≡ true → elim value [ None ↦ false | Some v ↦ not (is_path v) ] ≡ false → option_and_then (λ v. bad_part 1 (strings_in v)) value ≡ None
    → is_name_path (elim value [ None ↦ [] | Some v ↦ strings_in v ]) ≡ true
path_passes None some kind bad = absurd (false≢true some)
path_passes (Some (array items)) some kind bad = array_passes items (flipped (are_steps items) kind) bad
path_passes (Some (string x)) some kind bad = absurd (false≢true (sym kind))
path_passes (Some (integer x)) some kind bad = absurd (false≢true (sym kind))
path_passes (Some (float x)) some kind bad = absurd (false≢true (sym kind))
path_passes (Some (boolean x)) some kind bad = absurd (false≢true (sym kind))
path_passes (Some (datetime x)) some kind bad = absurd (false≢true (sym kind))
path_passes (Some (table x)) some kind bad = absurd (false≢true (sym kind))

-- a table without a missing key, a wrong kind or a bad name
pub record IsChecked (place : Place) : Type 0 where
  pub missing : missing_key place ≡ None
  pub wrong : wrong_kind place ≡ None
  pub names : bad_name place ≡ None

wrong_string : (wanted : Key) (value : Option Data) → is_of_kind wanted ≡ is_string → is_wrong wanted value ≡ false → elim value [ None ↦ false | Some v ↦ not (is_string v) ] ≡ false
wrong_string wanted None same wrong = refl
wrong_string wanted (Some v) same wrong = ap (λ f. not (f v)) (sym same) ∙ wrong

-- the name at a place among the keys
name_there : (place : Place) (at : ℕ) → IsChecked place → slice_get (keys_of place.section) at ≡ Some key.Name → is_name (string_at key.Name place.table) ≡ true
name_there place at checked here =
    let right = right_at place at key.Name checked.missing checked.wrong here in
    text_passes is_name (value_at key.Name place.table) (right.present refl refl) (wrong_string key.Name (value_at key.Name place.table) refl (right.kind refl))
    (not_bad bad_name_in place at key.Name checked.names here)

or_second : (a b : Bool) → (a ≡ true → b ≡ true) → (not a || b) ≡ true
or_second true b h = h refl
or_second false b h = refl

queue_name : (level : ℕ) → slice_get (queue_keys level) 0 ≡ Some key.Name
queue_name level = elim (cases_Bool (level == 1)) [
  | inl top ↦ rw top refl
  | inr below ↦ rw below refl
]

pub sound_names : (place : Place) → IsChecked place → has_names place ≡ true
sound_names place checked = by_section place.section place.path place.table checked
  where
    by_section : (s : Section) (path : List ℕ) (content : Members) → IsChecked (record { section = s; path = path; table = content }) → has_names (record { section = s; path = path; table = content }) ≡ true
    by_section section.Top path content checked = refl
    by_section section.Terminal path content checked =
        let place : Place = record { section = section.Terminal; path = path; table = content } in
        let input_right = right_at place 2 key.Input checked.missing checked.wrong refl in
        let route_right = right_at place 4 key.Route checked.missing checked.wrong refl in
        let input : has_input_name content ≡ true = or_second (has key.Input content) (is_file_name (string_at key.Input content)) (λ there.
        text_passes is_file_name (value_at key.Input content) there (wrong_string key.Input (value_at key.Input content) refl (input_right.kind refl)) (not_bad bad_name_in place 2 key.Input checked.names refl)) in
        let route : has_path key.Input key.Route content ≡ true = or_second (has key.Input content) (is_name_path (strings_at key.Route content)) (λ there.
        path_passes (value_at key.Route content) (route_right.present refl there) (route_right.kind there) (not_bad bad_name_in place 4 key.Route checked.names refl)) in
        rw (name_there place 0 checked refl, input, route) refl
    by_section (section.Queue level) path content checked = name_there (record { section = section.Queue level; path = path; table = content }) 0 checked (queue_name level)
    by_section section.Unit path content checked =
        let place : Place = record { section = section.Unit; path = path; table = content } in
        let source_right = right_at place 1 key.Source checked.missing checked.wrong refl in
        let schedule_right = right_at place 2 key.Schedule checked.missing checked.wrong refl in
        let source : is_file_name (string_at key.Source content) ≡ true =
        text_passes is_file_name (value_at key.Source content) (source_right.present refl refl) (wrong_string key.Source (value_at key.Source content) refl (source_right.kind refl)) (not_bad bad_name_in place 1 key.Source checked.names refl) in
        let schedule : has_path key.Schedule key.Schedule content ≡ true = or_second (has key.Schedule content) (is_name_path (strings_at key.Schedule content)) (λ there.
        path_passes (value_at key.Schedule content) there (schedule_right.kind refl) (not_bad bad_name_in place 2 key.Schedule checked.names refl)) in
        rw (name_there place 0 checked refl, source, schedule) refl

-- the password at a place among the keys
password_there : (place : Place) (at : ℕ) → IsChecked place → bad_password place ≡ None → slice_get (keys_of place.section) at ≡ Some key.Password → is_password (string_at key.Password place.table) ≡ true
password_there place at checked bad here =
    let right = right_at place at key.Password checked.missing checked.wrong here in
    text_passes is_password (value_at key.Password place.table) (right.present refl refl) (wrong_string key.Password (value_at key.Password place.table) refl (right.kind refl))
    (not_bad bad_password_in place at key.Password bad here)

pub sound_password : (place : Place) → IsChecked place → bad_password place ≡ None → has_password place ≡ true
sound_password place checked bad = by_section place.section place.path place.table checked bad
  where
    by_section : (s : Section) (path : List ℕ) (content : Members) → IsChecked (record { section = s; path = path; table = content }) → bad_password (record { section = s; path = path; table = content }) ≡ None
        → has_password (record { section = s; path = path; table = content }) ≡ true
    by_section section.Top path content checked bad = refl
    by_section section.Terminal path content checked bad = password_there (record { section = section.Terminal; path = path; table = content }) 1 checked bad refl
    by_section (section.Queue level) path content checked bad = elim (cases_Bool (level == 1)) [
      | inl top ↦ rw top (password_there (record { section = section.Queue level; path = path; table = content }) 1 checked bad (rw top refl))
      | inr below ↦ rw below refl
    ]
    by_section section.Unit path content checked bad = refl

-- all tables, one after another
pub all_checked : (places : List Place) → first_of missing_key places ≡ None → first_of wrong_kind places ≡ None → first_of bad_name places ≡ None → list_all has_names places ≡ true
all_checked [] missing wrong names = refl
all_checked (place ∷ places) missing wrong names =
    let m = neither (missing_key place) (first_of missing_key places) missing in
    let w = neither (wrong_kind place) (first_of wrong_kind places) wrong in
    let n = neither (bad_name place) (first_of bad_name places) names in
    rw (sound_names place (record { missing = m.0; wrong = w.0; names = n.0 }), all_checked places m.1 w.1 n.1) refl

pub all_passwords : (places : List Place) → first_of missing_key places ≡ None → first_of wrong_kind places ≡ None → first_of bad_name places ≡ None → first_of bad_password places ≡ None → list_all has_password places ≡ true
all_passwords [] missing wrong names bad = refl
all_passwords (place ∷ places) missing wrong names bad =
    let m = neither (missing_key place) (first_of missing_key places) missing in
    let w = neither (wrong_kind place) (first_of wrong_kind places) wrong in
    let n = neither (bad_name place) (first_of bad_name places) names in
    let b = neither (bad_password place) (first_of bad_password places) bad in
    rw (sound_password place (record { missing = m.0; wrong = w.0; names = n.0 }) b.0, all_passwords places m.1 w.1 n.1 b.1) refl
