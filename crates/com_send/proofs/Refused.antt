-- What a refused SEND, ENABLE or DISABLE OUTPUT writes.
use Rattle.std.proofs.Common.{◌≡◌, ℕ, ◌+◌, ◌-◌, ◌*◌, ◌≤◌, Bool, true, false, List, [], ◌∷◌, ◌++◌, length, take, drop, Option, Some, None, refl, sym, ap, ◌∙◌, arith, length-append, append_assoc}
use Rattle.std.specs.Prelude.{IsTrue, if◌then◌else◌, codes, slice_range}
use Rattle.std.specs.List.{fold, enumerate_from}
use Rattle.std.specs.Str.{bytes_eq}
use Rattle.std.proofs.lemmas.Bool.{false≢true}
use Rattle.std.proofs.lemmas.List.{take_at, drop_at, length-take, length-take-le}
use Rattle.com_msg.specs.declared.sending.Part.{Part}
use Rattle.com_cd.specs.OutputArea.{IsOutputArea, out_field}
use Rattle.com_cd.specs.Status.{status_bytes, with_output_status}
use Rattle.com_cd.specs.declared.status.Status.{Status}
use Rattle.com_cd.specs.declared.status.Status.TheVariants.{S00, S10, S20, S30, S40, S50, S60}
use Rattle.com_cd.specs.declared.output_area.OutField.TheVariants as field
use Rattle.com_send.specs.declared.destination.Destination.{Destination}
use Rattle.com_send.specs.Outgoing.{Outgoing}
use Rattle.com_send.specs.Found.{Found, find_destinations, has_unknown, at_each, error_key, keyed, with_error_keys, with_keys}
use Rattle.com_send.specs.Sending.{Answer, serve, has_disabled, send_status, sent_text, is_nothing, send, send_found, send_to}
use Rattle.com_send.specs.Switching.{switch, switch_output, switch_found, switch_status, is_key_of_each}
use Rattle.com_send.specs.Laws.{is_send_refusal, is_switch_refusal}
use Rattle.com_cd.proofs.StatusKeys.{output_status}

-- error keys leave the beginning of an area
long_key : (area : List ℕ) (at : ℕ) (destination : Option ℕ) → 8 ≤ length area → 8 ≤ length (keyed area (at, destination))
long_key area at destination h =
    let front = take (10 + 13 * at) area in
    let key = error_key destination in
    let behind = drop (10 + 13 * at + 1) area in
    omega (arith, h, length-append (front ++ key) behind, length-append front key, length-take (10 + 13 * at) area)

long_keys : (first : ℕ) (found : Found) (area : List ℕ) → 8 ≤ length area → 8 ≤ length (fold keyed area (enumerate_from first found))
long_keys first [] area h = h
long_keys first (destination ∷ found) area h = long_keys (first + 1) found (keyed area (first, destination)) (long_key area first destination h)

-- where a call tells a refusal, it changes the status key alone
abbrev Alone : (Status → Bool) → List ℕ → Outgoing → Status → Answer → Type 0
Alone is_refusal area outgoing status answer =
    IsTrue (is_refusal status) → out_field field.Status answer.0 ≡ status_bytes status → answer ≡ (with_output_status status area, outgoing)

refused : (is_refusal : Status → Bool) (area : List ℕ) (outgoing : Outgoing) (own status : Status) → 8 ≤ length area
    → Alone is_refusal area outgoing status (with_output_status own area, outgoing)
refused is_refusal area outgoing own status within refusal tells =
    ap (λ (s : Status). (with_output_status s area, outgoing)) (output_status area own status within tells)

served : (is_refusal : Status → Bool) (area written : List ℕ) (outgoing next : Outgoing) (own status : Status) → is_refusal own ≡ false → 8 ≤ length written
    → Alone is_refusal area outgoing status (with_output_status own written, next)
served is_refusal area written outgoing next own status none within refusal tells =
    absurd (false≢true (sym none ∙ (ap is_refusal (output_status written own status within tells) ∙ refusal)))

no_send_refusal : (found : Found) (outgoing : Outgoing) → is_send_refusal (send_status found outgoing) ≡ false
no_send_refusal found outgoing = at_tests (has_unknown found) (has_disabled found outgoing)
  where
    at_tests : (b c : Bool) → is_send_refusal (if b then S20 else if c then S10 else S00) ≡ false
    at_tests true c = refl
    at_tests false true = refl
    at_tests false false = refl

no_switch_refusal : (found : Found) → is_switch_refusal (switch_status found) ≡ false
no_switch_refusal found = at_test (has_unknown found)
  where
    at_test : (b : Bool) → is_switch_refusal (if b then S20 else S00) ≡ false
    at_test true = refl
    at_test false = refl

send_alone : (outgoing : Outgoing) (unit : ℕ) (area : List ℕ) (part : Part) (o : Option Found) (t : Option (List ℕ)) (status : Status) → 8 ≤ length area
    → Alone is_send_refusal area outgoing status (send_found outgoing unit area part o t)
send_alone outgoing unit area part None t status within = refused is_send_refusal area outgoing S30 status within
send_alone outgoing unit area part (Some found) None status within = refused is_send_refusal area outgoing S50 status within
send_alone outgoing unit area part (Some found) (Some text) status within = at_test (is_nothing part text)
  where
    at_test : (b : Bool) → Alone is_send_refusal area outgoing status (if b then (with_output_status S60 area, outgoing) else send_to outgoing unit area part text found)
    at_test true = refused is_send_refusal area outgoing S60 status within
    at_test false = served is_send_refusal area (with_error_keys found area) outgoing (at_each found (serve unit part text) outgoing) (send_status found outgoing) status (no_send_refusal found outgoing) (long_keys 0 found area within)

switch_alone : (destinations : List Destination) (outgoing : Outgoing) (on : Bool) (area key : List ℕ) (o : Option Found) (status : Status) → 8 ≤ length area
    → Alone is_switch_refusal area outgoing status (switch_found destinations outgoing on area key o)
switch_alone destinations outgoing on area key None status within = refused is_switch_refusal area outgoing S30 status within
switch_alone destinations outgoing on area key (Some found) status within = at_test (is_key_of_each found key destinations)
  where
    at_test : (b : Bool) → Alone is_switch_refusal area outgoing status (if b then (with_keys found (switch_status found) area, at_each found (switch on) outgoing) else (with_output_status S40 area, outgoing))
    at_test true = served is_switch_refusal area (with_error_keys found area) outgoing (at_each found (switch on) outgoing) (switch_status found) status (no_switch_refusal found) (long_keys 0 found area within)
    at_test false = refused is_switch_refusal area outgoing S40 status within

-- an output area has its front
front : (area : List ℕ) → IsOutputArea area → 8 ≤ length area
front area is = let whole = is.whole in omega arith

pub refused_send : (destinations : List Destination) (outgoing : Outgoing) (unit : ℕ) (area : List ℕ) (part : Part) (item : Option (List ℕ)) (status : Status) → IsOutputArea area
    → IsTrue (is_send_refusal status) → out_field field.Status (send destinations outgoing unit area part item).0 ≡ status_bytes status
    → send destinations outgoing unit area part item ≡ (with_output_status status area, outgoing)
refused_send destinations outgoing unit area part item status is =
    send_alone outgoing unit area part (find_destinations destinations area) (sent_text area item) status (front area is)

pub refused_switch : (destinations : List Destination) (outgoing : Outgoing) (on : Bool) (area key : List ℕ) (status : Status) → IsOutputArea area
    → IsTrue (is_switch_refusal status) → out_field field.Status (switch_output destinations outgoing on area key).0 ≡ status_bytes status
    → switch_output destinations outgoing on area key ≡ (with_output_status status area, outgoing)
refused_switch destinations outgoing on area key status is =
    switch_alone destinations outgoing on area key (find_destinations destinations area) status (front area is)
