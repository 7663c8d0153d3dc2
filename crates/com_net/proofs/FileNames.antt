-- File names and passwords are texts.
use Rattle.std.proofs.Common.{◌≡◌, ℕ, nat_le, Bool, true, false, not, ◌&&◌, List, [], ◌∷◌, length, refl, arith}
use Rattle.std.specs.Prelude.{◌||◌, ◌==◌, slice_index}
use Rattle.std.specs.List.{list_all}
use Rattle.std.proofs.lemmas.Bool.{and_parts, false≢true}
use Rattle.std.proofs.lemmas.Bool.Decides.{nat_tests}
use Rattle.com_text.specs.Text.{IsText, is_text_byte}
use Rattle.com_net.specs.Network.{is_file_name, is_file_name_byte}

text_of_bytes : (bytes : List ℕ) → list_all is_file_name_byte bytes ≡ true → IsText bytes
text_of_bytes [] h = refl
text_of_bytes (byte ∷ bytes) h =
    let parts = and_parts (is_file_name_byte byte) (list_all is_file_name_byte bytes) h in
    let here : is_text_byte byte ≡ true = grind (arith, nat_tests, parts.0) in
    rw (here, text_of_bytes bytes parts.1) refl

pub IsText-file_name : (name : List ℕ) → is_file_name name ≡ true → IsText name
IsText-file_name name h =
    let one = and_parts ((nat_le 1 (length name) && nat_le (length name) 64) && list_all is_file_name_byte name) (not (slice_index name 0 == 46)) h in
    text_of_bytes name (and_parts (nat_le 1 (length name) && nat_le (length name) 64) (list_all is_file_name_byte name) one.0).1

pub if_there : (there ok : Bool) → (not there || ok) ≡ true → there ≡ true → ok ≡ true
if_there true ok h t = h
if_there false ok h t = absurd (false≢true t)
