-- What is no description at all.
use Rattle.std.proofs.Common.{◌≡◌, ℕ, false, List, Some, None, refl, inl, inr}
use Rattle.std.specs.Prelude.{codes, IsUtf8}
use Rattle.std.specs.Str.{is_utf8}
use Rattle.std.proofs.lemmas.Bool.{cases_Bool}
use Rattle.std.proofs.lemmas.Str.{IsUtf8-from_is_utf8}
use Rattle.toml.specs.Parse.{parse_document}
use Rattle.com_net.specs.declared.fault.NetKind.TheVariants as kind
use Rattle.com_net.specs.Description.{is_too_long, net_fault_of}

-- bytes that are no text, or no document
pub no_document : (bytes : List ℕ) → is_too_long bytes ≡ false → (IsUtf8 bytes → parse_document bytes ≡ None) → net_fault_of bytes ≡ Some (kind.NotToml, codes "file")
no_document bytes short none = elim (cases_Bool (is_utf8 bytes)) [
  | inl text ↦ rw (short, text, none (IsUtf8-from_is_utf8 bytes text)) refl
  | inr other ↦ rw (short, other) refl
]
