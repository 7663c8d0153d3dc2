-- A description that gives a network has no fault, and is within the limit.
use Rattle.std.proofs.Common.{◌≡◌, ℕ, ◌<◌, ◌≤◌, true, List, length, Some, None, sym, ◌∙◌, inl, inr, arith, refl}
use Rattle.std.specs.Prelude.{◌⊎◌, codes}
use Rattle.std.proofs.lemmas.Bool.{cases_lt}
use Rattle.std.proofs.lemmas.Bool.Decides.{nat_tests}
use Rattle.std.proofs.lemmas.Option.{none-some}
use Rattle.com_io.specs.Files.{file_limit}
use Rattle.com_net.specs.declared.net.Net.{Net}
use Rattle.com_net.specs.declared.fault.NetKind.{NetKind}
use Rattle.com_net.specs.declared.fault.NetKind.TheVariants as kind
use Rattle.com_net.specs.Description.{net_of, net_fault_of, is_too_long}

pub never_both : (bytes : List ℕ) (fault : NetKind × List ℕ) (net : Net) → net_fault_of bytes ≡ Some fault → net_of bytes ≡ Some net → ⊥
never_both bytes fault net faulty described =
    let none : net_of bytes ≡ None = rw faulty refl in none-some net (sym none ∙ described)

by_length : (bytes : List ℕ) (net : Net) → net_of bytes ≡ Some net → (file_limit < length bytes) ⊎ (length bytes ≤ file_limit) → length bytes ≤ file_limit
by_length bytes net described (inr short) = short
by_length bytes net described (inl long) =
    let over : is_too_long bytes ≡ true = grind (arith, nat_tests, long) in
    let faulty : net_fault_of bytes ≡ Some (kind.OverLimit, codes "file") = rw over refl in
    absurd (never_both bytes (kind.OverLimit, codes "file") net faulty described)

pub is_short : (bytes : List ℕ) (net : Net) → net_of bytes ≡ Some net → length bytes ≤ file_limit
is_short bytes net described = by_length bytes net described (cases_lt file_limit (length bytes))
