-- What reading a file says of the file and of the counts.
use Rattle.std.proofs.Common.{◌≡◌, ℕ, ◌+◌, ◌≤◌, List, length, Option, Some, None, sym, ◌∙◌, ap, inl, inr, arith, length-take, take_all}
use Rattle.std.specs.Prelude.{◌⊎◌, IfSome, false}
use Rattle.std.proofs.lemmas.Option.{same_Some}
use Rattle.std.specs.FinMap as map
use Rattle.com_io.specs.Faults.{Rose}
use Rattle.com_io.specs.Files.{IsRead, IsPartRead, IsAbandoned, bytes_read, with_reading}
use Rattle.com_io.specs.Stores.{Shown, Contents}
use Rattle.mcs_top.specs.Files.{IsNotRead}
use Rattle.mcs_top.specs.Reports.{IsReported}
use Rattle.mcs_top.specs.Outcome.{IsUnfailed}

-- at most one byte past the limit is read
few_read : (limit : ℕ) (bytes file : List ℕ) → bytes ≡ bytes_read limit file → length bytes ≤ limit + 1
few_read limit bytes file h = omega (arith, ap length h, length-take (limit + 1) file)

read_part : (limit : ℕ) (name bytes : List ℕ) (before after : Option Contents)
    → IfSome before (λ c. (file : List ℕ) × (map.get c.files name ≡ Some file) × (bytes ≡ bytes_read limit file) × (after ≡ Some (with_reading name file (length bytes) false c)))
    → IsPartRead limit name false before after
read_part limit name bytes None after h = tt
read_part limit name bytes (Some c) after h = (h.0, length bytes, h.1, few_read limit bytes h.0 h.2, h.3)

pub read_abandoned : (limit : ℕ) (name bytes : List ℕ) (before after : Shown) → IsRead limit name bytes before after → IsAbandoned limit name before after
read_abandoned limit name bytes before after h = record { contents = inr (inr (read_part limit name bytes before.contents after.contents h.contents)); no_fault = h.no_fault }

-- an opening or a read that failed is counted still when the report was written
unread_rose : (file report : List ℕ) (before tried after : Shown) → IsNotRead file before tried → IsReported after tried report → Rose before.open_faults after.open_faults ⊎ Rose before.read_faults after.read_faults
unread_rose file report before tried after (inl h) (inl told) = inl (rw (← told.no_fault.open_faults) at h.rose)
unread_rose file report before tried after (inl h) (inr told) = inl (rw (← told.open_faults) at h.rose)
unread_rose file report before tried after (inr h) (inl told) = inr (rw (← told.no_fault.read_faults) at h.rose)
unread_rose file report before tried after (inr h) (inr told) = inr (rw (← told.read_faults) at h.rose)

pub never_unread : (file report : List ℕ) (before tried after : Shown) → IsNotRead file before tried → IsReported after tried report → IsUnfailed before after → ⊥
never_unread file report before tried after unread told unfailed = by_cause (unread_rose file report before tried after unread told) where
  by_cause : Rose before.open_faults after.open_faults ⊎ Rose before.read_faults after.read_faults → ⊥
  by_cause (inl h) = unfailed.opened h
  by_cause (inr h) = unfailed.read h

-- what was read of a file within the limit is the file
read_all : (limit : ℕ) (file : List ℕ) → length file ≤ limit → bytes_read limit file ≡ file
read_all limit file short = take_all (limit + 1) file (omega (arith, short))

pub read_is : (limit : ℕ) (name bytes file : List ℕ) (before read : Shown) (c : Contents) → IsRead limit name bytes before read → before.contents ≡ Some c → map.get c.files name ≡ Some file → length file ≤ limit
    → bytes ≡ file
read_is limit name bytes file before read c is_read told there short =
    let h = rw told at is_read.contents in
    let same : h.0 ≡ file = same_Some h.0 file (sym h.1 ∙ there) in
    h.2 ∙ (ap (λ f. bytes_read limit f) same ∙ read_all limit file short)
