-- By which a proof tells the values of a store in memory apart.
use Rattle.std.specs.Prelude.{ℕ, ◌⊎◌, ◌≡◌, Bool, List, refl}
use mathlib.Core.Logic.{inl, inr}
use Rattle.std.specs.Coded.{Coded, code_by, coded×, coded⊎, coded_ℕ, coded_bool, coded_list}
use Rattle.std.specs.FinMap as map
use Rattle.com_io.specs.declared.memory_store.FailingWrite.{FailingWrite}
use Rattle.com_io.specs.Stores.{Named, StoreCall, Opened, Closed, Wrote, Contents}
use Rattle.com_io.specs.Shelf.{Shelf}

abbrev pub named_code : Coded Named
named_code = map.code (coded_list coded_ℕ) (coded_list coded_ℕ)

-- the parts of a call
abbrev Parts : Type 0
Parts = (List ℕ × Bool) ⊎ ((ℕ × Bool) ⊎ (List ℕ × (List ℕ × Bool)))

abbrev parts_code : Coded Parts
parts_code =
    coded⊎ (coded× (coded_list coded_ℕ) coded_bool)
    (coded⊎ (coded× coded_ℕ coded_bool)
    (coded× (coded_list coded_ℕ) (coded× (coded_list coded_ℕ) coded_bool)))

abbrev parts_of : StoreCall → Parts
parts_of (Opened name ok) = inl (name, ok)
parts_of (Closed left failed) = inr (inl (left, failed))
parts_of (Wrote name bytes ok) = inr (inr (name, (bytes, ok)))

abbrev of_parts : Parts → StoreCall
of_parts (inl p) = Opened p.0 p.1
of_parts (inr (inl p)) = Closed p.0 p.1
of_parts (inr (inr p)) = Wrote p.0 p.1.0 p.1.1

pub parts_back : (call : StoreCall) → of_parts (parts_of call) ≡ call
parts_back (Opened name ok) = refl
parts_back (Closed left failed) = refl
parts_back (Wrote name bytes ok) = refl

abbrev pub call_code : Coded StoreCall
call_code = code_by Parts parts_code parts_of of_parts parts_back

abbrev pub contents_code : Coded Contents
contents_code =
    code_by (Named × (Named × List StoreCall))
    (coded× named_code (coded× named_code (coded_list call_code)))
    (λ c. (c.files, (c.outs, c.calls)))
    (λ p. record { files = p.0; outs = p.1.0; calls = p.1.1 }) (λ _. refl)

abbrev pub failing_write_code : Coded FailingWrite
failing_write_code =
    code_by (ℕ × ℕ) (coded× coded_ℕ coded_ℕ) (λ f. (f.number, f.keep))
    (λ p. record { number = p.0; keep = p.1 }) (λ _. refl)

-- the four counts
abbrev Counts : Type 0
Counts = ℕ × (ℕ × (ℕ × ℕ))

abbrev counts_code : Coded Counts
counts_code = coded× coded_ℕ (coded× coded_ℕ (coded× coded_ℕ coded_ℕ))

abbrev counts_of : Shelf → Counts
counts_of s = (s.pending, (s.open_faults, (s.read_faults, s.write_faults)))

-- the listed failures
abbrev Failures : Type 0
Failures = List ℕ × (List FailingWrite × Named)

abbrev failures_code : Coded Failures
failures_code = coded× (coded_list coded_ℕ) (coded× (coded_list failing_write_code) named_code)

abbrev failures_of : Shelf → Failures
failures_of s = (s.failing_opens, (s.failing_writes, s.failing_reads))

abbrev shelf_of : Contents → Counts → Failures → Shelf
shelf_of held n f = record {
  held = held;
  pending = n.0;
  open_faults = n.1.0;
  read_faults = n.1.1.0;
  write_faults = n.1.1.1;
  failing_opens = f.0;
  failing_writes = f.1.0;
  failing_reads = f.1.1;
}

abbrev pub shelf_code : Coded Shelf
shelf_code =
    code_by (Contents × (Counts × Failures))
    (coded× contents_code (coded× counts_code failures_code))
    (λ s. (s.held, (counts_of s, failures_of s)))
    (λ p. shelf_of p.0 p.1.0 p.1.1) (λ _. refl)
