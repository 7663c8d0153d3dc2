-- What a source in memory is, and what a read makes of it.
use Rattle.std.specs.Prelude.{ℕ, Bool, List, drop, Result, Ok, Err}
use Rattle.com_io.specs.Listed.{next_count, is_next_listed}

-- what is left, how often it was read and has failed, and which of its reads fail
pub record Reading : Type 0 where
  pub left : List ℕ
  pub reads : ℕ
  pub faults : ℕ
  pub failing : List ℕ

-- with these bytes and these failing reads, before any read
abbrev pub new_reading : List ℕ → List ℕ → Reading
new_reading bytes failing = record { left = bytes; reads = 0; faults = 0; failing = failing }

abbrev pub is_failing_read : Reading → Bool
is_failing_read r = is_next_listed r.reads r.failing

-- a read takes the bytes that it gives, and a failed one takes none
abbrev pub after_read : {E : Type 0} → Result ℕ E → Reading → Reading
after_read (Ok n) r = record r { left = drop n r.left; reads = next_count r.reads }
after_read (Err _) r = record r { reads = next_count r.reads; faults = next_count r.faults }
