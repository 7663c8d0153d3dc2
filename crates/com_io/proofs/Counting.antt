-- How many calls of a kind a store in memory keeps.
use Rattle.std.proofs.Common.{◌≡◌, ◌+◌, List, ◌∷◌, length, map, cond, refl, arith}
use Rattle.std.specs.Prelude.{count_by, is_some}
use Rattle.std.proofs.lemmas.List.Recursion.{is_count_by}
use Rattle.com_io.specs.declared.memory_store.Call.{Call}
use Rattle.com_io.specs.declared.memory_store.Call.TheVariants.{Opened, Closed, Wrote}
use Rattle.com_io.specs.Kept.{call_of}
use Rattle.com_io.specs.Stores.{opened_name, openings, writing_asked, writings}

one_opening_more : (call : Call) (calls : List Call) → length (openings (map call_of (call ∷ calls))) ≡ cond (is_some (opened_name (call_of call))) (1 + length (openings (map call_of calls))) (length (openings (map call_of calls)))
one_opening_more (Opened name ok) calls = omega arith
one_opening_more (Closed left failed) calls = refl
one_opening_more (Wrote name bytes ok) calls = refl

pub openings_counted : (calls : List Call) → length (openings (map call_of calls)) ≡ count_by (λ call. is_some (opened_name (call_of call))) calls
openings_counted = is_count_by (λ calls. length (openings (map call_of calls))) _ refl one_opening_more

one_write_more : (call : Call) (calls : List Call) → length (writings (map call_of (call ∷ calls))) ≡ cond (is_some (writing_asked (call_of call))) (1 + length (writings (map call_of calls))) (length (writings (map call_of calls)))
one_write_more (Opened name ok) calls = refl
one_write_more (Closed left failed) calls = refl
one_write_more (Wrote name bytes ok) calls = omega arith

pub writings_counted : (calls : List Call) → length (writings (map call_of calls)) ≡ count_by (λ call. is_some (writing_asked (call_of call))) calls
writings_counted = is_count_by (λ calls. length (writings (map call_of calls))) _ refl one_write_more
