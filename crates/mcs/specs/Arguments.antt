-- What the program makes of the arguments that it is given.
use Rattle.std.specs.Prelude.{ℕ, List, [], drop, map, None, Result, Ok, Err, string_bytes}
use Rattle.std.specs.Vec.Iter.{into_iter_items}
use Rattle.std.specs.declared.string.String.{String}
use Rattle.std.specs.declared.vec.IntoIter.{IntoIter}
use Rattle.com_io.specs.Stores.{Shown}
use Rattle.mcs_top.specs.Outcome.{IsOutcome}

-- The words of the command: all arguments but the first, which is the program's name. Arguments that
-- could not be had have no words.
abbrev pub words_of : {X Y E : Type 0} → Result (IntoIter (String X) Y) E → List (List ℕ)
words_of (Ok arguments) = map string_bytes (drop 1 (into_iter_items arguments))
words_of (Err error) = []

-- a store that tells no content, before any call
abbrev pub untouched : Shown
untouched =
    record { contents = None; pending = 0; open_faults = 0; read_faults = 0; write_faults = 0 }

-- the exit status of the command of these words on such a store
abbrev pub IsStatusOf : List (List ℕ) → ℕ → Type 0
IsStatusOf words status = (after : Shown) × IsOutcome words status untouched after
