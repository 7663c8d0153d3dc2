-- Lists of calls, worked out: which call came first is told, and so is what one kind of call was.
use Rattle.std.proofs.Common.{◌≡◌, true, false, List, [], ◌∷◌, length, take, refl, ap, arith}
use Rattle.std.specs.Prelude.{codes}
use Rattle.com_io.specs.Stores.{StoreCall, Opened, Closed, Wrote, openings, closings}

-- a file is opened and closed, and then something is written
abbrev in_time : List StoreCall
in_time = Opened (codes "IN") true ∷ Closed 0 false ∷ Wrote (codes "OUT") (codes "OK") true ∷ []

-- the file is closed behind the write
abbrev late : List StoreCall
late = Opened (codes "IN") true ∷ Wrote (codes "OUT") (codes "OK") true ∷ Closed 0 false ∷ []

late_is_another : late ≡ in_time → ⊥
late_is_another same = let closed : 0 ≡ 1 = ap (λ (calls : List StoreCall). length (closings (take 2 calls))) same in absurd (omega (arith, closed))

-- both opened and closed the same
same_openings : openings late ≡ openings in_time
same_openings = refl

same_closings : closings late ≡ closings in_time
same_closings = refl

-- two inputs are opened, and closed later in the same order; a read of the second failed
abbrev held : List StoreCall
held = Opened (codes "T1") true ∷ Opened (codes "T2") true ∷ Closed 0 false ∷ Closed 5 true ∷ []

held_openings : openings held ≡ codes "T1" ∷ codes "T2" ∷ []
held_openings = refl

held_closings : closings held ≡ (0, false) ∷ (5, true) ∷ []
held_closings = refl
