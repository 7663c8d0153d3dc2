use Rattle.std.proofs.Common.{Result, Ok, Err, OnOk, ◌++◌, ◌∷◌, [], arith}
use Rattle.com_journal.proofs.LineLengths.{short_line}
use Rattle.disk_tests.proofs.logs.add.Goals as goal

-- a fact of an Ok gives another
follows : {A E : Type 0} (P Q : Type 0) (r : Result A E) → OnOk r P → (P → Q) → OnOk r Q
follows P Q (Ok x) p f = f p
follows P Q (Err e) p f = tt

pub append-requires-clause-room : goal.append-requires-clause-room
append-requires-clause-room g c line is_line = omega (arith, short_line c.in-Some.entry line is_line, c.if-bytes-gt-MANY.false, c.bytes.ensures.bytes)

pub returns : goal.returns
returns g c =
    follows _ _ c.append.result c.append.ensures.at (λ at t.
    let held = c.requires t in
    (held.0 ++ c.in-Some.entry ∷ [], at t held.0 held.1))
