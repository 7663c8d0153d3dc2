-- A journal: a header, and a line for each entry.
use Rattle.std.specs.Prelude.{◌≡◌, ℕ, List, [], ◌∷◌, ◌++◌, codes}
use Rattle.std.specs.List.{flat_map}
use Rattle.com_events.specs.declared.entry.Entry.{Entry}
use Rattle.com_journal.specs.Lines.{IsLine}

abbrev pub journal_header : List ℕ
journal_header = codes "MCS-JOURNAL 1"

-- lines, each with its line feed
abbrev pub ended : List (List ℕ) → List ℕ
ended lines = flat_map (λ line. line ++ 10 ∷ []) lines

-- the lines of entries, in order
abbrev pub AreLines : List Entry → List (List ℕ) → Type 0
AreLines [] [] = Unit {0}
AreLines (entry ∷ entries) (line ∷ lines) = IsLine entry line × AreLines entries lines
AreLines [] (line ∷ lines) = ⊥
AreLines (entry ∷ entries) [] = ⊥

-- the journal of a history
abbrev pub IsJournal : List Entry → List ℕ → Type 0
IsJournal history bytes =
    (lines : List (List ℕ)) × AreLines history lines
    × (bytes ≡ ended (journal_header ∷ lines))
