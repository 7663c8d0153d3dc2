-- Small programs over a few items.
use Rattle.std.proofs.Common.{ℕ, List, [], ◌∷◌, ◌++◌, Some, None, codes}
use Rattle.com_cd.specs.InputArea.{opening_area}
use Rattle.com_cd.specs.OutputArea.{opening_output}
use Rattle.com_events.specs.declared.call.Call.TheVariants as call
use Rattle.com_events.specs.declared.call.StopReason.TheVariants as stop
use Rattle.com_msg.specs.declared.sending.Part.TheVariants as part
use Rattle.cob_proc.specs.Trees.{Tree, ParagraphTree}
use Rattle.cob_data.specs.declared.tree.ItemSort.TheVariants.{Alphanumeric, Numeric, Group}
use Rattle.cob_data.specs.Layout.{Referent, input_cd, output_cd}
use Rattle.cob_meaning.specs.Layouts.{Layout}
use Rattle.cob_meaning.specs.Meaning.{Ending, Stopped, Wants, Meaning, Program, meaning}
use Rattle.cob_meaning.proofs.Trees.{name, item, paragraph, send_of, an_item, a_table}

-- A is PIC X(3), B is X(5), M is 9(3), N is 9(5), and G is a group of X(2) and 9(2), whose first character is K too; D is a CD of two
-- destinations, whose names are TO, and C is one for input
abbrev pub names : List (List ℕ × Referent)
names =
    (codes "A", an_item 0 0 3 Alphanumeric)
    ∷ (codes "B", an_item 1 0 5 Alphanumeric)
    ∷ (codes "M", an_item 2 0 3 Numeric)
    ∷ (codes "N", an_item 3 0 5 Numeric)
    ∷ (codes "G", an_item 4 0 4 Group)
    ∷ (codes "GX", an_item 4 0 2 Alphanumeric)
    ∷ (codes "K", an_item 4 0 1 Alphanumeric)
    ∷ (codes "GN", an_item 4 2 2 Numeric)
    ∷ (codes "D", output_cd 5 2)
    ∷ (codes "TO", a_table 5 11 12 Alphanumeric 2)
    ∷ (codes "C", input_cd 6)
    ∷ (codes "LEN", an_item 6 74 4 Numeric) ∷ []

-- the area of D as it begins
abbrev pub out_area : List ℕ
out_area = opening_output 2

abbrev pub layout : List ℕ → List ℕ → List ℕ → Layout
layout a m g = record { names = names; opening = a ∷ codes "BBBBB" ∷ m ∷ codes "12345" ∷ g ∷ out_area ∷ opening_area ∷ []; initial = Some 6 }

-- a program that begins with these characters in A, M and G
abbrev pub program : List ℕ → List ℕ → List ℕ → List ParagraphTree → Program
program a m g text = record { layout = layout a m g; text = text }

-- SEND D FROM an item, to show what it holds
abbrev pub shows : List ℕ → Tree
shows text = send_of (name (codes "D")) (Some (item text)) None

abbrev pub sent : List ℕ → Meaning
sent text = record { calls = []; ending = Wants (call.Send out_area part.Portion (Some text)) }

abbrev pub at_once : Ending → Meaning
at_once ending = record { calls = []; ending = ending }

abbrev pub data_fault : Meaning
data_fault = at_once (Stopped stop.DataFault)

-- what one paragraph does, with no reply
abbrev pub does : List ℕ → List ℕ → List ℕ → List Tree → Meaning
does a m g statements = meaning (program a m g (paragraph (codes "MAIN") statements ∷ [])) None []

-- the same where A holds ABC, M holds 042 and G holds XY12
abbrev pub then_shows : List Tree → List ℕ → Meaning
then_shows statements text = does (codes "ABC") (codes "042") (codes "XY12") (statements ++ shows text ∷ [])
