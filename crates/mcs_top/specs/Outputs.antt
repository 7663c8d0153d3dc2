-- What a run writes: the journal, a transcript for each terminal, and a summary.
use Rattle.std.specs.Prelude.{◌≡◌, ℕ, ◌+◌, List, [], ◌∷◌, ◌++◌, length, Option, Some, None, option_map, codes, decimal}
use Rattle.std.specs.List.{flat_map}
use Rattle.com_io.specs.declared.store.StoreFault.{StoreFault}
use Rattle.com_io.specs.Stores.{Contents, Writing, output_name, with_output, IsUndone}
use Rattle.com_net.specs.declared.net.Net.{Net}
use Rattle.com_net.specs.declared.net.Terminal.{Terminal}
use Rattle.com_net.specs.declared.net.UnitRow.{UnitRow}
use Rattle.com_events.specs.declared.call.StopReason.{StopReason}
use Rattle.com_events.specs.declared.call.EndReason.{EndReason}
use Rattle.com_events.specs.declared.entry.Entry.{Entry}
use Rattle.com_journal.specs.Words.{stop_word}
use Rattle.com_journal.specs.Lines.{spaced, end_fields}
use Rattle.com_state.specs.Transcripts.{sent_by, transcript_of}
use Rattle.mcs_top.specs.Histories.{arrivals, portions, stop_reason, end_reason}

-- why a unit stops, as in the journal, or a hyphen
abbrev pub stop_field : Option StopReason → List ℕ
stop_field None = codes "-"
stop_field (Some reason) = stop_word reason

-- why a terminal ends, as in the journal, or a hyphen
abbrev pub end_field : Option EndReason → List ℕ
end_field None = codes "-"
end_field (Some reason) = spaced (end_fields reason)

-- a word with its space, a name, and a reason
abbrev pub party_line : List ℕ → List ℕ → List ℕ → List ℕ
party_line word name reason = word ++ (name ++ 32 ∷ (reason ++ codes "\n"))

-- a line for each unit, in the order of the description
abbrev pub unit_lines : List UnitRow → List Entry → List ℕ
unit_lines units history = flat_map
    (λ unit. party_line (codes "unit ") unit.name (stop_field (stop_reason unit.name history))) units

-- a line for each terminal, in the order of the description
abbrev pub terminal_lines : List Terminal → List Entry → List ℕ
terminal_lines terminals history = flat_map
    (λ terminal. party_line (codes "terminal ") terminal.name
    (end_field (end_reason terminal.name history))) terminals

abbrev pub count_line : List ℕ → ℕ → List ℕ
count_line word n = word ++ (decimal n ++ codes "\n")

abbrev pub count_lines : ℕ → ℕ → ℕ → List ℕ
count_lines arrivals portions transmitted =
    count_line (codes "arrivals ") arrivals
    ++ (count_line (codes "portions ") portions ++ count_line (codes "transmitted ") transmitted)

-- The reason of each party, and the counts: arrivals, portions, and messages that were transmitted
-- to all terminals together.
abbrev pub summary : Net → List Entry → List ℕ
summary net history =
    unit_lines net.units history
    ++ (terminal_lines net.terminals history
    ++ count_lines (arrivals history) (portions history) (length (sent_by net history)))

abbrev pub journal_name : List ℕ
journal_name = codes "journal.txt"

abbrev pub transcript_name : List ℕ → List ℕ
transcript_name terminal = terminal ++ codes ".out"

-- what is written under a name
abbrev pub writing : List ℕ → List ℕ → Writing
writing name bytes = record { name = name; bytes = bytes }

-- the transcripts of these terminals, the first of which has this number in the network
abbrev pub transcripts : Net → List Entry → ℕ → List Terminal → List Writing
transcripts net history number [] = []
transcripts net history number (terminal ∷ terminals) =
    writing (transcript_name terminal.name) (transcript_of net history number)
    ∷ transcripts net history (number + 1) terminals

-- all that is written, in this order
abbrev pub outputs : Net → List Entry → List ℕ → List Writing
outputs net history journal =
    writing journal_name journal
    ∷ transcripts net history 0 net.terminals ++ writing output_name (summary net history) ∷ []

-- the contents after some writes, one after another
abbrev pub contents_after : List Writing → Contents → Contents
contents_after [] c = c
contents_after (write ∷ writes) c = contents_after writes (with_output write.name write.bytes c)

-- Some of the writes were done, in order. The next one was not, and it is the last that was asked
-- for.
pub record StopsAtWrite (fault : StoreFault) (writes : List Writing)
    (before after : Option Contents) : Type 0 where
  pub done : List Writing
  pub next : Writing
  pub rest : List Writing
  pub split : writes ≡ done ++ next ∷ rest
  pub undone : IsUndone fault next.name next.bytes (option_map (contents_after done) before) after
