-- What the readers of a whole line give, in the words of its definition.
use Rattle.std.proofs.Common.{ℕ, Result, Ok, Err, List, sym, ◌∙◌}
use Rattle.std.specs.Result.{IfOk, MatchResult}
use Rattle.std.proofs.lemmas.Option.{none-some, same_Some}
use Rattle.com_events.specs.declared.call.Party.{Party}
use Rattle.com_events.specs.declared.call.Call.{Call}
use Rattle.com_events.specs.declared.entry.Entry.{Entry}
use Rattle.com_journal.specs.declared.line.Unread.{Unread}
use Rattle.com_journal.specs.declared.line.Unread.TheVariants as unread
use Rattle.com_journal.specs.Lines.{IsCallText, IsLine}
use Rattle.com_journal.specs.inner.Outcomes.{Gives, Is, IsOutOfMemory}
use Rattle.com_journal.specs.inner.Reading.{call_of, entry_of}
use Rattle.com_journal.proofs.LineLaws.{call-sound, call-complete, entry-sound, entry-complete}

pub found_call : (line : List ℕ) (r : Result (Party × Call) Unread) → Gives (λ found. found) r (call_of line) → IfOk r (λ found. IsCallText found.0 found.1 line)
found_call line (Ok found) h = call-sound line found.0 found.1 h
found_call line (Err e) h = tt

pub each_call : (line : List ℕ) (r : Result (Party × Call) Unread) → Gives (λ found. found) r (call_of line) → (party : Party) (call : Call) → IsCallText party call line → MatchResult r (Is (party, call)) IsOutOfMemory
each_call line (Ok found) h party call is = same_Some found (party, call) (sym h ∙ call-complete line party call is)
each_call line (Err unread.Refused) h party call is = absurd (none-some (party, call) (sym h ∙ call-complete line party call is))
each_call line (Err unread.Memory) h party call is = tt

pub found_entry : (line : List ℕ) (r : Result Entry Unread) → Gives (λ entry. entry) r (entry_of line) → IfOk r (λ entry. IsLine entry line)
found_entry line (Ok entry) h = entry-sound line entry h
found_entry line (Err e) h = tt

pub each_entry : (line : List ℕ) (r : Result Entry Unread) → Gives (λ entry. entry) r (entry_of line) → (entry : Entry) → IsLine entry line → MatchResult r (Is entry) IsOutOfMemory
each_entry line (Ok found) h entry is = same_Some found entry (sym h ∙ entry-complete line entry is)
each_entry line (Err unread.Refused) h entry is = absurd (none-some entry (sym h ∙ entry-complete line entry is))
each_entry line (Err unread.Memory) h entry is = tt
