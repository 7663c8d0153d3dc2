-- All calls that were made on a store between two moments.
use Rattle.std.specs.Prelude.{◌≡◌, ℕ, true, false, List, [], ◌∷◌, ◌++◌, map, IfSome, IsSomeAnd}
use Rattle.std.specs.List.{flat_map}
use Rattle.com_io.specs.Stores.{StoreCall, Opened, Closed, Wrote, Writing, Contents, Shown, output_name}
use Rattle.com_msg.specs.declared.framing.Framing.{Framing}
use Rattle.mcs_top.specs.declared.ends.Verdict.{Verdict}
use Rattle.mcs_top.specs.Outputs.{outputs}
use Rattle.mcs_top.specs.Replay.{HasReplayed}
use Rattle.mcs_top.specs.Check.{HasChecked, check_text}
use Rattle.mcs_top.specs.Showing.{HasShown}

-- These calls were made on the store, in this order, and no others.
pub record WasAskedFor (made : List StoreCall) (before after : Contents) : Type 0 where
  pub files : after.files ≡ before.files
  pub calls : after.calls ≡ before.calls ++ made

-- a file that was opened, read to its end without a fault, and closed
abbrev pub whole_reading : List ℕ → List StoreCall
whole_reading name = Opened name true ∷ Closed 0 false ∷ []

-- a write that was done
abbrev pub done_write : Writing → StoreCall
done_write write = Wrote write.name write.bytes true

-- A replay that is done opened NET, read it to its end and closed it, then opened SCRIPT, read it to its
-- end and closed it, and then wrote each output once.
abbrev pub AReplayReadsTwoFiles : Type 0
AReplayReadsTwoFiles =
    (before after : Shown) (net_file script_file : List ℕ) (verdict : Verdict)
    (h : HasReplayed before after net_file script_file verdict) →
    IfSome before.contents (λ c. IsSomeAnd after.contents (λ d. WasAskedFor
    (whole_reading net_file
    ++ (whole_reading script_file ++ map done_write (outputs h.net h.history h.journal))) c d))

-- A check that is done opened NET, read it to its end and closed it, then did so with the file of each
-- unit, in their order, and then wrote once.
abbrev pub ACheckReadsEachSource : Type 0
ACheckReadsEachSource =
    (net_file : List ℕ) (before after : Shown) (h : HasChecked net_file before after) →
    IfSome before.contents (λ c. IsSomeAnd after.contents (λ d. WasAskedFor
    (whole_reading net_file
    ++ (flat_map (λ unit. whole_reading unit.source) h.checked.net.units
    ++ Wrote output_name check_text true ∷ [])) c d))

-- A show that is done opened FILE, read it to its end, closed it, and then wrote once.
abbrev pub AShowReadsOneFile : Type 0
AShowReadsOneFile =
    (framing : Framing) (before after : Shown) (file : List ℕ)
    (h : HasShown framing file before after) →
    IfSome before.contents (λ c. IsSomeAnd after.contents (λ d. WasAskedFor
    (whole_reading file ++ Wrote output_name h.text true ∷ []) c d))
