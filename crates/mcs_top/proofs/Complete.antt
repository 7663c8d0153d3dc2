-- Where nothing is wrong with the files and no call failed, a command is done.
use Rattle.std.proofs.Common.{◌≡◌, ℕ, ◌≤◌, List, length, Option, Some, None, inl, inr, arith, refl}
use Rattle.std.specs.Prelude.{◌⊎◌, IsSomeAnd}
use Rattle.std.proofs.lemmas.Option.{none-some}
use Rattle.com_io.specs.Faults.{Rose}
use Rattle.com_io.specs.Stores.{Contents, Shown}
use Rattle.com_msg.specs.declared.framing.Framing.{Framing}
use Rattle.com_io.specs.Files.{file_limit}
use Rattle.mcs_top.specs.declared.show.Ending.{Ending}
use Rattle.mcs_top.specs.declared.show.Ending.TheVariants as ending
use Rattle.mcs_top.specs.Show.{EndsSo}
use Rattle.mcs_top.specs.Showing.{IsFaultyInputTold, IsShowUnwritten}
use Rattle.mcs_top.proofs.CompleteReplay.{replay_done_told}
use Rattle.mcs_top.proofs.CompleteCheck.{check_done_told}
use Rattle.mcs_top.proofs.Reading.{never_unread, read_is}
use Rattle.mcs_top.specs.Outcome.{IsShowOutcome, IsOutcome, IsUnfailed, CanShow, IsComplete}
use Rattle.com_msg.specs.declared.message.RawMessage.{RawMessage}
use Rattle.com_lines.specs.Frames.{Frames}
use Rattle.com_lines.proofs.Unique.{frames-unique}

-- an input that ends well has no other end
one_end : (framing : Framing) (bytes : List ℕ) (messages others : List RawMessage) (end : Ending) → Frames framing bytes messages None → length bytes ≤ file_limit → EndsSo framing bytes others end → end ≡ ending.End
one_end framing bytes messages others ending.End sound short h = refl
one_end framing bytes messages others (ending.Fault fault) sound short (inl h) =
    absurd (none-some fault (frames-unique framing bytes messages others None (Some fault) sound h.1).1)
one_end framing bytes messages others (ending.Fault fault) sound short (inr h) = absurd (omega (arith, short, h.0))
one_end framing bytes messages others ending.Long sound short h = absurd (omega (arith, short, h.0))

never_faulty : (framing : Framing) (file : List ℕ) (before : Shown) (Told : Shown → List ℕ → Type 0) (c : Contents) → before.contents ≡ Some c → CanShow framing file c → IsFaultyInputTold framing file before Told → ⊥
never_faulty framing file before Told c told can h =
    let same = read_is file_limit file h.input.bytes can.bytes before h.read c h.input.is_read told can.there can.within_limit in
    h.faulty (one_end framing can.bytes can.messages h.input.shows.messages h.end can.framed can.within_limit (rw same at h.input.shows.ends))

unwritten_rose : (framing : Framing) (file : List ℕ) (before after : Shown) → IsShowUnwritten framing file before after → Rose before.write_faults after.write_faults
unwritten_rose framing file before after h = rw h.input.is_read.no_fault.write_faults at h.told.rose

show_done : (framing : Framing) (file : List ℕ) (status : ℕ) (before after : Shown) (c : Contents) → before.contents ≡ Some c → CanShow framing file c → IsUnfailed before after → IsShowOutcome framing file status before after
    → (status ≡ 0) ⊎ (status ≡ 1)
show_done framing file status before after c told can unfailed outcome = by_status outcome.statuses where
  by_status : (status ≡ 0) ⊎ ((status ≡ 1) ⊎ ((status ≡ 5) ⊎ ((status ≡ 7) ⊎ (status ≡ 9)))) → (status ≡ 0) ⊎ (status ≡ 1)
  by_status (inl is) = inl is
  by_status (inr (inl is)) = inr is
  by_status (inr (inr (inl is))) = let h = outcome.unread is in absurd (never_unread file _ before h.0 after h.1 h.2 unfailed)
  by_status (inr (inr (inr (inl is)))) = absurd (unfailed.written (unwritten_rose framing file before after (outcome.unwritten is)))
  by_status (inr (inr (inr (inr is)))) = absurd (never_faulty framing file before _ c told can (outcome.faulty is))

-- with the contents that the store told
show_done_told : (framing : Framing) (file : List ℕ) (status : ℕ) (before after : Shown) (contents : Option Contents) → before.contents ≡ contents → IsSomeAnd contents (CanShow framing file) → IsUnfailed before after
    → IsShowOutcome framing file status before after → (status ≡ 0) ⊎ (status ≡ 1)
show_done_told framing file status before after None told can unfailed outcome = absurd can
show_done_told framing file status before after (Some c) told can unfailed outcome = show_done framing file status before after c told can unfailed outcome

pub complete : (words : List (List ℕ)) (status : ℕ) (before after : Shown) → IsOutcome words status before after → IsComplete words status before after
complete words status before after outcome = record {
  replay = λ net_file script_file is can unfailed. replay_done_told net_file script_file status before after before.contents refl can unfailed (outcome.replay net_file script_file is);
  check = λ net_file is can unfailed. check_done_told net_file status before after before.contents refl can unfailed (outcome.check net_file is);
  show = λ framing file is can unfailed. show_done_told framing file status before after before.contents refl can unfailed (outcome.show framing file is);
}
