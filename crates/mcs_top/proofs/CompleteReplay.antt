-- Where nothing is wrong with the description and the script and no call failed, a replay is done.
use Rattle.std.proofs.Common.{◌≡◌, ℕ, List, Option, Some, None, sym, ◌∙◌, inl, inr}
use Rattle.std.specs.Prelude.{◌⊎◌, IsSomeAnd}
use Rattle.std.proofs.lemmas.Option.{same_Some}
use Rattle.std.specs.FinMap as map
use Rattle.com_io.specs.Files.{file_limit, IsRead, HasNoFault}
use Rattle.com_io.specs.Stores.{Contents, Shown}
use Rattle.com_net.specs.declared.net.Net.{Net}
use Rattle.com_net.specs.declared.fault.NetKind.{NetKind}
use Rattle.com_net.specs.Description.{net_of}
use Rattle.mcs_top.specs.declared.script.Reason.{Reason}
use Rattle.mcs_top.specs.Reports.{IsReported}
use Rattle.mcs_top.specs.Replay.{IsNetRead, IsDescriptionRefused, IsFileUnread, IsScriptRefused}
use Rattle.mcs_top.specs.Outcome.{IsReplayOutcome, IsUnfailed, CanReplay}
use Rattle.mcs_top.proofs.Reading.{never_unread, read_is}
use Rattle.mcs_top.proofs.Described.{never_both, is_short}
use Rattle.mcs_top.proofs.Allowed.{never_refused}

-- what was read of NET is the description
net_is : (net_file bytes description : List ℕ) (net : Net) (before read : Shown) (c : Contents) → before.contents ≡ Some c → map.get c.files net_file ≡ Some description → net_of description ≡ Some net
    → IsRead file_limit net_file bytes before read → bytes ≡ description
net_is net_file bytes description net before read c told there described is_read = read_is file_limit net_file bytes description before read c is_read told there (is_short description net described)

-- so NET is not refused
pub never_bad_net : (net_file description : List ℕ) (net : Net) (before tried : Shown) (kind : NetKind) (path : List ℕ) (c : Contents) → before.contents ≡ Some c → map.get c.files net_file ≡ Some description
    → net_of description ≡ Some net → IsDescriptionRefused before tried net_file kind path → ⊥
never_bad_net net_file description net before tried kind path c told there described h =
    let same = net_is net_file h.description description net before tried c told there described h.is_read in
    never_both description (kind, path) net (rw same at h.refused) described

-- and is read as the network that it describes
pub net_read_is : (net_file description : List ℕ) (net other : Net) (before read : Shown) (c : Contents) → before.contents ≡ Some c → map.get c.files net_file ≡ Some description → net_of description ≡ Some net
    → IsNetRead net_file before read other → other ≡ net
net_read_is net_file description net other before read c told there described h =
    let same = net_is net_file h.description description net before read c told there described h.is_read in
    same_Some other net (sym (rw same at h.described) ∙ described)

-- no count has risen since a moment at which the counts were the same
pub unfailed_since : (before between after : Shown) → HasNoFault before between → IsUnfailed before after → IsUnfailed between after
unfailed_since before between after same h = record {
  opened = rw (← same.open_faults) at h.opened;
  read = rw (← same.read_faults) at h.read;
  written = rw (← same.write_faults) at h.written;
}

never_unread_file : (net_file script_file name report : List ℕ) (before tried after : Shown) → IsUnfailed before after → IsFileUnread before tried net_file script_file name → IsReported after tried report → ⊥
never_unread_file net_file script_file name report before tried after unfailed (inl h) told = never_unread net_file report before tried after h.1 told unfailed
never_unread_file net_file script_file name report before tried after unfailed (inr h) told =
    never_unread script_file report h.1.between tried after h.1.unread told (unfailed_since before h.1.between after h.1.net_read.is_read.no_fault unfailed)

never_bad_script : (net_file script_file : List ℕ) (before tried : Shown) (line : ℕ) (reason : Reason) (c : Contents) → before.contents ≡ Some c → CanReplay net_file script_file c
    → IsScriptRefused before tried net_file script_file line reason → ⊥
never_bad_script net_file script_file before tried line reason c told can h =
    let read = rw told at h.net_read.is_read.contents in
    let net = net_read_is net_file can.description can.net h.net before h.between c told can.net_there can.described h.net_read in
    let script = read_is file_limit script_file h.script can.script h.between tried _ h.is_read read.3 can.script_there can.within_limit in
    never_refused can.calls can.script can.net line reason can.within_limit can.are_calls can.allowed (rw (script, net) at h.refused)

replay_done : (net_file script_file : List ℕ) (status : ℕ) (before after : Shown) (c : Contents) → before.contents ≡ Some c → CanReplay net_file script_file c → IsUnfailed before after
    → IsReplayOutcome net_file script_file status before after → (status ≡ 0) ⊎ ((status ≡ 6) ⊎ (status ≡ 1))
replay_done net_file script_file status before after c told can unfailed outcome = by_status outcome.statuses where
  by_status : (status ≡ 0) ⊎ ((status ≡ 1) ⊎ ((status ≡ 3) ⊎ ((status ≡ 5) ⊎ ((status ≡ 6) ⊎ ((status ≡ 7) ⊎ (status ≡ 8)))))) → (status ≡ 0) ⊎ ((status ≡ 6) ⊎ (status ≡ 1))
  by_status (inl is) = inl is
  by_status (inr (inl is)) = inr (inr is)
  by_status (inr (inr (inl is))) = let h = outcome.description is in absurd (never_bad_net net_file can.description can.net before h.0 h.1 h.2 c told can.net_there can.described h.3)
  by_status (inr (inr (inr (inl is)))) = let h = outcome.unread is in absurd (never_unread_file net_file script_file h.1 _ before h.0 after unfailed h.2 h.3)
  by_status (inr (inr (inr (inr (inl is))))) = inr (inl is)
  by_status (inr (inr (inr (inr (inr (inl is)))))) = absurd (unfailed.written (outcome.unwritten is).rose)
  by_status (inr (inr (inr (inr (inr (inr is)))))) = let h = outcome.script is in absurd (never_bad_script net_file script_file before h.0 h.1 h.2 c told can h.3)

-- with the contents that the store told
pub replay_done_told : (net_file script_file : List ℕ) (status : ℕ) (before after : Shown) (contents : Option Contents) → before.contents ≡ contents → IsSomeAnd contents (CanReplay net_file script_file)
    → IsUnfailed before after → IsReplayOutcome net_file script_file status before after → (status ≡ 0) ⊎ ((status ≡ 6) ⊎ (status ≡ 1))
replay_done_told net_file script_file status before after None told can unfailed outcome = absurd can
replay_done_told net_file script_file status before after (Some c) told can unfailed outcome = replay_done net_file script_file status before after c told can unfailed outcome
