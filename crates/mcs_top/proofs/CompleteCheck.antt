-- Where nothing is wrong with the description and the programs and no call failed, a check is done.
use Rattle.std.proofs.Common.{◌≡◌, ℕ, List, ◌∷◌, ◌++◌, Option, Some, None, inl, inr, refl, arith}
use Rattle.std.specs.Prelude.{◌⊎◌, IsSomeAnd}
use Rattle.std.specs.List.{Contains}
use Rattle.std.proofs.lemmas.List.Elements.{All-contains, Contains-append_right}
use Rattle.com_io.specs.Faults.{Rose}
use Rattle.com_io.specs.Files.{file_limit, HasNoFault}
use Rattle.com_io.specs.Stores.{Contents, Shown}
use Rattle.com_net.specs.declared.net.Net.{Net}
use Rattle.com_net.specs.declared.net.UnitRow.{UnitRow}
use Rattle.cob_lex.specs.declared.fault.SourceFault.{SourceFault}
use Rattle.cob_meaning.specs.Meaning.{Program}
use Rattle.cob_meaning.proofs.OneProgram.{no_fault_of_program}
use Rattle.mcs_top.specs.Check.{IsCheckUnwritten, IsCheckedFileUnread, IsSourceRefused}
use Rattle.mcs_top.specs.Outcome.{IsCheckOutcome, IsUnfailed, CanCheck, HasProgram}
use Rattle.mcs_top.specs.Programs.{IsProgramRefused, AreProgramsRead, none, more}
use Rattle.mcs_top.specs.Reports.{IsReported}
use Rattle.mcs_top.proofs.Checks.{read_unfailed}
use Rattle.mcs_top.proofs.CompleteReplay.{never_bad_net, net_read_is, unfailed_since}
use Rattle.mcs_top.proofs.Outs.{no_fault_then}
use Rattle.mcs_top.proofs.Reading.{never_unread, read_is}

-- the store has the same files as when it showed `c`
record HasFilesOf (c : Contents) (shown : Shown) : Type 0 where
  contents : Contents
  is : shown.contents ≡ Some contents
  files : contents.files ≡ c.files

-- reading programs changes no file
files_stay : (units : List UnitRow) (programs : List Program) (before after : Shown) (c : Contents) → AreProgramsRead units programs before after → HasFilesOf c before → HasFilesOf c after
files_stay _ _ before _ c none h = h
files_stay _ _ before after c (more {unit} {program} {units} {programs} between first rest) h =
    let read = rw h.is at first.is_read.contents in
    files_stay units programs between after c rest (record { contents = _; is = read.3; files = h.files })

-- the unit that stopped a check is one of the network's
stopped_in : (front others units : List UnitRow) (unit : UnitRow) → units ≡ front ++ unit ∷ others → Contains units unit
stopped_in front others units unit split = rw split (Contains-append_right front (unit ∷ others) unit (0, omega arith, refl))

-- its source is the program that the store has
never_refused : (c d : Contents) (unit : UnitRow) (fault : SourceFault) (between tried : Shown) → between.contents ≡ Some d → d.files ≡ c.files → HasProgram c unit → IsProgramRefused unit fault between tried → ⊥
never_refused c d unit fault between tried is files has h =
    let there = rw (← files) at has.there in
    let same = read_is file_limit unit.source h.source has.source between tried d h.is_read is there has.is_program.few in
    no_fault_of_program has.source has.program fault has.is_program (rw same at h.refused)

-- no count rises until a program stops a check
unfailed_to : (net_file : List ℕ) (before after : Shown) (net : Net) (between at : Shown) (units : List UnitRow) (programs : List Program) → HasNoFault before between → AreProgramsRead units programs between at → HasNoFault before at
unfailed_to net_file before after net between at units programs first read = no_fault_then before between at first (read_unfailed units programs between at read)

never_unread_file : (net_file name report : List ℕ) (before tried after : Shown) → IsUnfailed before after → IsCheckedFileUnread net_file before tried name → IsReported after tried report → ⊥
never_unread_file net_file name report before tried after unfailed (inl h) told = never_unread net_file report before tried after h.1 told unfailed
never_unread_file net_file name report before tried after unfailed (inr h) told =
    let same = unfailed_to net_file before after h.net h.between h.stop.between h.stop.front h.stop.programs h.net_read.is_read.no_fault h.stop.are_read in
    never_unread h.stop.unit.source report h.stop.between tried after h.stop.why.1 told (unfailed_since before h.stop.between after same unfailed)

never_bad_source : (net_file name : List ℕ) (fault : SourceFault) (before tried : Shown) (c : Contents) → before.contents ≡ Some c → CanCheck net_file c → IsSourceRefused net_file before tried name fault → ⊥
never_bad_source net_file name fault before tried c told can h =
    let read = rw told at h.net_read.is_read.contents in
    let net = net_read_is net_file can.description can.net h.net before h.between c told can.net_there can.described h.net_read in
    let at = files_stay h.stop.front h.stop.programs h.between h.stop.between c h.stop.are_read (record { contents = _; is = read.3; files = refl }) in
    let has = All-contains (HasProgram c) h.net.units h.stop.unit (rw net can.programs) (stopped_in h.stop.front h.stop.others h.net.units h.stop.unit h.stop.split) in
    never_refused c at.contents h.stop.unit fault h.stop.between tried at.is at.files has h.stop.why.1

unwritten_rose : (net_file : List ℕ) (before after : Shown) → IsCheckUnwritten net_file before after → Rose before.write_faults after.write_faults
unwritten_rose net_file before after h =
    let all = h.checked in
    let same = unfailed_to net_file before after all.net all.between h.read all.net.units all.programs all.net_read.is_read.no_fault all.programs_read in
    rw same.write_faults at h.told.rose

check_done : (net_file : List ℕ) (status : ℕ) (before after : Shown) (c : Contents) → before.contents ≡ Some c → CanCheck net_file c → IsUnfailed before after → IsCheckOutcome net_file status before after → (status ≡ 0) ⊎ (status ≡ 1)
check_done net_file status before after c told can unfailed outcome = by_status outcome.statuses where
  by_status : (status ≡ 0) ⊎ ((status ≡ 1) ⊎ ((status ≡ 3) ⊎ ((status ≡ 4) ⊎ ((status ≡ 5) ⊎ (status ≡ 7))))) → (status ≡ 0) ⊎ (status ≡ 1)
  by_status (inl is) = inl is
  by_status (inr (inl is)) = inr is
  by_status (inr (inr (inl is))) = let h = outcome.description is in absurd (never_bad_net net_file can.description can.net before h.0 h.1 h.2 c told can.net_there can.described h.3)
  by_status (inr (inr (inr (inl is)))) = let h = outcome.source is in absurd (never_bad_source net_file h.1 h.2 before h.0 c told can h.3)
  by_status (inr (inr (inr (inr (inl is))))) = let h = outcome.unread is in absurd (never_unread_file net_file h.1 _ before h.0 after unfailed h.2 h.3)
  by_status (inr (inr (inr (inr (inr is))))) = absurd (unfailed.written (unwritten_rose net_file before after (outcome.unwritten is)))

-- with the contents that the store showed
pub check_done_told : (net_file : List ℕ) (status : ℕ) (before after : Shown) (contents : Option Contents) → before.contents ≡ contents → IsSomeAnd contents (CanCheck net_file) → IsUnfailed before after
    → IsCheckOutcome net_file status before after → (status ≡ 0) ⊎ (status ≡ 1)
check_done_told net_file status before after None told can unfailed outcome = absurd can
check_done_told net_file status before after (Some c) told can unfailed outcome = check_done net_file status before after c told can unfailed outcome
