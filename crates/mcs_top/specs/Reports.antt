-- What a refusal writes, and what became of the write. What the store shows after the write comes first, so that
-- a definition can be handed `IsReported after` as what became of a report.
use Rattle.std.specs.Prelude.{◌≡◌, ℕ, ◌⊎◌, List, ◌++◌, option_map, codes, decimal}
use Rattle.com_io.specs.declared.store.StoreFault.TheVariants as cause
use Rattle.com_io.specs.Faults.{Rose}
use Rattle.com_io.specs.Files.{HasNoFault}
use Rattle.com_io.specs.Stores.{Shown, output_name, with_output, IsPartWritten, IsUndone}
use Rattle.com_tree.specs.declared.build.TreeFault.TheVariants as tree
use Rattle.com_net.specs.declared.fault.NetKind.{NetKind}
use Rattle.com_net.specs.declared.fault.NetKind.TheVariants.{NotToml, MissingKey, WrongKind, UnknownKey, BadName, TwiceNamed, BadTree, BadRoute, BadPassword, OverLimit}
use Rattle.cob_lex.specs.declared.fault.SourceFault.{SourceFault}
use Rattle.cob_lex.specs.declared.fault.SourceKind.{SourceKind}
use Rattle.cob_lex.specs.declared.fault.SourceKind.TheVariants as source
use Rattle.mcs_top.specs.declared.script.Reason.{Reason}
use Rattle.mcs_top.specs.declared.script.Reason.TheVariants.{Size, Text, NotAllowed}
use Rattle.mcs_top.specs.declared.report.Refusal.{Refusal}
use Rattle.mcs_top.specs.declared.report.Refusal.TheVariants.{Usage, Description, Unread, Source, Script, Input}
use Rattle.mcs_top.specs.declared.report.Failure.{Failure}
use Rattle.mcs_top.specs.declared.report.Failure.TheVariants.{Refused, Write, Memory}

-- The text was written to standard output, in one write. Nothing else was asked for, and no fault was
-- counted.
pub record IsWritten (after tried : Shown) (text : List ℕ) : Type 0 where
  pub contents : after.contents ≡ option_map (with_output output_name text) tried.contents
  pub no_fault : HasNoFault tried after

-- That write failed, and wrote nothing or a front of the text. Nothing else was asked for, and that
-- alone was counted.
pub record IsWriteFailed (after tried : Shown) (text : List ℕ) : Type 0 where
  pub part : IsPartWritten output_name text tried.contents after.contents
  pub rose : Rose tried.write_faults after.write_faults
  pub open_faults : after.open_faults ≡ tried.open_faults
  pub read_faults : after.read_faults ≡ tried.read_faults
  pub pending : after.pending ≡ tried.pending

-- What the write of a report changed from what the store showed before it: the report was written, or
-- a front of it where that write failed.
abbrev pub IsReported : Shown → Shown → List ℕ → Type 0
IsReported after tried report = IsWritten after tried report ⊎ IsWriteFailed after tried report

-- The write of a text wanted memory, or was not asked for. No fault was counted.
pub record IsCutReport (after tried : Shown) (text : List ℕ) : Type 0 where
  pub undone : IsUndone cause.Memory output_name text tried.contents after.contents
  pub no_fault : HasNoFault tried after

abbrev pub usage_report : List ℕ
usage_report = codes "usage: mcs run NET, replay NET SCRIPT, check NET, show MODE FILE, load N\n"

-- the kind of a description's fault, and behind it the fault of a tree
abbrev pub net_kind_words : NetKind → List ℕ
net_kind_words NotToml = codes "NotToml"
net_kind_words MissingKey = codes "MissingKey"
net_kind_words WrongKind = codes "WrongKind"
net_kind_words UnknownKey = codes "UnknownKey"
net_kind_words BadName = codes "BadName"
net_kind_words TwiceNamed = codes "TwiceNamed"
net_kind_words (BadTree tree.TwiceNamed) = codes "BadTree TwiceNamed"
net_kind_words (BadTree tree.TooDeep) = codes "BadTree TooDeep"
net_kind_words (BadTree tree.TooMany) = codes "BadTree TooMany"
net_kind_words (BadTree tree.Empty) = codes "BadTree Empty"
net_kind_words BadRoute = codes "BadRoute"
net_kind_words BadPassword = codes "BadPassword"
net_kind_words OverLimit = codes "OverLimit"

abbrev pub description_report : NetKind → List ℕ → List ℕ
description_report kind path =
    codes "description refused: " ++ (net_kind_words kind ++ (codes " " ++ (path ++ codes "\n")))

abbrev pub unreadable_report : List ℕ → List ℕ
unreadable_report name = codes "cannot read " ++ (name ++ codes "\n")

-- the kind of a source's fault
abbrev pub source_kind_word : SourceKind → List ℕ
source_kind_word source.BadCharacter = codes "BadCharacter"
source_kind_word source.BadColumn = codes "BadColumn"
source_kind_word source.BadWord = codes "BadWord"
source_kind_word source.BadPicture = codes "BadPicture"
source_kind_word source.WantedWord = codes "WantedWord"
source_kind_word source.TwiceDeclared = codes "TwiceDeclared"
source_kind_word source.UnknownName = codes "UnknownName"
source_kind_word source.WrongKind = codes "WrongKind"
source_kind_word source.WrongLength = codes "WrongLength"
source_kind_word source.LeavesRange = codes "LeavesRange"
source_kind_word source.PerformsItself = codes "PerformsItself"
source_kind_word source.TwoInitial = codes "TwoInitial"
source_kind_word source.OverLimit = codes "OverLimit"

-- a fault of a source: its line, its column and its kind
abbrev pub fault_words : SourceFault → List ℕ
fault_words fault =
    codes " line "
    ++ (decimal fault.line
    ++ (codes " column " ++ (decimal fault.column ++ (codes " " ++ source_kind_word fault.kind))))

-- the fault of the source of a unit
abbrev pub source_report : List ℕ → SourceFault → List ℕ
source_report unit fault =
    codes "source refused: " ++ (unit ++ (fault_words fault ++ codes "\n"))

abbrev pub reason_word : Reason → List ℕ
reason_word Size = codes "SIZE"
reason_word Text = codes "TEXT"
reason_word NotAllowed = codes "CALL"

abbrev pub script_report : ℕ → Reason → List ℕ
script_report line reason =
    codes "script refused: line "
    ++ (decimal line ++ (codes " " ++ (reason_word reason ++ codes "\n")))

-- the report of a refusal; that of an input is the text that shows it
abbrev pub report_of : Refusal → List ℕ
report_of Usage = usage_report
report_of (Description fault) = description_report fault.kind fault.path
report_of (Unread name) = unreadable_report name.now
report_of (Source unit fault) = source_report unit.now fault
report_of (Script line reason) = script_report line reason
report_of (Input text) = text

abbrev pub status_of : Refusal → ℕ
status_of Usage = 2
status_of (Description fault) = 3
status_of (Unread name) = 5
status_of (Source unit fault) = 4
status_of (Script line reason) = 8
status_of (Input text) = 9

-- A refusal is answered by its status, and its report was written or failed. Or memory ran out, and the
-- status is 1.
abbrev pub IsRefusedWith : Refusal → ℕ → Shown → Shown → Type 0
IsRefusedWith refusal status tried after =
    ((status ≡ status_of refusal) × IsReported after tried (report_of refusal))
    ⊎ ((status ≡ 1) × IsCutReport after tried (report_of refusal))

-- what the answer to a failure is, and what became of its report
abbrev pub IsAnswerTo : Failure → ℕ → Shown → Shown → Type 0
IsAnswerTo (Refused refusal) status tried after = IsRefusedWith refusal status tried after
IsAnswerTo Write status tried after = (status ≡ 7) × (after ≡ tried)
IsAnswerTo Memory status tried after = (status ≡ 1) × (after ≡ tried)
