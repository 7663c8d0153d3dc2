-- How much of a file a command takes, and a file that could not be read.
use Rattle.std.specs.Prelude.{◌≡◌, ℕ, ◌⊎◌, List}
use Rattle.com_io.specs.Files.{file_limit, IsUnopened, IsUnreadable, IsAbandoned}
use Rattle.com_io.specs.Stores.{Shown}
use Rattle.mcs_top.specs.declared.report.Refusal.TheVariants.{Usage, Description, Unread, Source, Script, Input}
use Rattle.mcs_top.specs.declared.report.Failure.{Failure}
use Rattle.mcs_top.specs.declared.report.Failure.TheVariants.{Refused, Write, Memory}

-- The file of this name was asked for and not opened, or a read of it failed. Nothing else was asked
-- for.
abbrev pub IsNotRead : List ℕ → Shown → Shown → Type 0
IsNotRead name before after =
    IsUnopened name before after ⊎ IsUnreadable file_limit name before after

-- why the file of this name was not read
abbrev pub IsNotReadFor : List ℕ → Shown → Shown → Failure → Type 0
IsNotReadFor name before after (Refused (Unread told)) = (told.now ≡ name) × IsNotRead name before after
IsNotReadFor name before after Memory = IsAbandoned file_limit name before after
IsNotReadFor name before after (Refused Usage) = ⊥
IsNotReadFor name before after (Refused (Description fault)) = ⊥
IsNotReadFor name before after (Refused (Script line reason)) = ⊥
IsNotReadFor name before after (Refused (Source unit fault)) = ⊥
IsNotReadFor name before after (Refused (Input text)) = ⊥
IsNotReadFor name before after Write = ⊥
