-- What `show` does: which file it reads, and what becomes of the text that shows it.
use Rattle.std.specs.Prelude.{◌≡◌, ◌≢◌, ℕ, ◌⊎◌, List}
use Rattle.com_msg.specs.declared.framing.Framing.{Framing}
use Rattle.com_io.specs.Files.{file_limit, IsRead, IsAbandoned}
use Rattle.com_io.specs.Stores.{Shown}
use Rattle.mcs_top.specs.declared.report.Refusal.TheVariants.{Usage, Description, Unread, Source, Script, Input}
use Rattle.mcs_top.specs.declared.report.Failure.{Failure}
use Rattle.mcs_top.specs.declared.report.Failure.TheVariants.{Refused, Write, Memory}
use Rattle.mcs_top.specs.declared.show.Ending.{Ending}
use Rattle.mcs_top.specs.declared.show.Ending.TheVariants as ending
use Rattle.mcs_top.specs.Files.{IsNotRead}
use Rattle.mcs_top.specs.Reports.{IsWritten, IsWriteFailed, IsCutReport}
use Rattle.mcs_top.specs.Show.{IsShowOf}

-- FILE was read and nothing else was asked for. This text shows it, and it ends so.
pub record IsInputRead (framing : Framing) (file : List ℕ) (before read : Shown) (end : Ending)
    (text : List ℕ) : Type 0 where
  pub bytes : List ℕ
  pub is_read : IsRead file_limit file bytes before read
  pub shows : IsShowOf framing bytes end text

-- FILE was read and ends well. `Told` says what became of the text that shows it, from what the
-- store showed before.
pub record IsInputTold (framing : Framing) (file : List ℕ) (before : Shown)
    (Told : Shown → List ℕ → Type 0) : Type 0 where
  pub read : Shown
  pub text : List ℕ
  pub input : IsInputRead framing file before read ending.End text
  pub told : Told read text

-- FILE was read and does not end well. `Told` says what became of the text that shows it.
pub record IsFaultyInputTold (framing : Framing) (file : List ℕ) (before : Shown)
    (Told : Shown → List ℕ → Type 0) : Type 0 where
  pub read : Shown
  pub end : Ending
  pub faulty : end ≢ ending.End
  pub text : List ℕ
  pub input : IsInputRead framing file before read end text
  pub told : Told read text

-- FILE was read and ends well, and the text that shows it was written, in one write. Nothing else was
-- asked for, and no fault was counted.
abbrev pub HasShown : Framing → List ℕ → Shown → Shown → Type 0
HasShown framing file before after = IsInputTold framing file before (IsWritten after)

-- that write failed
abbrev pub IsShowUnwritten : Framing → List ℕ → Shown → Shown → Type 0
IsShowUnwritten framing file before after = IsInputTold framing file before (IsWriteFailed after)

-- memory ran out before that write, or in it
abbrev pub LacksMemoryToShow : Framing → List ℕ → Shown → Shown → Type 0
LacksMemoryToShow framing file before after =
    IsAbandoned file_limit file before after ⊎ IsInputTold framing file before (IsCutReport after)

-- a file that was read and does not end well; this text shows it
abbrev pub IsFaultyInput : Framing → List ℕ → Shown → Shown → List ℕ → Type 0
IsFaultyInput framing file before read text =
    (end : Ending) × (end ≢ ending.End) × IsInputRead framing file before read end text

-- why the file was not shown
abbrev pub HasNotShown : Framing → List ℕ → Shown → Shown → Failure → Type 0
HasNotShown framing file before after (Refused (Unread name)) =
    (name.now ≡ file) × IsNotRead file before after
HasNotShown framing file before after (Refused (Input text)) =
    IsFaultyInput framing file before after text
HasNotShown framing file before after Memory = LacksMemoryToShow framing file before after
HasNotShown framing file before after Write = IsShowUnwritten framing file before after
HasNotShown framing file before after (Refused Usage) = ⊥
HasNotShown framing file before after (Refused (Description fault)) = ⊥
HasNotShown framing file before after (Refused (Script line reason)) = ⊥
HasNotShown framing file before after (Refused (Source unit fault)) = ⊥

-- why a text was not written
abbrev pub IsUnwrittenFor : List ℕ → Shown → Shown → Failure → Type 0
IsUnwrittenFor text before after Write = IsWriteFailed after before text
IsUnwrittenFor text before after Memory = IsCutReport after before text
IsUnwrittenFor text before after (Refused refusal) = ⊥
