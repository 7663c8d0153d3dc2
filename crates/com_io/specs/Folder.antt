-- What a folder of files tells: how many of its sources are open, and how often a call has failed.
use Rattle.std.specs.Prelude.{ℕ}

pub record Folder : Type 0 where
  pub pending : ℕ
  pub open_faults : ℕ
  pub read_faults : ℕ
  pub write_faults : ℕ

-- no call was made
abbrev pub unused_folder : Folder
unused_folder = record { pending = 0; open_faults = 0; read_faults = 0; write_faults = 0 }
