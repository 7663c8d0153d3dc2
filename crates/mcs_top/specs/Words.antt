-- Which command some words ask for.
use Rattle.std.specs.Prelude.{◌≡◌, ℕ, Bool, not, ◌&&◌, ◌==◌, nat_lt, List, [], ◌∷◌, length, slice_index, IsTrue, codes}
use Rattle.com_msg.specs.declared.framing.Framing.{Framing}
use Rattle.com_msg.specs.declared.framing.Framing.TheVariants.{Marks, Lines}
use Rattle.mcs_top.specs.declared.command.Command.{Command}
use Rattle.mcs_top.specs.declared.command.Command.TheVariants.{Replay, Check, Show}

-- a word that names a file: not empty, and not beginning with a hyphen
abbrev pub is_file_word : List ℕ → Bool
is_file_word word = nat_lt 0 (length word) && not (slice_index word 0 == 45)

-- The words ask to replay SCRIPT on the network of NET.
pub record IsReplay (words : List (List ℕ)) (net_file script_file : List ℕ) : Type 0 where
  pub all : words ≡ codes "replay" ∷ net_file ∷ script_file ∷ []
  pub is_net_file : IsTrue (is_file_word net_file)
  pub is_script_file : IsTrue (is_file_word script_file)

-- The words ask to check NET and the programs that it names.
pub record IsCheck (words : List (List ℕ)) (net_file : List ℕ) : Type 0 where
  pub all : words ≡ codes "check" ∷ net_file ∷ []
  pub is_net_file : IsTrue (is_file_word net_file)

-- how a framing is named
abbrev pub framing_word : Framing → List ℕ
framing_word Marks = codes "marks"
framing_word Lines = codes "lines"

-- The words ask to show FILE in this framing.
pub record IsShow (words : List (List ℕ)) (framing : Framing) (file : List ℕ) : Type 0 where
  pub all : words ≡ codes "show" ∷ framing_word framing ∷ file ∷ []
  pub is_file : IsTrue (is_file_word file)

-- The words ask for no command that is built so far.
pub record IsNoCommand (words : List (List ℕ)) : Type 0 where
  pub replay : (net_file script_file : List ℕ) → IsReplay words net_file script_file → ⊥
  pub check : (net_file : List ℕ) → IsCheck words net_file → ⊥
  pub show : (framing : Framing) (file : List ℕ) → IsShow words framing file → ⊥

-- the words ask for this command
abbrev pub IsCommand : List (List ℕ) → Command → Type 0
IsCommand words (Replay net script) = IsReplay words net.now script.now
IsCommand words (Check net) = IsCheck words net.now
IsCommand words (Show framing file) = IsShow words framing file.now
