-- The values of STATUS KEY, and writing them into areas.
use Rattle.std.specs.Prelude.{ℕ, List, codes}
use Rattle.com_cd.specs.InputArea.{set_in}
use Rattle.com_cd.specs.OutputArea.{set_out}
use Rattle.com_cd.specs.declared.input_area.InField.TheVariants as input
use Rattle.com_cd.specs.declared.output_area.OutField.TheVariants as output
use Rattle.com_cd.specs.declared.status.Status.{Status}
use Rattle.com_cd.specs.declared.status.Status.TheVariants.{S00, S10, S20, S30, S40, S50, S60}

-- the two characters of a value
abbrev pub status_bytes : Status → List ℕ
status_bytes S00 = codes "00"
status_bytes S10 = codes "10"
status_bytes S20 = codes "20"
status_bytes S30 = codes "30"
status_bytes S40 = codes "40"
status_bytes S50 = codes "50"
status_bytes S60 = codes "60"

-- an input area with this status key, and all other characters as before
abbrev pub with_input_status : Status → List ℕ → List ℕ
with_input_status status area = set_in input.Status area (status_bytes status)

-- an output area with this status key, and all other characters as before
abbrev pub with_output_status : Status → List ℕ → List ℕ
with_output_status status area = set_out output.Status area (status_bytes status)
