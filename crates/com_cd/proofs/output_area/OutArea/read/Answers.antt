use Rattle.std.proofs.Common.{◌≡◌, ℕ, ◌+◌, ◌-◌, ◌*◌, ◌≤◌, List, ◌++◌, length, drop, refl}
use Rattle.std.proofs.lemmas.List.{drop-replicate}
use Rattle.com_text.specs.Text.{IsText}
use Rattle.com_text.specs.Name.{spaces}
use Rattle.com_cd.proofs.Outputs.{Holds, held}
use Rattle.com_cd.proofs.output_area.OutArea.read.Goals as goal

-- an area that is copied over the beginning of spaces is held
held_copy : (area copied : List ℕ) (n : ℕ) → copied ≡ area → 1 ≤ n → n ≤ 8 → length area ≡ 10 + 13 * n → IsText area
    → Holds (copied ++ drop (length area) (spaces 114)) n
held_copy area copied n same some few long text =
    let rest : drop (length area) (spaces 114) ≡ spaces (114 - length area) = drop-replicate (length area) 114 32 in
    held area _ n long some few text (rw (same, rest) refl)

pub invariant_of-result : goal.invariant_of-result
invariant_of-result c =
    let found = c.in_ok-occurrences.ensures.found in
    let text : IsText c.args.bytes.now = cc in
    held_copy c.args.bytes.now c.copy_from_slice.new.self c.in_ok-occurrences.occurrences c.copy_from_slice.ensures.after
    found.0 found.1 found.2 text
