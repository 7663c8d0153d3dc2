-- Where the Procedure Division begins.
use Rattle.std.proofs.Common.{◌≡◌, ℕ, ◌+◌, ◌-◌, List, length, take, drop, ap, ◌∙◌, arith}
use Rattle.std.proofs.lemmas.List.{length-drop, length-take}
use Rattle.cob_lex.specs.declared.token.Token.{Token}
use Rattle.cob_forms.specs.Faults.{counting}
use Rattle.cob_data.specs.declared.tree.DataDivision.{DataDivision}
use Rattle.cob_data.specs.Divisions.{IsDivisionOf}
use Rattle.cob_meaning.specs.Sources.{from_procedure}

pub begins_there : (tokens : List Token) (place : ℕ) (division : DataDivision) → IsDivisionOf tokens place division → from_procedure tokens ≡ drop place tokens
begins_there tokens place division h =
    let n : ℕ = length tokens - length (drop (place + 1) tokens) in
    let same : length (take n tokens) - 1 ≡ place = omega (arith, h.within, length-drop (place + 1) tokens, length-take n tokens) in
    ap (λ read. drop (length (counting tokens read) - 1) tokens) h.complete ∙ ap (λ k. drop k tokens) same
