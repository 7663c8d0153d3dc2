-- The same tokens tell one place of PROCEDURE, and one division.
use Rattle.std.proofs.Common.{◌≡◌, ◌<◌, ℕ, ◌+◌, ◌-◌, List, length, drop, Option, Some, sym, ap, ◌∙◌, arith}
use Rattle.std.proofs.lemmas.List.{length-drop}
use Rattle.cob_lex.specs.declared.token.Token.{Token}
use Rattle.cob_forms.specs.declared.written.Name.{Name}
use Rattle.cob_forms.specs.Forms.{ends}
use Rattle.cob_data.specs.declared.tree.CdEntry.{CdEntry}
use Rattle.cob_data.specs.declared.tree.DataDivision.{DataDivision}
use Rattle.cob_data.specs.declared.tree.Item.{Item}
use Rattle.cob_data.specs.Divisions.{IsDivisionOf}

abbrev by_parts : Name → Option Name → Option Name → List Item → List CdEntry → DataDivision
by_parts program source_computer object_computer working_storage communication = record {
  program = program;
  source_computer = source_computer;
  object_computer = object_computer;
  working_storage = working_storage;
  communication = communication;
}

same_parts : (p q : Name) (a b c d : Option Name) (s t : List Item) (u v : List CdEntry) → Some p ≡ Some q → a ≡ b → c ≡ d → s ≡ t → u ≡ v → by_parts p a c s u ≡ by_parts q b d t v
same_parts p q a b c d s t u v first second third fourth fifth = cc

same_place : {A : Type 0} (ts : List A) (p q : ℕ) → p < length ts → q < length ts → drop (p + 1) ts ≡ drop (q + 1) ts → p ≡ q
same_place ts p q first second same =
    let lengths : length ts - (p + 1) ≡ length ts - (q + 1) = sym (length-drop (p + 1) ts) ∙ ap length same ∙ length-drop (q + 1) ts in
    omega arith

same_rest : (us vs : List Token) → ends us ≡ ends vs → us ≡ vs
same_rest us vs h = cc

one_place : (ts : List Token) (p q : ℕ) (d e : DataDivision) → IsDivisionOf ts p d → IsDivisionOf ts q e → p ≡ q
one_place ts p q d e one other = same_place ts p q one.within other.within (same_rest _ _ (sym one.complete ∙ other.complete))

same_parts_of : (ts : List Token) (p : ℕ) (d e : DataDivision) → IsDivisionOf ts p d → IsDivisionOf ts p e → d ≡ e
same_parts_of ts p d e one other =
    same_parts d.program e.program _ _ _ _ _ _ _ _ (sym one.program ∙ other.program)
    (sym one.source_computer ∙ other.source_computer) (sym one.object_computer ∙ other.object_computer)
    (sym one.working_storage ∙ other.working_storage) (sym one.communication ∙ other.communication)

pub one_division : (ts : List Token) (p q : ℕ) (d e : DataDivision) → IsDivisionOf ts p d → IsDivisionOf ts q e → (p ≡ q) × (d ≡ e)
one_division ts p q d e one other =
    let here : p ≡ q = one_place ts p q d e one other in
    (here, same_parts_of ts p d e one (rw here other))
