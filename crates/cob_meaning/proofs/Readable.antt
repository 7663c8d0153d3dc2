-- Each source is a program or has a fault.
use Rattle.std.proofs.Common.{◌≡◌, ◌⊎◌, inl, inr, ◌<◌, ◌≤◌, ℕ, Bool, true, false, List, length, drop, Option, Some, None, Result, Ok, Err, refl, sym, ap, ◌∙◌, arith, nat_le}
use Rattle.std.proofs.lemmas.Bool.Decides.{nat_tests}
use Rattle.std.specs.Option.{option_or}
use Rattle.cob_lex.specs.declared.fault.SourceFault.{SourceFault}
use Rattle.cob_lex.specs.declared.lexer.TheConstants.{MAX_SOURCE}
use Rattle.cob_lex.specs.declared.token.Token.{Token}
use Rattle.cob_lex.specs.Lexing.{tokens_of}
use Rattle.cob_forms.specs.Forms.{reading, wanted}
use Rattle.cob_forms.specs.Faults.{first}
use Rattle.cob_data.specs.Faults.{data_fault}
use Rattle.cob_data.proofs.SomeDivision.{some_division}
use Rattle.cob_proc.specs.DivisionReaders.{read_procedure}
use Rattle.cob_proc.specs.Faults.{faults_by, procedure_fault}
use Rattle.cob_proc.specs.Forms as proc
use Rattle.cob_proc.specs.Spelled.{IsProcedure}
use Rattle.cob_proc.specs.Trees.{ParagraphTree}
use Rattle.cob_proc.proofs.DivisionAgrees.{ended, procedure_agrees}
use Rattle.cob_proc.proofs.DivisionSpelled.{procedure_spelled}
use Rattle.cob_meaning.specs.Meaning.{Program}
use Rattle.cob_meaning.specs.Names.{names_faults}
use Rattle.cob_meaning.specs.Ranges.{IsFirstOf, IsRangesFault}
use Rattle.cob_meaning.specs.Sources.{IsProgramOf, IsReadAs, IsSourceFaultOf, Spells, from_procedure, layout_of, of_length, of_text, of_trees, text_fault_by, tokens_fault}
use Rattle.cob_meaning.proofs.Divided.{begins_there}
use Rattle.cob_meaning.proofs.FirstFaults.{no_faults}
use Rattle.cob_meaning.proofs.RangeFaults.{judged}

-- THE PROCEDURE

pub has_procedure : (ts : List Token) → procedure_fault ts ≡ None → (trees : List ParagraphTree) × IsProcedure trees ts
has_procedure ts e = by (read_procedure ts) refl
  where
    by : (r : Result (List ParagraphTree) ℕ) → read_procedure ts ≡ r → (trees : List ParagraphTree) × IsProcedure trees ts
    by (Ok trees) read = (trees, procedure_spelled ts trees read)
    by (Err left) read =
        let same : reading proc.alternatives_of proc.procedure_division ts ≡ wanted left = procedure_agrees ts ∙ ap ended read in
        let none = no_faults (faults_by ts (wanted left)) (sym (ap (λ r. first (faults_by ts r)) same) ∙ e) in
        let no : ⊥ = cc in absurd no

-- THE PROGRAM

both_none : (a b : Option SourceFault) → option_or a b ≡ None → (a ≡ None) × (b ≡ None)
both_none None b e = (refl, e)
both_none (Some x) b e = absurd cc

pub spelled : (ts : List Token) → tokens_fault ts ≡ None → (program : Program) × Spells ts program
spelled ts e =
    let both = both_none (data_fault ts) (procedure_fault (from_procedure ts)) e in
    let h = some_division ts both.0 in
    let there = begins_there ts h.place h.division h.is_division in
    let trees = has_procedure (drop h.place ts) (sym (ap procedure_fault there) ∙ both.1) in (
      record { layout = layout_of h.division; text = trees.0 },
      record { no_fault = e; place = h.place; division = h.division; is_division = h.is_division; is_procedure = trees.1; layout = refl },
    )

of_program : (source : List ℕ) (ts : List Token) (program : Program) → length source ≤ MAX_SOURCE → tokens_of source ≡ Ok ts → Spells ts program
    → ((program : Program) × IsProgramOf source program) ⊎ ((fault : SourceFault) × IsSourceFaultOf source fault)
of_program source ts program few e spells = by (first (names_faults program)) refl
  where
    by_ranges : first (names_faults program) ≡ None → ((x : SourceFault) × IsFirstOf (IsRangesFault program.text) x) ⊎ ((x : SourceFault) → IsRangesFault program.text x → ⊥)
        → ((program : Program) × IsProgramOf source program) ⊎ ((fault : SourceFault) × IsSourceFaultOf source fault)
    by_ranges none (inl f) = inr (f.0, of_trees ts program few e spells (inr (none, f.1)))
    by_ranges none (inr f) = inl (program, record { few = few; tokens = ts; are_tokens = e; spells = spells; no_fault = record { names = none; ranges = f } })

    by : (o : Option SourceFault) → first (names_faults program) ≡ o → ((program : Program) × IsProgramOf source program) ⊎ ((fault : SourceFault) × IsSourceFaultOf source fault)
    by (Some x) f = inr (x, of_trees ts program few e spells (inl f))
    by None f = by_ranges f (judged program.text)

-- each source is a program, or has a fault
pub read : (source : List ℕ) → ((program : Program) × IsProgramOf source program) ⊎ ((fault : SourceFault) × IsSourceFaultOf source fault)
read source = by_length (nat_le (length source) MAX_SOURCE) refl
  where
    Answer : Type 0
    Answer = ((program : Program) × IsProgramOf source program) ⊎ ((fault : SourceFault) × IsSourceFaultOf source fault)

    by_fault : length source ≤ MAX_SOURCE → (ts : List Token) → tokens_of source ≡ Ok ts → (o : Option SourceFault) → tokens_fault ts ≡ o
        → ((program : Program) × IsProgramOf source program) ⊎ ((fault : SourceFault) × IsSourceFaultOf source fault)
    by_fault few ts e (Some x) f = inr (x, of_text few (ap text_fault_by e ∙ f))
    by_fault few ts e None f = let h = spelled ts f in of_program source ts h.0 few e h.1

    by_tokens : length source ≤ MAX_SOURCE → (r : Result (List Token) SourceFault) → tokens_of source ≡ r
        → ((program : Program) × IsProgramOf source program) ⊎ ((fault : SourceFault) × IsSourceFaultOf source fault)
    by_tokens few (Err x) e = inr (x, of_text few (ap text_fault_by e))
    by_tokens few (Ok ts) e = by_fault few ts e (tokens_fault ts) refl

    below : nat_le (length source) MAX_SOURCE ≡ true → length source ≤ MAX_SOURCE
    below e = grind (arith, nat_tests)

    above : nat_le (length source) MAX_SOURCE ≡ false → MAX_SOURCE < length source
    above e = grind (arith, nat_tests)

    by_length : (b : Bool) → nat_le (length source) MAX_SOURCE ≡ b → ((program : Program) × IsProgramOf source program) ⊎ ((fault : SourceFault) × IsSourceFaultOf source fault)
    by_length true e = by_tokens (below e) (tokens_of source) refl
    by_length false e = inr (_, of_length (above e))

pub has_reading : (source : List ℕ) → (read : Result Program SourceFault) × IsReadAs source read
has_reading source = by (read source)
  where
    by : ((program : Program) × IsProgramOf source program) ⊎ ((fault : SourceFault) × IsSourceFaultOf source fault) → (read : Result Program SourceFault) × IsReadAs source read
    by (inl h) = (Ok h.0, h.1)
    by (inr h) = (Err h.0, h.1)
