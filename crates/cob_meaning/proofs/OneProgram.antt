-- A source is one program, or has one fault, and not both.
use Rattle.std.proofs.Common.{◌≡◌, ◌≤◌, ◌<◌, inl, inr, ℕ, List, drop, length, Option, Some, None, Result, Ok, Err, refl, sym, ap, subst, ◌∙◌, arith}
use Rattle.com_events.specs.declared.reply.Reply.{Reply}
use Rattle.cob_lex.specs.declared.fault.SourceFault.{SourceFault}
use Rattle.cob_lex.specs.declared.lexer.TheConstants.{MAX_SOURCE}
use Rattle.cob_lex.specs.declared.token.Token.{Token}
use Rattle.cob_lex.specs.Lexing.{tokens_of}
use Rattle.cob_forms.specs.Faults.{first}
use Rattle.cob_data.proofs.OneDivision.{one_division}
use Rattle.cob_proc.specs.Spelled.{IsProcedure}
use Rattle.cob_proc.proofs.DivisionOnly.{one_tree}
use Rattle.cob_meaning.specs.Meaning.{Program, meaning}
use Rattle.cob_meaning.specs.Names.{names_faults}
use Rattle.cob_meaning.specs.Ranges.{IsRangesFault}
use Rattle.cob_meaning.specs.Sources.{HasNoTreesFault, IsProgramOf, IsReadAs, IsSourceFaultOf, IsTreesFaultOf, Spells, layout_of, of_length, of_text, of_trees, text_fault, text_fault_by}
use Rattle.cob_meaning.proofs.FirstFaults.{one_first}

same_tokens : (ts us : List Token) (read : Result (List Token) SourceFault) → read ≡ Ok ts → read ≡ Ok us → ts ≡ us
same_tokens ts us read e f = cc

same_program : (program other : Program) → program.layout ≡ other.layout → program.text ≡ other.text → program ≡ other
same_program program other layouts texts = ap (λ l. record program { layout = l }) layouts ∙ ap (λ t. record other { text = t }) texts

-- programs that the same tokens spell
same_spelled : (ts : List Token) (program other : Program) → Spells ts program → Spells ts other → program ≡ other
same_spelled ts program other a b =
    let one = one_division ts a.place b.place a.division b.division a.is_division b.is_division in
    same_program program other (a.layout ∙ ap layout_of one.1 ∙ sym b.layout)
    (one_tree program.text other.text (drop a.place ts) a.is_procedure (subst (λ k. IsProcedure other.text (drop k ts)) (sym one.0) b.is_procedure))

-- also where two sources are one
same_source : (source : List ℕ) (ts us : List Token) (program other : Program) → tokens_of source ≡ Ok ts → tokens_of source ≡ Ok us → Spells ts program → Spells us other → program ≡ other
same_source source ts us program other e f a b = same_spelled ts program other a (subst (λ l. Spells l other) (sym (same_tokens ts us (tokens_of source) e f)) b)

pub one_program : (source : List ℕ) (program other : Program) → IsProgramOf source program → IsProgramOf source other → program ≡ other
one_program source program other a b = same_source source a.tokens b.tokens program other a.are_tokens b.are_tokens a.spells b.spells

pub one_meaning : (source : List ℕ) (program other : Program) (names : Option (List ℕ)) (replies : List Reply) → IsProgramOf source program → IsProgramOf source other
    → meaning program names replies ≡ meaning other names replies
one_meaning source program other names replies a b = ap (λ (p : Program). meaning p names replies) (one_program source program other a b)

-- tokens that spell a program have no fault before its trees
no_text_fault : (source : List ℕ) (ts : List Token) (program : Program) (fault : SourceFault) → tokens_of source ≡ Ok ts → Spells ts program → text_fault source ≡ Some fault → ⊥
no_text_fault source ts program fault e a f = by (sym (ap text_fault_by e ∙ a.no_fault) ∙ f)
  where
    by : None ≡ Some fault → ⊥
    by h = cc

no_some : (o : Option SourceFault) (fault : SourceFault) → o ≡ None → o ≡ Some fault → ⊥
no_some o fault e f = by (sym e ∙ f)
  where
    by : None ≡ Some fault → ⊥
    by h = cc

no_trees_fault : (program : Program) (fault : SourceFault) → HasNoTreesFault program → IsTreesFaultOf program fault → ⊥
no_trees_fault program fault a (inl e) = no_some (first (names_faults program)) fault a.names e
no_trees_fault program fault a (inr h) = a.ranges fault h.1.is_fault

too_long : (source : List ℕ) → length source ≤ MAX_SOURCE → MAX_SOURCE < length source → ⊥
too_long source few many = omega arith

pub no_fault_of_program : (source : List ℕ) (program : Program) (fault : SourceFault) → IsProgramOf source program → IsSourceFaultOf source fault → ⊥
no_fault_of_program source program _ a (of_length many) = too_long source a.few many
no_fault_of_program source program fault a (of_text few f) = no_text_fault source a.tokens program fault a.are_tokens a.spells f
no_fault_of_program source program fault a (of_trees tokens other few are_tokens spells found) =
    let same = same_source source a.tokens tokens program other a.are_tokens are_tokens a.spells spells in
    no_trees_fault program fault a.no_fault (subst (λ (p : Program). IsTreesFaultOf p fault) (sym same) found)

same_some : (a b : SourceFault) → Some a ≡ Some b → a ≡ b
same_some a b e = cc

one_trees_fault : (program : Program) (fault other : SourceFault) → IsTreesFaultOf program fault → IsTreesFaultOf program other → fault ≡ other
one_trees_fault program fault other (inl e) (inl f) = same_some fault other (sym e ∙ f)
one_trees_fault program fault other (inl e) (inr h) = absurd (no_some (first (names_faults program)) fault h.0 e)
one_trees_fault program fault other (inr h) (inl f) = absurd (no_some (first (names_faults program)) other h.0 f)
one_trees_fault program fault other (inr h) (inr k) = one_first (IsRangesFault program.text) fault other h.1 k.1

pub one_fault : (source : List ℕ) (fault other : SourceFault) → IsSourceFaultOf source fault → IsSourceFaultOf source other → fault ≡ other
one_fault source _ _ (of_length many) (of_length more) = refl
one_fault source _ other (of_length many) (of_text few f) = absurd (too_long source few many)
one_fault source _ other (of_length many) (of_trees tokens program few e spells found) = absurd (too_long source few many)
one_fault source fault _ (of_text few e) (of_length many) = absurd (too_long source few many)
one_fault source fault other (of_text few e) (of_text less f) = same_some fault other (sym e ∙ f)
one_fault source fault other (of_text few e) (of_trees tokens program less are_tokens spells found) = absurd (no_text_fault source tokens program fault are_tokens spells e)
one_fault source fault _ (of_trees tokens program few e spells found) (of_length many) = absurd (too_long source few many)
one_fault source fault other (of_trees tokens program few are_tokens spells found) (of_text less f) = absurd (no_text_fault source tokens program other are_tokens spells f)
one_fault source fault other (of_trees ts program few e spells found) (of_trees us next less f spelled seen) =
    let same = same_source source ts us program next e f spells spelled in
    one_trees_fault program fault other found (subst (λ (p : Program). IsTreesFaultOf p other) (sym same) seen)

abbrev good : Program → Result Program SourceFault
good p = Ok p

abbrev bad : SourceFault → Result Program SourceFault
bad fault = Err fault

-- what a source is read as is one
pub one_reading : (source : List ℕ) (read other : Result Program SourceFault) → IsReadAs source read → IsReadAs source other → read ≡ other
one_reading source (Ok p) (Ok q) a b = ap good (one_program source p q a b)
one_reading source (Ok p) (Err fault) a b = absurd (no_fault_of_program source p fault a b)
one_reading source (Err fault) (Ok q) a b = absurd (no_fault_of_program source q fault b a)
one_reading source (Err fault) (Err other) a b = ap bad (one_fault source fault other a b)
