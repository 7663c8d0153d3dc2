-- Code that is added keeps what the code before it does.
use Rattle.std.proofs.Common.{◌≡◌, ℕ, ◌+◌, ◌-◌, ◌<◌, ⊎_elim, List, [], ◌∷◌, ◌++◌, length, get_or, Bool, Option, Some, None, Result, Ok, Err, IfOk, OnOk, refl, sym, ap, ◌∙◌, subst, arith, append_assoc, append-nil, length-append}
use Rattle.std.specs.Prelude.{slice_get, slice_index}
use Rattle.std.proofs.Math.Seq.{get_or-append_seam}
use Rattle.std.proofs.lemmas.Bool.{cases_lt}
use Rattle.std.proofs.lemmas.List.{get_or_append_left}
use Rattle.std.proofs.lemmas.Option.{slice_get-get_or, slice_get_read}
use Rattle.cob_forms.specs.declared.written.Name.{Name}
use Rattle.cob_forms.specs.declared.written.Position.{Position}
use Rattle.cob_proc.specs.declared.tree.Condition.{Condition}
use Rattle.cob_proc.specs.declared.tree.Identifier.{Identifier}
use Rattle.cob_proc.specs.declared.tree.Repetition.{Repetition}
use Rattle.cob_proc.specs.Trees.{performs, Tree, plain, branches, receives, Block, none, lead, ParagraphTree}
use Rattle.cob_meaning.specs.Layouts.{Layout}
use Rattle.cob_meaning.specs.Storage.{Storage}
use Rattle.cob_meaning.specs.Meaning.{are_written, last_of, paragraph_number}
use Rattle.cob_meaning.specs.Verbs.{receive}
use Rattle.cob_flat.specs.declared.operands.Test.{Test}
use Rattle.cob_flat.specs.declared.code.Instruction.{Instruction}
use Rattle.cob_flat.specs.declared.code.Instruction.TheVariants as instruction
use Rattle.cob_flat.specs.declared.code.Turns.{Turns}
use Rattle.cob_flat.specs.declared.code.Verb.{Verb}
use Rattle.cob_flat.specs.Effects.{request_by}
use Rattle.cob_flat.specs.Flat.{AreTurnsOf, IsTestOf, Does, DoesAll, DoesSentences, DoesParagraph}
use Rattle.cob_flat.specs.inner.Emitted.{Extends, IsPut, IsEmitted, AreEmitted, SentencesEmitted, IsParagraphEmitted, BelowEmitted}

-- what follows from what holds of a value, if there is one
pub if_ok : {A E : Type 0} (r : Result A E) (P Q : A → Type 0) → ((x : A) → P x → Q x) → IfOk r P → IfOk r Q
if_ok (Ok x) P Q f h = f x h
if_ok (Err e) P Q f h = tt

-- the same, with what holds whenever there is one
pub if_ok_on : {A E : Type 0} (r : Result A E) (R : Type 0) (P Q : A → Type 0) → OnOk r R → ((x : A) → R → P x → Q x) → IfOk r P → IfOk r Q
if_ok_on (Ok x) R P Q on f h = f x on h
if_ok_on (Err e) R P Q on f h = tt

pub extends_none : (code : List Instruction) → Extends code code
extends_none code = ([], sym (append-nil code))

pub extends_on : (a b c : List Instruction) → Extends a b → Extends b c → Extends a c
extends_on a b c h g = (h.0 ++ g.0, g.1 ∙ ap (λ l. l ++ g.0) h.1 ∙ append_assoc a h.0 g.0)

pub extends_one : (code all : List Instruction) (i : Instruction) → all ≡ code ++ i ∷ [] → Extends code all
extends_one code all i h = (i ∷ [], h)

-- the instruction that was added stays at its place
pub stays_put : (code new : List Instruction) (i : Instruction) (place : ℕ) → new ≡ code ++ i ∷ [] → place ≡ length code → IsPut new place i
stays_put code new i place h at all g =
    let e : all ≡ code ++ i ∷ g.0 = g.1 ∙ ap (λ l. l ++ g.0) h ∙ append_assoc code (i ∷ []) g.0 in
    let within : length code < length (code ++ i ∷ g.0) = omega (arith, length-append code (i ∷ g.0)) in
    ap (λ l. slice_get l place) e ∙ ap (slice_get (code ++ i ∷ g.0)) at ∙ slice_get-get_or (code ++ i ∷ g.0) (length code) i within ∙ ap Some (get_or-append_seam code i g.0 i)

module _ (layout : Layout) (text : List ParagraphTree) where
  -- what was emitted stays so
  pub still_emitted : (c1 c2 : List Instruction) (s : Tree) (place next : ℕ) → Extends c1 c2 → IsEmitted layout text c1 s place next → IsEmitted layout text c2 s place next
  still_emitted c1 c2 s place next x h = λ all g. h all (extends_on c1 c2 all x g)

  pub all_still_emitted : (c1 c2 : List Instruction) (block : Block) (place next : ℕ) → Extends c1 c2 → AreEmitted layout text c1 block place next → AreEmitted layout text c2 block place next
  all_still_emitted c1 c2 block place next x h = λ all g. h all (extends_on c1 c2 all x g)

  -- a statement as it is written
  pub as_written : (code : List Instruction) (s t : Tree) (place next : ℕ) → s ≡ t → IsEmitted layout text code s place next → IsEmitted layout text code t place next
  as_written code s t place next e h = subst (λ x. IsEmitted layout text code x place next) e h

  -- nothing to be done
  pub emits_none : (code : List Instruction) (next : ℕ) → AreEmitted layout text code none next next
  emits_none code next = λ all g. refl

  -- a statement before others
  pub emits_lead : (c1 c2 : List Instruction) (s : Tree) (others : Block) (place between next : ℕ) → AreEmitted layout text c1 others between next → Extends c1 c2 → IsEmitted layout text c2 s place between → AreEmitted layout text c2 (lead s others) place next
  emits_lead c1 c2 s others place between next a x h = λ all g. (between, h all g, a all (extends_on c1 c2 all x g))

  -- a sentence before others
  pub emits_sentence : (c1 c2 : List Instruction) (sentence : Block) (others : List Block) (place between next : ℕ) → SentencesEmitted layout text c1 others between next → Extends c1 c2 → AreEmitted layout text c2 sentence place between → SentencesEmitted layout text c2 (sentence ∷ others) place next
  emits_sentence c1 c2 sentence others place between next a x h = λ all g. (between, h all g, a all (extends_on c1 c2 all x g))

  -- PERFORM
  pub emits_performs : (code : List Instruction) (first : Name) (last : Option Name) (often : Repetition) (how : Turns) (m n place next : ℕ) → AreTurnsOf layout often how → m ≡ paragraph_number text first → n ≡ paragraph_number text (last_of first last) → IsPut code place (instruction.Perform m n how next) → IsEmitted layout text code (plain (performs first last often)) place next
  emits_performs code first last often how m n place next same a b h =
      λ all g. (how, h all g ∙ ap (λ i. Some (instruction.Perform i n how next)) a ∙ ap (λ i. Some (instruction.Perform (paragraph_number text first) i how next)) b, same)

  -- IF
  pub emits_branches : (c1 c2 c3 : List Instruction) (position : Position) (condition : Condition) (test : Test) (one other : Block) (at_one at_other place next : ℕ) → IsTestOf layout condition test → AreEmitted layout text c1 one at_one next → Extends c1 c2 → AreEmitted layout text c2 other at_other next → Extends c2 c3 → IsPut c3 place (instruction.Choose test at_one at_other) → IsEmitted layout text c3 (branches position condition one other) place next
  emits_branches c1 c2 c3 position condition test one other at_one at_other place next same a x b y h =
      λ all g. (at_one, at_other, test, h all g, same, a all (extends_on c1 c2 all x (extends_on c2 c3 all y g)), b all (extends_on c2 c3 all y g))

  -- RECEIVE
  pub emits_receives : (c1 c2 : List Instruction) (cd : Name) (segment : Bool) (into : Identifier) (no_data : Block) (v : Verb) (at_none place next : ℕ) → ((storage : Storage) → request_by v storage ≡ receive layout cd segment into (are_written no_data) storage) → AreEmitted layout text c1 no_data at_none next → Extends c1 c2 → IsPut c2 place (instruction.Ask v at_none next) → IsEmitted layout text c2 (receives cd segment into no_data) place next
  emits_receives c1 c2 cd segment into no_data v at_none place next same a x h =
      λ all g. (at_none, (v, h all g, same), a all (extends_on c1 c2 all x g))

  -- a paragraph, whose end was emitted first
  pub emits_paragraph : (c1 c2 : List Instruction) (p : ParagraphTree) (place end : ℕ) → IsPut c1 end instruction.End → Extends c1 c2 → SentencesEmitted layout text c2 p.sentences place end → IsParagraphEmitted layout text c2 p place
  emits_paragraph c1 c2 p place end h x s = λ all g. (end, s all g, h all (extends_on c1 c2 all x g))

  -- one paragraph more
  pub one_paragraph : (c1 c2 : List Instruction) (starts more_starts : List ℕ) (n : ℕ) (p : ParagraphTree) (place : ℕ) → length starts ≡ n → BelowEmitted layout text c1 starts n → Extends c1 c2 → IsParagraphEmitted layout text c2 p place → n < length text → p ≡ get_or text n p → more_starts ≡ starts ++ place ∷ [] → BelowEmitted layout text c2 more_starts (n + 1)
  one_paragraph c1 c2 starts more_starts n p place long h x g within is e all y k q lt at =
      ⊎_elim
      (λ less. subst (λ i. DoesParagraph layout text all q i) (sym (old less)) (h all (extends_on c1 c2 all x y) k q less at))
      (λ past.
      let same : k ≡ n = omega (arith, past, lt) in
      let here : Some q ≡ Some p = sym at ∙ ap (slice_get text) same ∙ slice_get_read text (length text) n p refl within is in
      let it : q ≡ p = cc in
      subst (λ i. DoesParagraph layout text all q i) (sym (new same)) (subst (λ r. DoesParagraph layout text all r place) (sym it) (g all y)))
      (cases_lt k n)
    where
      old : k < n → slice_index more_starts k ≡ slice_index starts k
      old less = ap (λ l. slice_index l k) e ∙ get_or_append_left starts (place ∷ []) 0 k (omega (arith, less, long))

      new : k ≡ n → slice_index more_starts k ≡ place
      new same =
          let here : k ≡ length starts = omega (arith, same, long) in
          ap (λ l. slice_index l k) e ∙ ap (slice_index (starts ++ place ∷ [])) here ∙ get_or-append_seam starts place [] 0
