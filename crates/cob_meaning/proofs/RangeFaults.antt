-- Reaching is decided, and so are the faults of ranges: those of a text are in one list.
use Rattle.std.proofs.Common.{◌≡◌, ◌⊎◌, inl, inr, ◌<◌, ℕ, Bool, true, false, not, ◌||◌, ◌&&◌, nat_le, List, [], ◌∷◌, ◌++◌, Option, Some, None, refl, sym, ap, subst, ◌∙◌, arith}
use Rattle.std.specs.List.{flat_map}
use Rattle.std.proofs.lemmas.Bool.{and_parts}
use Rattle.std.proofs.lemmas.Grind.{common_steps}
use Rattle.std.proofs.lemmas.Bool.Decides.{nat_tests}
use Rattle.cob_lex.specs.declared.fault.SourceFault.{SourceFault}
use Rattle.cob_lex.specs.declared.fault.SourceKind.{SourceKind}
use Rattle.cob_lex.specs.declared.fault.SourceKind.TheVariants as faults
use Rattle.cob_forms.specs.declared.written.Position.{Position}
use Rattle.cob_forms.specs.Faults.{first}
use Rattle.cob_proc.specs.Trees.{ParagraphTree}
use Rattle.cob_meaning.specs.Meaning.{Program, last_of, paragraph_number}
use Rattle.cob_meaning.specs.Names.{fault_at, fault_unless, names_faults}
use Rattle.cob_meaning.specs.Ranges.{Going, IsFirstOf, IsIn, IsPerformed, IsRangesFault, backward, circles, leaves, Performing, Range, Reaches, directly, through, goes_from, performs_from, range_of}
use Rattle.cob_meaning.specs.Sources.{HasNoTreesFault, IsTreesFaultOf}
use Rattle.cob_meaning.proofs.Members.{FromMember, Member, contains_of, in_either, in_flat_map, in_left, in_right, member_of, of_flat_map}
use Rattle.cob_meaning.proofs.FirstFaults.{first_as, first_is_first, no_faults}

-- whether a paragraph is in a range
abbrev pub is_in : Range → ℕ → Bool
is_in range k = nat_le range.first k && nat_le k range.last

pub is_in_tells : (range : Range) (k : ℕ) → is_in range k ≡ true → IsIn range k
is_in_tells range k e = let h = and_parts (nat_le range.first k) (nat_le k range.last) e in
    record { from_first = grind (arith, nat_tests); to_last = grind (arith, nat_tests) }

pub is_in_says : (range : Range) (k : ℕ) → IsIn range k → is_in range k ≡ true
is_in_says range k h = let a = h.from_first in let b = h.to_last in grind (arith, common_steps, nat_tests)

pub not_in : (range : Range) (k : ℕ) → is_in range k ≡ false → IsIn range k → ⊥
not_in range k e h = let no : true ≡ false = sym (is_in_says range k h) ∙ e in absurd cc

module _ (text : List ParagraphTree) where
  -- over one range more
  reaches_on : {range : Range} (p : Performing) {k : ℕ} → IsPerformed text p → Reaches text range p.from → Reaches text (range_of text p) k → Reaches text range k
  reaches_on p is a (directly h) = through p is a h
  reaches_on p is a (through q other r h) = through q other (reaches_on p is a r) h

  -- whether a range reaches a paragraph over these PERFORMs and no other
  abbrev pub reaches_over : List Performing → Range → ℕ → Bool
  reaches_over [] range k = is_in range k
  reaches_over (p ∷ ps) range k = reaches_over ps range k || (reaches_over ps range p.from && reaches_over ps (range_of text p) k)

  or_true : (a b : Bool) → a || b ≡ true → (a ≡ true) ⊎ (b ≡ true)
  or_true true b e = inl refl
  or_true false b e = inr e

  or_left : (a b : Bool) → a ≡ true → a || b ≡ true
  or_left a b e = rw e refl

  or_both : (a b c : Bool) → b ≡ true → c ≡ true → a || (b && c) ≡ true
  or_both true b c e f = refl
  or_both false b c e f = rw (e, f) refl

  over_tells : (ps : List Performing) → ((p : Performing) → Member p ps → IsPerformed text p) → (range : Range) (k : ℕ) → reaches_over ps range k ≡ true → Reaches text range k
  over_tells [] are range k e = directly (is_in_tells range k e)
  over_tells (p ∷ ps) are range k e = by (λ r j. over_tells ps (λ q m. are q (inr m)) r j) (or_true (reaches_over ps range k) (reaches_over ps range p.from && reaches_over ps (range_of text p) k) e)
    where
      by : ((r : Range) (j : ℕ) → reaches_over ps r j ≡ true → Reaches text r j) → (reaches_over ps range k ≡ true) ⊎ (reaches_over ps range p.from && reaches_over ps (range_of text p) k ≡ true) → Reaches text range k
      by tells (inl h) = tells range k h
      by tells (inr h) = let both = and_parts (reaches_over ps range p.from) (reaches_over ps (range_of text p) k) h in
          reaches_on p (are p (inl refl)) (tells range p.from both.0) (tells (range_of text p) k both.1)

  -- reaching over these PERFORMs
  data Over (ps : List Performing) (range : Range) : ℕ → Type 0 where
    straight : {k : ℕ} → IsIn range k → Over ps range k
    over : {k : ℕ} (q : Performing) → Member q ps → Over ps range q.from → IsIn (range_of text q) k → Over ps range k

  -- one PERFORM is used once at most
  once : {range : Range} (p : Performing) (ps : List Performing) {k : ℕ} → Over (p ∷ ps) range k → Over ps range k ⊎ (Over ps range p.from × Over ps (range_of text p) k)
  once p ps (straight h) = inl (straight h)
  once {range} p ps {k} (over q (inr m) r h) = by (once p ps r)
    where
      by : Over ps range q.from ⊎ (Over ps range p.from × Over ps (range_of text p) q.from) → Over ps range k ⊎ (Over ps range p.from × Over ps (range_of text p) k)
      by (inl a) = inl (over q m a h)
      by (inr b) = inr (b.0, over q m b.1 h)
  once {range} p ps {k} (over q (inl e) r h) = by (once p ps r)
    where
      here : Over ps (range_of text p) k
      here = straight (subst (λ x. IsIn (range_of text x) k) e h)

      by : Over ps range q.from ⊎ (Over ps range p.from × Over ps (range_of text p) q.from) → Over ps range k ⊎ (Over ps range p.from × Over ps (range_of text p) k)
      by (inl a) = inr (subst (λ (x : Performing). Over ps range x.from) e a, here)
      by (inr b) = inr (b.0, here)

  no_over : {range : Range} {k : ℕ} → Over [] range k → IsIn range k
  no_over (straight h) = h
  no_over (over q m r h) = absurd m

  over_says : (ps : List Performing) (range : Range) (k : ℕ) → Over ps range k → reaches_over ps range k ≡ true
  over_says [] range k h = is_in_says range k (no_over h)
  over_says (p ∷ ps) range k h = by (λ r j. over_says ps r j) (once p ps h)
    where
      by : ((r : Range) (j : ℕ) → Over ps r j → reaches_over ps r j ≡ true) → Over ps range k ⊎ (Over ps range p.from × Over ps (range_of text p) k) → reaches_over (p ∷ ps) range k ≡ true
      by says (inl a) = or_left _ _ (says range k a)
      by says (inr b) = or_both (reaches_over ps range k) _ _ (says range p.from b.0) (says (range_of text p) k b.1)

  as_over : {range : Range} {k : ℕ} → Reaches text range k → Over (performs_from 0 text) range k
  as_over (directly h) = straight h
  as_over (through p is r h) = over p (member_of (performs_from 0 text) p is) (as_over r) h

  -- whether a range reaches a paragraph
  abbrev pub reaches : Range → ℕ → Bool
  reaches range k = reaches_over (performs_from 0 text) range k

  pub reaches_tells : (range : Range) (k : ℕ) → reaches range k ≡ true → Reaches text range k
  reaches_tells range k e = over_tells (performs_from 0 text) (λ p m. contains_of (performs_from 0 text) p m) range k e

  pub reaches_says : (range : Range) (k : ℕ) → Reaches text range k → reaches range k ≡ true
  reaches_says range k h = over_says (performs_from 0 text) range k (as_over h)

  -- THE FAULTS IN A LIST

  abbrev pub backward_faults : Performing → List SourceFault
  backward_faults p = fault_unless (nat_le (range_of text p).first (range_of text p).last) (last_of p.first p.last).position faults.LeavesRange

  abbrev pub leaving_faults : Going → Performing → List SourceFault
  leaving_faults going p =
      fault_unless (not (is_in (range_of text p) going.from) || is_in (range_of text p) (paragraph_number text going.target)) going.target.position faults.LeavesRange

  abbrev pub circle_faults : Performing → List SourceFault
  circle_faults p = fault_unless (not (reaches (range_of text p) p.from)) p.first.position faults.PerformsItself

  abbrev pub ranges_faults : List SourceFault
  ranges_faults =
      flat_map backward_faults (performs_from 0 text) ++ flat_map (λ going. flat_map (leaving_faults going) (performs_from 0 text)) (goes_from 0 text)
      ++ flat_map circle_faults (performs_from 0 text)

  -- a fault is there where something does not hold
  wrong_there : (b : Bool) (position : Position) (kind : SourceKind) → b ≡ false → Member (fault_at position kind) (fault_unless b position kind)
  wrong_there true position kind e = absurd cc
  wrong_there false position kind e = inl refl

  wrong_is : (b : Bool) (position : Position) (kind : SourceKind) (x : SourceFault) → Member x (fault_unless b position kind) → (b ≡ false) × (fault_at position kind ≡ x)
  wrong_is true position kind x m = absurd m
  wrong_is false position kind x (inl e) = (refl, sym e)
  wrong_is false position kind x (inr m) = absurd m

  above : (m n : ℕ) → nat_le m n ≡ false → n < m
  above m n e = grind (arith, nat_tests)

  not_le : (m n : ℕ) → n < m → nat_le m n ≡ false
  not_le m n lt = grind (arith, nat_tests)

  leaves_parts : (a b : Bool) → not a || b ≡ false → (a ≡ true) × (b ≡ false)
  leaves_parts true b e = (refl, e)
  leaves_parts false b e = absurd cc

  leaves_whole : (a b : Bool) → a ≡ true → b ≡ false → not a || b ≡ false
  leaves_whole a b e f = rw (e, f) refl

  was_true : (b : Bool) → not b ≡ false → b ≡ true
  was_true true e = refl
  was_true false e = absurd cc

  not_true : (b : Bool) → (b ≡ true → ⊥) → b ≡ false
  not_true true never = absurd (never refl)
  not_true false _ = refl

  performed : (p : Performing) → Member p (performs_from 0 text) → IsPerformed text p
  performed p m = contains_of (performs_from 0 text) p m

  pub fault_of : (x : SourceFault) → Member x ranges_faults → IsRangesFault text x
  fault_of x m = by (in_either x (flat_map backward_faults (performs_from 0 text) ++ flat_map (λ going. flat_map (leaving_faults going) (performs_from 0 text)) (goes_from 0 text)) (flat_map circle_faults (performs_from 0 text)) m)
    where
      is_backward : FromMember backward_faults x (performs_from 0 text) → IsRangesFault text x
      is_backward h = let w = wrong_is _ _ _ x h.made in
          subst (IsRangesFault text) w.1 (backward h.from (performed h.from h.member) (above (range_of text h.from).first (range_of text h.from).last w.0))

      is_leaving : (going : Going) → Member going (goes_from 0 text) → FromMember (leaving_faults going) x (performs_from 0 text) → IsRangesFault text x
      is_leaving going g h =
          let w = wrong_is _ _ _ x h.made in
          let parts = leaves_parts (is_in (range_of text h.from) going.from) (is_in (range_of text h.from) (paragraph_number text going.target)) w.0 in
          subst (IsRangesFault text) w.1
          (leaves going h.from (contains_of (goes_from 0 text) going g) (performed h.from h.member) (is_in_tells _ _ parts.0) (not_in _ _ parts.1))

      is_circle : FromMember circle_faults x (performs_from 0 text) → IsRangesFault text x
      is_circle h =
          let w = wrong_is _ _ _ x h.made in
          subst (IsRangesFault text) w.1 (circles h.from (performed h.from h.member) (reaches_tells (range_of text h.from) h.from.from (was_true (reaches (range_of text h.from) h.from.from) w.0)))

      leaving : FromMember (λ going. flat_map (leaving_faults going) (performs_from 0 text)) x (goes_from 0 text) → IsRangesFault text x
      leaving h = is_leaving h.from h.member (of_flat_map (leaving_faults h.from) x (performs_from 0 text) h.made)

      inner : Member x (flat_map backward_faults (performs_from 0 text)) ⊎ Member x (flat_map (λ going. flat_map (leaving_faults going) (performs_from 0 text)) (goes_from 0 text)) → IsRangesFault text x
      inner (inl h) = is_backward (of_flat_map backward_faults x (performs_from 0 text) h)
      inner (inr h) = leaving (of_flat_map (λ going. flat_map (leaving_faults going) (performs_from 0 text)) x (goes_from 0 text) h)

      by : Member x (flat_map backward_faults (performs_from 0 text) ++ flat_map (λ going. flat_map (leaving_faults going) (performs_from 0 text)) (goes_from 0 text)) ⊎ Member x (flat_map circle_faults (performs_from 0 text)) → IsRangesFault text x
      by (inl h) = inner (in_either x _ _ h)
      by (inr h) = is_circle (of_flat_map circle_faults x (performs_from 0 text) h)

  pub fault_in : (x : SourceFault) → IsRangesFault text x → Member x ranges_faults
  fault_in x (backward p is lt) =
      in_left x _ (flat_map circle_faults (performs_from 0 text)) (in_left x (flat_map backward_faults (performs_from 0 text)) (flat_map (λ going. flat_map (leaving_faults going) (performs_from 0 text)) (goes_from 0 text))
      (in_flat_map backward_faults x p (performs_from 0 text) (member_of _ p is) (wrong_there _ _ _ (not_le (range_of text p).first (range_of text p).last lt))))
  fault_in x (leaves going p g is inside out) =
      in_left x _ (flat_map circle_faults (performs_from 0 text)) (in_right x (flat_map backward_faults (performs_from 0 text)) (flat_map (λ going. flat_map (leaving_faults going) (performs_from 0 text)) (goes_from 0 text))
      (in_flat_map (λ going. flat_map (leaving_faults going) (performs_from 0 text)) x going (goes_from 0 text) (member_of _ going g)
      (in_flat_map (leaving_faults going) x p (performs_from 0 text) (member_of _ p is)
      (wrong_there _ _ _ (leaves_whole (is_in (range_of text p) going.from) (is_in (range_of text p) (paragraph_number text going.target)) (is_in_says _ _ inside)
      (not_true (is_in (range_of text p) (paragraph_number text going.target)) (λ e. out (is_in_tells _ _ e))))))))
  fault_in x (circles p is r) =
      in_right x (flat_map backward_faults (performs_from 0 text) ++ flat_map (λ going. flat_map (leaving_faults going) (performs_from 0 text)) (goes_from 0 text)) (flat_map circle_faults (performs_from 0 text))
      (in_flat_map circle_faults x p (performs_from 0 text) (member_of _ p is) (wrong_there _ _ _ (ap not (reaches_says (range_of text p) p.from r))))

  -- the first of the list is the first of all
  pub first_fault : (x : SourceFault) → first ranges_faults ≡ Some x → IsFirstOf (IsRangesFault text) x
  first_fault x e = first_as (λ y. Member y ranges_faults) (IsRangesFault text) x fault_of fault_in (first_is_first ranges_faults x e)

  pub no_fault : first ranges_faults ≡ None → (x : SourceFault) → IsRangesFault text x → ⊥
  no_fault e x h = let none = no_faults ranges_faults e in subst (λ l. Member x l) none (fault_in x h)

  -- each text has a first fault of ranges, or none
  pub judged : ((x : SourceFault) × IsFirstOf (IsRangesFault text) x) ⊎ ((x : SourceFault) → IsRangesFault text x → ⊥)
  judged = by (first ranges_faults) refl
    where
      by : (o : Option SourceFault) → first ranges_faults ≡ o → ((x : SourceFault) × IsFirstOf (IsRangesFault text) x) ⊎ ((x : SourceFault) → IsRangesFault text x → ⊥)
      by None e = inr (no_fault e)
      by (Some x) e = inl (x, first_fault x e)

-- what the passes over trees find, by the lists of their faults
pub fault_of_ranges : (program : Program) (x : SourceFault) → first (names_faults program) ≡ None → first (ranges_faults program.text) ≡ Some x → IsTreesFaultOf program x
fault_of_ranges program x e f = inr (e, first_fault program.text x f)

pub free_of_faults : (program : Program) → first (names_faults program) ≡ None → first (ranges_faults program.text) ≡ None → HasNoTreesFault program
free_of_faults program e f = record { names = e; ranges = no_fault program.text f }
