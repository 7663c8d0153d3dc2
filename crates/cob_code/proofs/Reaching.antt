-- The faults of ranges by numbers are those that are meant.
use Rattle.std.proofs.Common.{◌≡◌, inl, inr, ℕ, zero, suc, ◌+◌, ◌≤◌, ◌<◌, Bool, true, false, not, ◌&&◌, ◌||◌, List, [], ◌∷◌, ◌++◌, length, map, take, drop, Some, None, refl, sym, ap, subst, ◌∙◌, arith}
use Rattle.std.specs.Prelude.{flat_map, nat_le, slice_get}
use Rattle.std.specs.List.{list_all, list_any}
use Rattle.std.proofs.lemmas.Bool.Decides.{nat_tests}
use Rattle.cob_lex.specs.declared.fault.SourceFault.{SourceFault}
use Rattle.cob_lex.specs.declared.fault.SourceKind.{SourceKind}
use Rattle.cob_forms.specs.declared.written.Position.{Position}
use Rattle.cob_forms.specs.Faults.{first}
use Rattle.cob_proc.specs.Trees.{Tree, plain, branches, receives, moves, adds, subtracts, performs, goes, exits, stops, sends, switches_input, switches_output, accepts, ParagraphTree}
use Rattle.cob_meaning.specs.Meaning.{paragraph_number}
use Rattle.cob_meaning.specs.Names.{fault_at, fault_unless}
use Rattle.cob_meaning.specs.Ranges.{Going, IsPerformed, all_performs, IsFirstOf, IsIn, IsRangesFault, Performing, Range, Reaches, backward, circles, directly, goes_from, leaves, performs_from, range_of, through}
use Rattle.cob_code.specs.declared.ranges.Jump.{Jump}
use Rattle.cob_code.specs.declared.ranges as numbers
use Rattle.cob_code.specs.inner.Bounds.{is_in, stays_in}
use Rattle.cob_code.specs.inner.Leading.{IsTableOf, Leads, itself, over}
use Rattle.cob_code.specs.inner.Numbered.{aimed, numbered}
use Rattle.cob_code.specs.inner.RangeFaults as by
use Rattle.cob_code.specs.inner.Sets.{any_between, has, set_at}
use Rattle.cob_code.specs.inner.Statements.{all_trees, own_performs}
use Rattle.cob_code.proofs.InTrees.{paragraph_performs}
use Rattle.cob_code.proofs.Firsts.{In, here, behind, from_contains, to_contains, in_map, from_map, in_flat, from_flat, in_left, in_right, in_either, is_one, none_before, none_in}

-- TESTS

unless_in : (b : Bool) (position : Position) (kind : SourceKind) (f : SourceFault) → In f (fault_unless b position kind) → (b ≡ false) × (f ≡ fault_at position kind)
unless_in true position kind f i = elim i [ ]
unless_in false position kind f here = (refl, refl)
unless_in false position kind f (behind i) = elim i [ ]

in_unless : (b : Bool) (position : Position) (kind : SourceKind) → b ≡ false → In (fault_at position kind) (fault_unless b position kind)
in_unless true position kind e = cc
in_unless false position kind e = here

is_in_true : (first last k : ℕ) → (nat_le first k && nat_le k last) ≡ true → (first ≤ k) × (k ≤ last)
is_in_true first last k e = (grind (arith, nat_tests), grind (arith, nat_tests))

true_is_in : (first last k : ℕ) → first ≤ k → k ≤ last → (nat_le first k && nat_le k last) ≡ true
true_is_in first last k h g = grind (arith, nat_tests)

not_le : (a b : ℕ) → nat_le a b ≡ false → b < a
not_le a b e = grind (arith, nat_tests)

le_not : (a b : ℕ) → b < a → nat_le a b ≡ false
le_not a b e = grind (arith, nat_tests)

stays_false : (a b : Bool) → (not a || b) ≡ false → (a ≡ true) × (b ≡ false)
stays_false true false e = (refl, refl)
stays_false true true e = cc
stays_false false b e = cc

false_stays : (a b : Bool) → a ≡ true → b ≡ false → (not a || b) ≡ false
false_stays true false e f = refl
false_stays true true e f = cc
false_stays false b e f = cc

not_all : {X : Type 0} (p : X → Bool) (xs : List X) → list_all p xs ≡ false → (x : X) × In x xs × (p x ≡ false)
not_all p [] e = cc
not_all p (x ∷ xs) e = by_head (p x) refl (not_all p xs)
  where
    by_head : (b : Bool) → p x ≡ b → (list_all p xs ≡ false → (y : _) × In y xs × (p y ≡ false)) → (y : _) × In y (x ∷ xs) × (p y ≡ false)
    by_head false h others = (x, here, h)
    by_head true h others = let r = others (let g : (true && list_all p xs) ≡ false = ap (λ b. b && list_all p xs) (sym h) ∙ e in g) in (r.0, behind r.1, r.2)

one_not : {X : Type 0} (p : X → Bool) (xs : List X) (x : X) → In x xs → p x ≡ false → list_all p xs ≡ false
one_not p [] x i e = elim i [ ]
one_not p (y ∷ ys) x here e = ap (λ b. b && list_all p ys) e
one_not p (y ∷ ys) x (behind i) e = both (p y) (list_all p ys) (one_not p ys x i e)
  where
    both : (a b : Bool) → b ≡ false → (a && b) ≡ false
    both true b h = h
    both false b h = refl

-- a flag among those from a place on
flag_at : (flags : List Bool) (n : ℕ) → list_any (λ flag. flag) (take n flags) ≡ true → (m : ℕ) × (m < n) × (has flags m ≡ true)
flag_at [] zero e = cc
flag_at [] (suc n) e = cc
flag_at (x ∷ xs) zero e = cc
flag_at (true ∷ xs) (suc n) e = (0, omega arith, refl)
flag_at (false ∷ xs) (suc n) e = let r = flag_at xs n e in (suc r.0, omega (arith, r.1), r.2)

at_flag : (flags : List Bool) (n m : ℕ) → m < n → has flags m ≡ true → list_any (λ flag. flag) (take n flags) ≡ true
at_flag [] n m lt e = cc
at_flag (x ∷ xs) zero m lt e = absurd (omega (arith, lt))
at_flag (true ∷ xs) (suc n) m lt e = refl
at_flag (false ∷ xs) (suc n) zero lt e = cc
at_flag (false ∷ xs) (suc n) (suc m) lt e = at_flag xs n m (omega (arith, lt)) e

any_from : (flags : List Bool) (first last : ℕ) → any_between flags first last ≡ true → (m : ℕ) × (first ≤ m) × (m ≤ last) × (has flags m ≡ true)
any_from flags zero last e = let r = flag_at flags (suc last) e in (r.0, omega arith, omega (arith, r.1), r.2)
any_from [] (suc first) last e = cc
any_from (x ∷ xs) (suc first) zero e = absurd (nothing xs first e)
  where
    nothing : (xs : List Bool) (first : ℕ) → list_any (λ flag. flag) (drop first (take 0 xs)) ≡ true → ⊥
    nothing xs zero e = cc
    nothing xs (suc first) e = cc
any_from (x ∷ xs) (suc first) (suc last) e = let r = any_from xs first last e in (suc r.0, omega (arith, r.1), omega (arith, r.2), r.3)

from_any : (flags : List Bool) (first last m : ℕ) → first ≤ m → m ≤ last → has flags m ≡ true → any_between flags first last ≡ true
from_any flags zero last m h g e = at_flag flags (suc last) m (omega (arith, g)) e
from_any [] (suc first) last m h g e = cc
from_any (x ∷ xs) (suc first) last zero h g e = absurd (omega (arith, h))
from_any (x ∷ xs) (suc first) zero (suc m) h g e = absurd (omega (arith, g))
from_any (x ∷ xs) (suc first) (suc last) (suc m) h g e = from_any xs first last m (omega (arith, h)) (omega (arith, g)) e

-- WHAT LEADS AND WHAT REACHES

from_get : (xs : List numbers.Range.Range) (at : ℕ) (x : numbers.Range.Range) → slice_get xs at ≡ Some x → In x xs
from_get [] at x e = cc
from_get (y ∷ ys) zero x e = let same : y ≡ x = cc in let P : numbers.Range.Range → Type 0 = λ z. In z (y ∷ ys) in subst P same here
from_get (y ∷ ys) (suc at) x e = behind (from_get ys at x e)

to_get : (xs : List numbers.Range.Range) (x : numbers.Range.Range) → In x xs → (at : ℕ) × (slice_get xs at ≡ Some x)
to_get [] x i = elim i [ ]
to_get (y ∷ ys) x here = (0, refl)
to_get (y ∷ ys) x (behind i) = let r = to_get ys x i in (suc r.0, r.1)

module _ (text : List ParagraphTree) where
  abbrev ps : List Performing
  ps = performs_from 0 text

  abbrev rs : List numbers.Range.Range
  rs = map (numbered text) ps

  inside : (p : Performing) (k : ℕ) → is_in (numbered text p) k ≡ true → IsIn (range_of text p) k
  inside p k e = let r = is_in_true _ _ k e in record { from_first = r.0; to_last = r.1 }

  from_inside : (p : Performing) (k : ℕ) → IsIn (range_of text p) k → is_in (numbered text p) k ≡ true
  from_inside p k i = true_is_in _ _ k i.from_first i.to_last

  -- what a range leads on to it reaches
  leads_reach : (range : Range) (to from : ℕ) → Leads rs to from → Reaches text range from → Reaches text range to
  leads_reach range to from itself r = r
  leads_reach range to from (over at q e i l) r =
      let p = from_map (numbered text) ps q (from_get rs at q e) in
      let reached = leads_reach range q.from from l r in
      let P : numbers.Range.Range → Type 0 = λ x. Reaches text range x.from in
      let Q : numbers.Range.Range → Type 0 = λ x. is_in x to ≡ true in
      through p.0 (to_contains ps p.0 p.1) (subst P p.2 reached) (inside p.0 to (subst Q p.2 i))

  -- what a range reaches one of its paragraphs leads to
  reach_leads : (range : Range) (k : ℕ) → Reaches text range k → (m : ℕ) × IsIn range m × Leads rs k m
  reach_leads range k (directly i) = (k, i, itself)
  reach_leads range k (through p performed r i) =
      let found = reach_leads range p.from r in
      let place = to_get rs (numbered text p) (in_map (numbered text) ps p (from_contains ps p performed)) in
      (found.0, found.1, over place.0 (numbered text p) place.1 (from_inside p k i) found.2)

  abbrev gs : List Going
  gs = goes_from 0 text

  -- the number of a paragraph that performs is below the number of paragraphs
  own_from : (k : ℕ) (tree : Tree) (p : Performing) → In p (own_performs k tree) → p.from ≡ k
  own_from k (plain (performs first last often)) p here = refl
  own_from k (plain (performs first last often)) p (behind i) = elim i [ ]
  own_from k (plain (moves source targets)) p i = elim i [ ]
  own_from k (plain (adds addend target)) p i = elim i [ ]
  own_from k (plain (subtracts addend target)) p i = elim i [ ]
  own_from k (plain (goes target)) p i = elim i [ ]
  own_from k (plain exits) p i = elim i [ ]
  own_from k (plain stops) p i = elim i [ ]
  own_from k (plain (sends cd from ending)) p i = elim i [ ]
  own_from k (plain (switches_input on terminal cd key)) p i = elim i [ ]
  own_from k (plain (switches_output on cd key)) p i = elim i [ ]
  own_from k (plain (accepts cd)) p i = elim i [ ]
  own_from k (branches position condition one other) p i = elim i [ ]
  own_from k (receives cd segment into no_data) p i = elim i [ ]

  below_from : (k : ℕ) (paragraphs : List ParagraphTree) (p : Performing) → In p (performs_from k paragraphs) → p.from < k + length paragraphs
  below_from k [] p i = elim i [ ]
  below_from k (paragraph ∷ others) p i =
      elim (in_either p (flat_map (all_performs k) paragraph.sentences) (performs_from (suc k) others) i) [
        | inl j ↦ (let P : List Performing → Type 0 = λ l. In p l in
            let own = from_flat (own_performs k) (all_trees paragraph) p (subst P (paragraph_performs k paragraph) j) in
            let same : p.from ≡ k = own_from k own.0 p own.2 in
            omega (arith, same))
        | inr j ↦ (let lt = below_from (suc k) others p j in omega (arith, lt))
      ]

  pub below : (p : Performing) → IsPerformed text p → p.from < length text
  below p performed = let lt = below_from 0 text p (from_contains ps p performed) in omega (arith, lt)

  not_in : (p : Performing) (k : ℕ) → (IsIn (range_of text p) k → ⊥) → is_in (numbered text p) k ≡ false
  not_in p k out = by_test (is_in (numbered text p) k) refl
    where
      by_test : (b : Bool) → is_in (numbered text p) k ≡ b → b ≡ false
      by_test true e = absurd (out (inside p k e))
      by_test false e = refl

  module _ (table : List (List Bool)) (is : IsTableOf (length text) rs table) where
    abbrev backs : List SourceFault
    backs = flat_map by.backward rs

    abbrev outs : List SourceFault
    outs = flat_map (by.leaving rs) (map (aimed text) gs)

    abbrev rounds : List SourceFault
    rounds = flat_map (by.circling table) rs

    abbrev pub found_faults : List SourceFault
    found_faults = backs ++ outs ++ rounds

    of_backward : (f : SourceFault) → In f backs → IsRangesFault text f
    of_backward f i =
        let r = from_flat by.backward rs f i in
        let p = from_map (numbered text) ps r.0 r.1 in
        let P : numbers.Range.Range → Type 0 = λ x. In f (by.backward x) in
        let t = unless_in _ _ _ f (subst P p.2 r.2) in
        subst (IsRangesFault text) (sym t.1) (backward p.0 (to_contains ps p.0 p.1) (not_le _ _ t.0))

    of_leaving : (f : SourceFault) → In f outs → IsRangesFault text f
    of_leaving f i =
        let r = from_flat (by.leaving rs) (map (aimed text) gs) f i in
        let going = from_map (aimed text) gs r.0 r.1 in
        let P : Jump → Type 0 = λ x. In f (by.leaving rs x) in
        let t = unless_in _ _ _ f (subst P going.2 r.2) in
        let n = not_all (stays_in going.0.from (paragraph_number text going.0.target)) rs t.0 in
        let p = from_map (numbered text) ps n.0 n.1 in
        let Q : numbers.Range.Range → Type 0 = λ x. stays_in going.0.from (paragraph_number text going.0.target) x ≡ false in
        let s = stays_false _ _ (subst Q p.2 n.2) in
        subst (IsRangesFault text) (sym t.1)
        (leaves going.0 p.0 (to_contains gs going.0 going.1) (to_contains ps p.0 p.1) (inside p.0 going.0.from s.0)
        (λ there. let e = from_inside p.0 (paragraph_number text going.0.target) there in let n = s.1 in cc))

    not_false : (b : Bool) → not b ≡ false → b ≡ true
    not_false true e = refl
    not_false false e = cc

    of_circle : (f : SourceFault) → In f rounds → IsRangesFault text f
    of_circle f i =
        let r = from_flat (by.circling table) rs f i in
        let p = from_map (numbered text) ps r.0 r.1 in
        let P : numbers.Range.Range → Type 0 = λ x. In f (by.circling table x) in
        let t = unless_in _ _ _ f (subst P p.2 r.2) in
        let m = any_from (set_at table p.0.from) _ _ (not_false _ t.0) in
        let led = is.sound p.0.from m.0 m.3 in
        subst (IsRangesFault text) (sym t.1)
        (circles p.0 (to_contains ps p.0 p.1) (leads_reach (range_of text p.0) p.0.from m.0 led (directly (record { from_first = m.1; to_last = m.2 }))))

    sound : (f : SourceFault) → In f found_faults → IsRangesFault text f
    sound f i =
        elim (in_either f (backs ++ outs) rounds i) [
          | inl j ↦ elim (in_either f backs outs j) [ inl a ↦ of_backward f a | inr b ↦ of_leaving f b ]
          | inr c ↦ of_circle f c
        ]

    complete : (f : SourceFault) → IsRangesFault text f → In f found_faults
    complete f (backward p performed lt) =
        in_left f (backs ++ outs) rounds (in_left f backs outs
        (in_flat by.backward rs (numbered text p) f (in_map (numbered text) ps p (from_contains ps p performed)) (in_unless _ _ _ (le_not _ _ lt))))
    complete f (leaves going p is_going performed i out) =
        in_left f (backs ++ outs) rounds (in_right f backs outs
        (in_flat (by.leaving rs) (map (aimed text) gs) (aimed text going) f (in_map (aimed text) gs going (from_contains gs going is_going))
        (in_unless _ _ _ (one_not (stays_in going.from (paragraph_number text going.target)) rs (numbered text p) (in_map (numbered text) ps p (from_contains ps p performed))
        (false_stays _ _ (from_inside p going.from i) (not_in p (paragraph_number text going.target) out))))))
    complete f (circles p performed r) =
        let m = reach_leads (range_of text p) p.from r in
        let led : has (set_at table p.from) m.0 ≡ true = is.complete p.from m.0 (below p performed) m.2 in
        in_right f (backs ++ outs) rounds
        (in_flat (by.circling table) rs (numbered text p) f (in_map (numbered text) ps p (from_contains ps p performed))
        (in_unless _ _ _ (ap not (from_any (set_at table p.from) _ _ m.0 m.1.from_first m.1.to_last led))))

    pub first_found : (f : SourceFault) → first found_faults ≡ Some f → IsFirstOf (IsRangesFault text) f
    first_found f e = record {
      is_fault = sound f (is_one found_faults f e);
      none_before = λ other meant. none_before found_faults other f (complete other meant) e;
    }

    pub none_found : first found_faults ≡ None → (f : SourceFault) → IsRangesFault text f → ⊥
    none_found e f meant = none_in found_faults f (complete f meant) e
