-- The first fault of ranges, by bounds and a table.
use Rattle.std.proofs.Common.{◌≡◌, inl, inr, ℕ, suc, ◌+◌, ◌≤◌, ◌<◌, Bool, true, false, not, cond, List, [], ◌∷◌, length, map, get_or, Option, Some, None, refl, sym, ap, subst, ◌∙◌, arith}
use Rattle.std.specs.Prelude.{flat_map}
use Rattle.std.specs.List.{All, list_all, position_or_len}
use Rattle.cob_lex.specs.declared.fault.SourceFault.{SourceFault}
use Rattle.cob_lex.specs.declared.fault.SourceKind.TheVariants as faults
use Rattle.cob_forms.specs.Faults.{earlier, first}
use Rattle.cob_proc.specs.Trees.{Tree, plain, branches, receives, moves, adds, subtracts, performs, goes, exits, stops, sends, switches_input, switches_output, accepts, ParagraphTree}
use Rattle.cob_meaning.specs.Meaning.{paragraph_number}
use Rattle.cob_meaning.specs.Names.{fault_unless}
use Rattle.cob_meaning.specs.Ranges.{Going, all_goes, goes_from, performs_from}
use Rattle.cob_code.specs.declared.bounds.Bounds.{Bounds}
use Rattle.cob_code.specs.declared.ranges.Jump.{Jump}
use Rattle.cob_code.specs.declared.ranges.Range.{Range}
use Rattle.cob_code.specs.inner.Answers.{IsRangesAnswer}
use Rattle.cob_code.specs.inner.Bounds.{keeps, stays_in}
use Rattle.cob_code.specs.inner.Leading.{IsTableOf}
use Rattle.cob_code.specs.inner.Numbered.{aimed, numbered}
use Rattle.cob_code.specs.inner.RangeFaults as by
use Rattle.cob_code.specs.inner.Statements.{all_trees, own_goes}
use Rattle.cob_code.proofs.Firsts.{In, here, behind, from_flat, from_map, in_either, in_get, same_flat, to_contains}
use Rattle.cob_code.proofs.InTrees.{paragraph_goes}
use Rattle.cob_code.proofs.Joined.{of_three}
use Rattle.cob_code.proofs.Reaching.{below, first_found, found_faults, none_found}

-- a place is within its list, or its end
place_within : {X : Type 0} (p : X → Bool) (xs : List X) → position_or_len p xs ≤ length xs
place_within p [] = omega arith
place_within p (x ∷ xs) = by_test (p x) (place_within p xs)
  where
    by_test : (b : Bool) → position_or_len p xs ≤ length xs → cond (not b) (1 + position_or_len p xs) 0 ≤ suc (length xs)
    by_test true le = omega arith
    by_test false le = omega (arith, le)

-- the number of a paragraph that has a GO is below the number of paragraphs
own_from : (k : ℕ) (tree : Tree) (going : Going) → In going (own_goes k tree) → going.from ≡ k
own_from k (plain (goes target)) going here = refl
own_from k (plain (goes target)) going (behind i) = elim i [ ]
own_from k (plain (performs first last often)) going i = elim i [ ]
own_from k (plain (moves source targets)) going i = elim i [ ]
own_from k (plain (adds addend target)) going i = elim i [ ]
own_from k (plain (subtracts addend target)) going i = elim i [ ]
own_from k (plain exits) going i = elim i [ ]
own_from k (plain stops) going i = elim i [ ]
own_from k (plain (sends cd from ending)) going i = elim i [ ]
own_from k (plain (switches_input on terminal cd key)) going i = elim i [ ]
own_from k (plain (switches_output on cd key)) going i = elim i [ ]
own_from k (plain (accepts cd)) going i = elim i [ ]
own_from k (branches position condition one other) going i = elim i [ ]
own_from k (receives cd segment into no_data) going i = elim i [ ]

goes_below : (k : ℕ) (paragraphs : List ParagraphTree) (going : Going) → In going (goes_from k paragraphs) → going.from < k + length paragraphs
goes_below k [] going i = elim i [ ]
goes_below k (paragraph ∷ others) going i =
    elim (in_either going (flat_map (all_goes k) paragraph.sentences) (goes_from (suc k) others) i) [
      | inl j ↦ (let P : List Going → Type 0 = λ l. In going l in
          let own = from_flat (own_goes k) (all_trees paragraph) going (subst P (paragraph_goes k paragraph) j) in
          let same : going.from ≡ k = own_from k own.0 going own.2 in
          omega (arith, same))
      | inr j ↦ (let lt = goes_below (suc k) others going j in omega (arith, lt))
    ]

-- each PERFORM is in a paragraph
pub all_below : (text : List ParagraphTree) (limit : ℕ) → limit ≡ length text → All (λ range. range.from < limit) (map (numbered text) (performs_from 0 text))
all_below text limit same k d lt =
    let ps = performs_from 0 text in
    let found = from_map (numbered text) ps (get_or (map (numbered text) ps) k d) (in_get (map (numbered text) ps) k d lt) in
    let low = below text found.0 (to_contains ps found.0 found.1) in
    let P : Range → Type 0 = λ range. range.from < limit in
    subst P (sym found.2) (omega (arith, same, low))

module _ (text : List ParagraphTree) (limit : ℕ) (same : limit ≡ length text) (table : List (List Bool)) (is : IsTableOf limit (map (numbered text) (performs_from 0 text)) table) (bounds : List Bounds)
    (each : (from to : ℕ) → from < limit → to ≤ limit → keeps bounds from to ≡ list_all (stays_in from to) (map (numbered text) (performs_from 0 text))) where
  abbrev rs : List Range
  rs = map (numbered text) (performs_from 0 text)

  abbrev js : List Jump
  js = map (aimed text) (goes_from 0 text)

  one_leaving : (jump : Jump) → In jump js → by.leaving_by bounds jump ≡ by.leaving rs jump
  one_leaving jump i =
      let found = from_map (aimed text) (goes_from 0 text) jump i in
      let low = goes_below 0 text found.0 found.1 in
      let within : paragraph_number text found.0.target ≤ length text = place_within _ text in
      let P : Jump → Type 0 = λ j. by.leaving_by bounds j ≡ by.leaving rs j in
      subst P (sym found.2)
      (ap (λ b. fault_unless b found.0.target.position faults.LeavesRange) (each found.0.from (paragraph_number text found.0.target) (omega (arith, same, low)) (omega (arith, same, within))))

  real : IsTableOf (length text) rs table
  real = let P : ℕ → Type 0 = λ n. IsTableOf n rs table in subst P same is

  joined : (backward leaving circle : Option SourceFault) → backward ≡ first (flat_map by.backward rs) → leaving ≡ first (flat_map (by.leaving_by bounds) js) → circle ≡ first (flat_map (by.circling table) rs)
      → earlier (earlier backward leaving) circle ≡ first (found_faults text table real)
  joined backward leaving circle e f g =
      ap (λ o. earlier (earlier o leaving) circle) e
      ∙ ap (λ o. earlier (earlier (first (flat_map by.backward rs)) o) circle) (f ∙ ap first (same_flat (by.leaving_by bounds) (by.leaving rs) js one_leaving))
      ∙ ap (earlier (earlier (first (flat_map by.backward rs)) (first (flat_map (by.leaving rs) js)))) g
      ∙ sym (of_three (flat_map by.backward rs) (flat_map (by.leaving rs) js) (flat_map (by.circling table) rs))

  of_first : (o : Option SourceFault) → first (found_faults text table real) ≡ o → IsRangesAnswer text o
  of_first (Some f) e = first_found text table real f e
  of_first None e = none_found text table real e

  pub answers : (backward leaving circle : Option SourceFault) → backward ≡ first (flat_map by.backward rs) → leaving ≡ first (flat_map (by.leaving_by bounds) js) → circle ≡ first (flat_map (by.circling table) rs)
      → IsRangesAnswer text (earlier (earlier backward leaving) circle)
  answers backward leaving circle e f g = of_first (earlier (earlier backward leaving) circle) (sym (joined backward leaving circle e f g))
