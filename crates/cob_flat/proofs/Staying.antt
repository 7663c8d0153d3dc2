-- The GOs and PERFORMs of a text whose ranges have no fault stay in them.
use Rattle.std.proofs.Common.{◌≡◌, ◌⊎◌, inl, inr, ℕ, zero, suc, ◌+◌, ◌-◌, ◌<◌, ◌≤◌, List, [], ◌∷◌, length, Option, Some, None, refl, sym, ap, ◌∙◌, subst, arith, ⊎_elim}
use Rattle.std.specs.Prelude.{flat_map, IfSome, slice_get}
use Rattle.std.specs.List.{AllByRecursion}
use Rattle.std.proofs.lemmas.Bool.{cases_lt}
use Rattle.cob_lex.specs.declared.fault.SourceFault.{SourceFault}
use Rattle.cob_forms.specs.declared.written.Name.{Name}
use Rattle.cob_proc.specs.Trees.{Plain, moves, adds, subtracts, performs, goes, exits, stops, sends, switches_input, switches_output, accepts, Tree, plain, branches, receives, Block, none, lead, ParagraphTree}
use Rattle.cob_meaning.specs.Layouts.{Layout}
use Rattle.cob_meaning.specs.Checked.{AreChecked, AreCheckedParagraphs, IsCheckedPlain, IsCheckedStatement, IsCheckedText, IsParagraphName}
use Rattle.cob_meaning.specs.Meaning.{last_of, paragraph_number}
use Rattle.cob_meaning.specs.Ranges.{Performing, Going, plain_performs, performs_in, all_performs, plain_goes, goes_in, all_goes, performs_from, goes_from, IsIn, range_of, IsPerformed, IsRangesFault, backward, leaves}
use Rattle.cob_meaning.proofs.Members.{Member, in_left, in_right, contains_of}
use Rattle.cob_flat.specs.Compiled.{IsRangeOf, StaysPlain, Stays, StayAll, StaySentences}

module _ (layout : Layout) (text : List ParagraphTree) (sound : (fault : SourceFault) → IsRangesFault text fault → ⊥) where
  -- the PERFORMs and GOs of the text
  abbrev OfText : List Performing → Type 0
  OfText list = (p : Performing) → Member p list → Member p (performs_from 0 text)

  abbrev GoesOfText : List Going → Type 0
  GoesOfText list = (g : Going) → Member g list → Member g (goes_from 0 text)

  -- a GO
  in_range : (k : ℕ) (target : Name) (p : Performing) → Member (record { from = k; target = target }) (goes_from 0 text) → IsPerformed text p
      → paragraph_number text p.first ≤ k → k ≤ paragraph_number text (last_of p.first p.last)
      → (paragraph_number text p.first ≤ paragraph_number text target) × (paragraph_number text target ≤ paragraph_number text (last_of p.first p.last))
  in_range k target p member performed low high = (from_first, to_last)
    where
      outside : (IsIn (range_of text p) (paragraph_number text target) → ⊥) → ⊥
      outside out =
          sound _ (leaves (record { from = k; target = target }) p (contains_of (goes_from 0 text) (record { from = k; target = target }) member) performed (record { from_first = low; to_last = high }) out)

      from_first : paragraph_number text p.first ≤ paragraph_number text target
      from_first =
          ⊎_elim
          (λ less. absurd (outside (λ h. let never : ⊥ = omega (arith, less, h.from_first) in never)))
          (λ fine. fine)
          (cases_lt (paragraph_number text target) (paragraph_number text p.first))

      to_last : paragraph_number text target ≤ paragraph_number text (last_of p.first p.last)
      to_last =
          ⊎_elim
          (λ less. absurd (outside (λ h. let never : ⊥ = omega (arith, less, h.to_last) in never)))
          (λ fine. fine)
          (cases_lt (paragraph_number text (last_of p.first p.last)) (paragraph_number text target))

  go_stays : (k : ℕ) (target : Name) → IsParagraphName layout text target → Member (record { from = k; target = target }) (goes_from 0 text) → StaysPlain text k (goes target)
  go_stays k target named member first last (inl whole) low high = (omega (arith, whole.0), omega (arith, whole.1, named))
  go_stays k target named member first last (inr range) low high =
      let stays = in_range k target range.0 member range.1 (omega (arith, range.2, low)) (omega (arith, range.3, high)) in
      (omega (arith, range.2, stays.0), omega (arith, range.3, stays.1))

  -- a PERFORM
  last_named : (first : Name) (last : Option Name) → IsParagraphName layout text first → IfSome last (IsParagraphName layout text) → IsParagraphName layout text (last_of first last)
  last_named first None named h = named
  last_named first (Some name) named h = h

  forward : (p : Performing) → IsPerformed text p → paragraph_number text p.first ≤ paragraph_number text (last_of p.first p.last)
  forward p performed =
      ⊎_elim (λ less. absurd (sound _ (backward p performed less))) (λ fine. fine)
      (cases_lt (paragraph_number text (last_of p.first p.last)) (paragraph_number text p.first))

  plain_stays : (k : ℕ) (statement : Plain) → IsCheckedPlain layout text statement → OfText (plain_performs k statement) → GoesOfText (plain_goes k statement) → StaysPlain text k statement
  plain_stays k (performs first last often) checked a b =
      let p : Performing = record { from = k; first = first; last = last } in
      let performed = contains_of (performs_from 0 text) p (a p (inl refl)) in
      (inr (p, performed, refl, refl), forward p performed, last_named first last checked.0 checked.1)
  plain_stays k (goes target) checked a b = go_stays k target checked (b (record { from = k; target = target }) (inl refl))
  plain_stays k (moves source targets) checked a b = tt
  plain_stays k (adds addend target) checked a b = tt
  plain_stays k (subtracts addend target) checked a b = tt
  plain_stays k exits checked a b = tt
  plain_stays k stops checked a b = tt
  plain_stays k (sends cd from ending) checked a b = tt
  plain_stays k (switches_input on terminal cd key) checked a b = tt
  plain_stays k (switches_output on cd key) checked a b = tt
  plain_stays k (accepts cd) checked a b = tt

  mutual
    tree_stays : (k : ℕ) (tree : Tree) → IsCheckedStatement layout text tree → OfText (performs_in k tree) → GoesOfText (goes_in k tree) → Stays text k tree
    tree_stays k (plain statement) checked a b = plain_stays k statement checked a b
    tree_stays k (branches position condition one other) checked a b = (
      block_stays k one checked.1 (λ p m. a p (in_left p (all_performs k one) (all_performs k other) m)) (λ g m. b g (in_left g (all_goes k one) (all_goes k other) m)),
      block_stays k other checked.2 (λ p m. a p (in_right p (all_performs k one) (all_performs k other) m)) (λ g m. b g (in_right g (all_goes k one) (all_goes k other) m)),
    )
    tree_stays k (receives cd segment into no_data) checked a b = block_stays k no_data checked.2 a b

    block_stays : (k : ℕ) (block : Block) → AreChecked layout text block → OfText (all_performs k block) → GoesOfText (all_goes k block) → StayAll text k block
    block_stays k none checked a b = tt
    block_stays k (lead tree others) checked a b = (
      tree_stays k tree checked.0 (λ p m. a p (in_left p (performs_in k tree) (all_performs k others) m)) (λ g m. b g (in_left g (goes_in k tree) (all_goes k others) m)),
      block_stays k others checked.1 (λ p m. a p (in_right p (performs_in k tree) (all_performs k others) m)) (λ g m. b g (in_right g (goes_in k tree) (all_goes k others) m)),
    )

  sentences_stay : (k : ℕ) (sentences : List Block) → AllByRecursion (AreChecked layout text) sentences → OfText (flat_map (all_performs k) sentences) → GoesOfText (flat_map (all_goes k) sentences) → StaySentences text k sentences
  sentences_stay k [] checked a b = tt
  sentences_stay k (block ∷ others) checked a b = (
    block_stays k block checked.0 (λ p m. a p (in_left p (all_performs k block) (flat_map (all_performs k) others) m)) (λ g m. b g (in_left g (all_goes k block) (flat_map (all_goes k) others) m)),
    sentences_stay k others checked.1 (λ p m. a p (in_right p (all_performs k block) (flat_map (all_performs k) others) m)) (λ g m. b g (in_right g (all_goes k block) (flat_map (all_goes k) others) m)),
  )

  -- the PERFORMs and GOs of a paragraph among some, of which the first has the number j
  performs_there : (paragraphs : List ParagraphTree) (i j k : ℕ) (p : ParagraphTree) → slice_get paragraphs k ≡ Some p → i ≡ j + k → (x : Performing) → Member x (flat_map (all_performs i) p.sentences) → Member x (performs_from j paragraphs)
  performs_there [] i j k p at e x m = let never : ⊥ = cc in absurd never
  performs_there (q ∷ others) i j zero p at e x m =
      let same : p ≡ q = cc in
      let here : i ≡ j = omega (arith, e) in
      in_left x (flat_map (all_performs j) q.sentences) (performs_from (suc j) others)
      (subst (λ n. Member x (flat_map (all_performs n) q.sentences)) here (subst (λ r. Member x (flat_map (all_performs i) r.sentences)) same m))
  performs_there (q ∷ others) i j (suc k) p at e x m =
      in_right x (flat_map (all_performs j) q.sentences) (performs_from (suc j) others) (performs_there others i (suc j) k p at (omega (arith, e)) x m)

  goes_there : (paragraphs : List ParagraphTree) (i j k : ℕ) (p : ParagraphTree) → slice_get paragraphs k ≡ Some p → i ≡ j + k → (x : Going) → Member x (flat_map (all_goes i) p.sentences) → Member x (goes_from j paragraphs)
  goes_there [] i j k p at e x m = let never : ⊥ = cc in absurd never
  goes_there (q ∷ others) i j zero p at e x m =
      let same : p ≡ q = cc in
      let here : i ≡ j = omega (arith, e) in
      in_left x (flat_map (all_goes j) q.sentences) (goes_from (suc j) others)
      (subst (λ n. Member x (flat_map (all_goes n) q.sentences)) here (subst (λ r. Member x (flat_map (all_goes i) r.sentences)) same m))
  goes_there (q ∷ others) i j (suc k) p at e x m =
      in_right x (flat_map (all_goes j) q.sentences) (goes_from (suc j) others) (goes_there others i (suc j) k p at (omega (arith, e)) x m)

  checked_there : (paragraphs : List ParagraphTree) (k : ℕ) (p : ParagraphTree) → slice_get paragraphs k ≡ Some p → AreCheckedParagraphs layout text paragraphs → AllByRecursion (AreChecked layout text) p.sentences
  checked_there [] k p at checked = let never : ⊥ = cc in absurd never
  checked_there (q ∷ others) zero p at checked =
      let same : q ≡ p = cc in
      subst (λ r. AllByRecursion (AreChecked layout text) r.sentences) same checked.0
  checked_there (q ∷ others) (suc k) p at checked = checked_there others k p at checked.1

  -- each paragraph of a text that was checked
  pub paragraph_stays : IsCheckedText layout text → (k : ℕ) (p : ParagraphTree) → slice_get text k ≡ Some p → StaySentences text k p.sentences
  paragraph_stays checked k p at =
      let here : k ≡ 0 + k = omega arith in
      sentences_stay k p.sentences (checked_there text k p at checked) (performs_there text k 0 k p at here) (goes_there text k 0 k p at here)
