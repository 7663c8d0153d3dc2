-- The numbers of paragraphs.
use Rattle.std.proofs.Common.{◌≡◌, ℕ, suc, ◌+◌, Bool, true, false, not, ◌||◌, cond, List, [], ◌∷◌, length, map, Some, None, refl, sym, ap, ◌∙◌, arith}
use Rattle.std.specs.Prelude.{bytes_eq, is_some, unwrap_or}
use Rattle.std.specs.List.{list_any, position_from, position_or_len}
use Rattle.cob_proc.specs.declared.tree.Paragraph.{Paragraph}
use Rattle.cob_proc.specs.Trees.{ParagraphTree, paragraph_tree}
use Rattle.cob_code.specs.inner.Numbers.{number_in}

pub same_names : (text : List Paragraph) → map (λ paragraph. paragraph.name.text) (map paragraph_tree text) ≡ map (λ paragraph. paragraph.name.text) text
same_names [] = refl
same_names (p ∷ ps) = ap (λ l. p.name.text ∷ l) (same_names ps)

any_from : (text : List ParagraphTree) (name : List ℕ) (i : ℕ) → is_some (position_from (λ other. bytes_eq other name) i (map (λ p. p.name.text) text)) ≡ list_any (λ p. bytes_eq p.name.text name) text
any_from [] name i = refl
any_from (p ∷ ps) name i = by (bytes_eq p.name.text name) (any_from ps name (i + 1))
  where
    by : (b : Bool) → is_some (position_from (λ other. bytes_eq other name) (i + 1) (map (λ p. p.name.text) ps)) ≡ list_any (λ p. bytes_eq p.name.text name) ps
        → is_some (cond b (Some i) (position_from (λ other. bytes_eq other name) (i + 1) (map (λ p. p.name.text) ps))) ≡ (b || list_any (λ p. bytes_eq p.name.text name) ps)
    by true h = refl
    by false h = h

pub is_among : (text : List ParagraphTree) (name : List ℕ) (b : Bool) → b ≡ is_some (number_in (map (λ p. p.name.text) text) name) → b ≡ list_any (λ p. bytes_eq p.name.text name) text
is_among text name b e = e ∙ any_from text name 0

number_from : (text : List ParagraphTree) (name : List ℕ) (i : ℕ) → unwrap_or (position_from (λ other. bytes_eq other name) i (map (λ p. p.name.text) text)) (i + length text) ≡ i + position_or_len (λ p. bytes_eq p.name.text name) text
number_from [] name i = refl
number_from (p ∷ ps) name i = by (bytes_eq p.name.text name) (number_from ps name (i + 1))
  where
    by : (b : Bool) → unwrap_or (position_from (λ other. bytes_eq other name) (i + 1) (map (λ p. p.name.text) ps)) (i + 1 + length ps) ≡ i + 1 + position_or_len (λ p. bytes_eq p.name.text name) ps
        → unwrap_or (cond b (Some i) (position_from (λ other. bytes_eq other name) (i + 1) (map (λ p. p.name.text) ps))) (i + suc (length ps)) ≡ i + cond (not b) (1 + position_or_len (λ p. bytes_eq p.name.text name) ps) 0
    by true h = omega arith
    by false h =
        let same : i + suc (length ps) ≡ i + 1 + length ps = omega arith in
        let next : i + 1 + position_or_len (λ p. bytes_eq p.name.text name) ps ≡ i + (1 + position_or_len (λ p. bytes_eq p.name.text name) ps) = omega arith in
        ap (unwrap_or (position_from (λ other. bytes_eq other name) (i + 1) (map (λ p. p.name.text) ps))) same ∙ h ∙ next

pub number_there : (text : List ParagraphTree) (name : List ℕ) (k : ℕ) → number_in (map (λ p. p.name.text) text) name ≡ Some k → k ≡ position_or_len (λ p. bytes_eq p.name.text name) text
number_there text name k e = ap (λ o. unwrap_or o (0 + length text)) (sym e) ∙ number_from text name 0 ∙ (omega arith)

pub number_past : (text : List ParagraphTree) (name : List ℕ) → number_in (map (λ p. p.name.text) text) name ≡ None → length text ≡ position_or_len (λ p. bytes_eq p.name.text name) text
number_past text name e = let same : length text ≡ 0 + length text = omega arith in same ∙ ap (λ o. unwrap_or o (0 + length text)) (sym e) ∙ number_from text name 0 ∙ (omega arith)
