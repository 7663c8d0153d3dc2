-- The number of a paragraph, one paragraph after another.
use Rattle.std.proofs.Common.{◌≡◌, ℕ, ◌+◌, ◌<◌, ◌≤◌, Bool, true, false, List, [], ◌∷◌, length, drop, get_or, map, refl, sym, ap, ◌∙◌, arith}
use Rattle.std.specs.Str.{bytes_eq}
use Rattle.std.specs.List.{position_or_len}
use Rattle.std.proofs.lemmas.List.{drop_more, drop_all}
use Rattle.cob_forms.specs.declared.written.Name.{Name}
use Rattle.cob_proc.specs.declared.tree.Paragraph.{Paragraph}
use Rattle.cob_proc.specs.Trees.{ParagraphTree, paragraph_tree}
use Rattle.cob_meaning.specs.Meaning.{paragraph_number}

is_first : {A : Type 0} (p : A → Bool) (x : A) (xs : List A) → p x ≡ true → position_or_len p (x ∷ xs) ≡ 0
is_first p x xs h = rw h refl

is_behind : {A : Type 0} (p : A → Bool) (x : A) (xs : List A) → p x ≡ false → position_or_len p (x ∷ xs) ≡ 1 + position_or_len p xs
is_behind p x xs h = rw h refl

module _ (text : List Paragraph) (name : Name) (i : ℕ) where
  abbrev Left : ℕ → ℕ
  Left k = paragraph_number (map paragraph_tree (drop k text)) name

  pub number_there : (d : Paragraph) (whole : ℕ) → i < length text → bytes_eq (get_or text i d).name.text name.text ≡ true → i + Left i ≡ whole → i ≡ whole
  number_there d whole lt h e =
      let here : Left i ≡ 0 = ap (λ l. paragraph_number (map paragraph_tree l) name) (drop_more text i d lt) ∙ is_first (λ x. bytes_eq x.name.text name.text) (paragraph_tree (get_or text i d)) (map paragraph_tree (drop (i + 1) text)) h in
      omega (arith, here, e)

  pub number_next : (d : Paragraph) (whole : ℕ) → i < length text → bytes_eq (get_or text i d).name.text name.text ≡ false → i + Left i ≡ whole → (i + 1) + Left (i + 1) ≡ whole
  number_next d whole lt h e =
      let here : Left i ≡ 1 + Left (i + 1) = ap (λ l. paragraph_number (map paragraph_tree l) name) (drop_more text i d lt) ∙ is_behind (λ x. bytes_eq x.name.text name.text) (paragraph_tree (get_or text i d)) (map paragraph_tree (drop (i + 1) text)) h in
      omega (arith, here, e)

  pub number_past : (whole : ℕ) → length text ≤ i → i + Left i ≡ whole → i ≡ whole
  number_past whole le e =
      let here : Left i ≡ 0 = ap (λ l. paragraph_number (map paragraph_tree l) name) (drop_all i text le) in
      omega (arith, here, e)
