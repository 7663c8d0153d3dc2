-- Columns token by token, and entry by entry.
use Rattle.std.proofs.Common.{◌≡◌, ◌<◌, ◌+◌, ℕ, Bool, true, false, not, List, [], ◌∷◌, ◌++◌, length, drop, get_or, map, Option, Some, refl, sym, ap, ◌∙◌}
use Rattle.std.proofs.lemmas.List.{drop_more}
use Rattle.cob_lex.specs.declared.fault.SourceFault.{SourceFault}
use Rattle.cob_lex.specs.declared.fault.SourceKind.TheVariants as faults
use Rattle.cob_lex.specs.declared.token.Token.{Token}
use Rattle.cob_forms.specs.Faults.{earlier, first, noted}
use Rattle.cob_data.specs.Faults.{column_faults, is_in_place, line_behind, begin_flags, unless}
use Rattle.cob_data.proofs.Firsts.{no_other, one_more}

-- tokens of an entry, of which the first begins it or not
abbrev pub marked_from : Bool → List Token → List (Bool × Token)
marked_from begins [] = []
marked_from begins (t ∷ ts) = (begins, t) ∷ map (λ u. (false, u)) ts

pub marked_behind : (ts : List Token) → marked_from false ts ≡ map (λ u. (false, u)) ts
marked_behind [] = refl
marked_behind (t ∷ ts) = refl

pub marked_all : (word : Bool) (ts : List Token) → begin_flags word ts ≡ marked_from (not word) ts
marked_all word [] = refl
marked_all word (t ∷ ts) = refl

same_fault : (b : Bool) (t : Token) → unless b faults.BadColumn (Some t) ≡ noted (not b) faults.BadColumn t
same_fault true t = refl
same_fault false t = refl

-- what is found, and what stands behind
abbrev pub Looks : Option SourceFault → ℕ → List (Bool × Token) → Option SourceFault
Looks found line others = earlier found (first (column_faults line others))

pub one_token : (begins : Bool) (found next : Option SourceFault) (line after : ℕ) (t : Token) (ts : List Token) (others : List (Bool × Token)) → after ≡ line_behind line t
    → next ≡ earlier found (first (noted (not (is_in_place begins line t)) faults.BadColumn t))
    → Looks next after (marked_from false ts ++ others) ≡ Looks found line (marked_from begins (t ∷ ts) ++ others)
one_token begins found next line after t ts others lines founds =
    let behind = column_faults (line_behind line t) (map (λ u. (false, u)) ts ++ others) in
    rw (founds, lines, marked_behind ts)
    (one_more found (noted (not (is_in_place begins line t)) faults.BadColumn t) behind
    ∙ ap (λ here. earlier found (first (here ++ behind))) (sym (same_fault (is_in_place begins line t) t)))

pub token_at : (begins : Bool) (found next : Option SourceFault) (line after : ℕ) (ts : List Token) (i : ℕ) (t : Token) (others : List (Bool × Token)) → i < length ts → t ≡ get_or ts i t → after ≡ line_behind line t
    → next ≡ earlier found (first (noted (not (is_in_place begins line t)) faults.BadColumn t))
    → Looks next after (marked_from false (drop (i + 1) ts) ++ others) ≡ Looks found line (marked_from begins (drop i ts) ++ others)
token_at begins found next line after ts i t others within at_place lines founds =
    let split : drop i ts ≡ t ∷ drop (i + 1) ts = drop_more ts i t within ∙ ap (λ y. y ∷ drop (i + 1) ts) (sym at_place) in
    one_token begins found next line after t (drop (i + 1) ts) others lines founds ∙ ap (λ xs. Looks found line (marked_from begins xs ++ others)) (sym split)

pub nothing_left : (found : Option SourceFault) → Looks found 0 [] ≡ found
nothing_left found = no_other found
