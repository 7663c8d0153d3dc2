-- Whole items one by one.
use Rattle.std.proofs.Common.{◌≡◌, ◌≤◌, ℕ, Bool, true, false, List, [], ◌∷◌, ◌++◌, length, get_or, drop, Option, Result, Ok, Err, refl, sym, ap, ◌∙◌, arith}
use Rattle.std.specs.Prelude.{IfOk}
use Rattle.std.specs.declared.alloc.AllocError.{AllocError}
use Rattle.cob_lex.specs.declared.fault.SourceFault.{SourceFault}
use Rattle.cob_lex.specs.declared.token.Token.{Token}
use Rattle.cob_forms.specs.Faults.{earlier, first}
use Rattle.cob_forms.proofs.Order.{first-append}
use Rattle.cob_data.specs.Faults.{item_faults, whole_faults}
use Rattle.cob_data.specs.Levels.{rank}

one_whole : (is_last over_cd : Bool) (item next : List Token) (items : List (List Token)) → whole_faults is_last over_cd (item ∷ next ∷ items) ≡ item_faults over_cd (rank next) item ++ whole_faults is_last over_cd (next ∷ items)
one_whole true over_cd item next items = refl
one_whole false over_cd item next items = refl

front_whole : (is_last over_cd : Bool) (item next : List Token) (items : List (List Token)) → 2 ≤ length items → item ≡ get_or items 0 item → next ≡ get_or items 1 next
    → earlier (first (item_faults over_cd (rank next) item)) (first (whole_faults is_last over_cd (drop 1 items))) ≡ first (whole_faults is_last over_cd items)
front_whole is_last over_cd item next [] many here behind = absurd (omega (arith, many))
front_whole is_last over_cd item next (x ∷ []) many here behind = absurd (omega (arith, many))
front_whole is_last over_cd item next (x ∷ y ∷ ys) many here behind =
    rw (here, behind) (sym (first-append (item_faults over_cd (rank y) x) (whole_faults is_last over_cd (y ∷ ys))) ∙ ap first (sym (one_whole is_last over_cd x y ys)))

pub front_is_whole : (is_last over_cd : Bool) (item next : List Token) (items : List (List Token)) (behind : ℕ) (r : Result (Option SourceFault) AllocError) → 2 ≤ length items → item ≡ get_or items 0 item → next ≡ get_or items 1 next → behind ≡ rank next
    → IfOk r (λ found. found ≡ first (item_faults over_cd behind item)) → IfOk r (λ found. earlier found (first (whole_faults is_last over_cd (drop 1 items))) ≡ first (whole_faults is_last over_cd items))
front_is_whole is_last over_cd item next items behind (Ok found) many here at_next ranks is =
    ap (λ o. earlier o (first (whole_faults is_last over_cd (drop 1 items)))) (is ∙ ap (λ n. first (item_faults over_cd n item)) ranks) ∙ front_whole is_last over_cd item next items many here at_next
front_is_whole is_last over_cd item next items behind (Err e) many here at_next ranks is = tt
