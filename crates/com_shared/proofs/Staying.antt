-- Where a party stays as active as it was.
use Rattle.std.proofs.Common.{◌≡◌, ℕ, Bool, true, false, Option, refl, ap, sym, ◌∙◌, inl, inr}
use Rattle.std.proofs.lemmas.Bool.{cases_Bool, false≢true}
use Rattle.com_turn.specs.declared.view.Toggle.{Toggle}
use Rattle.com_shared.specs.Passes.{PassOf}
use Rattle.com_shared.specs.inner.Turns.{IsSetActive}

as_it_is : (p : PassOf) (a : Bool) → p.active ≡ a → p ≡ record p { toggles = p.toggles; active = a; found = p.found }
as_it_is p a h = ap (λ (x : Bool). let z : PassOf = record p { toggles = p.toggles; active = x; found = p.found } in z) h

pub stays_inactive : (p : PassOf) (a : Bool) → (p.active ≡ true → a ≡ true) → a ≡ false → IsSetActive p a p
stays_inactive p a was off = elim (cases_Bool p.active) [
  | inl e ↦ absurd (false≢true (sym off ∙ was e))
  | inr e ↦ (p.toggles, p.found, as_it_is p a (e ∙ sym off))
]

pub stays_active : (p : PassOf) (a : Bool) → p.active ≡ true → a ≡ true → IsSetActive p a p
stays_active p a e on = (p.toggles, p.found, as_it_is p a (e ∙ sym on))

pub stays_out : (p : PassOf) → p.active ≡ false → IsSetActive p false p
stays_out p off = (p.toggles, p.found, as_it_is p false off)
