-- What is known at the end, when one view has every number.
use Rattle.std.proofs.Common.{◌≡◌, ◌≢◌, ℕ, ◌<◌, false, Option, Some, None, List, Contains, sym, refl, ap, ◌∙◌, subst, ⊎_elim}
use mathlib.Core.Option.{some, some-injective}
use lib.ListN.{get_elem?}
use Rattle.atomic_table.specs.Table.{State, Final, Seen}
use Rattle.com_turn.specs.declared.view.Known.{Known}
use Rattle.com_turn.specs.declared.view.Stage.TheVariants.{Idle}
use Rattle.com_turn.specs.declared.view.View.{View}
use Rattle.com_turn.specs.Rule.{IsHome, IsRuled, HasEveryNumber, IsClosed}
use Rattle.com_turn.proofs.Joining.{idle-Holding}

module _ {V I B : Type 0} (log_of : V → List I) (base_of : V → B) (owner : I → ℕ) where
  -- no other live view is left, so no seat is at its turn
  nobody : (s : State (Option V) (View I B)) (r : IsRuled log_of base_of owner s) (id : ℕ) (v : View I B) → get_elem? s.views id ≡ some v → v.spent ≡ false → v.stage ≡ Idle → HasEveryNumber v
      → (holder : Option ℕ) → r.tickets.holder ≡ holder → r.tickets.holder ≡ None
  nobody s r id v at live idle all None e = e
  nobody s r id v at live idle all (Some j) e =
      let h = r.holder j e in let u : View I B = h.0 in let ticket : ℕ = h.1 in
      let ne : id ≢ j = λ same. idle-Holding v.stage ticket idle (ap (λ (z : View I B). z.stage) (some-injective v u (sym at ∙ (ap (get_elem? s.views) same ∙ h.2))) ∙ h.3) in
      let apart = r.apart id v at live j u h.2 h.4 ne in let ku = (r.live j u h.2 h.4).known in let kv = (r.live id v at live).known in
      absurd (⊎_elim
      (λ (t : u.known.number ≡ v.known.number). apart.numbers (sym t))
      (λ (t : (old : Known I B) × Contains v.olds old × (old.number ≡ u.known.number)). apart.olds t.0 t.1 t.2)
      (all u.known.number (subst (λ z. u.known.number < z) (sym kv.parties) ku.number)))

  pub closes : (words : List ℕ) (slots : List (Option V)) (id : ℕ) (v : View I B) → v.spent ≡ false → v.stage ≡ Idle → HasEveryNumber v → Final (Seen (IsRuled log_of base_of owner) id v) words slots
      → (value : V) × (get_elem? slots 0 ≡ some (Some value)) × IsClosed log_of base_of owner v value
  closes words slots id v live idle all f =
      let s : State (Option V) (View I B) = f.0 in let r = f.1.0 in let at = f.1.1 in
      let home = subst (λ z. IsHome log_of base_of r.history.log r.history.base z s.homes) (nobody s r id v at live idle all r.tickets.holder refl) r.home in
      let l = r.live id v at live in (
        home.0,
        f.4 0 (Some home.0) (ap (λ z. get_elem? z 0) home.1),
        record { history = r.history; log = home.2; base = home.3; known = l.known; olds = l.olds },
      )
