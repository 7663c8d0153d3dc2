-- One seat takes in what all passes know, and what it knows of the value at the end.
use Rattle.std.proofs.Common.{Some, ◌≡◌, ℕ, false, Option, List, [], ◌∷◌, ◌++◌, length, get_or, All, Contains, sym, ap, ◌∙◌, subst, ⊎_elim, inl, inr, arith, append_assoc}
use Rattle.std.proofs.lemmas.List.{append-nil}
use Rattle.std.proofs.lemmas.List.Elements.{Contains-append_left, Contains-append_right}
use Rattle.atomic_table.specs.Seated.{TableId}
use Rattle.atomic_table.specs.declared.shared.Seat.{Seat}
use Rattle.com_turn.specs.declared.view.Known.{Known}
use Rattle.com_turn.specs.declared.view.Stage.TheVariants.{Idle}
use Rattle.com_turn.specs.declared.view.View.{View}
use Rattle.com_turn.specs.Histories.{IsPrefixOf, items_of}
use Rattle.com_turn.specs.Passes.{PassState, IsReady, AreReady, IsKept, AgreeOnToggles}
use Rattle.com_turn.specs.Views.{joined, known_of, Gathers}
use Rattle.com_turn.specs.Rule.{Knows, HasEveryNumber, IsClosed}
use Rattle.com_turn.proofs.Lists.{no_item, contains_cons, contains_first, contains_rest, slice_get-within, get_of_index, index_of_get, index_any}

module _ {I B : Type 0} where
  gathers_still : (v w : View I B) (known : Known I B) → Gathers v known → Gathers (joined v w) known
  gathers_still v w known g = inr (⊎_elim
      (λ (e : v.known ≡ known). subst (λ z. Contains (joined v w).olds z) e (contains_first v.known (w.known ∷ (v.olds ++ w.olds))))
      (λ (h : Contains v.olds known). contains_rest v.known (w.known ∷ (v.olds ++ w.olds)) known (contains_rest w.known (v.olds ++ w.olds) known (Contains-append_left v.olds w.olds known h)))
      g)

  gathers_other : (v w : View I B) → Gathers (joined v w) w.known
  gathers_other v w = inr (contains_rest v.known (w.known ∷ (v.olds ++ w.olds)) w.known (contains_first w.known (v.olds ++ w.olds)))

  -- The passes that are left, and those that the seat has taken in.
  pub record Collecting {V : Type 0} (turn : TableId) (all left : List (PassState I B)) (seat : Seat (Option V) (View I B)) : Type 0 where
    pub own : seat.table_id ≡ turn
    pub slots : seat.me.1 ≡ []
    pub live : seat.me.0.spent ≡ false
    pub idle : seat.me.0.stage ≡ Idle
    pub inactive : seat.me.0.active ≡ false
    pub parties : seat.me.0.known.parties ≡ length all
    pub done : List (PassState I B)
    pub parts : all ≡ left ++ done
    pub taken : (pass : PassState I B) → Contains done pass → Gathers seat.me.0 (known_of pass)

  -- a pass that is taken from the end of the list is ready
  pub ready_last : (turn : TableId) (all left done : List (PassState I B)) (pass : PassState I B) → AreReady turn all → all ≡ (left ++ pass ∷ []) ++ done → (i : ℕ) × IsReady turn (length all) i pass
  ready_last turn all left done pass ready e =
      let h : Contains all pass = subst (λ z. Contains z pass) (sym e) (Contains-append_left (left ++ pass ∷ []) done pass (Contains-append_right left (pass ∷ []) pass (contains_first pass []))) in
      (h.0, ready h.0 pass (get_of_index all h.0 pass h.1 h.2))

  pub starts : {V : Type 0} (turn : TableId) (all left : List (PassState I B)) (pass : PassState I B) (seat : Seat (Option V) (View I B)) → AreReady turn all → all ≡ left ++ pass ∷ []
      → seat.table_id ≡ pass.turn → seat.me.0.known ≡ known_of pass → seat.me.0.stage ≡ Idle → seat.me.1 ≡ [] → seat.me.0.spent ≡ false → seat.me.0.active ≡ pass.active → Collecting turn all left seat
  starts turn all left pass seat ready e own known idle slots live active =
      let r = (ready_last turn all left [] pass ready (e ∙ sym (append-nil (left ++ pass ∷ [])))).1 in record {
        own = own ∙ r.turn_is;
        slots = slots;
        live = live;
        idle = idle;
        inactive = active ∙ r.inactive;
        parties = ap (λ (z : Known I B). z.parties) known ∙ r.parties_are;
        done = pass ∷ [];
        parts = e;
        taken = λ other h. ⊎_elim (λ (same : pass ≡ other). inl (known ∙ ap known_of same)) (λ (h : Contains [] other). absurd (no_item other h)) (contains_cons pass [] other h);
      }

  pub goes_on : {V : Type 0} (turn : TableId) (all before left : List (PassState I B)) (pass : PassState I B) (seat other after : Seat (Option V) (View I B)) → Collecting turn all before seat → before ≡ left ++ pass ∷ []
      → other.me.0.known ≡ known_of pass → after.table_id ≡ seat.table_id → after.me ≡ (joined seat.me.0 other.me.0, seat.me.1) → Collecting turn all left after
  goes_on {V} turn all before left pass seat other after c e known own me =
      let v : View I B = seat.me.0 in let w : View I B = other.me.0 in let is : after.me.0 ≡ joined v w = ap (λ (z : View I B × List (ℕ × Option V)). z.0) me in record {
        own = own ∙ c.own;
        slots = ap (λ (z : View I B × List (ℕ × Option V)). z.1) me ∙ c.slots;
        live = ap (λ (z : View I B). z.spent) is ∙ c.live;
        idle = ap (λ (z : View I B). z.stage) is ∙ c.idle;
        inactive = ap (λ (z : View I B). z.active) is ∙ c.inactive;
        parties = ap (λ (z : View I B). z.known.parties) is ∙ c.parties;
        done = pass ∷ c.done;
        parts = c.parts ∙ (ap (λ z. z ++ c.done) e ∙ append_assoc left (pass ∷ []) c.done);
        taken = λ one h. subst (λ z. Gathers z (known_of one)) (sym is) (⊎_elim
            (λ (same : pass ≡ one). subst (Gathers (joined v w)) (known ∙ ap known_of same) (gathers_other v w))
            (λ (h : Contains c.done one). gathers_still v w (known_of one) (c.taken one h))
            (contains_cons pass c.done one h));
      }

  pub finishes : {V : Type 0} (turn : TableId) (all left : List (PassState I B)) (seat : Seat (Option V) (View I B)) → Collecting turn all left seat → left ≡ [] → All (λ pass. Gathers seat.me.0 (known_of pass)) all
  finishes turn all left seat c none k d lt =
      let pass : PassState I B = get_or all k d in
      c.taken pass (subst (λ z. Contains z pass) (c.parts ∙ ap (λ z. z ++ c.done) none) (k, lt, index_any all k pass d lt))

  pub every_number : (turn : TableId) (all : List (PassState I B)) (view : View I B) → AreReady turn all → view.known.parties ≡ length all → All (λ pass. Gathers view (known_of pass)) all → HasEveryNumber view
  every_number turn all view ready many gathered number lt =
      let here = slice_get-within all number (omega (arith, lt, many)) in let pass : PassState I B = here.0 in
      let is = (ready number pass here.1).number_is in
      let g : Gathers view (known_of pass) = subst (λ z. Gathers view (known_of z)) (index_of_get all number pass pass here.1) (gathered number pass (omega (arith, lt, many))) in
      ⊎_elim (λ (e : view.known ≡ known_of pass). inl (sym (ap (λ (z : Known I B). z.number) e ∙ is))) (λ (h : Contains view.olds (known_of pass)). inr (known_of pass, h, is)) g

module _ {V I B : Type 0} (log_of : V → List I) (base_of : V → B) (owner : I → ℕ) (view : View I B) (value : V) (c : IsClosed log_of base_of owner view value) where
  knows : (pass : PassState I B) → Gathers view (known_of pass) → Knows owner c.history (known_of pass)
  knows pass g = ⊎_elim (λ (e : view.known ≡ known_of pass). subst (Knows owner c.history) e c.known) (λ (h : Contains view.olds (known_of pass)). c.olds (known_of pass) h) g

  kept : (pass : PassState I B) → Gathers view (known_of pass) → IsKept log_of base_of owner value pass
  kept pass g = let k = knows pass g in record {
    base = k.base ∙ ap Some (sym c.base);
    seen = subst (IsPrefixOf pass.seen) (sym c.log) k.items.front;
    own = (λ i. items_of owner pass.number (length (k.opened i)) (c.log i)) ∙ (sym k.items.own ∙ (λ i. items_of owner pass.number (length (sym k.opened i)) pass.seen));
  }

  pub all_kept : (all : List (PassState I B)) → All (λ pass. Gathers view (known_of pass)) all → All (λ pass. IsKept log_of base_of owner value pass) all
  all_kept all gathered k d lt = kept (get_or all k d) (gathered k d lt)

  pub agree : (all : List (PassState I B)) → All (λ pass. Gathers view (known_of pass)) all → AgreeOnToggles all
  agree all gathered = (c.history.toggles, λ k d lt. (knows (get_or all k d) (gathered k d lt)).toggles)
