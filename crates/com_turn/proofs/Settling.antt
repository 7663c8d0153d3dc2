-- What a pass's seat is between two calls.
use Rattle.std.proofs.Common.{◌≡◌, ℕ, true, false, Option, List, [], ◌∷◌, ◌++◌, length, sym, refl, ap, ◌∙◌, subst}
use Rattle.atomic_table.specs.declared.shared.Seat.{Seat}
use Rattle.com_turn.specs.declared.view.Stage.{Stage}
use Rattle.com_turn.specs.declared.view.Stage.TheVariants.{Idle, Waiting, Holding}
use Rattle.com_turn.specs.declared.view.View.{View}
use Rattle.com_turn.specs.Histories.{IsPrefixOf}
use Rattle.com_turn.specs.Passes.{PassState, mine}
use Rattle.com_turn.specs.Views.{carried, is_at_turn, with_item, IsSettled}
use Rattle.com_turn.proofs.Fronts.{prefix_more, prefix_length, items_of-own}

clash : false ≡ true → ⊥
clash e = cc

pub ticket_at_turn : (stage : Stage) → is_at_turn stage ≡ true → (ticket : ℕ) × (stage ≡ Holding ticket)
ticket_at_turn Idle e = absurd (clash e)
ticket_at_turn (Waiting ticket) e = absurd (clash e)
ticket_at_turn (Holding ticket) e = (ticket, refl)

module _ {V I B : Type 0} where
  -- a seat whose view has one item more
  pub settled_item : (seat after : Seat (Option V) (View I B)) (item : I) → after.me ≡ (with_item item seat.me.0, seat.me.1) → IsSettled seat → IsSettled after
  settled_item seat after item e h =
      let view : after.me.0 ≡ with_item item seat.me.0 = ap (λ (z : View I B × List (ℕ × Option V)). z.0) e in
      let stage : after.me.0.stage ≡ seat.me.0.stage = ap (λ (z : View I B). z.stage) view in record {
        no_ticket = λ not. stage ∙ h.no_ticket (ap is_at_turn (sym stage) ∙ not);
        slots = ap (λ (z : View I B × List (ℕ × Option V)). z.1) e ∙ (h.slots ∙ ap carried (sym stage));
        no_olds = ap (λ (z : View I B). z.olds) view ∙ h.no_olds;
        live = ap (λ (z : View I B). z.spent) view ∙ h.live;
        past_opening = subst (λ (z : View I B). IsPrefixOf z.known.opened z.known.seen) (sym view) (prefix_more seat.me.0.known.opened seat.me.0.known.seen item h.past_opening);
      }

-- a pass's own entries grow by an entry of its own
pub mine_more : {I B : Type 0} (owner : I → ℕ) (pass : PassState I B) (item : I) → IsPrefixOf pass.opened pass.seen → owner item ≡ pass.number → mine owner (record pass { seen = pass.seen ++ item ∷ [] }) ≡ mine owner pass ++ item ∷ []
mine_more owner pass item front own = items_of-own owner pass.number (length pass.opened) pass.seen item (prefix_length pass.opened pass.seen front) own
