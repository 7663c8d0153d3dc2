-- A step of one seat keeps the rule, where what it changes fits.
use Rattle.std.proofs.Common.{◌≡◌, ◌≢◌, ℕ, ◌+◌, ◌<◌, ◌≤◌, ◌⊎◌, false, Option, Some, None, List, length, set, sum_by, Contains, sym, refl, ap, ◌∙◌, subst, ⊎_elim, arith, length-set}
use mathlib.Core.Option.{some, some-injective}
use mathlib.Core.Option as maybe
use mathlib.Core.Logic.{dite}
use native.Mathlib.Decide.{ℕ_discrete}
use lib.ListN.{get_elem?}
use Rattle.atomic_table.specs.Table.{State}
use Rattle.atomic_table.proofs.Lists.{at_set, set_here, set_else}
use Rattle.com_turn.specs.declared.view.Toggle.{Toggle}
use Rattle.com_turn.specs.declared.view.Known.{Known}
use Rattle.com_turn.specs.declared.view.Stage.{Stage}
use Rattle.com_turn.specs.declared.view.Stage.TheVariants.{Idle, Waiting, Holding}
use Rattle.com_turn.specs.declared.view.View.{View}
use Rattle.com_turn.specs.Histories.{items_of}
use Rattle.com_turn.specs.Toggles.{party_of}
use Rattle.com_turn.specs.Views.{HasTicket, ticket_of, active_of}
use Rattle.com_turn.specs.Rule.{History, Tickets, AreWords, IsHome, IsStage, IsLive, IsBelow, IsCount, AreApart, EachLive, IsHolder, IsRuled}
use Rattle.com_turn.proofs.Lists.{within, sum_by-replaced}

-- what the step leaves of the view
pub record Stays {I B : Type 0} (v w : View I B) : Type 0 where
  pub number : w.known.number ≡ v.known.number
  pub olds : w.olds ≡ v.olds
  pub count : w.count ≡ v.count
  pub live : w.spent ≡ false

pub has_ticket : (stage : Stage) (ticket : ℕ) → (stage ≡ Waiting ticket) ⊎ (stage ≡ Holding ticket) → HasTicket stage ticket
has_ticket stage ticket is = ⊎_elim (λ e. subst (λ z. HasTicket z ticket) (sym e) refl) (λ e. subst (λ z. HasTicket z ticket) (sym e) refl) is

module _ {I B : Type 0} where
  -- a fact on each live view, after one of them changed
  pub each_set : (views : List (View I B)) (id : ℕ) (w : View I B) (P : ℕ → View I B → Type 0) → P id w → ((j : ℕ) (u : View I B) → j ≢ id → get_elem? views j ≡ some u → u.spent ≡ false → P j u)
      → EachLive P (set views id w)
  each_set views id w P here others j u e live = ⊎_elim
      (λ (t : (j ≡ id) × (w ≡ u)). subst (λ (z : ℕ × View I B). P z.0 z.1) (λ k. (sym t.0 k, t.1 k)) here)
      (λ (t : (j ≢ id) × (get_elem? views j ≡ some u)). others j u t.0 t.1 live)
      (at_set views id j w u e)

  apart_from : (v w u : View I B) → Stays v w → ((ticket : ℕ) → HasTicket w.stage ticket → HasTicket u.stage ticket → ⊥) → AreApart v u → AreApart w u
  apart_from v w u stays tickets a = record {
    numbers = λ e. a.numbers (sym stays.number ∙ e);
    tickets = tickets;
    olds = λ o h. a.olds o (subst (λ (z : List (Known I B)). Contains z o) stays.olds h);
    counts = λ m n e f. a.counts m n (sym stays.count ∙ e) f;
  }

  apart_to : (v w u : View I B) → Stays v w → ((ticket : ℕ) → HasTicket w.stage ticket → HasTicket u.stage ticket → ⊥) → AreApart u v → AreApart u w
  apart_to v w u stays tickets a = record {
    numbers = λ e. a.numbers (e ∙ stays.number);
    tickets = λ n p q. tickets n q p;
    olds = λ o h e. a.olds o h (e ∙ stays.number);
    counts = λ m n e f. a.counts m n e (sym stays.count ∙ f);
  }

  -- the seats at their turn, after another seat's view changed
  pub holder_else : (views : List (View I B)) (id : ℕ) (v w : View I B) (seat : ℕ) → get_elem? views id ≡ some v → ((ticket : ℕ) → v.stage ≡ Holding ticket → ⊥) → IsHolder views seat → IsHolder (set views id w) seat
  holder_else views id v w seat at idle h =
      let ne : seat ≢ id = λ same. idle h.1 (ap (λ (z : View I B). z.stage) (some-injective v h.0 (sym at ∙ (ap (get_elem? views) (sym same) ∙ h.2))) ∙ h.3) in
      (h.0, h.1, set_else views id seat w ne ∙ h.2, h.3, h.4)

  pub holder_same : (views : List (View I B)) (id : ℕ) (v w : View I B) (seat : ℕ) → get_elem? views id ≡ some v → w.stage ≡ v.stage → w.spent ≡ false → IsHolder views seat → IsHolder (set views id w) seat
  holder_same views id v w seat at stage live h = dite (ℕ_discrete seat id)
      (λ same. (
        w,
        h.1,
        subst (λ z. get_elem? (set views id w) z ≡ some w) (sym same) (set_here views id w (within views id v at)),
        stage ∙ (ap (λ (z : View I B). z.stage) (some-injective v h.0 (sym at ∙ (ap (get_elem? views) (sym same) ∙ h.2))) ∙ h.3),
        live,
      ))
      (λ ne. (h.0, h.1, set_else views id seat w ne ∙ h.2, h.3, h.4))

  pub active_same : (views : List (View I B)) (id : ℕ) (v w : View I B) → get_elem? views id ≡ some v → active_of w ≡ active_of v → sum_by active_of (set views id w) ≡ sum_by active_of views
  active_same views id v w at same = let h = sum_by-replaced active_of views id v w at in omega (arith, h, same)

  -- the stage of another seat, when the seat with the ticket that is served makes a step
  pub stage_else : (history after : History I B) (tickets next : Tickets) (seat : ℕ) (view : View I B) (stage : Stage) → next.next ≡ tickets.next → next.serving ≤ tickets.serving + 1
      → IsStage history tickets seat view stage → (HasTicket stage tickets.serving → ⊥) → IsStage after next seat view stage
  stage_else history after tickets next seat view Idle same up h other = tt
  stage_else history after tickets next seat view (Waiting ticket) same up h other =
      let low = h.0 in let lt = h.1 in let ne : ticket ≢ tickets.serving = other in (omega (arith, low, ne, up), omega (arith, lt, same), h.2)
  stage_else history after tickets next seat view (Holding ticket) same up h other = absurd (other h.0)

module _ {V I B : Type 0} (log_of : V → List I) (base_of : V → B) (owner : I → ℕ) where
  -- The seat goes from the view v to w, and the log and the toggles grow by what is its own.
  pub record IsChange (s : State (Option V) (View I B)) (r : IsRuled log_of base_of owner s) (id : ℕ) (v w : View I B) (log : List I) (toggles : List Toggle) (tickets : Tickets) (words : List ℕ) (homes : List (maybe.Option (Option V))) : Type 0 where
    pub at : get_elem? s.views id ≡ some v
    pub live : v.spent ≡ false
    pub stays : Stays v w
    pub items_stay : (party : ℕ) → party ≢ v.known.number → items_of owner party (length r.history.opened) log ≡ items_of owner party (length r.history.opened) r.history.log
    pub toggles_stay : (party : ℕ) → party ≢ v.known.number → items_of party_of party 0 toggles ≡ items_of party_of party 0 r.history.toggles
    pub words_are : AreWords (record r.history { log = log; toggles = toggles }) tickets (set s.views id w) words
    pub drawn : tickets.next + ticket_of v ≡ tickets.serving + sum_by ticket_of s.views + ticket_of w
    pub home : IsHome log_of base_of log r.history.base tickets.holder homes
    pub holder : (seat : ℕ) → tickets.holder ≡ Some seat → IsHolder (set s.views id w) seat
    pub here : IsLive owner (record r.history { log = log; toggles = toggles }) tickets id w
    pub others : (j : ℕ) (u : View I B) → j ≢ id → get_elem? s.views j ≡ some u → u.spent ≡ false
        → IsLive owner (record r.history { log = log; toggles = toggles }) tickets j u × ((ticket : ℕ) → HasTicket w.stage ticket → HasTicket u.stage ticket → ⊥)

  module _ (s : State (Option V) (View I B)) (r : IsRuled log_of base_of owner s) (id : ℕ) (v w : View I B) (log : List I) (toggles : List Toggle) (tickets : Tickets) (words : List ℕ) (homes : List (maybe.Option (Option V)))
      (c : IsChange s r id v w log toggles tickets words homes) where
    count_stays : (count : Option ℕ) → IsCount owner r.history s.views count → IsCount owner (record r.history { log = log; toggles = toggles }) (set s.views id w) count
    count_stays None h = tt
    count_stays (Some count) h = let own = h.1 id v c.at c.live in (
      length-set s.views id w ∙ h.0,
      each_set s.views id w (λ _ view. IsBelow count view)
          (subst (λ z. z < count) (sym c.stays.number) own.0, λ o t. own.1 o (subst (λ (z : List (Known I B)). Contains z o) c.stays.olds t)) (λ j u ne e lu. h.1 j u e lu),
      λ party far. c.items_stay party (λ e. let lt = own.0 in omega (arith, far, lt, e)) ∙ h.2 party far,
      λ party far. c.toggles_stay party (λ e. let lt = own.0 in omega (arith, far, lt, e)) ∙ h.3 party far,
    )

    pub changed : IsRuled log_of base_of owner record { words = words; homes = homes; views = set s.views id w }
    changed = record {
      history = record r.history { log = log; toggles = toggles };
      tickets = tickets;
      few = r.few;
      room = subst (λ n. n ≤ r.history.parties) (sym (length-set s.views id w)) r.room;
      words = c.words_are;
      drawn = let h = sum_by-replaced ticket_of s.views id v w c.at in let t = c.drawn in omega (arith, t, h);
      home = c.home;
      holder = c.holder;
      live = each_set s.views id w (λ j u. IsLive owner (record r.history { log = log; toggles = toggles }) tickets j u) c.here (λ j u ne e lu. (c.others j u ne e lu).0);
      counts = each_set s.views id w (λ _ u. IsCount owner (record r.history { log = log; toggles = toggles }) (set s.views id w) u.count)
          (subst (IsCount owner (record r.history { log = log; toggles = toggles }) (set s.views id w)) (sym c.stays.count) (count_stays v.count (r.counts id v c.at c.live)))
          (λ j u ne e lu. count_stays u.count (r.counts j u e lu));
      apart = each_set s.views id w (λ i x. EachLive (λ j u. i ≢ j → AreApart x u) (set s.views id w))
          (each_set s.views id w (λ j u. id ≢ j → AreApart w u) (λ (not : id ≢ id). absurd (not refl))
          (λ j u ne e lu _. apart_from v w u c.stays (c.others j u ne e lu).1 (r.apart id v c.at c.live j u e lu (λ h. ne (sym h)))))
          (λ i x other at_x lx. each_set s.views id w (λ j u. i ≢ j → AreApart x u)
          (λ ne. apart_to v w x c.stays (c.others i x other at_x lx).1 (r.apart i x at_x lx id v c.at c.live ne))
          (λ j u _ e lu ne. r.apart i x at_x lx j u e lu ne));
    }
