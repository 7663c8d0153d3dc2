-- A seat draws a ticket.
use Rattle.std.proofs.Common.{◌≡◌, ℕ, ◌+◌, ◌%◌, ◌^◌, false, Option, List, [], length, set, slice_index, sym, refl, ap, ◌∙◌, subst, arith, length-set, get_or-set_other, get_or-set_same}
use mathlib.Core.Option.{none}
use Rattle.std.proofs.Math.Nat.{mod-add-mod}
use Rattle.atomic_table.specs.Table.{Me, step, keeps, Allows}
use Rattle.com_turn.specs.declared.view.Stage.{Stage}
use Rattle.com_turn.specs.declared.view.Stage.TheVariants.{Idle, Waiting, Holding}
use Rattle.com_turn.specs.declared.view.View.{View}
use Rattle.com_turn.specs.Views.{HasTicket, tickets_out, ticket_of, at_stage}
use Rattle.com_turn.specs.Rule.{History, Tickets, IsStage, IsRuled}
use Rattle.com_turn.specs.Steps.{Draws}
use Rattle.com_turn.proofs.Changes.{changed, active_same, holder_else}

idle-Holding : (n : ℕ) (stage : Stage) → stage ≡ Idle → stage ≡ Holding n → ⊥
idle-Holding n stage a b = let e : Idle ≡ Holding n = sym a ∙ b in clash e
  where
    clash : Idle ≡ Holding n → ⊥
    clash e = cc

module _ {I B : Type 0} where
  stage_later : (history : History I B) (tickets : Tickets) (seat : ℕ) (view : View I B) (stage : Stage) → IsStage history tickets seat view stage → IsStage history (record tickets { next = tickets.next + 1 }) seat view stage
  stage_later history tickets seat view Idle h = tt
  stage_later history tickets seat view (Waiting n) h = let lt = h.1 in (h.0, omega (arith, lt), h.2)
  stage_later history tickets seat view (Holding n) h = let lt = h.1 in (h.0, omega (arith, lt), h.2, h.3, h.4, h.5)

  -- nobody has the next ticket yet
  no_next : (history : History I B) (tickets : Tickets) (seat : ℕ) (view : View I B) (stage : Stage) → IsStage history tickets seat view stage → HasTicket stage tickets.next → ⊥
  no_next history tickets seat view Idle h has = has
  no_next history tickets seat view (Waiting n) h has = let lt = h.1 in let e : n ≡ tickets.next = has in omega (arith, lt, e)
  no_next history tickets seat view (Holding n) h has = let lt = h.1 in let e : n ≡ tickets.next = has in omega (arith, lt, e)

module _ {V I B : Type 0} (log_of : V → List I) (base_of : V → B) (owner : I → ℕ) where
  pub draws : (slots id : ℕ) (me : Me (Option V) (View I B)) → me.0.stage ≡ Idle → me.0.olds ≡ [] → me.0.spent ≡ false
      → Allows (IsRuled log_of base_of owner) slots id me 0 (λ n. (n + 1) % 2 ^ 64) (Draws (step slots 0 1 0 none) me)
  draws slots id me idle bare live s r wide at _ =
      let v : View I B = me.0 in let w : View I B = at_stage (Waiting r.tickets.next) v in
      let l = r.live id v at live in let tickets : Tickets = record r.tickets { next = r.tickets.next + 1 } in
      let n : ℕ = (slice_index s.words 0 + 1) % 2 ^ 64 in (
        w,
        keeps,
        tt,
        changed log_of base_of owner s r id v w r.history.log r.history.toggles tickets (set s.words 0 n) s.homes record {
          at = at;
          live = live;
          stays = record { number = refl; olds = refl; count = refl; live = live };
          items_stay = λ _ _. refl;
          toggles_stay = λ _ _. refl;
          words_are = record {
            four = length-set s.words 0 n ∙ r.words.four;
            ticket = get_or-set_same s.words 0 n 0 (omega (arith, r.words.four)) ∙ (ap (λ z. (z + 1) % 2 ^ 64) r.words.ticket ∙ mod-add-mod r.tickets.next (2 ^ 64) 1);
            serving = get_or-set_other s.words 0 1 n 0 (λ e. omega arith) ∙ r.words.serving;
            count = r.words.count ∙ ap (λ (z : ℕ). length r.history.opened + z) (sym (get_or-set_other s.words 0 2 n 0 (λ e. omega arith)));
            active = get_or-set_other s.words 0 3 n 0 (λ e. omega arith) ∙ (r.words.active ∙ sym (active_same s.views id v w at refl));
            toggled = get_or-set_other s.words 0 3 n 0 (λ e. omega arith) ∙ r.words.toggled;
          };
          drawn = let h : ticket_of v ≡ 0 = ap tickets_out idle in let t = r.drawn in omega (arith, h, t);
          home = r.home;
          holder = λ seat e. holder_else s.views id v w seat at (λ ticket f. idle-Holding ticket v.stage idle f) (r.holder seat e);
          here = record { known = l.known; olds = l.olds; stage = (let t = r.drawn in omega (arith, t), omega arith, bare); active = l.active };
          others = λ j u ne e lu. let m = r.live j u e lu in (
            record { known = m.known; olds = m.olds; stage = stage_later r.history r.tickets j u u.stage m.stage; active = m.active },
            λ ticket a b. no_next r.history r.tickets j u u.stage m.stage (subst (HasTicket u.stage) (sym a) b),
          );
        },
        (r.tickets.next, r.words.ticket, refl),
      )
