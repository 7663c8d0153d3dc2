-- The slot goes home, and the next ticket is served.
use Rattle.std.proofs.Common.{◌≡◌, ℕ, ◌+◌, ◌%◌, ◌^◌, false, Option, Some, None, List, [], ◌∷◌, length, set, slice_index, sym, refl, ap, ◌∙◌, subst, inr, arith, length-set, get_or-set_other, get_or-set_same}
use mathlib.Core.Option.{none}
use Rattle.std.proofs.Math.Nat.{mod-add-mod}
use Rattle.atomic_table.specs.Table.{Me, step, gives, Allows, put_back}
use Rattle.com_turn.specs.declared.view.Stage.TheVariants.{Idle, Holding}
use Rattle.com_turn.specs.declared.view.View.{View}
use Rattle.com_turn.specs.Views.{HasTicket, tickets_out, ticket_of, at_stage}
use Rattle.com_turn.specs.Rule.{Tickets, IsHome, IsStage, IsRuled}
use Rattle.com_turn.specs.Steps.{PassesOn}
use Rattle.com_turn.proofs.Lists.{Some-injective, None-Some}
use Rattle.com_turn.proofs.Changes.{changed, active_same, has_ticket, stage_else}

module _ {V I B : Type 0} (log_of : V → List I) (base_of : V → B) (owner : I → ℕ) where
  pub passes_on : (slots id : ℕ) (me : Me (Option V) (View I B)) (ticket : ℕ) (value : V) → me.0.stage ≡ Holding ticket → me.0.spent ≡ false
      → me.1 ≡ (0, Some value) ∷ [] → log_of value ≡ me.0.known.seen → me.0.known.base ≡ Some (base_of value)
      → Allows (IsRuled log_of base_of owner) slots id me 1 (λ n. (n + 1) % 2 ^ 64) (PassesOn (step slots 1 1 0 none) me)
  passes_on slots id me ticket value st live holds log base s r wide at _ =
      let v : View I B = me.0 in let w : View I B = at_stage Idle v in let l = r.live id v at live in
      let stage = subst (IsStage r.history r.tickets id v) st l.stage in
      let out : s.homes ≡ none ∷ [] = subst (λ z. IsHome log_of base_of r.history.log r.history.base z s.homes) stage.3 r.home in
      let tickets : Tickets = record { next = r.tickets.next; serving = r.tickets.serving + 1; holder = None } in
      let n : ℕ = (slice_index s.words 1 + 1) % 2 ^ 64 in (
        w,
        gives,
        tt,
        changed log_of base_of owner s r id v w r.history.log r.history.toggles tickets (set s.words 1 n) (put_back s.homes me.1) record {
          at = at;
          live = live;
          stays = record { number = refl; olds = refl; count = refl; live = live };
          items_stay = λ _ _. refl;
          toggles_stay = λ _ _. refl;
          words_are = record {
            four = length-set s.words 1 n ∙ r.words.four;
            ticket = get_or-set_other s.words 1 0 n 0 (λ e. omega arith) ∙ r.words.ticket;
            serving = get_or-set_same s.words 1 n 0 (omega (arith, r.words.four)) ∙ (ap (λ z. (z + 1) % 2 ^ 64) r.words.serving ∙ mod-add-mod r.tickets.serving (2 ^ 64) 1);
            count = r.words.count ∙ ap (λ (z : ℕ). length r.history.opened + z) (sym (get_or-set_other s.words 1 2 n 0 (λ e. omega arith)));
            active = get_or-set_other s.words 1 3 n 0 (λ e. omega arith) ∙ (r.words.active ∙ sym (active_same s.views id v w at refl));
            toggled = get_or-set_other s.words 1 3 n 0 (λ e. omega arith) ∙ r.words.toggled;
          };
          drawn = let h : ticket_of v ≡ 1 = ap tickets_out st in let t = r.drawn in omega (arith, h, t);
          home = (value, (λ k. put_back (out k) (holds k)), log ∙ stage.4, Some-injective (base_of value) r.history.base (sym base ∙ l.known.base));
          holder = λ seat e. absurd (None-Some seat e);
          here = record { known = l.known; olds = l.olds; stage = tt; active = l.active };
          others = λ j u ne e lu. let m = r.live j u e lu in (
            record {
              known = m.known;
              olds = m.olds;
              stage = stage_else r.history r.history r.tickets tickets j u u.stage refl (omega arith) m.stage
                  (λ has. (r.apart id v at live j u e lu (λ h. ne (sym h))).tickets ticket (has_ticket v.stage ticket (inr st)) (subst (HasTicket u.stage) (sym stage.0) has));
              active = m.active;
            },
            λ _ none _. none,
          );
        },
        refl,
      )
