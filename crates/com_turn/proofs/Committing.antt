-- The seat at its turn adds an item of its own to the log.
use Rattle.std.proofs.Common.{◌≡◌, ◌≢◌, ℕ, ◌+◌, ◌%◌, ◌^◌, ◌<◌, false, Option, Some, List, [], ◌∷◌, ◌++◌, length, set, slice_index, Contains, sym, refl, ap, ◌∙◌, subst, inr, arith, length-set, length-append, get_or-set_other, get_or-set_same}
use mathlib.Core.Option.{some, none}
use lib.ListN.{get_elem?}
use Rattle.std.proofs.Math.Nat.{mod-eq_of_lt}
use Rattle.atomic_table.specs.Table.{Me, step, keeps, Allows}
use Rattle.com_turn.specs.declared.view.Known.{Known}
use Rattle.com_turn.specs.declared.view.Stage.TheVariants.{Holding}
use Rattle.com_turn.specs.declared.view.View.{View}
use Rattle.com_turn.specs.Views.{HasTicket, with_item}
use Rattle.com_turn.specs.Rule.{History, IsHome, IsStage, Knows, IsRuled}
use Rattle.com_turn.specs.Steps.{Commits}
use Rattle.com_turn.proofs.Lists.{Some-injective, no_item}
use Rattle.com_turn.proofs.Fronts.{prefix_trans, prefix_more, prefix_length, items_of-other, seen_all, seen_other}
use Rattle.com_turn.proofs.Changes.{changed, active_same, holder_same, has_ticket, stage_else}

module _ {I B : Type 0} (owner : I → ℕ) where
  knows_more : (history : History I B) (item : I) (known : Known I B) → owner item ≢ known.number → Knows owner history known → Knows owner (record history { log = history.log ++ item ∷ [] }) known
  knows_more history item known ne k =
      let le = prefix_length history.opened history.log (prefix_trans history.opened known.seen history.log k.past_opening k.items.front) in record {
        parties = k.parties;
        base = k.base;
        opened = k.opened;
        number = k.number;
        past_opening = k.past_opening;
        items = seen_other owner known.number (length history.opened) history.log known.seen item le ne k.items;
        toggles = k.toggles;
      }

module _ {V I B : Type 0} (log_of : V → List I) (base_of : V → B) (owner : I → ℕ) where
  pub commits : (slots id : ℕ) (me : Me (Option V) (View I B)) (ticket : ℕ) (item : I) (chosen : Option I) → me.0.stage ≡ Holding ticket → me.0.spent ≡ false → chosen ≡ Some item → owner item ≡ me.0.known.number → length me.0.known.seen < 2 ^ 63
      → Allows (IsRuled log_of base_of owner) slots id me 2 (λ n. (n + 1) % 2 ^ 64) (Commits chosen (step slots 2 1 0 none) me)
  commits slots id me ticket item chosen st live is own room s r wide at _ =
      let v : View I B = me.0 in let w : View I B = with_item item v in let l = r.live id v at live in let kn = l.known in
      let stage = subst (IsStage r.history r.tickets id v) st l.stage in let saw : v.known.seen ≡ r.history.log = stage.4 in
      let log : List I = r.history.log ++ item ∷ [] in let history : History I B = record r.history { log = log } in
      let le = prefix_length r.history.opened r.history.log (prefix_trans r.history.opened v.known.seen r.history.log kn.past_opening kn.items.front) in
      let n : ℕ = (slice_index s.words 2 + 1) % 2 ^ 64 in
      let apart = λ (j : ℕ) (u : View I B) (ne : j ≢ id) (e : get_elem? s.views j ≡ some u) (lu : u.spent ≡ false). r.apart id v at live j u e lu (λ h. ne (sym h)) in
      let added : v.known.seen ++ item ∷ [] ≡ log = ap (λ z. z ++ item ∷ []) saw in (
        w,
        keeps,
        tt,
        changed log_of base_of owner s r id v w log r.history.toggles r.tickets (set s.words 2 n) s.homes record {
          at = at;
          live = live;
          stays = record { number = refl; olds = refl; count = refl; live = live };
          items_stay = λ party ne. items_of-other owner party (length r.history.opened) r.history.log item le (λ e. ne (sym e ∙ own));
          toggles_stay = λ _ _. refl;
          words_are = record {
            four = length-set s.words 2 n ∙ r.words.four;
            ticket = get_or-set_other s.words 2 0 n 0 (λ e. omega arith) ∙ r.words.ticket;
            serving = get_or-set_other s.words 2 1 n 0 (λ e. omega arith) ∙ r.words.serving;
            count = let here = get_or-set_same s.words 2 n 0 (omega (arith, r.words.four)) in let c = r.words.count in let d = ap length saw in
                let small : n ≡ slice_index s.words 2 + 1 = mod-eq_of_lt (omega (arith, room, c, d)) in let longer = length-append r.history.log (item ∷ []) in omega (arith, c, longer, here, small);
            active = get_or-set_other s.words 2 3 n 0 (λ e. omega arith) ∙ (r.words.active ∙ sym (active_same s.views id v w at refl));
            toggled = get_or-set_other s.words 2 3 n 0 (λ e. omega arith) ∙ r.words.toggled;
          };
          drawn = let t = r.drawn in omega (arith, t);
          home = subst (λ z. IsHome log_of base_of log r.history.base z s.homes) (sym stage.3) (subst (λ z. IsHome log_of base_of r.history.log r.history.base z s.homes) stage.3 r.home);
          holder = λ seat e. holder_same s.views id v w seat at refl live (r.holder seat e);
          here = record {
            known = record {
              parties = kn.parties;
              base = kn.base;
              opened = kn.opened;
              number = kn.number;
              past_opening = prefix_more r.history.opened v.known.seen item kn.past_opening;
              items = seen_all owner v.known.number (length r.history.opened) log (v.known.seen ++ item ∷ []) added;
              toggles = kn.toggles;
            };
            olds = λ old h. absurd (no_item old (subst (λ (z : List (Known I B)). Contains z old) stage.2 h));
            stage = subst (IsStage history r.tickets id w) (sym st) (stage.0, stage.1, stage.2, stage.3, added, stage.5);
            active = l.active;
          };
          others = λ j u ne e lu. let m = r.live j u e lu in let a = apart j u ne e lu in (
            record {
              known = knows_more owner r.history item u.known (λ f. a.numbers (sym own ∙ f)) m.known;
              olds = λ old h. knows_more owner r.history item old (λ f. (r.apart j u e lu id v at live ne).olds old h (sym f ∙ own)) (m.olds old h);
              stage = stage_else r.history history r.tickets r.tickets j u u.stage refl (omega arith) m.stage (λ has. a.tickets ticket (has_ticket v.stage ticket (inr st)) (subst (HasTicket u.stage) (sym stage.0) has));
              active = m.active;
            },
            a.tickets,
          );
        },
        λ x e. ap (λ z. (with_item z v, me.1)) (Some-injective item x (sym is ∙ e)),
      )
