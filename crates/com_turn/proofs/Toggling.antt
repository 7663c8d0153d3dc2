-- The seat at its turn becomes active or inactive, or counts the active ones.
use Rattle.std.proofs.Common.{◌≡◌, ◌≢◌, ℕ, ◌+◌, ◌-◌, ◌%◌, ◌^◌, ◌≤◌, Bool, false, true, cond, Option, List, [], ◌∷◌, ◌++◌, length, set, sum_by, slice_index, Contains, sym, refl, ap, ◌∙◌, subst, inr, arith, length-set, get_or-set_other, get_or-set_same}
use mathlib.Core.Option.{some, none}
use lib.ListN.{get_elem?}
use Rattle.std.proofs.Math.Nat.{mod-eq_of_lt, add-mod_right}
use Rattle.atomic_table.specs.Table.{State, Me, step, keeps, Allows}
use Rattle.com_turn.specs.declared.view.Toggle.{Toggle}
use Rattle.com_turn.specs.declared.view.Known.{Known}
use Rattle.com_turn.specs.declared.view.Stage.TheVariants.{Holding}
use Rattle.com_turn.specs.declared.view.View.{View}
use Rattle.com_turn.specs.Toggles.{toggle_of, party_of, is_active, active_count}
use Rattle.com_turn.specs.Views.{HasTicket, active_of, with_toggle, with_found}
use Rattle.com_turn.specs.Rule.{History, IsStage, Knows, IsRuled}
use Rattle.com_turn.specs.Steps.{Enters, Leaves, CountsActive}
use Rattle.com_turn.proofs.Lists.{no_item, sum_by-replaced, sum_by-few}
use Rattle.com_turn.proofs.Fronts.{items_of-other, seen_all, seen_other}
use Rattle.com_turn.proofs.Counting.{is_active-own, is_active-other, active_count-change}
use Rattle.com_turn.proofs.Changes.{changed, active_same, holder_same, has_ticket, stage_else}

module _ {I B : Type 0} (owner : I → ℕ) where
  knows_toggle : (history : History I B) (party : ℕ) (active : Bool) (known : Known I B) → party ≢ known.number → Knows owner history known → Knows owner (record history { toggles = history.toggles ++ toggle_of party active ∷ [] }) known
  knows_toggle history party active known ne k = record {
    parties = k.parties;
    base = k.base;
    opened = k.opened;
    number = k.number;
    past_opening = k.past_opening;
    items = k.items;
    toggles = seen_other party_of known.number 0 history.toggles known.toggles (toggle_of party active) (omega arith) ne k.toggles;
  }

one_or_none : {I B : Type 0} (view : View I B) → active_of view ≤ 1
one_or_none view = go view.active
  where
    go : (b : Bool) → cond b 1 0 ≤ 1
    go true = omega arith
    go false = omega arith

module _ {V I B : Type 0} (log_of : V → List I) (base_of : V → B) (owner : I → ℕ) where
  -- the view becomes active or inactive, and n is the word ACTIVE then
  toggle_rule : (s : State (Option V) (View I B)) (r : IsRuled log_of base_of owner s) (id : ℕ) (v : View I B) (ticket : ℕ) (active : Bool) (n : ℕ) → get_elem? s.views id ≡ some v → v.spent ≡ false → v.stage ≡ Holding ticket
      → n + active_of v ≡ slice_index s.words 3 + cond active 1 0 → IsRuled log_of base_of owner record { words = set s.words 3 n; homes = s.homes; views = set s.views id (with_toggle active v) }
  toggle_rule s r id v ticket active n at live st is =
      let w : View I B = with_toggle active v in let l = r.live id v at live in let kn = l.known in let party : ℕ = v.known.number in
      let stage = subst (IsStage r.history r.tickets id v) st l.stage in
      let toggles : List Toggle = r.history.toggles ++ toggle_of party active ∷ [] in let history : History I B = record r.history { toggles = toggles } in
      let added : v.known.toggles ++ toggle_of party active ∷ [] ≡ toggles = ap (λ (z : List Toggle). z ++ toggle_of party active ∷ []) stage.5 in
      let apart = λ (j : ℕ) (u : View I B) (ne : j ≢ id) (e : get_elem? s.views j ≡ some u) (lu : u.spent ≡ false). r.apart id v at live j u e lu (λ h. ne (sym h)) in
      changed log_of base_of owner s r id v w r.history.log toggles r.tickets (set s.words 3 n) s.homes record {
        at = at;
        live = live;
        stays = record { number = refl; olds = refl; count = refl; live = live };
        items_stay = λ _ _. refl;
        toggles_stay = λ other ne. items_of-other party_of other 0 r.history.toggles (toggle_of party active) (omega arith) (λ e. ne (sym e));
        words_are = record {
          four = length-set s.words 3 n ∙ r.words.four;
          ticket = get_or-set_other s.words 3 0 n 0 (λ e. omega arith) ∙ r.words.ticket;
          serving = get_or-set_other s.words 3 1 n 0 (λ e. omega arith) ∙ r.words.serving;
          count = r.words.count ∙ ap (λ (z : ℕ). length r.history.opened + z) (sym (get_or-set_other s.words 3 2 n 0 (λ e. omega arith)));
          active = get_or-set_same s.words 3 n 0 (omega (arith, r.words.four))
              ∙ (let h = sum_by-replaced active_of s.views id v w at in let a = r.words.active in let one : active_of w ≡ cond active 1 0 = refl in omega (arith, h, a, is, one));
          toggled = get_or-set_same s.words 3 n 0 (omega (arith, r.words.four))
              ∙ (let h = active_count-change r.history.parties party r.history.toggles active kn.number in let a = r.words.toggled in
              let one : active_of v ≡ cond (is_active party r.history.toggles) 1 0 = ap (λ (b : Bool). cond b 1 0) l.active in omega (arith, h, a, is, one));
        };
        drawn = let t = r.drawn in omega (arith, t);
        home = r.home;
        holder = λ seat e. holder_same s.views id v w seat at refl live (r.holder seat e);
        here = record {
          known = record {
            parties = kn.parties;
            base = kn.base;
            opened = kn.opened;
            number = kn.number;
            past_opening = kn.past_opening;
            items = kn.items;
            toggles = seen_all party_of party 0 toggles (v.known.toggles ++ toggle_of party active ∷ []) added;
          };
          olds = λ old h. absurd (no_item old (subst (λ (z : List (Known I B)). Contains z old) stage.2 h));
          stage = subst (IsStage history r.tickets id w) (sym st) (stage.0, stage.1, stage.2, stage.3, stage.4, added);
          active = sym (is_active-own party r.history.toggles active);
        };
        others = λ j u ne e lu. let m = r.live j u e lu in let a = apart j u ne e lu in (
          record {
            known = knows_toggle owner r.history party active u.known a.numbers m.known;
            olds = λ old h. knows_toggle owner r.history party active old (λ f. (r.apart j u e lu id v at live ne).olds old h (sym f)) (m.olds old h);
            stage = stage_else r.history history r.tickets r.tickets j u u.stage refl (omega arith) m.stage (λ has. a.tickets ticket (has_ticket v.stage ticket (inr st)) (subst (HasTicket u.stage) (sym stage.0) has));
            active = m.active ∙ sym (is_active-other u.known.number party r.history.toggles active a.numbers);
          },
          a.tickets,
        );
      }

  pub enters : (slots id : ℕ) (me : Me (Option V) (View I B)) (ticket : ℕ) → me.0.stage ≡ Holding ticket → me.0.spent ≡ false → me.0.active ≡ false
      → Allows (IsRuled log_of base_of owner) slots id me 3 (λ n. (n + 1) % 2 ^ 64) (Enters (step slots 3 1 0 none) me)
  enters slots id me ticket st live inactive s r wide at _ =
      let few = sum_by-few active_of (λ (view : View I B). one_or_none view) s.views in let room = r.room in let bound = r.few in let a = r.words.active in
      let none : active_of me.0 ≡ 0 = ap (λ (b : Bool). cond b 1 0) inactive in
      let small : (slice_index s.words 3 + 1) % 2 ^ 64 ≡ slice_index s.words 3 + 1 = mod-eq_of_lt (omega (arith, few, room, bound, a)) in
      (with_toggle true me.0, keeps, tt, toggle_rule s r id me.0 ticket true ((slice_index s.words 3 + 1) % 2 ^ 64) at live st (omega (arith, small, none)), refl)

  pub leaves : (slots id : ℕ) (me : Me (Option V) (View I B)) (ticket : ℕ) → me.0.stage ≡ Holding ticket → me.0.spent ≡ false → me.0.active ≡ true
      → Allows (IsRuled log_of base_of owner) slots id me 3 (λ n. (n + (2 ^ 64 - 1)) % 2 ^ 64) (Leaves (step slots 3 1 0 none) me)
  leaves slots id me ticket st live active s r wide at _ =
      let few = sum_by-few active_of (λ (view : View I B). one_or_none view) s.views in let room = r.room in let bound = r.few in let a = r.words.active in
      let one : active_of me.0 ≡ 1 = ap (λ (b : Bool). cond b 1 0) active in
      let h = sum_by-replaced active_of s.views id me.0 (with_toggle false me.0) at in
      let gone : active_of (with_toggle false me.0) ≡ 0 = refl in
      let n : ℕ = sum_by active_of (set s.views id (with_toggle false me.0)) in
      let less : slice_index s.words 3 ≡ n + 1 = omega (arith, h, a, one, gone) in
      let e : slice_index s.words 3 + (2 ^ 64 - 1) ≡ n + 2 ^ 64 = omega (arith, less) in
      let small : (slice_index s.words 3 + (2 ^ 64 - 1)) % 2 ^ 64 ≡ n = ap (λ z. z % 2 ^ 64) e ∙ (add-mod_right n (2 ^ 64) ∙ mod-eq_of_lt (omega (arith, few, room, bound, a, less))) in
      (with_toggle false me.0, keeps, tt, toggle_rule s r id me.0 ticket false ((slice_index s.words 3 + (2 ^ 64 - 1)) % 2 ^ 64) at live st (omega (arith, small, one, less)), refl)

  pub counts_active : (slots id : ℕ) (me : Me (Option V) (View I B)) (ticket : ℕ) → me.0.stage ≡ Holding ticket → me.0.spent ≡ false
      → Allows (IsRuled log_of base_of owner) slots id me 3 (λ n. n) (CountsActive (step slots 3 0 0 none) me)
  counts_active slots id me ticket st live s r wide at _ =
      let v : View I B = me.0 in let n : ℕ = slice_index s.words 3 in let w : View I B = with_found n v in let l = r.live id v at live in
      let stage = subst (IsStage r.history r.tickets id v) st l.stage in (
        w,
        keeps,
        tt,
        changed log_of base_of owner s r id v w r.history.log r.history.toggles r.tickets (set s.words 3 n) s.homes record {
          at = at;
          live = live;
          stays = record { number = refl; olds = refl; count = refl; live = live };
          items_stay = λ _ _. refl;
          toggles_stay = λ _ _. refl;
          words_are = record {
            four = length-set s.words 3 n ∙ r.words.four;
            ticket = get_or-set_other s.words 3 0 n 0 (λ e. omega arith) ∙ r.words.ticket;
            serving = get_or-set_other s.words 3 1 n 0 (λ e. omega arith) ∙ r.words.serving;
            count = r.words.count ∙ ap (λ (z : ℕ). length r.history.opened + z) (sym (get_or-set_other s.words 3 2 n 0 (λ e. omega arith)));
            active = get_or-set_same s.words 3 n 0 (omega (arith, r.words.four)) ∙ (r.words.active ∙ sym (active_same s.views id v w at refl));
            toggled = get_or-set_same s.words 3 n 0 (omega (arith, r.words.four)) ∙ r.words.toggled;
          };
          drawn = let t = r.drawn in omega (arith, t);
          home = r.home;
          holder = λ seat e. holder_same s.views id v w seat at refl live (r.holder seat e);
          here = record { known = l.known; olds = l.olds; stage = subst (IsStage r.history r.tickets id w) (sym st) stage; active = l.active };
          others = λ j u ne e lu. let m = r.live j u e lu in (m, (r.apart id v at live j u e lu (λ h. ne (sym h))).tickets);
        },
        (refl, r.words.toggled ∙ (λ k. active_count (sym l.known.parties k) (sym stage.5 k))),
      )
