-- The rule holds at the opening, and each pass that is dealt out is new.
use Rattle.std.proofs.Common.{◌≡◌, ℕ, zero, suc, ◌+◌, ◌^◌, ◌<◌, cond, Option, Some, None, List, [], ◌∷◌, ◌++◌, length, filter, slice_get, count_by, sym, refl, ap, ◌∙◌, subst, arith, length-append, eqb}
use mathlib.Core.Option.{some, some-injective, some-ne-none}
use mathlib.Core.Logic.{dite}
use native.Mathlib.Decide.{ℕ_discrete}
use lib.ListN.{get_elem?}
use Rattle.std.specs.List.{range_with_len}
use Rattle.std.proofs.lemmas.List.Sums.{sum_by-cons}
use Rattle.std.proofs.Math.Seq.{drop-length}
use Rattle.atomic_table.specs.Table.{opening}
use Rattle.atomic_table.specs.Seated.{TableId}
use Rattle.atomic_table.specs.declared.shared.Seat.{Seat}
use Rattle.com_turn.specs.declared.view.View.{View}
use Rattle.com_turn.specs.declared.view.Opening.{Opening}
use Rattle.com_turn.specs.Toggles.{party_of, is_active}
use Rattle.com_turn.specs.Passes.{PassState, new_pass, AreNew}
use Rattle.com_turn.specs.Views.{first_view, view_of_next, is_at_turn, shown}
use Rattle.com_turn.specs.Rule.{History, Tickets, IsLive, IsBelow, IsCount, IsRuled}
use Rattle.com_turn.proofs.Lists.{None-Some, no_item, slice_get-front, slice_get-last}
use Rattle.com_turn.proofs.Fronts.{prefix_refl, seen_all}

alone : {A : Type 0} (a b : A) (j : ℕ) → get_elem? (a ∷ []) j ≡ some b → (j ≡ 0) × (a ≡ b)
alone a b zero e = (refl, some-injective a b e)
alone a b (suc j) e = absurd (some-ne-none b (sym e))

-- nobody is active where there is no toggle
none_active : (n from : ℕ) → count_by (λ party. is_active party []) (range_with_len from n) ≡ 0
none_active zero from = refl
none_active (suc n) from = let a = sum_by-cons (λ (party : ℕ). cond (is_active party []) 1 0) from (range_with_len (from + 1) n) in let b = none_active n (from + 1) in omega (arith, a, b)

module _ {V I B : Type 0} (log_of : V → List I) (base_of : V → B) (owner : I → ℕ) where
  pub opens : (value : V) (parties : ℕ) → 0 < parties → parties < 2 ^ 32 → IsRuled log_of base_of owner (opening (0 ∷ 0 ∷ 0 ∷ 0 ∷ []) (Some value ∷ []) (first_view (log_of value) (base_of value) parties))
  opens value parties some_party few =
      let v : View I B = first_view (log_of value) (base_of value) parties in let log : List I = log_of value in
      let history : History I B = record { log = log; toggles = []; opened = log; base = base_of value; parties = parties } in
      let tickets : Tickets = record { next = 0; serving = 0; holder = None } in
      let nothing = λ (party : ℕ). ap (filter (λ (x : I). eqb (owner x) party)) (drop-length log) in
      let first : IsLive owner history tickets 0 v = record {
        known = record {
          parties = refl;
          base = refl;
          opened = refl;
          number = some_party;
          past_opening = prefix_refl log log refl;
          items = seen_all owner 0 (length log) log log refl;
          toggles = seen_all party_of 0 0 [] [] refl;
        };
        olds = λ old h. absurd (no_item old h);
        stage = tt;
        active = refl;
      } in record {
        history = history;
        tickets = tickets;
        few = few;
        room = omega (arith, some_party);
        words = record { four = refl; ticket = refl; serving = refl; count = omega arith; active = refl; toggled = sym (none_active parties 0) };
        drawn = refl;
        home = (value, refl, refl, refl);
        holder = λ seat e. absurd (None-Some seat e);
        live = λ j u e live. subst (λ (z : ℕ × View I B). IsLive owner history tickets z.0 z.1) (λ k. (sym (alone v u j e).0 k, (alone v u j e).1 k)) first;
        counts = λ j u e live. subst (λ (z : View I B). IsCount owner history (v ∷ []) z.count) (alone v u j e).1 (
          refl,
          (λ i x f lx. subst (λ (z : View I B). IsBelow 1 z) (alone v x i f).1 (omega arith, λ old h. absurd (no_item old h))),
          (λ party far. nothing party),
          (λ party far. refl),
        );
        apart = λ i x at_x lx j u e lu ne. absurd (ne ((alone v x i at_x).0 ∙ sym (alone v u j e).0));
      }

module _ {V I B : Type 0} (base_of : V → B) (opened : Opening V) (turn : TableId) (log : List I) where
  -- the view that has given out the numbers below this one
  abbrev pub giver : ℕ → View I B
  giver number = record (first_view log (base_of opened.value.value) opened.parties) { count = Some number }

  -- the passes from number 1 on
  pub record Dealing (number : ℕ) (passes : List (PassState I B)) : Type 0 where
    pub long : length passes + 1 ≡ number
    pub each : (i : ℕ) → i + 1 < number → slice_get passes i ≡ Some (new_pass turn opened.parties (base_of opened.value.value) log (i + 1))

  pub shown_next : (seat : Seat (Option V) (View I B)) (number : ℕ) → seat.table_id ≡ turn → seat.me ≡ (view_of_next (giver number), []) → shown seat ≡ new_pass turn opened.parties (base_of opened.value.value) log number
  shown_next seat number own me = λ k. record {
    turn = own k;
    number = (me k).0.known.number;
    parties = (me k).0.known.parties;
    base = (me k).0.known.base;
    opened = (me k).0.known.opened;
    seen = (me k).0.known.seen;
    toggles = (me k).0.known.toggles;
    at_turn = is_at_turn (me k).0.stage;
    active = (me k).0.active;
    turns = (me k).0.turns;
    found = (me k).0.found;
  }

  pub shown_first : (seat : Seat (Option V) (View I B)) (number : ℕ) → seat.table_id ≡ turn → seat.me ≡ (giver number, []) → shown seat ≡ new_pass turn opened.parties (base_of opened.value.value) log 0
  shown_first seat number own me = λ k. record {
    turn = own k;
    number = (me k).0.known.number;
    parties = (me k).0.known.parties;
    base = (me k).0.known.base;
    opened = (me k).0.known.opened;
    seen = (me k).0.known.seen;
    toggles = (me k).0.known.toggles;
    at_turn = is_at_turn (me k).0.stage;
    active = (me k).0.active;
    turns = (me k).0.turns;
    found = (me k).0.found;
  }

  pub deals_on : (number : ℕ) (passes more : List (PassState I B)) (pass : PassState I B) → Dealing number passes → pass ≡ new_pass turn opened.parties (base_of opened.value.value) log number → more ≡ passes ++ pass ∷ [] → Dealing (number + 1) more
  deals_on number passes more pass d is e = record {
    long = let a = d.long in let b = length-append passes (pass ∷ []) in let c = ap length e in omega (arith, a, b, c);
    each = λ i lt. ap (λ z. slice_get z i) e ∙ dite (ℕ_discrete (i + 1) number)
        (λ last. slice_get-last passes pass i (let a = d.long in omega (arith, a, last)) ∙ (ap Some is ∙ ap (λ n. Some (new_pass turn opened.parties (base_of opened.value.value) log n)) (sym last)))
        (λ ne. let far : i + 1 < number = omega (arith, lt, ne) in slice_get-front passes (pass ∷ []) i (let a = d.long in omega (arith, a, far)) ∙ d.each i far);
  }

  pub deals_all : (passes all : List (PassState I B)) (pass : PassState I B) → Dealing opened.parties passes → pass ≡ new_pass turn opened.parties (base_of opened.value.value) log 0 → all ≡ pass ∷ passes
      → AreNew turn opened.parties (base_of opened.value.value) log all
  deals_all passes all pass d is e = record { many = let a = d.long in let b = ap length e in omega (arith, a, b); each = each }
    where
      each : (i : ℕ) → i < opened.parties → slice_get all i ≡ Some (new_pass turn opened.parties (base_of opened.value.value) log i)
      each zero lt = ap (λ z. slice_get z 0) e ∙ ap Some is
      each (suc i) lt = ap (λ z. slice_get z (suc i)) e ∙ (d.each i (omega (arith, lt)) ∙ ap (λ n. Some (new_pass turn opened.parties (base_of opened.value.value) log n)) (omega arith))
