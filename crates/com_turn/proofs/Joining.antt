-- A view takes in another, which is spent.
use Rattle.std.proofs.Common.{◌≡◌, ◌≢◌, ℕ, ◌<◌, false, true, cond, Bool, Option, Some, None, List, ◌∷◌, ◌++◌, length, set, Contains, sym, refl, ap, ◌∙◌, subst, ⊎_elim, arith, length-set}
use mathlib.Core.Option.{some}
use lib.ListN.{get_elem?}
use Rattle.std.proofs.lemmas.List.Elements.{Contains-append_cases}
use Rattle.atomic_table.specs.Table.{State, Joins}
use Rattle.atomic_table.proofs.Lists.{at_set, set_else}
use Rattle.com_turn.specs.declared.view.Known.{Known}
use Rattle.com_turn.specs.declared.view.Stage.{Stage}
use Rattle.com_turn.specs.declared.view.Stage.TheVariants.{Idle, Holding}
use Rattle.com_turn.specs.declared.view.View.{View}
use Rattle.com_turn.specs.Histories.{IsPrefixOf}
use Rattle.com_turn.specs.Toggles.{party_of}
use Rattle.com_turn.specs.Views.{tickets_out, ticket_of, active_of, joined, spent_view}
use Rattle.com_turn.specs.Rule.{Knows, IsStage, IsLive, IsBelow, IsCount, AreApart, EachLive, IsRuled}
use Rattle.com_turn.proofs.Lists.{None-Some, sum_by-replaced, contains_cons}
use Rattle.com_turn.proofs.Fronts.{prefix_length, longer_has, seen_longer}
use Rattle.com_turn.proofs.Changes.{holder_else}

clash : false ≡ true → ⊥
clash e = cc

pub idle-Holding : (stage : Stage) (ticket : ℕ) → stage ≡ Idle → stage ≡ Holding ticket → ⊥
idle-Holding stage ticket a b = let e : Idle ≡ Holding ticket = sym a ∙ b in no e
  where
    no : Idle ≡ Holding ticket → ⊥
    no e = cc

module _ {I B : Type 0} where
  -- a fact on each old of a view that took another in
  each_old : (v w : View I B) (P : Known I B → Type 0) → P v.known → P w.known → ((old : Known I B) → Contains v.olds old → P old) → ((old : Known I B) → Contains w.olds old → P old)
      → (old : Known I B) → Contains (joined v w).olds old → P old
  each_old v w P a b c d old h = ⊎_elim (λ (e : v.known ≡ old). subst P e a)
      (λ (h : Contains (w.known ∷ (v.olds ++ w.olds)) old). ⊎_elim (λ (e : w.known ≡ old). subst P e b)
      (λ (h : Contains (v.olds ++ w.olds) old). ⊎_elim (c old) (d old) (Contains-append_cases v.olds w.olds old h))
      (contains_cons w.known (v.olds ++ w.olds) old h))
      (contains_cons v.known (w.known ∷ (v.olds ++ w.olds)) old h)

  -- a fact on each live view after a join: on the one that took the other in, and on the others
  each_joined : (views : List (View I B)) (id other : ℕ) (v w : View I B) (P : ℕ → View I B → Type 0) → P id (joined v w)
      → ((j : ℕ) (u : View I B) → j ≢ id → j ≢ other → get_elem? views j ≡ some u → u.spent ≡ false → P j u) → EachLive P (set (set views id (joined v w)) other spent_view)
  each_joined views id other v w P here others j u e live = ⊎_elim
      (λ (t : (j ≡ other) × (spent_view ≡ u)). absurd (clash (sym live ∙ sym (ap (λ (z : View I B). z.spent) t.1))))
      (λ (a : (j ≢ other) × (get_elem? (set views id (joined v w)) j ≡ some u)). ⊎_elim
      (λ (t : (j ≡ id) × (joined v w ≡ u)). subst (λ (z : ℕ × View I B). P z.0 z.1) (λ k. (sym t.0 k, t.1 k)) here)
      (λ (t : (j ≢ id) × (get_elem? views j ≡ some u)). others j u t.0 a.0 t.1 live)
      (at_set views id j (joined v w) u a.1))
      (at_set (set views id (joined v w)) other j spent_view u e)

  joined_from : (v w x : View I B) → AreApart v x → AreApart w x → AreApart (joined v w) x
  joined_from v w x a b = record {
    numbers = a.numbers;
    tickets = a.tickets;
    olds = each_old v w (λ (old : Known I B). old.number ≢ x.known.number) a.numbers b.numbers a.olds b.olds;
    counts = λ m n e f. None-Some m e;
  }

  joined_to : (v w x : View I B) → AreApart x v → AreApart x (joined v w)
  joined_to v w x a = record { numbers = a.numbers; tickets = a.tickets; olds = a.olds; counts = λ m n e f. None-Some n f }

module _ {V I B : Type 0} (log_of : V → List I) (base_of : V → B) (owner : I → ℕ) where
  still_counts : (s : State (Option V) (View I B)) (r : IsRuled log_of base_of owner s) (id other : ℕ) (v w : View I B) → v.spent ≡ false → w.spent ≡ false → get_elem? s.views id ≡ some v → get_elem? s.views other ≡ some w
      → (count : Option ℕ) → IsCount owner r.history s.views count → IsCount owner r.history (set (set s.views id (joined v w)) other spent_view) count
  still_counts s r id other v w live lw at at_w None h = tt
  still_counts s r id other v w live lw at at_w (Some count) h = (
    length-set (set s.views id (joined v w)) other spent_view ∙ (length-set s.views id (joined v w) ∙ h.0),
    each_joined s.views id other v w (λ _ u. IsBelow count u)
        ((h.1 id v at live).0, each_old v w (λ (old : Known I B). old.number < count) (h.1 id v at live).0 (h.1 other w at_w lw).0 (h.1 id v at live).1 (h.1 other w at_w lw).1)
        (λ j u _ _ e lu. h.1 j u e lu),
    h.2,
    h.3,
  )

  pub joins : (id : ℕ) (v : View I B) (other : ℕ) (w : View I B) → v.spent ≡ false → w.spent ≡ false → v.stage ≡ Idle → w.stage ≡ Idle → v.active ≡ false → w.active ≡ false
      → Joins (IsRuled log_of base_of owner) id v other w (joined v w) spent_view
  joins id v other w live lw idle wi inactive wn s r at ne at_both =
      let after : View I B = joined v w in let gone : View I B = spent_view in
      let at_w : get_elem? s.views other ≡ some w = sym (set_else s.views id other after ne) ∙ at_both in
      let l = r.live id v at live in let kv = l.known in let m = r.live other w at_w lw in let kw = m.known in
      let views : List (View I B) = set (set s.views id after) other spent_view in
      record {
        history = r.history;
        tickets = r.tickets;
        few = r.few;
        room = let a = r.room in let b : length views ≡ length s.views = length-set (set s.views id after) other spent_view ∙ length-set s.views id after in omega (arith, a, b);
        words = record {
          four = r.words.four;
          ticket = r.words.ticket;
          serving = r.words.serving;
          count = r.words.count;
          active = r.words.active ∙ (let a = sum_by-replaced active_of s.views id v after at in let b = sum_by-replaced active_of (set s.views id after) other w gone at_both in
              let c : active_of w ≡ 0 = ap (λ (z : Bool). cond z 1 0) wn in let d : active_of gone ≡ 0 = refl in let e : active_of after ≡ active_of v = refl in omega (arith, a, b, c, d, e));
          toggled = r.words.toggled;
        };
        drawn = let a = sum_by-replaced ticket_of s.views id v after at in let b = sum_by-replaced ticket_of (set s.views id after) other w gone at_both in
            let c : ticket_of w ≡ 0 = ap tickets_out wi in let d : ticket_of gone ≡ 0 = refl in let e : ticket_of after ≡ ticket_of v = refl in let t = r.drawn in omega (arith, t, a, b, c, d, e);
        home = r.home;
        holder = λ seat e. holder_else (set s.views id after) other w gone seat at_both (λ ticket f. idle-Holding w.stage ticket wi f)
            (holder_else s.views id v after seat at (λ ticket f. idle-Holding v.stage ticket idle f) (r.holder seat e));
        live = each_joined s.views id other v w (λ j u. IsLive owner r.history r.tickets j u)
            record {
              known = record {
                parties = kv.parties;
                base = kv.base;
                opened = kv.opened;
                number = kv.number;
                past_opening = longer_has (IsPrefixOf r.history.opened) v.known.seen w.known.seen kv.past_opening kw.past_opening;
                items = seen_longer owner v.known.number (length r.history.opened) r.history.log v.known.seen w.known.seen (prefix_length r.history.opened v.known.seen kv.past_opening) kw.items.front kv.items;
                toggles = seen_longer party_of v.known.number 0 r.history.toggles v.known.toggles w.known.toggles (omega arith) kw.toggles.front kv.toggles;
              };
              olds = each_old v w (Knows owner r.history) kv kw l.olds m.olds;
              stage = subst (IsStage r.history r.tickets id after) (sym idle) tt;
              active = l.active;
            }
            (λ j u _ _ e lu. r.live j u e lu);
        counts = each_joined s.views id other v w (λ _ u. IsCount owner r.history views u.count) tt (λ j u _ _ e lu. still_counts s r id other v w live lw at at_w u.count (r.counts j u e lu));
        apart = each_joined s.views id other v w (λ i x. EachLive (λ j u. i ≢ j → AreApart x u) views)
            (each_joined s.views id other v w (λ j u. id ≢ j → AreApart after u)
            (λ (not : id ≢ id). absurd (not refl))
            (λ j u ni nk e lu _. joined_from v w u (r.apart id v at live j u e lu (λ h. ni (sym h))) (r.apart other w at_w lw j u e lu (λ h. nk (sym h)))))
            (λ i x _ _ at_x lx. each_joined s.views id other v w (λ j u. i ≢ j → AreApart x u)
            (λ ne. joined_to v w x (r.apart i x at_x lx id v at live ne))
            (λ j u _ _ e lu ne. r.apart i x at_x lx j u e lu ne));
      }
