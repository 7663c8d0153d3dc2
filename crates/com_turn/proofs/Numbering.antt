-- The view that keeps the count gives the next number to a new view.
use Rattle.std.proofs.Common.{◌≡◌, ◌≢◌, ◌==◌, ℕ, ◌+◌, ◌<◌, Bool, false, true, cond, Option, Some, None, List, [], ◌∷◌, ◌++◌, length, set, sum_by, filter, fold, sym, refl, ap, ◌∙◌, subst, ⊎_elim, arith, length-set, length-append, eqb}
use mathlib.Core.Option.{some}
use lib.ListN.{get_elem?}
use Rattle.std.proofs.lemmas.List.Sums.{sum_by-append, sum_by-cons}
use Rattle.atomic_table.specs.Table.{Splits}
use Rattle.atomic_table.proofs.Lists.{at_set, at_longer}
use Rattle.com_turn.specs.declared.view.Toggle.{Toggle}
use Rattle.com_turn.specs.declared.view.View.{View}
use Rattle.com_turn.specs.Toggles.{party_of}
use Rattle.com_turn.specs.Views.{ticket_of, active_of, number_or_0, with_next_count, view_of_next}
use Rattle.com_turn.specs.Rule.{History, IsLive, IsBelow, IsCount, AreApart, EachLive, IsRuled}
use Rattle.com_turn.proofs.Lists.{None-Some, cons-nil, sum_by-replaced, at_end, no_item}
use Rattle.com_turn.proofs.Fronts.{prefix_length, seen_none}
use Rattle.com_turn.proofs.Changes.{active_same, holder_same}

-- a party without toggles is not active
fold_none : (party : ℕ) (toggles : List Toggle) (before : Bool) → filter (λ (m : Toggle). party_of m == party) toggles ≡ [] → fold (λ (active : Bool) (m : Toggle). cond (eqb m.number party) m.active active) before toggles ≡ before
fold_none party [] before e = refl
fold_none party (m ∷ ms) before e = go (eqb m.number party) refl (fold_none party ms before)
  where
    go : (own : Bool) → eqb m.number party ≡ own
        → (filter (λ (m : Toggle). party_of m == party) ms ≡ [] → fold (λ (active : Bool) (m : Toggle). cond (eqb m.number party) m.active active) before ms ≡ before)
        → fold (λ (active : Bool) (m : Toggle). cond (eqb m.number party) m.active active) (cond (eqb m.number party) m.active before) ms ≡ before
    go true is rest = absurd (cons-nil m (filter (λ (m : Toggle). party_of m == party) ms) (subst (λ (b : Bool). cond b (m ∷ filter (λ (m : Toggle). party_of m == party) ms) (filter (λ (m : Toggle). party_of m == party) ms) ≡ []) is e))
    go false is rest =
        ap (λ (b : Bool). fold (λ (active : Bool) (m : Toggle). cond (eqb m.number party) m.active active) (cond b m.active before) ms) is
        ∙ rest (subst (λ (b : Bool). cond b (m ∷ filter (λ (m : Toggle). party_of m == party) ms) (filter (λ (m : Toggle). party_of m == party) ms) ≡ []) is e)

module _ {I B : Type 0} where
  sum_by-end : (f : View I B → ℕ) (views : List (View I B)) (u : View I B) → f u ≡ 0 → sum_by f (views ++ u ∷ []) ≡ sum_by f views
  sum_by-end f views u e = let a = sum_by-append f views (u ∷ []) in let b = sum_by-cons f u [] in let c : sum_by f [] ≡ 0 = refl in omega (arith, a, b, c, e)

  -- a fact on each live view after a number was given out: on the view that gave it, on the one that got it, and on the others
  each_split : (views : List (View I B)) (id : ℕ) (v : View I B) (P : ℕ → View I B → Type 0) → P id (with_next_count v) → P (length views) (view_of_next v)
      → ((j : ℕ) (u : View I B) → j ≢ id → get_elem? views j ≡ some u → u.spent ≡ false → P j u) → EachLive P (set views id (with_next_count v) ++ view_of_next v ∷ [])
  each_split views id v P left right others j u e live = ⊎_elim
      (λ (a : get_elem? (set views id (with_next_count v)) j ≡ some u). ⊎_elim
      (λ (t : (j ≡ id) × (with_next_count v ≡ u)). subst (λ (z : ℕ × View I B). P z.0 z.1) (λ k. (sym t.0 k, t.1 k)) left)
      (λ (t : (j ≢ id) × (get_elem? views j ≡ some u)). others j u t.0 t.1 live)
      (at_set views id j (with_next_count v) u a))
      (λ (b : (j ≡ length (set views id (with_next_count v))) × (view_of_next v ≡ u)). subst (λ (z : ℕ × View I B). P z.0 z.1) (λ k. (sym (b.0 ∙ length-set views id (with_next_count v)) k, b.1 k)) right)
      (at_end (set views id (with_next_count v)) (view_of_next v) u j e)

  apart_next : (v u : View I B) (count : ℕ) → number_or_0 v.count ≡ count → IsBelow count u → AreApart u (view_of_next v) × AreApart (view_of_next v) u
  apart_next v u count is below = let lt = below.0 in (
    record {
      numbers = λ e. omega (arith, lt, e, is);
      tickets = λ ticket p q. q;
      olds = λ old h e. let far = below.1 old h in omega (arith, far, e, is);
      counts = λ m n e f. None-Some n f;
    },
    record {
      numbers = λ e. omega (arith, lt, e, is);
      tickets = λ ticket p q. p;
      olds = λ old h e. no_item old h;
      counts = λ m n e f. None-Some m e;
    },
  )

  apart_from_count : (v u : View I B) (count : ℕ) → v.count ≡ Some count → AreApart v u → AreApart (with_next_count v) u
  apart_from_count v u count is a = record { numbers = a.numbers; tickets = a.tickets; olds = a.olds; counts = λ m n e f. a.counts count n is f }

  apart_to_count : (v u : View I B) (count : ℕ) → v.count ≡ Some count → AreApart u v → AreApart u (with_next_count v)
  apart_to_count v u count is a = record { numbers = a.numbers; tickets = a.tickets; olds = a.olds; counts = λ m n e f. a.counts m count e is }

no_count : {I B : Type 0} (owner : I → ℕ) (history : History I B) (views : List (View I B)) (count : Option ℕ) → ((n : ℕ) → count ≡ Some n → ⊥) → IsCount owner history views count
no_count owner history views None not = tt
no_count owner history views (Some n) not = absurd (not n refl)

module _ {V I B : Type 0} (log_of : V → List I) (base_of : V → B) (owner : I → ℕ) where
  pub splits : (id : ℕ) (v : View I B) (count : ℕ) → v.spent ≡ false → v.count ≡ Some count → count < v.known.parties → Splits (IsRuled log_of base_of owner) id v (with_next_count v) (view_of_next v)
  splits id v count live counts few s r at =
      let l = r.live id v at live in let kn = l.known in let left : View I B = with_next_count v in let right : View I B = view_of_next v in
      let views : List (View I B) = set s.views id left ++ right ∷ [] in
      let own = subst (IsCount owner r.history s.views) counts (r.counts id v at live) in
      let number : number_or_0 v.count ≡ count = ap number_or_0 counts in
      let many : length views ≡ length s.views + 1 = let a = length-append (set s.views id left) (right ∷ []) in let b = length-set s.views id left in omega (arith, a, b) in
      let below : number_or_0 v.count < r.history.parties = let p = kn.parties in omega (arith, number, few, p) in
      let no_items = own.2 (number_or_0 v.count) (let z : number_or_0 v.count ≡ count = number in omega (arith, z)) in
      let no_toggles = own.3 (number_or_0 v.count) (let z : number_or_0 v.count ≡ count = number in omega (arith, z)) in
      let others = λ (j : ℕ) (u : View I B) (ne : j ≢ id) (e : get_elem? s.views j ≡ some u) (lu : u.spent ≡ false). r.apart id v at live j u e lu (λ h. ne (sym h)) in
      record {
        history = r.history;
        tickets = r.tickets;
        few = r.few;
        room = let a = own.0 in let p = kn.parties in omega (arith, many, a, few, p);
        words = record {
          four = r.words.four;
          ticket = r.words.ticket;
          serving = r.words.serving;
          count = r.words.count;
          active = r.words.active ∙ sym (sum_by-end active_of (set s.views id left) right refl ∙ active_same s.views id v left at refl);
          toggled = r.words.toggled;
        };
        drawn = let a = sum_by-end ticket_of (set s.views id left) right refl in let h = sum_by-replaced ticket_of s.views id v left at in let t = r.drawn in omega (arith, a, h, t);
        home = r.home;
        holder = λ seat e. let h = holder_same s.views id v left seat at refl live (r.holder seat e) in (h.0, h.1, at_longer (set s.views id left) (right ∷ []) seat h.0 h.2, h.3, h.4);
        live = each_split s.views id v (λ j u. IsLive owner r.history r.tickets j u)
            record { known = kn; olds = l.olds; stage = l.stage; active = l.active }
            record {
              known = record {
                parties = kn.parties;
                base = kn.base;
                opened = kn.opened;
                number = below;
                past_opening = kn.past_opening;
                items = seen_none owner (number_or_0 v.count) (length r.history.opened) r.history.log v.known.seen (prefix_length r.history.opened v.known.seen kn.past_opening) kn.items.front no_items;
                toggles = seen_none party_of (number_or_0 v.count) 0 r.history.toggles v.known.toggles (omega arith) kn.toggles.front no_toggles;
              };
              olds = λ old h. absurd (no_item old h);
              stage = tt;
              active = sym (fold_none (number_or_0 v.count) r.history.toggles false no_toggles);
            }
            (λ j u ne e lu. r.live j u e lu);
        counts = each_split s.views id v (λ _ u. IsCount owner r.history views u.count) (
          let a = own.0 in omega (arith, many, a, number),
          each_split s.views id v (λ _ u. IsBelow (number_or_0 v.count + 1) u)
              (let h = own.1 id v at live in (let a = h.0 in omega (arith, a, number), λ old c. let b = h.1 old c in omega (arith, b, number)))
              (omega arith, λ old c. absurd (no_item old c))
              (λ j u ne e lu. let h = own.1 j u e lu in (let a = h.0 in omega (arith, a, number), λ old c. let b = h.1 old c in omega (arith, b, number))),
          λ party far. own.2 party (omega (arith, far, number)),
          λ party far. own.3 party (omega (arith, far, number)),
        )
            tt
            (λ j u ne e lu. no_count owner r.history views u.count (λ n f. (others j u ne e lu).counts count n counts f));
        apart = each_split s.views id v (λ i x. EachLive (λ j u. i ≢ j → AreApart x u) views)
            (each_split s.views id v (λ j u. id ≢ j → AreApart left u)
            (λ (not : id ≢ id). absurd (not refl))
            (λ _. apart_from_count v right count counts (apart_next v v count number (own.1 id v at live)).0)
            (λ j u ne e lu _. apart_from_count v u count counts (others j u ne e lu)))
            (each_split s.views id v (λ j u. length s.views ≢ j → AreApart right u)
            (λ _. apart_to_count v right count counts (apart_next v v count number (own.1 id v at live)).1)
            (λ (not : length s.views ≢ length s.views). absurd (not refl))
            (λ j u ne e lu _. (apart_next v u count number (own.1 j u e lu)).1))
            (λ i x other at_x lx. each_split s.views id v (λ j u. i ≢ j → AreApart x u)
            (λ ne. apart_to_count v x count counts (r.apart i x at_x lx id v at live ne))
            (λ _. (apart_next v x count number (own.1 i x at_x lx)).0)
            (λ j u _ e lu ne. r.apart i x at_x lx j u e lu ne));
      }
