-- A seat looks whether its ticket is served, and takes the slot out.
use Rattle.std.proofs.Common.{◌≡◌, ◌≢◌, ℕ, ◌+◌, ◌%◌, ◌^◌, ◌<◌, ◌≤◌, false, Option, Some, None, List, [], ◌∷◌, length, set, slice_index, sym, refl, ap, ◌∙◌, subst, inl, inr, arith, length-set, get_or-set_other, get_or-set_same}
use Rattle.std.proofs.lemmas.List.{set-get_or}
use mathlib.Core.Option.{some, none, some-injective}
use mathlib.Core.Option as maybe
use mathlib.Core.Logic.{dite}
use native.Mathlib.Decide.{ℕ_discrete}
use lib.ListN.{get_elem?}
use Rattle.atomic_table.specs.Table.{State, Me, step, keeps, takes, Allows, Valid, stepped, carried_after}
use Rattle.atomic_table.proofs.Lists.{set_here, set_again, one_turn}
use Rattle.com_turn.specs.declared.view.Stage.{Stage}
use Rattle.com_turn.specs.declared.view.Stage.TheVariants.{Idle, Waiting, Holding}
use Rattle.com_turn.specs.declared.view.View.{View}
use Rattle.com_turn.specs.Histories.{HasSeen}
use Rattle.com_turn.specs.Views.{HasTicket, tickets_out, ticket_of, served}
use Rattle.com_turn.specs.Rule.{Tickets, IsHome, IsStage, IsRuled}
use Rattle.com_turn.specs.Steps.{Serves, Looks}
use Rattle.com_turn.proofs.Lists.{within, sum_by-few, Some-injective}
use Rattle.com_turn.proofs.Fronts.{prefix_trans, seen_all}
use Rattle.com_turn.proofs.Changes.{changed, active_same, has_ticket, stage_else}

waiting-Holding : (k n : ℕ) (stage : Stage) → stage ≡ Waiting k → stage ≡ Holding n → ⊥
waiting-Holding k n stage a b = clash (sym a ∙ b)
  where
    clash : Waiting k ≡ Holding n → ⊥
    clash e = cc

one_ticket : (stage : Stage) (k n : ℕ) → stage ≡ Waiting k → stage ≡ Waiting n → k ≡ n
one_ticket stage k n a b = let e : Waiting k ≡ Waiting n = sym a ∙ b in cc

pub one_at_most : (stage : Stage) → tickets_out stage ≤ 1
one_at_most Idle = omega arith
one_at_most (Waiting n) = omega arith
one_at_most (Holding n) = omega arith

module _ {V I B : Type 0} (log_of : V → List I) (base_of : V → B) (owner : I → ℕ) where
  -- a ticket that is out and is the word SERVING is the one that is served, since fewer than 2^64 are out
  served_ticket : (s : State (Option V) (View I B)) (r : IsRuled log_of base_of owner s) (k : ℕ) → r.tickets.serving ≤ k → k < r.tickets.next → slice_index s.words 1 ≡ k % 2 ^ 64 → r.tickets.serving ≡ k
  served_ticket s r k low high e =
      let few = sum_by-few ticket_of (λ (view : View I B). one_at_most view.stage) s.views in let room = r.room in let bound = r.few in let t = r.drawn in
      one_turn r.tickets.serving k (2 ^ 64) low (omega (arith, few, room, bound, t)) (sym r.words.serving ∙ e)

  -- while a seat waits with the ticket that is served, no seat is at its turn
  nobody : (s : State (Option V) (View I B)) (r : IsRuled log_of base_of owner s) (id : ℕ) (v : View I B) (k : ℕ) → get_elem? s.views id ≡ some v → v.spent ≡ false → v.stage ≡ Waiting k → r.tickets.serving ≡ k
      → (holder : Option ℕ) → r.tickets.holder ≡ holder → r.tickets.holder ≡ None
  nobody s r id v k at live st is None e = e
  nobody s r id v k at live st is (Some j) e =
      let h = r.holder j e in let u : View I B = h.0 in let n : ℕ = h.1 in
      let stage = subst (IsStage r.history r.tickets j u) h.3 (r.live j u h.2 h.4).stage in
      let ne : id ≢ j = λ same. waiting-Holding k n v.stage st (ap (λ (z : View I B). z.stage) (some-injective v u (sym at ∙ (ap (get_elem? s.views) same ∙ h.2))) ∙ h.3) in
      absurd ((r.apart id v at live j u h.2 h.4 ne).tickets k (has_ticket v.stage k (inl st)) (subst (HasTicket u.stage) (stage.0 ∙ is) (has_ticket u.stage n (inr h.3))))

  abbrev CanLook : (slots id : ℕ) (me : Me (Option V) (View I B)) → State (Option V) (View I B) → Type 0
  CanLook slots id me s = (w : View I B) × (act : _) × Valid s.homes me.1 act × IsRuled log_of base_of owner (stepped s 1 (slice_index s.words 1) id me.1 w act)
      × Looks log_of base_of owner (step slots 1 0 0 none) me (slice_index s.words 1) (w, carried_after me.1 act)

  -- the slot is at home with the value, and comes out
  serves : (slots id : ℕ) (me : Me (Option V) (View I B)) (k : ℕ) (s : State (Option V) (View I B)) (r : IsRuled log_of base_of owner s) (value : V)
      → me.0.stage ≡ Waiting k → me.0.spent ≡ false → get_elem? s.views id ≡ some me.0 → slice_index s.words 1 ≡ k % 2 ^ 64 → r.tickets.serving ≡ k → k < r.tickets.next → me.0.olds ≡ []
      → s.homes ≡ some (Some value) ∷ [] → log_of value ≡ r.history.log → base_of value ≡ r.history.base → CanLook slots id me s
  serves slots id me k s r value st live at hit is below bare home log base =
      let v : View I B = me.0 in let w : View I B = served k (log_of value) r.history.toggles v in
      let l = r.live id v at live in let kn = l.known in let tickets : Tickets = record r.tickets { holder = Some id } in let n : ℕ = slice_index s.words 1 in
      let items : HasSeen owner v.known.number (length v.known.opened) (log_of value) v.known.seen =
      subst (λ (z : List I × List I). HasSeen owner v.known.number (length z.0) z.1 v.known.seen) (λ i. (sym kn.opened i, sym log i)) kn.items in
      let unlike = λ (j : ℕ) (u : View I B) (ne : j ≢ id) (e : get_elem? s.views j ≡ some u) (lu : u.spent ≡ false). (r.apart id v at live j u e lu (λ h. ne (sym h))).tickets k (has_ticket v.stage k (inl st)) in
      let told : Serves log_of base_of owner me k (w, (0, Some value) ∷ me.1) = (
        value,
        record { after_is = refl; base = kn.base ∙ ap Some (sym base); items = items; toggles = kn.toggles; active = sym l.active },
        refl,
      ) in (
        w,
        takes 0 (Some value),
        subst (λ z. get_elem? z 0 ≡ some (some (Some value))) (sym home) refl,
        changed log_of base_of owner s r id v w r.history.log r.history.toggles tickets (set s.words 1 n) (set s.homes 0 none) record {
          at = at;
          live = live;
          stays = record { number = refl; olds = refl; count = refl; live = live };
          items_stay = λ _ _. refl;
          toggles_stay = λ _ _. refl;
          words_are = record {
            four = length-set s.words 1 n ∙ r.words.four;
            ticket = get_or-set_other s.words 1 0 n 0 (λ e. omega arith) ∙ r.words.ticket;
            serving = get_or-set_same s.words 1 n 0 (omega (arith, r.words.four)) ∙ r.words.serving;
            count = r.words.count ∙ ap (λ (z : ℕ). length r.history.opened + z) (sym (get_or-set_other s.words 1 2 n 0 (λ e. omega arith)));
            active = get_or-set_other s.words 1 3 n 0 (λ e. omega arith) ∙ (r.words.active ∙ sym (active_same s.views id v w at refl));
            toggled = get_or-set_other s.words 1 3 n 0 (λ e. omega arith) ∙ r.words.toggled;
          };
          drawn = let h : ticket_of v ≡ 1 = ap tickets_out st in let t = r.drawn in omega (arith, h, t);
          home = ap (λ (z : List (maybe.Option (Option V))). set z 0 none) home;
          holder = λ seat e. (w, k, subst (λ z. get_elem? (set s.views id w) z ≡ some w) (Some-injective id seat e) (set_here s.views id w (within s.views id v at)), refl, live);
          here = record {
            known = record {
              parties = kn.parties;
              base = kn.base;
              opened = kn.opened;
              number = kn.number;
              past_opening = prefix_trans r.history.opened v.known.seen (log_of value) kn.past_opening items.front;
              items = seen_all owner v.known.number (length r.history.opened) r.history.log (log_of value) log;
              toggles = seen_all _ v.known.number 0 r.history.toggles r.history.toggles refl;
            };
            olds = l.olds;
            stage = (sym is, below, bare, refl, log, refl);
            active = l.active;
          };
          others = λ j u ne e lu. let m = r.live j u e lu in (
            record {
              known = m.known;
              olds = m.olds;
              stage = stage_else r.history r.history r.tickets tickets j u u.stage refl (omega arith) m.stage (λ has. unlike j u ne e lu (subst (HasTicket u.stage) is has));
              active = m.active;
            },
            λ ticket a b. unlike j u ne e lu (subst (HasTicket u.stage) (sym a) b),
          );
        },
        λ n own. let same = one_ticket v.stage k n st own in (
          (λ _. subst (λ z. Serves log_of base_of owner me z (w, (0, Some value) ∷ me.1)) same told),
          (λ miss. absurd (miss (hit ∙ ap (λ z. z % 2 ^ 64) same))),
        ),
      )

  -- another ticket is served, and nothing changes
  misses : (slots id : ℕ) (me : Me (Option V) (View I B)) (k : ℕ) (s : State (Option V) (View I B)) (r : IsRuled log_of base_of owner s)
      → me.0.stage ≡ Waiting k → get_elem? s.views id ≡ some me.0 → slice_index s.words 1 ≢ k % 2 ^ 64 → CanLook slots id me s
  misses slots id me k s r st at miss = (
    me.0,
    keeps,
    tt,
    subst (λ (z : List ℕ × List (View I B)). IsRuled log_of base_of owner record { words = z.0; homes = s.homes; views = z.1 }) (λ i. (sym (set-get_or s.words 1 0) i, sym (set_again s.views id me.0 at) i)) r,
    λ n own. ((λ hit. absurd (miss (hit ∙ ap (λ z. z % 2 ^ 64) (sym (one_ticket me.0.stage k n st own))))), (λ _. refl)),
  )

  pub looks : (slots id : ℕ) (me : Me (Option V) (View I B)) (k : ℕ) → me.0.stage ≡ Waiting k → me.0.spent ≡ false
      → Allows (IsRuled log_of base_of owner) slots id me 1 (λ n. n) (Looks log_of base_of owner (step slots 1 0 0 none) me)
  looks slots id me k st live s r wide at _ = dite (ℕ_discrete (slice_index s.words 1) (k % 2 ^ 64))
      (λ hit.
      let stage = subst (IsStage r.history r.tickets id me.0) st (r.live id me.0 at live).stage in
      let is = served_ticket s r k stage.0 stage.1 hit in
      let free = nobody s r id me.0 k at live st is r.tickets.holder refl in
      let home = subst (λ z. IsHome log_of base_of r.history.log r.history.base z s.homes) free r.home in
      serves slots id me k s r home.0 st live at hit is stage.1 stage.2 home.1 home.2 home.3)
      (λ miss. misses slots id me k s r st at miss)
