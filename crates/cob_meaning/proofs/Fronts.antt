-- What the entries of a unit tell, their fronts tell too.
use Rattle.std.proofs.Common.{◌≡◌, ◌⊎◌, inl, inr, ℕ, true, false, true≢false, List, [], ◌∷◌, ◌++◌, length, Option, refl, sym, ap, subst, ◌∙◌, append_assoc, arith, length-append}
use Rattle.std.proofs.lemmas.Bool.{and_from, and_parts}
use Rattle.std.proofs.lemmas.List.{append-nil, append_cancel_left}
use Rattle.std.proofs.lemmas.List.Folds.{list_all-append}
use Rattle.com_events.specs.declared.call.Call.{Call}
use Rattle.com_events.specs.declared.call.Call.TheVariants as calls
use Rattle.com_events.specs.declared.call.Party.{Party}
use Rattle.com_events.specs.declared.call.StopReason.{StopReason}
use Rattle.com_events.specs.declared.call.StopReason.TheVariants as reason
use Rattle.com_events.specs.declared.entry.Entry.{Entry}
use Rattle.cob_meaning.specs.Follows.{AreVerbs, AsksAgain, ComesAfter, IsRunning, Makes, SoFar, StopsByItself, StopsWaiting, WaitsAtLast, calls_of, is_receive, is_verb, is_waiting, replies_of, started, stopped, waits}
use Rattle.cob_meaning.specs.Laws.{GoesOn, GoesOnFrom}
use Rattle.cob_meaning.specs.Meaning.{Ending, Stopped, Wants, Meaning, Program, meaning, unit_limits}
use Rattle.cob_meaning.proofs.NeverIdle.{NotIdle, never_idle}
use Rattle.cob_meaning.proofs.Replies.{calls-append, fronts_make, goes_on_within, replies-append}

-- where one list is cut, when it is also two others
cut : {A : Type 0} (front rest xs ys : List A) → front ++ rest ≡ xs ++ ys
    → ((more : List A) × (xs ≡ front ++ more) × (rest ≡ more ++ ys)) ⊎ ((more : List A) × (front ≡ xs ++ more) × (ys ≡ more ++ rest))
cut [] rest xs ys e = inl (xs, refl, e)
cut (a ∷ front) rest [] ys e = inr (a ∷ front, refl, sym e)
cut (a ∷ front) rest (x ∷ xs) ys e = by (cut front rest xs ys (tails e))
  where
    tails : a ∷ (front ++ rest) ≡ x ∷ (xs ++ ys) → front ++ rest ≡ xs ++ ys
    tails h = cc

    heads : a ∷ (front ++ rest) ≡ x ∷ (xs ++ ys) → a ≡ x
    heads h = cc

    by : ((more : List _) × (xs ≡ front ++ more) × (rest ≡ more ++ ys)) ⊎ ((more : List _) × (front ≡ xs ++ more) × (ys ≡ more ++ rest))
        → ((more : List _) × (x ∷ xs ≡ a ∷ front ++ more) × (rest ≡ more ++ ys)) ⊎ ((more : List _) × (a ∷ front ≡ x ∷ xs ++ more) × (ys ≡ more ++ rest))
    by (inl h) = inl (h.0, ap (λ l. x ∷ l) h.1 ∙ ap (λ b. b ∷ (front ++ h.0)) (sym (heads e)), h.2)
    by (inr h) = inr (h.0, ap (λ l. a ∷ l) h.1 ∙ ap (λ b. b ∷ (xs ++ h.0)) (heads e), h.2)

asks_behind : (entry : Entry) (entries : List Entry) → AsksAgain (entry ∷ entries) → AsksAgain entries
asks_behind entry [] h = tt
asks_behind entry (next ∷ entries) h = h.1

asks_there : (before : List Entry) (entry next : Entry) (entries : List Entry) → AsksAgain (before ++ entry ∷ next ∷ entries) → is_waiting entry.reply ≡ true → ComesAfter entry next
asks_there [] entry next entries h = h.0
asks_there (b ∷ before) entry next entries h = asks_there before entry next entries (asks_behind b (before ++ entry ∷ next ∷ entries) h)

verbs_apart : (front more : List Entry) → AreVerbs (front ++ more) → AreVerbs front × AreVerbs more
verbs_apart front more h = and_parts _ _ (sym (list_all-append (λ (entry : Entry). is_verb entry.call) front more) ∙ h)

first_verb : (entry : Entry) (more : List Entry) → AreVerbs (entry ∷ more) → is_verb entry.call ≡ true
first_verb entry more h = (and_parts _ _ h).0

same_next : (a : List Call) (x y : Call) (b c : List Call) → a ++ x ∷ b ≡ a ++ y ∷ c → x ≡ y
same_next a x y b c e = heads (append_cancel_left a _ _ e)
  where
    heads : x ∷ b ≡ y ∷ c → x ≡ y
    heads h = cc

no_stop : (call : Call) (r : StopReason) → is_verb call ≡ true → calls.Stop r ≡ call → ⊥
no_stop call r verb e = true≢false (sym verb ∙ ap is_verb (sym e))

receive_is_verb : (call : Call) → is_receive call ≡ true → is_verb call ≡ true
receive_is_verb (calls.Receive area kind size no_data) e = refl
receive_is_verb (calls.Count _) e = refl
receive_is_verb (calls.Send _ _ _) e = refl
receive_is_verb (calls.SwitchInput _ _ _ _) e = refl
receive_is_verb (calls.SwitchOutput _ _ _) e = refl
receive_is_verb calls.Start e = e
receive_is_verb (calls.Arrive _ _) e = e
receive_is_verb calls.Held e = e
receive_is_verb (calls.Stop _) e = e
receive_is_verb (calls.Finish _) e = e

module _ (party : Party) (program : Program) (names : Option (List ℕ)) where
  abbrev does : List Entry → Meaning
  does entries = meaning program names (replies_of entries)

  -- the calls of an answered verb and of those behind it
  answered_calls : (next : Entry) (more : List Entry) → is_waiting next.reply ≡ false → calls_of (next ∷ more) ≡ next.call ∷ calls_of more
  answered_calls next more h = rw h refl

  answered_replies : (next : Entry) (more : List Entry) → is_waiting next.reply ≡ false → replies_of (next ∷ more) ≡ next.reply ∷ replies_of more
  answered_replies next more h = rw h refl

  -- what is wanted is what comes next
  wants_next : (here there : Meaning) (a : List Call) (x : Call) (b : List Call) → GoesOn here there → here.calls ≡ a → there.calls ≡ a ++ x ∷ b → here.ending ≡ Wants x
  wants_next here there a x b h c d = by here.ending refl h
    where
      by : (ending : Ending) → here.ending ≡ ending → GoesOnFrom ending here there → here.ending ≡ Wants x
      by (Stopped reason) e g =
          let l = ap length (sym (ap (λ m. m.calls) g ∙ c) ∙ d) in
          let never : ⊥ = omega (arith, l, length-append a (x ∷ b)) in absurd never
      by (Wants call) e g =
          let same = sym g.1 ∙ d in
          let line : here.calls ++ call ∷ g.0 ≡ a ++ x ∷ b = sym (append_assoc here.calls (call ∷ []) g.0) ∙ same in
          e ∙ ap Wants (same_next a call x g.0 b (ap (λ l. l ++ call ∷ g.0) (sym c) ∙ line))

  front_calls : (front more : List Entry) → (does (front ++ more)).calls ≡ calls_of (front ++ more) → (does front).calls ≡ calls_of front
  front_calls front more h = fronts_make program names front more h

  -- before an answered verb its call is wanted
  wanted_before : (front : List Entry) (next : Entry) (more : List Entry) → (does (front ++ next ∷ more)).calls ≡ calls_of (front ++ next ∷ more) → is_waiting next.reply ≡ false → (does front).ending ≡ Wants next.call
  wanted_before front next more h answered =
      let there = ap (λ l. replies_of front ++ l) (answered_replies next more answered) in
      let on = goes_on_within unit_limits program names (replies_of front) (replies_of more) next.reply in
      let whole = sym (ap (λ r. (meaning program names r).calls) (replies-append front (next ∷ more) ∙ there)) ∙ h ∙ calls-append front (next ∷ more) ∙ ap (λ l. calls_of front ++ l) (answered_calls next more answered) in
      wants_next (does front) _ (calls_of front) next.call (calls_of more) on (front_calls front (next ∷ more) h) whole

  -- a front of the verbs, with the entry behind it
  runs_before : (front : List Entry) (next : Entry) (more : List Entry) → AreVerbs (front ++ next ∷ more) → AsksAgain (front ++ next ∷ more)
      → (does (front ++ next ∷ more)).calls ≡ calls_of (front ++ next ∷ more) → IsRunning party program (started party names ∷ front)
  runs_before front next more verbs again h = record {
    names = names;
    verbs = front;
    entries_are = refl;
    are_verbs = (verbs_apart front (next ∷ more) verbs).0;
    calls = front_calls front (next ∷ more) h;
    waiting = λ call last. waiting call last.0 last.1;
  }
    where
      waiting : (call : Call) (before : List Entry) → front ≡ before ++ waits party call ∷ [] → (does front).ending ≡ Wants call
      waiting call before e =
          let line : front ++ next ∷ more ≡ before ++ waits party call ∷ next ∷ more = ap (λ l. l ++ next ∷ more) e ∙ append_assoc before (waits party call ∷ []) (next ∷ more) in
          by (asks_there before (waits party call) next more (subst AsksAgain line again) refl)
        where
          by : ComesAfter (waits party call) next → (does front).ending ≡ Wants call
          by (inl same) = wanted_before front next more h same.1 ∙ ap Wants same.0
          by (inr stop) = absurd (no_stop next.call reason.Idle (first_verb next more (verbs_apart front (next ∷ more) verbs).1) (sym stop))

  -- all verbs, of which a last one that waits has another entry behind it
  runs_whole : (verbs : List Entry) → AreVerbs verbs → (does verbs).calls ≡ calls_of verbs → ((call : Call) → WaitsAtLast party verbs call → (does verbs).ending ≡ Wants call)
      → IsRunning party program (started party names ∷ verbs)
  runs_whole verbs are h w = record { names = names; verbs = verbs; entries_are = refl; are_verbs = are; calls = h; waiting = w }

  last_is_verb : (verbs before : List Entry) (call : Call) → AreVerbs verbs → verbs ≡ before ++ waits party call ∷ [] → is_verb call ≡ true
  last_is_verb verbs before call are e = first_verb (waits party call) [] (verbs_apart before (waits party call ∷ []) (subst AreVerbs e are)).1

  -- what comes behind the last verb
  behind_last : (verbs before : List Entry) (call : Call) (next : Entry) (more : List Entry) → verbs ≡ before ++ waits party call ∷ [] → AsksAgain (verbs ++ next ∷ more) → ComesAfter (waits party call) next
  behind_last verbs before call next more e again =
      let line : verbs ++ next ∷ more ≡ before ++ waits party call ∷ next ∷ more = ap (λ l. l ++ next ∷ more) e ∙ append_assoc before (waits party call ∷ []) (next ∷ more) in
      asks_there before (waits party call) next more (subst AsksAgain line again) refl

last_entry : (xs ys : List Entry) (a b : Entry) → xs ++ a ∷ [] ≡ ys ++ b ∷ [] → a ≡ b
last_entry [] [] a b h = cc
last_entry [] (y ∷ ys) a b h = let never : ⊥ = omega (arith, ap length h, length-append ys (b ∷ [])) in absurd never
last_entry (x ∷ xs) [] a b h = let never : ⊥ = omega (arith, ap length h, length-append xs (a ∷ [])) in absurd never
last_entry (x ∷ xs) (y ∷ ys) a b h = last_entry xs ys a b (tails h)
  where
    tails : x ∷ (xs ++ a ∷ []) ≡ y ∷ (ys ++ b ∷ []) → xs ++ a ∷ [] ≡ ys ++ b ∷ []
    tails h = cc

-- a RECEIVE that waits, and the STOP of a unit for which nothing can happen any more
abbrev last_two : Party → Call → List Entry
last_two party call = waits party call ∷ stopped party reason.Idle ∷ []

asks_front : (front more : List Entry) → AsksAgain (front ++ more) → AsksAgain front
asks_front [] more h = tt
asks_front (a ∷ []) more h = tt
asks_front (a ∷ b ∷ front) more h = (h.0, asks_front (b ∷ front) more h.1)

module _ (party : Party) (program : Program) (names : Option (List ℕ)) (verbs : List Entry) (are : AreVerbs verbs) (again : AsksAgain verbs)
    (made : (does party program names verbs).calls ≡ calls_of verbs)
    (waiting : (call : Call) → WaitsAtLast party verbs call → (does party program names verbs).ending ≡ Wants call) where
  -- a front of the verbs
  front_of_verbs : (front more : List Entry) → verbs ≡ front ++ more → SoFar party program (started party names ∷ front)
  front_of_verbs front [] e =
      subst (λ l. SoFar party program (started party names ∷ l)) (e ∙ append-nil front) (inr (inr (runs_whole party program names verbs are made waiting)))
  front_of_verbs front (next ∷ more) e =
      inr (inr (runs_before party program names front next more (subst AreVerbs e are) (subst AsksAgain e again)
      (subst (λ l. (does party program names l).calls ≡ calls_of l) e made)))

module _ (party : Party) (program : Program) (names : Option (List ℕ)) (verbs : List Entry) (are : AreVerbs verbs) where
  stops_front : (r : StopReason) → Makes program names verbs (Stopped r) → AsksAgain (verbs ++ stopped party r ∷ [])
      → (front rest : List Entry) → front ++ rest ≡ verbs ++ stopped party r ∷ [] → SoFar party program (started party names ∷ front)
  stops_front r makes again front rest e = by (cut front rest verbs (stopped party r ∷ []) e)
    where
      never : (call : Call) (before : List Entry) → verbs ≡ before ++ waits party call ∷ [] → ⊥
      never call before same = stop (behind_last party program names verbs before call (stopped party r) [] same again)
        where
          same_reason : calls.Stop r ≡ calls.Stop reason.Idle → r ≡ reason.Idle
          same_reason h = cc

          stop : ComesAfter (waits party call) (stopped party r) → ⊥
          stop (inl h) = no_stop call r (last_is_verb party program names verbs before call are same) h.0
          stop (inr h) = subst NotIdle (makes.comes_to ∙ ap Stopped (same_reason h)) (never_idle unit_limits program names (replies_of verbs))

      inside : (front more : List Entry) → verbs ≡ front ++ more → SoFar party program (started party names ∷ front)
      inside = front_of_verbs party program names verbs are (asks_front verbs (stopped party r ∷ []) again) makes.calls (λ call last. absurd (never call last.0 last.1))

      outside : (more rest : List Entry) → front ≡ verbs ++ more → stopped party r ∷ [] ≡ more ++ rest → SoFar party program (started party names ∷ front)
      outside [] rest f g = inside front [] (sym (append-nil verbs) ∙ sym f ∙ sym (append-nil front))
      outside (m ∷ []) rest f g =
          let whole : front ≡ verbs ++ stopped party r ∷ [] = f ∙ ap (λ x. verbs ++ x ∷ []) (sym (first m [] rest g)) in
          inr (inl (inl (record { names = names; verbs = verbs; reason = r; entries_are = ap (λ l. started party names ∷ l) whole; are_verbs = are; makes = makes })))
        where
          first : (m : Entry) (ms rest : List Entry) → stopped party r ∷ [] ≡ m ∷ (ms ++ rest) → stopped party r ≡ m
          first m ms rest h = cc
      outside (m ∷ n ∷ ms) rest f g = let never : ⊥ = omega (arith, ap length g) in absurd never

      by : ((more : List Entry) × (verbs ≡ front ++ more) × (rest ≡ more ++ stopped party r ∷ [])) ⊎ ((more : List Entry) × (front ≡ verbs ++ more) × (stopped party r ∷ [] ≡ more ++ rest))
          → SoFar party program (started party names ∷ front)
      by (inl h) = inside front h.0 h.1
      by (inr h) = outside h.0 rest h.1 h.2

  waits_front : (call : Call) → is_receive call ≡ true → Makes program names verbs (Wants call) → AsksAgain (verbs ++ last_two party call)
      → (front rest : List Entry) → front ++ rest ≡ verbs ++ last_two party call → SoFar party program (started party names ∷ front)
  waits_front call receives makes again front rest e = by (cut front rest verbs (last_two party call) e)
    where
      never : (other : Call) (before : List Entry) → verbs ≡ before ++ waits party other ∷ [] → ⊥
      never other before same = stop (behind_last party program names verbs before other (waits party call) (stopped party reason.Idle ∷ []) same again)
        where
          stop : ComesAfter (waits party other) (waits party call) → ⊥
          stop (inl h) = true≢false h.1
          stop (inr h) = no_stop call reason.Idle (receive_is_verb call receives) (sym h)

      inside : (front more : List Entry) → verbs ≡ front ++ more → SoFar party program (started party names ∷ front)
      inside = front_of_verbs party program names verbs are (asks_front verbs (last_two party call) again) makes.calls (λ other last. absurd (never other last.0 last.1))

      outside : (more rest : List Entry) → front ≡ verbs ++ more → last_two party call ≡ more ++ rest → SoFar party program (started party names ∷ front)
      outside [] rest f g = inside front [] (sym (append-nil verbs) ∙ sym f ∙ sym (append-nil front))
      outside (m ∷ []) rest f g = subst (λ l. SoFar party program (started party names ∷ l)) (sym whole) (inr (inr waiting))
        where
          first : last_two party call ≡ m ∷ rest → waits party call ≡ m
          first h = cc

          whole : front ≡ verbs ++ waits party call ∷ []
          whole = f ∙ ap (λ x. verbs ++ x ∷ []) (sym (first g))

          same_replies : replies_of (verbs ++ waits party call ∷ []) ≡ replies_of verbs
          same_replies = replies-append verbs (waits party call ∷ []) ∙ append-nil (replies_of verbs)

          same_calls : calls_of (verbs ++ waits party call ∷ []) ≡ calls_of verbs
          same_calls = calls-append verbs (waits party call ∷ []) ∙ append-nil (calls_of verbs)

          same_end : (other : Call) (before : List Entry) → verbs ++ waits party call ∷ [] ≡ before ++ waits party other ∷ [] → call ≡ other
          same_end other before h = last_call (last_entry verbs before _ _ h)
            where
              last_call : waits party call ≡ waits party other → call ≡ other
              last_call h = ap (λ (entry : Entry). entry.call) h

          waiting : IsRunning party program (started party names ∷ verbs ++ waits party call ∷ [])
          waiting = record {
            names = names;
            verbs = verbs ++ waits party call ∷ [];
            entries_are = refl;
            are_verbs = list_all-append (λ (entry : Entry). is_verb entry.call) verbs (waits party call ∷ []) ∙ and_from _ _ are (and_from _ _ (receive_is_verb call receives) refl);
            calls = ap (λ r. (meaning program names r).calls) same_replies ∙ makes.calls ∙ sym same_calls;
            waiting = λ other last. ap (λ r. (meaning program names r).ending) same_replies ∙ makes.comes_to ∙ ap Wants (same_end other last.0 last.1);
          }
      outside (m ∷ n ∷ []) rest f g =
          inr (inl (inr (inl (record { names = names; verbs = verbs; call = call; entries_are = ap (λ l. started party names ∷ l) (f ∙ ap (λ l. verbs ++ l) (both g)); are_verbs = are; receives = receives; makes = makes }))))
        where
          both : last_two party call ≡ m ∷ n ∷ rest → m ∷ n ∷ [] ≡ last_two party call
          both h = cc
      outside (m ∷ n ∷ o ∷ ms) rest f g = let never : ⊥ = omega (arith, ap length g) in absurd never

      by : ((more : List Entry) × (verbs ≡ front ++ more) × (rest ≡ more ++ last_two party call)) ⊎ ((more : List Entry) × (front ≡ verbs ++ more) × (last_two party call ≡ more ++ rest))
          → SoFar party program (started party names ∷ front)
      by (inl h) = inside front h.0 h.1
      by (inr h) = outside h.0 rest h.1 h.2

-- the entries behind START, where these entries are
same_rest : (a b : Entry) (xs ys zs : List Entry) → zs ≡ a ∷ xs → zs ≡ b ∷ ys → (a ≡ b) × (xs ≡ ys)
same_rest a b xs ys zs e f = (heads (sym e ∙ f), tails (sym e ∙ f))
  where
    heads : a ∷ xs ≡ b ∷ ys → a ≡ b
    heads h = cc

    tails : a ∷ xs ≡ b ∷ ys → xs ≡ ys
    tails h = cc

module _ (party : Party) (program : Program) where
  abbrev Told : Entry → List Entry → Type 0
  Told entry front = SoFar party program (entry ∷ front)

  by_itself : (entry : Entry) (front rest : List Entry) → AsksAgain (entry ∷ front ++ rest) → StopsByItself party program (entry ∷ front ++ rest) → Told entry front
  by_itself entry front rest again s =
      let e = same_rest entry (started party s.names) (front ++ rest) (s.verbs ++ stopped party s.reason ∷ []) _ refl s.entries_are in
      subst (λ x. Told x front) (sym e.0)
      (stops_front party program s.names s.verbs s.are_verbs s.reason s.makes (asks_behind (started party s.names) _ (subst AsksAgain s.entries_are again)) front rest e.1)

  by_waiting : (entry : Entry) (front rest : List Entry) → AsksAgain (entry ∷ front ++ rest) → StopsWaiting party program (entry ∷ front ++ rest) → Told entry front
  by_waiting entry front rest again s =
      let e = same_rest entry (started party s.names) (front ++ rest) (s.verbs ++ last_two party s.call) _ refl s.entries_are in
      subst (λ x. Told x front) (sym e.0)
      (waits_front party program s.names s.verbs s.are_verbs s.call s.receives s.makes (asks_behind (started party s.names) _ (subst AsksAgain s.entries_are again)) front rest e.1)

  not_started : (entry : Entry) (front rest : List Entry) → entry ∷ front ++ rest ≡ stopped party reason.Idle ∷ [] → Told entry front
  not_started entry [] rest e = inr (inl (inr (inr (ap (λ x. x ∷ []) (same_rest entry (stopped party reason.Idle) rest [] _ refl e).0))))
  not_started entry (a ∷ front) rest e = let never : ⊥ = omega (arith, ap length e) in absurd never

  by_running : (entry : Entry) (front rest : List Entry) → AsksAgain (entry ∷ front ++ rest) → IsRunning party program (entry ∷ front ++ rest) → Told entry front
  by_running entry front rest again s =
      let e = same_rest entry (started party s.names) (front ++ rest) s.verbs _ refl s.entries_are in
      subst (λ x. Told x front) (sym e.0)
      (front_of_verbs party program s.names s.verbs s.are_verbs (asks_behind (started party s.names) _ (subst AsksAgain s.entries_are again)) s.calls s.waiting front rest (sym e.1))

  nothing : (entry : Entry) (front rest : List Entry) → entry ∷ front ++ rest ≡ [] → Told entry front
  nothing entry front rest e = let never : ⊥ = omega (arith, ap length e) in absurd never

  pub fronts_so_far : (front rest : List Entry) → AsksAgain (front ++ rest) → SoFar party program (front ++ rest) → SoFar party program front
  fronts_so_far [] rest again h = inl refl
  fronts_so_far (entry ∷ front) rest again (inl e) = nothing entry front rest e
  fronts_so_far (entry ∷ front) rest again (inr (inl (inl s))) = by_itself entry front rest again s
  fronts_so_far (entry ∷ front) rest again (inr (inl (inr (inl s)))) = by_waiting entry front rest again s
  fronts_so_far (entry ∷ front) rest again (inr (inl (inr (inr e)))) = not_started entry front rest e
  fronts_so_far (entry ∷ front) rest again (inr (inr s)) = by_running entry front rest again s
