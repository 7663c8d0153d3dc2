-- A unit's entries with one entry more.
use Rattle.std.proofs.Common.{◌≡◌, ℕ, ◌≤◌, Bool, true, false, not, List, [], ◌∷◌, ◌++◌, length, map, Option, refl, sym, ap, ◌∙◌, subst, inl, inr, arith, append_assoc, append-nil, length-append, ◌&&◌, true≢false}
use Rattle.std.specs.List.{list_all}
use Rattle.std.proofs.lemmas.List.{map-append}
use Rattle.std.proofs.lemmas.List.Elements.{filter-append}
use Rattle.std.proofs.lemmas.List.Folds.{list_all-append}
use Rattle.com_events.specs.declared.call.Call.{Call}
use Rattle.com_events.specs.declared.call.Party.{Party}
use Rattle.com_events.specs.declared.call.StopReason.{StopReason}
use Rattle.com_events.specs.declared.call.StopReason.TheVariants as reason
use Rattle.com_events.specs.declared.entry.Entry.{Entry}
use Rattle.com_events.specs.declared.reply.Reply.{Reply}
use Rattle.cob_meaning.specs.Meaning.{Ending, Meaning, Stopped, Wants, Program, meaning}
use Rattle.cob_meaning.specs.Follows.{AreVerbs, Follows, SoFar, answers_of, calls_of, replies_of, is_receive, is_verb, is_waiting, started, stopped, waits}
use Rattle.com_events.specs.Fronts.{IsPrefixOf}
use Rattle.cob_meaning.specs.Laws.{GoesOn, GoesOnFrom, Takes, TakesFrom}
use Rattle.cob_frames.specs.Entries.{AreOwnEntries, answered_entry}

-- the answers of entries and more entries
answers_more : (verbs more : List Entry)
    → answers_of (verbs ++ more) ≡ answers_of verbs ++ answers_of more
answers_more verbs more = filter-append (λ entry. not (is_waiting entry.reply)) verbs more

-- their replies
replies_more : (verbs more : List Entry)
    → replies_of (verbs ++ more) ≡ replies_of verbs ++ replies_of more
replies_more verbs more =
    ap (map (λ (entry : Entry). entry.reply)) (answers_more verbs more)
    ∙ map-append (λ (entry : Entry). entry.reply) (answers_of verbs) (answers_of more)

-- their calls
calls_more : (verbs more : List Entry) → calls_of (verbs ++ more) ≡ calls_of verbs ++ calls_of more
calls_more verbs more =
    ap (map (λ (entry : Entry). entry.call)) (answers_more verbs more)
    ∙ map-append (λ (entry : Entry). entry.call) (answers_of verbs) (answers_of more)

-- verbs and one verb more
verbs_more : (verbs : List Entry) (entry : Entry) → AreVerbs verbs → is_verb entry.call ≡ true
    → AreVerbs (verbs ++ entry ∷ [])
verbs_more verbs entry are is =
    list_all-append (λ e. is_verb e.call) verbs (entry ∷ [])
    ∙ ap (λ b. b && list_all (λ e. is_verb e.call) (entry ∷ [])) are ∙ ap (λ b. b && true) is

-- the reply of one answer
one_reply : (entry : Entry) → is_waiting entry.reply ≡ false
    → replies_of (entry ∷ []) ≡ entry.reply ∷ []
one_reply entry h = rw h refl

-- the call of one answer
one_call : (entry : Entry) → is_waiting entry.reply ≡ false
    → calls_of (entry ∷ []) ≡ entry.call ∷ []
one_call entry h = rw h refl

-- equal lists have one last element
last_one : {A : Type 0} (xs ys : List A) (x y : A) → xs ++ x ∷ [] ≡ ys ++ y ∷ [] → x ≡ y
last_one [] [] x y h = cc
last_one [] (z ∷ ys) x y h =
    let never : length (x ∷ []) ≡ length (z ∷ ys ++ y ∷ []) = ap length h in
    let no : ⊥ = omega (arith, never, length-append ys (y ∷ [])) in absurd no
last_one (z ∷ xs) [] x y h =
    let never : length (z ∷ xs ++ x ∷ []) ≡ length (y ∷ []) = ap length h in
    let no : ⊥ = omega (arith, never, length-append xs (x ∷ [])) in absurd no
last_one (z ∷ xs) (w ∷ ys) x y h =
    let same : xs ++ x ∷ [] ≡ ys ++ y ∷ [] = cc in last_one xs ys x y same

module _ (party : Party) (program : Program) (names : Option (List ℕ)) where
  -- own entries are so far those of the program
  pub own_so_far : (replies : List Reply) (entries : List Entry)
      → AreOwnEntries party program names replies entries → SoFar party program entries
  own_so_far replies entries o =
      inr (inr (record {
        names = names;
        verbs = o.verbs;
        entries_are = o.entries_are;
        are_verbs = o.are_verbs;
        calls = ap (λ rs. (meaning program names rs).calls) o.replies_are ∙ o.calls;
        waiting = λ call w.
            ap (λ rs. (meaning program names rs).ending) o.replies_are ∙ o.waiting call w;
      }))

  -- START
  pub starts : (meaning program names []).calls ≡ []
      → AreOwnEntries party program names [] (started party names ∷ [])
  starts none = record {
    verbs = [];
    entries_are = refl;
    are_verbs = refl;
    replies_are = refl;
    calls = none;
    waiting = λ call w.
        let never : length {A = Entry} [] ≡ length (w.0 ++ waits party call ∷ []) = ap length w.1 in
        let no : ⊥ = omega (arith, never, length-append w.0 (waits party call ∷ [])) in absurd no;
  }

  module _ (replies : List Reply) (entries : List Entry)
      (o : AreOwnEntries party program names replies entries) where
    -- an entry that waits adds no reply
    same_answers : (call : Call)
        → replies_of (o.verbs ++ waits party call ∷ []) ≡ replies_of o.verbs
    same_answers call =
        replies_more o.verbs (waits party call ∷ []) ∙ append-nil (replies_of o.verbs)

    -- and no call
    same_calls : (call : Call) → calls_of (o.verbs ++ waits party call ∷ []) ≡ calls_of o.verbs
    same_calls call = calls_more o.verbs (waits party call ∷ []) ∙ append-nil (calls_of o.verbs)

    -- a verb waits
    pub waits_on : (call : Call) → is_verb call ≡ true
        → (meaning program names replies).ending ≡ Wants call
        → AreOwnEntries party program names replies (entries ++ waits party call ∷ [])
    waits_on call is wanted = record {
      verbs = o.verbs ++ waits party call ∷ [];
      entries_are = ap (λ es. es ++ waits party call ∷ []) o.entries_are;
      are_verbs = verbs_more o.verbs (waits party call) o.are_verbs is;
      replies_are = same_answers call ∙ o.replies_are;
      calls = o.calls ∙ sym (same_calls call);
      waiting = λ other w.
          let same : waits party call ≡ waits party other = last_one o.verbs w.0 _ _ w.1 in
          wanted ∙ ap (λ (e : Entry). Wants e.call) same;
    }

    -- a verb is answered
    pub answers : (call : Call) (reply : Reply) → is_verb call ≡ true → is_waiting reply ≡ false
        → (meaning program names (replies ++ reply ∷ [])).calls
        ≡ (meaning program names replies).calls ++ call ∷ []
        → AreOwnEntries party program names (replies ++ reply ∷ [])
        (entries ++ answered_entry party call reply ∷ [])
    answers call reply is answer grown =
        let entry = answered_entry party call reply in
        record {
          verbs = o.verbs ++ entry ∷ [];
          entries_are = ap (λ es. es ++ entry ∷ []) o.entries_are;
          are_verbs = verbs_more o.verbs entry o.are_verbs is;
          replies_are = replies_more o.verbs (entry ∷ [])
              ∙ ap (λ rs. replies_of o.verbs ++ rs) (one_reply entry answer)
              ∙ ap (λ rs. rs ++ reply ∷ []) o.replies_are;
          calls = grown ∙ ap (λ cs. cs ++ call ∷ []) o.calls
              ∙ ap (λ cs. calls_of o.verbs ++ cs) (sym (one_call entry answer))
              ∙ sym (calls_more o.verbs (entry ∷ []));
          waiting = λ other w.
              let same : entry ≡ waits party other = last_one o.verbs w.0 _ _ w.1 in
              let never : false ≡ true =
              sym answer ∙ ap (λ (e : Entry). is_waiting e.reply) same in
              absurd (true≢false (sym never));
        }

    -- STOP with the program's reason
    pub stops : (why : StopReason) → (meaning program names replies).ending ≡ Stopped why
        → Follows party program (entries ++ stopped party why ∷ [])
    stops why comes =
        inl (record {
          names = names;
          verbs = o.verbs;
          reason = why;
          entries_are = ap (λ es. es ++ stopped party why ∷ []) o.entries_are;
          are_verbs = o.are_verbs;
          makes = record {
            calls = ap (λ rs. (meaning program names rs).calls) o.replies_are ∙ o.calls;
            comes_to = ap (λ rs. (meaning program names rs).ending) o.replies_are ∙ comes;
          };
        })

    -- STOP IDLE after a RECEIVE that waits
    pub stops_idle : (before : List Entry) (call : Call) → is_receive call ≡ true
        → entries ≡ started party names ∷ before ++ waits party call ∷ []
        → Follows party program (entries ++ stopped party reason.Idle ∷ [])
    stops_idle before call is at =
        let waiting = waits party call ∷ [] in
        let verbs_are : o.verbs ≡ before ++ waiting = tails (sym o.entries_are ∙ at) in
        let rs : replies_of before ≡ replies =
        sym (append-nil (replies_of before)) ∙ sym (replies_more before waiting)
        ∙ ap replies_of (sym verbs_are) ∙ o.replies_are in
        inr (inl (record {
          names = names;
          verbs = before;
          call = call;
          entries_are = ap (λ es. es ++ stopped party reason.Idle ∷ []) at
              ∙ ap (λ es. started party names ∷ es)
              (append_assoc before waiting (stopped party reason.Idle ∷ []));
          are_verbs = prefix
              (ap (list_all (λ (e : Entry). is_verb e.call)) (sym verbs_are) ∙ o.are_verbs);
          receives = is;
          makes = record {
            calls = ap (λ r. (meaning program names r).calls) rs ∙ o.calls ∙ ap calls_of verbs_are
                ∙ calls_more before waiting ∙ append-nil (calls_of before);
            comes_to = ap (λ r. (meaning program names r).ending) rs
                ∙ o.waiting call (before, verbs_are);
          };
        }))
      where
        tails : {x : Entry} {xs ys : List Entry} → x ∷ xs ≡ x ∷ ys → xs ≡ ys
        tails h = cc

        prefix : AreVerbs (before ++ waits party call ∷ []) → AreVerbs before
        prefix h =
            by (list_all (λ (e : Entry). is_verb e.call) before)
            (sym (list_all-append (λ (e : Entry). is_verb e.call) before (waits party call ∷ []))
            ∙ h)
          where
            by : (b : Bool)
                → (b && list_all (λ (e : Entry). is_verb e.call) (waits party call ∷ [])) ≡ true
                → b ≡ true
            by true g = refl
            by false g = g

-- one reply more brings the call that was wanted, and no other
pub grown_by : (here there : Meaning) (call : Call) (replies : List Reply) (reply : Reply)
    → here.ending ≡ Wants call → GoesOn here there → Takes here replies
    → Takes there (replies ++ reply ∷ []) → there.calls ≡ here.calls ++ call ∷ []
grown_by here there call replies reply w g t u =
    let called = here.calls ++ call ∷ [] in
    let prefix : IsPrefixOf called there.calls = subst (λ e. GoesOnFrom e here there) w g in
    let taken : length here.calls ≡ length replies = subst (λ e. TakesFrom e here replies) w t in
    let most : length there.calls ≤ length (replies ++ reply ∷ []) = at_most there.ending u in
    let none_left : prefix.0 ≡ [] =
    empty prefix.0
    (omega (
      arith,
      ap length prefix.1,
      length-append called prefix.0,
      length-append here.calls (call ∷ []),
      length-append replies (reply ∷ []),
      taken,
      most,
    )) in
    prefix.1 ∙ ap (λ l. called ++ l) none_left ∙ append-nil called
  where
    at_most : (e : Ending) → TakesFrom e there (replies ++ reply ∷ [])
        → length there.calls ≤ length (replies ++ reply ∷ [])
    at_most (Stopped why) h = h
    at_most (Wants other) h = omega (arith, h)

    empty : (xs : List Call) → length xs ≤ 0 → xs ≡ []
    empty [] h = refl
    empty (x ∷ xs) h = let no : ⊥ = omega (arith, h) in absurd no

-- no call is answered without a reply
pub no_calls : (here : Meaning) → Takes here [] → here.calls ≡ []
no_calls here t = empty here.calls (at_most here.ending t)
  where
    at_most : (e : Ending) → TakesFrom e here [] → length here.calls ≤ 0
    at_most (Stopped why) h = h
    at_most (Wants other) h = omega (arith, h)

    empty : (xs : List Call) → length xs ≤ 0 → xs ≡ []
    empty [] h = refl
    empty (x ∷ xs) h = let no : ⊥ = omega (arith, h) in absurd no
