-- What more replies change of a program's meaning.
use Rattle.std.proofs.Common.{◌≡◌, ℕ, ◌+◌, ◌-◌, ◌≤◌, List, [], ◌∷◌, ◌++◌, length, map, Option, refl, sym, ap, ◌∙◌, append_assoc, arith, length-append}
use Rattle.std.proofs.Math.Seq.{take-append_seam}
use Rattle.std.proofs.Math.ListN.{take}
use Rattle.std.proofs.lemmas.List.{append-nil, map-append, length-map}
use Rattle.std.proofs.lemmas.List.Elements.{filter-append}
use Rattle.std.specs.Prelude.{not}
use Rattle.com_events.specs.declared.call.Call.{Call}
use Rattle.com_events.specs.declared.reply.Reply.{Reply}
use Rattle.com_events.specs.declared.entry.Entry.{Entry}
use Rattle.cob_meaning.specs.Meaning.{Run, Outcome, Normal, Jump, Stops, Needs, Ending, Stopped, Wants, Limits, Program, Meaning, beginning, meaning_of, meaning_within, meaning, unit_limits}
use Rattle.com_events.specs.Fronts.{IsPrefixOf}
use Rattle.cob_meaning.specs.Laws.{GoesOn, GoesOnFrom, Takes, TakesFrom}
use Rattle.cob_meaning.specs.Follows.{answers_of, calls_of, is_waiting, replies_of}
use Rattle.cob_meaning.proofs.Steady.{end_of, Grown, IsSpent, Further, range_steady}

same_calls : (o : Outcome) → (meaning_of o).calls ≡ (end_of o).calls
same_calls (Normal run) = refl
same_calls (Jump to run) = refl
same_calls (Stops reason run) = refl
same_calls (Needs call run) = refl

goes_on : (reply : Reply) (rest : List Reply) (o p : Outcome) → Further reply rest o p → GoesOn (meaning_of o) (meaning_of p)
goes_on reply rest (Normal run) p h = ap meaning_of h
goes_on reply rest (Jump to run) p h = ap meaning_of h
goes_on reply rest (Stops reason run) p h = ap meaning_of h
goes_on reply rest (Needs call run) p h = (h.0, same_calls p ∙ h.1)

-- as many calls as replies were taken
taken : (run : Run) (o : Outcome) → run.calls ≡ [] → Grown run o → length (end_of o).calls + length (end_of o).replies ≡ length run.replies
taken run o none h =
    let l = ap length (h.calls ∙ ap (λ calls. calls ++ h.new) none) in
    let k = h.count in omega arith

takes : (run : Run) (o : Outcome) → run.calls ≡ [] → Grown run o → IsSpent o → Takes (meaning_of o) run.replies
takes run (Normal t) none h spent = let k = taken run (Normal t) none h in omega arith
takes run (Jump to t) none h spent = let k = taken run (Jump to t) none h in omega arith
takes run (Stops reason t) none h spent = let k = taken run (Stops reason t) none h in omega arith
takes run (Needs call t) none h spent = let k = taken run (Needs call t) none h in omega (arith, ap length spent)

few : (run : Run) (o : Outcome) → run.calls ≡ [] → Grown run o → length (meaning_of o).calls ≤ run.verbs
few run o none h =
    let l = ap length (same_calls o ∙ h.calls ∙ ap (λ calls. calls ++ h.new) none) in
    let k = h.verbs in omega arith

module _ (limits : Limits) (program : Program) (names : Option (List ℕ)) where
  starts : List Reply → Run
  starts replies = beginning limits program.layout names replies

  pub goes_on_within : (replies rest : List Reply) (reply : Reply) → GoesOn (meaning_within limits program names replies) (meaning_within limits program names (replies ++ reply ∷ rest))
  goes_on_within replies rest reply =
      let h = range_steady reply rest (limits.statements + 1) program.layout program.text 0 (length program.text - 1) in
      let run : Run = beginning limits program.layout names replies in
      goes_on reply rest _ _ (h.further run)

  pub takes_within : (reply : Reply) (replies : List Reply) → Takes (meaning_within limits program names replies) replies
  takes_within reply replies =
      let h = range_steady reply [] (limits.statements + 1) program.layout program.text 0 (length program.text - 1) in
      let run : Run = beginning limits program.layout names replies in
      takes run _ refl (h.grows run) (h.spent run)

  pub few_within : (reply : Reply) (replies : List Reply) → length (meaning_within limits program names replies).calls ≤ limits.verbs
  few_within reply replies =
      let h = range_steady reply [] (limits.statements + 1) program.layout program.text 0 (length program.text - 1) in
      let run : Run = beginning limits program.layout names replies in
      few run _ refl (h.grows run)

prefix_of : (here there : Meaning) → GoesOn here there → IsPrefixOf here.calls there.calls
prefix_of here there h = by here.ending h
  where
    by : (ending : Ending) → GoesOnFrom ending here there → IsPrefixOf here.calls there.calls
    by (Stopped reason) e = ([], ap (λ m. m.calls) e ∙ sym (append-nil here.calls))
    by (Wants call) e = (call ∷ e.0, e.1 ∙ append_assoc here.calls (call ∷ []) e.0)

pub calls_stay : (program : Program) (names : Option (List ℕ)) (replies more : List Reply) → IsPrefixOf (meaning program names replies).calls (meaning program names (replies ++ more)).calls
calls_stay program names replies [] = ([], ap (λ r. (meaning program names r).calls) (append-nil replies) ∙ sym (append-nil (meaning program names replies).calls))
calls_stay program names replies (reply ∷ rest) = prefix_of _ _ (goes_on_within unit_limits program names replies rest reply)

same_front : (a b x y : List Call) → a ++ b ≡ x ++ y → length a ≡ length x → a ≡ x
same_front a b x y e n = sym (take-append_seam a b) ∙ ap (λ l. take (length a) l) e ∙ ap (λ k. take k (x ++ y)) n ∙ take-append_seam x y

-- as many calls as there are replies, if so many more come with more replies
front_calls : (here there : Meaning) (replies : List Reply) (a b : List Call)
    → GoesOn here there → Takes here replies → there.calls ≡ a ++ b → length a ≡ length replies → 1 ≤ length b → here.calls ≡ a
front_calls here there replies a b h t c n some = by here.ending h t
  where
    by : (ending : Ending) → GoesOnFrom ending here there → TakesFrom ending here replies → here.calls ≡ a
    by (Stopped reason) e k =
        let l = ap length (ap (λ m. m.calls) e) in
        let never : ⊥ = omega (arith, ap length c, length-append a b) in absurd never
    by (Wants call) e k = same_front here.calls (call ∷ e.0) a b (sym (append_assoc here.calls (call ∷ []) e.0) ∙ sym e.1 ∙ c) (k ∙ sym n)

answers-append : (verbs more : List Entry) → answers_of (verbs ++ more) ≡ answers_of verbs ++ answers_of more
answers-append verbs more = filter-append (λ (entry : Entry). not (is_waiting entry.reply)) verbs more

pub calls-append : (verbs more : List Entry) → calls_of (verbs ++ more) ≡ calls_of verbs ++ calls_of more
calls-append verbs more = ap (λ l. map (λ (entry : Entry). entry.call) l) (answers-append verbs more) ∙ map-append (λ (entry : Entry). entry.call) (answers_of verbs) (answers_of more)

pub replies-append : (verbs more : List Entry) → replies_of (verbs ++ more) ≡ replies_of verbs ++ replies_of more
replies-append verbs more = ap (λ l. map (λ (entry : Entry). entry.reply) l) (answers-append verbs more) ∙ map-append (λ (entry : Entry). entry.reply) (answers_of verbs) (answers_of more)

pub as_many : (entries : List Entry) → length (calls_of entries) ≡ length (replies_of entries)
as_many entries = length-map (answers_of entries) (λ (entry : Entry). entry.call) ∙ sym (length-map (answers_of entries) (λ (entry : Entry). entry.reply))

pub fronts_make : (program : Program) (names : Option (List ℕ)) (verbs more : List Entry) → (meaning program names (replies_of (verbs ++ more))).calls ≡ calls_of (verbs ++ more)
    → (meaning program names (replies_of verbs)).calls ≡ calls_of verbs
fronts_make program names verbs more h = by (replies_of more) (calls_of more) (as_many more) (sym (ap (λ r. (meaning program names r).calls) (replies-append verbs more)) ∙ h ∙ calls-append verbs more)
  where
    by : (m : List Reply) (b : List Call) → length b ≡ length m → (meaning program names (replies_of verbs ++ m)).calls ≡ calls_of verbs ++ b → (meaning program names (replies_of verbs)).calls ≡ calls_of verbs
    by [] b n e = sym (ap (λ r. (meaning program names r).calls) (append-nil (replies_of verbs))) ∙ e ∙ ap (λ l. calls_of verbs ++ l) (no_calls b n) ∙ append-nil (calls_of verbs)
      where
        no_calls : (b : List Call) → length b ≡ 0 → b ≡ []
        no_calls [] n = refl
        no_calls (c ∷ cs) n = let never : ⊥ = omega (arith, n) in absurd never
    by (r ∷ rs) b n e =
        front_calls _ _ (replies_of verbs) (calls_of verbs) b (goes_on_within unit_limits program names (replies_of verbs) rs r) (takes_within unit_limits program names r (replies_of verbs)) e (as_many verbs) (omega (arith, n))
