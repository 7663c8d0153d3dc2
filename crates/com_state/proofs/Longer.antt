-- A run with more calls at its end.
use Rattle.std.proofs.Common.{◌≡◌, List, [], ◌∷◌, ◌++◌, Some, None, Option, refl, sym, ap, subst, ◌∙◌, inl, inr}
use Rattle.std.specs.Prelude.{option_map, option_and_then}
use Rattle.std.proofs.lemmas.Option.{option_and_then_some, same_Some, none-some}
use Rattle.com_events.specs.declared.call.Party.{Party}
use Rattle.com_events.specs.declared.call.Call.{Call}
use Rattle.com_events.specs.declared.reply.Reply.{Reply}
use Rattle.com_events.specs.declared.entry.Entry.{Entry}
use Rattle.com_state.specs.State.{State}
use Rattle.com_state.specs.Steps.{step}
use Rattle.com_state.specs.Histories.{run_from, entry_before}
use Rattle.com_state.proofs.Frames.{option_cases}
use Rattle.com_state.proofs.Runs.{option_map_some}

-- the history with the entry of a call after it, and the state after
abbrev with_step : Party × Call → List Entry → Reply × State → List Entry × State
with_step made history next = (history ++ record { party = made.0; call = made.1; reply = next.0 } ∷ [], next.1)

first_step : (made : Party × Call) (o : Option (Reply × State)) → option_and_then (λ (next : Reply × State). option_map (entry_before made next.0) (Some ([], next.1))) o ≡ option_map (with_step made []) o
first_step made None = refl
first_step made (Some next) = refl

step_behind : (first : Party × Call) (reply : Reply) (made : Party × Call) (r : List Entry × State) (o : Option (Reply × State)) → option_map (entry_before first reply) (option_map (with_step made r.0) o) ≡ option_map (with_step made (entry_before first reply r).0) o
step_behind first reply made r None = refl
step_behind first reply made r (Some next) = refl

-- one call more is one step more
pub run_longer : (S : State) (calls : List (Party × Call)) (made : Party × Call) (history : List Entry) (last : State) → run_from S calls ≡ Some (history, last)
    → run_from S (calls ++ made ∷ []) ≡ option_map (with_step made history) (step last made.0 made.1)
run_longer S [] made history last ran =
    subst (λ (r : List Entry × State). run_from S (made ∷ []) ≡ option_map (with_step made r.0) (step r.1 made.0 made.1)) (same_Some ([], S) (history, last) ran) (first_step made (step S made.0 made.1))
run_longer S (first ∷ calls) made history last ran =
    option_and_then_some (λ next. option_map (entry_before first next.0) (run_from next.1 calls)) (step S first.0 first.1) (history, last) ran
    (λ next stepped mapped.
    option_map_some (entry_before first next.0) (run_from next.1 calls) (history, last) mapped
    (λ r behind same.
    subst (λ (r : List Entry × State). run_from S (first ∷ (calls ++ made ∷ [])) ≡ option_map (with_step made r.0) (step r.1 made.0 made.1)) same
    (ap (option_and_then (λ (n : Reply × State). option_map (entry_before first n.0) (run_from n.1 (calls ++ made ∷ [])))) stepped
    ∙ (ap (option_map (entry_before first next.0)) (run_longer next.1 calls made r.0 r.1 behind)
    ∙ step_behind first next.0 made r (step r.1 made.0 made.1)))))

nothing_mapped : {A B : Type 0} (f : A → B) (o : Option A) → option_map f o ≡ None → o ≡ None
nothing_mapped f None e = refl
nothing_mapped f (Some x) e = absurd (none-some (f x) (sym e))

-- calls have no run where those at their front have none
pub no_run_longer : (S : State) (front behind : List (Party × Call)) → run_from S front ≡ None → run_from S (front ++ behind) ≡ None
no_run_longer S [] behind none = absurd (none-some ([], S) (sym none))
no_run_longer S (first ∷ front) behind none = elim (option_cases (step S first.0 first.1)) [
  | inl nothing ↦ ap (option_and_then (λ (n : Reply × State). option_map (entry_before first n.0) (run_from n.1 (front ++ behind)))) nothing
  | inr some ↦
      let next = some.0 in
      let mapped = sym (ap (option_and_then (λ (n : Reply × State). option_map (entry_before first n.0) (run_from n.1 front))) some.1) ∙ none in
      ap (option_and_then (λ (n : Reply × State). option_map (entry_before first n.0) (run_from n.1 (front ++ behind)))) some.1
      ∙ ap (option_map (entry_before first next.0)) (no_run_longer next.1 front behind (nothing_mapped (entry_before first next.0) (run_from next.1 front) mapped))
]
