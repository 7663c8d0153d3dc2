-- The prefixes of legal histories, and what calls make.
use Rattle.std.proofs.Common.{◌≡◌, List, [], ◌∷◌, ◌++◌, Some, refl, sym, ap, subst, ◌∙◌}
use Rattle.std.specs.Prelude.{map, option_map}
use Rattle.std.proofs.lemmas.Option.{option_and_then_some, same_Some}
use Rattle.com_net.specs.declared.net.Net.{Net}
use Rattle.com_events.specs.declared.call.Party.{Party}
use Rattle.com_events.specs.declared.call.Call.{Call}
use Rattle.com_events.specs.declared.reply.Reply.{Reply}
use Rattle.com_events.specs.declared.entry.Entry.{Entry}
use Rattle.com_state.specs.State.{State, opening}
use Rattle.com_state.specs.Steps.{step}
use Rattle.com_state.specs.Histories.{LeadsTo, Legal, run_from, entry_before, call_made, state_after}
use Rattle.com_state.proofs.Runs.{run_of_leads, option_map_some}

-- a history leads on from where its front leads
pub leads_split : (S : State) (before after : List Entry) (last : State) → LeadsTo S (before ++ after) last → (mid : State) × LeadsTo S before mid × LeadsTo mid after last
leads_split S [] after last h = (S, refl, h)
leads_split S (entry ∷ before) after last h =
    let rest = leads_split h.0 before after last h.2 in
    (rest.0, (h.0, h.1, rest.1), rest.2)

-- the beginning of a legal history is legal
pub front_is_legal : (net : Net) (before after : List Entry) → Legal net (before ++ after) → Legal net before
front_is_legal net before after legal =
    let split = leads_split (opening net) before after legal.0 legal.1 in
    (split.0, split.1)

-- one more step makes a history longer by its entry
pub leads_more : (first : State) (history : List Entry) (S next : State) (entry : Entry) → LeadsTo first history S → step S entry.party entry.call ≡ Some (entry.reply, next) → LeadsTo first (history ++ entry ∷ []) next
leads_more first [] S next entry h stepped = (next, rw h at stepped, refl)
leads_more first (e ∷ history) S next entry h stepped = (h.0, h.1, leads_more h.0 history S next entry h.2 stepped)

-- what a history leaves is what its calls leave
pub state_left : (net : Net) (history : List Entry) (last : State) → LeadsTo (opening net) history last → state_after net history ≡ Some last
state_left net history last h = ap (option_map (λ r. r.1)) (run_of_leads (opening net) history last h)

pub left_by : (net : Net) (history : List Entry) (last : State) → Legal net history → state_after net history ≡ Some last → LeadsTo (opening net) history last
left_by net history last legal after =
    subst (LeadsTo (opening net) history) (same_Some legal.0 last (sym (state_left net history legal.0 legal.1) ∙ after)) legal.1

-- a step is determined
pub one_answer : (S next another : State) (who : Party) (call : Call) (reply other : Reply) → step S who call ≡ Some (reply, next) → step S who call ≡ Some (other, another)
    → (reply ≡ other) × (next ≡ another)
one_answer S next another who call reply other h k =
    let same : (reply, next) ≡ (other, another) = same_Some (reply, next) (other, another) (sym h ∙ k) in
    (ap (λ (p : Reply × State). p.0) same, ap (λ (p : Reply × State). p.1) same)

-- the entries that calls make are of these calls, and lead to the state that they leave
pub run_makes : (S : State) (calls : List (Party × Call)) (history : List Entry) (last : State) → run_from S calls ≡ Some (history, last) → (map call_made history ≡ calls) × LeadsTo S history last
run_makes S [] history last h =
    let same = same_Some ([], S) (history, last) h in
    subst (λ (r : List Entry × State). (map call_made r.0 ≡ []) × LeadsTo S r.0 r.1) same (refl, refl)
run_makes S (made ∷ calls) history last h =
    option_and_then_some (λ next. option_map (entry_before made next.0) (run_from next.1 calls)) (step S made.0 made.1) (history, last) h
    (λ next stepped mapped.
    option_map_some (entry_before made next.0) (run_from next.1 calls) (history, last) mapped
    (λ r ran same.
    let behind = run_makes next.1 calls r.0 r.1 ran in
    subst (λ (r : List Entry × State). (map call_made r.0 ≡ made ∷ calls) × LeadsTo S r.0 r.1) same
    (ap (λ rest. made ∷ rest) behind.0, (next.1, stepped, behind.1))))
