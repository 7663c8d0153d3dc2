-- The run of some calls and the legal histories are the same.
use Rattle.std.proofs.Common.{◌≡◌, ℕ, zero, suc, List, [], ◌∷◌, ◌++◌, drop, Some, None, refl, sym, ap, ◌∙◌}
use Rattle.std.specs.Prelude.{Option, map, option_map, option_and_then, unwrap_or}
use Rattle.std.specs.List.{flat_map}
use Rattle.com_msg.specs.Rendering.{rendered_message}
use Rattle.com_send.specs.Outgoing.{Outgoing, transmitted_to}
use Rattle.std.proofs.lemmas.Option.{option_and_then_some, same_Some, none-some}
use Rattle.com_net.specs.declared.net.Net.{Net}
use Rattle.com_events.specs.declared.reply.Reply.{Reply}
use Rattle.com_events.specs.declared.entry.Entry.{Entry}
use Rattle.com_state.specs.State.{State, opening}
use Rattle.com_state.specs.Steps.{step}
use Rattle.com_state.specs.Histories.{LeadsTo, Legal, IsRun, run, run_from, entry_before, call_made, state_after}
use Rattle.com_state.specs.Transcripts.{sent_in, sent_by, sent_to, transcript_of}

-- what is mapped to something is something
pub option_map_some : {A B P : Type 0} (f : A → B) (o : Option A) (y : B) → option_map f o ≡ Some y → ((x : A) → o ≡ Some x → f x ≡ y → P) → P
option_map_some f None y e k = absurd (none-some y e)
option_map_some f (Some x) y e k = k x refl (same_Some (f x) y e)

abbrev first_reply : Reply → List Entry → Reply
first_reply reply [] = reply
first_reply reply (entry ∷ entries) = entry.reply

abbrev behind : List Entry × State → List Entry × State
behind r = (drop 1 r.0, r.1)

pub leads_of_run : (S : State) (history : List Entry) (last : State) → run_from S (map call_made history) ≡ Some (history, last) → LeadsTo S history last
leads_of_run S [] last e = ap (λ r. r.1) (sym (same_Some _ _ e))
leads_of_run S (entry ∷ entries) last e =
    option_and_then_some (λ next. option_map (entry_before (call_made entry) next.0) (run_from next.1 (map call_made entries))) (step S entry.party entry.call) (entry ∷ entries, last) e
    (λ next stepped mapped.
    option_map_some (entry_before (call_made entry) next.0) (run_from next.1 (map call_made entries)) (entry ∷ entries, last) mapped
    (λ r ran same. (
      next.1,
      stepped ∙ ap (λ reply. Some (reply, next.1)) (ap (λ q. first_reply entry.reply q.0) same),
      leads_of_run next.1 entries last (ran ∙ ap (λ q. Some (behind q)) same),
    )))

pub run_of_leads : (S : State) (history : List Entry) (last : State) → LeadsTo S history last → run_from S (map call_made history) ≡ Some (history, last)
run_of_leads S [] last e = ap (λ s. Some ([], s)) (sym e)
run_of_leads S (entry ∷ entries) last e =
    ap (option_and_then (λ next. option_map (entry_before (call_made entry) next.0) (run_from next.1 (map call_made entries)))) e.1
    ∙ ap (option_map (entry_before (call_made entry) entry.reply)) (run_of_leads e.0 entries last e.2)

pub legal_of_shown : (net : Net) (history : List Entry) → IsRun net history → Legal net history
legal_of_shown net history e =
    option_map_some (λ r. r.0) (run net (map call_made history)) history e
    (λ r ran same. (r.1, leads_of_run (opening net) history r.1 (ran ∙ ap (λ h. Some (h, r.1)) same)))

pub shown_of_legal : (net : Net) (history : List Entry) → Legal net history → IsRun net history
shown_of_legal net history e = ap (option_map (λ r. r.0)) (run_of_leads (opening net) history e.0 e.1)

-- what a history transmits is what has been transmitted in the state that it leads to
pub sent_of_leads : (net : Net) (history : List Entry) (last : State) → LeadsTo (opening net) history last → sent_by net history ≡ sent_in last.outgoing
sent_of_leads net history last h = rw (run_of_leads (opening net) history last h, sent_by) refl

append_none : {X : Type 0} (xs ys : List X) → xs ++ ys ≡ [] → (xs ≡ []) × (ys ≡ [])
append_none {X} [] ys e = (refl, e)
append_none {X} (x ∷ xs) ys e = cc

-- where nothing is transmitted to any terminal, nothing is to one of them
none_of : (outgoing : Outgoing) (terminal : ℕ) → sent_in outgoing ≡ [] → unwrap_or (transmitted_to outgoing terminal) [] ≡ []
none_of [] terminal silent = refl
none_of (destination ∷ outgoing) zero silent = (append_none destination.sent (sent_in outgoing) silent).0
none_of (destination ∷ outgoing) (suc terminal) silent = none_of outgoing terminal (append_none destination.sent (sent_in outgoing) silent).1

-- a history that transmits nothing has an empty transcript for each terminal
pub transcript_silent : (net : Net) (history : List Entry) (terminal : ℕ) → sent_by net history ≡ [] → transcript_of net history terminal ≡ []
transcript_silent net history terminal silent = from (state_after net history) silent
  where
    from : (o : Option State) → unwrap_or (option_map (λ S. sent_in S.outgoing) o) [] ≡ [] → flat_map rendered_message (unwrap_or (option_and_then (λ S. sent_to S terminal) o) []) ≡ []
    from None e = refl
    from (Some S) e = ap (flat_map rendered_message) (none_of S.outgoing terminal e)
