-- What START comes to where it is allowed.
use Rattle.std.proofs.Common.{◌≡◌, ℕ, ◌<◌, Bool, true, false, List, length, Option, Some, None, sym, ap, ◌∙◌, subst}
use Rattle.std.specs.Prelude.{is_some}
use Rattle.com_net.specs.declared.net.Net.{Net}
use Rattle.com_events.specs.declared.call.Party.{Party}
use Rattle.com_events.specs.declared.call.Call.TheVariants as made
use Rattle.com_events.specs.declared.reply.Reply.{Reply}
use Rattle.com_events.specs.declared.reply.Reply.TheVariants.{Started, Given, NoData, Refused, Waits, AreaIn, AreaOut, Arrived, Done}
use Rattle.com_state.specs.Steps.{step, schedule_of}
use Rattle.com_state.proofs.Replying.{names_only}
use Rattle.com_state.proofs.Telling.{told_by_entries}
use Rattle.com_shared.specs.Parties.{unit_name}
use Rattle.com_shared.specs.Passes.{Log, Place, PassOf, seen, IsLater}
use Rattle.com_shared.specs.Waits.{HasStarted}
use Rattle.com_shared.specs.inner.Starting.{started_in}
use Rattle.com_shared.specs.inner.Turns.{HasSettled}
use Rattle.com_shared.specs.inner.Waits.{IsAllowed}
use Rattle.com_shared.proofs.Making.{leads_here, unit_at, settled_active}
use Rattle.com_shared.proofs.Waiting.{allowed_made}

-- there are names exactly where there is a schedule
has_names : (place : Place) (active : Bool) (v p q : PassOf) (b : Log) (names : Option (List ℕ)) → v.number < length place.net.units → IsLater v p → IsAllowed place active made.Start v b p → HasSettled b p made.Start active (Started names) q
    → is_some (schedule_of place.net v.number) ≡ is_some names
has_names place active v p q b names few later h s =
    let low : p.number < length place.net.units = subst (λ (n : ℕ). n < length place.net.units) (sym later.number) few in
    let at = unit_at place p b h.turn low in
    let net : b.state.net ≡ place.net = (told_by_entries place.net (seen p) b.state (leads_here place p b h.turn)).net in
    let told : is_some names ≡ is_some (schedule_of b.state.net p.number) =
    names_only b.state (unit_name place.net p.number) p.number names s.next at.found (ap (λ (z : Party). step b.state z made.Start) (sym at.party_is) ∙ s.step) in
    ap (λ (n : ℕ). is_some (schedule_of place.net n)) (sym later.number) ∙ (ap (λ (m : Net). is_some (schedule_of m p.number)) (sym net) ∙ sym told)

pub has_started : (place : Place) (active : Bool) (v p q : PassOf) (b : Log) (reply : Reply) → v.number < length place.net.units → active ≡ v.active → IsLater v p → IsAllowed place active made.Start v b p → HasSettled b p made.Start active reply q → HasStarted place.net v (started_in reply) q
has_started place active v p q b (Started None) few same later h s = (allowed_made place active _ v p q b _ later h s, has_names place active v p q b None few later h s, settled_active p q b _ active _ s ∙ same)
has_started place active v p q b (Started (Some names)) few same later h s = (allowed_made place active _ v p q b _ later h s, has_names place active v p q b (Some names) few later h s, settled_active p q b _ active _ s ∙ same)
has_started place active v p q b (Given after text) few same later h s = absurd s.replies
has_started place active v p q b (NoData after) few same later h s = absurd s.replies
has_started place active v p q b (Refused after) few same later h s = absurd s.replies
has_started place active v p q b Waits few same later h s = absurd s.replies
has_started place active v p q b (AreaIn after) few same later h s = absurd s.replies
has_started place active v p q b (AreaOut after) few same later h s = absurd s.replies
has_started place active v p q b (Arrived number) few same later h s = absurd s.replies
has_started place active v p q b Done few same later h s = absurd s.replies
