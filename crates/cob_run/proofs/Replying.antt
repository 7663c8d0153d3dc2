-- A reply that fits a SEND is as long as the area that it replaces.
use Rattle.std.proofs.Common.{◌≡◌, ℕ, List, [], map, length, get_or, Option, Some, None, refl, sym, ap, ◌∙◌, subst}
use Rattle.std.specs.Prelude.{slice_index}
use Rattle.std.proofs.Math.ListN.{get_or-map}
use Rattle.com_msg.specs.declared.sending.Part.{Part}
use Rattle.com_events.specs.declared.reply.Reply.{Reply}
use Rattle.com_events.specs.declared.reply.Reply.TheVariants.{Started, Given, NoData, Refused, Waits, AreaIn, AreaOut, Arrived, Done}
use Rattle.cob_meaning.specs.Layouts.{◌>>=◌}
use Rattle.cob_meaning.specs.Storage.{Storage, area_in}
use Rattle.cob_meaning.specs.Verbs.{area_after}
use Rattle.cob_meaning.specs.Sound.{IsFit}
use Rattle.cob_flat.specs.declared.operands.SendEnd.{SendEnd}
use Rattle.cob_flat.specs.declared.operands.Spot.{Spot}
use Rattle.cob_flat.specs.declared.code.Verb.TheVariants as verb
use Rattle.cob_flat.specs.Effects.{ended_by, request_by, text_by}
use Rattle.com_events.specs.declared.call.Call.TheVariants as call
use Rattle.cob_run.specs.Within.{sizes}
use Rattle.cob_run.specs.inner.Requests.{IsFitFor, IsLongFor}

-- the length of an area
size_at : (storage : Storage) (area : ℕ) → slice_index (sizes storage) area ≡ length (area_in storage area)
size_at storage area = get_or-map length storage area []

send_fit : (storage : Storage) (area : ℕ) (part : Part) (text : Option (List ℕ)) (reply : Reply) → IsFit (call.Send (area_in storage area) part text) reply → IsLongFor (slice_index (sizes storage) area) (area_after reply)
send_fit storage area part text (AreaOut after) h = h.1 ∙ sym (size_at storage area)
send_fit storage area part text (Started names) h = absurd h
send_fit storage area part text (Given after t) h = absurd h
send_fit storage area part text (NoData after) h = absurd h
send_fit storage area part text (Refused after) h = absurd h
send_fit storage area part text Waits h = absurd h
send_fit storage area part text (AreaIn after) h = absurd h
send_fit storage area part text (Arrived number) h = absurd h
send_fit storage area part text Done h = absurd h

pub send_long : (storage : Storage) (area : ℕ) (from : Option Spot) (ending : Option SendEnd) (reply : Reply) → IsFitFor (request_by (verb.Send area from ending) storage) reply → IsLongFor (slice_index (sizes storage) area) (area_after reply)
send_long storage area from ending reply = by (text_by from storage) (ended_by ending storage)
  where
    by : (t : Option (Option (List ℕ))) (e : Option Part)
        → IsFitFor (t >>= (λ text. e >>= (λ ended. Some (record { call = call.Send (area_in storage area) ended text; area = area; into = None })))) reply → IsLongFor (slice_index (sizes storage) area) (area_after reply)
    by None e h = absurd h
    by (Some t) None h = absurd h
    by (Some t) (Some e) h = send_fit storage area e t reply h
