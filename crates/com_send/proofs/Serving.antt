-- What a unit has begun at one destination, and what a part makes of it.
use Rattle.std.proofs.Common.{◌≡◌, ℕ, ◌<◌, Bool, List, length, map, get_or, set, Option, Some, refl, sym, ap, subst, ◌∙◌}
use Rattle.std.specs.Prelude.{option_map, slice_get}
use Rattle.std.specs.Vec.{with_item}
use Rattle.std.proofs.lemmas.List.{map-set, set-get_or}
use Rattle.std.proofs.lemmas.Option.{none-some, same_Some, slice_get-get_or, slice_get-map, slice_get_read}
use Rattle.com_msg.specs.Begun.{Begun, OpenMessage, finished, nothing_begun, with_text}
use Rattle.com_msg.specs.declared.message.End.TheVariants.{Emi as with_emi, Egi as with_egi}
use Rattle.com_msg.specs.declared.sending.OutMessage.{OutMessage}
use Rattle.com_msg.specs.declared.sending.Part.{Part}
use Rattle.com_msg.specs.declared.sending.Part.TheVariants.{Portion, Esi, Emi, Egi}
use Rattle.com_send.specs.declared.output.Output.{Output}
use Rattle.com_send.specs.Outgoing.{DestinationState, with_begun}
use Rattle.com_send.specs.Sending.{deliver, serve, serve_part}
use Rattle.com_send.specs.Kept.{state_of, whole_message, HasRoom, IsReady}

-- destinations are equal where their parts are
pub same_state : (on : Bool) (begun begun' : List Begun) (queued queued' sent sent' : List OutMessage)
    → begun ≡ begun' → queued ≡ queued' → sent ≡ sent'
    → ◌≡◌ {A = DestinationState} (record { on = on; begun = begun; queued = queued; sent = sent })
    (record { on = on; begun = begun'; queued = queued'; sent = sent' })
same_state on begun begun' queued queued' sent sent' b q s =
    ap (λ (x : List Begun). record { on = on; begun = x; queued = queued; sent = sent }) b
    ∙ (ap (λ (x : List OutMessage). record { on = on; begun = begun'; queued = x; sent = sent }) q
    ∙ ap (λ (x : List OutMessage). record { on = on; begun = begun'; queued = queued'; sent = x }) s)

-- what a unit has begun is written anew
pub begun_set : (output : Output) (unit : ℕ) (new : OpenMessage)
    → state_of (record output { begun = with_item output.begun unit new })
    ≡ with_begun unit new.begun (state_of output)
begun_set output unit new =
    ap (λ (begun : List Begun). record { on = output.on; begun = begun; queued = output.queued.items; sent = output.sent.items })
    (map-set (λ (message : OpenMessage). message.begun) output.begun.items unit new)

-- what is lent is what the unit has begun
pub begun_there : (messages : List OpenMessage) (unit : ℕ) (lent : OpenMessage)
    → unit < length messages → lent ≡ get_or messages unit lent
    → slice_get (map (λ (message : OpenMessage). message.begun) messages) unit ≡ Some lent.begun
begun_there messages unit lent within is =
    slice_get-map (λ (message : OpenMessage). message.begun) messages unit
    ∙ ap (option_map (λ (message : OpenMessage). message.begun)) (slice_get_read messages (length messages) unit lent refl within is)

-- the part goes on from what the unit has begun
pub serve_there : (unit : ℕ) (part : Part) (text : List ℕ) (state : DestinationState) (begun : Begun)
    → slice_get state.begun unit ≡ Some begun
    → serve unit part text state ≡ serve_part unit part (with_text text begun) state
serve_there unit part text state begun is = rw (is, serve) refl

-- what is delivered where nothing was begun, and the part makes this message by itself
serve_part_whole : (unit : ℕ) (part : Part) (text : List ℕ) (message : OutMessage) (state : DestinationState)
    → whole_message part text ≡ Some message → with_begun unit nothing_begun state ≡ state
    → serve_part unit part (with_text text nothing_begun) state ≡ deliver message state
serve_part_whole unit Portion text message state whole stays = absurd (none-some message whole)
serve_part_whole unit (Esi advance) text message state whole stays = absurd (none-some message whole)
serve_part_whole unit (Emi advance) text message state whole stays =
    ap (deliver (finished advance with_emi (with_text text nothing_begun))) stays
    ∙ ap (λ (given : OutMessage). deliver given state) (same_Some _ message whole)
serve_part_whole unit (Egi advance) text message state whole stays =
    ap (deliver (finished advance with_egi (with_text text nothing_begun))) stays
    ∙ ap (λ (given : OutMessage). deliver given state) (same_Some _ message whole)

-- what is begun stays where nothing is begun and that is written anew
begun_same : (messages : List OpenMessage) (unit : ℕ) (d : OpenMessage) → (get_or messages unit d).begun ≡ nothing_begun
    → set (map (λ (message : OpenMessage). message.begun) messages) unit nothing_begun ≡ map (λ (message : OpenMessage). message.begun) messages
begun_same messages unit d nothing =
    let begun = λ (message : OpenMessage). message.begun in
    ap (set (map begun messages) unit) (sym nothing)
    ∙ (sym (map-set begun messages unit (get_or messages unit d)) ∙ ap (map begun) (set-get_or messages unit d))

-- the message that is ready is what the part makes
pub serve_ready : (unit : ℕ) (part : Part) (text : List ℕ) (message : OutMessage) (output : Output)
    → HasRoom unit part text output → output.ready ≡ Some message
    → serve unit part text (state_of output) ≡ deliver message (state_of output)
serve_ready unit part text message output room is =
    let d : OpenMessage = record { begun = nothing_begun; spare_bytes = 0; spare_segments = 0 } in
    let begun = λ (message : OpenMessage). message.begun in
    let lent = get_or output.begun.items unit d in
    let ready : IsReady part text (Some message) lent = subst (λ (found : Option OutMessage). IsReady part text found lent) is (room.ready d) in
    let there : slice_get (map begun output.begun.items) unit ≡ Some nothing_begun =
    slice_get-map begun output.begun.items unit
    ∙ ap (option_map begun) (slice_get-get_or output.begun.items unit d room.known)
    ∙ ap Some ready.1 in
    let stays : with_begun unit nothing_begun (state_of output) ≡ state_of output =
    ap (λ (items : List Begun). record { on = output.on; begun = items; queued = output.queued.items; sent = output.sent.items })
    (begun_same output.begun.items unit d ready.1) in
    serve_there unit part text (state_of output) nothing_begun there
    ∙ serve_part_whole unit part text message (state_of output) ready.0 stays
