-- Each reply is read from its fields, and from no others.
use Rattle.std.proofs.Common.{◌≡◌, ℕ, ◌<◌, ◌≤◌, ◌^◌, ◌-◌, Bool, ◌&&◌, None, Some, Option, List, [], ◌∷◌, ◌++◌, length, refl, ap, ◌∙◌, subst, inl, inr, arith}
use Rattle.std.specs.Prelude.{decimal, codes, ◌==◌}
use Rattle.std.specs.Option.{IfSome}
use Rattle.std.proofs.lemmas.Bool.{and_parts, cases_Bool, eqb-true}
use Rattle.std.proofs.lemmas.Option.{cond_some, none-some, same_Some, some_pair_parts}
use Rattle.com_text.specs.Counted.{counted_field}
use Rattle.com_text.specs.Text.{IsText, is_text}
use Rattle.com_cd.specs.InputArea.{IsInputArea}
use Rattle.com_cd.specs.OutputArea.{IsOutputArea}
use Rattle.com_msg.specs.declared.rest.Kind.{Kind}
use Rattle.com_events.specs.declared.call.Call.{Call}
use Rattle.com_events.specs.declared.call.Call.TheVariants.{Start, Receive, Count, Send, SwitchInput, SwitchOutput, Arrive, Held, Stop, Finish}
use Rattle.com_events.specs.declared.reply.Reply.{Reply}
use Rattle.com_events.specs.declared.reply.Reply.TheVariants.{Started, Given, NoData, Refused, Waits, AreaIn, AreaOut, Arrived, Done}
use Rattle.com_events.specs.Calls.{AreNames, IsReplyTo}
use Rattle.com_msg.specs.declared.rest.TheConstants.{MAX_SIZE}
use Rattle.com_journal.specs.Lines.{reply_fields}
use Rattle.com_journal.specs.inner.Reading.{word_at, expected, number_at, counted_at, text_at, in_area_at, out_area_at, names_of, names_at, started_at, given_at, without_data, refused_at, received_behind, received_at, input_after, output_after, arrived_at, done_at, reply_at}
use Rattle.com_journal.proofs.Options.{step}
use Rattle.com_journal.proofs.Spelled.{spelled}
use Rattle.com_journal.proofs.FieldLaws.{IsEnd, Reads, no_space, word-complete, word-sound, expected-complete, expected-sound, IsWithin, reads_number, reads_counted, IsTextOf, reads_text, reads_in_area, reads_out_area}
use Rattle.com_journal.proofs.WordLaws.{branch}

-- a reply of a sort, whose fields are what was read
pub record IsReplyRead (Sort : Reply → Type 0) (bytes : List ℕ) (reply : Reply) (rest : List ℕ) : Type 0 where
  pub sort : Sort reply
  pub whole : bytes ≡ spelled (reply_fields reply) rest

made : (Sort : Reply → Type 0) (bytes : List ℕ) (x : Reply) (left : List ℕ) (reply : Reply) (rest : List ℕ) → ◌≡◌ {A = Option (Reply × List ℕ)} (Some (x, left)) (Some (reply, rest)) → IsReplyRead Sort bytes x left → IsReplyRead Sort bytes reply rest
made Sort bytes x left reply rest h r =
    subst (λ (p : Reply × List ℕ). IsReplyRead Sort bytes p.0 p.1) (same_Some (x, left) (reply, rest) h) r

-- the names that START hands over
abbrev names_content : Option (List ℕ) → List ℕ
names_content None = []
names_content (Some names) = names

nothing : (content : List ℕ) → length content ≡ 0 → content ≡ []
nothing [] h = refl
nothing (byte ∷ bytes) h = absurd (omega (arith, h))

names_are : (content : List ℕ) (names : Option (List ℕ)) → names_of content ≡ Some names → IfSome names AreNames × (content ≡ names_content names)
unfolding names_of
names_are content names h = elim (cases_Bool (length content == 0)) [
  | inl none ↦ rw (← same_Some None names (rw none at h)) (tt, nothing content (eqb-true (length content) 0 none))
  | inr some ↦
      let p = cond_some ((length content == 48) && is_text content) (Some content) names (rw some at h) in
      let q = and_parts (length content == 48) (is_text content) p.0 in
      rw (← p.1) ((q.1, eqb-true (length content) 48 q.0), refl)
]

some_names : (names : List ℕ) → AreNames names → names_of names ≡ Some (Some names)
unfolding names_of
some_names names h =
    rw (h.1, h.0) refl

started : (bytes : List ℕ) (names : Option (List ℕ)) (rest : List ℕ) → IfSome names AreNames → bytes ≡ 32 ∷ (counted_field (names_content names) ++ rest) → IsReplyRead (IsReplyTo Start) bytes (Started names) rest
started bytes None rest h e = record { sort = h; whole = e }
started bytes (Some names) rest h e = record { sort = h; whole = e }

started-sound : (bytes : List ℕ) (reply : Reply) (rest : List ℕ) → started_at bytes ≡ Some (reply, rest) → IsReplyRead (IsReplyTo Start) bytes reply rest
unfolding started_at names_at
started-sound bytes reply rest h =
    step (names_at bytes) _ (reply, rest) h (λ names names_is h1.
    step (counted_at bytes) _ names names_is (λ found found_is h2.
    step (names_of found.0) _ names h2 (λ made_of made_is h3.
    let a = reads_counted.sound bytes found.0 found.1 found_is in
    let parts = some_pair_parts made_of names.0 found.1 names.1 h3 in
    let b = names_are found.0 names.0 (made_is ∙ ap Some parts.0) in
    made (IsReplyTo Start) bytes (Started names.0) names.1 reply rest h1 (started bytes names.0 names.1 b.0 (a.1 ∙ rw (b.1, parts.1) refl)))))

started-complete : (names : Option (List ℕ)) (rest : List ℕ) → IfSome names AreNames → IsEnd rest → started_at (spelled (reply_fields (Started names)) rest) ≡ Some (Started names, rest)
unfolding started_at names_at names_of
started-complete None rest h end = rw (reads_counted.complete [] rest (omega arith) end) refl
started-complete (Some names) rest h end =
    rw (reads_counted.complete names rest (omega (arith, h.1)) end, some_names names h) refl

-- what RECEIVE is answered
portions : Reads (IsTextOf 0 MAX_SIZE) counted_field (text_at 0 MAX_SIZE)
portions = reads_text 0 MAX_SIZE (omega arith)

-- whatever the parts of a RECEIVE are
abbrev IsReceived : Reply → Type 0
IsReceived (Given after text) = IsInputArea after × IsText text × (length text ≤ MAX_SIZE)
IsReceived (NoData after) = IsInputArea after
IsReceived (Refused after) = IsInputArea after
IsReceived Waits = Unit {0}
IsReceived _ = ⊥

given-sound : (bytes : List ℕ) (reply : Reply) (rest : List ℕ) → given_at bytes ≡ Some (reply, rest) → IsReplyRead IsReceived (32 ∷ (codes "TEXT" ++ bytes)) reply rest
unfolding given_at
given-sound bytes reply rest h =
    step (in_area_at bytes) _ (reply, rest) h (λ area area_is h1.
    step (text_at 0 MAX_SIZE area.1) _ (reply, rest) h1 (λ text text_is h2.
    let a = reads_in_area.sound bytes area.0 area.1 area_is in
    let b = portions.sound area.1 text.0 text.1 text_is in
    made IsReceived (32 ∷ (codes "TEXT" ++ bytes)) (Given area.0 text.0) text.1 reply rest h2 record { sort = (a.0, b.0.text, b.0.high); whole = rw (a.1, b.1) refl }))

without-sound : (bytes : List ℕ) (reply : Reply) (rest : List ℕ) → without_data bytes ≡ Some (reply, rest) → IsReplyRead IsReceived (32 ∷ (codes "NONE" ++ bytes)) reply rest
unfolding without_data
without-sound bytes reply rest h =
    step (in_area_at bytes) _ (reply, rest) h (λ area area_is h1.
    let a = reads_in_area.sound bytes area.0 area.1 area_is in
    made IsReceived (32 ∷ (codes "NONE" ++ bytes)) (NoData area.0) area.1 reply rest h1 record { sort = a.0; whole = rw a.1 refl })

refused-sound : (bytes : List ℕ) (reply : Reply) (rest : List ℕ) → refused_at bytes ≡ Some (reply, rest) → IsReplyRead IsReceived (32 ∷ (codes "REFUSED" ++ bytes)) reply rest
unfolding refused_at
refused-sound bytes reply rest h =
    step (in_area_at bytes) _ (reply, rest) h (λ area area_is h1.
    let a = reads_in_area.sound bytes area.0 area.1 area_is in
    made IsReceived (32 ∷ (codes "REFUSED" ++ bytes)) (Refused area.0) area.1 reply rest h1 record { sort = a.0; whole = rw a.1 refl })

received-sound : (bytes : List ℕ) (reply : Reply) (rest : List ℕ) → received_at bytes ≡ Some (reply, rest) → IsReplyRead IsReceived bytes reply rest
unfolding received_at received_behind
received-sound bytes reply rest h =
    step (word_at bytes) _ (reply, rest) h (λ word is h1.
    let P : List ℕ → Type 0 = λ w. IsReplyRead IsReceived (32 ∷ (w ++ word.1)) reply rest in
    let found =
    branch P word.0 (codes "TEXT") _ _ (Some (reply, rest)) h1 (λ e. given-sound word.1 reply rest e) (λ h2.
    branch P word.0 (codes "NONE") _ _ (Some (reply, rest)) h2 (λ e. without-sound word.1 reply rest e) (λ h3.
    branch P word.0 (codes "REFUSED") _ _ (Some (reply, rest)) h3 (λ e. refused-sound word.1 reply rest e) (λ h4.
    branch P word.0 (codes "WAITS") _ _ (Some (reply, rest)) h4 (λ e. made IsReceived (32 ∷ (codes "WAITS" ++ word.1)) Waits word.1 reply rest e record { sort = tt; whole = refl }) (λ e. absurd (none-some (reply, rest) e))))) in
    record { sort = found.sort; whole = word-sound bytes word.0 word.1 is ∙ found.whole })

received-complete : (reply : Reply) (rest : List ℕ) → IsReceived reply → IsEnd rest → received_at (spelled (reply_fields reply) rest) ≡ Some (reply, rest)
unfolding received_at received_behind given_at without_data refused_at
received-complete (Given area text) rest h end =
    let at_text = spelled (counted_field text ∷ []) rest in
    let at_area = spelled (counted_field area ∷ counted_field text ∷ []) rest in
    rw (
      word-complete (codes "TEXT") at_area (no_space (codes "TEXT") refl) refl,
      reads_in_area.complete area at_text h.0 refl,
      portions.complete text rest record { text = h.1; low = omega arith; high = h.2 } end,
    ) refl
received-complete (NoData area) rest h end =
    rw (word-complete (codes "NONE") (spelled (counted_field area ∷ []) rest) (no_space (codes "NONE") refl) refl, reads_in_area.complete area rest h end) refl
received-complete (Refused area) rest h end =
    rw (word-complete (codes "REFUSED") (spelled (counted_field area ∷ []) rest) (no_space (codes "REFUSED") refl) refl, reads_in_area.complete area rest h end) refl
received-complete Waits rest h end = rw (word-complete (codes "WAITS") rest (no_space (codes "WAITS") refl) end) refl
received-complete (Started names) rest h end = absurd h
received-complete (AreaIn area) rest h end = absurd h
received-complete (AreaOut area) rest h end = absurd h
received-complete (Arrived number) rest h end = absurd h
received-complete Done rest h end = absurd h

received_to : (area : List ℕ) (kind : Kind) (size : ℕ) (no_data : Bool) (reply : Reply) → IsReceived reply → IsReplyTo (Receive area kind size no_data) reply
received_to area kind size no_data (Given after text) h = h
received_to area kind size no_data (NoData after) h = h
received_to area kind size no_data (Refused after) h = h
received_to area kind size no_data Waits h = h
received_to area kind size no_data (Started names) h = absurd h
received_to area kind size no_data (AreaIn after) h = absurd h
received_to area kind size no_data (AreaOut after) h = absurd h
received_to area kind size no_data (Arrived number) h = absurd h
received_to area kind size no_data Done h = absurd h

to_received : (area : List ℕ) (kind : Kind) (size : ℕ) (no_data : Bool) (reply : Reply) → IsReplyTo (Receive area kind size no_data) reply → IsReceived reply
to_received area kind size no_data (Given after text) h = h
to_received area kind size no_data (NoData after) h = h
to_received area kind size no_data (Refused after) h = h
to_received area kind size no_data Waits h = h
to_received area kind size no_data (Started names) h = absurd h
to_received area kind size no_data (AreaIn after) h = absurd h
to_received area kind size no_data (AreaOut after) h = absurd h
to_received area kind size no_data (Arrived number) h = absurd h
to_received area kind size no_data Done h = absurd h

-- areas, arrivals and DONE
abbrev IsInputReply : Reply → Type 0
IsInputReply (AreaIn after) = IsInputArea after
IsInputReply _ = ⊥

abbrev IsOutputReply : Reply → Type 0
IsOutputReply (AreaOut after) = IsOutputArea after
IsOutputReply _ = ⊥

abbrev IsArrival : Reply → Type 0
IsArrival (Arrived number) = (1 ≤ number) × (number < 10 ^ 18)
IsArrival _ = ⊥

abbrev IsDone : Reply → Type 0
IsDone Done = Unit {0}
IsDone _ = ⊥

input-sound : (bytes : List ℕ) (reply : Reply) (rest : List ℕ) → input_after bytes ≡ Some (reply, rest) → IsReplyRead IsInputReply bytes reply rest
unfolding input_after
input-sound bytes reply rest h =
    step (in_area_at bytes) _ (reply, rest) h (λ area area_is h1.
    let a = reads_in_area.sound bytes area.0 area.1 area_is in
    made IsInputReply bytes (AreaIn area.0) area.1 reply rest h1 record { sort = a.0; whole = a.1 })

output-sound : (bytes : List ℕ) (reply : Reply) (rest : List ℕ) → output_after bytes ≡ Some (reply, rest) → IsReplyRead IsOutputReply bytes reply rest
unfolding output_after
output-sound bytes reply rest h =
    step (out_area_at bytes) _ (reply, rest) h (λ area area_is h1.
    let a = reads_out_area.sound bytes area.0 area.1 area_is in
    made IsOutputReply bytes (AreaOut area.0) area.1 reply rest h1 record { sort = a.0; whole = a.1 })

arrivals : Reads (IsWithin 1 (10 ^ 18 - 1)) decimal (number_at 1 (10 ^ 18 - 1))
arrivals = reads_number 1 (10 ^ 18 - 1) (omega arith)

arrived-sound : (bytes : List ℕ) (reply : Reply) (rest : List ℕ) → arrived_at bytes ≡ Some (reply, rest) → IsReplyRead IsArrival bytes reply rest
unfolding arrived_at
arrived-sound bytes reply rest h =
    step (number_at 1 (10 ^ 18 - 1) bytes) _ (reply, rest) h (λ n n_is h1.
    let a = arrivals.sound bytes n.0 n.1 n_is in
    let within : n.0 < 10 ^ 18 = omega (arith, a.0.1) in
    made IsArrival bytes (Arrived n.0) n.1 reply rest h1 record { sort = (a.0.0, within); whole = a.1 })

done-sound : (bytes : List ℕ) (reply : Reply) (rest : List ℕ) → done_at bytes ≡ Some (reply, rest) → IsReplyRead IsDone bytes reply rest
unfolding done_at
done-sound bytes reply rest h =
    step (expected (codes "DONE") bytes) _ (reply, rest) h (λ left left_is h1.
    made IsDone bytes Done left reply rest h1 record { sort = tt; whole = expected-sound (codes "DONE") bytes left left_is })

input-complete : (area rest : List ℕ) → IsInputArea area → IsEnd rest → input_after (spelled (counted_field area ∷ []) rest) ≡ Some (AreaIn area, rest)
unfolding input_after
input-complete area rest h end = rw (reads_in_area.complete area rest h end) refl

output-complete : (area rest : List ℕ) → IsOutputArea area → IsEnd rest → output_after (spelled (counted_field area ∷ []) rest) ≡ Some (AreaOut area, rest)
unfolding output_after
output-complete area rest h end = rw (reads_out_area.complete area rest h end) refl

arrived-complete : (number : ℕ) (rest : List ℕ) → 1 ≤ number → number < 10 ^ 18 → IsEnd rest → arrived_at (spelled (decimal number ∷ []) rest) ≡ Some (Arrived number, rest)
unfolding arrived_at
arrived-complete number rest low high end = rw (arrivals.complete number rest (low, omega (arith, high)) end) refl

done-complete : (rest : List ℕ) → IsEnd rest → done_at (spelled (codes "DONE" ∷ []) rest) ≡ Some (Done, rest)
unfolding done_at
done-complete rest end = rw (expected-complete (codes "DONE") rest (no_space (codes "DONE") refl) end) refl

-- a sort of reply is what calls of a sort are answered
weaken : (P Q : Reply → Type 0) (bytes : List ℕ) (reply : Reply) (rest : List ℕ) → ((r : Reply) → P r → Q r) → IsReplyRead P bytes reply rest → IsReplyRead Q bytes reply rest
weaken P Q bytes reply rest h r = record { sort = h reply r.sort; whole = r.whole }

in_to : (call : Call) → ((after : List ℕ) → IsInputArea after → IsReplyTo call (AreaIn after)) → (reply : Reply) → IsInputReply reply → IsReplyTo call reply
in_to call f (AreaIn after) h = f after h
in_to call f (Started names) h = absurd h
in_to call f (Given after text) h = absurd h
in_to call f (NoData after) h = absurd h
in_to call f (Refused after) h = absurd h
in_to call f Waits h = absurd h
in_to call f (AreaOut after) h = absurd h
in_to call f (Arrived number) h = absurd h
in_to call f Done h = absurd h

out_to : (call : Call) → ((after : List ℕ) → IsOutputArea after → IsReplyTo call (AreaOut after)) → (reply : Reply) → IsOutputReply reply → IsReplyTo call reply
out_to call f (AreaOut after) h = f after h
out_to call f (Started names) h = absurd h
out_to call f (Given after text) h = absurd h
out_to call f (NoData after) h = absurd h
out_to call f (Refused after) h = absurd h
out_to call f Waits h = absurd h
out_to call f (AreaIn after) h = absurd h
out_to call f (Arrived number) h = absurd h
out_to call f Done h = absurd h

arrival_to : (call : Call) → ((n : ℕ) → (1 ≤ n) × (n < 10 ^ 18) → IsReplyTo call (Arrived n)) → (reply : Reply) → IsArrival reply → IsReplyTo call reply
arrival_to call f (Arrived number) h = f number h
arrival_to call f (Started names) h = absurd h
arrival_to call f (Given after text) h = absurd h
arrival_to call f (NoData after) h = absurd h
arrival_to call f (Refused after) h = absurd h
arrival_to call f Waits h = absurd h
arrival_to call f (AreaIn after) h = absurd h
arrival_to call f (AreaOut after) h = absurd h
arrival_to call f Done h = absurd h

done_to : (call : Call) → IsReplyTo call Done → (reply : Reply) → IsDone reply → IsReplyTo call reply
done_to call f Done h = f
done_to call f (Started names) h = absurd h
done_to call f (Given after text) h = absurd h
done_to call f (NoData after) h = absurd h
done_to call f (Refused after) h = absurd h
done_to call f Waits h = absurd h
done_to call f (AreaIn after) h = absurd h
done_to call f (AreaOut after) h = absurd h
done_to call f (Arrived number) h = absurd h

pub reply-sound : (call : Call) (bytes : List ℕ) (reply : Reply) (rest : List ℕ) → reply_at call bytes ≡ Some (reply, rest) → IsReplyRead (IsReplyTo call) bytes reply rest
unfolding reply_at
reply-sound Start bytes reply rest h = started-sound bytes reply rest h
reply-sound (Receive area kind size no_data) bytes reply rest h =
    weaken IsReceived (IsReplyTo (Receive area kind size no_data)) bytes reply rest (received_to area kind size no_data) (received-sound bytes reply rest h)
reply-sound (Count area) bytes reply rest h = weaken IsInputReply (IsReplyTo (Count area)) bytes reply rest (in_to (Count area) (λ after i. i)) (input-sound bytes reply rest h)
reply-sound (Send area part item) bytes reply rest h = weaken IsOutputReply (IsReplyTo (Send area part item)) bytes reply rest (out_to (Send area part item) (λ after i. i)) (output-sound bytes reply rest h)
reply-sound (SwitchInput on terminal area key) bytes reply rest h =
    weaken IsInputReply (IsReplyTo (SwitchInput on terminal area key)) bytes reply rest (in_to (SwitchInput on terminal area key) (λ after i. i)) (input-sound bytes reply rest h)
reply-sound (SwitchOutput on area key) bytes reply rest h =
    weaken IsOutputReply (IsReplyTo (SwitchOutput on area key)) bytes reply rest (out_to (SwitchOutput on area key) (λ after i. i)) (output-sound bytes reply rest h)
reply-sound (Arrive stamp message) bytes reply rest h = weaken IsArrival (IsReplyTo (Arrive stamp message)) bytes reply rest (arrival_to (Arrive stamp message) (λ n i. i)) (arrived-sound bytes reply rest h)
reply-sound Held bytes reply rest h = weaken IsDone (IsReplyTo Held) bytes reply rest (done_to Held tt) (done-sound bytes reply rest h)
reply-sound (Stop reason) bytes reply rest h = weaken IsDone (IsReplyTo (Stop reason)) bytes reply rest (done_to (Stop reason) tt) (done-sound bytes reply rest h)
reply-sound (Finish reason) bytes reply rest h = weaken IsDone (IsReplyTo (Finish reason)) bytes reply rest (done_to (Finish reason) tt) (done-sound bytes reply rest h)

-- each reply that a call may have is read back
pub reply-complete : (call : Call) (reply : Reply) (rest : List ℕ) → IsReplyTo call reply → IsEnd rest → reply_at call (spelled (reply_fields reply) rest) ≡ Some (reply, rest)
unfolding reply_at
reply-complete Start (Started names) rest h end = started-complete names rest h end
reply-complete (Receive area kind size no_data) reply rest h end = received-complete reply rest (to_received area kind size no_data reply h) end
reply-complete (Count area) (AreaIn after) rest h end = input-complete after rest h end
reply-complete (Send area part item) (AreaOut after) rest h end = output-complete after rest h end
reply-complete (SwitchInput on terminal area key) (AreaIn after) rest h end = input-complete after rest h end
reply-complete (SwitchOutput on area key) (AreaOut after) rest h end = output-complete after rest h end
reply-complete (Arrive stamp message) (Arrived number) rest h end = arrived-complete number rest h.0 h.1 end
reply-complete Held Done rest h end = done-complete rest end
reply-complete (Stop reason) Done rest h end = done-complete rest end
reply-complete (Finish reason) Done rest h end = done-complete rest end
reply-complete _ _ rest h end = absurd h
