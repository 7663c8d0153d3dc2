-- Each word that stands for a choice is read as it, and no other word is.
use Rattle.std.proofs.Common.{◌≡◌, ℕ, Bool, true, false, ◌&&◌, Some, Option, List, [], ◌∷◌, refl, sym, ap, ◌∙◌, subst, inl, inr, cond}
use Rattle.std.specs.Str.{bytes_eq}
use Rattle.std.proofs.lemmas.Bool.{and_parts, cases_Bool}
use Rattle.std.proofs.lemmas.Option.{none-some, same_Some}
use Rattle.com_text.specs.Text.{IsText}
use Rattle.com_msg.specs.declared.message.End.{End}
use Rattle.com_msg.specs.declared.message.End.TheVariants.{Emi, Egi}
use Rattle.com_msg.specs.declared.rest.Kind.{Kind}
use Rattle.com_msg.specs.declared.rest.Kind.TheVariants.{Message, Segment}
use Rattle.com_msg.specs.declared.framing.FrameKind.{FrameKind}
use Rattle.com_msg.specs.declared.framing.FrameKind.TheVariants.{BadByte, LongSegment, LongMessage, TooMany, Truncated}
use Rattle.com_events.specs.declared.call.StopReason.{StopReason}
use Rattle.com_events.specs.declared.call.StopReason.TheVariants as stop
use Rattle.com_journal.specs.Words.{kind_word, wait_word, switch_word, input_word, end_word, stop_word, frame_word}
use Rattle.com_journal.specs.inner.Choices.{chosen, kinds, waits, switches, inputs, ends, stops, frames, kind_of, wait_of, switch_of, input_of, end_of, stop_of, frame_of}
use Rattle.com_journal.proofs.Options.{bytes_eq-true}
use Rattle.com_journal.proofs.Fields.{HasNoSpace}
use Rattle.com_journal.proofs.FieldLaws.{no_space}

-- what a test on a word leads to
pub branch : {A : Type 0} (P : List ℕ → Type 0) (word other : List ℕ) (x y r : Option A) → cond (bytes_eq word other) x y ≡ r → (x ≡ r → P other) → (y ≡ r → P word) → P word
branch P word other x y r h here there = elim (cases_Bool (bytes_eq word other)) [
  | inl same ↦ subst P (sym (bytes_eq-true word other same)) (here (rw same at h))
  | inr differs ↦ there (rw differs at h)
]

-- the table has the word of each of its choices
says : {A : Type 0} → (A → List ℕ) → List (List ℕ × A) → Bool
says word [] = true
says word (row ∷ rows) = bytes_eq row.0 (word row.1) && says word rows

chosen_sound : {A : Type 0} (word_of : A → List ℕ) (rows : List (List ℕ × A)) (word : List ℕ) (x : A) → says word_of rows ≡ true → chosen rows word ≡ Some x → word ≡ word_of x
unfolding says
chosen_sound word_of [] word x t h = absurd (none-some x h)
chosen_sound word_of (row ∷ rows) word x t h =
    let parts = and_parts (bytes_eq row.0 (word_of row.1)) (says word_of rows) t in
    branch (λ w. w ≡ word_of x) word row.0 (Some row.1) (chosen rows word) (Some x) h
    (λ e. bytes_eq-true row.0 (word_of row.1) parts.0 ∙ ap word_of (same_Some row.1 x e))
    (λ e. chosen_sound word_of rows word x parts.1 e)

-- the words of choices: each is read as its choice, and nothing else is
pub record Chooses {A : Type 0} (of : List ℕ → Option A) (word_of : A → List ℕ) : Type 0 where
  pub sound : (word : List ℕ) (x : A) → of word ≡ Some x → word ≡ word_of x
  pub complete : (x : A) → of (word_of x) ≡ Some x
  pub plain : (x : A) → HasNoSpace (word_of x)
  pub text : (x : A) → IsText (word_of x)

kind-complete : (kind : Kind) → kind_of (kind_word kind) ≡ Some kind
unfolding kind_of
kind-complete Message = refl
kind-complete Segment = refl

kind-plain : (kind : Kind) → HasNoSpace (kind_word kind)
kind-plain Message = no_space (kind_word Message) refl
kind-plain Segment = no_space (kind_word Segment) refl

kind-text : (kind : Kind) → IsText (kind_word kind)
kind-text Message = refl
kind-text Segment = refl

pub chooses_kind : Chooses kind_of kind_word
unfolding kind_of says
chooses_kind = record { sound = λ word x h. chosen_sound kind_word kinds word x refl h; complete = kind-complete; plain = kind-plain; text = kind-text }

wait-complete : (no_data : Bool) → wait_of (wait_word no_data) ≡ Some no_data
unfolding wait_of
wait-complete true = refl
wait-complete false = refl

wait-plain : (no_data : Bool) → HasNoSpace (wait_word no_data)
wait-plain true = no_space (wait_word true) refl
wait-plain false = no_space (wait_word false) refl

wait-text : (no_data : Bool) → IsText (wait_word no_data)
wait-text true = refl
wait-text false = refl

pub chooses_wait : Chooses wait_of wait_word
unfolding wait_of says
chooses_wait = record { sound = λ word x h. chosen_sound wait_word waits word x refl h; complete = wait-complete; plain = wait-plain; text = wait-text }

switch-complete : (on : Bool) → switch_of (switch_word on) ≡ Some on
unfolding switch_of
switch-complete true = refl
switch-complete false = refl

switch-plain : (on : Bool) → HasNoSpace (switch_word on)
switch-plain true = no_space (switch_word true) refl
switch-plain false = no_space (switch_word false) refl

switch-text : (on : Bool) → IsText (switch_word on)
switch-text true = refl
switch-text false = refl

pub chooses_switch : Chooses switch_of switch_word
unfolding switch_of says
chooses_switch = record { sound = λ word x h. chosen_sound switch_word switches word x refl h; complete = switch-complete; plain = switch-plain; text = switch-text }

input-complete : (terminal : Bool) → input_of (input_word terminal) ≡ Some terminal
unfolding input_of
input-complete true = refl
input-complete false = refl

input-plain : (terminal : Bool) → HasNoSpace (input_word terminal)
input-plain true = no_space (input_word true) refl
input-plain false = no_space (input_word false) refl

input-text : (terminal : Bool) → IsText (input_word terminal)
input-text true = refl
input-text false = refl

pub chooses_input : Chooses input_of input_word
unfolding input_of says
chooses_input = record { sound = λ word x h. chosen_sound input_word inputs word x refl h; complete = input-complete; plain = input-plain; text = input-text }

end-complete : (end : End) → end_of (end_word end) ≡ Some end
unfolding end_of
end-complete Emi = refl
end-complete Egi = refl

end-plain : (end : End) → HasNoSpace (end_word end)
end-plain Emi = no_space (end_word Emi) refl
end-plain Egi = no_space (end_word Egi) refl

end-text : (end : End) → IsText (end_word end)
end-text Emi = refl
end-text Egi = refl

pub chooses_end : Chooses end_of end_word
unfolding end_of says
chooses_end = record { sound = λ word x h. chosen_sound end_word ends word x refl h; complete = end-complete; plain = end-plain; text = end-text }

stop-complete : (reason : StopReason) → stop_of (stop_word reason) ≡ Some reason
unfolding stop_of
stop-complete stop.Run = refl
stop-complete stop.Limit = refl
stop-complete stop.DataFault = refl
stop-complete stop.Idle = refl

stop-plain : (reason : StopReason) → HasNoSpace (stop_word reason)
stop-plain stop.Run = no_space (stop_word stop.Run) refl
stop-plain stop.Limit = no_space (stop_word stop.Limit) refl
stop-plain stop.DataFault = no_space (stop_word stop.DataFault) refl
stop-plain stop.Idle = no_space (stop_word stop.Idle) refl

stop-text : (reason : StopReason) → IsText (stop_word reason)
stop-text stop.Run = refl
stop-text stop.Limit = refl
stop-text stop.DataFault = refl
stop-text stop.Idle = refl

pub chooses_stop : Chooses stop_of stop_word
unfolding stop_of says
chooses_stop = record { sound = λ word x h. chosen_sound stop_word stops word x refl h; complete = stop-complete; plain = stop-plain; text = stop-text }

frame-complete : (kind : FrameKind) → frame_of (frame_word kind) ≡ Some kind
unfolding frame_of
frame-complete BadByte = refl
frame-complete LongSegment = refl
frame-complete LongMessage = refl
frame-complete TooMany = refl
frame-complete Truncated = refl

frame-plain : (kind : FrameKind) → HasNoSpace (frame_word kind)
frame-plain BadByte = no_space (frame_word BadByte) refl
frame-plain LongSegment = no_space (frame_word LongSegment) refl
frame-plain LongMessage = no_space (frame_word LongMessage) refl
frame-plain TooMany = no_space (frame_word TooMany) refl
frame-plain Truncated = no_space (frame_word Truncated) refl

frame-text : (kind : FrameKind) → IsText (frame_word kind)
frame-text BadByte = refl
frame-text LongSegment = refl
frame-text LongMessage = refl
frame-text TooMany = refl
frame-text Truncated = refl

pub chooses_frame : Chooses frame_of frame_word
unfolding frame_of says
chooses_frame = record { sound = λ word x h. chosen_sound frame_word frames word x refl h; complete = frame-complete; plain = frame-plain; text = frame-text }
