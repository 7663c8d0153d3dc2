-- From what a command came to, to what the public call promises.
use Rattle.std.proofs.Common.{◌≡◌, ◌≢◌, ℕ, List, sym, ◌∙◌, inl, inr, arith}
use Rattle.com_io.specs.Stores.{Shown}
use Rattle.com_msg.specs.declared.framing.Framing.{Framing}
use Rattle.mcs_top.specs.declared.report.Refusal.TheVariants.{Usage, Description, Unread, Source, Script, Input}
use Rattle.mcs_top.specs.declared.report.Failure.{Failure}
use Rattle.mcs_top.specs.declared.report.Failure.TheVariants.{Refused, Write, Memory}
use Rattle.mcs_top.specs.declared.ends.Verdict.TheVariants.{Sound, Faulty}
use Rattle.mcs_top.specs.Reports.{IsReported, IsRefusedWith, IsAnswerTo}
use Rattle.mcs_top.specs.Replay.{HasReplayed, IsReplayUnwritten}
use Rattle.mcs_top.specs.Failing.{HasNotReplayed}
use Rattle.mcs_top.specs.Showing.{HasShown, IsShowUnwritten, IsFaultyInput, IsFaultyInputTold, HasNotShown}
use Rattle.mcs_top.specs.Outcome.{IsUsageOutcome, IsReplayOutcome, IsReplayWithoutMemory, IsDescriptionTold, IsUnreadTold, IsScriptTold, IsShowOutcome, IsShowWithoutMemory, IsInputUnread}

-- a status has one value
pub other : {P : Type 0} {status n m : ℕ} → status ≡ n → n ≢ m → status ≡ m → P
other is differs also = absurd (differs (sym is ∙ also))

pub usage_outcome : (before after : Shown) (status : ℕ) → IsRefusedWith Usage status before after → IsUsageOutcome status before after
usage_outcome before after status (inl h) = record { memory = other h.0 (λ e. omega (arith, e)); usage = λ _. h.1; statuses = inr h.0 }
usage_outcome before after status (inr h) = record { memory = λ _. h.1; usage = other h.0 (λ e. omega (arith, e)); statuses = inl h.0 }

-- the outcome of `replay` with each status

pub replayed : {net_file script_file : List ℕ} {status : ℕ} {before after : Shown} → status ≡ 0 → HasReplayed before after net_file script_file Sound → IsReplayOutcome net_file script_file status before after
replayed is h = record { replayed = λ _. h; memory = other is (λ e. omega (arith, e)); description = other is (λ e. omega (arith, e)); unread = other is (λ e. omega (arith, e)); faulty = other is (λ e. omega (arith, e)); unwritten = other is (λ e. omega (arith, e)); script = other is (λ e. omega (arith, e)); statuses = inl is }

replay_memory : {net_file script_file : List ℕ} {status : ℕ} {before after : Shown} → status ≡ 1 → IsReplayWithoutMemory net_file script_file before after → IsReplayOutcome net_file script_file status before after
replay_memory is h = record { replayed = other is (λ e. omega (arith, e)); memory = λ _. h; description = other is (λ e. omega (arith, e)); unread = other is (λ e. omega (arith, e)); faulty = other is (λ e. omega (arith, e)); unwritten = other is (λ e. omega (arith, e)); script = other is (λ e. omega (arith, e)); statuses = inr (inl is) }

replay_description : {net_file script_file : List ℕ} {status : ℕ} {before after : Shown} → status ≡ 3 → IsDescriptionTold net_file before (IsReported after) → IsReplayOutcome net_file script_file status before after
replay_description is h =
    record { replayed = other is (λ e. omega (arith, e)); memory = other is (λ e. omega (arith, e)); description = λ _. h; unread = other is (λ e. omega (arith, e)); faulty = other is (λ e. omega (arith, e)); unwritten = other is (λ e. omega (arith, e)); script = other is (λ e. omega (arith, e)); statuses = inr (inr (inl is)) }

replay_unread : {net_file script_file : List ℕ} {status : ℕ} {before after : Shown} → status ≡ 5 → IsUnreadTold net_file script_file before (IsReported after) → IsReplayOutcome net_file script_file status before after
replay_unread is h =
    record { replayed = other is (λ e. omega (arith, e)); memory = other is (λ e. omega (arith, e)); description = other is (λ e. omega (arith, e)); unread = λ _. h; faulty = other is (λ e. omega (arith, e)); unwritten = other is (λ e. omega (arith, e)); script = other is (λ e. omega (arith, e)); statuses = inr (inr (inr (inl is))) }

pub replayed_faulty : {net_file script_file : List ℕ} {status : ℕ} {before after : Shown} → status ≡ 6 → HasReplayed before after net_file script_file Faulty → IsReplayOutcome net_file script_file status before after
replayed_faulty is h =
    record { replayed = other is (λ e. omega (arith, e)); memory = other is (λ e. omega (arith, e)); description = other is (λ e. omega (arith, e)); unread = other is (λ e. omega (arith, e)); faulty = λ _. h; unwritten = other is (λ e. omega (arith, e)); script = other is (λ e. omega (arith, e)); statuses = inr (inr (inr (inr (inl is)))) }

replay_unwritten : {net_file script_file : List ℕ} {status : ℕ} {before after : Shown} → status ≡ 7 → IsReplayUnwritten before after net_file script_file → IsReplayOutcome net_file script_file status before after
replay_unwritten is h =
    record { replayed = other is (λ e. omega (arith, e)); memory = other is (λ e. omega (arith, e)); description = other is (λ e. omega (arith, e)); unread = other is (λ e. omega (arith, e)); faulty = other is (λ e. omega (arith, e)); unwritten = λ _. h; script = other is (λ e. omega (arith, e)); statuses = inr (inr (inr (inr (inr (inl is))))) }

replay_script : {net_file script_file : List ℕ} {status : ℕ} {before after : Shown} → status ≡ 8 → IsScriptTold net_file script_file before (IsReported after) → IsReplayOutcome net_file script_file status before after
replay_script is h =
    record { replayed = other is (λ e. omega (arith, e)); memory = other is (λ e. omega (arith, e)); description = other is (λ e. omega (arith, e)); unread = other is (λ e. omega (arith, e)); faulty = other is (λ e. omega (arith, e)); unwritten = other is (λ e. omega (arith, e)); script = λ _. h; statuses = inr (inr (inr (inr (inr (inr is))))) }

-- a replay that is not done comes to this
pub replay_answered : (net_file script_file : List ℕ) (before tried after : Shown) (failure : Failure) (status : ℕ) → HasNotReplayed net_file script_file before tried failure → IsAnswerTo failure status tried after
    → IsReplayOutcome net_file script_file status before after
replay_answered net_file script_file before tried after (Refused Usage) status h answer = absurd h
replay_answered net_file script_file before tried after (Refused (Description fault)) status h (inl answer) = replay_description answer.0 (tried, fault.kind, fault.path, h, answer.1)
replay_answered net_file script_file before tried after (Refused (Description fault)) status h (inr answer) = replay_memory answer.0 (inr (inr (inl (tried, fault.kind, fault.path, h, answer.1))))
replay_answered net_file script_file before tried after (Refused (Unread name)) status h (inl answer) = replay_unread answer.0 (tried, name.now, h, answer.1)
replay_answered net_file script_file before tried after (Refused (Unread name)) status h (inr answer) = replay_memory answer.0 (inr (inr (inr (inl (tried, name.now, h, answer.1)))))
replay_answered net_file script_file before tried after (Refused (Script line reason)) status h (inl answer) = replay_script answer.0 (tried, line, reason, h, answer.1)
replay_answered net_file script_file before tried after (Refused (Script line reason)) status h (inr answer) = replay_memory answer.0 (inr (inr (inr (inr (tried, line, reason, h, answer.1)))))
replay_answered net_file script_file before tried after (Refused (Input text)) status h answer = absurd h
replay_answered net_file script_file before tried after (Refused (Source unit fault)) status h answer = absurd h
replay_answered net_file script_file before tried after Write status h answer = replay_unwritten answer.0 (rw answer.1 h)
replay_answered net_file script_file before tried after Memory status (inl h) answer = replay_memory answer.0 (inl (rw answer.1 h))
replay_answered net_file script_file before tried after Memory status (inr h) answer = replay_memory answer.0 (inr (inl (rw answer.1 h)))

-- the outcome of `show` with each status

pub shown : {framing : Framing} {file : List ℕ} {status : ℕ} {before after : Shown} → status ≡ 0 → HasShown framing file before after → IsShowOutcome framing file status before after
shown is h = record { shown = λ _. h; memory = other is (λ e. omega (arith, e)); unread = other is (λ e. omega (arith, e)); unwritten = other is (λ e. omega (arith, e)); faulty = other is (λ e. omega (arith, e)); statuses = inl is }

show_memory : {framing : Framing} {file : List ℕ} {status : ℕ} {before after : Shown} → status ≡ 1 → IsShowWithoutMemory framing file before after → IsShowOutcome framing file status before after
show_memory is h = record { shown = other is (λ e. omega (arith, e)); memory = λ _. h; unread = other is (λ e. omega (arith, e)); unwritten = other is (λ e. omega (arith, e)); faulty = other is (λ e. omega (arith, e)); statuses = inr (inl is) }

show_unread : {framing : Framing} {file : List ℕ} {status : ℕ} {before after : Shown} → status ≡ 5 → IsInputUnread file before (IsReported after) → IsShowOutcome framing file status before after
show_unread is h = record { shown = other is (λ e. omega (arith, e)); memory = other is (λ e. omega (arith, e)); unread = λ _. h; unwritten = other is (λ e. omega (arith, e)); faulty = other is (λ e. omega (arith, e)); statuses = inr (inr (inl is)) }

show_unwritten : {framing : Framing} {file : List ℕ} {status : ℕ} {before after : Shown} → status ≡ 7 → IsShowUnwritten framing file before after → IsShowOutcome framing file status before after
show_unwritten is h = record { shown = other is (λ e. omega (arith, e)); memory = other is (λ e. omega (arith, e)); unread = other is (λ e. omega (arith, e)); unwritten = λ _. h; faulty = other is (λ e. omega (arith, e)); statuses = inr (inr (inr (inl is))) }

show_faulty : {framing : Framing} {file : List ℕ} {status : ℕ} {before after : Shown} → status ≡ 9 → IsFaultyInputTold framing file before (IsReported after) → IsShowOutcome framing file status before after
show_faulty is h = record { shown = other is (λ e. omega (arith, e)); memory = other is (λ e. omega (arith, e)); unread = other is (λ e. omega (arith, e)); unwritten = other is (λ e. omega (arith, e)); faulty = λ _. h; statuses = inr (inr (inr (inr is))) }

faulty_told : {framing : Framing} {file : List ℕ} {before tried : Shown} {text : List ℕ} {Told : Shown → List ℕ → Type 0} → IsFaultyInput framing file before tried text → Told tried text → IsFaultyInputTold framing file before Told
faulty_told h told = record { read = _; end = h.0; faulty = h.1; text = _; input = h.2; told = told }

-- a file that is not shown comes to this
pub show_answered : (framing : Framing) (file : List ℕ) (before tried after : Shown) (failure : Failure) (status : ℕ) → HasNotShown framing file before tried failure → IsAnswerTo failure status tried after
    → IsShowOutcome framing file status before after
show_answered framing file before tried after (Refused Usage) status h answer = absurd h
show_answered framing file before tried after (Refused (Description fault)) status h answer = absurd h
show_answered framing file before tried after (Refused (Unread name)) status h (inl answer) = show_unread answer.0 (tried, h.1, rw (← h.0) answer.1)
show_answered framing file before tried after (Refused (Unread name)) status h (inr answer) = show_memory answer.0 (inr (inl (tried, h.1, rw (← h.0) answer.1)))
show_answered framing file before tried after (Refused (Script line reason)) status h answer = absurd h
show_answered framing file before tried after (Refused (Source unit fault)) status h answer = absurd h
show_answered framing file before tried after (Refused (Input text)) status h (inl answer) = show_faulty answer.0 (faulty_told h answer.1)
show_answered framing file before tried after (Refused (Input text)) status h (inr answer) = show_memory answer.0 (inr (inr (faulty_told h answer.1)))
show_answered framing file before tried after Write status h answer = show_unwritten answer.0 (rw answer.1 h)
show_answered framing file before tried after Memory status h answer = show_memory answer.0 (inl (rw answer.1 h))
