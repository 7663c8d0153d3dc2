-- From what a check came to, to what the public call promises.
use Rattle.std.proofs.Common.{◌≡◌, ℕ, List, ap, inl, inr, arith}
use Rattle.com_io.specs.Stores.{Shown}
use Rattle.com_net.specs.declared.net.Net.{Net}
use Rattle.mcs_top.specs.declared.report.Refusal.TheVariants.{Usage, Description, Unread, Source, Script, Input}
use Rattle.mcs_top.specs.declared.report.Failure.{Failure}
use Rattle.mcs_top.specs.declared.report.Failure.TheVariants.{Refused, Write, Memory}
use Rattle.mcs_top.specs.Check.{IsCheckTold, HasChecked, IsCheckUnwritten}
use Rattle.mcs_top.specs.Checking.{IsUnitsFailure, AreReadAndTold, AreChecked, AreNotChecked}
use Rattle.mcs_top.specs.Failing.{IsNetFailure}
use Rattle.mcs_top.specs.Outcome.{IsCheckOutcome, IsCheckWithoutMemory, IsDescriptionTold, IsCheckedFileUnreadTold, IsSourceTold}
use Rattle.mcs_top.specs.Replay.{IsNetRead}
use Rattle.mcs_top.specs.Reports.{IsReported, IsAnswerTo}
use Rattle.mcs_top.specs.Showing.{IsUnwrittenFor}
use Rattle.mcs_top.proofs.Outcomes.{other}

-- the outcome of `check` with each status

checked : {net_file : List ℕ} {status : ℕ} {before after : Shown} → status ≡ 0 → HasChecked net_file before after → IsCheckOutcome net_file status before after
checked is h = record { checked = λ _. h; memory = other is (λ e. omega (arith, e)); description = other is (λ e. omega (arith, e)); source = other is (λ e. omega (arith, e)); unread = other is (λ e. omega (arith, e)); unwritten = other is (λ e. omega (arith, e)); statuses = inl is }

check_memory : {net_file : List ℕ} {status : ℕ} {before after : Shown} → status ≡ 1 → IsCheckWithoutMemory net_file before after → IsCheckOutcome net_file status before after
check_memory is h =
    record { checked = other is (λ e. omega (arith, e)); memory = λ _. h; description = other is (λ e. omega (arith, e)); source = other is (λ e. omega (arith, e)); unread = other is (λ e. omega (arith, e)); unwritten = other is (λ e. omega (arith, e)); statuses = inr (inl is) }

check_description : {net_file : List ℕ} {status : ℕ} {before after : Shown} → status ≡ 3 → IsDescriptionTold net_file before (IsReported after) → IsCheckOutcome net_file status before after
check_description is h =
    record { checked = other is (λ e. omega (arith, e)); memory = other is (λ e. omega (arith, e)); description = λ _. h; source = other is (λ e. omega (arith, e)); unread = other is (λ e. omega (arith, e)); unwritten = other is (λ e. omega (arith, e)); statuses = inr (inr (inl is)) }

check_source : {net_file : List ℕ} {status : ℕ} {before after : Shown} → status ≡ 4 → IsSourceTold net_file before (IsReported after) → IsCheckOutcome net_file status before after
check_source is h =
    record { checked = other is (λ e. omega (arith, e)); memory = other is (λ e. omega (arith, e)); description = other is (λ e. omega (arith, e)); source = λ _. h; unread = other is (λ e. omega (arith, e)); unwritten = other is (λ e. omega (arith, e)); statuses = inr (inr (inr (inl is))) }

check_unread : {net_file : List ℕ} {status : ℕ} {before after : Shown} → status ≡ 5 → IsCheckedFileUnreadTold net_file before (IsReported after) → IsCheckOutcome net_file status before after
check_unread is h =
    record { checked = other is (λ e. omega (arith, e)); memory = other is (λ e. omega (arith, e)); description = other is (λ e. omega (arith, e)); source = other is (λ e. omega (arith, e)); unread = λ _. h; unwritten = other is (λ e. omega (arith, e)); statuses = inr (inr (inr (inr (inl is)))) }

check_unwritten : {net_file : List ℕ} {status : ℕ} {before after : Shown} → status ≡ 7 → IsCheckUnwritten net_file before after → IsCheckOutcome net_file status before after
check_unwritten is h =
    record { checked = other is (λ e. omega (arith, e)); memory = other is (λ e. omega (arith, e)); description = other is (λ e. omega (arith, e)); source = other is (λ e. omega (arith, e)); unread = other is (λ e. omega (arith, e)); unwritten = λ _. h; statuses = inr (inr (inr (inr (inr is)))) }

-- NET gave no network
pub net_answered : (net_file : List ℕ) (before tried after : Shown) (failure : Failure) (status : ℕ) → IsNetFailure net_file before tried failure → IsAnswerTo failure status tried after → IsCheckOutcome net_file status before after
net_answered net_file before tried after (Refused Usage) status h answer = absurd h
net_answered net_file before tried after (Refused (Description fault)) status h (inl answer) = check_description answer.0 (tried, fault.kind, fault.path, h, answer.1)
net_answered net_file before tried after (Refused (Description fault)) status h (inr answer) = check_memory answer.0 (inr (inr (inl (tried, fault.kind, fault.path, h, answer.1))))
net_answered net_file before tried after (Refused (Unread name)) status h (inl answer) = check_unread answer.0 (tried, name.now, inl (h.0, h.1), answer.1)
net_answered net_file before tried after (Refused (Unread name)) status h (inr answer) = check_memory answer.0 (inr (inr (inr (inl (tried, name.now, inl (h.0, h.1), answer.1)))))
net_answered net_file before tried after (Refused (Source unit fault)) status h answer = absurd h
net_answered net_file before tried after (Refused (Script line reason)) status h answer = absurd h
net_answered net_file before tried after (Refused (Input text)) status h answer = absurd h
net_answered net_file before tried after Write status h answer = absurd h
net_answered net_file before tried after Memory status h answer = check_memory answer.0 (inl (inl (rw answer.1 h)))

-- the programs were read, behind NET
all_read : {net_file : List ℕ} {net : Net} {before mid : Shown} {Told : Shown → List ℕ → Type 0} → IsNetRead net_file before mid net → AreReadAndTold net.units mid Told → IsCheckTold net_file before Told
all_read {net_file} {net} {before} {mid} net_read h = record {
  read = h.read;
  checked = record { net = net; between = mid; net_read = net_read; programs = h.are_read.programs; programs_read = h.are_read.are_read };
  told = h.told;
}

-- a program was not
stop_answered : (net_file : List ℕ) (net : Net) (before mid tried after : Shown) (failure : Failure) (status : ℕ) → IsNetRead net_file before mid net → IsUnitsFailure net.units mid tried failure → IsAnswerTo failure status tried after
    → IsCheckOutcome net_file status before after
stop_answered net_file net before mid tried after (Refused Usage) status net_read h answer = absurd h.why
stop_answered net_file net before mid tried after (Refused (Description fault)) status net_read h answer = absurd h.why
stop_answered net_file net before mid tried after (Refused (Unread name)) status net_read h (inl answer) = check_unread answer.0 (tried, name.now, inr (record { net = net; between = mid; net_read = net_read; stop = h }), answer.1)
stop_answered net_file net before mid tried after (Refused (Unread name)) status net_read h (inr answer) =
    check_memory answer.0 (inr (inr (inr (inl (tried, name.now, inr (record { net = net; between = mid; net_read = net_read; stop = h }), answer.1)))))
stop_answered net_file net before mid tried after (Refused (Source name fault)) status net_read h (inl answer) = check_source answer.0 (tried, name.now, fault, record { net = net; between = mid; net_read = net_read; stop = h }, answer.1)
stop_answered net_file net before mid tried after (Refused (Source name fault)) status net_read h (inr answer) =
    check_memory answer.0 (inr (inr (inr (inr (tried, name.now, fault, record { net = net; between = mid; net_read = net_read; stop = h }, answer.1)))))
stop_answered net_file net before mid tried after (Refused (Script line reason)) status net_read h answer = absurd h.why
stop_answered net_file net before mid tried after (Refused (Input text)) status net_read h answer = absurd h.why
stop_answered net_file net before mid tried after Write status net_read h answer = absurd h.why
stop_answered net_file net before mid tried after Memory status net_read h answer = check_memory answer.0 (inl (inr (rw answer.1 (record { net = net; between = mid; net_read = net_read; stop = h }))))

-- `ok` was not written
write_answered : (net_file : List ℕ) (net : Net) (before mid tried after : Shown) (failure : Failure) (status : ℕ) → IsNetRead net_file before mid net
    → AreReadAndTold net.units mid (λ read text. IsUnwrittenFor text read tried failure) → IsAnswerTo failure status tried after → IsCheckOutcome net_file status before after
write_answered net_file net before mid tried after (Refused refusal) status net_read h answer = absurd h.told
write_answered net_file net before mid tried after Write status net_read h answer = check_unwritten answer.0 (rw answer.1 (all_read net_read h))
write_answered net_file net before mid tried after Memory status net_read h answer = check_memory answer.0 (inr (inl (rw answer.1 (all_read net_read h))))

-- the programs were not all read, or `ok` was not written
pub units_answered : (net_file : List ℕ) (net : Net) (before mid tried after : Shown) (failure : Failure) (status : ℕ) → IsNetRead net_file before mid net → AreNotChecked net.units mid tried failure → IsAnswerTo failure status tried after
    → IsCheckOutcome net_file status before after
units_answered net_file net before mid tried after failure status net_read (inl h) answer = stop_answered net_file net before mid tried after failure status net_read h answer
units_answered net_file net before mid tried after failure status net_read (inr h) answer = write_answered net_file net before mid tried after failure status net_read h answer

-- all was done
pub all_checked : (net_file : List ℕ) (net : Net) (before mid after : Shown) (status : ℕ) → status ≡ 0 → IsNetRead net_file before mid net → AreChecked net.units mid after → IsCheckOutcome net_file status before after
all_checked net_file net before mid after status is net_read h = checked is (all_read net_read h)

-- an answer leaves as many files open as there were
pub answer_pending : (failure : Failure) (status : ℕ) (tried after : Shown) → IsAnswerTo failure status tried after → after.pending ≡ tried.pending
answer_pending (Refused refusal) status tried after (inl (is, inl written)) = written.no_fault.pending
answer_pending (Refused refusal) status tried after (inl (is, inr failed)) = failed.pending
answer_pending (Refused refusal) status tried after (inr (is, cut)) = cut.no_fault.pending
answer_pending Write status tried after answer = ap (λ shown. shown.pending) answer.1
answer_pending Memory status tried after answer = ap (λ shown. shown.pending) answer.1
