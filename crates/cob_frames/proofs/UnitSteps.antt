-- Units that begin, go on, stop, want a call and take its reply.
use Rattle.std.proofs.Common.{◌≡◌, ℕ, zero, suc, ◌-◌, ◌<◌, true, false, nat_eq, List, [], ◌∷◌, ◌++◌, Option, refl, sym, ap, ◌∙◌, arith, true≢false, append_assoc, append-nil}
use Rattle.std.proofs.Math.Dec.{eqb-suc-zero}
use Rattle.com_events.specs.declared.call.Call.{Call}
use Rattle.com_events.specs.declared.call.StopReason.{StopReason}
use Rattle.com_events.specs.declared.call.StopReason.TheVariants as stop
use Rattle.com_events.specs.declared.reply.Reply.{Reply}
use Rattle.com_events.specs.declared.reply.Reply.TheVariants.{Started, Given, NoData, Refused, Waits as IsWaiting, AreaIn, AreaOut, Arrived, Done}
use Rattle.cob_proc.specs.Trees.{Block}
use Rattle.cob_meaning.specs.Storage.{Storage}
use Rattle.cob_meaning.specs.Verbs.{Request}
use Rattle.cob_meaning.specs.Meaning.{Outcome, Normal, Jump, Stops, Program, Run, Stopped, Wants, after_reply, begun, begun_with, times, then_do, do_all, meaning, meaning_of, requested, verb, verb_with}
use Rattle.cob_frames.specs.Frames.{Frame, frames_do, frames_after_go, range_does, unit_bound}
use Rattle.cob_frames.specs.Units.{Progress, run_of, goes_on, opening_progress, Leads, Runs, Waits, HasStopped, frames_after_reply, progress_after_reply}
use Rattle.cob_frames.proofs.FrameSteps.{whole_text_does, stop_stays, need_stays, go_goes_on}

-- nothing more may be begun
pub begun_none : (f : Run → Outcome) (run : Run) → nat_eq run.left 0 ≡ true
    → begun f run ≡ Stops stop.Limit run
begun_none f run = by run.left
  where
    by : (n : ℕ) → nat_eq n 0 ≡ true → begun_with n f run ≡ Stops stop.Limit run
    by zero e = refl
    by (suc n) e = absurd (true≢false (sym e ∙ eqb-suc-zero n))

-- one more statement or turn is begun
pub begun_one : (f : Run → Outcome) (run : Run) → nat_eq run.left 0 ≡ false
    → begun f run ≡ f (record run { left = run.left - 1 })
begun_one f run = by run.left
  where
    by : (n : ℕ) → nat_eq n 0 ≡ false → begun_with n f run ≡ f (record run { left = n - 1 })
    by zero e = absurd (true≢false e)
    by (suc n) e =
        let same : n ≡ suc n - 1 = omega arith in ap (λ m. f (record run { left = m })) same

-- no more verbs may be answered
pub verb_none : (request : Storage → Option Request) (no_data : Run → Outcome) (run : Run)
    → nat_eq run.verbs 0 ≡ true → verb request no_data run ≡ Stops stop.Limit run
verb_none request no_data run = by run.verbs
  where
    by : (n : ℕ) → nat_eq n 0 ≡ true → verb_with n request no_data run ≡ Stops stop.Limit run
    by zero e = refl
    by (suc n) e = absurd (true≢false (sym e ∙ eqb-suc-zero n))

-- one more verb makes its request
pub verb_one : (request : Storage → Option Request) (no_data : Run → Outcome) (run : Run)
    → nat_eq run.verbs 0 ≡ false
    → verb request no_data run
    ≡ requested (request run.storage) no_data (record run { verbs = run.verbs - 1 })
verb_one request no_data run = by run.verbs
  where
    by : (n : ℕ) → nat_eq n 0 ≡ false
        → verb_with n request no_data run
        ≡ requested (request run.storage) no_data (record run { verbs = n - 1 })
    by zero e = absurd (true≢false e)
    by (suc n) e =
        let same : n ≡ suc n - 1 = omega arith in
        ap (λ m. requested (request run.storage) no_data (record run { verbs = m })) same

-- no turn is left
pub times_none : (n : ℕ) (turn : Run → Outcome) (run : Run) → nat_eq n 0 ≡ true
    → times n turn run ≡ Normal run
times_none zero turn run e = refl
times_none (suc n) turn run e = absurd (true≢false (sym e ∙ eqb-suc-zero n))

-- one more turn is begun
pub times_one : (n : ℕ) (turn : Run → Outcome) (run : Run) → nat_eq n 0 ≡ false
    → times n turn run ≡ begun (λ r. then_do (turn r) (times (n - 1) turn)) run
times_one zero turn run e = absurd (true≢false e)
times_one (suc n) turn run e =
    let same : n ≡ suc n - 1 = omega arith in
    ap (λ m. begun (λ r. then_do (turn r) (times m turn)) run) same

-- a unit begins
pub begins : (program : Program) (names : Option (List ℕ))
    → Runs program names [] (opening_progress program names)
begins program names = record {
  within = omega arith;
  leads = λ more. whole_text_does program names more;
}

module _ (program : Program) (names : Option (List ℕ)) (replies : List Reply) where
  abbrev Do : List Frame → Outcome → Outcome
  Do = frames_do unit_bound program.layout program.text

  -- what stops whatever replies come stops the unit
  pub stops_at : (p : Progress) (f : Run → Outcome) (reason : StopReason)
      → Leads program names replies p f
      → ((more : List Reply) → f (run_of p more) ≡ Stops reason (run_of p more))
      → HasStopped program names replies reason p.calls
  stops_at p f reason l e = λ more.
      l more ∙ ap (goes_on program p) (e more)
      ∙ ap meaning_of
      (stop_stays unit_bound program.layout program.text p.frames reason (run_of p more))

  -- the limit stops the unit if nothing more may be begun
  pub limit_stops : (p : Progress) (f : Run → Outcome)
      → Leads program names replies p (begun f) → nat_eq p.left 0 ≡ true
      → HasStopped program names replies stop.Limit p.calls
  limit_stops p f l e = stops_at p (begun f) stop.Limit l (λ more. begun_none f (run_of p more) e)

  -- a statement or a turn is counted
  pub counts : (p : Progress) (f : Run → Outcome)
      → Leads program names replies p (begun f) → nat_eq p.left 0 ≡ false
      → Leads program names replies (record p { left = p.left - 1 }) f
  counts p f l e = λ more. l more ∙ ap (goes_on program p) (begun_one f (run_of p more) e)

  -- a GO goes on at its paragraph
  pub goes_there : (p : Progress) (to : ℕ) → p.left < unit_bound
      → Leads program names replies p (Jump to)
      → Leads program names replies (record p { frames = frames_after_go to p.frames }) Normal
  goes_there p to lt l = λ more.
      l more ∙ go_goes_on unit_bound program.layout program.text p.frames to (run_of p more) lt

  -- the end of all frames stops the unit
  pub ends : (p : Progress) → p.frames ≡ [] → Leads program names replies p Normal
      → HasStopped program names replies stop.Run p.calls
  ends p e l = λ more. l more ∙ ap (λ fs. meaning_of (Do fs (Normal (run_of p more)))) e

  -- the call that a unit waits with is the one that its program wants
  pub wants : (request : Request) (no_data : Block) (p : Progress)
      → Waits program names replies request no_data p
      → meaning program names replies ≡ record { calls = p.calls; ending = Wants request.call }
  wants request no_data p w =
      ap (meaning program names) (sym (append-nil replies)) ∙ w.leads []
      ∙ ap meaning_of
      (need_stays unit_bound program.layout program.text p.frames request.call (run_of p []))

  -- a unit that has stopped has stopped as its program does
  pub stopped_is : (reason : StopReason) (calls : List Call)
      → HasStopped program names replies reason calls
      → meaning program names replies ≡ record { calls = calls; ending = Stopped reason }
  stopped_is reason calls h = ap (meaning program names) (sym (append-nil replies)) ∙ h []

  -- a unit takes the reply to its verb
  pub takes : (request : Request) (no_data : Block) (reply : Reply) (p : Progress)
      → Waits program names replies request no_data p
      → Runs program names (replies ++ reply ∷ []) (progress_after_reply request no_data reply p)
  takes request no_data reply p w = record {
    within = w.within;
    leads = λ more.
        ap (meaning program names) (append_assoc replies (reply ∷ []) more)
        ∙ w.leads (reply ∷ more)
        ∙ by reply (run_of (progress_after_reply request no_data reply p) more);
  }
    where
      by : (answer : Reply) (run : Run)
          → meaning_of (Do p.frames (after_reply answer
          (do_all program.layout program.text unit_bound
          (range_does unit_bound program.layout program.text) no_data) run))
          ≡ meaning_of (Do (frames_after_reply answer no_data p.frames) (Normal run))
      by (NoData area) run = refl
      by (Started names_) run = refl
      by (Given area text) run = refl
      by (Refused area) run = refl
      by IsWaiting run = refl
      by (AreaIn area) run = refl
      by (AreaOut area) run = refl
      by (Arrived number) run = refl
      by Done run = refl
