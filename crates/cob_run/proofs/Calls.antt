-- A machine that is begun, its wants, and replies to them.
use Rattle.std.proofs.Common.{◌≡◌, ℕ, ◌-◌, List, [], ◌∷◌, ◌++◌, length, Option, Some, refl, sym, ap, ◌∙◌, subst, arith}
use Rattle.std.specs.Prelude.{slice_get}
use Rattle.com_events.specs.declared.call.Call.{Call}
use Rattle.com_events.specs.declared.call.StopReason.{StopReason}
use Rattle.com_events.specs.declared.reply.Reply.{Reply}
use Rattle.com_events.specs.declared.reply.Reply.TheVariants.{Started, Given, NoData, Refused, Waits as IsWaiting, AreaIn, AreaOut, Arrived, Done}
use Rattle.cob_meaning.specs.Verbs.{Request}
use Rattle.cob_meaning.specs.Meaning.{Program, Stopped, Wants, beginning, meaning, unit_limits}
use Rattle.cob_frames.specs.Units.{frames_after_reply}
use Rattle.cob_frames.proofs.UnitSteps as stands
use Rattle.cob_flat.specs.Compiled.{IsCompiled}
use Rattle.cob_flat.specs.declared.code.Instruction.{Instruction}
use Rattle.cob_run.specs.declared.returns.Mode.TheVariants as mode
use Rattle.cob_run.specs.Machine.{Machine, machine_begun, place_after, replied, requested_at, stored_by}
use Rattle.cob_run.specs.Places.{IsAt, progress_of, StandsBy, Stands}
use Rattle.cob_run.proofs.Simulation.{enters}

-- a machine that is begun stands for its program and its names
pub begins : (program : Program) (code : List Instruction) (starts : List ℕ) → IsCompiled program code starts → (names : Option (List ℕ)) → Stands program code names [] [] (machine_begun starts (beginning unit_limits program.layout names []).storage unit_limits.statements unit_limits.verbs)
begins program code starts c names =
    let m : Machine = record { mode = mode.Running; place = 0; paragraph = 0; stack = []; storage = (beginning unit_limits program.layout names []).storage; left = unit_limits.statements; verbs = unit_limits.verbs } in
    let b = stands.begins program names in
    enters program code starts c names [] [] m 0 (length program.text - 1) [] refl b.within (omega arith) (omega (arith, c.some)) b.leads (refl, refl)

module _ (program : Program) (code : List Instruction) (names : Option (List ℕ)) (replies : List Reply) (calls : List Call) where
  -- what a machine wants that waits
  pub record IsWanted (m : Machine) : Type 0 where
    pub request : Request
    pub request_is : requested_at (slice_get code m.place) m.storage ≡ Some request
    pub means : meaning program names replies ≡ record { calls = calls; ending = Wants request.call }

  pub wants : (m : Machine) → m.mode ≡ mode.Waiting → Stands program code names replies calls m → IsWanted m
  wants m e h = by (subst (StandsBy program code names replies calls m) e h)
    where
      by : StandsBy program code names replies calls m mode.Waiting → IsWanted m
      by r = record {
        request = r.1;
        request_is = ap (λ o. requested_at o m.storage) r.4.instruction_is ∙ r.4.request_is;
        means = stands.wants program names replies r.1 r.2 (progress_of program code r.0 calls m) r.3;
      }

  -- the call that a machine waits with is the one that its program wants
  pub wants_it : (m : Machine) (request : Request) → m.mode ≡ mode.Waiting → Stands program code names replies calls m → requested_at (slice_get code m.place) m.storage ≡ Some request → meaning program names replies ≡ record { calls = calls; ending = Wants request.call }
  wants_it m request e h is =
      let w = wants m e h in
      let here : Some w.request ≡ Some request = sym w.request_is ∙ is in
      let same : w.request ≡ request = cc in
      w.means ∙ ap (λ r. record { calls = calls; ending = Wants r.call }) same

  -- why a machine has stopped
  pub stops : (m : Machine) (reason : StopReason) → m.mode ≡ mode.Stopped reason → Stands program code names replies calls m → meaning program names replies ≡ record { calls = calls; ending = Stopped reason }
  stops m reason e h = stands.stopped_is program names replies reason calls (subst (StandsBy program code names replies calls m) e h)

  -- the reply to the verb at which a machine waits
  pub takes : (m : Machine) (reply : Reply) (request : Request) → m.mode ≡ mode.Waiting → requested_at (slice_get code m.place) m.storage ≡ Some request → Stands program code names replies calls m → Stands program code names (replies ++ reply ∷ []) (calls ++ request.call ∷ []) (replied (slice_get code m.place) reply m)
  takes m reply request e is h = by (subst (StandsBy program code names replies calls m) e h)
    where
      by : StandsBy program code names replies calls m mode.Waiting → Stands program code names (replies ++ reply ∷ []) (calls ++ request.call ∷ []) (replied (slice_get code m.place) reply m)
      by r =
          let q = r.4 in
          let here : Some r.1 ≡ Some request = sym (ap (λ o. requested_at o m.storage) q.instruction_is ∙ q.request_is) ∙ is in
          let same : r.1 ≡ request = cc in
          let t = stands.takes program names replies r.1 r.2 reply (progress_of program code r.0 calls m) r.3 in
          subst (λ x. Stands program code names (replies ++ reply ∷ []) (calls ++ x.call ∷ []) (replied (slice_get code m.place) reply m)) same
          (subst (λ o. Stands program code names (replies ++ reply ∷ []) (calls ++ r.1.call ∷ []) (replied o reply m)) (sym q.instruction_is)
          (subst (λ o. Stands program code names (replies ++ reply ∷ []) (calls ++ r.1.call ∷ []) (record m { mode = mode.Running; storage = stored_by o reply m.storage; place = place_after reply q.at_none q.next })) (sym q.request_is)
          (frames_after_reply reply r.2 r.0, t, at reply)))
        where
          at : (answer : Reply) → IsAt program code (frames_after_reply answer r.2 r.0) (place_after answer r.4.at_none r.4.next) m.paragraph m.stack
          at (NoData area) = (r.4.next, r.4.does_none, r.4.stay_none, r.4.rest)
          at (Started names_) = r.4.rest
          at (Given area text) = r.4.rest
          at (Refused area) = r.4.rest
          at IsWaiting = r.4.rest
          at (AreaIn area) = r.4.rest
          at (AreaOut area) = r.4.rest
          at (Arrived number) = r.4.rest
          at Done = r.4.rest
