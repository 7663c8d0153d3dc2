-- What a unit wants, and the replies that it takes.
use Rattle.std.proofs.Common.{◌≡◌, ℕ, List, [], ◌∷◌, ◌++◌, Option, Some, None, IfSome, refl, sym, ap, ◌∙◌, subst}
use Rattle.std.specs.Prelude.{MatchOption, option_map, slice_get}
use Rattle.com_events.specs.Calls.{AreNames, IsWellFormed}
use Rattle.com_events.specs.declared.call.Call.{Call}
use Rattle.com_events.specs.declared.call.StopReason.{StopReason}
use Rattle.com_events.specs.declared.reply.Reply.{Reply}
use Rattle.cob_meaning.specs.Storage.{Storage}
use Rattle.cob_meaning.specs.Sources.{IsProgramOf}
use Rattle.cob_meaning.specs.Meaning.{Program, Wants, Stopped, beginning, meaning, unit_limits, with_names}
use Rattle.cob_meaning.specs.Sound.{AreFit, AreWellFormed, IsFit, IsWantWellFormed}
use Rattle.cob_meaning.specs.Verbs.{Request}
use Rattle.cob_flat.specs.declared.code.Instruction.{Instruction}
use Rattle.cob_flat.specs.Compiled.{IsCompiled}
use Rattle.cob_run.specs.declared.want.Want.{Want}
use Rattle.cob_run.specs.declared.want.Want.TheVariants.{Verb, Stop}
use Rattle.cob_run.specs.declared.returns.Mode.{Mode}
use Rattle.cob_run.specs.declared.returns.Mode.TheVariants as mode
use Rattle.cob_run.specs.Machine.{Machine, machine_begun, replied, requested_at}
use Rattle.cob_run.specs.Places.{Stands, StandsBy}
use Rattle.cob_run.specs.Units.{AreAnswered, IsNewFor, IsReplyFor, IsWantOf, StandsFor, UnitState, request_in, wanted_call}
use Rattle.cob_run.specs.inner.Requests.{IsCallOf, IsFitFor}
use Rattle.cob_run.proofs.Calls.{IsWanted, begins, stops, takes, wants}

-- replies that fit their calls, one by one
answered_fit : (calls : List Call) (replies : List Reply) → AreAnswered calls replies → AreFit calls replies
answered_fit [] replies h = tt
answered_fit (c ∷ cs) (r ∷ rs) h = (h.0, answered_fit cs rs h.1)
answered_fit (c ∷ cs) [] h = absurd h

answered_more : (calls : List Call) (replies : List Reply) (call : Call) (reply : Reply) → AreAnswered calls replies → IsFit call reply → AreAnswered (calls ++ call ∷ []) (replies ++ reply ∷ [])
answered_more [] [] call reply h f = (f, tt)
answered_more (c ∷ cs) (r ∷ rs) call reply h f = (h.0, answered_more cs rs call reply h.1 f)
answered_more (c ∷ cs) [] call reply h f = absurd h
answered_more [] (r ∷ rs) call reply h f = absurd h

-- a unit that begins
pub begun_stands : (program : Program) (names : Option (List ℕ)) (old new : UnitState) → IsNewFor program old → IfSome names AreNames → new.code ≡ old.code → new.starts ≡ old.starts
    → new.machine ≡ machine_begun old.starts (with_names old.initial names old.machine.storage) unit_limits.statements unit_limits.verbs → StandsFor program names [] new
begun_stands program names old new n a c s m =
    let compiled : IsCompiled program new.code new.starts = subst (λ x. IsCompiled program x new.starts) (sym c) (subst (λ x. IsCompiled program old.code x) (sym s) n.compiled) in
    let there : new.machine ≡ machine_begun new.starts (beginning unit_limits program.layout names []).storage unit_limits.statements unit_limits.verbs =
    m ∙ ap (λ x. machine_begun x (with_names old.initial names old.machine.storage) unit_limits.statements unit_limits.verbs) (sym s)
    ∙ ap (λ x. machine_begun new.starts (with_names x names old.machine.storage) unit_limits.statements unit_limits.verbs) n.initial
    ∙ ap (λ x. machine_begun new.starts (with_names program.layout.initial names x) unit_limits.statements unit_limits.verbs) n.opening in
    record {
      source = n.source;
      program_is = n.program_is;
      names_are = a;
      compiled = compiled;
      calls = [];
      answered = tt;
      stands = subst (Stands program new.code names [] []) (sym there) (begins program new.code new.starts compiled names);
    }

-- the code stays
pub still_stands : (program : Program) (names : Option (List ℕ)) (replies : List Reply) (old new : UnitState) → new.code ≡ old.code → new.starts ≡ old.starts
    → ((calls : List Call) → IsCompiled program old.code old.starts → Stands program old.code names replies calls old.machine → Stands program old.code names replies calls new.machine)
    → StandsFor program names replies old → StandsFor program names replies new
still_stands program names replies old new c s h g = record {
  source = g.source;
  program_is = g.program_is;
  names_are = g.names_are;
  compiled = subst (λ x. IsCompiled program x new.starts) (sym c) (subst (λ x. IsCompiled program old.code x) (sym s) g.compiled);
  calls = g.calls;
  answered = g.answered;
  stands = subst (λ x. Stands program x names replies g.calls new.machine) (sym c) (h g.calls g.compiled g.stands);
}

module _ (program : Program) (names : Option (List ℕ)) (replies : List Reply) (unit : UnitState) (s : StandsFor program names replies unit) where
  pub not_begun : unit.machine.mode ≡ mode.NotBegun → ⊥
  not_begun e = subst (StandsBy program unit.code names replies s.calls unit.machine) e s.stands

  pub want_stop : (reason : StopReason) → unit.machine.mode ≡ mode.Stopped reason → IsWantOf program names replies unit (Stop reason)
  want_stop reason e = record {
    ending = ap (λ m. m.ending) (stops program unit.code names replies s.calls unit.machine reason e s.stands);
    well_formed = tt;
    wanted = ap (λ x. option_map (λ request. request.call) (request_in x unit.code unit.machine)) e;
  }

  waiting : unit.machine.mode ≡ mode.Waiting → IsWanted program unit.code names replies s.calls unit.machine
  waiting e = wants program unit.code names replies s.calls unit.machine e s.stands

  module _ (law : AreFit (meaning program names replies).calls replies → AreWellFormed (meaning program names replies)) (e : unit.machine.mode ≡ mode.Waiting) where
    well_formed : IsWellFormed (waiting e).request.call
    well_formed =
        let w = waiting e in
        let fit : AreFit (meaning program names replies).calls replies = subst (λ m. AreFit m.calls replies) (sym w.means) (answered_fit s.calls replies s.answered) in
        let all = law fit in
        subst (λ m. IsWantWellFormed m.ending) w.means all.wanted

    found_is : (found : Option Call) → IsCallOf (requested_at (slice_get unit.code unit.machine.place) unit.machine.storage) found → found ≡ Some (waiting e).request.call
    found_is found h = (subst (λ o. IsCallOf o found) (waiting e).request_is h) well_formed

    pub some_found : IsCallOf (requested_at (slice_get unit.code unit.machine.place) unit.machine.storage) None → ⊥
    some_found h = let no = found_is None h in cc

    pub want_verb : (call : Call) → IsCallOf (requested_at (slice_get unit.code unit.machine.place) unit.machine.storage) (Some call) → IsWantOf program names replies unit (Verb call)
    want_verb call h =
        let w = waiting e in
        let same : w.request.call ≡ call = (let f = found_is (Some call) h in cc) in
        record {
          ending = ap (λ m. m.ending) w.means ∙ ap Wants same;
          well_formed = subst IsWellFormed same well_formed;
          wanted = ap (λ x. option_map (λ request. request.call) (request_in x unit.code unit.machine)) e ∙ ap (option_map (λ request. request.call)) w.request_is ∙ ap Some same;
        }

-- THE REPLY

-- a unit that wants a reply waits with a request
pub record IsAwaiting (unit : UnitState) (reply : Reply) : Type 0 where
  pub waits : unit.machine.mode ≡ mode.Waiting
  pub request : Request
  pub request_is : requested_at (slice_get unit.code unit.machine.place) unit.machine.storage ≡ Some request
  pub fit : IsFit request.call reply

pub awaits : (unit : UnitState) (reply : Reply) → IsReplyFor unit reply → IsAwaiting unit reply
awaits unit reply = by unit.machine.mode refl
  where
    there : (o : Option Request) → requested_at (slice_get unit.code unit.machine.place) unit.machine.storage ≡ o → unit.machine.mode ≡ mode.Waiting
        → MatchOption (option_map (λ request. request.call) o) ⊥ (λ call. IsFit call reply) → IsAwaiting unit reply
    there None g e h = absurd h
    there (Some r) g e h = record { waits = e; request = r; request_is = g; fit = h }

    by : (x : Mode) → unit.machine.mode ≡ x → MatchOption (option_map (λ request. request.call) (request_in x unit.code unit.machine)) ⊥ (λ call. IsFit call reply) → IsAwaiting unit reply
    by mode.NotBegun e h = absurd h
    by mode.Running e h = absurd h
    by mode.Waiting e h = there (requested_at (slice_get unit.code unit.machine.place) unit.machine.storage) refl e h
    by (mode.Stopped reason) e h = absurd h

pub awaited_fit : (unit : UnitState) (reply : Reply) → IsReplyFor unit reply → IsFitFor (requested_at (slice_get unit.code unit.machine.place) unit.machine.storage) reply
awaited_fit unit reply h = let w = awaits unit reply h in subst (λ o. IsFitFor o reply) (sym w.request_is) w.fit

pub answered_stands : (program : Program) (names : Option (List ℕ)) (replies : List Reply) (old new : UnitState) (reply : Reply) → IsReplyFor old reply → new.code ≡ old.code → new.starts ≡ old.starts
    → new.machine ≡ replied (slice_get old.code old.machine.place) reply old.machine → StandsFor program names replies old → StandsFor program names (replies ++ reply ∷ []) new
answered_stands program names replies old new reply fits c s m g =
    let w = awaits old reply fits in
    record {
      source = g.source;
      program_is = g.program_is;
      names_are = g.names_are;
      compiled = subst (λ x. IsCompiled program x new.starts) (sym c) (subst (λ x. IsCompiled program old.code x) (sym s) g.compiled);
      calls = g.calls ++ w.request.call ∷ [];
      answered = answered_more g.calls replies w.request.call reply g.answered w.fit;
      stands = subst (λ x. Stands program x names (replies ++ reply ∷ []) (g.calls ++ w.request.call ∷ []) new.machine) (sym c)
          (subst (Stands program old.code names (replies ++ reply ∷ []) (g.calls ++ w.request.call ∷ [])) (sym m)
          (takes program old.code names replies g.calls old.machine reply w.request w.waits w.request_is g.stands));
    }

-- THE SAME, OF FIELDS THAT ARE OPEN

pub begun_by_fields : (program : Program) (names : Option (List ℕ)) (fields old new : UnitState) (starts : List ℕ) → fields ≡ old → IfSome names AreNames → starts ≡ fields.starts → new.code ≡ fields.code → new.starts ≡ fields.starts
    → new.machine ≡ machine_begun starts (with_names fields.initial names fields.machine.storage) unit_limits.statements unit_limits.verbs → IsNewFor program old → StandsFor program names [] new
begun_by_fields program names fields old new starts e a h c s m n =
    begun_stands program names fields new (subst (IsNewFor program) (sym e) n) a c s (m ∙ ap (λ x. machine_begun x (with_names fields.initial names fields.machine.storage) unit_limits.statements unit_limits.verbs) h)

pub answered_by_fields : (program : Program) (names : Option (List ℕ)) (replies : List Reply) (fields old new : UnitState) (reply : Reply) (code : List Instruction) → fields ≡ old → IsReplyFor old reply → code ≡ fields.code → new.code ≡ fields.code → new.starts ≡ fields.starts
    → new.machine ≡ replied (slice_get code fields.machine.place) reply fields.machine → StandsFor program names replies old → StandsFor program names (replies ++ reply ∷ []) new
answered_by_fields program names replies fields old new reply code e r h c s m g =
    answered_stands program names replies fields new reply (subst (λ u. IsReplyFor u reply) (sym e) r) c s
    (m ∙ ap (λ x. replied (slice_get x fields.machine.place) reply fields.machine) h) (subst (StandsFor program names replies) (sym e) g)

pub ran_by_fields : (program : Program) (names : Option (List ℕ)) (replies : List Reply) (fields old new : UnitState) (code : List Instruction) (starts : List ℕ) → fields ≡ old → code ≡ fields.code → starts ≡ fields.starts → new.code ≡ fields.code → new.starts ≡ fields.starts
    → ((p : Program) (n : Option (List ℕ)) (r : List Reply) (calls : List Call) → IsCompiled p code starts → Stands p code n r calls fields.machine → Stands p code n r calls new.machine)
    → StandsFor program names replies old → StandsFor program names replies new
ran_by_fields program names replies fields old new code starts e k l c s h g =
    still_stands program names replies fields new c s
    (λ calls compiled stands. subst (λ x. Stands program x names replies calls new.machine) k
    (h program names replies calls (subst (λ x. IsCompiled program x starts) (sym k) (subst (λ x. IsCompiled program fields.code x) (sym l) compiled)) (subst (λ x. Stands program x names replies calls fields.machine) (sym k) stands)))
    (subst (StandsFor program names replies) (sym e) g)

-- what was found for a machine was found for its unit
call_at : (unit : UnitState) (code : List Instruction) (m : Machine) (found o : Option Call) → unit.code ≡ code → unit.machine ≡ m → found ≡ o
    → IsCallOf (requested_at (slice_get code m.place) m.storage) found → IsCallOf (requested_at (slice_get unit.code unit.machine.place) unit.machine.storage) o
call_at unit code m found o c n f h =
    subst (λ x. IsCallOf (requested_at (slice_get unit.code unit.machine.place) unit.machine.storage) x) f
    (subst (λ x. IsCallOf (requested_at (slice_get x unit.machine.place) unit.machine.storage) found) (sym c)
    (subst (λ x. IsCallOf (requested_at (slice_get code x.place) x.storage) found) (sym n) h))

module _ (law : (source : List ℕ) (program : Program) (names : Option (List ℕ)) (replies : List Reply) → IsProgramOf source program → IfSome names AreNames → AreFit (meaning program names replies).calls replies → AreWellFormed (meaning program names replies))
    (fields unit : UnitState) (view : fields ≡ unit) (code : List Instruction) (same : code ≡ fields.code) (now : Mode) (now_is : now ≡ fields.machine.mode) where
  mode_of : (x : Mode) → now ≡ x → unit.machine.mode ≡ x
  mode_of x e = ap (λ u. u.machine.mode) (sym view) ∙ sym now_is ∙ e

  pub stop_of : (reason : StopReason) → now ≡ mode.Stopped reason → (program : Program) (names : Option (List ℕ)) (replies : List Reply) → StandsFor program names replies unit → IsWantOf program names replies unit (Stop reason)
  stop_of reason e program names replies h = want_stop program names replies unit h reason (mode_of (mode.Stopped reason) e)

  pub verb_of : (call : Call) (found : Option Call) → now ≡ mode.Waiting → found ≡ Some call → IsCallOf (requested_at (slice_get code fields.machine.place) fields.machine.storage) found
      → (program : Program) (names : Option (List ℕ)) (replies : List Reply) → StandsFor program names replies unit → IsWantOf program names replies unit (Verb call)
  verb_of call found e f k program names replies h =
      want_verb program names replies unit h (law h.source program names replies h.program_is h.names_are) (mode_of mode.Waiting e) call
      (call_at unit code fields.machine found (Some call) (ap (λ u. u.code) (sym view) ∙ sym same) (ap (λ u. u.machine) (sym view)) f k)

  pub none_of : (found : Option Call) (want : Want) → now ≡ mode.Waiting → found ≡ None → IsCallOf (requested_at (slice_get code fields.machine.place) fields.machine.storage) found
      → (program : Program) (names : Option (List ℕ)) (replies : List Reply) → StandsFor program names replies unit → IsWantOf program names replies unit want
  none_of found want e f k program names replies h =
      absurd (some_found program names replies unit h (law h.source program names replies h.program_is h.names_are) (mode_of mode.Waiting e)
      (call_at unit code fields.machine found None (ap (λ u. u.code) (sym view) ∙ sym same) (ap (λ u. u.machine) (sym view)) f k))

  pub new_of : (want : Want) → now ≡ mode.NotBegun → (program : Program) (names : Option (List ℕ)) (replies : List Reply) → StandsFor program names replies unit → IsWantOf program names replies unit want
  new_of want e program names replies h = absurd (not_begun program names replies unit h (mode_of mode.NotBegun e))

  pub running_of : (want : Want) → now ≡ mode.Running → (unit.machine.mode ≡ mode.Running → ⊥) → (program : Program) (names : Option (List ℕ)) (replies : List Reply) → StandsFor program names replies unit → IsWantOf program names replies unit want
  running_of want e over program names replies h = absurd (over (mode_of mode.Running e))
