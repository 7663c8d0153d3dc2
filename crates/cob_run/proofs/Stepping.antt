-- What instructions keep, and how their parts go together.
use Rattle.std.proofs.Common.{◌≡◌, ℕ, zero, suc, ◌+◌, ◌-◌, Bool, true, false, cond, List, [], ◌∷◌, length, Option, Some, None, refl, sym, ap, ◌∙◌, subst}
use Rattle.std.specs.Prelude.{slice_get, nat_eq, nat_lt, option_map, is_some}
use Rattle.std.specs.List.{AllByRecursion}
use Rattle.com_events.specs.declared.call.StopReason.{StopReason}
use Rattle.com_events.specs.declared.call.StopReason.TheVariants as stop
use Rattle.cob_meaning.specs.Storage.{Storage}
use Rattle.cob_meaning.specs.Verbs.{Request}
use Rattle.cob_flat.specs.declared.code.Instruction.{Instruction}
use Rattle.cob_flat.specs.declared.code.Turns.{Turns}
use Rattle.cob_flat.specs.declared.code.Turns.TheVariants as turns
use Rattle.cob_flat.specs.Effects.{amount_by}
use Rattle.cob_run.specs.declared.returns.Further.{Further}
use Rattle.cob_run.specs.declared.returns.Further.TheVariants as further
use Rattle.cob_run.specs.declared.returns.Return.{Return}
use Rattle.cob_run.specs.declared.returns.Mode.TheVariants as mode
use Rattle.cob_run.specs.Machine.{Machine, asked, begun_as, begun_times, chosen, counted_turn, ended, entered, judged_by, performed, pushed, returned, stopped, turned, went_on}
use Rattle.cob_run.specs.Within.{IsInstructionIn, IsWithin}
use Rattle.cob_run.specs.inner.Stepping.{begun_by, counted_once, further_by, pushed_on}

-- an instruction of code whose operands are within areas
pub instruction_in : (sizes : List ℕ) (code : List Instruction) (i : ℕ) (x : Instruction) → IsWithin sizes code → slice_get code i ≡ Some x → IsInstructionIn sizes x
instruction_in sizes code i x h e = at code i h e
  where
    at : (l : List Instruction) (k : ℕ) → AllByRecursion (IsInstructionIn sizes) l → slice_get l k ≡ Some x → IsInstructionIn sizes x
    at [] k a g = cc
    at (y ∷ ys) zero a g = let same : y ≡ x = cc in subst (λ z. IsInstructionIn sizes z) same a.0
    at (y ∷ ys) (suc k) a g = at ys k a.1 g

-- WHAT IS KEPT

keeps_one : (b : Bool) (storage : Storage) (m n : Machine) → m.storage ≡ storage → n.storage ≡ storage → (cond b m n).storage ≡ storage
keeps_one true storage m n e f = e
keeps_one false storage m n e f = f

keeps_chosen : (o : Option Bool) (storage : Storage) (m x y : Machine) → m.storage ≡ storage → x.storage ≡ storage → y.storage ≡ storage → (chosen o m x y).storage ≡ storage
keeps_chosen None storage m x y e f g = e
keeps_chosen (Some b) storage m x y e f g = keeps_one b storage x y f g

module _ (code : List Instruction) (starts : List ℕ) where
  keeps_count : (top : Return) (below : List Return) (m : Machine) → (counted_turn starts top below m).storage ≡ m.storage
  keeps_count top below m = keeps_one (nat_eq m.left 0) m.storage (stopped stop.Limit m) (entered starts top.first (record m { left = m.left - 1; stack = top ∷ below })) refl refl

  keeps_next : (m : Machine) → (went_on starts m).storage ≡ m.storage
  keeps_next m = keeps_one (nat_lt (m.paragraph + 1) (length starts)) m.storage (entered starts (m.paragraph + 1) m) (stopped stop.Run m) refl refl

  keeps_turn : (f : Further) (top : Return) (below : List Return) (m : Machine) → (turned code starts f top below m).storage ≡ m.storage
  keeps_turn (further.Times n) top below m =
      keeps_one (nat_eq n 0) m.storage (returned top below m) (counted_turn starts (record top { further = further.Times (n - 1) }) below m) refl (keeps_count (record top { further = further.Times (n - 1) }) below m)
  keeps_turn further.Until top below m =
      keeps_chosen (judged_by (slice_get code top.call) m.storage) m.storage m (returned top below m) (counted_turn starts top below m) refl refl (keeps_count top below m)

  pub keeps_end : (stack : List Return) (m : Machine) → (ended code starts stack m).storage ≡ m.storage
  keeps_end [] m = keeps_next m
  keeps_end (top ∷ below) m = keeps_one (nat_eq m.paragraph top.last) m.storage (turned code starts top.further top below m) (went_on starts m) (keeps_turn top.further top below m) (keeps_next m)

  keeps_times : (o : Option ℕ) (first last next : ℕ) (m : Machine) → (begun_times code starts o first last next m).storage ≡ m.storage
  keeps_times None first last next m = refl
  keeps_times (Some n) first last next m =
      keeps_turn (further.Times n) (pushed code starts first last (further.Times n) next m) m.stack (record m { stack = pushed code starts first last (further.Times n) next m ∷ m.stack })

  pub keeps_perform : (how : Turns) (first last next : ℕ) (m : Machine) → (performed code starts how first last next m).storage ≡ m.storage
  keeps_perform turns.Once first last next m = refl
  keeps_perform (turns.Times number) first last next m = keeps_times (amount_by number m.storage) first last next m
  keeps_perform (turns.Until test) first last next m =
      keeps_turn further.Until (pushed code starts first last further.Until next m) m.stack (record m { stack = pushed code starts first last further.Until next m ∷ m.stack })

  -- PARTS

  -- a PERFORM that was pushed, counted and begun
  pub performed_so : (how : Turns) (first last next : ℕ) (f : Further) (m new : Machine) → further_by how m.storage ≡ Some f
      → new ≡ begun_by code starts how (pushed code starts first last f next m) m.stack (counted_once (pushed_on first last f next m))
      → new ≡ performed code starts how first last next (counted_once m)
  performed_so turns.Once first last next f m new e h = h ∙ (let g : f ≡ further.Times 0 = cc in ap (λ x. begun_by code starts turns.Once (pushed code starts first last x next m) m.stack (counted_once (pushed_on first last x next m))) g)
  performed_so (turns.Times number) first last next f m new e h = by (amount_by number m.storage) refl
    where
      by : (o : Option ℕ) → amount_by number m.storage ≡ o → new ≡ performed code starts (turns.Times number) first last next (counted_once m)
      by None g = let no : None ≡ Some f = sym (ap (option_map further.Times) g) ∙ e in cc
      by (Some n) g =
          let here : Some (further.Times n) ≡ Some f = sym (ap (option_map further.Times) g) ∙ e in
          let same : f ≡ further.Times n = cc in
          h ∙ ap (λ x. turned code starts x (pushed code starts first last x next m) m.stack (counted_once (pushed_on first last x next m))) same
          ∙ ap (λ o. begun_times code starts o first last next (counted_once m)) (sym g)
  performed_so (turns.Until test) first last next f m new e h =
      h ∙ (let g : f ≡ further.Until = cc in ap (λ x. turned code starts x (pushed code starts first last x next m) m.stack (counted_once (pushed_on first last x next m))) g)

  -- one that stops for DATA
  pub performed_none : (how : Turns) (first last next : ℕ) (m : Machine) → further_by how m.storage ≡ None → stopped stop.DataFault (counted_once m) ≡ performed code starts how first last next (counted_once m)
  performed_none turns.Once first last next m e = cc
  performed_none (turns.Times number) first last next m e = by (amount_by number m.storage) refl
    where
      by : (o : Option ℕ) → amount_by number m.storage ≡ o → stopped stop.DataFault (counted_once m) ≡ performed code starts (turns.Times number) first last next (counted_once m)
      by None g = ap (λ o. begun_times code starts o first last next (counted_once m)) (sym g)
      by (Some n) g = let no : Some (further.Times n) ≡ None = sym (ap (option_map further.Times) g) ∙ e in cc
  performed_none (turns.Until test) first last next m e = cc

-- a verb that makes a call, and one that stops for DATA
pub asked_so : (o : Option Request) (m : Machine) → is_some o ≡ true → record m { mode = mode.Waiting; verbs = m.verbs - 1 } ≡ asked o m
asked_so None m h = cc
asked_so (Some r) m h = refl

pub asked_none : (o : Option Request) (m : Machine) → is_some o ≡ false → stopped stop.DataFault m ≡ asked o m
asked_none None m h = refl
asked_none (Some r) m h = cc

-- the same, step by step
pub performed_by : (code : List Instruction) (starts : List ℕ) (how : Turns) (first last next : ℕ) (f : Further) (m p n new : Machine) → further_by how m.storage ≡ Some f
    → p ≡ pushed_on first last f next m → n ≡ counted_once p
    → ((top : Return) (below : List Return) → n.stack ≡ top ∷ below → new ≡ begun_by code starts how top below n)
    → new ≡ performed code starts how first last next (counted_once m)
performed_by code starts how first last next f m p n new e g k h =
    let here : n ≡ counted_once (pushed_on first last f next m) = k ∙ ap counted_once g in
    performed_so code starts how first last next f m new e
    (h (pushed code starts first last f next m) m.stack (ap (λ x. x.stack) here)
    ∙ ap (λ x. begun_by code starts how (pushed code starts first last f next m) m.stack x) here)
