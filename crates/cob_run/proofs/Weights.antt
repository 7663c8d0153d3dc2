-- Each instruction makes a machine lighter.
use Rattle.std.proofs.Common.{◌≡◌, ℕ, ◌+◌, ◌-◌, ◌*◌, ◌<◌, ◌≤◌, Bool, true, false, cond, List, [], ◌∷◌, length, Option, Some, None, refl, ap, ◌∙◌, arith, nat_eq, nat_lt, true≢false}
use Rattle.std.specs.Prelude.{slice_get}
use Rattle.std.proofs.lemmas.Bool.{eqb-false, ltb-true}
use Rattle.std.proofs.lemmas.Nat.{mul-add-lt}
use Rattle.std.proofs.Math.Nat.{mul_comm}
use Rattle.com_events.specs.declared.call.StopReason.{StopReason}
use Rattle.com_events.specs.declared.call.StopReason.TheVariants as stop
use Rattle.cob_meaning.specs.Storage.{Storage}
use Rattle.cob_meaning.specs.Verbs.{Request}
use Rattle.cob_flat.specs.declared.code.Instruction.{Instruction}
use Rattle.cob_flat.specs.declared.code.Instruction.TheVariants as instruction
use Rattle.cob_flat.specs.declared.code.Turns.{Turns}
use Rattle.cob_flat.specs.declared.code.Turns.TheVariants as how
use Rattle.cob_flat.specs.Effects.{amount_by, effect, holds_by, request_by}
use Rattle.cob_run.specs.declared.returns.Further.{Further}
use Rattle.cob_run.specs.declared.returns.Further.TheVariants as further
use Rattle.cob_run.specs.declared.returns.Return.{Return}
use Rattle.cob_run.specs.declared.returns.Mode.{Mode}
use Rattle.cob_run.specs.declared.returns.Mode.TheVariants as mode
use Rattle.cob_run.specs.Machine.{Machine, stopped, changed_by, chosen, asked, judged_by, entered, counted_turn, went_on, turned, pushed, begun_as, begun_times, performed, ended, acted, counted, stepped_by, stepped}
use Rattle.cob_run.specs.Weight.{runs_on, weight}

abbrev is_end : Instruction → Bool
is_end instruction.End = true
is_end _ = false

module _ (code : List Instruction) (starts : List ℕ) where
  -- what a machine can still spend
  abbrev spare : Machine → ℕ
  spare m = 2 * m.left + length m.stack

  runs_on-le : (x : Mode) → runs_on x ≤ 1
  runs_on-le mode.Running = omega arith
  runs_on-le mode.Waiting = omega arith
  runs_on-le mode.NotBegun = omega arith
  runs_on-le (mode.Stopped why) = omega arith

  -- less to spend
  spends : (m n : Machine) → m.mode ≡ mode.Running → spare n < spare m → weight starts n < weight starts m
  unfolding weight
  spends m n e less =
      let one : runs_on m.mode ≡ 1 = ap runs_on e in
      let much = mul-add-lt (spare n) (length starts + 1) (length starts - n.paragraph) (spare m) less (omega arith) in
      let turned : (length starts + 1) * spare m ≡ spare m * (length starts + 1) = mul_comm (length starts + 1) (spare m) in
      omega (arith, runs_on-le n.mode, one, much, turned)

  stops : (m : Machine) (why : StopReason) → m.mode ≡ mode.Running → weight starts (stopped why m) < weight starts m
  unfolding weight
  stops m why e = let one : runs_on m.mode ≡ 1 = ap runs_on e in omega (arith, one)

  either : (b : Bool) (x y : Machine) (k : ℕ) → spare x ≤ k → spare y ≤ k → spare (cond b x y) ≤ k
  either true x y k h g = h
  either false x y k h g = g

  one_of : (o : Option Bool) (m x y : Machine) (k : ℕ) → spare m ≤ k → spare x ≤ k → spare y ≤ k → spare (chosen o m x y) ≤ k
  one_of None m x y k i h g = i
  one_of (Some b) m x y k i h g = either b x y k h g

  turn_spare : (f : Further) (top : Return) (below : List Return) (m : Machine) (k : ℕ) → length m.stack ≡ length below + 1 → spare m ≤ k → spare (turned code starts f top below m) ≤ k
  turn_spare (further.Times n) top below m k e h = either (nat_eq n 0) _ _ k (omega (arith, e)) (either (nat_eq m.left 0) _ _ k h (omega (arith, e)))
  turn_spare further.Until top below m k e h = one_of (judged_by (slice_get code top.call) m.storage) m _ _ k h (omega (arith, e)) (either (nat_eq m.left 0) _ _ k h (omega (arith, e)))

  begun_spare : (f : Further) (first last next : ℕ) (m : Machine) → spare (begun_as code starts f first last next m) ≤ spare m + 1
  begun_spare f first last next m = turn_spare f (pushed code starts first last f next m) m.stack (record m { stack = pushed code starts first last f next m ∷ m.stack }) (spare m + 1) (omega arith) (omega arith)

  times_spare : (o : Option ℕ) (first last next : ℕ) (m : Machine) → spare (begun_times code starts o first last next m) ≤ spare m + 1
  times_spare None first last next m = omega arith
  times_spare (Some n) first last next m = begun_spare (further.Times n) first last next m

  perform_spare : (turns : Turns) (first last next : ℕ) (m : Machine) → spare (performed code starts turns first last next m) ≤ spare m + 1
  perform_spare how.Once first last next m = omega arith
  perform_spare (how.Times number) first last next m = times_spare (amount_by number m.storage) first last next m
  perform_spare (how.Until test) first last next m = begun_spare further.Until first last next m

  act_spare : (o : Option Storage) (next : ℕ) (m : Machine) → spare (changed_by o next m) ≤ spare m + 1
  act_spare (Some storage) next m = omega arith
  act_spare None next m = omega arith

  ask_spare : (o : Option Request) (m : Machine) → spare (asked o m) ≤ spare m + 1
  ask_spare (Some request) m = omega arith
  ask_spare None m = omega arith

  -- a statement that was counted adds one top at most
  acted_spare : (i : Instruction) (m : Machine) → is_end i ≡ false → spare (acted code starts i m) ≤ spare m + 1
  acted_spare (instruction.Act action next) m it = act_spare (effect action m.storage) next m
  acted_spare (instruction.Choose test one other) m it = one_of (holds_by test m.storage) m _ _ _ (omega arith) (omega arith) (omega arith)
  acted_spare (instruction.Perform first last turns next) m it = perform_spare turns first last next m
  acted_spare (instruction.Ask verb no_data next) m it = either (nat_eq m.verbs 0) _ _ _ (omega arith) (ask_spare (request_by verb m.storage) m)
  acted_spare (instruction.Go to) m it = omega arith
  acted_spare instruction.Halt m it = omega arith
  acted_spare instruction.End m it = absurd (true≢false it)

  counted_less : (i : Instruction) (m : Machine) → m.mode ≡ mode.Running → is_end i ≡ false → weight starts (counted code starts i m) < weight starts m
  counted_less i m e it = by (nat_eq m.left 0) refl
    where
      by : (b : Bool) → nat_eq m.left 0 ≡ b → weight starts (cond b (stopped stop.Limit m) (acted code starts i (record m { left = m.left - 1 }))) < weight starts m
      by true h = stops m stop.Limit e
      by false h =
          let some = eqb-false m.left 0 h in
          spends m _ e (omega (arith, some, acted_spare i (record m { left = m.left - 1 }) it))

  next_less : (m : Machine) → m.mode ≡ mode.Running → weight starts (went_on starts m) < weight starts m
  unfolding weight
  next_less m e = by (nat_lt (m.paragraph + 1) (length starts)) refl
    where
      by : (b : Bool) → nat_lt (m.paragraph + 1) (length starts) ≡ b → weight starts (cond b (entered starts (m.paragraph + 1) m) (stopped stop.Run m)) < weight starts m
      by true h = let less = ltb-true (m.paragraph + 1) (length starts) h in omega (arith, less)
      by false h = stops m stop.Run e

  again_less : (top : Return) (below : List Return) (m : Machine) → m.mode ≡ mode.Running → length m.stack ≡ length below + 1 → weight starts (counted_turn starts top below m) < weight starts m
  again_less top below m e long = by (nat_eq m.left 0) refl
    where
      by : (b : Bool) → nat_eq m.left 0 ≡ b → weight starts (cond b (stopped stop.Limit m) (entered starts top.first (record m { left = m.left - 1; stack = top ∷ below }))) < weight starts m
      by true h = stops m stop.Limit e
      by false h = let some = eqb-false m.left 0 h in spends m _ e (omega (arith, some, long))

  lighter : (b : Bool) (m x y : Machine) → weight starts x < weight starts m → weight starts y < weight starts m → weight starts (cond b x y) < weight starts m
  lighter true m x y h g = h
  lighter false m x y h g = g

  lighter_one : (o : Option Bool) (m x y : Machine) → m.mode ≡ mode.Running → weight starts x < weight starts m → weight starts y < weight starts m → weight starts (chosen o m x y) < weight starts m
  lighter_one None m x y e h g = stops m stop.DataFault e
  lighter_one (Some b) m x y e h g = lighter b m x y h g

  turn_less : (f : Further) (top : Return) (below : List Return) (m : Machine) → m.mode ≡ mode.Running → length m.stack ≡ length below + 1 → weight starts (turned code starts f top below m) < weight starts m
  turn_less (further.Times n) top below m e long = lighter (nat_eq n 0) m _ _ (spends m _ e (omega (arith, long))) (again_less _ below m e long)
  turn_less further.Until top below m e long = lighter_one (judged_by (slice_get code top.call) m.storage) m _ _ e (spends m _ e (omega (arith, long))) (again_less _ below m e long)

  end_less : (stack : List Return) (m : Machine) → m.mode ≡ mode.Running → m.stack ≡ stack → weight starts (ended code starts stack m) < weight starts m
  end_less [] m e h = next_less m e
  end_less (top ∷ below) m e h = lighter (nat_eq m.paragraph top.last) m _ _ (turn_less top.further top below m e (ap length h ∙ (let same : length (top ∷ below) ≡ length below + 1 = omega arith in same))) (next_less m e)

  by_less : (o : Option Instruction) (m : Machine) → m.mode ≡ mode.Running → weight starts (stepped_by code starts o m) < weight starts m
  by_less None m e = stops m stop.Run e
  by_less (Some (instruction.Act action next)) m e = counted_less (instruction.Act action next) m e refl
  by_less (Some (instruction.Choose test a b)) m e = counted_less (instruction.Choose test a b) m e refl
  by_less (Some (instruction.Perform first last turns next)) m e = counted_less (instruction.Perform first last turns next) m e refl
  by_less (Some (instruction.Ask verb a next)) m e = counted_less (instruction.Ask verb a next) m e refl
  by_less (Some (instruction.Go to)) m e = counted_less (instruction.Go to) m e refl
  by_less (Some instruction.Halt) m e = counted_less instruction.Halt m e refl
  by_less (Some instruction.End) m e = end_less m.stack m e refl

-- each instruction makes the machine lighter
pub step_less : (code : List Instruction) (starts : List ℕ) (m : Machine) → m.mode ≡ mode.Running → weight starts (stepped code starts m) < weight starts m
step_less code starts m e = by_less code starts (slice_get code m.place) m e
