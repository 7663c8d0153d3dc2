-- What is read is read where anything is, and a fault is told where there is one.
use Rattle.std.proofs.Common.{◌≡◌, Result, Ok, Err}
use Rattle.std.specs.Result.{IfOk, IfErr, MatchResult}
use Rattle.com_journal.specs.declared.fault.JournalFault.{JournalFault}
use Rattle.com_journal.specs.declared.fault.JournalError.{JournalError}
use Rattle.com_journal.specs.declared.fault.JournalError.TheVariants as error
use Rattle.com_journal.specs.Faults.{Tells}
use Rattle.com_journal.specs.inner.Loops.{IsMemory}
use Rattle.com_journal.specs.inner.Outcomes.{Is}

pub each_good : {A : Type 0} (Good : A → Type 0) (Bad : JournalFault → Type 0) → ((x y : A) → Good x → Good y → x ≡ y) → ((x : A) (f : JournalFault) → Good x → Bad f → ⊥)
    → (r : Result A JournalError) → IfOk r Good → IfErr r (Tells Bad) → (x : A) → Good x → MatchResult r (Is x) IsMemory
each_good Good Bad one none (Ok y) ok err x h = one y x ok h
each_good Good Bad one none (Err (error.Refused f)) ok err x h = absurd (none x f h err)
each_good Good Bad one none (Err (error.Memory e)) ok err x h = tt

pub each_bad : {A : Type 0} (Good : A → Type 0) (Bad : JournalFault → Type 0) → ((f g : JournalFault) → Bad f → Bad g → f ≡ g) → ((x : A) (f : JournalFault) → Good x → Bad f → ⊥)
    → (r : Result A JournalError) → IfOk r Good → IfErr r (Tells Bad) → (f : JournalFault) → Bad f → MatchResult r (λ _. ⊥) (Tells (Is f))
each_bad Good Bad one none (Ok y) ok err f h = none y f ok h
each_bad Good Bad one none (Err (error.Refused g)) ok err f h = one g f err h
each_bad Good Bad one none (Err (error.Memory e)) ok err f h = tt
