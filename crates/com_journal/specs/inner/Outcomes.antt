-- What a reader answers, and how one reader goes on after another.
use Rattle.std.specs.Prelude.{◌≡◌, Option, Some, None, Result, Ok, Err, option_and_then}
use Rattle.com_journal.specs.declared.line.Unread.{Unread}
use Rattle.com_journal.specs.declared.line.Unread.TheVariants as unread

infixl 10 ◌>>=◌
abbrev pub ◌>>=◌ : {A B : Type 0} → Option A → (A → Option B) → Option B
o >>= f = option_and_then f o

-- what was read, seen by `view`, is what there is to read; memory may always run out
abbrev pub Fails : {Y : Type 0} → Unread → Option Y → Type 0
Fails unread.Refused read = read ≡ None
Fails unread.Memory read = Unit {0}

-- out of memory, and nothing else
abbrev pub IsOutOfMemory : Unread → Type 0
IsOutOfMemory unread.Refused = ⊥
IsOutOfMemory unread.Memory = Unit {0}

abbrev pub Is : {A : Type 0} → A → A → Type 0
Is x y = y ≡ x

abbrev pub Gives : {X Y : Type 0} → (X → Y) → Result X Unread → Option Y → Type 0
Gives view (Ok x) read = read ≡ Some (view x)
Gives view (Err e) read = Fails e read
