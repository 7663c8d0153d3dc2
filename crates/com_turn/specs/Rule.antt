-- The rule of the turn: what holds between any two steps on the table.
use Rattle.std.specs.Prelude.{◌≡◌, ◌≢◌, ℕ, ◌+◌, ◌%◌, ◌^◌, ◌<◌, ◌≤◌, ◌⊎◌, false, List, [], ◌∷◌, length, sum_by, Contains, Option, Some, None, slice_index}
use mathlib.Core.Option.{some, none}
use mathlib.Core.Option as maybe
use lib.ListN.{get_elem?}
use Rattle.atomic_table.specs.Table.{State}
use Rattle.com_turn.specs.declared.view.Toggle.{Toggle}
use Rattle.com_turn.specs.declared.view.Known.{Known}
use Rattle.com_turn.specs.declared.view.Stage.{Stage}
use Rattle.com_turn.specs.declared.view.Stage.TheVariants.{Idle, Waiting, Holding}
use Rattle.com_turn.specs.declared.view.View.{View}
use Rattle.com_turn.specs.Histories.{IsPrefixOf, items_of, HasSeen}
use Rattle.com_turn.specs.Toggles.{party_of, is_active, active_count}
use Rattle.com_turn.specs.Views.{HasTicket, ticket_of, active_of}

-- What has happened: the log, the toggles of all that became active or inactive, and the opening.
pub record History (I B : Type 0) : Type 0 where
  pub log : List I
  pub toggles : List Toggle
  pub opened : List I
  pub base : B
  pub parties : ℕ

-- The tickets: the next one to be drawn, the one that is served, and which seat is at its turn.
pub record Tickets : Type 0 where
  pub next : ℕ
  pub serving : ℕ
  pub holder : Option ℕ

-- The words TICKET, SERVING, COUNT and ACTIVE. COUNT counts from the opening.
pub record AreWords {I B : Type 0} (history : History I B) (tickets : Tickets) (views : List (View I B)) (words : List ℕ) : Type 0 where
  pub four : length words ≡ 4
  pub ticket : slice_index words 0 ≡ tickets.next % 2 ^ 64
  pub serving : slice_index words 1 ≡ tickets.serving % 2 ^ 64
  pub count : length history.log ≡ length history.opened + slice_index words 2
  pub active : slice_index words 3 ≡ sum_by active_of views
  pub toggled : slice_index words 3 ≡ active_count history.parties history.toggles

-- The slot is at home exactly where no seat is at its turn. Then it holds a value with the log and the base.
abbrev pub IsHome : {V I B : Type 0} → (V → List I) → (V → B) → List I → B → Option ℕ → List (maybe.Option (Option V)) → Type 0
IsHome {V} log_of base_of log base None homes = (value : V) × (homes ≡ some (Some value) ∷ []) × (log_of value ≡ log) × (base_of value ≡ base)
IsHome log_of base_of log base (Some seat) homes = homes ≡ none ∷ []

-- What a party knows is so: the opening, fronts of the log and of the toggles, and in them all that is its own.
pub record Knows {I B : Type 0} (owner : I → ℕ) (history : History I B) (known : Known I B) : Type 0 where
  pub parties : known.parties ≡ history.parties
  pub base : known.base ≡ Some history.base
  pub opened : known.opened ≡ history.opened
  pub number : known.number < history.parties
  pub past_opening : IsPrefixOf history.opened known.seen
  pub items : HasSeen owner known.number (length history.opened) history.log known.seen
  pub toggles : HasSeen party_of known.number 0 history.toggles known.toggles

-- A ticket is one of those that are out, and no view with olds has one. A view at its turn has the ticket that is
-- served, and has seen the log and all toggles.
abbrev pub IsStage : {I B : Type 0} → History I B → Tickets → ℕ → View I B → Stage → Type 0
IsStage history tickets seat view Idle = Unit {0}
IsStage history tickets seat view (Waiting ticket) = (tickets.serving ≤ ticket) × (ticket < tickets.next) × (view.olds ≡ [])
IsStage history tickets seat view (Holding ticket) =
    (ticket ≡ tickets.serving) × (ticket < tickets.next) × (view.olds ≡ []) × (tickets.holder ≡ Some seat)
    × (view.known.seen ≡ history.log) × (view.known.toggles ≡ history.toggles)

-- What holds of each live view by itself.
pub record IsLive {I B : Type 0} (owner : I → ℕ) (history : History I B) (tickets : Tickets) (seat : ℕ) (view : View I B) : Type 0 where
  pub known : Knows owner history view.known
  pub olds : (old : Known I B) → Contains view.olds old → Knows owner history old
  pub stage : IsStage history tickets seat view view.stage
  pub active : view.active ≡ is_active view.known.number history.toggles

-- the view's number, and those of its olds, are below the count
abbrev pub IsBelow : {I B : Type 0} → ℕ → View I B → Type 0
IsBelow {I} {B} count view = (view.known.number < count) × ((old : Known I B) → Contains view.olds old → old.number < count)

-- a fact on each live view, by the number of its seat
abbrev pub EachLive : {I B : Type 0} → (ℕ → View I B → Type 0) → List (View I B) → Type 0
EachLive {I} {B} P views = (seat : ℕ) (view : View I B) → get_elem? views seat ≡ some view → view.spent ≡ false → P seat view

-- While a view keeps the count of numbers given out, each number of a view or an old is below it, and no item past the
-- opening and no toggle has an owner from it on.
abbrev pub IsCount : {I B : Type 0} → (I → ℕ) → History I B → List (View I B) → Option ℕ → Type 0
IsCount owner history views None = Unit {0}
IsCount owner history views (Some count) =
    (length views ≡ count) × EachLive (λ _ view. IsBelow count view) views
    × ((party : ℕ) → count ≤ party → items_of owner party (length history.opened) history.log ≡ [])
    × ((party : ℕ) → count ≤ party → items_of party_of party 0 history.toggles ≡ [])

-- What holds of two live views: their numbers and tickets are different, no old of one has the other's number, and one
-- of them at most keeps the count.
pub record AreApart {I B : Type 0} (one other : View I B) : Type 0 where
  pub numbers : one.known.number ≢ other.known.number
  pub tickets : (ticket : ℕ) → HasTicket one.stage ticket → HasTicket other.stage ticket → ⊥
  pub olds : (old : Known I B) → Contains one.olds old → old.number ≢ other.known.number
  pub counts : (m n : ℕ) → one.count ≡ Some m → other.count ≡ Some n → ⊥

-- a live seat is at its turn
abbrev pub IsHolder : {I B : Type 0} → List (View I B) → ℕ → Type 0
IsHolder {I} {B} views seat = (view : View I B) × (ticket : ℕ) × (get_elem? views seat ≡ some view) × (view.stage ≡ Holding ticket) × (view.spent ≡ false)

pub record IsRuled {V I B : Type 0} (log_of : V → List I) (base_of : V → B) (owner : I → ℕ) (s : State (Option V) (View I B)) : Type 0 where
  pub history : History I B
  pub tickets : Tickets
  -- there are no more seats than parties
  pub few : history.parties < 2 ^ 32
  pub room : length s.views ≤ history.parties
  pub words : AreWords history tickets s.views s.words
  -- as many tickets are out as views have one
  pub drawn : tickets.next ≡ tickets.serving + sum_by ticket_of s.views
  pub home : IsHome log_of base_of history.log history.base tickets.holder s.homes
  pub holder : (seat : ℕ) → tickets.holder ≡ Some seat → IsHolder s.views seat
  pub live : EachLive (λ seat view. IsLive owner history tickets seat view) s.views
  pub counts : EachLive (λ _ view. IsCount owner history s.views view.count) s.views
  pub apart : EachLive (λ seat view. EachLive (λ other_seat other. seat ≢ other_seat → AreApart view other) s.views) s.views

-- each number below the number of parties is that of the view, or of one of its olds
abbrev pub HasEveryNumber : {I B : Type 0} → View I B → Type 0
HasEveryNumber {I} {B} view = (number : ℕ) → number < view.known.parties → (number ≡ view.known.number) ⊎ ((old : Known I B) × Contains view.olds old × (old.number ≡ number))

-- What the view with every number, and each of its olds, knows of the value at the end.
pub record IsClosed {V I B : Type 0} (log_of : V → List I) (base_of : V → B) (owner : I → ℕ) (view : View I B) (value : V) : Type 0 where
  pub history : History I B
  pub log : log_of value ≡ history.log
  pub base : base_of value ≡ history.base
  pub known : Knows owner history view.known
  pub olds : (old : Known I B) → Contains view.olds old → Knows owner history old
