-- What holds of every value of the system holds after its parts change.
use Rattle.std.proofs.Common.{◌≡◌, ℕ, zero, suc, ◌+◌, ◌*◌, ◌<◌, ◌≤◌, List, [], ◌∷◌, ◌++◌, Some, None, Option, length, get_or, refl, sym, ap, ◌∙◌, inl, inr, arith, IsTrue, Ok, Err, Result, IfOk, OnErr}
use Rattle.std.specs.Prelude.{IfSome, slice_get, slice_set, replicate}
use Rattle.std.specs.List.{All}
use Rattle.std.proofs.Math.ListN.{length-set}
use Rattle.std.proofs.lemmas.List.{length-replicate, length-map}
use Rattle.std.proofs.lemmas.Option.{none-some, same_Some, slice_get_read}
use Rattle.std.proofs.lemmas.List.Elements.{All-set, All-push, All-cons}
use Rattle.std.proofs.lemmas.Bool.Decides.{nat_tests}
use Rattle.com_msg.specs.declared.rest.Kind.{Kind}
use Rattle.com_tree.specs.declared.tree.TreeRow.{TreeRow}
use Rattle.com_tree.specs.declared.tree.Node.{Node}
use Rattle.com_recv.specs.declared.lists.Waiting.{Waiting}
use Rattle.com_recv.specs.Incoming.{Incoming, IsTreeOf, designated, first_on, chosen_leaf, held_under}
use Rattle.com_recv.specs.declared.queues.Taken.{Taken}
use Rattle.com_recv.specs.Receiving.{Received, Next, next_waiting, next_rest, receive, receive_at, receive_next}
use Rattle.com_state.specs.declared.parties.TheConstants.{MAX_ARRIVALS}
use Rattle.com_state.specs.declared.parties.TerminalMode.{TerminalMode}
use Rattle.com_state.specs.declared.parties.TerminalState.{TerminalState}
use Rattle.com_state.specs.declared.parties.TerminalMode.TheVariants.{Feeding}
use Rattle.com_net.specs.declared.net.Net.{Net}
use Rattle.com_net.specs.Network.{IsNet}
use Rattle.com_state.specs.State.{State, opening, opening_unit, opening_terminal}
use Rattle.com_state.specs.Steps.{with_terminal_mode, with_arrival, may_arrive}
use Rattle.com_state.specs.Kept.{IsSystem, total_arrivals}
use Rattle.com_state.proofs.Frames.{option_cases}
use Rattle.com_state.proofs.Consistency.{sub_all}

-- numbers of messages that have arrived
abbrev pub Numbered : ℕ → List Waiting → Type 0
Numbered arrivals waiting = All (λ w. w.message.arrival ≤ arrivals) waiting

-- what a RECEIVE goes on with leaves messages that have arrived
numbered_waiting : (arrivals : ℕ) (tree : List TreeRow) (incoming : Incoming) (node : Node) → Numbered arrivals incoming.waiting → IfSome (next_waiting tree incoming node) (λ next. Numbered arrivals next.waiting)
numbered_waiting arrivals tree incoming node all = elim (option_cases (chosen_leaf tree incoming.waiting node)) [
  | inl none ↦ rw (none, next_waiting) tt
  | inr some ↦ elim (option_cases (first_on incoming.waiting some.0)) [
    | inl none ↦ rw (some.1, none, next_waiting) tt
    | inr message ↦ rw (some.1, message.1, next_waiting) (sub_all (λ (w : Waiting). w.message.arrival ≤ arrivals) some.0 incoming.waiting all)
  ]
]

numbered_next : (arrivals : ℕ) (tree : List TreeRow) (incoming : Incoming) (unit : ℕ) (node : Node) → Numbered arrivals incoming.waiting → IfSome (next_rest tree incoming unit node) (λ next. Numbered arrivals next.waiting)
numbered_next arrivals tree incoming unit node all = elim (option_cases (held_under tree incoming.held unit node)) [
  | inl none ↦ rw (none, next_rest) (numbered_waiting arrivals tree incoming node all)
  | inr some ↦ rw (some.1, next_rest) all
]

numbered_given : (arrivals : ℕ) (tree : List TreeRow) (incoming : Incoming) (unit : ℕ) (area : List ℕ) (kind : Kind) (size : ℕ) (next : Option Next) → Numbered arrivals incoming.waiting
    → IfSome next (λ next. Numbered arrivals next.waiting) → Numbered arrivals (receive_next tree incoming unit area kind size next).2.waiting
numbered_given arrivals tree incoming unit area kind size None all found = all
numbered_given arrivals tree incoming unit area kind size (Some next) all found = found

numbered_at : (arrivals : ℕ) (tree : List TreeRow) (incoming : Incoming) (unit : ℕ) (area : List ℕ) (kind : Kind) (size : ℕ) (node : Option Node) → Numbered arrivals incoming.waiting
    → Numbered arrivals (receive_at tree incoming unit area kind size node).2.waiting
numbered_at arrivals tree incoming unit area kind size None all = all
numbered_at arrivals tree incoming unit area kind size (Some node) all = numbered_given arrivals tree incoming unit area kind size (next_rest tree incoming unit node) all (numbered_next arrivals tree incoming unit node all)

-- what waits after a RECEIVE are messages that have arrived
pub numbered_received : (arrivals : ℕ) (tree : List TreeRow) (incoming : Incoming) (unit : ℕ) (area : List ℕ) (kind : Kind) (size : ℕ) → Numbered arrivals incoming.waiting
    → Numbered arrivals (receive tree incoming unit area kind size).2.waiting
numbered_received arrivals tree incoming unit area kind size all = numbered_at arrivals tree incoming unit area kind size (designated tree area) all

-- one more message of a terminal has arrived
pub one_arrival_more : (terminals : List TerminalState) (at : ℕ) (t : TerminalState) (mode : TerminalMode) → slice_get terminals at ≡ Some t
    → total_arrivals (slice_set terminals at (record { mode = mode; arrivals = t.arrivals + 1 })) ≡ total_arrivals terminals + 1
one_arrival_more [] at t mode e = absurd (none-some t e)
one_arrival_more (terminal ∷ terminals) zero t mode e = let same : terminal ≡ t = same_Some terminal t e in omega (arith, ap (λ (s : TerminalState). s.arrivals) same)
one_arrival_more (terminal ∷ terminals) (suc at) t mode e = let behind = one_arrival_more terminals at t mode e in omega (arith, behind)

-- a terminal's mode changes no count
pub as_many_arrivals : (terminals : List TerminalState) (at : ℕ) (t : TerminalState) (mode : TerminalMode) → slice_get terminals at ≡ Some t
    → total_arrivals (slice_set terminals at (record t { mode = mode })) ≡ total_arrivals terminals
as_many_arrivals [] at t mode e = absurd (none-some t e)
as_many_arrivals (terminal ∷ terminals) zero t mode e = let same : terminal ≡ t = same_Some terminal t e in omega (arith, ap (λ (s : TerminalState). s.arrivals) same)
as_many_arrivals (terminal ∷ terminals) (suc at) t mode e = let behind = as_many_arrivals terminals at t mode e in omega (arith, behind)

-- at the beginning nothing has arrived
pub no_arrivals : (n : ℕ) → total_arrivals (replicate n opening_terminal) ≡ 0
no_arrivals zero = refl
no_arrivals (suc n) = omega (arith, no_arrivals n)

-- so many messages arrive at most
pub few_arrivals : (terminals : List TerminalState) → All (λ terminal. terminal.arrivals ≤ MAX_ARRIVALS) terminals → total_arrivals terminals ≤ length terminals * 65536
few_arrivals [] all = omega arith
few_arrivals (terminal ∷ terminals) all =
    let behind = few_arrivals terminals (λ k d within. all (suc k) d (omega (arith, within))) in
    let first = all 0 terminal (omega arith) in
    omega (arith, behind, first)

-- a terminal's mode changes
pub system_terminal_mode : (S : State) (at : ℕ) (t : TerminalState) (mode : TerminalMode) → slice_get S.terminals at ≡ Some t → IsSystem S → IsSystem (record S { terminals = slice_set S.terminals at (record t { mode = mode }) })
system_terminal_mode S at t mode there is = record {
  net = is.net;
  tree = is.tree;
  leaves = is.leaves;
  inputs = is.inputs;
  units = is.units;
  terminals = length-set S.terminals at (record t { mode = mode }) ∙ is.terminals;
  counted = is.counted ∙ sym (as_many_arrivals S.terminals at t mode there);
  few = All-set (λ (s : TerminalState). s.arrivals ≤ MAX_ARRIVALS) S.terminals at (record t { mode = mode }) (stands_at S.terminals at t there is.few) is.few;
  numbered = is.numbered;
}
  where
    stands_at : (xs : List TerminalState) (i : ℕ) (x : TerminalState) → slice_get xs i ≡ Some x → All (λ (s : TerminalState). s.arrivals ≤ MAX_ARRIVALS) xs → x.arrivals ≤ MAX_ARRIVALS
    stands_at [] i x got all = absurd (none-some x got)
    stands_at (y ∷ xs) zero x got all = let first = all 0 y (omega arith) in omega (arith, first, ap (λ (s : TerminalState). s.arrivals) (same_Some y x got))
    stands_at (y ∷ xs) (suc i) x got all = stands_at xs i x got (λ k d within. all (suc k) d (omega (arith, within)))

pub terminal_mode_is : (S : State) (at : ℕ) (t : TerminalState) (mode : TerminalMode) → slice_get S.terminals at ≡ Some t → record S { terminals = slice_set S.terminals at (record t { mode = mode }) } ≡ with_terminal_mode at mode S
terminal_mode_is S at t mode there = rw (there, with_terminal_mode) refl

-- a message comes to wait, with the next number
pub system_arrival : (S : State) (at : ℕ) (t : TerminalState) (incoming : Incoming) (w : Waiting) (number : ℕ) → slice_get S.terminals at ≡ Some t → t.arrivals < MAX_ARRIVALS → number ≡ S.arrivals + 1 → w.message.arrival ≡ number
    → incoming ≡ record S.incoming { waiting = S.incoming.waiting ++ w ∷ [] } → IsTreeOf S.net.tree incoming → IsSystem S
    → IsSystem (record S { incoming = incoming; arrivals = number; terminals = slice_set S.terminals at (record { mode = Feeding; arrivals = t.arrivals + 1 }) })
system_arrival S at t incoming w number there few next its comes tree is =
    let more = one_arrival_more S.terminals at t Feeding there in
    let waiting : incoming.waiting ≡ S.incoming.waiting ++ w ∷ [] = ap (λ (i : Incoming). i.waiting) comes in
    record {
      net = is.net;
      tree = tree;
      leaves = is.leaves;
      inputs = is.inputs;
      units = is.units;
      terminals = length-set S.terminals at (record { mode = Feeding; arrivals = t.arrivals + 1 }) ∙ is.terminals;
      counted = next ∙ (ap (λ (n : ℕ). n + 1) is.counted ∙ sym more);
      few = All-set (λ (s : TerminalState). s.arrivals ≤ MAX_ARRIVALS) S.terminals at (record { mode = Feeding; arrivals = t.arrivals + 1 }) (omega (arith, few)) is.few;
      numbered = rw waiting (All-push (λ (v : Waiting). v.message.arrival ≤ number) S.incoming.waiting w (λ k d within. let low = is.numbered k d within in omega (arith, low, next)) (omega (arith, its)));
    }

pub arrival_is : (S : State) (at : ℕ) (t : TerminalState) (incoming : Incoming) (w : Waiting) (number : ℕ) → slice_get S.terminals at ≡ Some t → number ≡ S.arrivals + 1
    → incoming ≡ record S.incoming { waiting = S.incoming.waiting ++ w ∷ [] }
    → record S { incoming = incoming; arrivals = number; terminals = slice_set S.terminals at (record { mode = Feeding; arrivals = t.arrivals + 1 }) }
    ≡ with_arrival at (record S { incoming = record S.incoming { waiting = S.incoming.waiting ++ w ∷ [] }; arrivals = S.arrivals + 1 })
arrival_is S at t incoming w number there next comes = rw (comes, next, there, with_arrival) refl

-- a terminal that may have one more
pub one_more_may : (S : State) (at : ℕ) (t : TerminalState) → slice_get S.terminals at ≡ Some t → IsTrue (may_arrive S at) → t.arrivals < MAX_ARRIVALS
one_more_may S at t there may = let low = rw (there, may_arrive) at may in grind (arith, nat_tests, low)

-- also where there was no memory for a RECEIVE
pub numbered_after : {E : Type 0} (arrivals : ℕ) (tree : List TreeRow) (incoming : Incoming) (unit : ℕ) (area : List ℕ) (kind : Kind) (size : ℕ) (result : Result Taken E) (told : List ℕ) (left : Incoming)
    → IfOk result (λ taken. (taken, told, left) ≡ receive tree incoming unit area kind size) → OnErr result (left ≡ incoming) → Numbered arrivals incoming.waiting → Numbered arrivals left.waiting
numbered_after {E} arrivals tree incoming unit area kind size (Ok taken) told left done err all =
    let same : left ≡ (receive tree incoming unit area kind size).2 = ap (λ (r : Received). r.2) done in
    rw same (numbered_received arrivals tree incoming unit area kind size all)
numbered_after {E} arrivals tree incoming unit area kind size (Err e) told left done err all = rw err all

-- a message comes to wait, in the state that was there at entry
pub put_keeps : {S now : State} → S ≡ now → (at : ℕ) (t : TerminalState) (incoming : Incoming) (w : Waiting) → IsSystem S → at < length now.terminals → t ≡ get_or S.terminals at t → IsTrue (may_arrive now at)
    → w.message.arrival ≡ now.arrivals + 1 → incoming ≡ record S.incoming { waiting = S.incoming.waiting ++ w ∷ [] } → IsTreeOf S.net.tree incoming
    → IsSystem (record S { incoming = incoming; arrivals = w.message.arrival; terminals = slice_set S.terminals at (record { mode = Feeding; arrivals = t.arrivals + 1 }) })
put_keeps {S} {now} entered at t incoming w is within read may number comes tree =
    let there : slice_get S.terminals at ≡ Some t = slice_get_read S.terminals (length S.terminals) at t refl (rw (← entered) at within) read in
    system_arrival S at t incoming w w.message.arrival there (one_more_may S at t there (rw (← entered) at may)) (rw (← entered) at number) refl comes tree is

pub put_is : {S now : State} → S ≡ now → (at : ℕ) (t : TerminalState) (incoming : Incoming) (w : Waiting) → at < length now.terminals → t ≡ get_or S.terminals at t
    → w.message.arrival ≡ now.arrivals + 1 → incoming ≡ record S.incoming { waiting = S.incoming.waiting ++ w ∷ [] }
    → record S { incoming = incoming; arrivals = w.message.arrival; terminals = slice_set S.terminals at (record { mode = Feeding; arrivals = t.arrivals + 1 }) }
    ≡ with_arrival at (record now { incoming = record now.incoming { waiting = now.incoming.waiting ++ w ∷ [] }; arrivals = now.arrivals + 1 })
put_is {S} {now} entered at t incoming w within read number comes =
    let there : slice_get S.terminals at ≡ Some t = slice_get_read S.terminals (length S.terminals) at t refl (rw (← entered) at within) read in
    arrival_is S at t incoming w w.message.arrival there (rw (← entered) at number) comes
    ∙ ap (λ (T : State). with_arrival at (record T { incoming = record T.incoming { waiting = T.incoming.waiting ++ w ∷ [] }; arrivals = T.arrivals + 1 })) entered

-- so few messages have arrived that their number can be counted on
pub arrivals_bounded : {S : State} → IsSystem S → S.arrivals ≤ 2097152
arrivals_bounded {S} is =
    let all = few_arrivals S.terminals is.few in
    let few = is.net.few_terminals in
    omega (arith, is.counted, is.terminals, all, few)

-- a network in which nothing has happened
pub system_opening : (net : Net) → IsNet net → IsSystem (opening net)
system_opening net is = record {
  net = is;
  tree = record { written = is.trees; waiting = λ k d within. absurd (omega (arith, within)); held = λ k d within. absurd (omega (arith, within)) };
  leaves = refl;
  inputs = length-map net.terminals _;
  units = length-replicate (length net.units) opening_unit;
  terminals = length-replicate (length net.terminals) opening_terminal;
  counted = sym (no_arrivals (length net.terminals));
  few = all_few (length net.terminals);
  numbered = λ k d within. absurd (omega (arith, within));
}
  where
    all_few : (n : ℕ) → All (λ (terminal : TerminalState). terminal.arrivals ≤ MAX_ARRIVALS) (replicate n opening_terminal)
    all_few zero = λ k d within. absurd (omega (arith, within))
    all_few (suc n) = All-cons (λ (terminal : TerminalState). terminal.arrivals ≤ MAX_ARRIVALS) opening_terminal (replicate n opening_terminal) (omega arith) (all_few n)
