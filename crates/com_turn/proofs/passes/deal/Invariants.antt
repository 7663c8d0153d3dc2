use Rattle.std.proofs.Common.{◌≡◌, ◌≤◌, []}
use Rattle.std.specs.Prelude.{vec_capacity}
use Rattle.com_turn.proofs.Beginning.{Dealing, giver}
use Rattle.com_turn.proofs.passes.deal.Given as goal

abbrev pub invariant-loop-number : goal.invariant-loop-number
invariant-loop-number g l =
    let opening = l.fn.opening in let log = g.V.Logged.log opening.value.value in
    Dealing g.V.Logged.base opening l.fn.board log l.number l.passes.items
    × (l.seat.table_id ≡ l.fn.board)
    × (l.seat.me ≡ (giver g.V.Logged.base opening l.fn.board log l.number, []))
    × (opening.parties ≤ vec_capacity l.passes)
