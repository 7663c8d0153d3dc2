use Rattle.std.proofs.Common.{arith}
use Rattle.com_state.proofs.Holding.{arrivals_bounded}
use Rattle.com_state.proofs.state.State.next_number.Goals as goal

pub overflow_add-result : goal.overflow_add-result
overflow_add-result c = omega (arith, arrivals_bounded c.self.invariant.system)

pub returns-clause-few : goal.returns-clause-few
returns-clause-few c = (omega arith, omega (arith, arrivals_bounded c.self.invariant.system))
