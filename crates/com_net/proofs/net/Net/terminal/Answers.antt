use Rattle.std.proofs.Common.{length, position, ap, ◌∙◌, arith}
use Rattle.std.specs.Str.{bytes_eq}
use Rattle.com_net.proofs.NameLists.{place_of_terminal, as_many_terminals}
use Rattle.com_net.proofs.net.Net.terminal.Goals as goal

pub number_of-requires : goal.number_of-requires
number_of-requires c =
    let held = c.self.invariant in
    record { few = omega (arith, ap length held.1, as_many_terminals c.self.inside.terminals, held.0.few_terminals) }

pub returns-clause-number : goal.returns-clause-number
returns-clause-number c = rw (← c.self.view_is) (c.number_of.ensures.number
    ∙ (ap (position (λ other. bytes_eq other c.args.name.now)) c.self.invariant.1 ∙ place_of_terminal c.args.name.now c.self.inside.terminals))

pub returns-clause-within : goal.returns-clause-within
returns-clause-within c =
    let same = ap length c.self.invariant.1 ∙ as_many_terminals c.self.inside.terminals in
    rw (← c.self.view_is) (rw same at c.number_of.ensures.within)
