use Rattle.std.proofs.Common.{◌≡◌, ◌∙◌, ◌<◌, length, sym, ap, subst, arith}
use Rattle.com_net.specs.Network.{IsNet}
use Rattle.com_shared.specs.Passes.{Place}
use Rattle.com_shared.proofs.Closing.{some_party, all_ready, closed, all_in}
use Rattle.com_shared.proofs.shared.Shared.close.Goals as goal

pub close-requires-clause-not_empty : goal.close-requires-clause-not_empty
close-requires-clause-not_empty c =
    let sound : IsNet c.args.self.net = subst IsNet (ap (λ (p : Place). p.net) c.self.view_is) c.self.invariant in
    let some = some_party c.args.self.net sound in
    let many = c.requires.many in
    omega (arith, some, many)

pub close-requires-clause-all : goal.close-requires-clause-all
close-requires-clause-all c = all_ready c.args.self c.self.inside.turn c.args.passes.items (ap (λ (p : Place). p.turn) c.self.view_is) c.requires.many c.requires.all

pub returns-in-Ok-clause-history : goal.returns-in-Ok-clause-history
returns-in-Ok-clause-history c =
    let sound : IsNet c.args.self.net = subst IsNet (ap (λ (p : Place). p.net) c.self.view_is) c.self.invariant in
    let one = some_party c.args.self.net sound in
    let many = c.requires.many in
    let some : 0 < length c.args.passes.items = omega (arith, one, many) in
    closed c.args.self c.in-Ok.book c.args.passes.items c.into_parts.result.0 c.into_parts.result.1 some c.requires.all c.in-Ok.ensures.kept c.into_parts.ensures.kept c.into_parts.ensures.parts.0 c.into_parts.ensures.parts.1

pub returns-in-Ok-clause-passes : goal.returns-in-Ok-clause-passes
returns-in-Ok-clause-passes c = all_in c.args.self c.in-Ok.book c.args.passes.items c.into_parts.result.1 c.requires.all c.in-Ok.ensures.kept c.into_parts.ensures.kept c.into_parts.ensures.parts.1
