use Rattle.shared_tests.proofs.Beginning.{new_front, new_last}
use Rattle.shared_tests.proofs.parties.last_pass.Goals as goal

pub returns-clause-new : goal.returns-clause-new
returns-clause-new c = new_front c.args.shared.now c.args.passes.now.items c.pop.new.self.items c.in-Some.pass c.in-Some.ensures.items c.requires.new

pub returns-clause-last : goal.returns-clause-last
returns-clause-last c = new_last c.args.shared.now c.args.passes.now.items c.pop.new.self.items c.in-Some.pass c.in-Some.ensures.items c.requires.new
