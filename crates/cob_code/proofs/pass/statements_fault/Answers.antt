use Rattle.std.proofs.Common.{map}
use Rattle.cob_proc.specs.Trees.{paragraph_tree}
use Rattle.cob_code.specs.inner.Statements.{own_faults}
use Rattle.cob_code.specs.inner.Written.{written}
use Rattle.cob_code.proofs.Joined.{next_in}
use Rattle.cob_code.proofs.pass.statements_fault.Goals as goal

pub statements-preserved : goal.statements-preserved
statements-preserved c =
    next_in (λ s. written s.now) (own_faults c.args.names.now (map paragraph_tree c.args.text.now.paragraphs.now)) c.args.statements.now c.statements.at c.index-statements-at.result c.statements.found
    c.own_fault.result c.first_of-found.result _ c.statements-test.true c.index-statements-at.is c.own_fault.ensures c.first_of-found.ensures c.statements.invariant
