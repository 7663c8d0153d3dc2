use Rattle.cob_flat.specs.inner.Operands.{IsPartOf}
use Rattle.cob_flat.proofs.Each.{all_made}
use Rattle.cob_flat.proofs.resolve.parts.Goals as goal

pub returns : goal.returns
returns c =
    all_made (IsPartOf c.args.names.now) c.args.simples.now c.simples.simple-index c.simples.parts.items c.of_vec.result
    c.simples-test.false c.of_vec.ensures c.simples.invariant.made
