use Rattle.cob_flat.specs.inner.Operands.{IsSpotOf}
use Rattle.cob_flat.proofs.Each.{all_made}
use Rattle.cob_flat.proofs.resolve.spots.Goals as goal

pub returns : goal.returns
returns c =
    all_made (IsSpotOf c.args.names.now) c.args.identifiers.now c.identifiers.identifier-index c.identifiers.spots.items c.of_vec.result
    c.identifiers-test.false c.of_vec.ensures c.identifiers.invariant.made
