use Rattle.std.proofs.Common.{refl, subst}
use Rattle.cob_flat.specs.inner.Operands.{AreEach, IsPartOf}
use Rattle.cob_flat.proofs.Each.{holds_so}
use Rattle.cob_flat.proofs.resolve.test.Goals as goal

pub returns : goal.returns
returns c =
    holds_so c.args.names.now c.args.condition.now
    (record { joint = c.args.condition.now.joint; parts = c.in_ok-parts.field-0 }) refl
    (subst (λ l. AreEach (IsPartOf c.args.names.now) l c.in_ok-parts.field-0) c.as_slice.ensures
    c.in_ok-parts.ensures)
