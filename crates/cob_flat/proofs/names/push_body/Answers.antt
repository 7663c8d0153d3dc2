use Rattle.std.proofs.Common.{◌++◌, ap, ◌∙◌, refl}
use Rattle.cob_flat.specs.inner.Referents.{listed}
use Rattle.cob_flat.proofs.Ordering.{names_of_body, on_ok}
use Rattle.cob_flat.proofs.names.push_body.Goals as goal

pub returns-in-InputNames : goal.returns-in-InputNames
returns-in-InputNames c =
    on_ok c.push_in_order.result _ _
    (λ h. h ∙ ap (λ l. listed c.args.entries.now.items ++ l) (names_of_body c.args.area c.args.body.now c.in-InputNames.initial c.in-InputNames.names c.as_slice-in-InputNames.result.now _ c.in-InputNames.is c.as_slice-in-InputNames.ensures refl))
    c.push_in_order.ensures
