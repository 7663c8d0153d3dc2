use Rattle.std.proofs.Common.{sym, ap, ◌∙◌}
use Rattle.std.specs.Prelude.{option_map, slice_get}
use Rattle.cob_code.specs.inner.Referents.{listed}
use Rattle.cob_code.proofs.Naming.{is_nowhere, is_there}
use Rattle.cob_code.proofs.names.Names.referent.Goals as goal

pub returns-in-Some : goal.returns-in-Some
returns-in-Some c =
    let inside = c.self.inside in
    c.referent_at.ensures ∙ ap (λ l. option_map (λ x. x.1) (slice_get (listed l) c.in-Some.number)) c.deref.ensures.value
    ∙ is_there inside.division.now inside.entries.items c.args.self.now c.args.name.now c.as_bytes.result.now c.self.view_is c.self.invariant.0 c.as_bytes.ensures.same c.in-Some.number
    (sym (c.number_in.ensures _ c.self.invariant.1) ∙ c.in-Some.is)

pub returns-in-None : goal.returns-in-None
returns-in-None c =
    let inside = c.self.inside in
    is_nowhere inside.division.now inside.entries.items c.args.self.now c.args.name.now c.as_bytes.result.now c.self.view_is c.self.invariant.0 c.as_bytes.ensures.same
    (sym (c.number_in.ensures _ c.self.invariant.1) ∙ c.in-None.is)
