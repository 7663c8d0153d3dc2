use Rattle.std.proofs.Common.{◌++◌, ap, ◌∙◌}
use Rattle.cob_meaning.specs.Layouts.{referent}
use Rattle.cob_meaning.specs.Names.{subscripted_faults}
use Rattle.cob_code.specs.inner.Rules.{rule_by}
use Rattle.cob_code.proofs.Looking.{ruled, shape_seen}
use Rattle.cob_code.proofs.kinds.identifier_fault.Goals as goal

pub returns-in-Err : goal.returns-in-Err
returns-in-Err c =
    let names = c.args.names.now in let identifier = c.args.identifier.now in let position = identifier.name.position in
    ap (ruled (λ shape. rule_by c.args.rule position shape.length shape.sort ++ subscripted_faults names position shape.occurs identifier.subscript)) c.in-Err.ensures
    ∙ shape_seen (λ length sort occurs. rule_by c.args.rule position length sort ++ subscripted_faults names position occurs identifier.subscript) (referent names identifier.name) c.referent.result position c.referent.ensures

pub returns-in-Ok : goal.returns-in-Ok
returns-in-Ok c =
    let names = c.args.names.now in let identifier = c.args.identifier.now in let position = identifier.name.position in
    c.shape_fault.ensures
    ∙ ap (ruled (λ shape. rule_by c.args.rule position shape.length shape.sort ++ subscripted_faults names position shape.occurs identifier.subscript)) c.in-Ok.ensures
    ∙ shape_seen (λ length sort occurs. rule_by c.args.rule position length sort ++ subscripted_faults names position occurs identifier.subscript) (referent names identifier.name) c.referent.result position c.referent.ensures
