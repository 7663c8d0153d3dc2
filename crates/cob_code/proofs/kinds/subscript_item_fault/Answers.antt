use Rattle.std.proofs.Common.{ap, ◌∙◌}
use Rattle.std.specs.Prelude.{◌&&◌}
use Rattle.cob_lex.specs.declared.fault.SourceKind.TheVariants as faults
use Rattle.cob_meaning.specs.Layouts.{referent}
use Rattle.cob_meaning.specs.Names.{fault_unless, is_numeric, is_single}
use Rattle.cob_code.proofs.Looking.{ruled, shape_seen}
use Rattle.cob_code.proofs.kinds.subscript_item_fault.Goals as goal

pub returns-in-Err : goal.returns-in-Err
returns-in-Err c =
    let position = c.args.name.now.position in
    ap (ruled (λ shape. fault_unless (is_single shape.occurs && is_numeric shape.sort) position faults.WrongKind)) c.in-Err.ensures
    ∙ shape_seen (λ length sort occurs. fault_unless (is_single occurs && is_numeric sort) position faults.WrongKind) (referent c.args.names.now c.args.name.now) c.referent.result position c.referent.ensures

pub returns-in-Ok : goal.returns-in-Ok
returns-in-Ok c =
    let position = c.args.name.now.position in
    c.single_number_fault.ensures
    ∙ ap (ruled (λ shape. fault_unless (is_single shape.occurs && is_numeric shape.sort) position faults.WrongKind)) c.in-Ok.ensures
    ∙ shape_seen (λ length sort occurs. fault_unless (is_single occurs && is_numeric sort) position faults.WrongKind) (referent c.args.names.now c.args.name.now) c.referent.result position c.referent.ensures
