use Rattle.std.proofs.Common.{refl}
use Rattle.cob_run.specs.Units.{UnitState}
use Rattle.cob_run.proofs.Wanting.{ran_by_fields}
use Rattle.cob_run.proofs.unit.Unit.run.Goals as goal

pub returns-clause-stands : goal.returns-clause-stands
returns-clause-stands c =
    let f = c.self.inside in
    let fields : UnitState = record { code = f.code; starts = f.starts; initial = f.initial; machine = f.state } in
    let new : UnitState = record { code = f.code; starts = f.starts; initial = f.initial; machine = c.run.new.state } in
    λ program names replies h.
    ran_by_fields program names replies fields c.args.self.now new c.as_slice.result.now c.as_slice-2.result.now c.self.view_is
    c.as_slice.ensures c.as_slice-2.ensures refl refl c.run.ensures.stands h
