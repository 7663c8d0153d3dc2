use Rattle.std.proofs.Common.{refl}
use Rattle.cob_run.specs.Units.{UnitState}
use Rattle.cob_run.proofs.Wanting.{answered_by_fields}
use Rattle.cob_run.proofs.unit.Unit.answer.Goals as goal

pub returns : goal.returns
returns c =
    let f = c.self.inside in
    let fields : UnitState = record { code = f.code; starts = f.starts; initial = f.initial; machine = f.state } in
    let new : UnitState = record { code = f.code; starts = f.starts; initial = f.initial; machine = c.take_reply.new.self } in
    λ program names replies h.
    answered_by_fields program names replies fields c.args.self.now new c.args.reply.now c.as_slice.result.now c.self.view_is c.requires
    c.as_slice.ensures refl refl c.take_reply.ensures.taken h
