use Rattle.std.proofs.Common.{refl}
use Rattle.cob_run.specs.Units.{UnitState}
use Rattle.cob_run.proofs.Wanting.{stop_of, verb_of, none_of, new_of, running_of}
use Rattle.cob_run.specs.declared.want.Want.TheVariants.{Stop}
use Rattle.com_events.specs.declared.call.StopReason.TheVariants as stop
use Rattle.cob_run.proofs.unit.Unit.want.Goals as goal

pub returns-in-Stopped : goal.returns-in-Stopped
returns-in-Stopped c =
    let f = c.self.inside in
    let fields : UnitState = record { code = f.code; starts = f.starts; initial = f.initial; machine = f.state } in
    stop_of c.calls_of_sources_are_well_formed.ensures fields c.args.self.now c.self.view_is f.code refl c.mode.result c.mode.ensures c.in-Stopped.reason c.in-Stopped.is

pub returns-in-Some : goal.returns-in-Some
returns-in-Some c =
    let f = c.self.inside in
    let fields : UnitState = record { code = f.code; starts = f.starts; initial = f.initial; machine = f.state } in
    verb_of c.calls_of_sources_are_well_formed.ensures fields c.args.self.now c.self.view_is c.as_slice.result.now c.as_slice.ensures c.mode.result c.mode.ensures c.in-Some.call c.in_ok-call-in-Waiting.field-0 c.in-Waiting.is c.in-Some.is c.in_ok-call-in-Waiting.ensures

pub returns-in-None : goal.returns-in-None
returns-in-None c =
    let f = c.self.inside in
    let fields : UnitState = record { code = f.code; starts = f.starts; initial = f.initial; machine = f.state } in
    none_of c.calls_of_sources_are_well_formed.ensures fields c.args.self.now c.self.view_is c.as_slice.result.now c.as_slice.ensures c.mode.result c.mode.ensures c.in_ok-call-in-Waiting.field-0 (Stop stop.DataFault) c.in-Waiting.is c.in-None.is c.in_ok-call-in-Waiting.ensures

pub returns-in-NotBegun : goal.returns-in-NotBegun
returns-in-NotBegun c =
    let f = c.self.inside in
    let fields : UnitState = record { code = f.code; starts = f.starts; initial = f.initial; machine = f.state } in
    new_of c.calls_of_sources_are_well_formed.ensures fields c.args.self.now c.self.view_is f.code refl c.mode.result c.mode.ensures (Stop stop.Run) c.in-NotBegun.is

pub returns-in-Running : goal.returns-in-Running
returns-in-Running c =
    let f = c.self.inside in
    let fields : UnitState = record { code = f.code; starts = f.starts; initial = f.initial; machine = f.state } in
    running_of c.calls_of_sources_are_well_formed.ensures fields c.args.self.now c.self.view_is f.code refl c.mode.result c.mode.ensures (Stop stop.Run) c.in-Running.is c.requires
