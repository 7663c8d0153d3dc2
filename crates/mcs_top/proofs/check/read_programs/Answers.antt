use Rattle.std.proofs.Common.{◌≤◌, ◌∙◌, length, refl, rules}
use Rattle.std.proofs.lemmas.List.{take_all}
use Rattle.mcs_top.proofs.Checks.{none_read, one_read, stopped_at}
use Rattle.mcs_top.proofs.check.read_programs.Goals as goal

pub units-init : goal.units-init
units-init g c = record { read = none_read c.args.units.now (g.S.Store.shows c.args.store.now); pending = refl }

pub units-preserved : goal.units-preserved
units-preserved g c = record {
  read =
      one_read c.args.units.now c.units.unit-index _ c.unit-item.result _ (g.S.Store.shows c.args.store.now) (g.S.Store.shows c.units.store) (g.S.Store.shows c.read_unit.new.store) c.units-test.true c.unit-item.is
      c.units.invariant.read c.in_ok-read_unit.ensures.ok;
  pending = c.in_ok-read_unit.ensures.pending ∙ c.units.invariant.pending;
}

pub returns-in_err-read_unit-clause-err : goal.returns-in_err-read_unit-clause-err
returns-in_err-read_unit-clause-err g c =
    let failed =
    stopped_at c.args.units.now c.units.unit-index _ c.unit-item.result (g.S.Store.shows c.args.store.now) (g.S.Store.shows c.units.store) (g.S.Store.shows c.read_unit.new.store) c.in_err-read_unit.field-0.0 c.units-test.true
    c.unit-item.is c.units.invariant.read c.in_err-read_unit.ensures.err in
    search rules

pub returns-in_err-read_unit-clause-pending : goal.returns-in_err-read_unit-clause-pending
returns-in_err-read_unit-clause-pending g c = c.in_err-read_unit.ensures.pending ∙ c.units.invariant.pending

pub returns-clause-ok : goal.returns-clause-ok
returns-clause-ok g c =
    let past : length c.args.units.now ≤ c.units.unit-index = search rules in
    rw (take_all c.units.unit-index c.args.units.now past) at c.units.invariant.read

pub returns-clause-pending : goal.returns-clause-pending
returns-clause-pending g c = c.units.invariant.pending
