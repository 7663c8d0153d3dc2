use Rattle.std.proofs.Common.{ℕ, List, refl}
use Rattle.std.specs.Prelude.{option_map}
use Rattle.std.specs.Borrow.{Bor}
use Rattle.cob_run.specs.Units.{UnitState}
use Rattle.cob_run.proofs.Wanting.{begun_by_fields}
use Rattle.cob_run.proofs.unit.Unit.begin.Goals as goal

pub returns : goal.returns
returns c =
    let f = c.self.inside in
    let fields : UnitState = record { code = f.code; starts = f.starts; initial = f.initial; machine = f.state } in
    let new : UnitState = record { code = f.code; starts = f.starts; initial = f.initial; machine = c.begin.new.self } in
    λ program h.
    begun_by_fields program (option_map {T = Bor (List ℕ)} {U = List ℕ} (λ x. x.now) c.args.names) fields c.args.self.now new c.as_slice.result.now c.self.view_is c.requires.names
    c.as_slice.ensures refl refl c.begin.ensures.begun h
