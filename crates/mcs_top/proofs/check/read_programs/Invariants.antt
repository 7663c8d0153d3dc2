use Rattle.std.proofs.Common.{◌≡◌, take}
use Rattle.mcs_top.specs.Checking.{AreRead}
use Rattle.mcs_top.proofs.check.read_programs.Given as goal

-- the programs of the units so far were read
abbrev pub invariant-units : goal.invariant-units
invariant-units g l = record {
  read : AreRead (take l.unit-index l.fn.units) (g.S.Store.shows l.fn.store) (g.S.Store.shows l.store);
  pending : (g.S.Store.shows l.store).pending ≡ (g.S.Store.shows l.fn.store).pending;
}
