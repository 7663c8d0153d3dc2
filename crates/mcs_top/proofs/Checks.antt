-- How the programs that were read make up a check.
use Rattle.std.proofs.Common.{◌≡◌, ℕ, ◌+◌, ◌<◌, List, [], ◌∷◌, ◌++◌, length, take, drop, get_or, refl, ap, sym, ◌∙◌, append_assoc}
use Rattle.std.proofs.lemmas.List.{take_more, take-append-drop}
use Rattle.com_io.specs.Files.{HasNoFault}
use Rattle.com_io.specs.Stores.{Shown}
use Rattle.com_net.specs.declared.net.UnitRow.{UnitRow}
use Rattle.cob_meaning.specs.Meaning.{Program}
use Rattle.mcs_top.specs.declared.report.Failure.{Failure}
use Rattle.mcs_top.specs.Checking.{AreRead, IsUnitFailure, IsUnitsFailure}
use Rattle.mcs_top.specs.Programs.{IsProgramRead, AreProgramsRead, none, more}
use Rattle.mcs_top.proofs.Outs.{no_fault_then}

-- no fault is counted while programs are read
pub read_unfailed : (units : List UnitRow) (programs : List Program) (before after : Shown) → AreProgramsRead units programs before after → HasNoFault before after
read_unfailed _ _ before _ none = record { pending = refl; open_faults = refl; read_faults = refl; write_faults = refl }
read_unfailed _ _ before after (more {unit} {program} {units} {programs} between first rest) =
    no_fault_then before between after first.is_read.no_fault (read_unfailed units programs between after rest)

-- one program behind others
read_behind : (units : List UnitRow) (programs : List Program) (last : UnitRow) (another : Program) (before between after : Shown) → AreProgramsRead units programs before between → IsProgramRead last another between after
    → AreProgramsRead (units ++ last ∷ []) (programs ++ another ∷ []) before after
read_behind _ _ last another before _ after none h = more after h none
read_behind _ _ last another before between after (more {unit} {program} {units} {programs} next first rest) h = more next first (read_behind units programs last another next between after rest h)

-- no program
pub none_read : (units : List UnitRow) (shown : Shown) → AreRead (take 0 units) shown shown
none_read units shown = record { programs = []; are_read = none }

-- the program of one unit more
pub one_read : (units : List UnitRow) (i : ℕ) (d unit : UnitRow) (program : Program) (before between after : Shown) → i < length units → unit ≡ get_or units i d → AreRead (take i units) before between
    → IsProgramRead unit program between after → AreRead (take (i + 1) units) before after
one_read units i d unit program before between after within is so_far h =
    let last : IsProgramRead (get_or units i d) program between after = rw (← is) h in
    record {
      programs = so_far.programs ++ program ∷ [];
      are_read = rw (take_more units i d within) (read_behind (take i units) so_far.programs (get_or units i d) program before between after so_far.are_read last);
    }

-- the units around one
around : (units : List UnitRow) (i : ℕ) (d : UnitRow) → i < length units → units ≡ take i units ++ get_or units i d ∷ drop (i + 1) units
around units i d within =
    sym (take-append-drop (i + 1) units)
    ∙ (ap (λ (front : List UnitRow). front ++ drop (i + 1) units) (take_more units i d within) ∙ append_assoc (take i units) (get_or units i d ∷ []) (drop (i + 1) units))

-- the next unit gave no program
pub stopped_at : (units : List UnitRow) (i : ℕ) (d unit : UnitRow) (before between after : Shown) (failure : Failure) → i < length units → unit ≡ get_or units i d → AreRead (take i units) before between
    → IsUnitFailure failure unit between after → IsUnitsFailure units before after failure
stopped_at units i d unit before between after failure within is so_far h = record {
  front = take i units;
  unit = get_or units i d;
  others = drop (i + 1) units;
  split = around units i d within;
  programs = so_far.programs;
  between = between;
  are_read = so_far.are_read;
  why = rw (← is) h;
}
