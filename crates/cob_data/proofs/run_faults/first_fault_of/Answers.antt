use Rattle.cob_data.specs.Entries.{run}
use Rattle.cob_data.proofs.RunLaws.{faults_of_run}
use Rattle.cob_data.proofs.run_faults.first_fault_of.Goals as goal

pub returns : goal.returns
returns c =
    rw (c.first_of-2.ensures, c.first_of.ensures, c.in_ok-levels.ensures, c.in_ok-wholes.ensures, c.first_records_fault-sizes.ensures, c.over.ensures, c.is_cd-over_cd.ensures)
    (faults_of_run c.args.is_last (run c.args.head.now c.args.items.now))
