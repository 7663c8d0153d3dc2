use Rattle.turn_tests.proofs.Afterwards.{after_none, after_more}
use Rattle.turn_tests.proofs.write_notes.Goals as goal

pub loop-number-init : goal.loop-number-init
loop-number-init g c = after_none c.args.pass

pub loop-number-preserved : goal.loop-number-preserved
loop-number-preserved g c = after_more c.loop-number.number c.args.pass c.loop-number.pass c.write_note.new.pass c.loop-number.invariant c.write_note.ensures
