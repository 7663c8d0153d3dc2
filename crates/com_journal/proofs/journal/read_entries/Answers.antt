use Rattle.std.proofs.Common.{◌≡◌, [], ◌∷◌, ◌++◌, arith, rules}
use Rattle.com_journal.proofs.Histories.{one_read}
use Rattle.com_journal.proofs.journal.read_entries.Goals as goal

pub loop-line-preserved : goal.loop-line-preserved
loop-line-preserved c =
    let entry = c.in_ok-entry.entry in
    let line = c.in-Some.line in
    let pushed : c.push.new.self ≡ c.loop-line.entries ++ entry ∷ [] = search rules in
    rw pushed record {
      read = one_read c.args.lines.now c.loop-line.entries c.loop-line.number c.loop-line.lines entry line.text.now line.is_ended c.next_line.new.self c.loop-line.invariant.read c.in-Some.ensures.line c.in_ok-entry.ensures.ended c.in_ok-entry.ensures.entry;
      few = omega (arith, c.in-Some.ensures.shorter);
    }
