use Rattle.std.proofs.Common.{rules, ◌≡◌, ◌+◌, ◌-◌, ◌++◌, ◌∷◌, [], List, length, ap, sym, subst, arith, length-append}
use Rattle.com_events.specs.declared.entry.Entry.{Entry}
use Rattle.com_disk.specs.Logs.{record_of}
use Rattle.com_disk.specs.inner.Reads.{HasRead, IsRecordOf}
use Rattle.com_disk.proofs.Entries.{record_length}
use Rattle.com_disk.proofs.Recovered.{read_more, read_length}
use Rattle.com_disk.proofs.reading.entries_in.Goals as goal

pub loop-record-preserved : goal.loop-record-preserved
loop-record-preserved c =
    let inv = c.loop-record.invariant in
    let entries = c.loop-record.entries in
    let end = c.loop-record.end in
    let rest = c.loop-record.rest.now in
    let tail = c.in-Some-after_open_gate.record.now in
    let entry = c.in_ok-entry.entry in
    let after = c.in_ok-entry.after.now in
    let pushed : c.push.new.self ≡ entries ++ entry ∷ [] = search rules in
    let gate : rest ≡ 1 ∷ tail = search rules in
    let read : IsRecordOf tail entry after = search rules in
    let sizes = record_length read.line in
    record {
      read = subst (λ (l : List Entry). HasRead c.args.bytes.now 1 l (end + (length rest - length after)) after) (sym pushed)
          (read_more c.args.bytes.now 1 entries end rest tail entry after inv.read gate read);
      some = read.gate;
      long = omega (arith, inv.long, ap length gate, ap length read.split, length-append (record_of read.line) after);
      header = omega (arith, inv.header);
    }

pub returns-clause-length : goal.returns-clause-length
returns-clause-length c = read_length c.args.bytes.now 1 c.loop-record.entries c.loop-record.end c.loop-record.rest.now c.loop-record.invariant.read
