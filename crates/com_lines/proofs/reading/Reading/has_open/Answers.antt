use Rattle.std.proofs.Common.{◌<◌, ◌≤◌, length}
use Rattle.com_lines.proofs.Ends.{open-segments, open-text}
use Rattle.com_lines.proofs.reading.Reading.has_open.Goals as goal

pub returns-then-len-gt0 : goal.returns-then-len-gt0
returns-then-len-gt0 c =
    let some : 0 < length c.args.self.now.segments = rw (← c.len.ensures) c.if-len-gt0.true in
    open-segments c.args.self.now.segments c.args.self.now.text some

pub returns : goal.returns
returns c =
    let none : length c.args.self.now.segments ≤ 0 = rw (← c.len.ensures) c.if-len-gt0.false in
    rw c.len-2.ensures (open-text c.args.self.now.segments c.args.self.now.text none)
