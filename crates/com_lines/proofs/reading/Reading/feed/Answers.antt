use Rattle.std.proofs.Common.{◌+◌, get_or, take, drop, refl}
use Rattle.com_lines.proofs.Pieces.{cut-off, piece-at}
use Rattle.com_lines.proofs.reading.Reading.feed.Goals as goal

pub returns-in-Err-clause-fault : goal.returns-in-Err-clause-fault
returns-in-Err-clause-fault c fault e =
    let piece = c.args.piece.now in
    let i = c.loop-byte.byte-index in
    let byte = get_or piece i 0 in
    let stop = c.in-Err.ensures.fault fault e in
    let cut = cut-off c.args.self.now c.loop-byte.self (take i piece) byte (drop (i + 1) piece) c.args.messages.now c.loop-byte.messages fault c.loop-byte.invariant.continued stop c.loop-byte.invariant.framing in
    rw (c.in-Err.ensures.same, ← piece-at piece i byte c.loop-byte-test.true refl) cut
