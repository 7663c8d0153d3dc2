use Rattle.std.proofs.Common.{◌≡◌, length, take}
use Rattle.com_lines.specs.inner.Readings.{IsContinued, IsSafe}
use Rattle.com_lines.proofs.reading.Reading.feed.Given as goal

-- the piece was read up to here, and the messages that it ends were added
abbrev pub invariant-loop-byte : goal.invariant-loop-byte
invariant-loop-byte l = record {
  safe : IsSafe l.self;
  framing : l.self.framing ≡ l.fn.self.framing;
  continued : IsContinued l.fn.self (take l.byte-index l.piece) l.fn.messages l.self l.messages;
  front : take (length l.fn.messages) l.messages ≡ l.fn.messages;
}
