-- A shared system may be used by several threads at once.
use denote.Param.Send.{IsSync, sendable}
use Rattle.std.proofs.Crossing.{crosses}
use Rattle.com_turn.proofs.turn.Turn.TheSendSync.{the_sync as turn_sync}
use Rattle.com_shared.proofs.book.Book.TheSendSync.{the_send as book_send}
use Rattle.com_shared.specs.contracts.shared.Shared.{the_row as shared_row}

pub shared_sync : IsSync shared_row
shared_sync = search (sendable, crosses, turn_sync, book_send) depth 40
