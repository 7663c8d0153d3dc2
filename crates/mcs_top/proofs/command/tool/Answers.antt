use Rattle.std.proofs.Common.{map, string_bytes}
use Rattle.mcs_top.proofs.ByWords.{of_check, of_replay, of_show}
use Rattle.mcs_top.proofs.Complete.{complete}
use Rattle.mcs_top.proofs.command.tool.Goals as goal

pub returns-in-Some-Replay-clause-complete : goal.returns-in-Some-Replay-clause-complete
returns-in-Some-Replay-clause-complete g c =
    let words = map string_bytes c.args.words.now in
    let before = g.S.Store.shows c.args.store.now in
    let after = g.S.Store.shows c.replay_status.new.store in
    let is = rw c.in-Some-Replay.field-0-is at c.in-Some-Replay.ensures.found in
    complete words c.replay_status.result before after
    (of_replay words c.in-Some-Replay.net.now c.in-Some-Replay.script.now c.replay_status.result before after is c.replay_status.ensures.outcome c.replay_status.ensures.pending)

pub returns-in-Some-Check-clause-complete : goal.returns-in-Some-Check-clause-complete
returns-in-Some-Check-clause-complete g c =
    let words = map string_bytes c.args.words.now in
    let before = g.S.Store.shows c.args.store.now in
    let after = g.S.Store.shows c.check_status.new.store in
    let is = rw c.in-Some-Check.field-0-is at c.in-Some-Check.ensures.found in
    complete words c.check_status.result before after
    (of_check words c.in-Some-Check.net.now c.check_status.result before after is c.check_status.ensures.outcome c.check_status.ensures.pending)

pub returns-in-Some-Show-clause-complete : goal.returns-in-Some-Show-clause-complete
returns-in-Some-Show-clause-complete g c =
    let words = map string_bytes c.args.words.now in
    let before = g.S.Store.shows c.args.store.now in
    let after = g.S.Store.shows c.show_status.new.store in
    let is = rw c.in-Some-Show.field-0-is at c.in-Some-Show.ensures.found in
    complete words c.show_status.result before after
    (of_show words c.in-Some-Show.framing c.in-Some-Show.file.now c.show_status.result before after is c.show_status.ensures.outcome c.show_status.ensures.pending)
