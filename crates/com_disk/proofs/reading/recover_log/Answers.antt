use Rattle.std.proofs.lemmas.List.Elements.{All-from_recursion}
use Rattle.com_events.specs.Calls.{HasText}
use Rattle.com_disk.proofs.Unique.{have_texts}
use Rattle.com_disk.proofs.reading.recover_log.Goals as goal

pub returns-clause-texts : goal.returns-clause-texts
returns-clause-texts g c =
    let stands = c.in_ok-found.ensures.stands in
    All-from_recursion HasText c.in_ok-found.found.entries (have_texts c.in_ok-found.found.entries stands.lines stands.are_lines)
