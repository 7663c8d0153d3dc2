use Rattle.std.proofs.Common.{◌∙◌, arith}
use Rattle.std.proofs.lemmas.List.{drop_all, drop_more}
use Rattle.com_net.proofs.NameLists.{all_added}
use Rattle.com_net.proofs.net.set_of.Goals as goal

pub loop-name-preserved : goal.loop-name-preserved
loop-name-preserved c =
    let at = c.loop-name.name-index in
    let names = c.args.names.now in
    let item = c.name-item.result in
    let left = rw (← c.name-item.is) at (drop_more names at item (omega arith)) in
    rw (c.in_ok-insert.ensures.keys) (rw left at c.loop-name.invariant)

pub returns : goal.returns
returns c =
    let past = drop_all c.loop-name.name-index c.args.names.now (omega arith) in
    (rw past at c.loop-name.invariant) ∙ all_added c.args.names.now c.requires
