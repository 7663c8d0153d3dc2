use Rattle.cob_data.proofs.WholeLaws.{front_is_whole}
use Rattle.cob_data.proofs.wholes.front_fault.Goals as goal

pub returns-in-len2-up : goal.returns-in-len2-up
returns-in-len2-up c =
    front_is_whole c.args.is_last c.args.over_cd c.item-item-2.result c.next-item.result c.args.items.now c.rank.result c.item_fault-in-len2-up.result c.in-len2-up.len_at_least c.item-item-2.is c.next-item.is c.rank.ensures c.item_fault-in-len2-up.ensures
