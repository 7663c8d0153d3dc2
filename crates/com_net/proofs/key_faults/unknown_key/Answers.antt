use Rattle.com_net.specs.Keys.{keys_of}
use Rattle.com_net.proofs.Tables.{all_names}
use Rattle.com_net.proofs.key_faults.unknown_key.Goals as goal

pub loop-name-init : goal.loop-name-init
loop-name-init c = rw (c.into_iter-name-iterator.ensures.into_iter_gives, c.keys-name-items.ensures.rest) (all_names (keys_of c.args.section) c.args.table.now.entries)
