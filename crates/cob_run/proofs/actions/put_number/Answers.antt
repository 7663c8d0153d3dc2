use Rattle.com_text.specs.Digits.{in_digits}
use Rattle.cob_run.proofs.Areas.{item_written, same_sizes}
use Rattle.cob_run.proofs.actions.put_number.Goals as goal

pub returns-clause-put : goal.returns-clause-put
returns-clause-put c =
    item_written c.args.areas.now c.args.item c.index-areas-item.result c.write_number.new.self (in_digits c.args.number c.args.item.length)
    c.requires.area c.write_number.ensures.put

pub returns-clause-sizes : goal.returns-clause-sizes
returns-clause-sizes c =
    same_sizes c.args.areas.now c.args.item.area c.index-areas-item.result c.write_number.new.self c.requires.area c.write_number.ensures.long
