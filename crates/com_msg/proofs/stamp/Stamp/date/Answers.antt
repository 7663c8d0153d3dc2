use Rattle.com_text.proofs.Texts.{IsText-digits}
use Rattle.com_msg.specs.Stamp.{moment}
use Rattle.com_msg.proofs.Pairs.{date_digits}
use Rattle.com_msg.proofs.stamp.Stamp.date.Goals as goal

pub returns-clause-text : goal.returns-clause-text
returns-clause-text c = IsText-digits c.self.inside.date (date_digits (moment c.self.inside.date c.self.inside.time) c.self.invariant)
