use Rattle.std.proofs.Common.{rules}
use Rattle.com_text.proofs.Texts.{IsText-in_digits}
use Rattle.com_text.proofs.decimal.digits_of.Goals as goal

pub returns-clause-text : goal.returns-clause-text
returns-clause-text g c = rw c.digits.ensures.digits (search (rules, IsText-in_digits))
