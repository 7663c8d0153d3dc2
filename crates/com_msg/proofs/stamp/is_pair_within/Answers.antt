use Rattle.std.proofs.lemmas.Bool.{false≢true}
use Rattle.com_msg.proofs.Pairs.{pair-number}
use Rattle.com_msg.proofs.stamp.is_pair_within.Goals as goal

pub returns-in-None : goal.returns-in-None
returns-in-None c =
    absurd (false≢true (c.in-None.ensures.some.1 (pair-number c.args.digits.now c.args.at c.requires.within c.requires.digits)))
