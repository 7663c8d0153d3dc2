use Rattle.std.proofs.Common.{inr}
use Rattle.com_feed.proofs.Steps.{unended}
use Rattle.com_feed.proofs.laws.unended_is_being_fed.Goals as goal

pub returns : goal.returns
returns c = λ party framing bytes lost entries no_end. (λ h. unended party framing bytes lost entries h no_end, λ h. inr h)
