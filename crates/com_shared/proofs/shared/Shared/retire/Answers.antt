use Rattle.std.proofs.Common.{◌≡◌, ◌∙◌, sym}
use Rattle.com_shared.proofs.Staying.{stays_out}
use Rattle.com_shared.proofs.shared.Shared.retire.Goals as goal

pub returns-then-not-is_active : goal.returns-then-not-is_active
returns-then-not-is_active c = stays_out c.args.pass.now (sym c.is_active.ensures ∙ c.if-not-is_active.true)
