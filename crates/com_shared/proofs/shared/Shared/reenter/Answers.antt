use Rattle.std.proofs.Common.{◌≡◌, ◌∙◌, sym, true}
use Rattle.com_shared.proofs.Staying.{stays_inactive, stays_active}
use Rattle.com_shared.proofs.shared.Shared.reenter.Goals as goal

pub returns-then-not-active : goal.returns-then-not-active
returns-then-not-active c = stays_inactive c.args.pass.now c.args.active c.requires.was c.if-not-active.true

pub returns-then-is_active : goal.returns-then-is_active
returns-then-is_active c = stays_active c.args.pass.now c.args.active (sym c.is_active.ensures ∙ c.if-is_active.true) c.if-not-active.false
