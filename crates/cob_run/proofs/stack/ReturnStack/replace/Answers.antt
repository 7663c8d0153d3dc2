use Rattle.std.proofs.Common.{◌∙◌}
use Rattle.cob_run.proofs.Stacks.{top_set}
use Rattle.cob_run.proofs.stack.ReturnStack.replace.Goals as goal

pub returns : goal.returns
returns c =
    top_set c.self.inside.returns.items c.args.self.now c.args.top c.len-last.result c.self.view_is c.requires
    (c.len-last.ensures ∙ c.self.inside.returns.ok.0)
