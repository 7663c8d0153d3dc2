use Rattle.std.proofs.Common.{subst}
use Rattle.cob_flat.specs.Effects.{request_by}
use Rattle.cob_run.specs.inner.Requests.{IsFitFor}
use Rattle.cob_run.proofs.Replying.{send_long}
use Rattle.cob_run.proofs.replies.put_reply.Goals as goal

pub put_reply_area-requires-in-Send-clause-long : goal.put_reply_area-requires-in-Send-clause-long
put_reply_area-requires-in-Send-clause-long c =
    send_long c.args.areas.now c.in-Send.area c.in-Send.from c.in-Send.ending c.args.reply.now
    (subst (λ v. IsFitFor (request_by v c.args.areas.now) c.args.reply.now) c.in-Send.is c.requires.fit)
