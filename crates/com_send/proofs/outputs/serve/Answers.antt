use Rattle.std.proofs.Common.{◌<◌, length, sym, ◌∙◌, arith}
use Rattle.std.proofs.lemmas.List.{set-get_or}
use Rattle.com_send.specs.Sending.{serve}
use Rattle.com_send.proofs.Changing.{so_far_changed, so_far_same}
use Rattle.com_send.proofs.outputs.serve.Goals.{then-has, else-has}
use Rattle.com_send.proofs.outputs.serve.Goals as goal

pub loop-at-preserved : goal.loop-at-preserved
loop-at-preserved c =
    let found = c.args.named.now in
    let before = c.args.outputs.now in
    let after = c.loop-at.outputs in
    let at = c.loop-at.at in
    let lent = c.index-outputs-at.result in
    let within : at < length before = omega arith in
    elim c.if-has.branch [
      | then-has w ↦
          rw w.outputs-is (so_far_changed found (serve c.args.unit c.args.sent_part.now.part c.args.sent_part.now.text.now) before after at w.serve.new.self lent c.loop-at.invariant within (sym c.has.ensures ∙ w.if-has.true) w.serve.ensures)
      | else-has w ↦
          rw (w.outputs-is, set-get_or after at lent) (so_far_same found (serve c.args.unit c.args.sent_part.now.part c.args.sent_part.now.text.now) before after at lent c.loop-at.invariant within (sym c.has.ensures ∙ w.if-has.false))
    ]
