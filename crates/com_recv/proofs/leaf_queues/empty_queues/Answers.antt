use Rattle.std.proofs.Common.{◌≡◌, ◌+◌, [], ◌∷◌, length, ap, ◌∙◌, length-append}
use Rattle.std.specs.List.{All}
use Rattle.std.proofs.lemmas.List.Elements.{All-push}
use Rattle.com_recv.proofs.leaf_queues.empty_queues.Goals as goal

pub loop-number-preserved : goal.loop-number-preserved
loop-number-preserved c =
    let queues = c.loop-number.queues.items in
    record {
      size = ap length c.in_ok-push.ensures.items ∙ (length-append queues (c.new.result ∷ []) ∙ ap (λ n. n + 1) c.loop-number.invariant.size);
      empty = rw c.in_ok-push.ensures.items (All-push (λ q. q.items ≡ []) queues c.new.result c.loop-number.invariant.empty c.new.ensures.items);
    }
