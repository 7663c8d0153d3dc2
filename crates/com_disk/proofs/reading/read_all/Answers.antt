use Rattle.std.proofs.Common.{rules, ◌≡◌, ◌∙◌, ◌+◌, ◌++◌, ℕ, List, length, take, drop, sym, ap, arith, length-append, length-take}
use Rattle.std.proofs.Math.Seq.{take-add}
use Rattle.com_disk.proofs.Moments.{goes_on}
use Rattle.com_disk.proofs.reading.read_all.Goals as goal

pub loop-buffer-preserved : goal.loop-buffer-preserved
loop-buffer-preserved g c =
    let content = g.D.Disk.content in
    let first = c.args.disk.now in
    let inv = c.loop-buffer.invariant in
    let had = c.loop-buffer.bytes.items in
    let k = c.in_ok-count.count in
    let added : c.extend_from_slice.new.self.items ≡ had ++ take k c.read.new.into = search rules in
    let place : c.len-in-loop-buffer-2.result ≡ length had = search rules in
    let size : length c.extend_from_slice.new.self.items ≡ length had + k = omega (arith, ap length added, length-append had (take k c.read.new.into), length-take k c.read.new.into, c.in_ok-count.ensures.bound) in
    record {
      read = λ t. added
          ∙ ap (λ (l : List ℕ). l ++ take k c.read.new.into) (inv.read t)
          ∙ ap (λ (l : List ℕ). take (length had) (content first) ++ l) (c.in_ok-count.ensures.bytes t ∙ ap (λ m. take k (drop m (content c.loop-buffer.disk))) place ∙ ap (λ (l : List ℕ). take k (drop (length had) l)) (inv.content t))
          ∙ sym (take-add (length had) k (content first))
          ∙ ap (λ m. take m (content first)) (sym size);
      content = λ t. c.read.ensures.content t ∙ inv.content t;
      images = λ t f now. inv.images t f ((c.read.ensures.images t f).0 now);
      moment = λ t. goes_on g.D.Disk.moment g.D.Disk.since first c.loop-buffer.disk c.read.new.self (g.D.Disk.images first) _ (inv.moment t) (c.read.ensures.time t) (λ f now. inv.images t f ((c.read.ensures.images t f).0 now));
      later = omega (arith, inv.later, c.read.ensures.cause.later);
    }
