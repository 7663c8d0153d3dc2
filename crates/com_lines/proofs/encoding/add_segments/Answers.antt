use Rattle.std.proofs.Common.{arith, ◌≡◌, ◌+◌, ◌++◌, ap, ◌∙◌, take}
use Rattle.std.proofs.lemmas.List.Elements.{All-more}
use Rattle.com_text.specs.Text.{IsText}
use Rattle.com_lines.specs.Frames.{joined}
use Rattle.com_lines.proofs.Encoded.{joined-first, joined-more}
use Rattle.com_lines.proofs.encoding.add_segments.Goals.{then-place-gt0+in_ok-extend_from_slice, else-place-gt0}
use Rattle.com_lines.proofs.encoding.add_segments.Goals as goal

pub loop-place-preserved : goal.loop-place-preserved
loop-place-preserved c =
    let segments = c.args.segments.now in
    let place = c.loop-place.place in
    let segment = c.index-segments-place.result in
    let (so_far, texts) = c.loop-place.invariant in
    let within = c.loop-place-test.true in
    let start = c.args.bytes.now.items in
    let text : IsText segment = c.as_bytes.ensures.text in
    let bytes : c.extend_from_slice-in-loop-place.new.self.items ≡ c.if-place-gt0.bytes.items ++ segment =
    c.in_ok-extend_from_slice-2.ensures.items ∙ ap (λ xs. c.if-place-gt0.bytes.items ++ xs) c.as_bytes.ensures.same in (
      elim c.if-place-gt0.branch as (λ _. c.extend_from_slice-in-loop-place.new.self.items ≡ start ++ joined (take (place + 1) segments)) [
        | then-place-gt0+in_ok-extend_from_slice w ↦
            bytes ∙ rw (w.bytes-is, w.in_ok-extend_from_slice.ensures.items) (joined-more start c.loop-place.bytes.items segments place segment segment within c.index-segments-place.is so_far w.if-place-gt0.true)
        | else-place-gt0 w ↦
            let none : place ≡ 0 = omega (arith, w.if-place-gt0.false) in
            bytes ∙ rw w.bytes-is (joined-first start c.loop-place.bytes.items segments place segment segment within c.index-segments-place.is so_far none)
      ],
      All-more IsText segments place segment within texts (rw (← c.index-segments-place.is) text),
    )
