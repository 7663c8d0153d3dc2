use Rattle.std.proofs.Common.{◌≡◌, ◌-◌, length, take, drop, get_or, sym, ap, ◌∙◌, arith, length-append}
use Rattle.std.proofs.Math.ListN.{length-take}
use Rattle.com_text.specs.Text.{IsText}
use Rattle.com_text.proofs.Texts.{IsText-append, IsText-take, IsText-drop}
use Rattle.com_msg.proofs.Rests.{more-characters, to-the-end, no-more, none-due}
use Rattle.com_msg.proofs.rest.first_characters.Goals.{else-loop-piece-test, then-loop-piece-test+then-len-size}
use Rattle.com_msg.proofs.rest.first_characters.Goals as goal

pub loop-piece-preserved : goal.loop-piece-preserved
loop-piece-preserved c =
    let (same, short, _, text) = c.loop-piece.invariant in
    let items = c.in_ok-extend_from_slice.ensures.items in
    let bytes = c.loop-piece.bytes.items in
    let given = c.min.result in
    let skipped = c.loop-piece.skipped in
    let whole = c.as_bytes.result.now in
    let piece = take (length whole - skipped) (drop skipped whole) in
    let is : piece ≡ drop skipped (get_or c.args.pieces.now c.loop-piece.piece-index c.piece-item.result) =
    to-the-end skipped whole ∙ ap (drop skipped) (c.as_bytes.ensures.same ∙ c.piece-item.is) in
    let more = more-characters c.args.size c.loop-piece.piece-index skipped given bytes piece c.piece-item.result c.args.pieces.now c.loop-piece-test.true is short (omega arith) in
    let length-given = length-take given piece in
    let whole-text : IsText whole = rw c.as_bytes.ensures.same c.as_bytes.ensures.text in (
      rw items (more ∙ same),
      rw items (rw (length-append bytes (take given piece)) (omega arith)),
      omega arith,
      rw items (IsText-append bytes (take given piece) text (IsText-take given piece (IsText-take (length whole - skipped) (drop skipped whole) (IsText-drop skipped whole whole-text)))),
    )

pub returns-clause-characters : goal.returns-clause-characters
returns-clause-characters c =
    let (same, short, _, text) = c.loop-piece.invariant in
    let bytes = c.loop-piece.bytes.items in
    let due = c.args.size - length bytes in
    c.of_vec.ensures
    ∙ sym (elim c.loop-piece-test.branch [
      | else-loop-piece-test w ↦ no-more due c.loop-piece.skipped c.loop-piece.piece-index bytes c.args.pieces.now w.loop-piece-test.false
      | then-loop-piece-test+then-len-size w ↦ none-due due bytes _ (omega (arith, w.if-len-size.true, w.len.ensures))
    ])
    ∙ same
