use Rattle.std.proofs.Common.{◌≡◌, true, false, Some, None, sym, ◌∙◌}
use Rattle.com_text.specs.Text.{is_text_byte}
use Rattle.com_lines.specs.Bytes.{is_between}
use Rattle.com_lines.specs.inner.Readings.{end_of}
use Rattle.com_lines.proofs.Takes.{next-character, next-message, next-segment, next-skip, safe-segment}
use Rattle.com_lines.proofs.reading.Reading.take_in.Goals as goal

pub returns-then-is_text_byte-clause-next : goal.returns-then-is_text_byte-clause-next
returns-then-is_text_byte-clause-next c =
    let character : is_text_byte c.args.byte ≡ true = cc in
    rw c.in_ok-add_character.ensures (next-character c.args.self.now c.args.byte c.requires.safe c.requires.right c.requires.behind_return character)

pub returns-then-is_between-clause-safe : goal.returns-then-is_between-clause-safe
returns-then-is_between-clause-safe c =
    let esi : is_between c.args.self.now.framing c.args.byte ≡ true = cc in
    rw c.in_ok-end_segment.ensures (safe-segment c.args.self.now c.args.byte c.requires.safe c.requires.right esi)

pub returns-then-is_between-clause-next : goal.returns-then-is_between-clause-next
returns-then-is_between-clause-next c =
    let esi : is_between c.args.self.now.framing c.args.byte ≡ true = cc in
    rw c.in_ok-end_segment.ensures (next-segment c.args.self.now c.args.byte c.requires.safe c.requires.right c.requires.behind_return esi)

pub returns-in_ok-message-in-Some-clause-next : goal.returns-in_ok-message-in-Some-clause-next
returns-in_ok-message-in-Some-clause-next c =
    let ends : end_of c.args.self.now.framing c.args.byte ≡ Some c.in-Some.end = sym c.end_of.ensures ∙ c.in-Some.is in
    rw (c.pass.ensures, c.in_ok-message-in-Some.ensures.left, c.in_ok-message-in-Some.ensures.message) (next-message c.args.self.now c.args.byte c.in-Some.end c.requires.safe c.requires.right c.requires.behind_return ends)

pub returns-in-None-clause-next : goal.returns-in-None-clause-next
returns-in-None-clause-next c =
    let character : is_text_byte c.args.byte ≡ false = cc in
    let esi : is_between c.args.self.now.framing c.args.byte ≡ false = cc in
    let ends : end_of c.args.self.now.framing c.args.byte ≡ None = sym c.end_of.ensures ∙ c.in-None.is in
    rw c.pass-in-None.ensures (next-skip c.args.self.now c.args.byte c.requires.safe c.requires.right c.requires.behind_return character esi ends)
