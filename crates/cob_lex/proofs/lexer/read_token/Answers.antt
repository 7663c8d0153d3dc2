use Rattle.std.proofs.Common.{Err, ap, arith}
use Rattle.com_text.specs.Text.{IsFirstBadByte}
use Rattle.cob_lex.specs.Lexing.{sound_token}
use Rattle.cob_lex.proofs.BadBytes.{bad_byte, sound_bytes}
use Rattle.cob_lex.proofs.lexer.read_token.Goals as goal

pub overflow_add-at : goal.overflow_add-at
overflow_add-at c =
    let first : IsFirstBadByte c.args.bytes.now c.in-Err-BadByte.bad = c.in-Err-BadByte.ensures.bad_byte c.in-Err-BadByte.bad (ap Err c.in-Err-BadByte.field-0-is) in
    let within = first.within in
    rw c.in-Err-BadByte.field-0-is (omega arith)

pub refusal-requires : goal.refusal-requires
refusal-requires c =
    let first : IsFirstBadByte c.args.bytes.now c.in-Err-BadByte.bad = c.in-Err-BadByte.ensures.bad_byte c.in-Err-BadByte.bad (ap Err c.in-Err-BadByte.field-0-is) in
    let within = first.within in
    rw c.in-Err-BadByte.field-0-is (omega arith)

pub returns-in-Err-BadByte-clause-refused : goal.returns-in-Err-BadByte-clause-refused
returns-in-Err-BadByte-clause-refused c =
    let bytes = c.args.bytes.now in
    let first : IsFirstBadByte bytes c.in-Err-BadByte.bad = c.in-Err-BadByte.ensures.bad_byte c.in-Err-BadByte.bad (ap Err c.in-Err-BadByte.field-0-is) in
    rw (c.refusal.ensures, c.in-Err-BadByte.field-0-is)
    (ap (sound_token c.args.place c.args.at c.args.kind bytes) (bad_byte bytes c.args.at c.in-Err-BadByte.bad first))

pub returns-clause-token : goal.returns-clause-token
returns-clause-token c =
    let bytes = c.args.bytes.now in
    rw c.in-Ok.ensures.ok (ap (sound_token c.args.place c.args.at c.args.kind bytes) (sound_bytes bytes c.args.at (rw c.in-Ok.ensures.ok at c.in-Ok.ensures.only_texts)))
