use Rattle.std.proofs.Common.{◌≡◌, length, arith, rules}
use Rattle.std.proofs.lemmas.Bool.{eqb-true}
use Rattle.cob_lex.proofs.Refusals.{first_refused, first_taken, left_length, lines_end, tail_slice}
use Rattle.cob_lex.proofs.SpelledPlaces.{tokens_spelled}
use Rattle.cob_lex.proofs.SpelledOrder.{tokens_in_order}
use Rattle.cob_lex.proofs.lexer.lex.Goals as goal

pub returns-in_err-awaited-clause-fault : goal.returns-in_err-awaited-clause-fault
returns-in_err-awaited-clause-fault c =
    let line = c.first_line-length.result in
    let all = first_refused _ c.lines.awaited c.lines.in_paragraph c.lines.place c.lines.rest.now line.0.now line.1 c.line_kind-kind.result c.lines.tokens.items _ c.first_line-length.ensures.first c.line_kind-kind.ensures c.lines.invariant.same c.in_err-awaited.ensures.refused in
    search rules

pub lines-preserved : goal.lines-preserved
lines-preserved c =
    let line = c.first_line-length.result in
    let all = c.lines.invariant.all in
    let number = c.lines.invariant.line in
    let some = c.first_line-length.ensures.not_empty in
    let within = c.first_line-length.ensures.within in
    record {
      same = first_taken c.lines.awaited c.in_ok-awaited.awaited c.lines.in_paragraph c.paragraph_behind-in_paragraph.result c.lines.place c.lines.rest.now line.0.now _ line.1 c.line_kind-kind.result c.lines.tokens.items c.read_line.new.tokens.items _
          c.first_line-length.ensures.first c.line_kind-kind.ensures c.paragraph_behind-in_paragraph.ensures (tail_slice c.lines.rest.now line.1) c.lines.invariant.same c.in_ok-awaited.ensures.taken;
      all = left_length c.lines.place.start line.1 _ c.lines.rest.now within all;
      line = omega arith;
    }

pub returns-clause-tokens : goal.returns-clause-tokens
returns-clause-tokens c =
    let none : length c.lines.rest.now ≡ 0 = eqb-true _ _ cc in
    rw c.of_vec.ensures (lines_end c.lines.tokens.items c.lines.awaited c.lines.in_paragraph c.lines.place c.lines.rest.now _ none c.lines.invariant.same)

pub returns-clause-spelled : goal.returns-clause-spelled
returns-clause-spelled c =
    let none : length c.lines.rest.now ≡ 0 = eqb-true _ _ cc in
    rw c.of_vec.ensures (tokens_spelled c.args.bytes.now c.lines.tokens.items (lines_end c.lines.tokens.items c.lines.awaited c.lines.in_paragraph c.lines.place c.lines.rest.now _ none c.lines.invariant.same))

pub returns-clause-in_order : goal.returns-clause-in_order
returns-clause-in_order c =
    let none : length c.lines.rest.now ≡ 0 = eqb-true _ _ cc in
    rw c.of_vec.ensures (tokens_in_order c.args.bytes.now c.lines.tokens.items (lines_end c.lines.tokens.items c.lines.awaited c.lines.in_paragraph c.lines.place c.lines.rest.now _ none c.lines.invariant.same))
