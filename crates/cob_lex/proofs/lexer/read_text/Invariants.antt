use Rattle.std.proofs.Common.{◌≡◌, ◌+◌, ◌≤◌, length}
use Rattle.cob_lex.specs.Lines.{text_of}
use Rattle.cob_lex.specs.Lexing.{text_tokens}
use Rattle.cob_lex.specs.Answers.{with_front}
use Rattle.cob_lex.proofs.lexer.read_text.Given as goal

-- what is left decides
abbrev pub invariant-fronts : goal.invariant-fronts
invariant-fronts l = record {
  same : with_front l.tokens.items (text_tokens l.awaited 0 l.place l.at l.rest) ≡ with_front l.fn.tokens.items (text_tokens l.fn.awaited 0 l.place 7 (text_of l.line));
  in_line : l.at + length l.rest ≤ 72;
}

abbrev pub decreases-fronts : goal.decreases-fronts
decreases-fronts l = length l.rest
