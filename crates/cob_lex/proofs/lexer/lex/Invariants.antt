use Rattle.std.proofs.Common.{◌≡◌, ◌+◌, ◌≤◌, length}
use Rattle.std.specs.List.{slice_split}
use Rattle.cob_lex.specs.Characters.{is_line_feed}
use Rattle.cob_lex.specs.Lines.{placed, with_kinds}
use Rattle.cob_lex.specs.Lexing.{lines_tokens, tokens_of}
use Rattle.cob_lex.specs.Answers.{with_tokens}
use Rattle.cob_lex.proofs.lexer.lex.Given as goal

-- what is left decides
abbrev pub invariant-lines : goal.invariant-lines
invariant-lines l = record {
  same : with_tokens l.tokens.items (lines_tokens l.awaited (with_kinds l.in_paragraph (placed l.place.line l.place.start (slice_split is_line_feed l.rest)))) ≡ tokens_of l.bytes;
  all : l.place.start + length l.rest ≡ length l.bytes;
  line : l.place.line ≤ l.place.start + 1;
}

abbrev pub decreases-lines : goal.decreases-lines
decreases-lines l = length l.rest
