use Rattle.std.proofs.Common.{rules}
use Rattle.cob_lex.specs.declared.lexer.TheConstants.{MAX_SOURCE}
use Rattle.cob_meaning.specs.Sources.{of_length}
use Rattle.cob_code.specs.Compiled.{program_of}
use Rattle.cob_code.proofs.Reading.{lex_refused, no_more_tokens, program_not_read, trees_refused}
use Rattle.cob_code.proofs.source.read_program.Goals as goal

pub returns-then-bytes-gt-MAX_SOURCE-clause-fault : goal.returns-then-bytes-gt-MAX_SOURCE-clause-fault
returns-then-bytes-gt-MAX_SOURCE-clause-fault c = of_length (search rules)

pub returns-in-Err-clause-fault : goal.returns-in-Err-clause-fault
returns-in-Err-clause-fault c = lex_refused c.args.bytes.now c.in-Err.error (search rules) c.in-Err.ensures.fault

pub read_trees-requires-clause-few : goal.read_trees-requires-clause-few
read_trees-requires-clause-few c = rw c.as_slice.ensures (no_more_tokens MAX_SOURCE c.args.bytes.now c.in-Ok.tokens c.in-Ok.ensures.spelled (search rules))

pub returns-in-Ok-read_trees-clause-fault : goal.returns-in-Ok-read_trees-clause-fault
returns-in-Ok-read_trees-clause-fault c =
    program_not_read c.args.bytes.now c.in-Ok.tokens (program_of c.in-Ok-read_trees.divisions c.in-Ok-read_trees.procedure) c.compile.result (search rules) c.in-Ok.ensures.tokens
    (search rules) c.compile.ensures.fault

pub returns-clause-fault : goal.returns-clause-fault
returns-clause-fault c = trees_refused c.args.bytes.now c.in-Ok.tokens c.in-Err-read_trees.error (search rules) c.in-Ok.ensures.tokens (search rules)
