use Rattle.std.proofs.Common.{drop, refl}
use Rattle.cob_code.proofs.Reading.{procedure_refused, spelled}
use Rattle.cob_code.proofs.source.read_trees.Goals as goal

pub returns-in-Ok-read_procedure-clause-spells : goal.returns-in-Ok-read_procedure-clause-spells
returns-in-Ok-read_procedure-clause-spells c =
    spelled c.args.tokens.now (drop c.in-Ok.read.1 c.args.tokens.now) c.in-Ok.read.1 c.in-Ok.read.0 c.in-Ok-read_procedure.procedure c.in-Ok.ensures.division c.in-Ok.ensures.sound refl
    c.in-Ok-read_procedure.ensures.found c.in-Ok-read_procedure.ensures.sound

pub returns-in-Err-read_procedure-clause-fault : goal.returns-in-Err-read_procedure-clause-fault
returns-in-Err-read_procedure-clause-fault c =
    procedure_refused c.in-Err-read_procedure.error c.args.tokens.now (drop c.in-Ok.read.1 c.args.tokens.now) c.in-Ok.read.1 c.in-Ok.read.0 c.in-Ok.ensures.division c.in-Ok.ensures.sound refl
    c.in-Err-read_procedure.ensures.fault
