use Rattle.std.proofs.Common.{◌≡◌, List, Bool, ◌++◌, drop}
use Rattle.cob_lex.specs.declared.token.Token.{Token}
use Rattle.cob_data.specs.Faults.{begin_flags}
use Rattle.cob_data.proofs.ColumnSteps.{Looks, marked_from}
use Rattle.cob_data.proofs.columns.Columns.pass_entry.Given as goal

abbrev pub invariant-tokens : goal.invariant-tokens
invariant-tokens l = (others : List (Bool × Token)) → Looks l.columns.found l.columns.line (marked_from l.begins (drop l.token-index l.entry) ++ others) ≡ Looks l.fn.self.found l.fn.self.line (begin_flags l.fn.is_chosen l.entry ++ others)
