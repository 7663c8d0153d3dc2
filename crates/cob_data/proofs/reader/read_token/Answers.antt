use Rattle.cob_data.specs.Tables.{sort_of}
use Rattle.std.proofs.Common.{sym, ◌∙◌}
use Rattle.cob_data.proofs.ReadParts.{at_front, token_read, token_wanted, none_wanted}
use Rattle.cob_data.proofs.reader.read_token.Goals as goal

pub returns-then-takes-clause-read : goal.returns-then-takes-clause-read
returns-then-takes-clause-read c =
    token_read (sort_of c.args.sort) c.token-item.result _ _ (at_front c.args.tokens.now c.token-item.result c.in-len1-up.len_at_least c.token-item.is) (sym c.takes.ensures ∙ c.if-takes.true)

pub returns-in_default-clause-read : goal.returns-in_default-clause-read
returns-in_default-clause-read c = none_wanted (sort_of c.args.sort) c.args.tokens.now c.in_default.len_below

pub returns-else-takes-clause-read : goal.returns-else-takes-clause-read
returns-else-takes-clause-read c =
    token_wanted (sort_of c.args.sort) c.token-item.result _ _ (at_front c.args.tokens.now c.token-item.result c.in-len1-up.len_at_least c.token-item.is) (sym c.takes.ensures ∙ c.if-takes.false)
