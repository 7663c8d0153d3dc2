use Rattle.std.proofs.Common.{[], ◌∷◌, ap, sym, ◌∙◌, rules}
use Rattle.cob_lex.specs.Answers.{with_front}
use Rattle.cob_lex.proofs.Steps.{spacing, refused, token_taken, with_front-with_front}
use Rattle.cob_lex.proofs.Refusals.{of_token}
use Rattle.cob_lex.proofs.lexer.take_front.Goals as goal

pub returns-in-Spacing-clause-taken : goal.returns-in-Spacing-clause-taken
returns-in-Spacing-clause-taken c =
    ap (with_front c.args.tokens.now.items) (spacing c.args.awaited c.args.place c.args.at c.args.rest.now c.requires.not_empty (sym c.in-Spacing.ensures.front))

pub returns-in-Fault-clause-refused : goal.returns-in-Fault-clause-refused
returns-in-Fault-clause-refused c =
    rw c.refusal.ensures (refused c.args.awaited c.args.place c.args.at c.args.rest.now c.in-Fault.kind c.requires.not_empty (sym c.in-Fault.ensures.front))

pub returns-in_err-token-in-Token-clause-refused : goal.returns-in_err-token-in-Token-clause-refused
returns-in_err-token-in-Token-clause-refused c =
    let all = of_token c.args.awaited c.args.place c.args.at c.args.rest.now c.in-Token.kind c.in-Token.length _ c.requires.not_empty c.in-Token.ensures.fits.0 (sym c.in-Token.ensures.front) c.in_err-token-in-Token.ensures.refused in
    search rules

pub returns-in_ok-push-in-Token-clause-taken : goal.returns-in_ok-push-in-Token-clause-taken
returns-in_ok-push-in-Token-clause-taken c =
    let n = c.in-Token.length in
    let kind = c.in-Token.kind in
    let token = c.in_ok-token-in-Token.token in
    let bytes = c.args.rest.now in
    let others = token_taken c.args.awaited c.args.place c.args.at bytes kind n token c.requires.not_empty c.in-Token.ensures.fits.0 (sym c.in-Token.ensures.front) c.in_ok-token-in-Token.ensures.token in
    rw (c.awaited_behind.ensures, c.in_ok-push-in-Token.ensures.items)
    (ap (with_front c.args.tokens.now.items) others ∙ with_front-with_front c.args.tokens.now.items (token ∷ []) _)
