use Rattle.cob_data.proofs.Joined.{first_of_groups}
use Rattle.cob_data.proofs.passes.first_other_fault.Goals as goal

pub returns : goal.returns
returns c =
    rw (c.first_of-3.ensures, c.first_of-2.ensures, c.first_of.ensures, c.first_token_fault-token.ensures, c.in_ok-name.ensures, c.in_ok-cd.ensures, c.in_ok-item.ensures, c.deref.ensures.value, c.deref-2.ensures.value, c.deref-3.ensures.value)
    (first_of_groups c.args.is_followed c.args.lined.now c.args.tokens.now c.in_ok-entries.entries.items c.in_ok-entries.ensures.list)
