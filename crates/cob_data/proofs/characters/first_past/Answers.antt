use Rattle.std.proofs.Common.{sym, ◌∙◌, ap}
use Rattle.cob_data.specs.Entries.{is_item}
use Rattle.cob_data.specs.declared.characters.TheConstants.{MAX_CHARACTERS}
use Rattle.cob_data.proofs.CharacterLaws.{item_past}
use Rattle.cob_data.proofs.characters.first_past.Goals as goal

pub returns-then-total-gt-MAX_CHARACTERS : goal.returns-then-total-gt-MAX_CHARACTERS
returns-then-total-gt-MAX_CHARACTERS c =
    c.too_many.ensures
    ∙ item_past MAX_CHARACTERS c.entries.total c.size-total.result c.entries.entry-index c.entry-item.result c.args.entries.now _ c.entries-test.true c.entry-item.is
    (sym (ap (λ t. is_item t) c.tokens.ensures) ∙ sym c.is_item.ensures ∙ c.if-not-is_item.false)
    c.size-total.ensures.size c.entries.invariant.most c.if-total-gt-MAX_CHARACTERS.true c.entries.invariant.left
