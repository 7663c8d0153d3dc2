use Rattle.std.proofs.Common.{◌≡◌, ◌∙◌, sym, ap}
use Rattle.com_shared.specs.Passes.{Log}
use Rattle.com_shared.specs.Parties.{entries}
use Rattle.com_shared.proofs.Closing.{entries_zip}
use Rattle.com_shared.proofs.book.Book.into_parts.Goals as goal

pub returns-clause-parts : goal.returns-clause-parts
returns-clause-parts c = (ap (λ (b : Log). b.state) c.self.view_is, c.of_vec.ensures ∙ (sym (entries_zip c.self.inside.owners.items c.self.inside.entries.items c.self.invariant.0) ∙ ap (λ (b : Log). entries b.items) c.self.view_is))
