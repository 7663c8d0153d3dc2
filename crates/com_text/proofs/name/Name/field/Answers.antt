use Rattle.com_text.specs.Name.{before_space}
use Rattle.com_text.proofs.Texts.{IsText-field_of}
use Rattle.com_text.proofs.name.Name.field.Goals as goal

pub returns-clause-text : goal.returns-clause-text
returns-clause-text c = rw c.self.invariant.1 (IsText-field_of (before_space c.self.inside.field) c.self.invariant.0)
