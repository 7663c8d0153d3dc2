use Rattle.com_text.proofs.Texts.{read-text}
use Rattle.com_text.proofs.text.Text.as_str.Goals as goal

pub unwrap-requires : goal.unwrap-requires
unwrap-requires c =
    read-text _ _ c.deref.result.now c.from_utf8.result (rw c.deref.ensures.value c.self.invariant) c.from_utf8.ensures.cases
