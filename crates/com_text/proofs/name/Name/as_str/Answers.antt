use Rattle.com_text.proofs.Texts.{IsText-name, read-text}
use Rattle.com_text.proofs.name.Name.as_str.Goals as goal

pub unwrap-requires : goal.unwrap-requires
unwrap-requires c =
    let name = c.as_bytes.result.now in
    read-text _ _ name c.from_utf8.result (IsText-name name (rw c.as_bytes.ensures.characters c.as_bytes.ensures.valid)) c.from_utf8.ensures.cases
