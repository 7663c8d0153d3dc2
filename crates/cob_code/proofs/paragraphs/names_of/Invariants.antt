use Rattle.std.proofs.Common.{◌≡◌, ◌++◌, drop, map}
use Rattle.cob_code.proofs.paragraphs.names_of.Given as goal

abbrev pub invariant-paragraphs : goal.invariant-paragraphs
invariant-paragraphs l = map (λ name. name.now) l.names.items ++ map (λ paragraph. paragraph.name.text) (drop l.paragraph-index l.paragraphs) ≡ map (λ paragraph. paragraph.name.text) l.paragraphs
