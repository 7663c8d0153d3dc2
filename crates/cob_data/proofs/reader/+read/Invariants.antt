use Rattle.std.proofs.Common.{◌≡◌, ◌+◌, ◌*◌, ◌≤◌, List, ◌∷◌, ◌++◌, length, drop}
use Rattle.cob_forms.specs.Forms.{Part, more, reading}
use Rattle.cob_data.specs.Forms.{Form, alternatives_of}
use Rattle.cob_data.specs.Tables.{form_of, parts_of}
use Rattle.cob_data.proofs.reader.+read.Given as goal

abbrev pub decreases-read_part : goal.decreases-read_part
decreases-read_part l = 3 * length l.tokens.now + 1

abbrev pub decreases-read_parts : goal.decreases-read_parts
decreases-read_parts l = 3 * length l.tokens.now + 2

abbrev pub decreases-read_turns : goal.decreases-read_turns
decreases-read_turns l = 3 * length l.tokens.now

abbrev pub invariant-read_parts-parts : goal.invariant-read_parts-parts
invariant-read_parts-parts l = record {
  read : (part : Part Form) (below : List (Part Form)) → reading alternatives_of (parts_of (drop l.part-index l.parts) ++ part ∷ below) l.rest ≡ reading alternatives_of (parts_of l.parts ++ part ∷ below) l.tokens;
  no_more : length l.rest ≤ length l.tokens;
}

abbrev pub invariant-read_turns-turns : goal.invariant-read_turns-turns
invariant-read_turns-turns l = record {
  read : (part : Part Form) (below : List (Part Form)) → reading alternatives_of (more (form_of l.form) ∷ part ∷ below) l.rest ≡ reading alternatives_of (more (form_of l.form) ∷ part ∷ below) l.tokens;
  no_more : length l.rest ≤ length l.tokens;
}

abbrev pub decreases-read_turns-turns : goal.decreases-read_turns-turns
decreases-read_turns-turns l = length l.rest
