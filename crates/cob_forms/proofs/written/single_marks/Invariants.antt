use Rattle.std.proofs.Common.{◌≡◌, ◌++◌, length}
use Rattle.com_text.specs.Text.{IsText}
use Rattle.cob_lex.specs.Literals.{characters_of}
use Rattle.cob_forms.proofs.written.single_marks.Given as goal

abbrev pub invariant-rest : goal.invariant-rest
invariant-rest l = record {
  text : IsText l.characters.items;
  left : IsText l.rest;
  so_far : l.characters.items ++ characters_of l.rest ≡ characters_of l.inside;
}

abbrev pub decreases-rest : goal.decreases-rest
decreases-rest l = length l.rest
