use Rattle.std.proofs.Common.{◌<◌, length}
use Rattle.cob_forms.proofs.Lists.{Left}
use Rattle.cob_proc.specs.Forms as forms
use Rattle.cob_proc.specs.Spelled.{begins_form}
use Rattle.cob_proc.specs.PartReaders.{identifier, identifiers}
use Rattle.cob_proc.proofs.parts.take_identifiers.Given as goal

abbrev pub invariant-turns : goal.invariant-turns
invariant-turns l = record {
  read : Left (begins_form forms.identifier) identifier l.items.items l.rest (identifiers l.tokens);
  fewer : length l.rest < length l.tokens;
}

abbrev pub decreases-turns : goal.decreases-turns
decreases-turns l = length l.rest
