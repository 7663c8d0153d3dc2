use Rattle.std.proofs.Common.{◌≡◌, ◌+◌, ◌*◌, refl, take, arith, ap, sym, ◌∙◌}
use Rattle.com_cd.specs.OutputArea.{occurrences_of, set_out}
use Rattle.com_cd.proofs.Outputs.{Holds, field_within, held_written}
use Rattle.com_cd.proofs.output_area.OutArea.set.Goals as goal

-- the array with the field written
written : (c : goal.After-write_part) → c.write_part.new.area ≡ set_out c.args.field c.self.inside.bytes c.args.value.now
written c = rw (c.write_part.ensures, c.start.ensures, c.requires.width) refl

-- it holds the area with the field written
holds : (c : goal.After-write_part)
    → Holds c.write_part.new.area c.self.inside.occurrences
    × (take (10 + 13 * c.self.inside.occurrences) c.write_part.new.area ≡ set_out c.args.field c.args.self.now c.args.value.now)
holds c =
    let bytes = c.self.inside.bytes in
    rw (written c) (held_written c.args.field c.args.self.now c.args.value.now bytes c.self.inside.occurrences c.self.invariant c.self.view_is c.requires.within c.requires.width c.requires.text)

pub write_part-requires : goal.write_part-requires
write_part-requires c =
    let within = field_within c.args.field c.args.self.now c.self.inside.bytes c.self.inside.occurrences c.self.invariant c.self.view_is c.requires.within in
    omega (arith, within, c.start.ensures, c.requires.width, c.self.told)

pub invariant_of-self : goal.invariant_of-self
invariant_of-self c = (holds c).0

pub returns-clause-area : goal.returns-clause-area
returns-clause-area c = (holds c).1

pub returns-clause-valid : goal.returns-clause-valid
returns-clause-valid c = (holds c).0.0

pub returns-clause-occurrences : goal.returns-clause-occurrences
returns-clause-occurrences c = sym (holds c).0.1 ∙ (c.self.invariant.1 ∙ ap occurrences_of c.self.view_is)
