use Rattle.std.proofs.Common.{◌≡◌, ℕ, ◌+◌, ◌≤◌, List, length, refl, ap, arith, ◌∙◌}
use Rattle.com_text.specs.Text.{IsText}
use Rattle.com_cd.specs.InputArea.{IsInputArea, set_in, start_of, width_of}
use Rattle.com_cd.specs.declared.input_area.InField.{InField}
use Rattle.com_cd.specs.declared.input_area.InField.TheVariants.{Queue, Sub1, Sub2, Sub3, Date, Time, Source, Length, EndKey, Status, Count}
use Rattle.com_cd.proofs.Parted.{IsText-with_part, length-with_part}
use Rattle.com_cd.proofs.input_area.InArea.set.Goals as goal

-- each field ends within the area
field_within : (field : InField) → start_of field + width_of field ≤ 87
field_within Queue = omega arith
field_within Sub1 = omega arith
field_within Sub2 = omega arith
field_within Sub3 = omega arith
field_within Date = omega arith
field_within Time = omega arith
field_within Source = omega arith
field_within Length = omega arith
field_within EndKey = omega arith
field_within Status = omega arith
field_within Count = omega arith

-- a field that is written leaves an area
area_written : (field : InField) (area value : List ℕ) → IsInputArea area → length value ≡ width_of field → IsText value → IsInputArea (set_in field area value)
area_written field area value h width text =
    let within : start_of field + width_of field ≤ length area = omega (arith, field_within field, h.length) in
    record {
      length = length-with_part (start_of field) (width_of field) area value within width ∙ h.length;
      text = IsText-with_part (start_of field) (width_of field) area value h.text text;
    }

-- the characters with the field written
written : (c : goal.After-write_part) → c.write_part.new.area ≡ set_in c.args.field c.self.inside.bytes c.args.value.now
written c = rw (c.write_part.ensures, c.start.ensures, c.requires.width) refl

still_area : (c : goal.After-write_part) → IsInputArea c.write_part.new.area
still_area c = rw (written c) (area_written c.args.field c.self.inside.bytes c.args.value.now c.self.invariant c.requires.width c.requires.text)

pub write_part-requires : goal.write_part-requires
write_part-requires c = omega (arith, field_within c.args.field, c.start.ensures, c.requires.width, c.self.told)

pub returns-clause-area : goal.returns-clause-area
returns-clause-area c = written c ∙ ap (λ area. set_in c.args.field area c.args.value.now) c.self.view_is

pub invariant_of-self : goal.invariant_of-self
invariant_of-self c = still_area c

pub returns-clause-valid : goal.returns-clause-valid
returns-clause-valid c = still_area c
