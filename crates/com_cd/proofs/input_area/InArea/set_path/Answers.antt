use Rattle.std.proofs.Common.{◌≡◌, ℕ, ◌+◌, ◌≤◌, List, ◌++◌, length, drop, refl, ap, arith, ◌∙◌}
use Rattle.com_text.specs.Text.{IsText}
use Rattle.com_cd.specs.InputArea.{IsInputArea}
use Rattle.com_cd.specs.Parts.{with_part}
use Rattle.com_cd.specs.Designation.{with_path}
use Rattle.com_cd.proofs.Parted.{IsText-with_part, length-with_part}
use Rattle.com_cd.proofs.input_area.InArea.set_path.Goals as goal

-- 48 characters that are written over the first of an area
front_written : (area value : List ℕ) → length value ≡ 48 → with_part 0 (length value) area value ≡ value ++ drop 48 area
front_written area value e = rw e refl

still_area : (area value : List ℕ) → IsInputArea area → length value ≡ 48 → IsText value → IsInputArea (with_part 0 (length value) area value)
still_area area value is wide text = record {
  length = length-with_part 0 (length value) area value (omega (arith, wide, is.length)) refl ∙ is.length;
  text = IsText-with_part 0 (length value) area value is.text text;
}

valid : (c : goal.After-write_part) → IsInputArea c.write_part.new.area
valid c = rw c.write_part.ensures (still_area c.self.inside.bytes c.path_fields.result c.self.invariant c.path_fields.ensures.width c.path_fields.ensures.text)

pub invariant_of-self : goal.invariant_of-self
invariant_of-self c = valid c

pub returns-clause-area : goal.returns-clause-area
returns-clause-area c =
    c.write_part.ensures
    ∙ (front_written c.self.inside.bytes c.path_fields.result c.path_fields.ensures.width
    ∙ (ap (λ fields. fields ++ drop 48 c.self.inside.bytes) c.path_fields.ensures.fields
    ∙ ap (with_path c.args.path.now) c.self.view_is))

pub returns-clause-valid : goal.returns-clause-valid
returns-clause-valid c = valid c
