use Rattle.std.proofs.Common.{◌≡◌, ◌*◌, length, take}
use Rattle.std.specs.List.{flat_map}
use Rattle.com_text.specs.Name.{field_of}
use Rattle.com_text.specs.Text.{IsText}
use Rattle.com_cd.specs.Designation.{path_fields}
use Rattle.com_cd.proofs.designation.path_fields.Given as goal

-- the fields of the names before this one, and spaces after them, a text; each is twelve characters
-- wide
abbrev pub invariant-loop-level : goal.invariant-loop-level
invariant-loop-level l = record {
  fields : l.fields ≡ path_fields (take l.level l.path);
  text : IsText l.fields;
  long : length l.fields ≡ 48;
  width : length (flat_map field_of (take l.level l.path)) ≡ 12 * l.level;
}
