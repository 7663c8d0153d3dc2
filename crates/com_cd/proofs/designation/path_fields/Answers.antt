use Rattle.std.proofs.Common.{◌≡◌, ◌<◌, ◌*◌, length, take, drop, get_or, sym, ap, ◌∙◌, arith}
use Rattle.com_text.specs.Name.{field_of}
use Rattle.com_text.proofs.Texts.{IsText-append, IsText-take, IsText-drop}
use Rattle.com_cd.proofs.NameFields.{one_field_more, one_width_more, place_width, still_long}
use Rattle.com_cd.proofs.designation.path_fields.Goals as goal

pub loop-level-preserved : goal.loop-level-preserved
loop-level-preserved c =
    let path = c.args.path.now in
    let level = c.loop-level.level in
    let name = c.name-item.result in
    let within : level < length path = rw c.names-name-items.ensures.names at c.loop-level-test.true in
    let read : get_or path level name ≡ name = sym (rw c.names-name-items.ensures.names at c.name-item.is) in
    let wide = c.loop-level.invariant.width in
    let few : level < 4 = omega (arith, within, c.names-name-items.ensures.few) in
    let written = c.copy_from_slice.ensures.after ∙ c.field.ensures.field in
    let twelve : length (field_of name) ≡ 12 = ap length (sym written) ∙ (c.copy_from_slice.ensures.len ∙ place_width c.loop-level.fields level _ c.name-item.array_long few (omega arith)) in
    record {
      fields = one_field_more path level name c.loop-level.fields c.copy_from_slice.new.self _ wide within read c.loop-level.invariant.fields written (omega arith);
      text = IsText-append (take (level * 12) c.loop-level.fields) _ (IsText-take (level * 12) c.loop-level.fields c.loop-level.invariant.text)
          (IsText-append c.copy_from_slice.new.self _ (rw c.copy_from_slice.ensures.after c.field.ensures.text) (IsText-drop _ (drop (level * 12) c.loop-level.fields) (IsText-drop (level * 12) c.loop-level.fields c.loop-level.invariant.text)));
      long = still_long c.loop-level.fields c.copy_from_slice.new.self level _ c.loop-level.invariant.long few (ap length written ∙ twelve) (omega arith);
      width = one_width_more path level name wide twelve within read;
    }

pub returns-clause-text : goal.returns-clause-text
returns-clause-text c = c.loop-level.invariant.text
