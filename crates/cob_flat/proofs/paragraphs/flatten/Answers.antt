use Rattle.std.proofs.Common.{ap, map, sym}
use Rattle.cob_proc.specs.Trees.{paragraph_tree, procedure_trees}
use Rattle.cob_meaning.specs.Meaning.{Program}
use Rattle.cob_meaning.specs.Sources.{layout_of}
use Rattle.cob_flat.proofs.Fields.{fields_in}
use Rattle.cob_flat.proofs.Whole.{if_ok_both, is_compiled, sound_paragraphs}
use Rattle.cob_flat.proofs.paragraphs.flatten.Goals as goal

pub of-requires-clause-fields : goal.of-requires-clause-fields
of-requires-clause-fields c =
    let program : Program = record { layout = layout_of c.args.divisions.now; text = procedure_trees c.args.procedure.now } in
    let is = c.requires.program in
    fields_in program.layout.opening c.args.divisions.now (c.sources_have_sound_layouts.ensures is.0 program is.1).names

pub flatten_text-requires : goal.flatten_text-requires
flatten_text-requires c =
    let program : Program = record { layout = layout_of c.args.divisions.now; text = procedure_trees c.args.procedure.now } in
    let is = c.requires.program in
    rw (c.in_ok-names.ensures, c.as_slice.ensures)
    (sound_paragraphs program.layout program.text c.args.procedure.now.paragraphs (c.programs_are_checked.ensures is.0 program is.1))

pub returns : goal.returns
returns c =
    let program : Program = record { layout = layout_of c.args.divisions.now; text = procedure_trees c.args.procedure.now } in
    let is = c.requires.program in
    if_ok_both c.flatten_text.result _ _ _ c.flatten_text.ensures.as_long c.flatten_text.ensures.does
    (λ flat long below. is_compiled is.0 program c.in_ok-names.names c.as_slice.result.now flat.code.items flat.starts.items is.1
    c.in_ok-names.ensures (ap (map paragraph_tree) (sym c.as_slice.ensures))
    (λ k p at. c.programs_stay_in_ranges.ensures is.0 program k p is.1 at) long below)
