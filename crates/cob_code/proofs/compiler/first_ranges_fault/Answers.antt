use Rattle.std.proofs.Common.{map, sym, ◌∙◌}
use Rattle.std.proofs.lemmas.List.{length-map}
use Rattle.cob_proc.specs.Trees.{paragraph_tree}
use Rattle.cob_code.proofs.Answering.{all_below, answers}
use Rattle.cob_code.proofs.compiler.first_ranges_fault.Goals as goal

pub table_of-requires : goal.table_of-requires
table_of-requires c =
    let paragraphs = c.args.text.now.paragraphs.now in
    rw (c.deref-2.ensures.value ∙ c.in_ok-ranges.ensures.ranges) (all_below (map paragraph_tree paragraphs) c.len-2.result (c.len-2.ensures ∙ sym (length-map paragraphs paragraph_tree)))

pub returns : goal.returns
returns c =
    let paragraphs = c.args.text.now.paragraphs.now in
    let ranges = c.in_ok-ranges.ensures.ranges in
    let jumps = c.in_ok-ranges.ensures.jumps in
    let same = c.len-2.ensures ∙ sym (length-map paragraphs paragraph_tree) in
    let table = rw (c.deref-2.ensures.value ∙ ranges) at c.in_ok-table.ensures in
    let each = rw (c.len.ensures ∙ sym c.len-2.ensures, c.deref.ensures.value ∙ ranges) at c.in_ok-bounds.ensures.each in
    let backward = rw (c.deref-3.ensures.value ∙ ranges) at c.first_backward-backward.ensures in
    let leaving = rw (c.deref-4.ensures.value, c.deref-5.ensures.value ∙ jumps) at c.first_leaving-leaving.ensures in
    let circle = rw (c.deref-6.ensures.value, c.deref-7.ensures.value ∙ ranges) at c.first_circle-circle.ensures in
    rw (c.first_of-2.ensures, c.first_of.ensures)
    (answers (map paragraph_tree paragraphs) c.len-2.result same c.in_ok-table.table.items table c.in_ok-bounds.bounds.items each c.first_backward-backward.result c.first_leaving-leaving.result
    c.first_circle-circle.result backward leaving circle)
