use Rattle.std.proofs.Common.{◌≡◌, ◌<◌, ◌+◌, arith, rules, ap, length, map, subst, sym, ◌∙◌}
use Rattle.std.proofs.lemmas.List.{get_or-map, length-map}
use Rattle.cob_proc.specs.Trees.{paragraph_tree}
use Rattle.cob_flat.proofs.Emission.{one_paragraph}
use Rattle.cob_flat.proofs.paragraphs.flatten_text.Goals as goal

pub paragraphs-preserved : goal.paragraphs-preserved
paragraphs-preserved c =
    let text = map paragraph_tree c.args.text.now in
    let layout = c.args.names.now in
    let at = c.paragraphs.paragraph-index in
    let within : at < length c.args.text.now = c.paragraphs-test.true in
    record {
      long = search rules;
      below = one_paragraph layout text c.paragraphs.code.items c.emit_paragraph.new.code.items c.paragraphs.starts.items c.push.new.self.items at (paragraph_tree c.paragraph-item.result) c.in_ok-start.start
          c.paragraphs.invariant.long c.paragraphs.invariant.below c.in_ok-start.ensures.extends c.in_ok-start.ensures.does
          (omega (arith, within, length-map c.args.text.now paragraph_tree)) (ap paragraph_tree c.paragraph-item.is ∙ sym (get_or-map paragraph_tree c.args.text.now at _ _ within)) c.in_ok-push.ensures.items;
    }
