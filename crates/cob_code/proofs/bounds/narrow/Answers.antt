use Rattle.std.proofs.Common.{rules, ◌<◌, ◌≤◌, length}
use Rattle.cob_code.proofs.Narrowing.{next_before, next_behind}
use Rattle.cob_code.proofs.bounds.narrow.Goals as goal

pub paragraphs-preserved : goal.paragraphs-preserved
paragraphs-preserved c =
    let within : c.paragraphs.from < length c.paragraphs.bounds = search rules in
    let low : c.args.range.first ≤ c.paragraphs.from = c.paragraphs.auto.from in
    let high : c.paragraphs.from ≤ c.args.range.last = search rules in
    record {
      same = search rules;
      before = next_before c.args.range c.args.bounds.now c.paragraphs.bounds c.paragraphs.from _ c.narrowed.result within low high c.narrowed.ensures c.paragraphs.invariant.behind c.paragraphs.invariant.before;
      behind = next_behind c.args.range c.args.bounds.now c.paragraphs.bounds c.paragraphs.from _ c.narrowed.result within low high c.narrowed.ensures c.paragraphs.invariant.behind;
    }
