use Rattle.std.proofs.Common.{◌≡◌, ◌<◌, false, nat_lt, length, sym, refl, ◌∙◌, arith, rules}
use Rattle.std.proofs.lemmas.Option.{slice_get_read}
use Rattle.com_tree.specs.Faults.{holds_at}
use Rattle.com_tree.proofs.Searching.{not_here, holds_of}
use Rattle.com_tree.proofs.build.too_deep.Goals as goal

pub loop-at-preserved : goal.loop-at-preserved
loop-at-preserved c =
    let rows = c.args.rows.now in
    let at = c.loop-at.at in
    let row = c.index-rows-at.result in
    let within : at < length rows = omega arith in
    let shallow : nat_lt 4 row.depth ≡ false = search rules in
    let fails : holds_at (λ r. nat_lt 4 r.depth) rows at ≡ false = holds_of (λ r. nat_lt 4 r.depth) rows at row (slice_get_read rows (length rows) at row refl within c.index-rows-at.is) ∙ shallow in
    sym (not_here (holds_at (λ r. nat_lt 4 r.depth) rows) rows at within fails) ∙ c.loop-at.invariant
