use Rattle.std.proofs.Common.{◌≡◌, [], sym, ap, ◌∙◌}
use Rattle.std.specs.Prelude.{unwrap_or}
use Rattle.com_recv.specs.Areas.{portion_area, path_of_leaf}
use Rattle.com_recv.proofs.giving.given_area.Goals as goal

pub returns : goal.returns
returns c =
    let path : c.path.result ≡ path_of_leaf c.args.tree.now c.args.leaf.number = ap (λ found. unwrap_or found []) (sym c.path.ensures) in
    c.portion_area.ensures ∙ ap (λ names. portion_area names c.args.rest.now c.args.portion.now c.args.area) path
