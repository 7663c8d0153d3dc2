use Rattle.std.proofs.Common.{◌≡◌, length, Some, option_map, sym, ap, ◌∙◌, lit<, arith}
use Rattle.com_send.specs.Found.{found_in}
use Rattle.com_send.proofs.Finding.{found_more, found_length}
use Rattle.com_send.proofs.areas.find_destinations.Goals as goal

pub push-requires : goal.push-requires
push-requires c =
    let long : length c.loop-at.found.items ≡ c.loop-at.at = ap length c.loop-at.invariant ∙ found_length c.args.destinations.now c.args.area.now c.loop-at.at in
    let most = c.in_ok-count.ensures.most in
    (lit< tt, omega arith)

pub loop-at-preserved : goal.loop-at-preserved
loop-at-preserved c =
    let more = found_more c.args.destinations.now c.args.area.now c.loop-at.at in
    let here = c.find_destination.ensures.place in
    let name = c.name_field-name.ensures in
    let before = c.loop-at.invariant in
    let after = c.push.ensures.items in
    rw (after, before, here, name) (sym more)

pub returns-clause-destinations : goal.returns-clause-destinations
returns-clause-destinations c =
    let destinations = c.args.destinations.now in
    let area = c.args.area.now in
    let all : c.loop-at.at ≡ c.in_ok-count.count = omega arith in
    ap Some (c.loop-at.invariant ∙ ap (found_in destinations area) all)
    ∙ ap (option_map (found_in destinations area)) (sym c.in_ok-count.was ∙ c.count.ensures.count)

pub returns-clause-within : goal.returns-clause-within
returns-clause-within c =
    let long : length c.loop-at.found.items ≡ c.loop-at.at = ap length c.loop-at.invariant ∙ found_length c.args.destinations.now c.args.area.now c.loop-at.at in
    let few = c.in_ok-count.ensures.few in
    omega arith
