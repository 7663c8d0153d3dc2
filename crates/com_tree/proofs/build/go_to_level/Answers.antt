use Rattle.std.proofs.Common.{◌≡◌, ◌≤◌, ◌+◌, ◌++◌, [], ◌∷◌, length, sym, ap, ◌∙◌, arith}
use Rattle.std.proofs.lemmas.List.{length-map, map-append, take-map, take_all, length-take}
use Rattle.com_tree.specs.Siblings.{taken_names}
use Rattle.com_tree.proofs.LevelNames.{at_level, below_all}
use Rattle.com_tree.proofs.build.go_to_level.Goals as goal

pub returns-in_ok-push-clause-names : goal.returns-in_ok-push-clause-names
returns-in_ok-push-clause-names c =
    let old = c.args.levels.now.items in
    let taken = taken_names old in
    let many : length taken ≡ length old = length-map old _ in
    let all : c.truncate.new.self.items ≡ old = c.truncate.ensures.items ∙ take_all c.args.level old (omega (arith, ap length c.truncate.ensures.items, length-take c.args.level old)) in
    let level : c.args.level ≡ length taken + 1 = omega (arith, many, ap length all) in
    let one : taken_names c.push.new.self.items ≡ taken ++ [] ∷ [] =
    ap taken_names (c.in_ok-push.ensures.items ∙ ap (λ xs. xs ++ c.new.result ∷ []) all)
    ∙ (map-append _ old (c.new.result ∷ []) ∙ rw c.new.ensures.empty) in
    one ∙ below_all taken c.args.level level

pub returns-else-len-level-clause-names : goal.returns-else-len-level-clause-names
returns-else-len-level-clause-names c =
    let old = c.args.levels.now.items in
    let taken = taken_names old in
    let many : length taken ≡ length old = length-map old _ in
    let within : c.args.level ≤ length taken = omega (arith, many, ap length c.truncate.ensures.items, length-take c.args.level old) in
    ap taken_names c.truncate.ensures.items ∙ (sym (take-map _ c.args.level old) ∙ at_level taken c.args.level c.requires.top within)
