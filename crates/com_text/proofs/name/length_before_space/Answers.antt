use Rattle.std.proofs.Common.{◌≡◌, ℕ, ◌≤◌, ◌==◌, cond, ltb, Some, None, arith, tests, rules}
use Rattle.std.specs.List.{prefix_len}
use Rattle.std.specs.Option.{unwrap_or}
use Rattle.std.proofs.lemmas.Bool.Decides.{nat_tests}
use Rattle.std.proofs.lemmas.Iterator.{YieldsList-from_slice}
use Rattle.std.proofs.lemmas.Iterator.Search.{position_from_yields_List}
use Rattle.std.proofs.lemmas.List.Sums.{prefix_len-le-length}
use Rattle.com_text.specs.Name.{is_character}
use Rattle.com_text.proofs.name.length_before_space.Goals as goal

-- a place, or the end where there is none
place_or_end : (place end : ℕ) → place ≤ end → unwrap_or (cond (ltb place end) (Some place) None) end ≡ place
place_or_end place end h = grind (arith, nat_tests)

pub returns-clause-length : goal.returns-clause-length
returns-clause-length c =
    let field = c.args.field.now in
    let found = position_from_yields_List (λ byte. byte == 32) _ _ c.position.result c.position.ensures.ran (YieldsList-from_slice field cc) (λ x b q k. search (rules, tests)) in
    let le : prefix_len is_character field ≤ 12 = omega (arith, prefix_len-le-length is_character field) in
    rw (c.unwrap_or.ensures, found, c.told-field) (place_or_end _ 12 le)
