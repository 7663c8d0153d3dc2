use Rattle.std.proofs.Common.{◌≡◌, List, length, map, ap, ◌∙◌, subst, rules}
use Rattle.std.proofs.lemmas.List.{length-map}
use Rattle.shared_tests.specs.declared.rounds.Member.{Member}
use Rattle.shared_tests.specs.Standing.{AreAllOut}
use Rattle.shared_tests.proofs.Beginning.{written_back}
use Rattle.shared_tests.proofs.Standing.{fresh_member, all_members, all_out}
use Rattle.shared_tests.proofs.rounds.run_in_rounds.Goals as goal

pub play_and_leave-waited-requires-clause-members : goal.play_and_leave-waited-requires-clause-members
play_and_leave-waited-requires-clause-members g c κs within =
    rw (c.as_mut_slice.ensures.value ∙ c.in_ok-members.ensures) (all_members c.in_ok-shared.shared c.asking.result c.in_ok-shared.passes.items c.in_ok-shared.ensures.new)

pub close-requires-clause-all : goal.close-requires-clause-all
close-requires-clause-all g c =
    let passes = c.in_ok-shared.passes.items in
    let items = c.in_ok-members.members.items in
    let after = c.play_and_leave-waited.new.members in
    let kept : length after ≡ length items = search rules in
    let many : length after ≡ c.in_ok-members.members.len = search rules in
    let dealt : items ≡ map (fresh_member c.asking.result) passes = c.in_ok-members.ensures in
    let out : AreAllOut c.in_ok-shared.shared (map (fresh_member c.asking.result) passes) after = subst (λ (xs : List Member). AreAllOut c.in_ok-shared.shared xs after) (c.as_mut_slice.ensures.value ∙ dealt) c.play_and_leave-waited.ensures in
    let same : length after ≡ length passes = kept ∙ (ap (λ (xs : List Member). length xs) dealt ∙ length-map passes (fresh_member c.asking.result)) in
    let gathered : c.in_ok-passes.passes.items ≡ map (λ (m : Member). m.pass) after = c.in_ok-passes.ensures ∙ ap (λ (xs : List Member). map (λ (m : Member). m.pass) xs) (written_back c.in_ok-members.members.len after items many) in
    rw gathered (all_out c.in_ok-shared.shared c.asking.result passes after c.in_ok-shared.ensures.new same out)
