use Rattle.std.proofs.Common.{◌≡◌, List, length, subst, rules}
use Rattle.com_shared.specs.Passes.{PassOf}
use Rattle.shared_tests.specs.Playing.{HaveAllLeft}
use Rattle.shared_tests.proofs.Beginning.{all_fresh, all_close, written_back}
use Rattle.shared_tests.proofs.threads.run_in_threads.Goals as goal

pub enter_and_play-requires-clause-fresh : goal.enter_and_play-requires-clause-fresh
enter_and_play-requires-clause-fresh g c κs within =
    rw c.as_mut_slice.ensures.value (all_fresh c.in_ok-shared.shared c.in_ok-shared.passes.items c.in_ok-shared.ensures.new)

pub close-requires-clause-all : goal.close-requires-clause-all
close-requires-clause-all g c =
    let items = c.in_ok-shared.passes.items in
    let after = c.enter_and_play.new.passes in
    let kept : length after ≡ length items = search rules in
    let many : length after ≡ c.in_ok-shared.passes.len = search rules in
    let left : HaveAllLeft c.in_ok-shared.shared items after = subst (λ (xs : List PassOf). HaveAllLeft c.in_ok-shared.shared xs after) c.as_mut_slice.ensures.value c.enter_and_play.ensures in
    rw (written_back c.in_ok-shared.passes.len after items many) (all_close c.in_ok-shared.shared items after c.in_ok-shared.ensures.new kept left)
