use Rattle.std.proofs.Common.{◌≡◌, ◌∷◌, ◌&&◌, ◌||◌, ◌==◌, true, false, length, codes, ap, arith, rules}
use Rattle.std.specs.Prelude.{nat_le}
use Rattle.cob_forms.specs.Sorts.{is, name, reserved}
use Rattle.cob_proc.specs.declared.limits.TheConstants.{MAX_IFS}
use Rattle.cob_proc.proofs.LimitPlaces.{passed_here, reach_on}
use Rattle.cob_proc.proofs.limits.limit_passed_at.Goals as goal

pub returns-then-passes-clause-first : goal.returns-then-passes-clause-first
returns-then-passes-clause-first c =
    let e : c.tokens.rest.now ≡ c.in-Some.token.now ∷ c.in-Some.behind.now = search rules in
    let x = c.in-Some.token.now in
    let passes : ((is (reserved (codes "IF")) x && nat_le MAX_IFS (length c.tokens.ifs)) || ((c.tokens.after_period && is name x) && c.tokens.left == 0)) ≡ true = rw (← c.is_paragraph_name-is_paragraph.ensures, ← c.passes.ensures) c.if-passes.true in
    passed_here c.args.tokens.now c.in-Some.behind.now x c.tokens.at c.tokens.left c.tokens.ifs c.tokens.after_period (rw e at c.tokens.invariant.reached) passes

pub tokens-preserved : goal.tokens-preserved
tokens-preserved c =
    let e : c.tokens.rest.now ≡ c.in-Some.token.now ∷ c.in-Some.behind.now = search rules in
    let x = c.in-Some.token.now in
    let none : ((is (reserved (codes "IF")) x && nat_le MAX_IFS (length c.tokens.ifs)) || ((c.tokens.after_period && is name x) && c.tokens.left == 0)) ≡ false = rw (← c.is_paragraph_name-is_paragraph.ensures, ← c.passes.ensures) c.if-passes.false in
    let size = ap length e in
    record {
      within = omega (arith, size);
      reached = rw (c.left_behind-left.ensures, c.is_paragraph_name-is_paragraph.ensures, c.in_ok-pass.ensures, c.is_kind-after_period.ensures)
          (reach_on c.args.tokens.now c.in-Some.behind.now x c.tokens.at c.tokens.left c.tokens.ifs c.tokens.after_period (rw e at c.tokens.invariant.reached) none);
    }
