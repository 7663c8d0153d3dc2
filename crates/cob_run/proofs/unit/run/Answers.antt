use Rattle.std.proofs.Common.{◌≡◌, sym, ◌∙◌, subst}
use Rattle.cob_run.specs.Places.{Stands}
use Rattle.cob_run.proofs.Running.{lighter_after, stands_after}
use Rattle.cob_run.proofs.unit.run.Goals as goal

pub steps-smaller : goal.steps-smaller
steps-smaller c =
    lighter_after c.args.code.now c.args.starts.now c.steps.state c.step.new.self (sym c.mode.ensures ∙ c.in-Running.is) c.in_ok-step.ensures.ok

pub steps-preserved : goal.steps-preserved
steps-preserved c = record {
  same = c.step.ensures.sizes ∙ c.steps.invariant.same;
  stands = λ program names replies calls compiled h.
      stands_after program c.args.code.now names replies calls c.args.starts.now c.steps.state c.step.new.self compiled
      (sym c.mode.ensures ∙ c.in-Running.is) c.in_ok-step.ensures.ok (c.steps.invariant.stands program names replies calls compiled h);
}

pub returns-in_err-step-clause-stands : goal.returns-in_err-step-clause-stands
returns-in_err-step-clause-stands c = λ program names replies calls compiled h.
    subst (Stands program c.args.code.now names replies calls) (sym c.in_err-step.ensures.err) (c.steps.invariant.stands program names replies calls compiled h)
