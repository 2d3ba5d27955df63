-- `link_branch` meets its contract: each window shows one step.
use Rattle.std.proofs.Common.{refl, ◌∙◌, arith}
use Rattle.std.specs.Slice.Iter.{windows_rest}
use Rattle.repeaters.specs.MaskLaws.{adding_masked}
use Rattle.repeaters.specs.AdjacencyLaws.{steps-none, step-shown, steps-shown, steps-all}
use Rattle.repeaters.proofs.links.link_branch.Goals as goal

pub loop-step-init : goal.loop-step-init
loop-step-init c =
    rw c.into_iter-step-iterator.ensures.into_iter_gives (c.windows-step-items.ensures.size, refl, rw c.windows-step-items.ensures.rest (steps-none c.requires.steps))

pub link_both-requires-clause-step : goal.link_both-requires-clause-step
link_both-requires-clause-step c =
    let e = c.in-Some.ensures.steps in
    step-shown _ _ _ _ _ _ c.loop-step.invariant.0 e.1.0 e.1.1 c.as_index.ensures.0 c.as_index-in-loop-step.ensures.0 c.loop-step.invariant.2.steps

pub link_both-requires-clause-masked : goal.link_both-requires-clause-masked
link_both-requires-clause-masked c = adding_masked c.loop-step.invariant.2.adding c.requires.masked

pub loop-step-preserved : goal.loop-step-preserved
loop-step-preserved c =
    let e = c.in-Some.ensures.steps in (
      e.0 ∙ c.loop-step.invariant.0,
      c.link_both.auto.links ∙ c.loop-step.invariant.1,
      steps-shown _ _ _ _ _ _ c.loop-step.invariant.0 e.1.0 e.1.1 e.1.2 c.as_index.ensures.0 c.as_index-in-loop-step.ensures.0 c.loop-step.invariant.2 c.link_both.ensures,
    )

pub returns : goal.returns
returns c =
    let e = c.in-None.ensures.steps in steps-all (windows_rest c.loop-step.step-iterator) c.loop-step.invariant.2 (omega (arith, e.0, c.loop-step.invariant.0))
