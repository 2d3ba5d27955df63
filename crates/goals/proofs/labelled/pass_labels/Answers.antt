-- `pass_labels` meets its contract. The loop's invariant: goals without a label are passed. The measure is the sum of the labels.
use mathlib.Core.Path.{refl}
use native.Mathlib.Omega.{arith}
use Rattle.basics.specs.Tests.{test_fails}
use Rattle.room.specs.Room.{volume}
use Rattle.goals.proofs.GoalLaws.{memory-able}
use Rattle.goals.proofs.LabelledLaws.{label_falls, labels_first, labels_never, next_in, next_label, next_tryable, labels_passed, labels_done, labels_beaten}
use Rattle.goals.proofs.labelled.pass_labels.Goals as goal

pub loop-next-init : goal.loop-next-init
loop-next-init c = labels_first c.args.turn.ground c.args.turn.kinds.now c.args.turn.start _ _ _ _ _ _ _ _ c.requires.passing

pub offset_bounds-labels-next : goal.offset_bounds-labels-next
offset_bounds-labels-next c =
    let inv = c.loop-next.invariant in
    let long = c.requires.passing.labels_long in
    record { fits = omega (arith, next_in c.args.turn.ground c.args.turn.kinds.now c.args.turn.start inv c.lowest_label.ensures long c.in-Some.is, inv.same.best-long, long, c.requires.attemptable.grounds.good.few) }

pub bounds-labels-next : goal.bounds-labels-next
bounds-labels-next c = next_in c.args.turn.ground c.args.turn.kinds.now c.args.turn.start c.loop-next.invariant c.lowest_label.ensures c.requires.passing.labels_long c.in-Some.is

pub overflow_sub-labels : goal.overflow_sub-labels
overflow_sub-labels c =
    omega (arith, next_label c.args.turn.ground c.args.turn.kinds.now c.args.turn.start c.loop-next.invariant c.lowest_label.ensures c.requires.passing.labels_long c.in-Some.is)

pub returns-then-not-precedes-clause-all_passed : goal.returns-then-not-precedes-clause-all_passed
returns-then-not-precedes-clause-all_passed c =
    let inv = c.loop-next.invariant in
    let long = c.requires.passing.labels_long in
    let label = next_label c.args.turn.ground c.args.turn.kinds.now c.args.turn.start inv c.lowest_label.ensures long c.in-Some.is in
    record {
      kept = _;
      is = refl;
      passed = labels_beaten c.args.turn.ground c.args.turn.kinds.now c.args.turn.start inv c.lowest_label.ensures long c.in-Some.is _ (omega (arith, label)) (test_fails c.precedes.ensures c.if-not-precedes.true-raw);
    }

pub returns-then-not-precedes-clause-joinable_unchanged : goal.returns-then-not-precedes-clause-joinable_unchanged
returns-then-not-precedes-clause-joinable_unchanged c =
    let same = c.loop-next.invariant.same in (same.joinable-is, same.blocked-is, same.classes-is)

pub pass_label-requires-clause-attemptable : goal.pass_label-requires-clause-attemptable
pass_label-requires-clause-attemptable c = memory-able c.args.turn.ground c.args.turn.kinds.now c.loop-next.invariant.same c.requires.attemptable

pub pass_label-requires-clause-tryable : goal.pass_label-requires-clause-tryable
pass_label-requires-clause-tryable c =
    let passing = c.requires.passing in
    next_tryable c.args.turn.ground c.args.turn.kinds.now c.args.turn.start c.loop-next.invariant c.lowest_label.ensures passing.labels_long c.in-Some.is passing.never-full

pub loop-next-smaller : goal.loop-next-smaller
loop-next-smaller c =
    let inv = c.loop-next.invariant in
    let long = c.requires.passing.labels_long in
    label_falls c.loop-next.labels c.in-Some.next
    (next_in c.args.turn.ground c.args.turn.kinds.now c.args.turn.start inv c.lowest_label.ensures long c.in-Some.is)
    (next_label c.args.turn.ground c.args.turn.kinds.now c.args.turn.start inv c.lowest_label.ensures long c.in-Some.is)
    (volume c.args.turn.ground.room)
    (omega (arith, long, inv.same.best-long))

pub loop-next-preserved : goal.loop-next-preserved
loop-next-preserved c =
    let pass = c.pass_label in
    labels_passed c.args.turn.ground c.args.turn.kinds.now c.args.turn.start c.loop-next.invariant c.lowest_label.ensures c.requires.passing.labels_long c.in-Some.is (rw c.in_ok-kept.was at pass.ensures.passes_goal) pass.ensures.joinable_unchanged pass.auto.known pass.auto.previous pass.auto.path pass.auto.queue

pub returns-in_err-kept : goal.returns-in_err-kept
returns-in_err-kept c =
    absurd (labels_never c.args.turn.ground c.args.turn.kinds.now c.args.turn.start c.loop-next.invariant c.lowest_label.ensures c.requires.passing.labels_long c.in-Some.is (rw c.in_err-kept.was at c.pass_label.ensures.passes_goal))

pub returns-clause-all_passed : goal.returns-clause-all_passed
returns-clause-all_passed c =
    record {
      kept = _;
      is = refl;
      passed = labels_done c.args.turn.ground c.args.turn.kinds.now c.args.turn.start c.loop-next.invariant c.lowest_label.ensures c.requires.passing.labels_long c.in_default.is;
    }

pub returns-clause-joinable_unchanged : goal.returns-clause-joinable_unchanged
returns-clause-joinable_unchanged c =
    let same = c.loop-next.invariant.same in (same.joinable-is, same.blocked-is, same.classes-is)
