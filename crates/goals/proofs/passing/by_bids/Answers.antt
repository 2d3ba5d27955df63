-- `by_bids` meets its contract: the loop's invariant is that the goals of lower bids than the next one are passed.
use mathlib.Core.Path.{ap, ◌∙◌}
use lib.ListN.{length}
use Rattle.goals.proofs.GoalLaws.{memory-able}
use Rattle.goals.proofs.PassingLaws.{kept_small, passes-on, passes-never, view-next, passed_first, passed-able, bid_rises, passed-next, passed-all}
use Rattle.goals.proofs.LabelledLaws.{memory-told, kept-inside, bids_passed}
use Rattle.goals.proofs.passing.by_bids.Goals as goal

pub next_bid-next-requires : goal.next_bid-next-requires
next_bid-next-requires c = rw c.new-view.ensures.0 c.requires.attemptable.grounds.joinable-long

pub loop-next-init : goal.loop-next-init
loop-next-init c =
    let grounds = c.requires.attemptable.grounds in
    passed_first c.args.turn.ground c.args.turn.kinds.now c.args.turn.start grounds.good grounds.config-good.ranges grounds.start_in _ _ _ _ _ _ _ _ (view-next c.args.turn.ground c.args.turn.kinds.now c.args.turn.start grounds.good grounds.config-good.ranges grounds.start_in c.new-view.ensures c.next_bid-next.ensures)

pub goes_on-requires : goal.goes_on-requires
goes_on-requires c = rw c.new-view.ensures.0 (kept-inside c.loop-next.invariant.held)

pub by_labels-requires-clause-attemptable : goal.by_labels-requires-clause-attemptable
by_labels-requires-clause-attemptable c = memory-able c.args.turn.ground c.args.turn.kinds.now c.loop-next.invariant.same c.requires.attemptable

pub by_labels-requires-clause-passed_below : goal.by_labels-requires-clause-passed_below
by_labels-requires-clause-passed_below c = bids_passed c.args.turn.ground c.args.turn.kinds.now c.in-Some.is c.loop-next.invariant c.requires.best_len c.requires.never_full

pub returns-then-not-goes_on-clause-tells : goal.returns-then-not-goes_on-clause-tells
returns-then-not-goes_on-clause-tells c = memory-told c.args.turn.ground c.args.turn.kinds.now c.loop-next.invariant.same _ c.by_labels.ensures.tells

pub returns-then-not-goes_on-clause-joinable_unchanged : goal.returns-then-not-goes_on-clause-joinable_unchanged
returns-then-not-goes_on-clause-joinable_unchanged c =
    let same = c.loop-next.invariant.same in
    let kept = c.by_labels.ensures.joinable_unchanged in (kept.0 ∙ same.joinable-is, kept.1 ∙ same.blocked-is, kept.2 ∙ same.classes-is)

pub pass_goal-requires-clause-attemptable : goal.pass_goal-requires-clause-attemptable
pass_goal-requires-clause-attemptable c = memory-able c.args.turn.ground c.args.turn.kinds.now c.loop-next.invariant.same c.requires.attemptable

pub pass_goal-requires-clause-passable : goal.pass_goal-requires-clause-passable
pass_goal-requires-clause-passable c =
    let grounds = c.requires.attemptable.grounds in
    passed-able c.args.turn.ground c.args.turn.kinds.now c.args.turn.start grounds.good grounds.config-good.ranges grounds.start_in c.loop-next.invariant c.in-Some.is c.requires.best_len c.requires.never_full

pub bid_to_try-next-requires-clause-joinable_len : goal.bid_to_try-next-requires-clause-joinable_len
bid_to_try-next-requires-clause-joinable_len c =
    rw c.new-view.ensures.0
    (ap length c.pass_goal.ensures.joinable_unchanged.0 ∙ ap length c.loop-next.invariant.same.joinable-is ∙ c.requires.attemptable.grounds.joinable-long)

pub bid_to_try-next-requires-clause-small_kept : goal.bid_to_try-next-requires-clause-small_kept
bid_to_try-next-requires-clause-small_kept c = kept_small _ _ _ c.requires.attemptable.grounds.good (passes-on c.pass_goal.ensures.passes c.in_ok-kept.was).held

pub loop-next-smaller : goal.loop-next-smaller
loop-next-smaller c =
    let grounds = c.requires.attemptable.grounds in
    bid_rises c.args.turn.ground c.args.turn.kinds.now c.args.turn.start grounds.good grounds.config-good.ranges grounds.start_in c.loop-next.invariant c.in-Some.is (view-next c.args.turn.ground c.args.turn.kinds.now c.args.turn.start grounds.good grounds.config-good.ranges grounds.start_in c.new-view.ensures c.bid_to_try-next.ensures)

pub loop-next-preserved : goal.loop-next-preserved
loop-next-preserved c =
    let grounds = c.requires.attemptable.grounds in
    let pass = c.pass_goal in
    passed-next c.args.turn.ground c.args.turn.kinds.now c.args.turn.start grounds.good grounds.config-good.ranges grounds.start_in c.loop-next.invariant c.in-Some.is (passes-on pass.ensures.passes c.in_ok-kept.was) pass.ensures.joinable_unchanged pass.auto.known pass.auto.previous pass.auto.path pass.auto.best pass.auto.queue
    (view-next c.args.turn.ground c.args.turn.kinds.now c.args.turn.start grounds.good grounds.config-good.ranges grounds.start_in c.new-view.ensures c.bid_to_try-next.ensures)

pub returns-in_err-kept : goal.returns-in_err-kept
returns-in_err-kept c = absurd (passes-never c.pass_goal.ensures.passes c.in_err-kept.was)

pub returns-clause-tells : goal.returns-clause-tells
returns-clause-tells c =
    let grounds = c.requires.attemptable.grounds in
    rw c.route_of.ensures (passed-all c.args.turn.ground c.args.turn.kinds.now c.args.turn.start grounds.good grounds.config-good.ranges grounds.start_in c.loop-next.invariant c.in_default.is c.requires.never_full)

pub returns-clause-joinable_unchanged : goal.returns-clause-joinable_unchanged
returns-clause-joinable_unchanged c =
    let same = c.loop-next.invariant.same in (same.joinable-is, same.blocked-is, same.classes-is)
