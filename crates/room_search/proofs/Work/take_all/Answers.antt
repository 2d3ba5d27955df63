-- `Work::take_all` meets its contract.
use Rattle.std.proofs.Common.{arith, refl}
use Rattle.room_search.specs.HeldLaws.{heap_in_empty}
use Rattle.room_search.specs.TryLaws.{placed-small}
use Rattle.room_search.specs.AlongLaws.{kept-same, kept_then}
use Rattle.room_search.specs.TakeAllLaws.{running_first, running_within, running_takeable, running_on, running_ended, running_none}
use Rattle.room_search.proofs.Work.take_all.Goals as goal

pub estimate-requires-clause-small_pos : goal.estimate-requires-clause-small_pos
estimate-requires-clause-small_pos c = placed-small _ c.args.field.now.fits.good _ c.requires.start-placed

pub estimate-requires-clause-small_pos_2 : goal.estimate-requires-clause-small_pos_2
estimate-requires-clause-small_pos_2 c = let F = c.args.field.now in placed-small _ F.fits.good _ F.fits.goal-placed

pub join-requires-clause-heap_in : goal.join-requires-clause-heap_in
join-requires-clause-heap_in c = rw c.requires.none-wait (heap_in_empty _ _)

pub join-requires-clause-holdable : goal.join-requires-clause-holdable
join-requires-clause-holdable c =
    let F = c.args.field.now in let B = c.requires in
    let P = placed-small _ F.fits.good _ B.start-placed in
    let Q = placed-small _ F.fits.good _ F.fits.goal-placed in
    record {
      key-most = omega (arith, c.estimate.ensures, P, Q);
      key_in_one = λ _. omega (arith, c.estimate.ensures, P, Q);
      serial-most = omega (arith, B.serial_zero);
      cell-most = omega (arith, B.start-placed.inside, F.fits.good.few);
    }

pub loop-self-init : goal.loop-self-init
loop-self-init c = record {
  kept = kept-same;
  running = running_first c.requires _ _ c.join.auto.queue c.estimate.ensures c.join.ensures refl refl refl;
}

pub take_one-requires-clause-takeable : goal.take_one-requires-clause-takeable
take_one-requires-clause-takeable c = running_takeable c.requires.start-placed.inside c.loop-self.invariant.running c.loop-self-test.true

pub take_one-requires-clause-expanded_le_limit : goal.take_one-requires-clause-expanded_le_limit
take_one-requires-clause-expanded_le_limit c = running_within c.requires.start-placed.inside c.loop-self.invariant.running

pub overflow_add-expanded : goal.overflow_add-expanded
overflow_add-expanded c = record {
  fits = omega (arith, running_within c.requires.start-placed.inside c.loop-self.invariant.running, c.args.field.now.fits.config-good.ranges.limit-most);
}

pub loop-self-smaller : goal.loop-self-smaller
loop-self-smaller c =
    let A = c.requires.start-placed.inside in let E = c.in-Continue.ensures in
    omega (arith, running_within A (running_on A c.loop-self.invariant.running E.kept.queue-long E.came))

pub loop-self-preserved : goal.loop-self-preserved
loop-self-preserved c =
    let A = c.requires.start-placed.inside in let E = c.in-Continue.ensures in
    record {
      kept = kept_then c.loop-self.invariant.kept E.kept;
      running = running_on A c.loop-self.invariant.running E.kept.queue-long E.came;
    }

pub returns-in-Break-clause-ran : goal.returns-in-Break-clause-ran
returns-in-Break-clause-ran c =
    record { told = rw c.join.auto.queue at (running_ended c.requires.start-placed.inside c.loop-self.invariant.running c.in-Break.ensures.came) }

pub returns-clause-ran : goal.returns-clause-ran
returns-clause-ran c =
    record { told = rw c.join.auto.queue at (running_none c.requires.start-placed.inside c.loop-self.invariant.running (omega (arith, c.loop-self-test.false))) }
