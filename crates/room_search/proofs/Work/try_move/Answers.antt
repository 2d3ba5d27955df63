-- `Work::try_move` meets its contract: the move leads to no cell that can be entered, or the cell is offered.
use Rattle.std.proofs.Common.{arith, sym, ◌∙◌}
use Rattle.room_search.specs.TryLaws.{placed-small, step-most, step-dearest, tried-no-step, tried-offered}
use Rattle.room_search.proofs.Work.try_move.Goals as goal

pub offer-requires-clause-offerable : goal.offer-requires-clause-offerable
offer-requires-clause-offerable c =
    let F = c.args.field.now in let A = c.requires.able in let T = c.in-Some.ensures in
    record {
      cell_in = omega (arith, T.there.inside, A.known-long);
      previous-long = A.previous-long ∙ sym A.known-long;
      few = omega (arith, A.known-long, F.fits.good.few);
      from_in = omega (arith, A.from-placed.inside, F.fits.good.few);
      cost-most = omega (arith, step-most T, A.cost-most);
      serial-most = A.serial-most;
      key_in_one = λ w. omega (arith, step-dearest T, A.key_in_one w);
      ready = A.ready;
    }

pub offer-requires-clause-small_pos : goal.offer-requires-clause-small_pos
offer-requires-clause-small_pos c = placed-small _ c.args.field.now.fits.good _ c.in-Some.ensures.there

pub offer-requires-clause-small_pos_2 : goal.offer-requires-clause-small_pos_2
offer-requires-clause-small_pos_2 c = let F = c.args.field.now in placed-small _ F.fits.good _ F.fits.goal-placed

pub returns-in-Some-clause-came : goal.returns-in-Some-clause-came
returns-in-Some-clause-came c = tried-offered _ _ _ _ c.in-Some.ensures c.offer.ensures.offered

pub returns-in-None-clause-came : goal.returns-in-None-clause-came
returns-in-None-clause-came c = tried-no-step _ _ _ _ c.requires.able.ready c.in-None.ensures
