-- `Field::step` meets its contract: the move leads out of the room, or into a cell that can't be entered, or to a cell at its price.
use Rattle.std.proofs.Common.{arith, ap, ◌+◌, ◌-◌, ◌*◌, get_or}
use Rattle.room.specs.RoomLaws.{between-below, between-above}
use Rattle.room.specs.UnitLaws.{dearest-most}
use Rattle.room_search.specs.Routing.{total}
use Rattle.room_search.specs.GraphLaws.{price-low}
use Rattle.room_search.specs.TryLaws.{out-level, landed, placed-small, rise-few}
use Rattle.room_search.specs.TriedMoves.{out, shut}
use Rattle.room_search.proofs.Field.step.Goals as goal
use Rattle.room_search.proofs.Field.step.Goals.{then-y-lt1-via-then-y-lt1, then-y-lt1-via-else-y-lt1+then-self-y}

pub overflow_add-y : goal.overflow_add-y
overflow_add-y c =
    let w = placed-small _ c.args.self.now.fits.good _ c.requires.aside.there in
    record { fits = omega (arith, w.y_small, c.requires.from_fits.2) }

pub returns-then-y-lt1 : goal.returns-then-y-lt1
returns-then-y-lt1 c =
    let F = c.args.self.now in let P = c.requires.from_fits.0 in let q = c.requires.aside in
    elim c.then-y-lt1.branch [
      | then-y-lt1-via-then-y-lt1 w ↦ out (out-level F.room F.fits.good _ _ _ P q (between-below _ _ _ w.if-y-lt1.true))
      | then-y-lt1-via-else-y-lt1+then-self-y w ↦ out (out-level F.room F.fits.good _ _ _ P q (between-above 1 _ _ w.if-self-y.true))
    ]

pub overflow_mul-cell : goal.overflow_mul-cell
overflow_mul-cell c = record { fits = omega (arith, rise-few _ c.args.self.now.fits.good c.args.m.y c.requires.from_fits.2) }

pub overflow_add-cell : goal.overflow_add-cell
overflow_add-cell c =
    let F = c.args.self.now in
    record { fits = omega (arith, rise-few _ F.fits.good c.args.m.y c.requires.from_fits.2, c.requires.aside.there.inside, F.fits.good.few) }

pub overflow_sub-cell : goal.overflow_sub-cell
overflow_sub-cell c =
    let F = c.args.self.now in
    let L = landed F.room F.fits.good _ _ _ c.requires.from_fits.0 c.requires.aside c.if-y-lt1.false c.if-self-y.false in L.enough

pub bounds-self-cell : goal.bounds-self-cell
bounds-self-cell c =
    let F = c.args.self.now in
    let L = landed F.room F.fits.good _ _ _ c.requires.from_fits.0 c.requires.aside c.if-y-lt1.false c.if-self-y.false in omega (arith, L.inside, F.fits.classes-long)

pub returns-then-class-eq-SHUT : goal.returns-then-class-eq-SHUT
returns-then-class-eq-SHUT c =
    let F = c.args.self.now in
    let L = landed F.room F.fits.good _ _ _ c.requires.from_fits.0 c.requires.aside c.if-y-lt1.false c.if-self-y.false in shut _ L.leads c.if-class-eq-SHUT.true

pub overflow_add-result : goal.overflow_add-result
overflow_add-result c =
    let F = c.args.self.now in
    record {
      fits = omega (arith, ap total c.price-paid.ensures, price-low F.config c.args.m (get_or F.classes.now (c.args.beside.cell + c.args.m.y * F.room.deep - F.room.deep) 0), dearest-most F.fits.config-good.ranges);
    }

pub overflow_add-result-2 : goal.overflow_add-result-2
overflow_add-result-2 c =
    let F = c.args.self.now in
    record {
      fits = omega (arith, ap total c.price-paid.ensures, price-low F.config c.args.m (get_or F.classes.now (c.args.beside.cell + c.args.m.y * F.room.deep - F.room.deep) 0), dearest-most F.fits.config-good.ranges, c.requires.from_fits.1);
    }

pub returns : goal.returns
returns c =
    let F = c.args.self.now in
    let L = landed F.room F.fits.good _ _ _ c.requires.from_fits.0 c.requires.aside c.if-y-lt1.false c.if-self-y.false in
    record {
      leads = L.leads;
      enterable = c.if-class-eq-SHUT.false;
      costs = ap (λ p. c.args.from.cost.0 + total p) c.price-paid.ensures;
      there = record { inside = L.inside; is = L.place };
    }
