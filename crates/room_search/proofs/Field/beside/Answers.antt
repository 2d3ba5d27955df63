-- `Field::beside` meets its contract: the column is outside, or its level cell is in the room.
use Rattle.std.proofs.Common.{arith}
use Rattle.room.specs.RoomLaws.{between-below, between-above}
use Rattle.room_search.specs.TryLaws.{placed-small}
use Rattle.room_search.specs.AlongLaws.{column_out_x, column_out_z, beside-within, beside-aside}
use Rattle.room_search.proofs.Field.beside.Goals as goal
use Rattle.room_search.proofs.Field.beside.Goals.{then-x-lt1-via-then-x-lt1, then-x-lt1-via-else-x-lt1+then-self-x, then-x-lt1-via-else-x-lt1+else-self-x+then-z-lt1, then-x-lt1-via-else-x-lt1+else-self-x+else-z-lt1+then-self-z}

pub overflow_add-x : goal.overflow_add-x
overflow_add-x c = let w = placed-small _ c.args.self.now.fits.good _ c.requires.placed in record { fits = omega (arith, w.x_small, c.requires.x_bound.0) }

pub overflow_add-z : goal.overflow_add-z
overflow_add-z c = let w = placed-small _ c.args.self.now.fits.good _ c.requires.placed in record { fits = omega (arith, w.z_small, c.requires.x_bound.1) }

pub returns-then-x-lt1 : goal.returns-then-x-lt1
returns-then-x-lt1 c =
    elim c.then-x-lt1.branch [
      | then-x-lt1-via-then-x-lt1 w ↦ column_out_x _ _ c.args.m c.requires.placed (between-below _ _ _ w.if-x-lt1.true)
      | then-x-lt1-via-else-x-lt1+then-self-x w ↦ column_out_x _ _ c.args.m c.requires.placed (between-above 1 _ _ w.if-self-x.true)
      | then-x-lt1-via-else-x-lt1+else-self-x+then-z-lt1 w ↦ column_out_z _ _ c.args.m c.requires.placed (between-below _ _ _ w.if-z-lt1.true)
      | then-x-lt1-via-else-x-lt1+else-self-x+else-z-lt1+then-self-z w ↦ column_out_z _ _ c.args.m c.requires.placed (between-above 1 _ _ w.if-self-z.true)
    ]

pub cell-requires-clause-within : goal.cell-requires-clause-within
cell-requires-clause-within c =
    beside-within _ c.args.self.now.fits.good _ c.requires.placed c.args.m c.if-x-lt1.false c.if-self-x.false c.if-z-lt1.false c.if-self-z.false

pub returns : goal.returns
returns c =
    beside-aside _ c.args.self.now.fits.good _ c.requires.placed c.args.m c.if-x-lt1.false c.if-self-x.false c.if-z-lt1.false c.if-self-z.false _ c.cell.ensures
