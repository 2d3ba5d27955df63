-- `cell_repeats` meets its contract, over marks that are all clear.
use mathlib.Core.Path.{refl}
use native.Mathlib.Omega.{arith}
use Rattle.job_list.proofs.ground.cell_repeats.Goals as goal

pub marked_twice-requires-clause-good : goal.marked_twice-requires-clause-good
marked_twice-requires-clause-good c = c.requires.good

pub marked_twice-requires-clause-block_list : goal.marked_twice-requires-clause-block_list
marked_twice-requires-clause-block_list c = c.requires.block_list

pub marked_twice-requires-clause-room_in_bounds : goal.marked_twice-requires-clause-room_in_bounds
marked_twice-requires-clause-room_in_bounds c = omega (arith, c.requires.good.few)

pub marked_twice-requires-clause-seen_value : goal.marked_twice-requires-clause-seen_value
marked_twice-requires-clause-seen_value c = refl

pub returns : goal.returns
returns c = c.marked_twice.ensures
