-- `flood` meets its contract. The loop's invariant: each cell marked is reached, and the moves of the cells visited lead to cells marked.
use native.Mathlib.Omega.{arith}
use mathlib.Core.Path.{sym, ◌∙◌}
use Prim.Native.Nat.{◌-◌}
use Rattle.basics.specs.Zeros.{zeros-long}
use Rattle.room.specs.Room.{volume}
use Rattle.flood.specs.Walls.{free_by}
use Rattle.flood.specs.Flooding.{Flooding}
use Rattle.flood.specs.Walls.{byte_of}
use Rattle.flood.specs.FloodLaws.{flooding_first, flooding_most, flooding_in, flooding_next, flooding_all, flood_marks}
use borrow.Author.Rules.{rules}
use Rattle.flood.proofs.marks.flood.Goals as goal

pub bounds-reached-start : goal.bounds-reached-start
bounds-reached-start c = rw (zeros-long {n = volume c.args.room} c.requires.reached_value) c.requires.start_bound

pub overflow_cast-line : goal.overflow_cast-line
overflow_cast-line c = record { fits = omega (arith, c.requires.good.few, c.requires.start_bound) }

pub bounds-line-0 : goal.bounds-line-0
bounds-line-0 c = omega (arith, c.requires.start_bound, c.requires.line_len)

pub loop-head-init : goal.loop-head-init
loop-head-init c = rw c.requires.reached_value (flooding_first c.args.room (byte_of c.args.obstacles.now) c.args.start (volume c.args.room) c.args.line.now c.requires.start_bound c.requires.line_len)

pub offset_bounds-line-head : goal.offset_bounds-line-head
offset_bounds-line-head c = let a = c.args in record { fits = omega (arith, flooding_most a.room (byte_of a.obstacles.now) a.start c.loop-head.invariant, c.loop-head-test.true, c.requires.good.few) }

pub bounds-line-head : goal.bounds-line-head
bounds-line-head c = let a = c.args in omega (arith, flooding_most a.room (byte_of a.obstacles.now) a.start c.loop-head.invariant, c.loop-head-test.true, c.loop-head.invariant.held.line-long, c.loop-head.invariant.long)

pub overflow_add-head : goal.overflow_add-head
overflow_add-head c = let a = c.args in record { fits = omega (arith, flooding_most a.room (byte_of a.obstacles.now) a.start c.loop-head.invariant, c.loop-head-test.true, c.requires.good.few) }

pub visit-end-requires-clause-good : goal.visit-end-requires-clause-good
visit-end-requires-clause-good c = let a = c.args in let I = c.loop-head.invariant in c.requires.good

pub visit-end-requires-clause-obstacles_len : goal.visit-end-requires-clause-obstacles_len
visit-end-requires-clause-obstacles_len c = let a = c.args in let I = c.loop-head.invariant in c.requires.obstacles_len

pub visit-end-requires-clause-reached_len : goal.visit-end-requires-clause-reached_len
visit-end-requires-clause-reached_len c = let a = c.args in let I = c.loop-head.invariant in I.long

pub visit-end-requires-clause-held : goal.visit-end-requires-clause-held
visit-end-requires-clause-held c = let a = c.args in let I = c.loop-head.invariant in I.held

pub visit-end-requires-clause-from_bound : goal.visit-end-requires-clause-from_bound
visit-end-requires-clause-from_bound c = let a = c.args in let I = c.loop-head.invariant in flooding_in a.room (byte_of a.obstacles.now) a.start I c.loop-head-test.true _ c.as_index-cell.ensures.0

pub loop-head-smaller : goal.loop-head-smaller
loop-head-smaller c = let a = c.args in omega (arith, flooding_most a.room (byte_of a.obstacles.now) a.start c.loop-head.invariant, c.loop-head-test.true)

pub loop-head-preserved : goal.loop-head-preserved
loop-head-preserved c = let a = c.args in flooding_next a.room (byte_of a.obstacles.now) a.start c.loop-head.invariant c.loop-head-test.true _ c.as_index-cell.ensures.0 c.visit-end.ensures

pub returns : goal.returns
returns c = let a = c.args in flood_marks a.room (byte_of a.obstacles.now) a.start c.requires.start_bound (flooding_all a.room (byte_of a.obstacles.now) a.start c.loop-head.invariant c.loop-head-test.false)
