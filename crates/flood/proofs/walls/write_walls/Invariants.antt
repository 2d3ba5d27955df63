-- `write_walls` meets its contract. The loop's invariant: the bytes of the cells before are written.
use native.Mathlib.Omega.{arith}
use mathlib.Core.Path.{sym, ◌∙◌}
use Prim.Native.Nat.{◌-◌, ◌*◌}
use borrow.Author.Tests.{lt-ltb, le-ltb}
use Rattle.basics.specs.Zeros.{zeros-long}
use Rattle.room.specs.Room.{volume}
use Rattle.flood.specs.Walls.{wall_at, byte_of, marked_in}
use Rattle.flood.specs.Flooding.{Written}
use Rattle.flood.specs.TableLaws.{written_none, written_all}
use Rattle.flood.specs.WallLaws.{wall_skip}
use borrow.Author.Rules.{rules}
use Rattle.flood.proofs.walls.write_walls.Given as goal

abbrev pub invariant-loop-cell : goal.invariant-loop-cell
invariant-loop-cell l = Written (wall_at l.room (byte_of l.obstacles) (marked_in l.reached)) (12 * volume l.room) l.walls (12 * l.cell)
