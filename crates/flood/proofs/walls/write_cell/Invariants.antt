-- `write_cell` meets its contract. The loop's invariant: the bytes of the cells before and the first i of this one are written.
use native.Mathlib.Omega.{arith}
use mathlib.Core.Path.{◌≡◌, sym, ◌∙◌, ap}
use Prim.Native.Nat.{◌+◌, ◌-◌, ◌*◌, ◌≤◌}
use Rattle.room.specs.Room.{volume, moves}
use Rattle.room.specs.RoomLaws.{pos_in}
use Rattle.room.specs.MoveLaws.{move-small}
use Rattle.flood.specs.Walls.{reason_at, wall_at, byte_of, marked_in}
use Rattle.flood.specs.Flooding.{Written}
use Rattle.flood.specs.WallLaws.{place_is, place_in, wall_first, wall_next}
use borrow.Author.Rules.{rules}
use Rattle.flood.proofs.walls.write_cell.Given as goal

abbrev pub invariant-loop-i : goal.invariant-loop-i
invariant-loop-i l = Written (wall_at l.room (byte_of l.obstacles) (marked_in l.reached)) (12 * volume l.room) l.walls (12 * l.cell + l.i)
