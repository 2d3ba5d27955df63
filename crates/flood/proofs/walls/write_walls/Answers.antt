-- `write_walls` meets its contract. The loop's invariant: the bytes of the cells before are written.
use native.Mathlib.Omega.{arith}
use mathlib.Core.Path.{sym, ◌∙◌}
use Prim.Native.Nat.{◌-◌, ◌*◌}
use borrow.Author.Tests.{lt-ltb, le-ltb}
use Rattle.basics.specs.Zeros.{zeros-long}
use Rattle.room.specs.Room.{volume}
use Rattle.flood.specs.Walls.{wall_at, byte_of, marked_in}
use Rattle.flood.specs.Flooding.{Written}
use Rattle.flood.specs.TableLaws.{written_none, written_all}
use Rattle.flood.specs.WallLaws.{wall_skip}
use borrow.Author.Rules.{rules}
use Rattle.flood.proofs.walls.write_walls.Goals as goal

pub returns : goal.returns
returns c = written_all _ c.loop-cell.invariant (omega (arith, c.requires.reached_len, c.loop-cell-test.false))
