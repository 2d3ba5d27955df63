-- `visit` meets its contract. The loop's invariant: the cells that the first k moves lead to are met.
use native.Mathlib.Omega.{arith}
use Prim.Native.Nat.{◌-◌, ◌≤◌}
use mathlib.Core.Path.{◌≡◌, sym, ◌∙◌}
use Rattle.room.specs.Room.{moves}
use Rattle.room.specs.RoomLaws.{pos_in}
use Rattle.room.specs.MoveLaws.{move-small}
use Rattle.flood.specs.Walls.{byte_of}
use Rattle.flood.specs.Flooding.{Met, OpenBy}
use Rattle.flood.specs.WallLaws.{place_is, place_in}
use Rattle.flood.specs.FloodLaws.{visiting_none, visiting_next}
use borrow.Author.Rules.{rules}
use Rattle.flood.proofs.marks.visit.Given as goal

abbrev pub invariant-loop-m : goal.invariant-loop-m
invariant-loop-m l = Met (OpenBy l.room (byte_of l.obstacles) l.from l.m-index) l.initial.reached l.initial.line l.end l.reached l.line l.last
