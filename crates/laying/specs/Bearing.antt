-- The tests of a support and of an owner, one by one, as the code makes them.
use Rattle.std.specs.Prelude.{Bool, not, ◌&&◌, ℕ, eqb}
use Rattle.room.specs.declared.Room.{Room}
use Rattle.room.specs.Room.{pos_of}
use Rattle.ends.specs.declared.Tap.{Tap}

-- the cell lies higher or lower than this level
abbrev pub off_level : Room → ℕ → ℕ → Bool
off_level R level u = not (eqb (pos_of R u).y level)

-- the sink is a BlockPower one, and the cell its terminal
abbrev pub powers : ℕ → Tap → Bool
powers v tap = not tap.wire && eqb tap.terminal v

-- the net occupies the cell, and a lower net owns it
abbrev pub meets : ℕ → ℕ → Bool
meets occupied owner = eqb occupied 1 && not (eqb owner 0)
