-- Where an end of a net meets the wire, as docs/RULES.md, The tree of one net, begins. An end is its position in the room, its port kind and
-- its facing. Definitions alone; their laws are in PortLaws.
use Rattle.std.specs.Prelude.{ℕ, eqb, Option, Some, None, ok_or, Result, Ok, Err}
use Rattle.basics.specs.Tests.{either}
use Rattle.room.specs.declared.Room.{Room}
use Rattle.room.specs.declared.Pos.{Pos}
use Rattle.room.specs.Room.{cell_of}
use Rattle.room.specs.Units.{wire, facing_horizontal, ahead}
use Rattle.port_realization.specs.declared.EndFault.{EndFault}
use Rattle.port_realization.specs.declared.Realized.{Realized}

-- the cell as a terminal; number 9 is due where it is outside
abbrev pub terminal_at : Option ℕ → Result ℕ EndFault
terminal_at n = ok_or n EndFault.Outside

-- "Wire: terminal = position. BlockPower: position plus its facing, which must be horizontal": number 8 is due where it is not
unfoldable pub terminal_of : Room → Pos → ℕ → ℕ → Result ℕ EndFault
terminal_of R p port facing =
    either (eqb port wire) (Ok (cell_of R p))
    (either (facing_horizontal facing) (terminal_at (ahead R (cell_of R p) facing)) (Err EndFault.NoFacing))

-- "Approach: terminal plus a horizontal facing, else the terminal itself."
unfoldable pub approach_of : Room → ℕ → ℕ → Option ℕ
approach_of R terminal facing = either (facing_horizontal facing) (ahead R terminal facing) (Some terminal)

-- a terminal with its approach; number 9 is due where that is outside
abbrev pub approached : ℕ → Option ℕ → Result Realized EndFault
approached terminal (Some approach) = Ok (record { terminal = terminal; approach = approach })
approached terminal None = Err EndFault.Outside

-- a sink's terminal and approach. A source has its terminal alone
abbrev pub realized_as : Room → ℕ → Result ℕ EndFault → Result Realized EndFault
realized_as R facing (Ok terminal) = approached terminal (approach_of R terminal facing)
realized_as R facing (Err fault) = Err fault

unfoldable pub realized_of : Room → Pos → ℕ → ℕ → Result Realized EndFault
realized_of R p port facing = realized_as R facing (terminal_of R p port facing)
