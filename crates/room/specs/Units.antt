-- Kinds, facings with the cell ahead, port kinds, and the config with its ranges, as docs/RULES.md, The room, has them.
use Rattle.std.specs.Prelude.{Bool, ◌&&◌, ℕ, ◌+◌, ◌*◌, ◌≤◌, max, leb, eqb, Option, None}
use Rattle.basics.specs.Tests.{either}
use Rattle.room.specs.Room.{volume, between, by, neighbour}
use Rattle.room.specs.declared.Room.{Room}
use Rattle.room.specs.declared.Move.{Move}
use Rattle.room.specs.declared.RouterConfig.{RouterConfig}

-- "Kinds 0 to 12 follow the order of BlockKind". Those that a rule names:
abbrev pub air : ℕ
air = 0

abbrev pub solid : ℕ
solid = 1

abbrev pub transparent : ℕ
transparent = 2

abbrev pub redstone_wire : ℕ
redstone_wire = 3

abbrev pub redstone_torch : ℕ
redstone_torch = 4

abbrev pub repeater : ℕ
repeater = 5

abbrev pub lever : ℕ
lever = 7

abbrev pub redstone_block : ℕ
redstone_block = 11

abbrev pub max_kind : ℕ
max_kind = 12

-- number 5 is due where this is false
abbrev pub kind_known : ℕ → Bool
kind_known kind = leb kind max_kind

-- "Facing: 0 none, 1 North (z-1), 2 East (x+1), 3 South (z+1), 4 West (x-1), 5 Up, 6 Down."
abbrev pub max_facing : ℕ
max_facing = 6

-- number 5 is due where this is false
abbrev pub facing_known : ℕ → Bool
facing_known facing = leb facing max_facing

abbrev pub no_facing : ℕ
no_facing = 0

abbrev pub north : ℕ
north = 1

abbrev pub east : ℕ
east = 2

abbrev pub south : ℕ
south = 3

abbrev pub west : ℕ
west = 4

abbrev pub facing_horizontal : ℕ → Bool
facing_horizontal facing = between north facing west

-- the flat move of a horizontal facing; West's stands last and needs no test
unfoldable pub facing_move : ℕ → Move
facing_move facing =
    either (eqb facing north) (by 1 1 0) (either (eqb facing east) (by 2 1 1) (either (eqb facing south) (by 1 1 2) (by 0 1 1)))

-- cell n plus its facing: none unless that is horizontal and the cell in the room
unfoldable pub ahead : Room → ℕ → ℕ → Option ℕ
ahead R n facing = either (facing_horizontal facing) (neighbour R n (facing_move facing)) None

-- "Port kind: 0 Wire, 1 BlockPower."
abbrev pub wire : ℕ
wire = 0

abbrev pub max_port : ℕ
max_port = 1

-- number 5 is due where this is false
abbrev pub port_known : ℕ → Bool
port_known port = leb port max_port

-- "each cost is at most 1,000,000", the node limit at most 800,000
abbrev pub max_cost : ℕ
max_cost = 1000000

abbrev pub max_nodes : ℕ
max_nodes = 800000

-- "V times the sum of the support cost and the larger step cost is at most 3,300,000,000"
abbrev pub max_product : ℕ
max_product = 3300000000

-- that sum: the dearest step, with a new support
unfoldable pub dearest : RouterConfig → ℕ
dearest C = max C.horizontal.0 C.stair.0 + C.support.0

-- the single ranges: each number by itself, whatever the room
unfoldable pub ranges_good : RouterConfig → Bool
ranges_good C =
    leb C.limit.0 max_nodes && (leb C.horizontal.0 max_cost && (leb C.stair.0 max_cost && leb C.support.0 max_cost))

-- what number 3 judges: the single ranges, then the product
unfoldable pub config_good : Room → RouterConfig → Bool
config_good R C = ranges_good C && leb (volume R * dearest C) max_product

-- a config that number 3 does not refuse: its test, read as inequalities
pub record GoodRanges (C : RouterConfig) : Type 0 where
  pub limit-most : C.limit.0 ≤ max_nodes
  pub horizontal-most : C.horizontal.0 ≤ max_cost
  pub stair_most : C.stair.0 ≤ max_cost
  pub support_most : C.support.0 ≤ max_cost

pub record GoodConfig (R : Room) (C : RouterConfig) : Type 0 where
  pub ranges : GoodRanges C
  pub product_most : volume R * dearest C ≤ max_product

-- "Costs 10, 25, 15, node limit 30,000", DustRoute's default
abbrev pub usual_config : RouterConfig
usual_config = record { limit = record { 0 = 30000 }; horizontal = record { 0 = 10 }; stair = record { 0 = 25 }; support = record { 0 = 15 } }
