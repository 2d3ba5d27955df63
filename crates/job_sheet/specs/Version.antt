-- What a sheet's version means: its number, how many bytes a coordinate takes, whether limits are carried, the ranges that its job is judged at; and
-- what follows of it for the sheet's bytes: the sizes of its records, and where its head ends. Definitions alone; their laws are in VersionLaws.
use Rattle.std.specs.Prelude.{Bool, true, false, ◌&&◌, List, ℕ, ◌+◌, ◌*◌, ◌≤◌, leb, eqb, get_or}
use Rattle.basics.specs.Tests.{either}
use Rattle.room.specs.declared.Room.{Room}
use Rattle.room.specs.declared.RouterConfig.{RouterConfig}
use Rattle.room.specs.Room.{max_side, max_volume, volume, between}
use Rattle.room.specs.Units.{config_good}
use Rattle.job_sheet.specs.declared.Version.{Version}
use Rattle.job_sheet.specs.declared.Ranges.{Ranges}

-- ---- the versions

-- "sides 1 to 64", at most 16,384 cells, "each cost 0 to 100,000, the node limit 0 to 200,000"
abbrev pub first_ranges : Ranges
first_ranges = record { side = 64; cells = 16384; nodes = 200000; cost = 100000 }

-- "version byte 1", coordinates of one byte
abbrev pub version_one : Version
version_one = record { number = 1; long = false; limits = false; ranges = first_ranges }

-- "a run limit, and a tail limit in each sink record: sheet version 2"
abbrev pub version_two : Version
version_two = record { number = 2; long = false; limits = true; ranges = first_ranges }

-- "sides rise to 300, V to 65,536, the node limit to 800,000", "each cost is at most 1,000,000"
abbrev pub hall_ranges : Ranges
hall_ranges = record { side = 300; cells = 65536; nodes = 800000; cost = 1000000 }

-- "version 2 with two-byte sides and coordinates everywhere"
abbrev pub version_three : Version
version_three = record { number = 3; long = true; limits = true; ranges = hall_ranges }

-- What a first byte stands for. A byte that is no version's number is taken for version 1, whose number it isn't: such a sheet means nothing
unfoldable pub version_of : ℕ → Version
version_of first = either (eqb first 3) version_three (either (eqb first 2) version_two version_one)

abbrev pub version_in : List ℕ → Version
version_in sheet = version_of (get_or sheet 0 0)

-- ---- the sizes of its records

-- the bytes of a coordinate: two where it is long
abbrev pub width : Bool → ℕ
width false = 1
width true = 2

-- "x, y, z", and "X, Y, Z"
abbrev pub position_size : Bool → ℕ
position_size long = 3 * width long

-- "node two bytes, x, y, z, kind, facing"
abbrev pub block_size : Bool → ℕ
block_size long = 4 + position_size long

-- the source: "x, y, z, port kind, facing"
abbrev pub endpoint_size : Bool → ℕ
endpoint_size long = position_size long + 2

-- a limit: "one byte each", where limits are carried
abbrev pub limit_size : Bool → ℕ
limit_size false = 0
limit_size true = 1

-- "sinks as the source", "the tail limit follows the sink's facing"
abbrev pub sink_size : Version → ℕ
sink_size v = endpoint_size v.long + limit_size v.limits

-- the most bytes that a record takes
abbrev pub most_size : ℕ
most_size = 16

-- ---- where the sides, the config, the run limit and the first list begin

-- behind the version's byte and the length of the rest
abbrev pub sides_place : ℕ
sides_place = 5

abbrev pub config_place : Version → ℕ
config_place v = sides_place + position_size v.long

-- "node limit, horizontal, stair, support cost (four bytes each)"
abbrev pub config_size : ℕ
config_size = 16

-- "the run limit follows the support cost"
abbrev pub run_place : Version → ℕ
run_place v = config_place v + config_size

abbrev pub lists_place : Version → ℕ
lists_place v = run_place v + limit_size v.limits

-- ---- the ranges that its job is judged at

-- what number 2 judges: each side is from 1 to the longest, the cells are not too many
unfoldable pub sides_within : Ranges → Room → Bool
sides_within g R =
    between 1 R.wide g.side && (between 1 R.high g.side && (between 1 R.deep g.side && leb (volume R) g.cells))

-- a limit: "1 to 15", in every version
abbrev pub most_limit : ℕ
most_limit = 15

unfoldable pub limit_within : ℕ → Bool
limit_within n = between 1 n most_limit

-- the ranges of the config's numbers, each by itself
unfoldable pub costs_within : Ranges → RouterConfig → Bool
costs_within g C =
    leb C.limit.0 g.nodes && (leb C.horizontal.0 g.cost && (leb C.stair.0 g.cost && leb C.support.0 g.cost))

-- what number 3 judges of the config: its version's ranges, and, as for a search, the product of the room's cells and the dearest step. Of versions 1 and 2
-- the product refuses nothing (`IsFirst-passes`)
unfoldable pub config_within : Ranges → Room → RouterConfig → Bool
config_within g R C = costs_within g C && config_good R C

-- sides and config are within a version's ranges, each number by itself
abbrev pub fits_ranges : Ranges → Room → RouterConfig → Bool
fits_ranges g R C = sides_within g R && costs_within g C

-- sides within those of the search: a room that is judged good at them can be searched
pub record Searchable (g : Ranges) : Type 0 where
  pub side_most : g.side ≤ max_side
  pub cells-most : g.cells ≤ max_volume
