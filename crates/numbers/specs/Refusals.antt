-- The numbers that come back, each under its name. docs/RULES.md tells their details and the order in which they are judged.
-- Definitions alone.
use Rattle.std.specs.Prelude.{List, [], ◌∷◌, ℕ}
use Rattle.numbers.specs.declared.Refusal.{Refusal}
use Rattle.numbers.specs.declared.Refusal.TheVariants.{Sheet, Sides, Config, Position, Code, Buffer, Overlap, PortFacing, EndOutside, NotRouteable, NoRoute, LimitPassed, QueueFull, NoGoal, BranchesFull, NetsOverlap, TextShort, BadLine}

-- a route, a tree; of what is judged so far: no number is due
abbrev pub done_number : ℕ
done_number = 0

-- wrong length or version, a count past the end, bytes left over, over 16 sinks
abbrev pub sheet_number : ℕ
sheet_number = 1

-- a side or V
abbrev pub sides_number : ℕ
sides_number = 2

-- a cost or the node limit
abbrev pub config_number : ℕ
config_number = 3

-- a position outside the room; a search's end of V or more
abbrev pub position_number : ℕ
position_number = 4

-- an unknown code; Air in a block record
abbrev pub code_number : ℕ
code_number = 5

-- a search's kinds not V; a buffer under V; no place in the queue
abbrev pub buffer_number : ℕ
buffer_number = 6

-- two blocks in one cell
abbrev pub overlap_number : ℕ
overlap_number = 7

-- BlockPower without a horizontal facing
abbrev pub port_facing_number : ℕ
port_facing_number = 8

-- a terminal or approach outside the room
abbrev pub end_outside_number : ℕ
end_outside_number = 9

-- start, else goal, not routeable
abbrev pub not_routeable_number : ℕ
not_routeable_number = 10

-- no route
abbrev pub no_route_number : ℕ
no_route_number = 11

-- node limit passed
abbrev pub limit_passed_number : ℕ
limit_passed_number = 12

-- queue full
abbrev pub queue_full_number : ℕ
queue_full_number = 13

-- a sink has no route to any goal
abbrev pub no_goal_number : ℕ
no_goal_number = 14

-- branches, turn by turn, exceed their buffer
abbrev pub branches_full_number : ℕ
branches_full_number = 15

-- two nets of a list occupy one cell
abbrev pub nets_overlap_number : ℕ
nets_overlap_number = 16

-- a function file's text output is too short
abbrev pub text_short_number : ℕ
text_short_number = 18

-- a line of a function file that no export has there
abbrev pub bad_line_number : ℕ
bad_line_number = 19

-- all of them, in their order; 17, a repeater without direction, can't occur
abbrev pub all_numbers : List ℕ
all_numbers =
    done_number
    ∷ sheet_number
    ∷ sides_number
    ∷ config_number
    ∷ position_number
    ∷ code_number
    ∷ buffer_number
    ∷ overlap_number
    ∷ port_facing_number
    ∷ end_outside_number
    ∷ not_routeable_number
    ∷ no_route_number
    ∷ limit_passed_number
    ∷ queue_full_number
    ∷ no_goal_number
    ∷ branches_full_number
    ∷ nets_overlap_number
    ∷ text_short_number
    ∷ bad_line_number
    ∷ []

-- the number of a refusal
abbrev pub number_of : Refusal → ℕ
number_of Sheet = sheet_number
number_of Sides = sides_number
number_of Config = config_number
number_of Position = position_number
number_of Code = code_number
number_of Buffer = buffer_number
number_of Overlap = overlap_number
number_of PortFacing = port_facing_number
number_of EndOutside = end_outside_number
number_of NotRouteable = not_routeable_number
number_of NoRoute = no_route_number
number_of LimitPassed = limit_passed_number
number_of QueueFull = queue_full_number
number_of NoGoal = no_goal_number
number_of BranchesFull = branches_full_number
number_of NetsOverlap = nets_overlap_number
number_of TextShort = text_short_number
number_of BadLine = bad_line_number
