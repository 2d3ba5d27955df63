-- What the contracts of the growing functions cite, and what their loop keeps.
use Rattle.std.specs.Prelude.{◌≡◌, Result, Ok, Err, List, ℕ, ◌+◌, ◌≤◌, ◌<◌, length, set}
use Rattle.numbers.specs.Refusals.{queue_full_number, no_goal_number, branches_full_number}
use Rattle.room.specs.Room.{volume}
use Rattle.ground.specs.declared.Ground.{Ground}
use Rattle.room_search.specs.TriedMoves.{places_of}
use Rattle.job_sheet.specs.Sheet.{max_sinks}
use Rattle.ends.specs.declared.Taps.{Taps}
use Rattle.goals.specs.Goals.{Site}
use Rattle.goals.specs.Trials.{Grounds, WorkMemory}
use Rattle.branches.specs.declared.BranchLengths.{BranchLengths}
use Rattle.multinet.specs.declared.Grown.{Grown}
use Rattle.multinet.specs.declared.Stopped.{Stopped}
use Rattle.multinet.specs.declared.Stop.{Stop}
use Rattle.multinet.specs.declared.Stop.TheVariants.{QueueFull, NoGoal, BufferFull}
use Rattle.multinet.specs.declared.Early.{Early}
use Rattle.routing_resources.specs.Marks.{Marks}
use Rattle.multinet.specs.Tree.{Plot, Growth, stopped, grow_sink, sink_now, source_marks}
use Rattle.multinet.specs.Growing.{SoundPlot, Growing}

-- marks that joinable and blocked cells may have, and work memory of exactly V cells, whatever it holds
pub record Findable (S : Site) (blocked classes known previous path best : List ℕ) (start : ℕ) : Type 0 where
  pub grounds : Grounds S blocked start
  pub memory : WorkMemory S.room known previous path
  pub classes-long : length classes ≡ volume S.room
  pub best-long : length best ≡ volume S.room

-- the plot, as the functions are handed it
abbrev pub plot_of : Ground → List ℕ → List ℕ → List ℕ → ℕ → Taps → Plot
plot_of under kinds queue branches source taps = record {
  room = under.room;
  config = under.config;
  mode = under.mode;
  run = under.run;
  kinds = kinds;
  places = places_of queue;
  buffer = length branches;
  source = source;
  taps = taps;
}

-- a tree that has come to this turn, and work memory of exactly V cells
pub record Turnable (P : Plot) (turn : ℕ) (L : BranchLengths) (joinable blocked classes known previous path best branches : List ℕ) : Type 0 where
  pub outset : List ℕ
  pub start-buffer : List ℕ
  pub sound : SoundPlot P
  pub growing : Growing P outset start-buffer turn joinable blocked branches L.each
  pub count-is : L.count ≡ P.taps.count
  pub turn_in_lem : turn < P.taps.count
  pub memory : WorkMemory P.room known previous path
  pub classes-long : length classes ≡ volume P.room
  pub best-long : length best ≡ volume P.room

-- the number that is due, with its detail
abbrev pub stop_number : Stop → ℕ
stop_number (QueueFull x) = queue_full_number
stop_number (NoGoal cell) = no_goal_number
stop_number (BufferFull place) = branches_full_number

abbrev pub stop_detail : Stop → ℕ
stop_detail (QueueFull x) = x.0
stop_detail (NoGoal cell) = cell
stop_detail (BufferFull place) = place

abbrev pub stopped_by : Stop → Growth
stopped_by stop = stopped (stop_number stop) (stop_detail stop)

-- the number that is due for the sink whose turn it is, the turns before having grown the tree that the slices hold
pub record StoppedEarly (P : Plot) (outset start-buffer each joinable blocked branches : List ℕ) (stop : Stop) (sink : ℕ) : Type 0 where
  pub turn : ℕ
  pub turn_in_lem : turn < P.taps.count
  pub sink-is : sink ≡ sink_now P turn
  pub growing : Growing P outset start-buffer turn joinable blocked branches each
  pub stops : grow_sink P sink growing.tree ≡ stopped_by stop

-- the next turn's tree, or the number that is due for the whole
abbrev pub Came : Plot → List ℕ → List ℕ → ℕ → List ℕ → List ℕ → List ℕ → List ℕ → Result Grown Stopped → Type 0
Came P outset start-buffer turn each joinable blocked branches (Ok g) =
    (g.sink < max_sinks) × Growing P outset start-buffer (turn + 1) joinable blocked branches (set each g.sink g.length)
Came P outset start-buffer turn each joinable blocked branches (Err s) = StoppedEarly P outset start-buffer each joinable blocked branches s.stop s.sink

pub record TurnCame (P : Plot) (turn : ℕ) (L : BranchLengths) (joinable blocked branches : List ℕ) (r : Result Grown Stopped) (joinable' blocked' branches' : List ℕ) : Type 0 where
  pub came : (outset start-buffer : List ℕ) → Growing P outset start-buffer turn joinable blocked branches L.each
      → Came P outset start-buffer turn L.each joinable' blocked' branches' r

-- the branches' lengths with that of one sink more
abbrev pub with_length : BranchLengths → ℕ → ℕ → BranchLengths
with_length L k n = record { count = L.count; each = set L.each k n }

-- the source terminal is joinable, these cells are blocked, and work memory has exactly V cells
pub record Plantable (P : Plot) (joinable blocked classes known previous path best : List ℕ) : Type 0 where
  pub sound : SoundPlot P
  pub joinable-is : joinable ≡ source_marks P.room P.source
  pub blocked-long : length blocked ≡ volume P.room
  pub blocked-marks : Marks blocked
  pub memory : WorkMemory P.room known previous path
  pub classes-long : length classes ≡ volume P.room
  pub best-long : length best ≡ volume P.room

-- every slice keeps its length
pub record Lasting (joinable₀ joinable blocked₀ blocked classes₀ classes known₀ known previous₀ previous path₀ path best₀ best queue₀ queue branches₀ branches : List ℕ) : Type 0 where
  pub joinable-long : length joinable ≡ length joinable₀
  pub blocked-long : length blocked ≡ length blocked₀
  pub classes-long : length classes ≡ length classes₀
  pub known-long : length known ≡ length known₀
  pub previous-long : length previous ≡ length previous₀
  pub path-long : length path ≡ length path₀
  pub best-long : length best ≡ length best₀
  pub queue_long : length queue ≡ length queue₀
  pub branches-long : length branches ≡ length branches₀

-- what the loop over the turns keeps
pub record Turning (P : Plot) (outset start-buffer : List ℕ) (turn : ℕ) (L : BranchLengths) (joinable blocked branches : List ℕ) : Type 0 where
  pub growing : Growing P outset start-buffer turn joinable blocked branches L.each
  pub count-is : L.count ≡ P.taps.count
  pub so_far : turn ≤ P.taps.count

-- the whole growth, as its answer tells it
abbrev pub EndTold : Plot → List ℕ → List ℕ → List ℕ → List ℕ → List ℕ → Result BranchLengths Early → Type 0
EndTold P outset start-buffer joinable blocked branches (Ok L) =
    (L.count ≡ P.taps.count) × Growing P outset start-buffer P.taps.count joinable blocked branches L.each
EndTold P outset start-buffer joinable blocked branches (Err e) = StoppedEarly P outset start-buffer e.lengths.each joinable blocked branches e.stop e.sink

pub record GrowthTold (P : Plot) (outset start-buffer : List ℕ) (r : Result BranchLengths Early) (joinable blocked branches : List ℕ) : Type 0 where
  pub told : EndTold P outset start-buffer joinable blocked branches r
