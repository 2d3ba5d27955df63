-- "Why wasn't it reached?" Which cells lawful steps lead to, and what stands against each move out of them; then the answer of `why_no_route` and every byte of
-- lent memory. Each input determines all of it. Definitions alone.
use Rattle.std.specs.Prelude.{◌≡◌, Bool, not, ◌&&◌, List, [], ℕ, ◌*◌, leb, eqb, length, get_or, Ok, Err}
use Rattle.basics.specs.Tests.{either}
use Rattle.lent.specs.Lent.{output_after, work_after}
use Rattle.room.specs.declared.Room.{Room}
use Rattle.room.specs.declared.RouterConfig.{RouterConfig}
use Rattle.room.specs.Room.{sides_good, volume, beneath}
use Rattle.room.specs.Units.{config_good, air}
use Rattle.room_search.specs.Routing.{Task, kind_at, routeable_kind, an_end, bearing}
use Rattle.routing.specs.Answers.{Answer}
use Rattle.routing.specs.declared.Unrouted.TheVariants.{Refused, NotRouteable, NoRoute, LimitPassed, QueueFull}
use Rattle.routing.specs.declared.Refusal.TheVariants.{Buffer}
use Rattle.routing.specs.Answers.{Input, task_of, answer_of, number_of, cells_for}
use Rattle.flood.specs.Walls.{allowed, reason_by, reached_by, marks_by, walls_by}

-- ---- what stands against entering a cell: "2 taken, or 3 bad support", of both the least

abbrev pub taken : ℕ
taken = 2

abbrev pub bad_support : ℕ
bad_support = 3

-- it is taken where it isn't routeable; it has a bad support where it is, and what is beneath it bears nothing
unfoldable pub obstacle_for : Bool → ℕ → ℕ → ℕ
obstacle_for isEnd kind below = either (routeable_kind isEnd kind) (either (eqb (bearing below) 0) bad_support allowed) taken

-- of a cell, by its kind and what stands beneath it
abbrev pub obstacle_in : Room → List ℕ → ℕ → ℕ → ℕ → ℕ
obstacle_in R kinds start goal v = obstacle_for (an_end start goal v) (get_or kinds v air) (kind_at kinds (beneath R v))

-- ---- of a task

abbrev pub obstacle_of : Task → ℕ → ℕ
obstacle_of T = obstacle_in T.room T.kinds T.start T.goal

-- against the move i out of cell u: one of those, or 1 where it leads outside
abbrev pub reason_of : Task → ℕ → ℕ → ℕ
reason_of T = reason_by T.room (obstacle_of T)

-- moves against which nothing stands lead from the start to the cell
abbrev pub is_reached_of : Task → ℕ → Bool
is_reached_of T = reached_by T.room (obstacle_of T) T.start

-- V bytes, one a cell; and 12V bytes, one a move
abbrev pub reached_of : Task → List ℕ
reached_of T = marks_by T.room (obstacle_of T) T.start

abbrev pub walls_of : Task → List ℕ
walls_of T = walls_by T.room (obstacle_of T) T.start

-- ---- the answer

-- "6 also where either output is too short": `reached` under V, or `walls` under 12V
unfoldable pub outputs_good : Room → ℕ → ℕ → Bool
outputs_good R reached walls = leb (volume R) reached && leb (12 * volume R) walls

-- that is due at 6's place: 2 and 3 are judged before it
unfoldable pub outputs_refused : Room → RouterConfig → ℕ → ℕ → Bool
outputs_refused R C reached walls = sides_good R && (config_good R C && not (outputs_good R reached walls))

-- else the answer is the search's, which judges 2, 3, 6, 5, 4, 10
unfoldable pub why_answer : Input → ℕ → ℕ → Answer
why_answer I reached walls = either (outputs_refused I.room I.config reached walls) (Err (Refused Buffer)) (answer_of I)

-- what an answer writes to the two outputs: on 11 the marks and the walls, on any other number nothing
abbrev pub reached_for : Answer → Task → List ℕ
reached_for (Ok r) T = []
reached_for (Err (Refused why)) T = []
reached_for (Err (NotRouteable cell)) T = []
reached_for (Err (NoRoute x)) T = reached_of T
reached_for (Err (LimitPassed x)) T = []
reached_for (Err (QueueFull x)) T = []

abbrev pub walls_for : Answer → Task → List ℕ
walls_for (Ok r) T = []
walls_for (Err (Refused why)) T = []
walls_for (Err (NotRouteable cell)) T = []
walls_for (Err (NoRoute x)) T = walls_of T
walls_for (Err (LimitPassed x)) T = []
walls_for (Err (QueueFull x)) T = []

-- ---- the lent memory

pub record Memory : Type 0 where
  pub path : List ℕ
  pub known : List ℕ
  pub previous : List ℕ
  pub classes : List ℕ
  pub queue : List ℕ
  pub reached : List ℕ
  pub walls : List ℕ

-- what it holds after an answer
pub record MemoryAfter (a : Answer) (I : Input) (M M' : Memory) : Type 0 where
  pub path-is : M'.path ≡ output_after (number_of a) (cells_for a I) M.path
  pub known_is : M'.known ≡ work_after (number_of a) M.known
  pub previous-is : M'.previous ≡ work_after (number_of a) M.previous
  pub classes-is : M'.classes ≡ work_after (number_of a) M.classes
  pub queue-is : M'.queue ≡ work_after (number_of a) M.queue
  pub reached-is : M'.reached ≡ output_after (number_of a) (reached_for a (task_of I)) M.reached
  pub walls-is : M'.walls ≡ output_after (number_of a) (walls_for a (task_of I)) M.walls

-- the answer that an input and the lengths of the two outputs determine
abbrev pub answer_in : Input → Memory → Answer
answer_in I M = why_answer I (length M.reached) (length M.walls)

-- the promise of `why_no_route`
pub record Promise (I : Input) (M : Memory) (r : Answer) (M' : Memory) : Type 0 where
  pub answer : r ≡ answer_in I M
  pub memory : MemoryAfter (answer_in I M) I M M'

-- the lent memory as one value
abbrev pub memory : List ℕ → List ℕ → List ℕ → List ℕ → List ℕ → List ℕ → List ℕ → Memory
memory path known previous classes queue reached walls = record {
  path = path;
  known = known;
  previous = previous;
  classes = classes;
  queue = queue;
  reached = reached;
  walls = walls;
}
