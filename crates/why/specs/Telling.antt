-- What the contracts of the entry's parts cite.
use Rattle.std.specs.Prelude.{◌≡◌, Bool, List, ℕ, ◌*◌, ◌≤◌, ◌<◌, eqb, length, get_or, replicate, Ok, Err}
use Rattle.basics.specs.Tests.{either}
use Rattle.lent.specs.Lent.{output_after, filled}
use Rattle.room.specs.declared.Room.{Room}
use Rattle.room.specs.declared.RouterConfig.{RouterConfig}
use Rattle.room.specs.Room.{Good, volume}
use Rattle.room.specs.Units.{air}
use Rattle.room_search.specs.Routing.{routeable_kind, an_end}
use Rattle.routing.specs.Answers.{Answer}
use Rattle.routing.specs.declared.Unrouted.TheVariants.{Refused, NotRouteable, NoRoute, LimitPassed, QueueFull}
use Rattle.routing.specs.Answers.{task_in, number_of}
use Rattle.flood.specs.Walls.{allowed, tabled, marks_by, walls_by}
use Rattle.why.specs.declared.Outputs.{Outputs}
use Rattle.why.specs.declared.Outputs.TheVariants.{Kept, Told, Zero}
use Rattle.why.specs.Why.{taken, bad_support, obstacle_in, reached_for, walls_for}

-- an obstacle by the cell's class: what can't be entered is taken, or has a bad support
unfoldable pub obstacle_by : Bool → ℕ → ℕ → ℕ
obstacle_by isEnd kind class = either (eqb class 0) (either (routeable_kind isEnd kind) bad_support taken) allowed

-- the obstacles by the classes of all cells
abbrev pub obstacles_by : List ℕ → ℕ → ℕ → List ℕ → List ℕ
obstacles_by kinds start goal classes = tabled (length kinds) (λ v. obstacle_by (an_end start goal v) (get_or kinds v air) (get_or classes v 0))

-- each cell's obstacle
abbrev pub obstacles_in : Room → List ℕ → ℕ → ℕ → List ℕ
obstacles_in R kinds start goal = tabled (volume R) (obstacle_in R kinds start goal)

-- what an input has on number 11, and lent memory then
pub record Tellable (R : Room) (kinds : List ℕ) (start goal : ℕ) (path classes reached walls : List ℕ) : Type 0 where
  pub good : Good R
  pub kinds-long : length kinds ≡ volume R
  pub start_in : start < volume R
  pub goal_in : goal < volume R
  pub path-enough : volume R ≤ length path
  pub classes-enough : volume R ≤ length classes
  pub reached-enough : volume R ≤ length reached
  pub walls-enough : 12 * volume R ≤ length walls
  pub path_zero : path ≡ replicate (length path) 0
  pub classes_zero : classes ≡ replicate (length classes) 0

-- both outputs written, zeros behind them; the work memory zero as before
pub record WhyTold (R : Room) (kinds : List ℕ) (start goal : ℕ) (path classes reached walls path' classes' reached' walls' : List ℕ) : Type 0 where
  pub path-kept : path' ≡ path
  pub classes-kept : classes' ≡ classes
  pub reached-is : reached' ≡ filled (marks_by R (obstacle_in R kinds start goal) start) reached
  pub walls-is : walls' ≡ filled (walls_by R (obstacle_in R kinds start goal) start) walls

-- what becomes of the outputs
abbrev pub outputs_for : Answer → Outputs
outputs_for (Ok r) = Zero
outputs_for (Err (Refused why)) = Kept
outputs_for (Err (NotRouteable cell)) = Zero
outputs_for (Err (NoRoute x)) = Told
outputs_for (Err (LimitPassed x)) = Zero
outputs_for (Err (QueueFull x)) = Zero

-- the outputs that go with an answer, at any costs and places of the queue
pub record Explained (a : Answer) (R : Room) (kinds : List ℕ) (start goal : ℕ) (path classes reached walls path' classes' reached' walls' : List ℕ) : Type 0 where
  pub path-kept : path' ≡ path
  pub classes-kept : classes' ≡ classes
  pub reached-is : (C : RouterConfig) (places : ℕ) → reached' ≡ output_after (number_of a) (reached_for a (task_in R C kinds start goal places)) reached
  pub walls-is : (C : RouterConfig) (places : ℕ) → walls' ≡ output_after (number_of a) (walls_for a (task_in R C kinds start goal places)) walls
